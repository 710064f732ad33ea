use Rattle.ca_law_lossless.proofs.AnswerRows.{respond-calmly}
use Rattle.ca_law_lossless.proofs.laws.standing.turns_answer_calmly.Goals as goal

pub returns : goal.returns
returns c = respond-calmly
