use Rattle.ca_law_keys.proofs.Judged.JudgeEventLemmas.{judged-along}
use Rattle.ca_law_keys.proofs.laws.judged.machine_is_judged.Goals as goal

pub returns : goal.returns
returns c = judged-along
