use Rattle.std.proofs.Common.{arith}
use Rattle.std.proofs.lemmas.Grind.{common_steps}
use Rattle.ca_responder_answers.proofs.read_left.response_ask.Goals as goal

pub returns-clause-value : goal.returns-clause-value
returns-clause-value c = grind (arith, common_steps)

pub returns-clause-packet : goal.returns-clause-packet
returns-clause-packet c = grind (arith, common_steps)
