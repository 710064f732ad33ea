use Rattle.std.proofs.Common.{arith}
use Rattle.std.proofs.lemmas.Grind.{common_steps}
use Rattle.ca_responder_operations.proofs.target.write_ask.Goals as goal

pub returns : goal.returns
returns c = grind (arith, common_steps)
