use Rattle.std.proofs.Common.{arith}
use Rattle.std.proofs.lemmas.Grind.{common_steps}
use Rattle.ca_saved.proofs.saved.Saved.find.Goals as goal

pub returns-then-result-psn : goal.returns-then-result-psn
returns-then-result-psn c = grind (arith, common_steps)
