use Rattle.std.proofs.Common.{arith}
use Rattle.std.proofs.lemmas.Grind.{common_steps}
use Rattle.ca_model.proofs.answer.RefusalFromModifyRefusal.from.Goals as goal

pub returns-in-OutOfRange : goal.returns-in-OutOfRange
returns-in-OutOfRange c = grind (arith, common_steps)
