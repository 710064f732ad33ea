use Rattle.std.proofs.Common.{arith}
use Rattle.std.proofs.lemmas.Grind.{common_steps}
use Rattle.ca_model.proofs.answer.RefusalFromRegionError.from.Goals as goal

pub returns-in-Empty : goal.returns-in-Empty
returns-in-Empty c = grind (arith, common_steps)
