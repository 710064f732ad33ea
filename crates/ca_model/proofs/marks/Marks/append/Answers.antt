use Rattle.std.proofs.Common.{arith}
use Rattle.std.proofs.lemmas.Grind.{common_steps}
use Rattle.ca_model.proofs.marks.Marks.append.Goals as goal

pub returns-clause-marks : goal.returns-clause-marks
returns-clause-marks c = grind (arith, common_steps)
