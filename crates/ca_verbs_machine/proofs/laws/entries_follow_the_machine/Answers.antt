use Rattle.std.proofs.Common.{[], arith}
use Rattle.ca_base.specs.Configuration.{configuration_in}
use Rattle.ca_verbs_machine.specs.Steps.{runs-marks, up-follows, up-none, up-world}
use Rattle.ca_keys.specs.Memory.{zeros}
use Rattle.ca_model.specs.machine.World.{opening_world}
use Rattle.ca_verbs_machine.proofs.laws.entries_follow_the_machine.Goals as goal

pub returns-clause-up : goal.returns-clause-up
returns-clause-up c = λ key log limited follows few. up-follows key [] log (up-none (configuration_in key) limited) follows (omega (arith, few))

pub returns-clause-run : goal.returns-clause-run
returns-clause-run c = λ key log up. runs-marks (configuration_in key) 0 (opening_world zeros) log up.runs

pub returns-clause-world : goal.returns-clause-world
returns-clause-world c = λ key log up. up-world (configuration_in key) log up
