use Rattle.std.proofs.Common.{arith}
use Rattle.ca_law_parts.proofs.Numbers.LimitLemmas.{there-within}
use Rattle.ca_law_parts.proofs.laws.numbers.bound_windows_can_rise.Goals as goal
use Rattle.ca_model.specs.machine.World.{Region_of}

pub returns-clause-region : goal.returns-clause-region
returns-clause-region c = λ n w s few within. omega (arith, within (Region_of s), few)

pub returns-clause-queue_pair : goal.returns-clause-queue_pair
returns-clause-queue_pair c = λ n w name q few within is. omega (arith, (there-within n w name q within is).windows, few)
