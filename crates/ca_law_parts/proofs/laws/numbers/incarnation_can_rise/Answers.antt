use Rattle.std.proofs.Common.{arith}
use Rattle.ca_law_parts.proofs.Numbers.LimitLemmas.{slot-incarnation, there-within}
use Rattle.ca_law_parts.proofs.laws.numbers.incarnation_can_rise.Goals as goal

pub returns-clause-slot : goal.returns-clause-slot
returns-clause-slot c = slot-incarnation

pub returns-clause-queue_pair : goal.returns-clause-queue_pair
returns-clause-queue_pair c = λ n w name q few within is. omega (arith, (there-within n w name q within is).incarnation, few)
