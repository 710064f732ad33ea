use Rattle.std.proofs.Common.{arith}
use Rattle.ca_law_parts.proofs.laws.numbers.users_can_rise.Goals as goal
use Rattle.ca_model.specs.machine.World.{Domain_of, Srq_of}

pub returns-clause-objects : goal.returns-clause-objects
returns-clause-objects c = λ n w d few within. omega (arith, within (Domain_of d), few)

pub returns-clause-users : goal.returns-clause-users
returns-clause-users c = λ n w s few within. omega (arith, (within (Srq_of s)).0, few)
