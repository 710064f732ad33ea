use Rattle.std.proofs.Common.{arith}
use Rattle.ca_law_parts.proofs.Numbers.LimitLemmas.{lent-countable}
use Rattle.ca_law_parts.proofs.laws.numbers.mailbox_can_count.Goals as goal
use Rattle.ca_model.specs.machine.World.{Mailbox_of}

pub returns-clause-next : goal.returns-clause-next
returns-clause-next c = λ n w name few within. omega (arith, (within (Mailbox_of name)).0, few)

pub returns-clause-deliveries : goal.returns-clause-deliveries
returns-clause-deliveries c = λ n w name index bytes few within lent. lent-countable n index (w.mailbox name) bytes few (within (Mailbox_of name)).1 lent
