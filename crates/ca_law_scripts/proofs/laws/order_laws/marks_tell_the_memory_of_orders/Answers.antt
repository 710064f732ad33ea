use Rattle.ca_law_scripts.proofs.OrderLaws.MemoryLemmas.{order-memory}
use Rattle.ca_law_scripts.proofs.laws.order_laws.marks_tell_the_memory_of_orders.Goals as goal

pub returns : goal.returns
returns c = order-memory
