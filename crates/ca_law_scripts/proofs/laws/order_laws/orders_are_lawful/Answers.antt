use Rattle.ca_law_scripts.proofs.OrderLaws.LawfulLemmas.{order-lawful}
use Rattle.ca_law_scripts.proofs.laws.order_laws.orders_are_lawful.Goals as goal

pub returns : goal.returns
returns c = order-lawful
