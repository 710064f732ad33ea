use Rattle.ca_law_scripts.proofs.CalmScripts.BoundLemmas.{order-not-spent}
use Rattle.ca_law_scripts.proofs.laws.calm_scripts.calm_orders_are_bounded.Goals as goal

pub returns : goal.returns
returns c = order-not-spent
