use Rattle.ca_law_scripts.proofs.OrderLaws.LawfulLemmas.{history-lawful}
use Rattle.ca_law_scripts.proofs.laws.order_laws.histories_of_scripts_are_lawful.Goals as goal

pub returns : goal.returns
returns c = history-lawful
