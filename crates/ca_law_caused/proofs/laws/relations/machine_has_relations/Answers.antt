use Rattle.ca_law_caused.proofs.RelationLemmas.{relations-along}
use Rattle.ca_law_caused.proofs.laws.relations.machine_has_relations.Goals as goal

pub returns : goal.returns
returns c = relations-along
