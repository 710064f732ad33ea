use Rattle.ca_verbs_scripts.proofs.OrderLemmas.{in-list}
use Rattle.ca_verbs_scripts.proofs.laws.works_are_in_their_history.Goals as goal

pub returns : goal.returns
returns c = λ s entries log left worked there all. in-list s entries log there all left worked
