use Rattle.ca_verbs_scripts.proofs.WalkLemmas.{of-script}
use Rattle.ca_verbs_scripts.proofs.laws.worked_histories_are_of_their_scripts.Goals as goal

pub returns : goal.returns
returns c = of-script
