use Rattle.ca_law_scripts.proofs.Rest.QuietLemmas.{quiet-rests}
use Rattle.ca_law_scripts.proofs.laws.rest.quiet_queue_pairs_are_at_rest.Goals as goal

pub returns : goal.returns
returns c = quiet-rests
