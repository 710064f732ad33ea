use Rattle.ca_law_once.proofs.Success.EventFound.{event-found}
use Rattle.ca_law_once.proofs.laws.success.successes_are_found.Goals as goal

pub returns : goal.returns
returns c = event-found
