use Rattle.ca_law_parts.proofs.Names.PlacedLemmas.{waiting-configured}
use Rattle.ca_law_parts.proofs.laws.names.waiting_completions_are_configured.Goals as goal

pub returns : goal.returns
returns c = waiting-configured
