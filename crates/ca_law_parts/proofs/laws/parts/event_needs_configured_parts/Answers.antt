use Rattle.ca_law_parts.proofs.Parts.ConfiguredLemmas.{parts-configured}
use Rattle.ca_law_parts.proofs.laws.parts.event_needs_configured_parts.Goals as goal

pub returns : goal.returns
returns c = parts-configured
