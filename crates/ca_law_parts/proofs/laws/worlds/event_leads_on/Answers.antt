use Rattle.ca_law_parts.proofs.Worlds.LeadsLemmas.{after-event}
use Rattle.ca_law_parts.proofs.laws.worlds.event_leads_on.Goals as goal

pub returns : goal.returns
returns c = after-event
