use Rattle.ca_law_bounds.proofs.EventCalm.{event-calm}
use Rattle.ca_law_bounds.proofs.laws.calm_mail.calm_world_stays_calm.Goals as goal

pub returns : goal.returns
returns c = event-calm
