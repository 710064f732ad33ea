use Rattle.ca_law_bounds.proofs.EventCalm.{opening-calm}
use Rattle.ca_law_bounds.proofs.laws.calm_mail.opening_mail_is_calm.Goals as goal

pub returns : goal.returns
returns c = opening-calm
