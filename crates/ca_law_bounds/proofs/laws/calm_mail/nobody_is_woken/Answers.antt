use Rattle.ca_law_bounds.proofs.EventCalm.{never-woken}
use Rattle.ca_law_bounds.proofs.laws.calm_mail.nobody_is_woken.Goals as goal

pub returns : goal.returns
returns c = never-woken
