use Rattle.ca_law_bounds.proofs.RunCalm.{entries-spared, worlds-calm}
use Rattle.ca_law_bounds.proofs.laws.calm_mail.histories_stay_calm.Goals as goal

pub returns : goal.returns
returns c = record { worlds = worlds-calm; entries = entries-spared }
