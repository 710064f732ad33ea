use Rattle.ca_law_lossless.proofs.RowCalm.{arrival-calm}
use Rattle.ca_law_lossless.proofs.laws.mail.arrival_keeps_calm.Goals as goal

pub returns : goal.returns
returns c = arrival-calm
