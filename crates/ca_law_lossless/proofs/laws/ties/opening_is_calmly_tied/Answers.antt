use Rattle.ca_law_lossless.proofs.EventCalm.{opening-calmly}
use Rattle.ca_law_lossless.proofs.laws.ties.opening_is_calmly_tied.Goals as goal

pub returns : goal.returns
returns c = opening-calmly
