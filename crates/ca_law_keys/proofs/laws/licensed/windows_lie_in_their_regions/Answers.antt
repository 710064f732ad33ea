use Rattle.ca_law_keys.proofs.Licensed.LieLemmas.{lie-along}
use Rattle.ca_law_keys.proofs.laws.licensed.windows_lie_in_their_regions.Goals as goal

pub returns : goal.returns
returns c = lie-along
