use Rattle.ca_law_caused.proofs.Link.PeerLemmas.{histories-reasons}
use Rattle.ca_law_caused.proofs.laws.link.histories_agree_on_reasons.Goals as goal

pub returns : goal.returns
returns c = histories-reasons
