use Rattle.ca_law_caused.proofs.Link.PeerLemmas.{peers-have-reasons}
use Rattle.ca_law_caused.proofs.laws.link.refusals_have_befallen_peers.Goals as goal

pub returns : goal.returns
returns c = peers-have-reasons
