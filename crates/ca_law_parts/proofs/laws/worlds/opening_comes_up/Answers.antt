use Rattle.ca_law_parts.proofs.Worlds.LeadsLemmas.{opening-after}
use Rattle.ca_law_parts.proofs.laws.worlds.opening_comes_up.Goals as goal

pub returns : goal.returns
returns c = opening-after
