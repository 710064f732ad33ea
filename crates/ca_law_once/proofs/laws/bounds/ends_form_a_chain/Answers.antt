use Rattle.ca_law_once.proofs.Bounds.BoundLemmas.{ends-chain}
use Rattle.ca_law_once.proofs.laws.bounds.ends_form_a_chain.Goals as goal

pub returns : goal.returns
returns c = ends-chain
