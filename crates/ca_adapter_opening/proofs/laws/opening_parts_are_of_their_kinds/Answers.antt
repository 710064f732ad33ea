use Rattle.ca_adapter_opening.proofs.WorldLemmas.{opening-kind}
use Rattle.ca_adapter_opening.proofs.laws.opening_parts_are_of_their_kinds.Goals as goal

pub returns : goal.returns
returns c = opening-kind
