use Rattle.ca_law_parts.proofs.Parts.NeedsLemmas.{next-same}
use Rattle.ca_law_parts.proofs.laws.parts.next_part_is_shown.Goals as goal

pub returns : goal.returns
returns c = next-same
