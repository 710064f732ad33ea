use Rattle.ca_law_parts.proofs.Parts.HeldLemmas.{row-asks-held, row-end-held}
use Rattle.ca_law_parts.proofs.laws.parts.held_parts_serve_rows.Goals as goal

pub returns-clause-asks : goal.returns-clause-asks
returns-clause-asks c = row-asks-held

pub returns-clause-ended : goal.returns-clause-ended
returns-clause-ended c = row-end-held
