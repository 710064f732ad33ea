use Rattle.ca_law_parts.proofs.Parts.NeedsLemmas.{none-held, some-missing}
use Rattle.ca_law_parts.proofs.laws.parts.next_part_is_needed.Goals as goal

pub returns-clause-some : goal.returns-clause-some
returns-clause-some c = λ held w needs p is. ((some-missing held w needs p is).among, (some-missing held w needs p is).free)

pub returns-clause-none : goal.returns-clause-none
returns-clause-none c = none-held
