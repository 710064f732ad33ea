use Rattle.ca_law_parts.proofs.Parts.NeedsLemmas.{gathers}
use Rattle.ca_law_parts.proofs.Parts.CountLemmas.{few-event}
use Rattle.ca_model.specs.machine.Parts.{event_needs}
use Rattle.ca_law_parts.proofs.laws.parts.next_part_comes_to_an_end.Goals as goal

pub returns : goal.returns
returns c = λ c w event sound. gathers 32 w (event_needs c event) (few-event c w event sound)
