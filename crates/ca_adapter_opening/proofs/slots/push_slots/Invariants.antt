use Rattle.ca_model_places.specs.Places.{parts_of_kind}
use Rattle.ca_adapter_opening.specs.Added.{AddsParts, name_in}
use Rattle.ca_adapter_opening.specs.Opening.{IsVacantPart}
use Rattle.ca_adapter_opening.proofs.slots.push_slots.Given as goal

abbrev pub invariant-loop-slot : goal.invariant-loop-slot
invariant-loop-slot l = AddsParts IsVacantPart (parts_of_kind (name_in l.kind) l.domain l.slot) l.fn.row.items l.row.items
