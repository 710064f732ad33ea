use Rattle.ca_adapter_opening.specs.Added.{name_in}
use Rattle.ca_adapter_opening.specs.Opening.{IsVacantPart}
use Rattle.ca_adapter_opening.proofs.AddedLemmas.{adds-next}
use Rattle.ca_adapter_opening.proofs.slots.push_slots.Goals as goal

pub loop-slot-preserved : goal.loop-slot-preserved
loop-slot-preserved c = adds-next IsVacantPart (λ slot. name_in c.args.kind (record { domain = c.args.domain; slot = slot })) c.loop-slot.slot c.in_ok-part.part
    c.args.row.now.items c.loop-slot.row.items c.push.new.self.items c.loop-slot.invariant c.in_ok-part.ensures c.in_ok-push.ensures.items
