use Rattle.std.proofs.Common.{◌∙◌, Some, ap, sym}
use Rattle.ca_base.specs.objects.Mailbox.{bytes_lent}
use Rattle.ca_adapter_arrivals.specs.Arrived.{told}
use Rattle.ca_adapter_arrivals.proofs.HeldLemmas.{can_find, can_meet, can_share, has_lent, here, mail-here}
use Rattle.ca_adapter_arrivals.proofs.delivery.take_lent.Goals as goal

pub arrive-requires-clause-step : goal.arrive-requires-clause-step
arrive-requires-clause-step c = (c.requires.can c.in-Present.q c.in-Ok.bytes.now (here c.args.held.now c.args.queue c.at_mut-slot.result.now c.in-Present.q (sym c.at_mut-slot.ensures.value) (sym c.deref_mut.ensures.value ∙ c.in-Present.is))
    (ap (bytes_lent c.args.index) (mail-here c.args.held.now c.args.queue c.at.result.now c.at.ensures) ∙ c.in-Ok.ensures.ok)).step

pub arrive-requires-clause-there : goal.arrive-requires-clause-there
arrive-requires-clause-there c = can_find c.args.held.now c.in-Ok.bytes.now (Some c.args.index) c.in-Present.q (c.requires.can c.in-Present.q c.in-Ok.bytes.now (here c.args.held.now c.args.queue c.at_mut-slot.result.now c.in-Present.q (sym c.at_mut-slot.ensures.value) (sym c.deref_mut.ensures.value ∙ c.in-Present.is))
    (ap (bytes_lent c.args.index) (mail-here c.args.held.now c.args.queue c.at.result.now c.at.ensures) ∙ c.in-Ok.ensures.ok))

pub arrive-requires-clause-shared : goal.arrive-requires-clause-shared
arrive-requires-clause-shared c = can_share c.args.held.now c.in-Ok.bytes.now (Some c.args.index) c.in-Present.q (c.requires.can c.in-Present.q c.in-Ok.bytes.now (here c.args.held.now c.args.queue c.at_mut-slot.result.now c.in-Present.q (sym c.at_mut-slot.ensures.value) (sym c.deref_mut.ensures.value ∙ c.in-Present.is))
    (ap (bytes_lent c.args.index) (mail-here c.args.held.now c.args.queue c.at.result.now c.at.ensures) ∙ c.in-Ok.ensures.ok))

pub arrive-requires-clause-at_hand : goal.arrive-requires-clause-at_hand
arrive-requires-clause-at_hand c = can_meet c.args.held.now c.in-Ok.bytes.now (Some c.args.index) c.in-Present.q (c.requires.can c.in-Present.q c.in-Ok.bytes.now (here c.args.held.now c.args.queue c.at_mut-slot.result.now c.in-Present.q (sym c.at_mut-slot.ensures.value) (sym c.deref_mut.ensures.value ∙ c.in-Present.is))
    (ap (bytes_lent c.args.index) (mail-here c.args.held.now c.args.queue c.at.result.now c.at.ensures) ∙ c.in-Ok.ensures.ok))

pub returns : goal.returns
returns c = has_lent c.args.held.now c.args.queue c.at_mut-slot.result.now c.in-Present.q c.arrive.new.q c.arrive.new.reach c.arrive.new.srqs
    (sym c.at_mut-slot.ensures.value) (sym c.deref_mut.ensures.value ∙ c.in-Present.is)
    ((c.requires.can c.in-Present.q c.in-Ok.bytes.now (here c.args.held.now c.args.queue c.at_mut-slot.result.now c.in-Present.q (sym c.at_mut-slot.ensures.value) (sym c.deref_mut.ensures.value ∙ c.in-Present.is))
    (ap (bytes_lent c.args.index) (mail-here c.args.held.now c.args.queue c.at.result.now c.at.ensures) ∙ c.in-Ok.ensures.ok)).there) c.arrive.ensures.shelf c.arrive.result (Some c.args.index) _ c.in-Ok.bytes.now (λ q. told q (Some c.args.index) c.args.marks.now) c.arrive.new.marks
    (ap (bytes_lent c.args.index) (mail-here c.args.held.now c.args.queue c.at.result.now c.at.ensures) ∙ c.in-Ok.ensures.ok) c.arrive.ensures.arrival
