use Rattle.std.proofs.Common.{◌∙◌, None, sym}
use Rattle.ca_adapter_reach.specs.Seen.{sight_of}
use Rattle.ca_model.specs.machine.Delivery.{arrival_row}
use Rattle.ca_responder.specs.ca_responder_operations.Taking.{outcome_in}
use Rattle.ca_adapter_arrivals.specs.Arrived.{told}
use Rattle.ca_adapter_arrivals.proofs.HeldLemmas.{can_find, can_meet, can_share, has_arrived, here}
use Rattle.ca_adapter_arrivals.proofs.injection.take_given.Goals as goal

pub arrive-requires-clause-step : goal.arrive-requires-clause-step
arrive-requires-clause-step c = (c.requires.can c.in-Present.q (here c.args.held.now c.args.queue c.at_mut-slot.result.now c.in-Present.q (sym c.at_mut-slot.ensures.value) (sym c.deref_mut.ensures.value ∙ c.in-Present.is))).step

pub arrive-requires-clause-there : goal.arrive-requires-clause-there
arrive-requires-clause-there c = can_find c.args.held.now c.args.bytes.now None c.in-Present.q
    (c.requires.can c.in-Present.q (here c.args.held.now c.args.queue c.at_mut-slot.result.now c.in-Present.q (sym c.at_mut-slot.ensures.value) (sym c.deref_mut.ensures.value ∙ c.in-Present.is)))

pub arrive-requires-clause-shared : goal.arrive-requires-clause-shared
arrive-requires-clause-shared c = can_share c.args.held.now c.args.bytes.now None c.in-Present.q
    (c.requires.can c.in-Present.q (here c.args.held.now c.args.queue c.at_mut-slot.result.now c.in-Present.q (sym c.at_mut-slot.ensures.value) (sym c.deref_mut.ensures.value ∙ c.in-Present.is)))

pub arrive-requires-clause-at_hand : goal.arrive-requires-clause-at_hand
arrive-requires-clause-at_hand c = can_meet c.args.held.now c.args.bytes.now None c.in-Present.q
    (c.requires.can c.in-Present.q (here c.args.held.now c.args.queue c.at_mut-slot.result.now c.in-Present.q (sym c.at_mut-slot.ensures.value) (sym c.deref_mut.ensures.value ∙ c.in-Present.is)))

pub returns : goal.returns
returns c = has_arrived c.args.held.now c.args.queue c.at_mut-slot.result.now c.in-Present.q c.arrive.new.q c.arrive.new.reach c.arrive.new.srqs
    (sym c.at_mut-slot.ensures.value) (sym c.deref_mut.ensures.value ∙ c.in-Present.is) ((c.requires.can c.in-Present.q (here c.args.held.now c.args.queue c.at_mut-slot.result.now c.in-Present.q (sym c.at_mut-slot.ensures.value) (sym c.deref_mut.ensures.value ∙ c.in-Present.is))).there) c.arrive.ensures.shelf
    c.arrive.result (λ o q. outcome_in (sight_of c.args.held.now.reached) (arrival_row c.args.bytes.now None o q)) (λ q. told q None c.args.marks.now) c.arrive.new.marks c.arrive.ensures.arrival
