use Rattle.std.proofs.Common.{◌∙◌, None, Option, Some, ap, refl, sym}
use Rattle.ca_base.specs.objects.QueuePair.{srq_of}
use Rattle.ca_base.specs.objects.SharedReceives.{SharedReceives}
use Rattle.ca_adapter_parts.specs.contracts.part.SrqSlot.{the_view}
use Rattle.ca_adapter_reach.specs.Seen.{sight_of}
use Rattle.ca_model.specs.machine.Delivery.{packet_arrived}
use Rattle.ca_responder.specs.ca_responder_operations.Taking.{Outcome, outcome_in}
use Rattle.ca_adapter_arrivals.proofs.ShelfLemmas.{shelf_arrived, shelf_put}
use Rattle.ca_adapter_arrivals.proofs.arriving.take_request.Goals as goal

pub returns-in-Some-srq-clause-arrival : goal.returns-in-Some-srq-clause-arrival
returns-in-Some-srq-clause-arrival c =
    let out : Option SharedReceives → Outcome = λ o. outcome_in (sight_of c.args.reach.now) (packet_arrived c.args.p.now c.args.envelope o c.args.q.now) in
    shelf_arrived c.args.srqs.now c.args.q.now c.in-Some.srq _ (the_view c.behind-srqs.inside) (Some c.on_request-in-Some-srq.new.srq.0)
    (sym (ap (λ q. q.srq) c.q.view_is) ∙ c.in-Some.is) (ap (λ q. srq_of q c.in-Some.srq) c.q.view_is) (ap Some c.behind-srqs.view_is ∙ c.at_mut.ensures.value)
    c.on_request-in-Some-srq.result out c.on_request-in-Some-srq.new.q c.args.marks.now c.on_request-in-Some-srq.new.marks c.args.reach.now c.on_request-in-Some-srq.new.reach
    (Some c.in-Some-srq.srq) (Some c.on_request-in-Some-srq.new.srq.0) c.in-Some-srq.is refl c.on_request-in-Some-srq.ensures

pub returns-in-Some-srq-clause-shelf : goal.returns-in-Some-srq-clause-shelf
returns-in-Some-srq-clause-shelf c =
    shelf_put c.args.srqs.now c.args.q.now c.in-Some.srq _ (the_view c.behind-srqs.inside) (Some c.on_request-in-Some-srq.new.srq.0)
    (sym (ap (λ q. q.srq) c.q.view_is) ∙ c.in-Some.is) (ap (λ q. srq_of q c.in-Some.srq) c.q.view_is) (ap Some c.behind-srqs.view_is ∙ c.at_mut.ensures.value)

pub returns-in-None-clause-arrival : goal.returns-in-None-clause-arrival
returns-in-None-clause-arrival c =
    let out : Option SharedReceives → Outcome = λ o. outcome_in (sight_of c.args.reach.now) (packet_arrived c.args.p.now c.args.envelope o c.args.q.now) in
    shelf_arrived c.args.srqs.now c.args.q.now c.in-Some.srq _ (the_view c.behind-srqs.inside) c.behind-srqs.inside.srq
    (sym (ap (λ q. q.srq) c.q.view_is) ∙ c.in-Some.is) (ap (λ q. srq_of q c.in-Some.srq) c.q.view_is) (ap Some c.behind-srqs.view_is ∙ c.at_mut.ensures.value)
    c.on_request-in-None.result out c.on_request-in-None.new.q c.args.marks.now c.on_request-in-None.new.marks c.args.reach.now c.on_request-in-None.new.reach
    None None c.in-None.is c.in-None.is c.on_request-in-None.ensures

pub returns-in-None-clause-shelf : goal.returns-in-None-clause-shelf
returns-in-None-clause-shelf c =
    shelf_put c.args.srqs.now c.args.q.now c.in-Some.srq _ (the_view c.behind-srqs.inside) c.behind-srqs.inside.srq
    (sym (ap (λ q. q.srq) c.q.view_is) ∙ c.in-Some.is) (ap (λ q. srq_of q c.in-Some.srq) c.q.view_is) (ap Some c.behind-srqs.view_is ∙ c.at_mut.ensures.value)
