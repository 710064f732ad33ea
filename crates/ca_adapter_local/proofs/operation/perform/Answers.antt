use Rattle.std.proofs.Common.{◌≡◌, ◌∙◌, ◌++◌, Bool, true, sym, ap, subst}
use Rattle.ca_adapter_turns.specs.ca_adapter_acts.Binders.{changed_by}
use Rattle.ca_adapter_turns.specs.ca_adapter_acts.Outlets.{outlets_of, recv_slot, send_slot}
use Rattle.ca_adapter_local.proofs.ChangeLemmas.{end-acts, end-of, end-receives, end-sends}
use Rattle.ca_adapter_local.proofs.PlanLemmas.{request-performs, request-queue, request-recv, request-send}
use Rattle.ca_adapter_local.proofs.ReadyLemmas.{outside, parts-ready}
use Rattle.ca_adapter_local.proofs.StepLemmas.{same-queue-pair}
use Rattle.ca_adapter_local.specs.Local.{LocalEnd, end_changes, end_effects, local_end}
use Rattle.ca_base.specs.Configuration.{configuration_in}
use Rattle.ca_base.specs.declared.lot.Lot.TheVariants.{Pass}
use Rattle.ca_base.specs.objects.QueuePair.{Present, QueuePair}
use Rattle.ca_adapter_parts.specs.HeldView.{Holding, hold, holding}
use Rattle.ca_adapter_parts.specs.Parts.{slot_of}
use Rattle.ca_model.specs.machine.Numbering.{Numbered}
use Rattle.ca_model.specs.machine.Plan.{perform}
use Rattle.ca_model.specs.machine.Requester.{Performs, turn_of}
use Rattle.ca_model.specs.machine.Turns.{request_plan}
use Rattle.ca_model.specs.machine.World.{Cq_of, Name, Queue_of}
use Rattle.ca_adapter_local.proofs.operation.perform.Goals as goal

pub queue-requires : goal.queue-requires
queue-requires c = request-queue (configuration_in c.args.settings.now) c.args.queue Pass c.requires.performs.queue c.requires.performs.performs.next.request
    c.requires.configured c.requires.performs.performs.turn (holding c.args.held.now) c.requires.performs.there (c.requires.suffices Pass)

pub step-requires-clause-held : goal.step-requires-clause-held
step-requires-clause-held c = request-queue (configuration_in c.args.settings.now) c.args.queue Pass c.requires.performs.queue c.requires.performs.performs.next.request
    c.requires.configured c.requires.performs.performs.turn (holding c.args.held.now) c.requires.performs.there (c.requires.suffices Pass)

pub step-requires-clause-parts : goal.step-requires-clause-parts
step-requires-clause-parts c = λ q n there turn. parts-ready (configuration_in c.args.settings.now) c.args.held.now c.requires.parts q c.args.queue n Pass c.requires.configured turn there
    (ap (λ p. p.queue) (same-queue-pair c.args.held.now c.args.queue q c.requires.performs.queue there c.requires.performs.there) ∙ c.requires.performs.named)
    (request-queue (configuration_in c.args.settings.now) c.args.queue Pass q n c.requires.configured turn (holding c.args.held.now) there (c.requires.suffices Pass))
    (c.requires.suffices Pass)

pub step-requires-clause-outside : goal.step-requires-clause-outside
step-requires-clause-outside c = outside (configuration_in c.args.settings.now) c.args.held.now c.requires.parts

pub step-requires-clause-room : goal.step-requires-clause-room
unfolding holding
step-requires-clause-room c = c.requires.room

pub put_done-requires-clause-send : goal.put_done-requires-clause-send
put_done-requires-clause-send c =
    let q : QueuePair = c.requires.performs.queue in
    let n : Numbered = c.requires.performs.performs.next.request in
    let turn : turn_of q ≡ Performs n = c.requires.performs.performs.turn in
    let there : (holding c.args.held.now).world.queue c.args.queue ≡ Present q = c.requires.performs.there in
    let end : LocalEnd = local_end (configuration_in c.args.settings.now) (holding c.args.held.now).world q n.drawn n.request.op in
    let outlets : c.of-to.result ≡ outlets_of q = c.of-to.ensures ∙ ap outlets_of (same-queue-pair c.args.held.now c.args.queue c.in-Present.q q (sym c.queue.ensures ∙ ap slot_of c.in-Present.is) there) in
    let stepped : (holding c.step.new.held ≡ hold (changed_by (end_changes end) (holding c.args.held.now)) (Queue_of c.args.queue) (Present (end_effects q n end).queue))
    × (c.step.new.marks.marks ≡ c.empty-marks.result.marks ++ (end_effects q n end).marks) = c.in-Ok.ensures q n there turn in
    subst (λ (f : Name → Bool). f (Cq_of (send_slot c.of-to.result)) ≡ true) (sym (ap (λ (g : Holding). g.has) stepped.0))
    (subst (λ o. (holding c.args.held.now).has (Cq_of (send_slot o)) ≡ true) (sym outlets)
    (request-send (configuration_in c.args.settings.now) c.args.queue Pass q n c.requires.configured turn (holding c.args.held.now) there (c.requires.suffices Pass)))

pub put_done-requires-clause-recv : goal.put_done-requires-clause-recv
put_done-requires-clause-recv c =
    let q : QueuePair = c.requires.performs.queue in
    let n : Numbered = c.requires.performs.performs.next.request in
    let turn : turn_of q ≡ Performs n = c.requires.performs.performs.turn in
    let there : (holding c.args.held.now).world.queue c.args.queue ≡ Present q = c.requires.performs.there in
    let end : LocalEnd = local_end (configuration_in c.args.settings.now) (holding c.args.held.now).world q n.drawn n.request.op in
    let outlets : c.of-to.result ≡ outlets_of q = c.of-to.ensures ∙ ap outlets_of (same-queue-pair c.args.held.now c.args.queue c.in-Present.q q (sym c.queue.ensures ∙ ap slot_of c.in-Present.is) there) in
    let stepped : (holding c.step.new.held ≡ hold (changed_by (end_changes end) (holding c.args.held.now)) (Queue_of c.args.queue) (Present (end_effects q n end).queue))
    × (c.step.new.marks.marks ≡ c.empty-marks.result.marks ++ (end_effects q n end).marks) = c.in-Ok.ensures q n there turn in
    subst (λ (f : Name → Bool). f (Cq_of (recv_slot c.of-to.result)) ≡ true) (sym (ap (λ (g : Holding). g.has) stepped.0))
    (subst (λ o. (holding c.args.held.now).has (Cq_of (recv_slot o)) ≡ true) (sym outlets)
    (request-recv (configuration_in c.args.settings.now) c.args.queue Pass q n c.requires.configured turn (holding c.args.held.now) there (c.requires.suffices Pass)))

pub put_done-requires-clause-sends : goal.put_done-requires-clause-sends
put_done-requires-clause-sends c =
    let q : QueuePair = c.requires.performs.queue in
    let n : Numbered = c.requires.performs.performs.next.request in
    let turn : turn_of q ≡ Performs n = c.requires.performs.performs.turn in
    let there : (holding c.args.held.now).world.queue c.args.queue ≡ Present q = c.requires.performs.there in
    let end : LocalEnd = local_end (configuration_in c.args.settings.now) (holding c.args.held.now).world q n.drawn n.request.op in
    let outlets : c.of-to.result ≡ outlets_of q = c.of-to.ensures ∙ ap outlets_of (same-queue-pair c.args.held.now c.args.queue c.in-Present.q q (sym c.queue.ensures ∙ ap slot_of c.in-Present.is) there) in
    let stepped : (holding c.step.new.held ≡ hold (changed_by (end_changes end) (holding c.args.held.now)) (Queue_of c.args.queue) (Present (end_effects q n end).queue))
    × (c.step.new.marks.marks ≡ c.empty-marks.result.marks ++ (end_effects q n end).marks) = c.in-Ok.ensures q n there turn in
    end-sends (holding c.args.held.now) (holding c.step.new.held) c.args.queue q n end (end-of (configuration_in c.args.settings.now) (holding c.args.held.now).world q n.drawn n.request.op)
    c.of-to.result c.as_slice.result.now (perform (holding c.args.held.now).world (request_plan (configuration_in c.args.settings.now) c.args.queue Pass))
    (request-performs (configuration_in c.args.settings.now) c.args.queue Pass q n c.requires.configured turn (holding c.args.held.now).world there)
    stepped.0 outlets (c.as_slice.ensures ∙ stepped.1 ∙ ap (λ xs. xs ++ (end_effects q n end).marks) c.empty-marks.ensures) (c.requires.fits Pass)

pub put_done-requires-clause-receives : goal.put_done-requires-clause-receives
put_done-requires-clause-receives c =
    let q : QueuePair = c.requires.performs.queue in
    let n : Numbered = c.requires.performs.performs.next.request in
    let turn : turn_of q ≡ Performs n = c.requires.performs.performs.turn in
    let there : (holding c.args.held.now).world.queue c.args.queue ≡ Present q = c.requires.performs.there in
    let end : LocalEnd = local_end (configuration_in c.args.settings.now) (holding c.args.held.now).world q n.drawn n.request.op in
    let outlets : c.of-to.result ≡ outlets_of q = c.of-to.ensures ∙ ap outlets_of (same-queue-pair c.args.held.now c.args.queue c.in-Present.q q (sym c.queue.ensures ∙ ap slot_of c.in-Present.is) there) in
    let stepped : (holding c.step.new.held ≡ hold (changed_by (end_changes end) (holding c.args.held.now)) (Queue_of c.args.queue) (Present (end_effects q n end).queue))
    × (c.step.new.marks.marks ≡ c.empty-marks.result.marks ++ (end_effects q n end).marks) = c.in-Ok.ensures q n there turn in
    end-receives (holding c.args.held.now) (holding c.step.new.held) c.args.queue q n end (end-of (configuration_in c.args.settings.now) (holding c.args.held.now).world q n.drawn n.request.op)
    c.of-to.result c.as_slice.result.now (perform (holding c.args.held.now).world (request_plan (configuration_in c.args.settings.now) c.args.queue Pass))
    (request-performs (configuration_in c.args.settings.now) c.args.queue Pass q n c.requires.configured turn (holding c.args.held.now).world there)
    stepped.0 outlets (c.as_slice.ensures ∙ stepped.1 ∙ ap (λ xs. xs ++ (end_effects q n end).marks) c.empty-marks.ensures) (c.requires.fits Pass)

pub returns : goal.returns
returns c =
    let q : QueuePair = c.requires.performs.queue in
    let n : Numbered = c.requires.performs.performs.next.request in
    let turn : turn_of q ≡ Performs n = c.requires.performs.performs.turn in
    let there : (holding c.args.held.now).world.queue c.args.queue ≡ Present q = c.requires.performs.there in
    let end : LocalEnd = local_end (configuration_in c.args.settings.now) (holding c.args.held.now).world q n.drawn n.request.op in
    let outlets : c.of-to.result ≡ outlets_of q = c.of-to.ensures ∙ ap outlets_of (same-queue-pair c.args.held.now c.args.queue c.in-Present.q q (sym c.queue.ensures ∙ ap slot_of c.in-Present.is) there) in
    let stepped : (holding c.step.new.held ≡ hold (changed_by (end_changes end) (holding c.args.held.now)) (Queue_of c.args.queue) (Present (end_effects q n end).queue))
    × (c.step.new.marks.marks ≡ c.empty-marks.result.marks ++ (end_effects q n end).marks) = c.in-Ok.ensures q n there turn in
    record {
      act = λ lot. end-acts (holding c.args.held.now) (holding c.step.new.held) c.args.queue q n end (end-of (configuration_in c.args.settings.now) (holding c.args.held.now).world q n.drawn n.request.op)
          c.of-to.result c.as_slice.result.now (perform (holding c.args.held.now).world (request_plan (configuration_in c.args.settings.now) c.args.queue lot))
          (request-performs (configuration_in c.args.settings.now) c.args.queue lot q n c.requires.configured turn (holding c.args.held.now).world there)
          stepped.0 outlets (c.as_slice.ensures ∙ stepped.1 ∙ ap (λ xs. xs ++ (end_effects q n end).marks) c.empty-marks.ensures)
          c.requires.performs.named (holding c.put_done.new.held) c.step.new.marks (sym c.as_slice.ensures) c.put_done.ensures;
    }
