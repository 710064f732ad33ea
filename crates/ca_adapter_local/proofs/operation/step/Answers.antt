use Rattle.std.proofs.Common.{◌≡◌, ◌∙◌, ◌++◌, refl, sym, ap, subst}
use Rattle.ca_adapter_local.proofs.StepLemmas.{failed, queue-here, queues-same, same-queue-pair, succeeded, told_by}
use Rattle.ca_adapter_local.specs.Local.{local_end}
use Rattle.ca_adapter_local.specs.Made.{IsMadeBy}
use Rattle.ca_base.specs.Configuration.{configuration_in}
use Rattle.ca_base.specs.objects.QueuePair.{Present}
use Rattle.ca_adapter_parts.specs.HeldView.{holding}
use Rattle.ca_localops.specs.Errors.{FailsBy}
use Rattle.ca_model.specs.machine.Requester.{turn_of}
use Rattle.ca_adapter_turns.specs.ca_adapter_reach_laws.Ties.{with_reached}
use Rattle.ca_adapter_local.proofs.operation.step.Goals as goal

pub operate-requires-clause-parts : goal.operate-requires-clause-parts
operate-requires-clause-parts c = λ n turn. c.requires.parts c.in-Present.q n
    (queue-here c.args.held.now c.args.queue c.at-slot.result.now c.in-Present.q c.at-slot.ensures (sym c.deref.ensures ∙ c.in-Present.is)) turn

pub returns-in-Ok : goal.returns-in-Ok
returns-in-Ok c = λ q n there turn.
    let same : c.in-Present.q ≡ q = same-queue-pair c.args.held.now c.args.queue c.in-Present.q q
    (queue-here c.args.held.now c.args.queue c.at-slot.result.now c.in-Present.q c.at-slot.ensures (sym c.deref.ensures ∙ c.in-Present.is)) there in
    let kept : (holding (with_reached c.args.held.now c.operate.new.reached)).world.queue c.args.queue ≡ Present q = queues-same c.args.held.now c.operate.new.reached c.args.queue ∙ there in
    succeeded c.args.held.now c.operate.new.reached c.args.queue q n (local_end (configuration_in c.args.settings.now) (holding c.args.held.now).world q n.drawn n.request.op)
    c.in-Ok.made c.args.marks.now.marks c.tell.new.marks.marks c.succeed.new.marks.marks (holding c.succeed.new.held)
    (ap (λ p. p.queue) (same-queue-pair c.args.held.now c.args.queue q c.requires.performs.queue there c.requires.performs.there) ∙ c.requires.performs.named)
    (subst (λ p. IsMadeBy c.in-Ok.made (local_end (configuration_in c.args.settings.now) (holding c.args.held.now).world p n.drawn n.request.op) c.args.held.now c.operate.new.reached) same
    (c.in-Ok.ensures c.args.held.now n (ap turn_of same ∙ turn) c.requires.outside refl))
    (c.succeed.ensures.held q n kept turn)
    (c.tell.ensures.marks ∙ ap (λ ms. ms ++ told_by c.args.held.now c.operate.new.reached c.args.queue q n (local_end (configuration_in c.args.settings.now) (holding c.args.held.now).world q n.drawn n.request.op) c.args.queue.adapter c.in-Ok.made.marks.revoked c.in-Ok.made.marks.granted) c.in_ok-reserve.ensures.same)
    (c.succeed.ensures.marks q n kept turn)

pub returns-in-Err-Refused : goal.returns-in-Err-Refused
returns-in-Err-Refused c = λ q n there turn.
    let same : c.in-Present.q ≡ q = same-queue-pair c.args.held.now c.args.queue c.in-Present.q q
    (queue-here c.args.held.now c.args.queue c.at-slot.result.now c.in-Present.q c.at-slot.ensures (sym c.deref.ensures ∙ c.in-Present.is)) there in
    let refused = c.in-Err-Refused.ensures c.args.held.now n (ap turn_of same ∙ turn) c.requires.outside refl in
    failed c.args.held.now c.operate.new.reached c.args.queue q n (local_end (configuration_in c.args.settings.now) (holding c.args.held.now).world q n.drawn n.request.op)
    c.fail.result c.in-Err-Refused.cause c.args.marks.now c.reserve.new.self c.fail.new.marks (holding c.fail.new.held)
    (subst (λ e. FailsBy (local_end (configuration_in c.args.settings.now) (holding c.args.held.now).world q n.drawn n.request.op).refusal e) c.in-Err-Refused.field-0-is
    (subst (λ p. FailsBy (local_end (configuration_in c.args.settings.now) (holding c.args.held.now).world p n.drawn n.request.op).refusal c.in-Err-Refused.field-0) same refused.0))
    refused.1 c.in_ok-reserve.ensures.same
    (c.fail.ensures q (queues-same c.args.held.now c.operate.new.reached c.args.queue ∙ there))

pub returns-in-Err-Memory : goal.returns-in-Err-Memory
returns-in-Err-Memory c = λ q n there turn.
    let same : c.in-Present.q ≡ q = same-queue-pair c.args.held.now c.args.queue c.in-Present.q q
    (queue-here c.args.held.now c.args.queue c.at-slot.result.now c.in-Present.q c.at-slot.ensures (sym c.deref.ensures ∙ c.in-Present.is)) there in
    ap (λ r. holding (with_reached c.args.held.now r)) (c.in-Err-Memory.ensures c.args.held.now n (ap turn_of same ∙ turn) c.requires.outside refl).1
