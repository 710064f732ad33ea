use Rattle.std.proofs.Common.{◌≡◌, ◌∙◌, ◌++◌, sym, ap}
use Rattle.std.proofs.lemmas.Result.{err_from_is_err_and}
use Rattle.ca_base.specs.Configuration.{configuration_in}
use Rattle.ca_base.specs.objects.QueuePair.{Present}
use Rattle.ca_adapter_parts.specs.HeldView.{holding}
use Rattle.ca_adapter_parts.specs.Parts.{slot_of}
use Rattle.ca_model.specs.machine.Timers.{after_timeout}
use Rattle.ca_adapter_turns.proofs.TimerLemmas.{timeout_acts, timeout_receives, timeout_sends, timeout_unready}
use Rattle.ca_adapter_turns.proofs.TurnLemmas.{of-present}
use Rattle.ca_adapter_turns.proofs.timers.timeout.Goals as goal

pub put_done-requires-clause-sends : goal.put_done-requires-clause-sends
put_done-requires-clause-sends c =
    let there : (holding c.args.held.now).world.queue c.args.queue ≡ Present c.in-Present.q = sym c.queue.ensures ∙ ap slot_of c.in-Present.is
    in timeout_sends (configuration_in c.args.settings.now) (holding c.args.held.now) c.args.queue c.args.hasten c.in-Present.q c.in-Some.peer c.is_silent-silent.result
    (sym c.has_queue.ensures.value ∙ c.if-not-has_queue.false) there (of-present (λ q. q.queue ≡ c.args.queue) _ c.in-Present.q there c.requires.named)
    (sym c.peer_of.ensures ∙ c.in-Some.is) c.is_silent-silent.ensures (holding c.fire.new.held) c.of-to.result c.as_slice.result.now (c.in_ok-fire.ensures.stepped c.in-Present.q there).0 (c.in_ok-fire.ensures.stepped c.in-Present.q there).1 c.of-to.ensures
    (c.as_slice.ensures ∙ c.in_ok-fire.ensures.marks c.in-Present.q there ∙ ap (λ ms. ms ++ (after_timeout c.is_silent-silent.result c.in-Present.q).marks) c.empty-marks.ensures)
    c.requires.fits

pub put_done-requires-clause-receives : goal.put_done-requires-clause-receives
put_done-requires-clause-receives c =
    let there : (holding c.args.held.now).world.queue c.args.queue ≡ Present c.in-Present.q = sym c.queue.ensures ∙ ap slot_of c.in-Present.is
    in timeout_receives (configuration_in c.args.settings.now) (holding c.args.held.now) c.args.queue c.args.hasten c.in-Present.q c.in-Some.peer c.is_silent-silent.result
    (sym c.has_queue.ensures.value ∙ c.if-not-has_queue.false) there (of-present (λ q. q.queue ≡ c.args.queue) _ c.in-Present.q there c.requires.named)
    (sym c.peer_of.ensures ∙ c.in-Some.is) c.is_silent-silent.ensures (holding c.fire.new.held) c.of-to.result c.as_slice.result.now (c.in_ok-fire.ensures.stepped c.in-Present.q there).0 (c.in_ok-fire.ensures.stepped c.in-Present.q there).1 c.of-to.ensures
    (c.as_slice.ensures ∙ c.in_ok-fire.ensures.marks c.in-Present.q there ∙ ap (λ ms. ms ++ (after_timeout c.is_silent-silent.result c.in-Present.q).marks) c.empty-marks.ensures)
    c.requires.fits

pub returns : goal.returns
returns c =
    let there : (holding c.args.held.now).world.queue c.args.queue ≡ Present c.in-Present.q = sym c.queue.ensures ∙ ap slot_of c.in-Present.is
    in record {
      act = timeout_acts (configuration_in c.args.settings.now) (holding c.args.held.now) c.args.queue c.args.hasten c.in-Present.q c.in-Some.peer c.is_silent-silent.result
          (sym c.has_queue.ensures.value ∙ c.if-not-has_queue.false) there (of-present (λ q. q.queue ≡ c.args.queue) _ c.in-Present.q there c.requires.named)
          (sym c.peer_of.ensures ∙ c.in-Some.is) c.is_silent-silent.ensures (holding c.fire.new.held) c.of-to.result c.as_slice.result.now (c.in_ok-fire.ensures.stepped c.in-Present.q there).0 (c.in_ok-fire.ensures.stepped c.in-Present.q there).1 c.of-to.ensures
          (c.as_slice.ensures ∙ c.in_ok-fire.ensures.marks c.in-Present.q there ∙ ap (λ ms. ms ++ (after_timeout c.is_silent-silent.result c.in-Present.q).marks) c.empty-marks.ensures)
          (holding c.put_done.new.held) c.fire.new.marks (sym c.as_slice.ensures) c.put_done.ensures;
    }

pub returns-in_err-fire : goal.returns-in_err-fire
returns-in_err-fire c =
    let there : (holding c.args.held.now).world.queue c.args.queue ≡ Present c.in-Present.q = sym c.queue.ensures ∙ ap slot_of c.in-Present.is
    in let p = err_from_is_err_and c.from_residual.result c.from_residual.ensures.1
    in record {
      act = rw (p.1, p.2) (timeout_unready (configuration_in c.args.settings.now) (holding c.args.held.now) c.args.queue c.args.hasten c.in-Present.q c.in-Some.peer c.is_silent-silent.result
          (sym c.has_queue.ensures.value ∙ c.if-not-has_queue.false) there (of-present (λ q. q.queue ≡ c.args.queue) _ c.in-Present.q there c.requires.named)
          (sym c.peer_of.ensures ∙ c.in-Some.is) c.is_silent-silent.ensures (holding c.fire.new.held) c.in_err-fire.field-0.0 (c.in_err-fire.ensures.stepped c.in-Present.q there));
    }
