use Rattle.std.proofs.Common.{◌≡◌, ◌∙◌, sym, ap}
use Rattle.std.proofs.lemmas.Result.{err_from_is_err_and}
use Rattle.ca_base.specs.Configuration.{configuration_in}
use Rattle.ca_base.specs.objects.QueuePair.{Present}
use Rattle.ca_adapter_parts.specs.HeldView.{holding}
use Rattle.ca_adapter_parts.specs.Parts.{slot_of}
use Rattle.ca_adapter_turns.proofs.TimerLemmas.{wake_acts, wake_unready}
use Rattle.ca_adapter_turns.proofs.TurnLemmas.{of-present}
use Rattle.ca_adapter_turns.proofs.timers.rnr_wake.Goals as goal

pub returns-in_err-wake : goal.returns-in_err-wake
returns-in_err-wake c =
    let there : (holding c.args.held.now).world.queue c.args.queue ≡ Present c.in-Present.q = sym c.queue.ensures ∙ ap slot_of c.in-Present.is
    in let p = err_from_is_err_and c.from_residual.result c.from_residual.ensures.1
    in record {
      act = rw (p.1, p.2) (wake_unready (configuration_in c.args.settings.now) (holding c.args.held.now) c.args.queue c.in-Present.q c.in-Some.peer c.is_peer_empty-peer_empty.result
          (sym c.has_queue.ensures.value ∙ c.if-not-has_queue.false) there (of-present (λ q. q.queue ≡ c.args.queue) _ c.in-Present.q there c.requires.named)
          (sym c.peer_of.ensures ∙ c.in-Some.is) c.is_peer_empty-peer_empty.ensures (holding c.wake.new.held) c.in_err-wake.field-0.0 (c.in_err-wake.ensures c.in-Present.q there));
    }

pub returns : goal.returns
returns c =
    let there : (holding c.args.held.now).world.queue c.args.queue ≡ Present c.in-Present.q = sym c.queue.ensures ∙ ap slot_of c.in-Present.is
    in record {
      act = wake_acts (configuration_in c.args.settings.now) (holding c.args.held.now) c.args.queue c.in-Present.q c.in-Some.peer c.is_peer_empty-peer_empty.result
          (sym c.has_queue.ensures.value ∙ c.if-not-has_queue.false) there (of-present (λ q. q.queue ≡ c.args.queue) _ c.in-Present.q there c.requires.named)
          (sym c.peer_of.ensures ∙ c.in-Some.is) c.is_peer_empty-peer_empty.ensures (holding c.wake.new.held) c.empty.result (c.in_ok-wake.ensures c.in-Present.q there).0 c.empty.ensures
          (c.in_ok-wake.ensures c.in-Present.q there).1;
    }
