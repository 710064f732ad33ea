use Rattle.std.proofs.Common.{◌≡◌, ◌+◌, ◌∙◌, arith, ap, length, sym}
use Rattle.std.proofs.lemmas.Result.{err_from_is_err_and}
use Rattle.ca_adapter.proofs.ReadyLemmas.{queues_can_step, shared_are_sound}
use Rattle.ca_base.specs.Configuration.{configuration_in}
use Rattle.ca_base.specs.declared.settings.Settings.{Settings}
use Rattle.ca_adapter_parts.specs.HeldView.{holding}
use Rattle.ca_verbs_machine.specs.Asks.{asked_needs}
use Rattle.ca_model.specs.machine.Parts.{next_part}
use Rattle.ca_parts.specs.Rows.{settings_of}
use Rattle.ca_verbs_taking.proofs.AllLemmas as all
use Rattle.ca_verbs_taking.proofs.SeenLemmas.{parts-of-world}
use Rattle.ca_verbs_taking.specs.Asking.{asked_of}
use Rattle.ca_verbs_taking.proofs.taking.take_all.Goals as goal

pub returns-then-n-from-clause-stopped : goal.returns-then-n-from-clause-stopped
returns-then-n-from-clause-stopped c =
    let limit : c.from.result ≡ (settings_of c.args.parts.now).events = c.from.ensures ∙ ap (λ (k : Settings). k.events) c.settings.ensures in
    all.full-first (settings_of c.args.parts.now) (asked_of c.args.ask) _ _ _ c.args.held.now c.args.names.now c.requires.limited c.look-n.ensures.noted c.look-n.ensures.sees c.requires.idle c.requires.empty c.requires.none (omega (arith, limit, c.if-n-from.true))

pub loop-init : goal.loop-init
loop-init c =
    let limit : c.from.result ≡ (settings_of c.args.parts.now).events = c.from.ensures ∙ ap (λ (k : Settings). k.events) c.settings.ensures in
    record {
      of = c.look-n.ensures.of;
      going = all.going-first _ _ _ _ _ _ _ c.requires.limited c.look-n.ensures.noted c.look-n.ensures.sees c.requires.idle c.requires.empty c.requires.none (omega (arith, limit, c.if-n-from.false)) c.requires.room c.requires.names;
    }

pub next_asked-requires-clause-queues : goal.next_asked-requires-clause-queues
next_asked-requires-clause-queues c = queues_can_step (configuration_in (settings_of c.args.parts.now)) _ (parts-of-world _ _ _ _ _ c.loop.invariant.going.amid.seen c.loop.invariant.going.amid.holds)

pub next_asked-requires-clause-shared : goal.next_asked-requires-clause-shared
next_asked-requires-clause-shared c = shared_are_sound (configuration_in (settings_of c.args.parts.now)) _ (parts-of-world _ _ _ _ _ c.loop.invariant.going.amid.seen c.loop.invariant.going.amid.holds)

pub returns-in_default-clause-took : goal.returns-in_default-clause-took
returns-in_default-clause-took c = all.went-all _ _ _ _ _ _ _ _ c.loop.invariant.going
    (ap (λ (k : Settings). next_part (holding c.loop.held).parts (holding c.loop.held).world (asked_needs (configuration_in k) (asked_of c.args.ask))) (sym c.settings.ensures) ∙ sym c.next_asked.ensures ∙ c.in_default.is)

pub returns-in_err-n-clause-stopped : goal.returns-in_err-n-clause-stopped
returns-in_err-n-clause-stopped c =
    let p = err_from_is_err_and c.from_residual.result c.from_residual.ensures.1 in
    rw (p.1, p.2) (all.stopped-on _ _ _ _ _ _ _ _ _ _ c.loop.invariant.going c.in_err-n.ensures.stopped)

pub returns-in_err-n-clause-few : goal.returns-in_err-n-clause-few
returns-in_err-n-clause-few c = omega (arith, ap length c.in_err-n.ensures.kept, c.loop.invariant.going.number, all.few-taken _ _ _ _ _ _ _ _ c.loop.invariant.going)

pub loop-preserved : goal.loop-preserved
loop-preserved c = record {
  of = c.in_ok-n.ensures.of;
  going = all.going-on _ _ _ _ _ _ _ _ _ _ _ _ _ c.loop.invariant.going c.in_ok-n.ensures.took.0 c.in_ok-n.ensures.took.1 c.in_ok-n.ensures.same (c.in_ok-n.ensures.more ∙ ap (λ k. k + 1) c.loop.invariant.going.number);
}

pub unreachable-requires : goal.unreachable-requires
unreachable-requires c = omega (arith, c.loop-test.false, all.few-taken _ _ _ _ _ _ _ _ c.loop.invariant.going)
