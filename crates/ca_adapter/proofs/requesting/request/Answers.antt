use Rattle.std.proofs.Common.{◌≡◌, ◌∙◌, refl, sym, ap, subst, Err, true}
use Rattle.ca_adapter_acts.specs.Act.{IsAct}
use Rattle.ca_adapter_acts.specs.Room.{FitsDone}
use Rattle.ca_base.specs.Configuration.{configuration_in}
use Rattle.ca_base.specs.declared.step.ActError.TheVariants as steps
use Rattle.ca_base.specs.objects.QueuePair.{Present}
use Rattle.ca_base.specs.objects.Slices.{has_queue}
use Rattle.ca_adapter_parts.specs.HeldView.{holding}
use Rattle.ca_adapter_parts.specs.Parts.{slot_of}
use Rattle.ca_model.specs.machine.CanStep.{CanStep}
use Rattle.ca_model.specs.machine.Frame.{AllPass}
use Rattle.ca_adapter_local.specs.ca_requester_sends.Turn.{IsTurnFound, PerformsFound}
use Rattle.ca_adapter.proofs.LotLemmas.{performs-any, touches-any}
use Rattle.ca_adapter.proofs.WaitLemmas.{waits-performs}
use Rattle.ca_adapter_local.proofs.of_ca_adapter_turns.TurnLemmas.{of-present}
use Rattle.ca_adapter.proofs.requesting.request.Goals as goal

pub returns-in-Err : goal.returns-in-Err
returns-in-Err c =
    let there : (holding c.args.held.now).world.queue c.args.queue ≡ Present c.in-Present.q = sym c.queue.ensures ∙ ap slot_of c.in-Present.is
    in let has : has_queue (configuration_in c.args.settings.now) c.args.queue ≡ true = sym c.has_queue.ensures.value ∙ c.if-not-has_queue.false
    in record {
      act = subst (λ out. IsAct (Err (steps.NotReady c.in-Err.reason)) out (holding c.args.held.now) (holding c.args.held.now))
          (sym (waits-performs (configuration_in c.args.settings.now) (holding c.args.held.now).world c.args.lot c.in-Present.q c.in-Err.reason
          (of-present CanStep _ c.in-Present.q there c.requires.step) c.in-Err.ensures.waits c.args.queue has there)) (refl, refl);
    }

pub perform-requires-clause-suffices : goal.perform-requires-clause-suffices
perform-requires-clause-suffices c = λ lot.
    let there : (holding c.args.held.now).world.queue c.args.queue ≡ Present c.in-Present.q = sym c.queue.ensures ∙ ap slot_of c.in-Present.is
    in let does : PerformsFound c.in-Present.q c.in-Ok-Performs.found = subst (IsTurnFound c.in-Present.q) c.in-Ok-Performs.field-0-is c.in-Ok-Performs.ensures.does
    in subst (λ names. AllPass (holding c.args.held.now).has names)
    (touches-any (configuration_in c.args.settings.now) (holding c.args.held.now).world c.args.queue c.args.lot lot c.in-Present.q does.next.request there does.turn)
    c.requires.suffices

pub perform-requires-clause-fits : goal.perform-requires-clause-fits
perform-requires-clause-fits c = λ lot.
    let there : (holding c.args.held.now).world.queue c.args.queue ≡ Present c.in-Present.q = sym c.queue.ensures ∙ ap slot_of c.in-Present.is
    in let does : PerformsFound c.in-Present.q c.in-Ok-Performs.found = subst (IsTurnFound c.in-Present.q) c.in-Ok-Performs.field-0-is c.in-Ok-Performs.ensures.does
    in subst (FitsDone (holding c.args.held.now).world)
    (performs-any (configuration_in c.args.settings.now) (holding c.args.held.now).world c.args.queue c.args.lot lot c.in-Present.q does.next.request there does.turn)
    c.requires.fits
