use Rattle.std.proofs.Common.{◌≡◌, ◌∙◌, [], ◌∷◌, ◌++◌, None, Ok, Err, ap, refl, subst, sym}
use Rattle.ca_adapter_turns.specs.ca_adapter_acts.Calls.{call_of}
use Rattle.ca_base.specs.Configuration.{configuration_in}
use Rattle.ca_base.specs.objects.QueuePair.{Present}
use Rattle.ca_adapter_parts.specs.HeldView.{holding}
use Rattle.ca_adapter_parts.specs.Parts.{slot_of}
use Rattle.ca_model.specs.declared.answer.Answer.TheVariants as answers
use Rattle.ca_model.specs.declared.mark.Mark.TheVariants as marks
use Rattle.ca_model.specs.machine.HostVerbs.{inject_plan}
use Rattle.ca_model.specs.machine.VerbAnswers.{answer_mark}
use Rattle.ca_adapter_arrivals.proofs.ArriveLemmas.{acts, ends_unchanged, receives_fit, recv_held, send_held, sends_fit}
use Rattle.ca_adapter_arrivals.proofs.DeliverLemmas.{inject_ready}
use Rattle.ca_adapter_arrivals.specs.Arrived.{CanArrive, HasArrived, outcome_of, told}
use Rattle.ca_adapter_arrivals.proofs.injection.inject.Goals as goal

pub take_given-requires-clause-can : goal.take_given-requires-clause-can
take_given-requires-clause-can c = λ q there. subst (λ bytes. CanArrive c.args.held.now bytes None q) (sym c.as_slice.ensures)
    (inject_ready (configuration_in c.args.settings.now) c.args.held.now c.requires.parts c.args.queue q there c.requires.step (call_of c.args.call.now) c.args.bytes.now
    c.requires.suffices c.requires.needs c.requires.named).can

pub put_done-requires-clause-send : goal.put_done-requires-clause-send
put_done-requires-clause-send c =
    let there : (holding c.args.held.now).world.queue c.args.queue ≡ Present c.in-Present.q = sym c.queue.ensures ∙ ap slot_of c.in-Present.is
    in let ready = inject_ready (configuration_in c.args.settings.now) c.args.held.now c.requires.parts c.args.queue c.in-Present.q there c.requires.step (call_of c.args.call.now) c.args.bytes.now
    c.requires.suffices c.requires.needs c.requires.named
    in let arrived = subst (λ bytes. HasArrived c.args.queue (Ok c.in_ok-take_given.field-0) (outcome_of c.args.held.now bytes None c.in-Present.q).ending (outcome_of c.args.held.now bytes None c.in-Present.q).ended
    c.in-Present.q c.args.held.now (holding c.take_given.new.held) (told c.in-Present.q None c.answer-marks.result) c.take_given.new.marks) c.as_slice.ensures (c.in_ok-take_given.ensures c.in-Present.q there)
    in let first : c.answer-marks.result.marks ++ marks.Arrived c.in-Present.q.queue None ∷ [] ≡ answer_mark (call_of c.args.call.now) answers.Fine ∷ marks.Arrived c.in-Present.q.queue None ∷ [] =
    ap (λ xs. xs ++ marks.Arrived c.in-Present.q.queue None ∷ []) (c.answer-marks.ensures.marks ∙ ap (λ x. answer_mark x answers.Fine ∷ []) c.in_ok-ready.ensures.call)
    in send_held (configuration_in c.args.settings.now) c.args.held.now c.args.queue c.in-Present.q c.args.bytes.now None None (answer_mark (call_of c.args.call.now) answers.Fine ∷ [])
    (inject_plan (configuration_in c.args.settings.now) (call_of c.args.call.now) c.args.queue c.args.bytes.now) ready (holding c.take_given.new.held) (told c.in-Present.q None c.answer-marks.result) c.take_given.new.marks c.in_ok-take_given.field-0 first
    arrived c.of-to.result c.of-to.ensures c.as_slice-2.result.now c.as_slice-2.ensures

pub put_done-requires-clause-recv : goal.put_done-requires-clause-recv
put_done-requires-clause-recv c =
    let there : (holding c.args.held.now).world.queue c.args.queue ≡ Present c.in-Present.q = sym c.queue.ensures ∙ ap slot_of c.in-Present.is
    in let ready = inject_ready (configuration_in c.args.settings.now) c.args.held.now c.requires.parts c.args.queue c.in-Present.q there c.requires.step (call_of c.args.call.now) c.args.bytes.now
    c.requires.suffices c.requires.needs c.requires.named
    in let arrived = subst (λ bytes. HasArrived c.args.queue (Ok c.in_ok-take_given.field-0) (outcome_of c.args.held.now bytes None c.in-Present.q).ending (outcome_of c.args.held.now bytes None c.in-Present.q).ended
    c.in-Present.q c.args.held.now (holding c.take_given.new.held) (told c.in-Present.q None c.answer-marks.result) c.take_given.new.marks) c.as_slice.ensures (c.in_ok-take_given.ensures c.in-Present.q there)
    in let first : c.answer-marks.result.marks ++ marks.Arrived c.in-Present.q.queue None ∷ [] ≡ answer_mark (call_of c.args.call.now) answers.Fine ∷ marks.Arrived c.in-Present.q.queue None ∷ [] =
    ap (λ xs. xs ++ marks.Arrived c.in-Present.q.queue None ∷ []) (c.answer-marks.ensures.marks ∙ ap (λ x. answer_mark x answers.Fine ∷ []) c.in_ok-ready.ensures.call)
    in recv_held (configuration_in c.args.settings.now) c.args.held.now c.args.queue c.in-Present.q c.args.bytes.now None None (answer_mark (call_of c.args.call.now) answers.Fine ∷ [])
    (inject_plan (configuration_in c.args.settings.now) (call_of c.args.call.now) c.args.queue c.args.bytes.now) ready (holding c.take_given.new.held) (told c.in-Present.q None c.answer-marks.result) c.take_given.new.marks c.in_ok-take_given.field-0 first
    arrived c.of-to.result c.of-to.ensures c.as_slice-2.result.now c.as_slice-2.ensures

pub put_done-requires-clause-sends : goal.put_done-requires-clause-sends
put_done-requires-clause-sends c =
    let there : (holding c.args.held.now).world.queue c.args.queue ≡ Present c.in-Present.q = sym c.queue.ensures ∙ ap slot_of c.in-Present.is
    in let ready = inject_ready (configuration_in c.args.settings.now) c.args.held.now c.requires.parts c.args.queue c.in-Present.q there c.requires.step (call_of c.args.call.now) c.args.bytes.now
    c.requires.suffices c.requires.needs c.requires.named
    in let arrived = subst (λ bytes. HasArrived c.args.queue (Ok c.in_ok-take_given.field-0) (outcome_of c.args.held.now bytes None c.in-Present.q).ending (outcome_of c.args.held.now bytes None c.in-Present.q).ended
    c.in-Present.q c.args.held.now (holding c.take_given.new.held) (told c.in-Present.q None c.answer-marks.result) c.take_given.new.marks) c.as_slice.ensures (c.in_ok-take_given.ensures c.in-Present.q there)
    in let first : c.answer-marks.result.marks ++ marks.Arrived c.in-Present.q.queue None ∷ [] ≡ answer_mark (call_of c.args.call.now) answers.Fine ∷ marks.Arrived c.in-Present.q.queue None ∷ [] =
    ap (λ xs. xs ++ marks.Arrived c.in-Present.q.queue None ∷ []) (c.answer-marks.ensures.marks ∙ ap (λ x. answer_mark x answers.Fine ∷ []) c.in_ok-ready.ensures.call)
    in sends_fit (configuration_in c.args.settings.now) c.args.held.now c.args.queue c.in-Present.q c.args.bytes.now None None (answer_mark (call_of c.args.call.now) answers.Fine ∷ [])
    (inject_plan (configuration_in c.args.settings.now) (call_of c.args.call.now) c.args.queue c.args.bytes.now) ready (holding c.take_given.new.held) (told c.in-Present.q None c.answer-marks.result) c.take_given.new.marks c.in_ok-take_given.field-0 first
    arrived c.of-to.result c.of-to.ensures c.as_slice-2.result.now c.as_slice-2.ensures c.requires.fits

pub put_done-requires-clause-receives : goal.put_done-requires-clause-receives
put_done-requires-clause-receives c =
    let there : (holding c.args.held.now).world.queue c.args.queue ≡ Present c.in-Present.q = sym c.queue.ensures ∙ ap slot_of c.in-Present.is
    in let ready = inject_ready (configuration_in c.args.settings.now) c.args.held.now c.requires.parts c.args.queue c.in-Present.q there c.requires.step (call_of c.args.call.now) c.args.bytes.now
    c.requires.suffices c.requires.needs c.requires.named
    in let arrived = subst (λ bytes. HasArrived c.args.queue (Ok c.in_ok-take_given.field-0) (outcome_of c.args.held.now bytes None c.in-Present.q).ending (outcome_of c.args.held.now bytes None c.in-Present.q).ended
    c.in-Present.q c.args.held.now (holding c.take_given.new.held) (told c.in-Present.q None c.answer-marks.result) c.take_given.new.marks) c.as_slice.ensures (c.in_ok-take_given.ensures c.in-Present.q there)
    in let first : c.answer-marks.result.marks ++ marks.Arrived c.in-Present.q.queue None ∷ [] ≡ answer_mark (call_of c.args.call.now) answers.Fine ∷ marks.Arrived c.in-Present.q.queue None ∷ [] =
    ap (λ xs. xs ++ marks.Arrived c.in-Present.q.queue None ∷ []) (c.answer-marks.ensures.marks ∙ ap (λ x. answer_mark x answers.Fine ∷ []) c.in_ok-ready.ensures.call)
    in receives_fit (configuration_in c.args.settings.now) c.args.held.now c.args.queue c.in-Present.q c.args.bytes.now None None (answer_mark (call_of c.args.call.now) answers.Fine ∷ [])
    (inject_plan (configuration_in c.args.settings.now) (call_of c.args.call.now) c.args.queue c.args.bytes.now) ready (holding c.take_given.new.held) (told c.in-Present.q None c.answer-marks.result) c.take_given.new.marks c.in_ok-take_given.field-0 first
    arrived c.of-to.result c.of-to.ensures c.as_slice-2.result.now c.as_slice-2.ensures c.requires.fits

pub returns : goal.returns
returns c =
    let there : (holding c.args.held.now).world.queue c.args.queue ≡ Present c.in-Present.q = sym c.queue.ensures ∙ ap slot_of c.in-Present.is
    in let ready = inject_ready (configuration_in c.args.settings.now) c.args.held.now c.requires.parts c.args.queue c.in-Present.q there c.requires.step (call_of c.args.call.now) c.args.bytes.now
    c.requires.suffices c.requires.needs c.requires.named
    in let arrived = subst (λ bytes. HasArrived c.args.queue (Ok c.in_ok-take_given.field-0) (outcome_of c.args.held.now bytes None c.in-Present.q).ending (outcome_of c.args.held.now bytes None c.in-Present.q).ended
    c.in-Present.q c.args.held.now (holding c.take_given.new.held) (told c.in-Present.q None c.answer-marks.result) c.take_given.new.marks) c.as_slice.ensures (c.in_ok-take_given.ensures c.in-Present.q there)
    in let first : c.answer-marks.result.marks ++ marks.Arrived c.in-Present.q.queue None ∷ [] ≡ answer_mark (call_of c.args.call.now) answers.Fine ∷ marks.Arrived c.in-Present.q.queue None ∷ [] =
    ap (λ xs. xs ++ marks.Arrived c.in-Present.q.queue None ∷ []) (c.answer-marks.ensures.marks ∙ ap (λ x. answer_mark x answers.Fine ∷ []) c.in_ok-ready.ensures.call)
    in record {
      act = acts (configuration_in c.args.settings.now) c.args.held.now c.args.queue c.in-Present.q c.args.bytes.now None None (answer_mark (call_of c.args.call.now) answers.Fine ∷ [])
          (inject_plan (configuration_in c.args.settings.now) (call_of c.args.call.now) c.args.queue c.args.bytes.now) ready (holding c.take_given.new.held) (told c.in-Present.q None c.answer-marks.result) c.take_given.new.marks c.in_ok-take_given.field-0 first
          arrived c.of-to.result c.of-to.ensures c.as_slice-2.result.now c.as_slice-2.ensures (holding c.put_done.new.held) c.put_done.ensures (holding c.put_done.new.held) refl;
    }

pub returns-in_err-take_given : goal.returns-in_err-take_given
returns-in_err-take_given c =
    let there : (holding c.args.held.now).world.queue c.args.queue ≡ Present c.in-Present.q = sym c.queue.ensures ∙ ap slot_of c.in-Present.is
    in let ready = inject_ready (configuration_in c.args.settings.now) c.args.held.now c.requires.parts c.args.queue c.in-Present.q there c.requires.step (call_of c.args.call.now) c.args.bytes.now
    c.requires.suffices c.requires.needs c.requires.named
    in record {
      act = ends_unchanged (configuration_in c.args.settings.now) c.args.held.now c.args.queue c.in-Present.q c.args.bytes.now None None (answer_mark (call_of c.args.call.now) answers.Fine ∷ [])
          (inject_plan (configuration_in c.args.settings.now) (call_of c.args.call.now) c.args.queue c.args.bytes.now) ready (holding c.take_given.new.held) (told c.in-Present.q None c.answer-marks.result) c.take_given.new.marks _
          (subst (λ bytes. HasArrived c.args.queue (Err _) (outcome_of c.args.held.now bytes None c.in-Present.q).ending (outcome_of c.args.held.now bytes None c.in-Present.q).ended
          c.in-Present.q c.args.held.now (holding c.take_given.new.held) (told c.in-Present.q None c.answer-marks.result) c.take_given.new.marks) c.as_slice.ensures (c.in_err-take_given.ensures c.in-Present.q there))
          c.from_residual-in_err-take_given.result c.from_residual-in_err-take_given.ensures.1;
    }
