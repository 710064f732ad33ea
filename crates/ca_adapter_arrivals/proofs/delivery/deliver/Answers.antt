use Rattle.std.proofs.Common.{◌≡◌, ◌∙◌, [], ◌∷◌, ◌++◌, Some, IfSome, IsTrue, ap, subst, sym, true}
use Rattle.ca_base.specs.Configuration.{configuration_in}
use Rattle.ca_base.specs.objects.Mailbox.{after_delivery, bytes_lent}
use Rattle.ca_base.specs.objects.QueuePair.{Present}
use Rattle.ca_base.specs.objects.Slices.{has_queue}
use Rattle.ca_adapter_parts.specs.HeldView.{hold, holding}
use Rattle.ca_adapter_parts.specs.Parts.{slot_of}
use Rattle.ca_mailbox.specs.Counting.{is_countable}
use Rattle.ca_model.specs.declared.mark.Mark.TheVariants as marks
use Rattle.ca_model.specs.machine.Delivery.{deliver_plan}
use Rattle.ca_model.specs.machine.World.{Mailbox_of}
use Rattle.ca_adapter_arrivals.proofs.ArriveLemmas.{acts, all_held, ends_unchanged, mail_same, receives_fit, recv_held, send_held, sends_fit}
use Rattle.ca_adapter_arrivals.proofs.DeliverLemmas.{deliver_ready}
use Rattle.ca_adapter_arrivals.proofs.PlanLemmas.{deliver_mailbox}
use Rattle.ca_adapter_arrivals.specs.Arrived.{told}
use Rattle.ca_adapter_arrivals.proofs.delivery.deliver.Goals as goal

pub take_lent-requires-clause-can : goal.take_lent-requires-clause-can
take_lent-requires-clause-can c = λ q bytes there lent.
    (deliver_ready (configuration_in c.args.settings.now) c.args.held.now c.requires.parts c.args.queue q there c.requires.step c.args.index bytes
    c.requires.suffices c.requires.needs (sym c.has_queue.ensures.value ∙ c.if-not-has_queue.false) lent).can

pub put_done-requires-clause-send : goal.put_done-requires-clause-send
put_done-requires-clause-send c =
    let there : (holding c.args.held.now).world.queue c.args.queue ≡ Present c.in-Present.q = sym c.queue.ensures ∙ ap slot_of c.in-Present.is
    in let has : has_queue (configuration_in c.args.settings.now) c.args.queue ≡ true = sym c.has_queue.ensures.value ∙ c.if-not-has_queue.false
    in let lent : bytes_lent c.args.index ((holding c.args.held.now).world.mailbox c.args.queue) ≡ Some c.in-Ok.field-0.now = ap (bytes_lent c.args.index) (sym c.mailbox.ensures) ∙ c.in-Ok.ensures.ok
    in let ready = deliver_ready (configuration_in c.args.settings.now) c.args.held.now c.requires.parts c.args.queue c.in-Present.q there c.requires.step c.args.index c.in-Ok.field-0.now
    c.requires.suffices c.requires.needs has lent
    in let first : c.reserve.new.self.marks ++ marks.Arrived c.in-Present.q.queue (Some c.args.index) ∷ [] ≡ marks.Arrived c.in-Present.q.queue (Some c.args.index) ∷ [] =
    ap (λ xs. xs ++ marks.Arrived c.in-Present.q.queue (Some c.args.index) ∷ []) (c.reserve.ensures.same ∙ c.empty-marks.ensures)
    in send_held (configuration_in c.args.settings.now) c.args.held.now c.args.queue c.in-Present.q c.in-Ok.field-0.now (Some c.args.index)
    (Some (after_delivery c.args.index ((holding c.args.held.now).world.mailbox c.args.queue))) [] (deliver_plan (configuration_in c.args.settings.now) c.args.queue c.args.index) ready (holding c.take_lent.new.held) (told c.in-Present.q (Some c.args.index) c.reserve.new.self) c.take_lent.new.marks c.in_ok-take_lent.field-0 first
    (c.in_ok-take_lent.ensures c.in-Present.q c.in-Ok.field-0.now there lent) c.of-to.result c.of-to.ensures c.as_slice.result.now c.as_slice.ensures

pub put_done-requires-clause-recv : goal.put_done-requires-clause-recv
put_done-requires-clause-recv c =
    let there : (holding c.args.held.now).world.queue c.args.queue ≡ Present c.in-Present.q = sym c.queue.ensures ∙ ap slot_of c.in-Present.is
    in let has : has_queue (configuration_in c.args.settings.now) c.args.queue ≡ true = sym c.has_queue.ensures.value ∙ c.if-not-has_queue.false
    in let lent : bytes_lent c.args.index ((holding c.args.held.now).world.mailbox c.args.queue) ≡ Some c.in-Ok.field-0.now = ap (bytes_lent c.args.index) (sym c.mailbox.ensures) ∙ c.in-Ok.ensures.ok
    in let ready = deliver_ready (configuration_in c.args.settings.now) c.args.held.now c.requires.parts c.args.queue c.in-Present.q there c.requires.step c.args.index c.in-Ok.field-0.now
    c.requires.suffices c.requires.needs has lent
    in let first : c.reserve.new.self.marks ++ marks.Arrived c.in-Present.q.queue (Some c.args.index) ∷ [] ≡ marks.Arrived c.in-Present.q.queue (Some c.args.index) ∷ [] =
    ap (λ xs. xs ++ marks.Arrived c.in-Present.q.queue (Some c.args.index) ∷ []) (c.reserve.ensures.same ∙ c.empty-marks.ensures)
    in recv_held (configuration_in c.args.settings.now) c.args.held.now c.args.queue c.in-Present.q c.in-Ok.field-0.now (Some c.args.index)
    (Some (after_delivery c.args.index ((holding c.args.held.now).world.mailbox c.args.queue))) [] (deliver_plan (configuration_in c.args.settings.now) c.args.queue c.args.index) ready (holding c.take_lent.new.held) (told c.in-Present.q (Some c.args.index) c.reserve.new.self) c.take_lent.new.marks c.in_ok-take_lent.field-0 first
    (c.in_ok-take_lent.ensures c.in-Present.q c.in-Ok.field-0.now there lent) c.of-to.result c.of-to.ensures c.as_slice.result.now c.as_slice.ensures

pub put_done-requires-clause-sends : goal.put_done-requires-clause-sends
put_done-requires-clause-sends c =
    let there : (holding c.args.held.now).world.queue c.args.queue ≡ Present c.in-Present.q = sym c.queue.ensures ∙ ap slot_of c.in-Present.is
    in let has : has_queue (configuration_in c.args.settings.now) c.args.queue ≡ true = sym c.has_queue.ensures.value ∙ c.if-not-has_queue.false
    in let lent : bytes_lent c.args.index ((holding c.args.held.now).world.mailbox c.args.queue) ≡ Some c.in-Ok.field-0.now = ap (bytes_lent c.args.index) (sym c.mailbox.ensures) ∙ c.in-Ok.ensures.ok
    in let ready = deliver_ready (configuration_in c.args.settings.now) c.args.held.now c.requires.parts c.args.queue c.in-Present.q there c.requires.step c.args.index c.in-Ok.field-0.now
    c.requires.suffices c.requires.needs has lent
    in let first : c.reserve.new.self.marks ++ marks.Arrived c.in-Present.q.queue (Some c.args.index) ∷ [] ≡ marks.Arrived c.in-Present.q.queue (Some c.args.index) ∷ [] =
    ap (λ xs. xs ++ marks.Arrived c.in-Present.q.queue (Some c.args.index) ∷ []) (c.reserve.ensures.same ∙ c.empty-marks.ensures)
    in sends_fit (configuration_in c.args.settings.now) c.args.held.now c.args.queue c.in-Present.q c.in-Ok.field-0.now (Some c.args.index)
    (Some (after_delivery c.args.index ((holding c.args.held.now).world.mailbox c.args.queue))) [] (deliver_plan (configuration_in c.args.settings.now) c.args.queue c.args.index) ready (holding c.take_lent.new.held) (told c.in-Present.q (Some c.args.index) c.reserve.new.self) c.take_lent.new.marks c.in_ok-take_lent.field-0 first
    (c.in_ok-take_lent.ensures c.in-Present.q c.in-Ok.field-0.now there lent) c.of-to.result c.of-to.ensures c.as_slice.result.now c.as_slice.ensures c.requires.fits

pub put_done-requires-clause-receives : goal.put_done-requires-clause-receives
put_done-requires-clause-receives c =
    let there : (holding c.args.held.now).world.queue c.args.queue ≡ Present c.in-Present.q = sym c.queue.ensures ∙ ap slot_of c.in-Present.is
    in let has : has_queue (configuration_in c.args.settings.now) c.args.queue ≡ true = sym c.has_queue.ensures.value ∙ c.if-not-has_queue.false
    in let lent : bytes_lent c.args.index ((holding c.args.held.now).world.mailbox c.args.queue) ≡ Some c.in-Ok.field-0.now = ap (bytes_lent c.args.index) (sym c.mailbox.ensures) ∙ c.in-Ok.ensures.ok
    in let ready = deliver_ready (configuration_in c.args.settings.now) c.args.held.now c.requires.parts c.args.queue c.in-Present.q there c.requires.step c.args.index c.in-Ok.field-0.now
    c.requires.suffices c.requires.needs has lent
    in let first : c.reserve.new.self.marks ++ marks.Arrived c.in-Present.q.queue (Some c.args.index) ∷ [] ≡ marks.Arrived c.in-Present.q.queue (Some c.args.index) ∷ [] =
    ap (λ xs. xs ++ marks.Arrived c.in-Present.q.queue (Some c.args.index) ∷ []) (c.reserve.ensures.same ∙ c.empty-marks.ensures)
    in receives_fit (configuration_in c.args.settings.now) c.args.held.now c.args.queue c.in-Present.q c.in-Ok.field-0.now (Some c.args.index)
    (Some (after_delivery c.args.index ((holding c.args.held.now).world.mailbox c.args.queue))) [] (deliver_plan (configuration_in c.args.settings.now) c.args.queue c.args.index) ready (holding c.take_lent.new.held) (told c.in-Present.q (Some c.args.index) c.reserve.new.self) c.take_lent.new.marks c.in_ok-take_lent.field-0 first
    (c.in_ok-take_lent.ensures c.in-Present.q c.in-Ok.field-0.now there lent) c.of-to.result c.of-to.ensures c.as_slice.result.now c.as_slice.ensures c.requires.fits

pub count-requires-clause-held : goal.count-requires-clause-held
count-requires-clause-held c =
    let there : (holding c.args.held.now).world.queue c.args.queue ≡ Present c.in-Present.q = sym c.queue.ensures ∙ ap slot_of c.in-Present.is
    in let has : has_queue (configuration_in c.args.settings.now) c.args.queue ≡ true = sym c.has_queue.ensures.value ∙ c.if-not-has_queue.false
    in let lent : bytes_lent c.args.index ((holding c.args.held.now).world.mailbox c.args.queue) ≡ Some c.in-Ok.field-0.now = ap (bytes_lent c.args.index) (sym c.mailbox.ensures) ∙ c.in-Ok.ensures.ok
    in let ready = deliver_ready (configuration_in c.args.settings.now) c.args.held.now c.requires.parts c.args.queue c.in-Present.q there c.requires.step c.args.index c.in-Ok.field-0.now
    c.requires.suffices c.requires.needs has lent
    in let first : c.reserve.new.self.marks ++ marks.Arrived c.in-Present.q.queue (Some c.args.index) ∷ [] ≡ marks.Arrived c.in-Present.q.queue (Some c.args.index) ∷ [] =
    ap (λ xs. xs ++ marks.Arrived c.in-Present.q.queue (Some c.args.index) ∷ []) (c.reserve.ensures.same ∙ c.empty-marks.ensures)
    in subst (λ f. f (Mailbox_of c.args.queue) ≡ true) (sym (all_held (configuration_in c.args.settings.now) c.args.held.now c.args.queue c.in-Present.q c.in-Ok.field-0.now (Some c.args.index)
    (Some (after_delivery c.args.index ((holding c.args.held.now).world.mailbox c.args.queue))) [] (deliver_plan (configuration_in c.args.settings.now) c.args.queue c.args.index) ready (holding c.take_lent.new.held) (told c.in-Present.q (Some c.args.index) c.reserve.new.self) c.take_lent.new.marks c.in_ok-take_lent.field-0 first
    (c.in_ok-take_lent.ensures c.in-Present.q c.in-Ok.field-0.now there lent) c.of-to.result c.of-to.ensures c.as_slice.result.now c.as_slice.ensures (holding c.put_done.new.held) c.put_done.ensures))
    (deliver_mailbox (configuration_in c.args.settings.now) (holding c.args.held.now) c.args.queue c.args.index has c.requires.suffices)

pub count-requires-clause-left : goal.count-requires-clause-left
count-requires-clause-left c =
    let there : (holding c.args.held.now).world.queue c.args.queue ≡ Present c.in-Present.q = sym c.queue.ensures ∙ ap slot_of c.in-Present.is
    in let has : has_queue (configuration_in c.args.settings.now) c.args.queue ≡ true = sym c.has_queue.ensures.value ∙ c.if-not-has_queue.false
    in let lent : bytes_lent c.args.index ((holding c.args.held.now).world.mailbox c.args.queue) ≡ Some c.in-Ok.field-0.now = ap (bytes_lent c.args.index) (sym c.mailbox.ensures) ∙ c.in-Ok.ensures.ok
    in let ready = deliver_ready (configuration_in c.args.settings.now) c.args.held.now c.requires.parts c.args.queue c.in-Present.q there c.requires.step c.args.index c.in-Ok.field-0.now
    c.requires.suffices c.requires.needs has lent
    in let first : c.reserve.new.self.marks ++ marks.Arrived c.in-Present.q.queue (Some c.args.index) ∷ [] ≡ marks.Arrived c.in-Present.q.queue (Some c.args.index) ∷ [] =
    ap (λ xs. xs ++ marks.Arrived c.in-Present.q.queue (Some c.args.index) ∷ []) (c.reserve.ensures.same ∙ c.empty-marks.ensures)
    in subst (λ m. IsTrue (is_countable c.args.index m)) (sym (ap (λ f. f c.args.queue) (mail_same (configuration_in c.args.settings.now) c.args.held.now c.args.queue c.in-Present.q c.in-Ok.field-0.now (Some c.args.index)
    (Some (after_delivery c.args.index ((holding c.args.held.now).world.mailbox c.args.queue))) [] (deliver_plan (configuration_in c.args.settings.now) c.args.queue c.args.index) ready (holding c.take_lent.new.held) (told c.in-Present.q (Some c.args.index) c.reserve.new.self) c.take_lent.new.marks c.in_ok-take_lent.field-0 first
    (c.in_ok-take_lent.ensures c.in-Present.q c.in-Ok.field-0.now there lent) c.of-to.result c.of-to.ensures c.as_slice.result.now c.as_slice.ensures (holding c.put_done.new.held) c.put_done.ensures)))
    (subst (λ o. IfSome o (λ bytes. IsTrue (is_countable c.args.index ((holding c.args.held.now).world.mailbox c.args.queue)))) lent c.requires.count)

pub returns : goal.returns
returns c =
    let there : (holding c.args.held.now).world.queue c.args.queue ≡ Present c.in-Present.q = sym c.queue.ensures ∙ ap slot_of c.in-Present.is
    in let has : has_queue (configuration_in c.args.settings.now) c.args.queue ≡ true = sym c.has_queue.ensures.value ∙ c.if-not-has_queue.false
    in let lent : bytes_lent c.args.index ((holding c.args.held.now).world.mailbox c.args.queue) ≡ Some c.in-Ok.field-0.now = ap (bytes_lent c.args.index) (sym c.mailbox.ensures) ∙ c.in-Ok.ensures.ok
    in let ready = deliver_ready (configuration_in c.args.settings.now) c.args.held.now c.requires.parts c.args.queue c.in-Present.q there c.requires.step c.args.index c.in-Ok.field-0.now
    c.requires.suffices c.requires.needs has lent
    in let first : c.reserve.new.self.marks ++ marks.Arrived c.in-Present.q.queue (Some c.args.index) ∷ [] ≡ marks.Arrived c.in-Present.q.queue (Some c.args.index) ∷ [] =
    ap (λ xs. xs ++ marks.Arrived c.in-Present.q.queue (Some c.args.index) ∷ []) (c.reserve.ensures.same ∙ c.empty-marks.ensures)
    in record {
      act = acts (configuration_in c.args.settings.now) c.args.held.now c.args.queue c.in-Present.q c.in-Ok.field-0.now (Some c.args.index)
          (Some (after_delivery c.args.index ((holding c.args.held.now).world.mailbox c.args.queue))) [] (deliver_plan (configuration_in c.args.settings.now) c.args.queue c.args.index) ready (holding c.take_lent.new.held) (told c.in-Present.q (Some c.args.index) c.reserve.new.self) c.take_lent.new.marks c.in_ok-take_lent.field-0 first
          (c.in_ok-take_lent.ensures c.in-Present.q c.in-Ok.field-0.now there lent) c.of-to.result c.of-to.ensures c.as_slice.result.now c.as_slice.ensures (holding c.put_done.new.held) c.put_done.ensures (holding c.count.new.held)
          (c.count.ensures ∙ ap (λ m. hold (holding c.put_done.new.held) (Mailbox_of c.args.queue) (after_delivery c.args.index m)) (ap (λ f. f c.args.queue) (mail_same (configuration_in c.args.settings.now) c.args.held.now c.args.queue c.in-Present.q c.in-Ok.field-0.now (Some c.args.index)
          (Some (after_delivery c.args.index ((holding c.args.held.now).world.mailbox c.args.queue))) [] (deliver_plan (configuration_in c.args.settings.now) c.args.queue c.args.index) ready (holding c.take_lent.new.held) (told c.in-Present.q (Some c.args.index) c.reserve.new.self) c.take_lent.new.marks c.in_ok-take_lent.field-0 first
          (c.in_ok-take_lent.ensures c.in-Present.q c.in-Ok.field-0.now there lent) c.of-to.result c.of-to.ensures c.as_slice.result.now c.as_slice.ensures (holding c.put_done.new.held) c.put_done.ensures)));
    }

pub returns-in_err-take_lent : goal.returns-in_err-take_lent
returns-in_err-take_lent c =
    let there : (holding c.args.held.now).world.queue c.args.queue ≡ Present c.in-Present.q = sym c.queue.ensures ∙ ap slot_of c.in-Present.is
    in let has : has_queue (configuration_in c.args.settings.now) c.args.queue ≡ true = sym c.has_queue.ensures.value ∙ c.if-not-has_queue.false
    in let lent : bytes_lent c.args.index ((holding c.args.held.now).world.mailbox c.args.queue) ≡ Some c.in-Ok.field-0.now = ap (bytes_lent c.args.index) (sym c.mailbox.ensures) ∙ c.in-Ok.ensures.ok
    in let ready = deliver_ready (configuration_in c.args.settings.now) c.args.held.now c.requires.parts c.args.queue c.in-Present.q there c.requires.step c.args.index c.in-Ok.field-0.now
    c.requires.suffices c.requires.needs has lent
    in record {
      act = ends_unchanged (configuration_in c.args.settings.now) c.args.held.now c.args.queue c.in-Present.q c.in-Ok.field-0.now (Some c.args.index)
          (Some (after_delivery c.args.index ((holding c.args.held.now).world.mailbox c.args.queue))) [] (deliver_plan (configuration_in c.args.settings.now) c.args.queue c.args.index) ready (holding c.take_lent.new.held) (told c.in-Present.q (Some c.args.index) c.reserve.new.self) c.take_lent.new.marks _
          (c.in_err-take_lent.ensures c.in-Present.q c.in-Ok.field-0.now there lent) c.from_residual-in_err-take_lent.result c.from_residual-in_err-take_lent.ensures.1;
    }
