-- A delivery and an injection, as bytes are to arrive. For proofs only.
use Rattle.std.proofs.Common.{◌≡◌, refl, ℕ, true, List, [], ◌∷◌, ◌++◌, Option, None, Some, IfSome}
use Rattle.ca_adapter_turns.specs.ca_adapter_acts.Act.{Suffices}
use Rattle.ca_adapter_arrivals.specs.Arrived.{CanArrive}
use Rattle.ca_adapter_arrivals.proofs.ArriveLemmas.{IsToArrive, around, mail_put}
use Rattle.ca_adapter_arrivals.proofs.PlanLemmas.{deliver-arrives, deliver-touches, deliver_queue, inject-arrives, inject-touches, inject_queue}
use Rattle.ca_adapter_arrivals.proofs.ReadyLemmas.{can-arrive, is-named}
use Rattle.ca_adapter_turns.specs.Shown.{AreShown}
use Rattle.ca_adapter_turns.proofs.TurnLemmas.{IsAroundHeld, of-present}
use Rattle.ca_base.specs.Configuration.{Configuration}
use Rattle.ca_base.specs.objects.Mailbox.{Mailbox, after_delivery, bytes_lent}
use Rattle.ca_base.specs.objects.QueuePair.{Present, QueuePair, queue_in}
use Rattle.ca_base.specs.objects.Slices.{has_queue}
use Rattle.ca_adapter_parts.specs.declared.held.Held.{Held}
use Rattle.ca_adapter_parts.specs.HeldView.{holding}
use Rattle.ca_keys.specs.declared.names.QueueId.{QueueId}
use Rattle.ca_law_parts.proofs.Parts.HeldLemmas.{deliver-held, inject-held}
use Rattle.ca_model.proofs.PerformLemmas.{around_at}
use Rattle.ca_model.specs.declared.answer.Answer.TheVariants as answers
use Rattle.ca_model.specs.declared.event.Event.TheVariants as events
use Rattle.ca_model.specs.declared.mark.Mark.{Mark}
use Rattle.ca_model.specs.declared.mark.Mark.TheVariants as marks
use Rattle.ca_model.specs.declared.verb.Verb.TheVariants as verbs
use Rattle.ca_model.specs.machine.Around.{updates_of}
use Rattle.ca_model.specs.machine.CanStep.{CanStep}
use Rattle.ca_model.specs.machine.Delivery.{Arrive, arrival_row, deliver_plan}
use Rattle.ca_model.specs.machine.Frame.{AllPass}
use Rattle.ca_model.specs.machine.HostVerbs.{inject_plan}
use Rattle.ca_model.specs.machine.Parts.{event_needs, next_part, row_needs}
use Rattle.ca_model.specs.machine.Plan.{Finish, Plan, Update, Write, touches}
use Rattle.ca_model.specs.machine.Row.{Effects, Row, Row_plan}
use Rattle.ca_model.specs.machine.Seen.{shared_receives}
use Rattle.ca_model.specs.machine.VerbAnswers.{Call, answer_mark}
use Rattle.ca_model.specs.machine.World.{Queue_of}
use Rattle.ca_adapter_turns.specs.ca_adapter_reach_laws.Ties.{IsVacantOutside}
use Rattle.ca_adapter_turns.proofs.of_ca_adapter_reach_laws.RowLemmas.{rows-at-hand}
use Rattle.ca_adapter_turns.proofs.of_ca_adapter_reach_laws.SightLemmas.{vacant-outside}

module _ (c : Configuration) (h : Held) (shown : AreShown c h) (name : QueueId) (q : QueuePair) (there : (holding h).world.queue name ≡ Present q)
    (step : IfSome (queue_in ((holding h).world.queue name)) CanStep) where
  outside : IsVacantOutside c (holding h).world
  outside = vacant-outside c h shown.world shown.outside shown.shows

  may-arrive : (bytes : List ℕ) (envelope : Option ℕ) (mail : Option Mailbox) (front : List Mark) → (holding h).has (Queue_of name) ≡ true
      → AllPass (holding h).has (touches (holding h).world (Arrive c q bytes envelope (mail_put name mail) front))
      → next_part (holding h).parts (holding h).world (row_needs c (arrival_row bytes envelope (shared_receives (holding h).world q) q)) ≡ None
      → CanArrive h bytes envelope q
  may-arrive bytes envelope mail front has all next = can-arrive c h shown name q has there bytes envelope (of-present CanStep ((holding h).world.queue name) q there step) held.shared next
      (rows-at-hand c h shown.world row finish shown.sound shown.bound shown.outside shown.shows held.rest)
    where
      row : Row
      row = arrival_row bytes envelope (shared_receives (holding h).world q) q

      finish : Effects → List Update → List Write → Plan
      finish e more writes = Finish (mail_put name mail ++ (updates_of q (around_at (holding h).world q) e ++ more)) writes (front ++ marks.Arrived q.queue envelope ∷ e.marks)

      held : IsAroundHeld (holding h) q (Row_plan c row finish)
      held = around c h name q bytes envelope mail front outside all

  pub deliver_ready : (index : ℕ) (bytes : List ℕ) → Suffices h (deliver_plan c name index)
      → next_part (holding h).parts (holding h).world (event_needs c (events.Deliver name index)) ≡ None → has_queue c name ≡ true
      → bytes_lent index ((holding h).world.mailbox name) ≡ Some bytes
      → IsToArrive c h name q bytes (Some index) (Some (after_delivery index ((holding h).world.mailbox name))) [] (deliver_plan c name index)
  deliver_ready index bytes suffices next has lent = record {
    outside = outside;
    comes = deliver-arrives c (holding h) name index has bytes lent q there;
    touched = touched;
    can = may-arrive bytes (Some index) (Some (after_delivery index ((holding h).world.mailbox name))) [] queue touched
        (deliver-held c (holding h).parts (holding h).world name index bytes q has there lent next);
    named = is-named c h shown name q queue there;
    quiet = λ o n ms. refl;
  }
    where
      queue : (holding h).has (Queue_of name) ≡ true
      queue = deliver_queue c (holding h) name index has bytes lent suffices

      touched : AllPass (holding h).has (touches (holding h).world (Arrive c q bytes (Some index) (mail_put name (Some (after_delivery index ((holding h).world.mailbox name)))) []))
      touched = deliver-touches c (holding h) name index has bytes lent q there suffices

  pub inject_ready : (call : Call) (bytes : List ℕ) → Suffices h (inject_plan c call name bytes)
      → next_part (holding h).parts (holding h).world (event_needs c (events.Verb call.by (verbs.Inject name bytes))) ≡ None → has_queue c name ≡ true
      → IsToArrive c h name q bytes None None (answer_mark call answers.Fine ∷ []) (inject_plan c call name bytes)
  inject_ready call bytes suffices next has = record {
    outside = outside;
    comes = inject-arrives c (holding h) call name bytes q there;
    touched = touched;
    can = may-arrive bytes None None (answer_mark call answers.Fine ∷ []) (inject_queue c (holding h) call name bytes suffices) touched
        (inject-held c (holding h).parts (holding h).world call.by name bytes q has there next);
    named = is-named c h shown name q (inject_queue c (holding h) call name bytes suffices) there;
    quiet = λ o n ms. refl;
  }
    where
      touched : AllPass (holding h).has (touches (holding h).world (Arrive c q bytes None (mail_put name None) (answer_mark call answers.Fine ∷ [])))
      touched = inject-touches c (holding h) call name bytes q there suffices
