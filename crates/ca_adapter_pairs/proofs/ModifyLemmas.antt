-- What ModifyQp comes to, by what is held. For proofs only.
use Rattle.std.proofs.Common.{◌≡◌, ◌∙◌, refl, sym, subst, ap, ℕ, suc, Bool, true, false, List, [], ◌∷◌, Ok, Option, None, Some, is_some, if◌then◌else◌, true≢false}
use Rattle.std.specs.Option.{option_map_or}
use Rattle.ca_adapter_acts.specs.Act.{IsAct}
use Rattle.ca_adapter_acts.specs.Binders.{changed_by}
use Rattle.ca_base.specs.Configuration.{Configuration}
use Rattle.ca_base.specs.declared.change.Change.{Change}
use Rattle.ca_base.specs.declared.change.Change.TheVariants as changes
use Rattle.ca_base.specs.declared.change.ModifyRefusal.{ModifyRefusal}
use Rattle.ca_base.specs.declared.completion.Completion.{Completion}
use Rattle.ca_base.specs.objects.QueuePair.{NoQueue, Present, QueuePair, QueueSlot, recv_cq_of, send_cq_of}
use Rattle.ca_base.specs.objects.StateTable.{modify_refusals}
use Rattle.ca_adapter_parts.specs.HeldView.{Holding, hold}
use Rattle.ca_keys.specs.declared.names.QueueId.{QueueId}
use Rattle.ca_keys.specs.declared.names.Slot.{Slot}
use Rattle.ca_keys.specs.Numbers.{queue_of}
use Rattle.ca_keys.specs.Refusals.{first_of}
use Rattle.ca_model.proofs.ThingLemmas.{slot-path}
use Rattle.ca_model.specs.Answers.{refusal_of_change}
use Rattle.ca_model.specs.declared.answer.Answer.TheVariants as answers
use Rattle.ca_model.specs.declared.answer.Refusal.{Refusal}
use Rattle.ca_model.specs.declared.answer.Refusal.TheVariants as refusals
use Rattle.ca_model.specs.Marks.{MarkList}
use Rattle.ca_model.specs.machine.Around.{completions_to}
use Rattle.ca_model.specs.machine.Frame.{AllPass}
use Rattle.ca_model.specs.machine.Plan.{Did, Outcome, Plan, ◌:=◌, perform, put_all, touches}
use Rattle.ca_model.specs.machine.QueuePairVerbs.{emptied_mailbox, modify_qp_plan}
use Rattle.ca_model.specs.machine.VerbAnswers.{Answer_plan, Call, Unless_plan, answer_mark, of_change_refusals}
use Rattle.ca_model.specs.machine.World.{Mailbox_of, Queue_of, World, put}
use Rattle.ca_adapter_pairs.specs.declared.around.Around.{Around}
use Rattle.ca_adapter_pairs.specs.declared.departure.Departure.TheVariants.{Reset}
use Rattle.ca_adapter_pairs.specs.Changed.{CanChange, CanChangeAround, around_updates, changed_updates, marks_of_change, reset_updates, slot_after}
use Rattle.ca_adapter_pairs.specs.Departures.{departure_updates, is_around_held}
use Rattle.ca_adapter_pairs.specs.Names.{names_around}

abbrev refused : World → Call → Refusal → Outcome
refused w call r = Did w (answer_mark call (answers.Refused r) ∷ [])

first-none : (w : World) (call : Call) (p : Plan) (tests : List (Bool × ModifyRefusal)) → first_of tests ≡ None
    → perform w (Unless_plan call (of_change_refusals tests) p) ≡ perform w p
first-none w call p [] e = refl
first-none w call p (t ∷ ts) e = by t.0 e (first-none w call p ts)
  where
    by : (b : Bool) → (if b then Some t.1 else first_of ts) ≡ None
        → (first_of ts ≡ None → perform w (Unless_plan call (of_change_refusals ts) p) ≡ perform w p)
        → (if b then refused w call (refusal_of_change t.1) else perform w (Unless_plan call (of_change_refusals ts) p)) ≡ perform w p
    by true e again = absurd (true≢false (ap is_some e))
    by false e again = again e

first-some : (w : World) (call : Call) (p : Plan) (tests : List (Bool × ModifyRefusal)) (r : ModifyRefusal) → first_of tests ≡ Some r
    → perform w (Unless_plan call (of_change_refusals tests) p) ≡ refused w call (refusal_of_change r)
first-some w call p [] r e = absurd (true≢false (sym (ap is_some e)))
first-some w call p (t ∷ ts) r e = by t.0 e (first-some w call p ts r)
  where
    by : (b : Bool) → (if b then Some t.1 else first_of ts) ≡ Some r
        → (first_of ts ≡ Some r → perform w (Unless_plan call (of_change_refusals ts) p) ≡ refused w call (refusal_of_change r))
        → (if b then refused w call (refusal_of_change t.1) else perform w (Unless_plan call (of_change_refusals ts) p)) ≡ refused w call (refusal_of_change r)
    by true e again = ap (λ o. option_map_or (λ x. refused w call (refusal_of_change x)) o (refused w call (refusal_of_change r))) e
    by false e again = again e

module _ (c : Configuration) (call : Call) (w : World) (s : Slot) where
  pub none_there : (change : Change) (incarnation timers : ℕ) → w.queue (queue_of s) ≡ NoQueue incarnation timers
      → perform w (modify_qp_plan c call s change) ≡ refused w call refusals.NoSuch
  none_there change incarnation timers there = rw (there, perform) refl

  -- what is done where nothing refuses the change
  abbrev accepted : QueuePair → Change → Plan
  accepted q change = Answer_plan call answers.Fine (changed_updates q.queue q change w) (marks_of_change q change)

  abbrev is_settled : QueuePair → Change → Type 0
  is_settled q change = perform w (modify_qp_plan c call s change)
      ≡ perform w (Unless_plan call (of_change_refusals (modify_refusals c q change)) (accepted q change))

  settled-by : (change : Change) (o : Option ℕ) (q : QueuePair) → w.queue (queue_of s) ≡ Present (record q { srq = o })
      → is_settled (record q { srq = o }) change
  settled-by changes.Init None q there = rw (there, perform) refl
  settled-by changes.Init (Some srq) q there = rw (there, perform) refl
  settled-by (changes.Rtr peer incarnation psn mtu rnr_code) None q there = rw (there, perform) refl
  settled-by (changes.Rtr peer incarnation psn mtu rnr_code) (Some srq) q there = rw (there, perform) refl
  settled-by (changes.Rts psn retry rnr_retry reads) None q there = rw (there, perform) refl
  settled-by (changes.Rts psn retry rnr_retry reads) (Some srq) q there = rw (there, perform) refl
  settled-by changes.Sqd None q there = rw (there, perform) refl
  settled-by changes.Sqd (Some srq) q there = rw (there, perform) refl
  settled-by changes.Resume None q there = rw (there, perform) refl
  settled-by changes.Resume (Some srq) q there = rw (there, perform) refl
  settled-by changes.Error None q there = rw (there, perform) refl
  settled-by changes.Error (Some srq) q there = rw (there, perform) refl
  settled-by changes.Reset None q there = rw (there, perform) refl
  settled-by changes.Reset (Some srq) q there = rw (there, perform) refl

  modify_refused : (change : Change) (q : QueuePair) (r : ModifyRefusal) → w.queue (queue_of s) ≡ Present q
      → first_of (modify_refusals c q change) ≡ Some r → perform w (modify_qp_plan c call s change) ≡ refused w call (refusal_of_change r)
  modify_refused change q r there first = settled-by change q.srq q there ∙ first-some w call (accepted q change) (modify_refusals c q change) r first

  abbrev pub out : QueuePair → Change → QueueId → Outcome
  out q change n = Did (put_all (changed_updates n q change w) w) (answer_mark call answers.Fine ∷ marks_of_change q change)

  pub modify_done : (change : Change) (q : QueuePair) → w.queue (queue_of s) ≡ Present q → first_of (modify_refusals c q change) ≡ None
      → perform w (modify_qp_plan c call s change) ≡ out q change q.queue
  modify_done change q there none = settled-by change q.srq q there ∙ first-none w call (accepted q change) (modify_refusals c q change) none

-- what is held
pub record IsAllHeld (s : Slot) (q : QueuePair) (h : Holding) : Type 0 where
  pub mailbox : h.has (Mailbox_of q.queue) ≡ true
  pub around : is_around_held (names_around q) h ≡ true

pub modify_held : (c : Configuration) (call : Call) (h : Holding) (s : Slot) (change : Change) (q : QueuePair)
    → AllPass h.has (touches h.world (modify_qp_plan c call s change)) → h.world.queue (queue_of s) ≡ Present q → IsAllHeld s q h
modify_held c call h s change q = by q.srq
  where
    by : (o : Option ℕ) → AllPass h.has (touches h.world (modify_qp_plan c call s change))
        → h.world.queue (queue_of s) ≡ Present (record q { srq = o }) → IsAllHeld s (record q { srq = o }) h
    by None all there = let t = rw there at all in record { mailbox = t.1.0; around = rw (t.1.1.0, t.1.1.1.0) refl }
    by (Some srq) all there = let t = rw there at all in record { mailbox = t.1.0; around = rw (t.1.1.0, t.1.1.1.0, t.1.1.1.1.0) refl }

-- a queue pair that was emptied, and its mailbox
pub reset_left : (h mid new : Holding) (a : Around) (own : ℕ) → mid ≡ changed_by (departure_updates Reset a h.world) h
    → new ≡ hold mid (Mailbox_of a.queue) (emptied_mailbox (suc own) (mid.world.mailbox a.queue))
    → new ≡ changed_by (reset_updates a own h.world) h
reset_left h mid new a own = by a.srq
  where
    by : (o : Option Slot) → mid ≡ changed_by (departure_updates Reset (record a { srq = o }) h.world) h
        → new ≡ hold mid (Mailbox_of a.queue) (emptied_mailbox (suc own) (mid.world.mailbox a.queue))
        → new ≡ changed_by (reset_updates (record a { srq = o }) own h.world) h
    by None left closed = closed ∙ ap (λ v. hold v (Mailbox_of a.queue) (emptied_mailbox (suc own) (v.world.mailbox a.queue))) left
    by (Some srq) left closed = closed ∙ ap (λ v. hold v (Mailbox_of a.queue) (emptied_mailbox (suc own) (v.world.mailbox a.queue))) left

-- around a queue pair that was changed, the rest of the change can be made
pub can_around : (c : Configuration) (change : Change) (q : QueuePair) (h mid : Holding) (n : QueueId) (v : QueueSlot) (sends receives : List Completion)
    → first_of (modify_refusals c q change) ≡ None → CanChange c change q h.world → mid ≡ hold h (Queue_of n) v
    → sends ≡ completions_to q q.send_cq (marks_of_change q change) → receives ≡ completions_to q q.recv_cq (marks_of_change q change)
    → CanChangeAround (names_around q) change sends receives mid.world
can_around c change q h mid n v sends receives none can is is-sends is-receives =
    subst (λ m. CanChangeAround (names_around q) change sends receives m.world) (sym is)
    (subst (λ cs. CanChangeAround (names_around q) change cs receives (put h.world (Queue_of n) v)) (sym is-sends)
    (subst (λ cs. CanChangeAround (names_around q) change (completions_to q q.send_cq (marks_of_change q change)) cs (put h.world (Queue_of n) v)) (sym is-receives)
    (by change none can)))
  where
    by : (change : Change) → first_of (modify_refusals c q change) ≡ None → CanChange c change q h.world
        → CanChangeAround (names_around q) change (completions_to q q.send_cq (marks_of_change q change))
        (completions_to q q.recv_cq (marks_of_change q change)) (put h.world (Queue_of n) v)
    by changes.Error none can = (
      (can none).0,
      (can none).1,
      λ same. ap (λ t. completions_to q t.slot (marks_of_change q changes.Error)) (slot-path (send_cq_of q) (recv_cq_of q) same),
    )
    by changes.Reset none can = record { send = can.send; recv = can.recv; places = can.places }
    by changes.Init none can = record {}
    by (changes.Rtr peer incarnation psn mtu rnr_code) none can = record {}
    by (changes.Rts psn retry rnr_retry reads) none can = record {}
    by changes.Sqd none can = record {}
    by changes.Resume none can = record {}

module _ (n : QueueId) (v : QueueSlot) (h : Holding) (a : Around) (own : ℕ) (sends receives : List Completion) where
  together : (change : Change)
      → changed_by (around_updates a own change sends receives (put h.world (Queue_of n) v)) (hold h (Queue_of n) v)
      ≡ record h { world = put_all ((Queue_of n := v) ∷ around_updates a own change sends receives h.world) h.world }
  together changes.Error = refl
  together changes.Reset = refl
  together changes.Init = refl
  together (changes.Rtr peer incarnation psn mtu rnr_code) = refl
  together (changes.Rts psn retry rnr_retry reads) = refl
  together changes.Sqd = refl
  together changes.Resume = refl

pub modify_acts : (c : Configuration) (call : Call) (s : Slot) (change : Change) (h mid new : Holding) (m : MarkList) (q : QueuePair) (sends receives : List Completion)
    → h.world.queue (queue_of s) ≡ Present q → q.queue ≡ queue_of s → first_of (modify_refusals c q change) ≡ None
    → sends ≡ completions_to q q.send_cq (marks_of_change q change) → receives ≡ completions_to q q.recv_cq (marks_of_change q change)
    → mid ≡ hold h (Queue_of (queue_of s)) (slot_after change (h.world.queue (queue_of s)))
    → new ≡ changed_by (around_updates (names_around q) q.incarnation change sends receives mid.world) mid
    → m.marks ≡ answer_mark call answers.Fine ∷ marks_of_change q change
    → IsAct (Ok m) (perform h.world (modify_qp_plan c call s change)) h new
modify_acts c call s change h mid new m q sends receives there named none is-sends is-receives is-mid is-new marks =
    subst (λ o. IsAct (Ok m) o h new)
    (sym (modify_done c call h.world s change q there none ∙ ap (out c call h.world s q change) named)) (
      marks,
      is-new ∙ ap (λ v. changed_by (around_updates (names_around q) q.incarnation change sends receives v.world) v) changed
          ∙ together (queue_of s) (slot_after change (Present q)) h (names_around q) q.incarnation sends receives change
          ∙ ap (λ cs. after cs receives) is-sends ∙ ap (λ cs. after (completions_to q q.send_cq (marks_of_change q change)) cs) is-receives,
    )
  where
    changed : mid ≡ hold h (Queue_of (queue_of s)) (slot_after change (Present q))
    changed = is-mid ∙ ap (λ v. hold h (Queue_of (queue_of s)) (slot_after change v)) there

    after : List Completion → List Completion → Holding
    after xs ys = record h { world = put_all ((Queue_of (queue_of s) := slot_after change (Present q)) ∷ around_updates (names_around q) q.incarnation change xs ys h.world) h.world }

pub refused_acts : (c : Configuration) (call : Call) (s : Slot) (change : Change) (h : Holding) (m : MarkList) (q : QueuePair) (r : ModifyRefusal)
    → h.world.queue (queue_of s) ≡ Present q → first_of (modify_refusals c q change) ≡ Some r
    → m.marks ≡ answer_mark call (answers.Refused (refusal_of_change r)) ∷ [] → IsAct (Ok m) (perform h.world (modify_qp_plan c call s change)) h h
refused_acts c call s change h m q r there first marks =
    subst (λ o. IsAct (Ok m) o h h) (sym (modify_refused c call h.world s change q r there first)) (marks, refl)
