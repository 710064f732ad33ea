-- What a flush completes fits, and so a change of a queue pair's state can be made. For proofs only.
use Rattle.std.proofs.Common.{◌≡◌, ◌∙◌, ℕ, ◌+◌, ◌-◌, ◌*◌, ◌/◌, ◌%◌, nat_le, ◌≤◌, arith, Bool, true, false, if◌then◌else◌, List, [], ◌∷◌, Option, None, Some, is_some, ap, refl, subst, sym, true≢false}
use Rattle.std.proofs.lemmas.Bool.{and_parts, leb-true}
use Rattle.std.specs.Option.{option_map}
use Rattle.ca_base.specs.Configuration.{Configuration}
use Rattle.ca_base.specs.declared.change.Change.{Change}
use Rattle.ca_base.specs.declared.change.Change.TheVariants as changes
use Rattle.ca_base.specs.declared.change.ModifyRefusal.{ModifyRefusal}
use Rattle.ca_base.specs.declared.completion.Completion.{Completion}
use Rattle.ca_base.specs.objects.CompletionQueue.{CompletionQueue, after_puts}
use Rattle.ca_base.specs.objects.QueuePair.{Present, QueuePair, is_present, recv_cq_of, send_cq_of}
use Rattle.ca_base.specs.objects.Slices.{has_queue, has_slot, slot_of_queue}
use Rattle.ca_base.specs.objects.StateTable.{modify_refusals, queue_after_change}
use Rattle.ca_keys.specs.declared.names.QueueId.{QueueId}
use Rattle.ca_keys.specs.declared.names.Slot.{Slot}
use Rattle.ca_keys.specs.Equal.{slot_eq}
use Rattle.ca_keys.specs.Numbers.{queue_of}
use Rattle.ca_keys.specs.Refusals.{first_of}
use Rattle.ca_model.specs.declared.answer.Answer.TheVariants as answers
use Rattle.ca_model.specs.declared.answer.Refusal.TheVariants as refusals
use Rattle.ca_model.specs.declared.event.Event.{Event}
use Rattle.ca_model.specs.declared.event.Event.TheVariants as events
use Rattle.ca_model.specs.declared.mark.Mark.{Mark}
use Rattle.ca_model.specs.declared.verb.Verb.TheVariants as verbs
use Rattle.ca_model.proofs.ThingLemmas.{slot-path, slot-refl}
use Rattle.ca_model.specs.machine.Around.{completions_to}
use Rattle.ca_model.specs.machine.Completions.{flush_marks}
use Rattle.ca_model.specs.machine.Plan.{Did, Plan, ◌:=◌, perform, put_all}
use Rattle.ca_model.specs.machine.QueuePairVerbs.{modify_qp_plan}
use Rattle.ca_model.specs.machine.Step.{step}
use Rattle.ca_model.specs.machine.VerbAnswers.{Answer_plan, Call, Refuse_plan, Unless_plan, answer_mark, of_change_refusals}
use Rattle.ca_model.specs.machine.World.{Cq_of, Queue_of, World}
use Rattle.ca_adapter_acts.specs.Room.{FitIn}
use Rattle.ca_adapter_pairs.specs.Changed.{CanChange}
use Rattle.ca_law_parts.proofs.Room.EventRoomLemmas.{together-fit}
use Rattle.ca_law_parts.specs.Worlds.{IsWorldAfter}
use Rattle.ca_adapter.proofs.DepartLemmas.{can-depart}

unrefused : (w : World) (call : Call) (p : Plan) (tests : List (Bool × ModifyRefusal)) → first_of tests ≡ None → perform w (Unless_plan call (of_change_refusals tests) p) ≡ perform w p
unrefused w call p [] e = refl
unrefused w call p (t ∷ ts) e = by t.0 e (unrefused w call p ts)
  where
    by : (b : Bool) → (if b then Some t.1 else first_of ts) ≡ None → (first_of ts ≡ None → perform w (Unless_plan call (of_change_refusals ts) p) ≡ perform w p)
        → perform w (Unless_plan call (of_change_refusals ((b, t.1) ∷ ts)) p) ≡ perform w p
    by true e again = absurd (true≢false (ap is_some e))
    by false e again = again e

-- a queue pair that is there stands in a configured slot
there-configured : (c : Configuration) (events : ℕ) (w : World) (n : QueueId) (q : QueuePair) → IsWorldAfter c events w → w.queue n ≡ Present q → has_queue c n ≡ true
there-configured c events w n q after there = by (has_queue c n) refl
  where
    by : (b : Bool) → has_queue c n ≡ b → b ≡ true
    by true e = refl
    by false e = absurd (true≢false (ap is_present (sym there ∙ after.placed.vacant (Queue_of n) e)))

named-back : (n : QueueId) → 256 ≤ n.number → queue_of (slot_of_queue n) ≡ n
named-back n le = λ i. record { adapter = n.adapter; number = number i }
  where
    number : (n.number / 256 - 1 + 1) * 256 + n.number % 256 ≡ n.number
    number = omega (arith, le)

module _ (c : Configuration) (n : ℕ) (w : World) (queue : QueueId) (q : QueuePair) (after : IsWorldAfter c n w) (there : w.queue queue ≡ Present q)
    (none : first_of (modify_refusals c q changes.Error) ≡ None) where
  abbrev s : Slot
  s = slot_of_queue queue

  abbrev event : Event
  event = events.Verb 0 (verbs.ModifyQp s changes.Error)

  abbrev call : Call
  call = record { by = 0; verb = verbs.ModifyQp s changes.Error }

  abbrev sends : List Completion
  sends = completions_to q q.send_cq (flush_marks q)

  abbrev receives : List Completion
  receives = completions_to q q.recv_cq (flush_marks q)

  abbrev new : World
  new = put_all ((Queue_of q.queue := Present (queue_after_change changes.Error q))
      ∷ (Cq_of (send_cq_of q) := option_map (after_puts sends) (w.cq (send_cq_of q)))
      ∷ (Cq_of (recv_cq_of q) := option_map (after_puts receives) (w.cq (recv_cq_of q))) ∷ []) w

  abbrev made : List Mark
  made = answer_mark call answers.Fine ∷ flush_marks q

  parts : (nat_le 256 queue.number ≡ true) × (has_slot c (λ a. a.qps) s ≡ true)
  parts = and_parts (nat_le 256 queue.number) (has_slot c (λ a. a.qps) s) (there-configured c n w queue q after there)

  at : w.queue (queue_of s) ≡ Present q
  at = ap w.queue (named-back queue (leb-true 256 queue.number parts.0)) ∙ there

  settled : (o : Option ℕ) (p : QueuePair) → w.queue (queue_of s) ≡ Present (record p { srq = o })
      → perform w (modify_qp_plan c call s changes.Error) ≡ perform w (Unless_plan call (of_change_refusals (modify_refusals c (record p { srq = o }) changes.Error))
      (Answer_plan call answers.Fine
      ((Queue_of p.queue := Present (queue_after_change changes.Error (record p { srq = o })))
      ∷ (Cq_of (send_cq_of p) := option_map (after_puts (completions_to (record p { srq = o }) p.send_cq (flush_marks (record p { srq = o })))) (w.cq (send_cq_of p)))
      ∷ (Cq_of (recv_cq_of p) := option_map (after_puts (completions_to (record p { srq = o }) p.recv_cq (flush_marks (record p { srq = o })))) (w.cq (recv_cq_of p))) ∷ [])
      (flush_marks (record p { srq = o }))))
  settled None p at = rw (at, perform) refl
  settled (Some srq) p at = rw (at, perform) refl

  did : step c w event ≡ Did new made
  did = ap (λ b. if b then perform w (modify_qp_plan c call s changes.Error) else perform w (Refuse_plan call refusals.NoSuch)) parts.1
      ∙ settled q.srq q at ∙ unrefused w call (Answer_plan call answers.Fine ((Queue_of q.queue := Present (queue_after_change changes.Error q))
      ∷ (Cq_of (send_cq_of q) := option_map (after_puts sends) (w.cq (send_cq_of q)))
      ∷ (Cq_of (recv_cq_of q) := option_map (after_puts receives) (w.cq (recv_cq_of q))) ∷ []) (flush_marks q)) (modify_refusals c q changes.Error) none

  fits : (t : Slot) (put : List Completion) → new.cq t ≡ option_map (after_puts put) (w.cq t) → FitIn (w.cq t) put
  fits t put is = by (w.cq t) refl
    where
      by : (o : Option CompletionQueue) → w.cq t ≡ o → FitIn o put
      by None e = record {}
      by (Some v) e = together-fit c event w new made t v put after.limited after.sound after.room (record {}) did (is ∙ ap (option_map (after_puts put)) e)

  receives-fit : FitIn (w.cq (recv_cq_of q)) receives
  receives-fit = fits (recv_cq_of q) receives (rw (slot-refl (recv_cq_of q)) refl)

  sends-fit : (b : Bool) → slot_eq (recv_cq_of q) (send_cq_of q) ≡ b → FitIn (w.cq (send_cq_of q)) sends
  sends-fit true e = subst (λ t. FitIn (w.cq t) (completions_to q t.slot (flush_marks q))) (slot-path (recv_cq_of q) (send_cq_of q) e) receives-fit
  sends-fit false e = fits (send_cq_of q) sends (rw (e, slot-refl (send_cq_of q)) refl)

pub can-change : (c : Configuration) (events : ℕ) (w : World) (queue : QueueId) (q : QueuePair) (change : Change) → IsWorldAfter c events w → w.queue queue ≡ Present q
    → CanChange c change q w
can-change c events w queue q changes.Error after there = λ none. (
  sends-fit c events w queue q after there none (slot_eq (recv_cq_of q) (send_cq_of q)) refl,
  receives-fit c events w queue q after there none,
)
can-change c events w queue q changes.Reset after there = can-depart c events w queue q after there
can-change c events w queue q changes.Init after there = record {}
can-change c events w queue q (changes.Rtr peer incarnation psn mtu rnr_code) after there = record {}
can-change c events w queue q (changes.Rts psn retry rnr_retry reads) after there = record {}
can-change c events w queue q changes.Sqd after there = record {}
can-change c events w queue q changes.Resume after there = record {}
