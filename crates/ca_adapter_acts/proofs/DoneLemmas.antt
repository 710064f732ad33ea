-- Completions among marks that are put into two completion queues, which may be one. For proofs only.
use Rattle.std.proofs.Common.{◌≡◌, ◌∙◌, refl, sym, subst, ap, ℕ, ◌+◌, ◌≤◌, ◌==◌, ◌&&◌, arith, Bool, true, false, List, [], ◌∷◌, ◌++◌, length, Option, if◌then◌else◌, append_assoc}
use Rattle.std.proofs.lemmas.List.{length-append}
use Rattle.std.proofs.Math.Path.{fun_ext}
use Rattle.std.specs.Option.{option_map}
use Rattle.ca_adapter_acts.specs.Binders.{changed_by}
use Rattle.ca_adapter_acts.specs.declared.done.Outlets.{Outlets}
use Rattle.ca_adapter_acts.specs.Outlets.{completion_by, completions_by, done_updates, outlets_of, recv_slot, send_slot}
use Rattle.ca_adapter_acts.specs.Room.{FitIn}
use Rattle.ca_base.specs.declared.completion.Completion.{Completion}
use Rattle.ca_base.specs.objects.CompletionQueue.{CompletionQueue, after_puts}
use Rattle.ca_base.specs.objects.QueuePair.{QueuePair}
use Rattle.ca_adapter_parts.specs.HeldView.{Holding, hold}
use Rattle.ca_keys.specs.declared.names.Slot.{Slot}
use Rattle.ca_keys.specs.Equal.{domain_eq, slot_eq}
use Rattle.ca_model.specs.declared.mark.Mark.{Mark}
use Rattle.ca_model.specs.declared.mark.Mark.TheVariants as marks
use Rattle.ca_model.specs.machine.Around.{completions_to}
use Rattle.ca_model.specs.machine.World.{Cq_of}
use Rattle.std.proofs.lemmas.Bool.{eqb-true}

-- of two completion queues put in one slot the second stands there
pub cq-twice : (h : Holding) (s : Slot) (u v : Option CompletionQueue) → hold (hold h (Cq_of s) u) (Cq_of s) v ≡ hold h (Cq_of s) v
cq-twice h s u v = λ i. record h { world = record h.world { cq = fun_ext (λ t. by t (slot_eq s t)) i } }
  where
    by : (t : Slot) (b : Bool) → (if b then v else (if b then u else h.world.cq t)) ≡ (if b then v else h.world.cq t)
    by t true = refl
    by t false = refl

-- in another slot nothing changed
pub cq-elsewhere : (h : Holding) (s t : Slot) (v : Option CompletionQueue) → slot_eq s t ≡ false → (hold h (Cq_of s) v).world.cq t ≡ h.world.cq t
cq-elsewhere h s t v other = ap (λ b. if b then v else h.world.cq t) other

module _ (o : Outlets) (ms : List Mark) (h : Holding) where
  -- those that go to the completion queue in a slot are put there
  abbrev pub put_at : Slot → Holding → Holding
  put_at s x = hold x (Cq_of s) (option_map (after_puts (completions_by o s.slot ms)) (x.world.cq s))

  other-slot : (o.send ≡ o.recv → ⊥) → slot_eq (send_slot o) (recv_slot o) ≡ false
  other-slot other = by (domain_eq o.domain o.domain) (o.send == o.recv) refl
    where
      by : (a b : Bool) → (o.send == o.recv) ≡ b → (a && b) ≡ false
      by a true e = absurd (other (eqb-true o.send o.recv e))
      by true false e = refl
      by false false e = refl

  pub done_once : (new : Holding) (s : Slot) → s ≡ send_slot o → o.send ≡ o.recv → new ≡ put_at s h → new ≡ changed_by (done_updates o ms h.world) h
  done_once new s at one is = is ∙ ap (λ s. put_at s h) at ∙ sym (cq-twice h (send_slot o) put put)
      ∙ ap (λ n. hold (hold h (Cq_of (send_slot o)) put) (Cq_of (record { domain = o.domain; slot = n }))
      (option_map (after_puts (completions_by o n ms)) (h.world.cq (record { domain = o.domain; slot = n })))) one
    where
      put : Option CompletionQueue
      put = option_map (after_puts (completions_by o o.send ms)) (h.world.cq (send_slot o))

  pub done_both : (mid new : Holding) (s t : Slot) → s ≡ send_slot o → t ≡ recv_slot o → (o.send ≡ o.recv → ⊥) → mid ≡ put_at s h → new ≡ put_at t mid
      → new ≡ changed_by (done_updates o ms h.world) h
  done_both mid new s t at-s at-t other first second = second ∙ ap (λ x. put_at t x) first ∙ ap (λ x. put_at t (put_at x h)) at-s ∙ ap (λ x. put_at x (put_at (send_slot o) h)) at-t
      ∙ ap (λ v. hold (put_at (send_slot o) h) (Cq_of (recv_slot o)) (option_map (after_puts (completions_by o o.recv ms)) v))
      (cq-elsewhere h (send_slot o) (recv_slot o) (option_map (after_puts (completions_by o o.send ms)) (h.world.cq (send_slot o))) (other-slot other))

  pub fit_still : (mid : Holding) (s t : Slot) (cs : List Completion) → s ≡ send_slot o → t ≡ recv_slot o → (o.send ≡ o.recv → ⊥) → mid ≡ put_at s h
      → FitIn (h.world.cq (recv_slot o)) cs → FitIn (mid.world.cq t) cs
  fit_still mid s t cs at-s at-t other is fit = subst (λ x. FitIn (mid.world.cq x) cs) (sym at-t)
      (subst (λ m. FitIn (m.world.cq (recv_slot o)) cs) (sym (is ∙ ap (λ x. put_at x h) at-s))
      (subst (λ x. FitIn x cs) (sym (cq-elsewhere h (send_slot o) (recv_slot o) _ (other-slot other))) fit))

pub mark_put : (o : Outlets) (n : ℕ) (m : Mark) (ms : List Mark) (before put all : CompletionQueue) → after_puts (completions_by o n (m ∷ ms)) before ≡ all
    → put ≡ after_puts (completion_by o n m) before → after_puts (completions_by o n ms) put ≡ all
mark_put o n m ms before put all so one = ap (after_puts (completions_by o n ms)) one
    ∙ ap (λ cs. record before { waiting = cs }) (append_assoc before.waiting (completion_by o n m) (completions_by o n ms)) ∙ so

pub mark_fits : (o : Outlets) (n : ℕ) (m : Mark) (ms : List Mark) (q : CompletionQueue) → length q.waiting + length (completions_by o n (m ∷ ms)) ≤ q.capacity
    → length q.waiting + length (completion_by o n m) ≤ q.capacity
mark_fits o n m ms q fit = omega (arith, length-append (completion_by o n m) (completions_by o n ms), fit)

pub rest_fits : (o : Outlets) (n : ℕ) (m : Mark) (ms : List Mark) (before put : CompletionQueue) → length before.waiting + length (completions_by o n (m ∷ ms)) ≤ before.capacity
    → put ≡ after_puts (completion_by o n m) before → length put.waiting + length (completions_by o n ms) ≤ put.capacity
rest_fits o n m ms before put fit one = rw one (omega (arith, length-append (completion_by o n m) (completions_by o n ms), length-append before.waiting (completion_by o n m), fit))

-- those of a queue pair's outlets are those that go to its completion queues
pub of-queue : (q : QueuePair) (n : ℕ) (ms : List Mark) → completions_by (outlets_of q) n ms ≡ completions_to q n ms
of-queue q n [] = refl
of-queue q n (m ∷ ms) = rw (of-queue q n ms) (by m)
  where
    by : (m : Mark) → completion_by (outlets_of q) n m ++ completions_to q n ms ≡ completions_to q n (m ∷ ms)
    by (marks.Done queue c cause) = refl
    by m = refl
