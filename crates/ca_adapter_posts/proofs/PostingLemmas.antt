-- What a plan does that posts to a queue pair which is there, or is not. For proofs only.
use Rattle.std.proofs.Common.{◌≡◌, ◌∙◌, refl, ap, ℕ, Bool, true, false, [], ◌∷◌, Option, None, Some, is_some, true≢false}
use Rattle.std.specs.Option.{option_map}
use Rattle.std.proofs.lemmas.List.{append-nil}
use Rattle.ca_keys.specs.Refusals.{first_of}
use Rattle.ca_keys.specs.Numbers.{queue_of}
use Rattle.ca_keys.specs.declared.names.QueueId.{QueueId}
use Rattle.ca_keys.specs.declared.names.Slot.{Slot}
use Rattle.ca_base.specs.objects.CompletionQueue.{CompletionQueue, after_puts}
use Rattle.ca_base.specs.objects.QueuePair.{QueuePair, QueueSlot, NoQueue, Present}
use Rattle.ca_model.specs.declared.answer.Answer.TheVariants as answers
use Rattle.ca_model.specs.declared.answer.Refusal.TheVariants as refusals
use Rattle.ca_model.specs.machine.Plan.{Did, Plan, perform, touches}
use Rattle.ca_model.specs.machine.QueuePairVerbs.{With_present}
use Rattle.ca_model.specs.machine.VerbAnswers.{Call, Refuse_plan, answer_mark}
use Rattle.ca_model.specs.machine.World.{Cq_of, Queue_of, World}
use Rattle.ca_model.proofs.ThingLemmas.{put-same}
use Rattle.ca_adapter_parts.specs.HeldView.{Holding, hold}

-- a queue pair that a verb names is looked at
pub present-performs : (w : World) (call : Call) (s : Slot) (k : QueuePair → Plan) (q : QueuePair) → w.queue (queue_of s) ≡ Present q
    → perform w (With_present call s k) ≡ perform w (k q)
present-performs w call s k q is = ap (λ o. perform w (by o)) is
  where
    by : QueueSlot → Plan
    by (NoQueue incarnation timers) = Refuse_plan call refusals.NoSuch
    by (Present q) = k q

pub absent-performs : (w : World) (call : Call) (s : Slot) (k : QueuePair → Plan) (incarnation timers : ℕ) → w.queue (queue_of s) ≡ NoQueue incarnation timers
    → perform w (With_present call s k) ≡ Did w (answer_mark call (answers.Refused refusals.NoSuch) ∷ [])
absent-performs w call s k incarnation timers is = ap (λ o. perform w (by o)) is
  where
    by : QueueSlot → Plan
    by (NoQueue incarnation timers) = Refuse_plan call refusals.NoSuch
    by (Present q) = k q

pub present-touches : (w : World) (call : Call) (s : Slot) (k : QueuePair → Plan) (q : QueuePair) → w.queue (queue_of s) ≡ Present q
    → touches w (With_present call s k) ≡ Queue_of (queue_of s) ∷ touches w (k q)
present-touches w call s k q is = rw is refl

-- of four tests none holds, so the last one does not
pub last-fails : {R : Type 0} (a b c d : Bool) (x y z v : R) → first_of ((a, x) ∷ (b, y) ∷ (c, z) ∷ (d, v) ∷ []) ≡ None → d ≡ false
last-fails true b c d x y z v is = absurd (true≢false (ap is_some is))
last-fails false true c d x y z v is = absurd (true≢false (ap is_some is))
last-fails false false true d x y z v is = absurd (true≢false (ap is_some is))
last-fails false false false true x y z v is = absurd (true≢false (ap is_some is))
last-fails false false false false x y z v is = refl

-- a queue pair that is held as it was leaves what is held
pub queue_held_same : (h : Holding) (n : QueueId) → hold h (Queue_of n) (h.world.queue n) ≡ h
queue_held_same h n = ap (λ w. record h { world = w }) (put-same h.world (Queue_of n))

-- so does a completion queue into which nothing is put
pub cq-held-same : (h : Holding) (s : Slot) → hold h (Cq_of s) (option_map (after_puts []) (h.world.cq s)) ≡ h
cq-held-same h s = ap (hold h (Cq_of s)) (by (h.world.cq s)) ∙ ap (λ w. record h { world = w }) (put-same h.world (Cq_of s))
  where
    by : (o : Option CompletionQueue) → option_map (after_puts []) o ≡ o
    by None = refl
    by (Some q) = ap (λ xs. Some (record q { waiting = xs })) (append-nil q.waiting)
