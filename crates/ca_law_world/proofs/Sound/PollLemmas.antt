-- A poll keeps a world sound: what it frees is finished or taken.
use Rattle.std.proofs.Common.{zero, ◌≡◌, ℕ, suc, Bool, true, false, List, [], ◌∷◌, length, take, drop, Option, None, Some, IfSome, subst, ◌∙◌, ap, sym, if◌then◌else◌, refl}
use Rattle.std.specs.List.{AllByRecursion}
use Rattle.std.specs.Option.{option_map}
use Rattle.ca_base.specs.declared.completion.Completion.{Completion}
use Rattle.ca_keys.specs.declared.names.QueueId.{QueueId}
use Rattle.ca_keys.specs.declared.names.Slot.{Slot}
use Rattle.ca_base.specs.Configuration.{Configuration}
use Rattle.ca_keys.specs.Equal.{queue_eq}
use Rattle.ca_base.specs.objects.CompletionQueue.{CompletionQueue, after_polls}
use Rattle.ca_base.specs.objects.QueuePair.{QueuePair, QueueSlot, NoQueue, Present}
use Rattle.ca_base.specs.objects.SharedReceives.{SharedReceives}
use Rattle.ca_model.specs.machine.CompletionVerbs.{Take_plan, after_poll, poll_plan, receives_after_poll, slot_after_poll}
use Rattle.ca_model.specs.machine.Plan.{Update, put_all}
use Rattle.ca_model.specs.machine.VerbAnswers.{Call}
use Rattle.ca_model.specs.machine.World.{World, Name, Byte_at, Cq_of, Domain_of, Mailbox_of, Queue_of, Region_of, Srq_of, Thing, Window_of, put}
use Rattle.ca_model.specs.machine.Invariants.{IsCompletionQueue, IsSharedReceives}
use Rattle.ca_model.specs.machine.Sound.{AreSettled, IsFinished, IsQueueOf, IsSettled, IsSoundWorld, IsSoundThing}
use Rattle.ca_law_world.proofs.Sound.EventLemmas.{unchanged}
use Rattle.ca_law_world.proofs.Sound.ObjectLemmas.{poll-receives}
use Rattle.ca_law_world.proofs.Sound.SettledLemmas.{AllWait, cq-settled, queue-path, settled-on, wait-map}
use Rattle.ca_law_world.proofs.Sound.VerbLemmas.{IsPolled, polled}
use Rattle.ca_law_world.proofs.Sound.WorldLemmas.{AreSound, EndsIn, IsGoodChange}
use Rattle.ca_law_world.proofs.Sound.PlanWalks.{walk-places, walk-poll}

-- a change of what a poll frees: a queue pair that goes on, or a shared receive queue
abbrev IsFreed : Configuration → World → (n : Name) → Thing n → Type 0
IsFreed c w (Queue_of q) v = IsQueueOf q v × ((s : Slot) (x : Completion) → IsSettled s (w.queue q) x → IsSettled s v x)
IsFreed c w (Cq_of s) v = ⊥
IsFreed c w n v = IsSoundThing c n v

abbrev AreFreed : Configuration → World → List Update → Type 0
AreFreed c w [] = Unit {0}
AreFreed c w (x ∷ xs) = IsFreed c w x.name x.thing × AreFreed c w xs

freed-sound : (c : Configuration) (w : World) (cs : List Update) → AreFreed c w cs → AreSound c cs
freed-sound c w [] all = record {}
freed-sound c w (x ∷ xs) all = (by x.name x.thing all.0, freed-sound c w xs all.1)
  where
    by : (n : Name) (t : Thing n) → IsFreed c w n t → IsSoundThing c n t
    by (Queue_of q) t freed = freed.0
    by (Cq_of s) t freed = absurd freed
    by (Domain_of d) t freed = freed
    by (Region_of s) t freed = freed
    by (Window_of s) t freed = freed
    by (Srq_of s) t freed = freed
    by (Mailbox_of q) t freed = freed
    by (Byte_at p) t freed = freed

-- what is settled by the queue pairs of one world is by those of another
abbrev GoOn : World → World → Type 0
GoOn w v = (n : QueueId) (s : Slot) (x : Completion) → IsSettled s (w.queue n) x → IsSettled s (v.queue n) x

freed-settled : (c : Configuration) (w v : World) (cs : List Update) → AreFreed c w cs → GoOn w v → AreSettled w.queue v.cq → AreSettled (put_all cs v).queue (put_all cs v).cq
freed-settled c w v [] all on settled = λ s. wait-map (λ x. IsSettled s (w.queue x.queue) x) (λ x. IsSettled s (v.queue x.queue) x) (λ x done. on x.queue s x done) (v.cq s) (settled s)
freed-settled c w v (x ∷ xs) all on settled = by x.name x.thing all.0 (λ u goes same. freed-settled c w u xs all.1 goes same)
  where
    by : (n : Name) (t : Thing n) → IsFreed c w n t → ((u : World) → GoOn w u → AreSettled w.queue u.cq → AreSettled (put_all xs u).queue (put_all xs u).cq)
        → AreSettled (put_all xs (put v n t)).queue (put_all xs (put v n t)).cq
    by (Queue_of q) t freed rest = rest (put v (Queue_of q) t) (λ n s x done. at n s x done (queue_eq q n) refl) settled
      where
        at : (n : QueueId) (s : Slot) (x : Completion) → IsSettled s (w.queue n) x → (b : Bool) → queue_eq q n ≡ b → IsSettled s (if b then t else v.queue n) x
        at n s x done true e = freed.1 s x (subst (λ k. IsSettled s (w.queue k) x) (sym (queue-path q n e)) done)
        at n s x done false e = on n s x done
    by (Cq_of s) t freed rest = absurd freed
    by (Domain_of d) t freed rest = rest (put v (Domain_of d) t) on settled
    by (Region_of s) t freed rest = rest (put v (Region_of s) t) on settled
    by (Window_of s) t freed rest = rest (put v (Window_of s) t) on settled
    by (Srq_of s) t freed rest = rest (put v (Srq_of s) t) on settled
    by (Mailbox_of q) t freed rest = rest (put v (Mailbox_of q) t) on settled
    by (Byte_at p) t freed rest = rest (put v (Byte_at p) t) on settled

pub all-taken : {A : Type 0} (P : A → Type 0) (k : ℕ) (xs : List A) → AllByRecursion P xs → AllByRecursion P (take k xs)
all-taken P zero xs all = record {}
all-taken P (suc k) [] all = record {}
all-taken P (suc k) (x ∷ xs) all = (all.0, all-taken P k xs all.1)

all-dropped : {A : Type 0} (P : A → Type 0) (k : ℕ) (xs : List A) → AllByRecursion P xs → AllByRecursion P (drop k xs)
all-dropped P zero xs all = all
all-dropped P (suc k) [] all = record {}
all-dropped P (suc k) (x ∷ xs) all = all-dropped P k xs all.1

pub all-finished : (w : World) (s : Slot) (name : QueueId) (q : QueuePair) (xs : List Completion) → w.queue name ≡ Present q → AllByRecursion (λ x. IsSettled s (w.queue x.queue) x) xs
    → AllByRecursion (λ x. queue_eq x.queue name ≡ true → IsFinished q x.receive x.place) xs
all-finished w s name q [] is all = record {}
all-finished w s name q (x ∷ xs) is all =
    (λ same. (subst (λ t. IsSettled s t x) (ap w.queue (queue-path x.queue name same) ∙ is) all.0).1, all-finished w s name q xs is all.1)

-- the queue pair of a completion that is taken
freed-slot : (w : World) (s : Slot) (name : QueueId) (xs : List Completion) → IsQueueOf name (w.queue name) → AllByRecursion (λ x. IsSettled s (w.queue x.queue) x) xs
    → IsQueueOf name (slot_after_poll name xs (w.queue name))
    × ((t : Slot) (x : Completion) → IsSettled t (w.queue name) x → IsSettled t (slot_after_poll name xs (w.queue name)) x)
freed-slot w s name xs sound all = by (w.queue name) refl sound
  where
    by : (v : QueueSlot) → w.queue name ≡ v → IsQueueOf name v
        → IsQueueOf name (slot_after_poll name xs v) × ((t : Slot) (x : Completion) → IsSettled t v x → IsSettled t (slot_after_poll name xs v) x)
    by (NoQueue incarnation timers) is one = (record {}, λ t x done. done)
    by (Present q) is one = on (polled name xs q one.2 (all-finished w s name q xs is all))
      where
        on : IsPolled q (after_poll name xs q)
            → IsQueueOf name (Present (after_poll name xs q)) × ((t : Slot) (x : Completion) → IsSettled t (Present q) x → IsSettled t (Present (after_poll name xs q)) x)
        on p = ((p.later.queue ∙ one.0, p.later.domain ∙ one.1, p.sound), λ t x done. settled-on t q (after_poll name xs q) x p.later done)

pub ends-poll : (c : Configuration) (w : World) (call : Call) (s : Slot) (n least : ℕ) → IsSoundWorld c w → EndsIn w (IsGoodChange c w) (poll_plan call s n least)
ends-poll c w call s n least sound = walk-poll w (IsGoodChange c w) call s n least (unchanged c w sound)
    (λ cq is. taken cq is (subst (λ o. IfSome o IsCompletionQueue) is (sound.things (Cq_of s))) (subst (AllWait (λ x. IsSettled s (w.queue x.queue) x)) is (sound.settled s)))
  where
    put-settled : (cq : CompletionQueue) (k : ℕ) → w.cq s ≡ Some cq → AllByRecursion (λ x. IsSettled s (w.queue x.queue) x) cq.waiting
        → AreSettled w.queue (put w (Cq_of s) (Some (after_polls k cq))).cq
    put-settled cq k is all = cq-settled w.queue w.cq s (Some (after_polls k cq)) sound.settled (all-dropped (λ x. IsSettled s (w.queue x.queue) x) k cq.waiting all)

    retired : (cq : CompletionQueue) (xs : List Completion) (srq : ℕ) (o : Option SharedReceives) → IfSome o IsSharedReceives → IfSome (option_map (receives_after_poll cq srq xs) o) IsSharedReceives
    retired cq xs srq None one = record {}
    retired cq xs srq (Some r) one = poll-receives cq srq xs r one

    taken : (cq : CompletionQueue) → w.cq s ≡ Some cq → IsCompletionQueue cq → AllByRecursion (λ x. IsSettled s (w.queue x.queue) x) cq.waiting
        → EndsIn w (IsGoodChange c w) (Take_plan call s cq (take n cq.waiting))
    taken cq is one all = walk-places w (IsGoodChange c w) (AreFreed c w) s cq (take n cq.waiting) (take n cq.waiting) _ (record {})
        (λ name us rest. (freed-slot w s name (take n cq.waiting) (sound.things (Queue_of name)) (all-taken (λ x. IsSettled s (w.queue x.queue) x) n cq.waiting all), rest))
        (λ at srq us rest. (retired cq (take n cq.waiting) srq (w.srq at).srq (sound.things (Srq_of at)), rest))
        (λ us freed. record {
          things = (record { some = one.some; capacity = one.capacity }, freed-sound c w us freed);
          settled = freed-settled c w (put w (Cq_of s) (Some (after_polls (length (take n cq.waiting)) cq))) us freed (λ q t x done. done)
              (put-settled cq (length (take n cq.waiting)) is all);
        })
