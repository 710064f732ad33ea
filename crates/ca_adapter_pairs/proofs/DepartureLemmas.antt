-- Leaving a completion queue twice is leaving it once, and places are freed one after another. For proofs only.
use Rattle.std.proofs.Common.{◌≡◌, ◌∙◌, refl, sym, subst, ap, ap₂, ℕ, suc, ◌==◌, ◌&&◌, Bool, true, false, not, List, [], ◌∷◌, ◌++◌, drop, filter, map, Option, None, Some, if◌then◌else◌, arith}
use Rattle.std.specs.Option.{option_map, option_map_or}
use Rattle.ca_base.specs.declared.reserve.Reserve.TheVariants.{Sends, Receives}
use Rattle.ca_base.specs.objects.CompletionQueue.{CompletionQueue, after_release, is_for_sends, is_same_side, receives_of, user_of, without_reservations}
use Rattle.ca_base.specs.objects.SharedReceives.{SharedReceives, after_receive_retire, after_receives_retire}
use Rattle.ca_keys.specs.declared.names.QueueId.{QueueId}
use Rattle.ca_keys.specs.declared.names.Slot.{Slot}
use Rattle.ca_keys.specs.Equal.{bool_eq, queue_eq, slot_eq}
use Rattle.ca_model.proofs.ThingLemmas.{slot-path}
use Rattle.ca_model.specs.Past.{with_at}
use Rattle.ca_srq.specs.Taken.{stands_once}
use Rattle.ca_adapter_pairs.specs.declared.departure.Departure.{Departure}
use Rattle.ca_adapter_pairs.specs.declared.departure.Departure.TheVariants.{Reset, Destruction}
use Rattle.ca_adapter_acts.specs.Binders.{changed_by}
use Rattle.ca_base.specs.objects.SharedReceives.{SrqSlot}
use Rattle.ca_adapter_parts.specs.HeldView.{Holding, hold}
use Rattle.ca_model.specs.machine.Plan.{◌:=◌}
use Rattle.ca_model.specs.machine.World.{Srq_of}
use Rattle.ca_adapter_pairs.specs.declared.around.Around.{Around}
use Rattle.ca_adapter_pairs.specs.Departures.{AreFew, StandOnce, cq_updates, after_departure, departure_updates, places_left, places_of, shared_after}

-- what passes one test and then another
filter-both : {A : Type 0} (f g h : A → Bool) → ((x : A) → (f x && g x) ≡ h x) → (xs : List A) → filter g (filter f xs) ≡ filter h xs
filter-both f g h same [] = refl
filter-both f g h same (x ∷ xs) = by (f x) (same x) (filter-both f g h same xs)
  where
    by : (a : Bool) → (a && g x) ≡ h x → filter g (filter f xs) ≡ filter h xs
        → filter g (if a then x ∷ filter f xs else filter f xs) ≡ (if h x then x ∷ filter h xs else filter h xs)
    by true e again = ap₂ (λ b rest. if b then x ∷ rest else rest) e again
    by false e again = again ∙ ap (λ b. if b then x ∷ filter h xs else filter h xs) e

filter-none : {A : Type 0} (xs : List A) → filter (λ x. false) xs ≡ []
filter-none [] = refl
filter-none (x ∷ xs) = filter-none xs

pub both_released : (queue : QueueId) (v : CompletionQueue) → after_release (Receives queue) (after_release (Sends queue) v) ≡ without_reservations queue v
both_released queue v = ap (λ rs. record v { reservations = rs }) (filter-both (λ r. not (is_same_side r.who (Sends queue)))
    (λ r. not (is_same_side r.who (Receives queue))) (λ r. not (queue_eq (user_of r.who) queue)) (λ r. by (queue_eq (user_of r.who) queue) (is_for_sends r.who)) v.reservations)
  where
    by : (a b : Bool) → (not (a && bool_eq b true) && not (a && bool_eq b false)) ≡ not a
    by true true = refl
    by true false = refl
    by false b = refl

departure-twice : (d : Departure) (queue : QueueId) (v : CompletionQueue) → after_departure d queue (after_departure d queue v) ≡ after_departure d queue v
departure-twice Reset queue v = ap (λ cs. record v { waiting = cs }) (filter-both (λ c. not (queue_eq c.queue queue)) (λ c. not (queue_eq c.queue queue))
    (λ c. not (queue_eq c.queue queue)) (λ c. twice (not (queue_eq c.queue queue))) v.waiting)
  where
    twice : (b : Bool) → (b && b) ≡ b
    twice true = refl
    twice false = refl
departure-twice Destruction queue v = ap₂ (λ cs rs. record v { waiting = cs; reservations = rs })
    (filter-both (λ c. not (queue_eq c.queue queue)) (λ c. not (queue_eq c.queue queue)) (λ c. not (queue_eq c.queue queue)) (λ c. twice (not (queue_eq c.queue queue))) v.waiting)
    (filter-both (λ r. not (queue_eq (user_of r.who) queue)) (λ r. not (queue_eq (user_of r.who) queue)) (λ r. not (queue_eq (user_of r.who) queue)) (λ r. twice (not (queue_eq (user_of r.who) queue))) v.reservations)
  where
    twice : (b : Bool) → (b && b) ≡ b
    twice true = refl
    twice false = refl

no-receives : (d : Departure) (queue : QueueId) (v : CompletionQueue) → receives_of queue (after_departure d queue v) ≡ []
no-receives d queue v = by d
  where
    never : (r b : Bool) → (not b && (r && b)) ≡ false
    never r true = refl
    never true false = refl
    never false false = refl

    none : map (λ c. c.place) (filter (λ c. c.receive && queue_eq c.queue queue) (filter (λ c. not (queue_eq c.queue queue)) v.waiting)) ≡ []
    none = ap (map (λ c. c.place)) (filter-both (λ c. not (queue_eq c.queue queue)) (λ c. c.receive && queue_eq c.queue queue) (λ c. false)
        (λ c. never c.receive (queue_eq c.queue queue)) v.waiting ∙ filter-none v.waiting)

    by : (d : Departure) → receives_of queue (after_departure d queue v) ≡ []
    by Reset = none
    by Destruction = none

-- a slot that may be the one that was left first
pub again : (d : Departure) (queue : QueueId) (cq : Slot → Option CompletionQueue) (s t : Slot)
    → option_map (after_departure d queue) (with_at slot_eq cq s (option_map (after_departure d queue) (cq s)) t) ≡ option_map (after_departure d queue) (cq t)
again d queue cq s t = by (slot_eq s t) refl
  where
    twice : (o : Option CompletionQueue) → option_map (after_departure d queue) (option_map (after_departure d queue) o) ≡ option_map (after_departure d queue) o
    twice None = refl
    twice (Some v) = ap Some (departure-twice d queue v)

    by : (b : Bool) → slot_eq s t ≡ b → option_map (after_departure d queue) (if b then option_map (after_departure d queue) (cq s) else cq t) ≡ option_map (after_departure d queue) (cq t)
    by true same = twice (cq s) ∙ ap (λ n. option_map (after_departure d queue) (cq n)) (slot-path s t same)
    by false same = refl

pub elsewhere : (cq : Slot → Option CompletionQueue) (s t : Slot) (v : Option CompletionQueue) → slot_eq s t ≡ false → with_at slot_eq cq s v t ≡ cq t
elsewhere cq s t v other = ap (λ b. if b then v else cq t) other

pub few_again : (d : Departure) (queue : QueueId) (cq : Slot → Option CompletionQueue) (s t : Slot) → AreFew queue (cq t)
    → AreFew queue (with_at slot_eq cq s (option_map (after_departure d queue) (cq s)) t)
few_again d queue cq s t few = by (slot_eq s t)
  where
    none : (o : Option CompletionQueue) → AreFew queue (option_map (after_departure d queue) o)
    none None = record {}
    none (Some v) = rw (no-receives d queue v) (omega arith)

    by : (b : Bool) → AreFew queue (if b then option_map (after_departure d queue) (cq s) else cq t)
    by true = none (cq s)
    by false = few

pub retired_both : (xs ys : List ℕ) (s : SharedReceives) → after_receives_retire (xs ++ ys) s ≡ after_receives_retire ys (after_receives_retire xs s)
retired_both [] ys s = refl
retired_both (x ∷ xs) ys s = retired_both xs ys (after_receive_retire x s)

pub first_once : (xs ys : List ℕ) (taken : List ℕ) → StandOnce (xs ++ ys) taken → StandOnce xs taken
first_once [] ys taken once = record {}
first_once (x ∷ xs) ys taken once = (once.0, first_once xs ys (filter (λ p. not (p == x)) taken) once.1)

pub last_once : (xs ys : List ℕ) (s : SharedReceives) → StandOnce (xs ++ ys) s.taken → StandOnce ys (after_receives_retire xs s).taken
last_once [] ys s once = once
last_once (x ∷ xs) ys s once = last_once xs ys (after_receive_retire x s) once.1

-- one more of these is freed
pub next-place : (places : List ℕ) (i place : ℕ) (s new old : SharedReceives) → drop i places ≡ place ∷ drop (suc i) places
    → StandOnce (drop i places) s.taken → after_receives_retire (drop i places) s ≡ old
    → (stands_once place s.taken ≡ true → new ≡ after_receive_retire place s)
    → StandOnce (drop (suc i) places) new.taken × (after_receives_retire (drop (suc i) places) new ≡ old)
next-place places i place s new old is once left freed = (
  subst (λ v. StandOnce (drop (suc i) places) v.taken) (sym now) now-once.1,
  ap (after_receives_retire (drop (suc i) places)) now ∙ subst (λ xs. after_receives_retire xs s ≡ old) is left,
)
  where
    now-once : StandOnce (place ∷ drop (suc i) places) s.taken
    now-once = subst (λ xs. StandOnce xs s.taken) is once

    now : new ≡ after_receive_retire place s
    now = freed now-once.0

-- both completion queues, and then the shared receive queue
pub all_left : (d : Departure) (a : Around) (h mid new : Holding) (s : Slot) (was now : SrqSlot) (places : List ℕ) → a.srq ≡ Some s
    → mid ≡ changed_by (cq_updates d a h.world) h → places ≡ option_map_or (receives_of a.queue) (h.world.cq a.recv) []
    → was ≡ mid.world.srq s → now ≡ shared_after d (places ++ places_left a.in_use) was → new ≡ hold mid (Srq_of s) now
    → new ≡ changed_by (departure_updates d a h.world) h
all_left d a h mid new s was now places there left taken before after last = last
    ∙ ap (hold mid (Srq_of s)) (after ∙ ap (shared_after d (places ++ places_left a.in_use)) before
    ∙ ap (λ xs. shared_after d (xs ++ places_left a.in_use) (mid.world.srq s)) taken)
    ∙ ap (λ m. hold m (Srq_of s) (shared_after d (places_of a h.world) (m.world.srq s))) left
    ∙ sym (ap (λ o. changed_by (cq_updates d a h.world ++ option_map_or (λ t. (Srq_of t := shared_after d (places_of a h.world) (h.world.srq t)) ∷ []) o []) h) there)
