-- A queue pair of a world that comes up can leave what stands around it. For proofs only.
use Rattle.std.proofs.Common.{◌≡◌, ℕ, ◌==◌, not, true, List, [], ◌∷◌, ◌++◌, filter, map, Option, None, Some, IfSome, ap, refl, subst, sym}
use Rattle.std.specs.List.{AllByRecursion}
use Rattle.std.specs.Option.{option_map, option_map_or}
use Rattle.ca_base.specs.Configuration.{Configuration}
use Rattle.ca_base.specs.objects.CompletionQueue.{CompletionQueue, receives_of}
use Rattle.ca_base.specs.objects.QueuePair.{Present, QueuePair, recv_cq_of, send_cq_of, srq_of}
use Rattle.ca_base.specs.objects.SharedReceives.{SharedReceives}
use Rattle.ca_keys.specs.declared.names.QueueId.{QueueId}
use Rattle.ca_keys.specs.declared.names.Slot.{Slot}
use Rattle.ca_model.specs.machine.Places.{Ascend, places_in_use, places_of_side}
use Rattle.ca_model.specs.machine.World.{World}
use Rattle.ca_law_parts.proofs.Room.FitLemmas.{IsPresent, present, receives-few, receives-side}
use Rattle.ca_law_parts.proofs.Room.FreedLemmas.{taken-once}
use Rattle.ca_law_parts.proofs.Room.RoomLists.{all-map, ascend-filter, still-in}
use Rattle.ca_law_parts.specs.Room.{AreDistinct, AreHeld, is_in, places_kept, taken_in}
use Rattle.ca_adapter_pairs.specs.Departures.{AreFew, CanDepart, StandOnce, places_of}
use Rattle.ca_adapter_pairs.specs.Names.{names_around}
use Rattle.ca_law_parts.specs.Worlds.{IsWorldAfter}

-- places of which none stands twice, each among those that were taken, which ascend, stand there once, one after another
stand-once : (next : ℕ) (xs taken more : List ℕ) → AreDistinct xs → AllByRecursion (λ x. is_in x taken ≡ true) xs → Ascend 0 next (taken ++ more) → StandOnce xs taken
stand-once next [] taken more distinct all up = record {}
stand-once next (x ∷ xs) taken more distinct all up = (
  taken-once x next taken more up all.0,
  stand-once next xs (filter (λ p. not (p == x)) taken) more distinct.1 (still-in x taken xs distinct.0 all.1) (ascend-filter 0 next (λ p. not (p == x)) taken more up),
)

pub can-depart : (c : Configuration) (events : ℕ) (w : World) (queue : QueueId) (q : QueuePair) → IsWorldAfter c events w → w.queue queue ≡ Present q → CanDepart (names_around q) w
can-depart c events w queue q after there = record {
  send = few (send_cq_of q) (w.cq (send_cq_of q)) refl;
  recv = few (recv_cq_of q) (w.cq (recv_cq_of q)) refl;
  places = by q.srq p.place.shared;
}
  where
    p : IsPresent w after.room.holder queue q
    p = present c w after.room queue q after.sound there

    few : (s : Slot) (o : Option CompletionQueue) → w.cq s ≡ o → AreFew q.queue o
    few s None is = record {}
    few s (Some v) is = receives-few c w s v q.queue after.sound after.room is

    side : (o : Option CompletionQueue) → places_of_side q.queue true (option_map_or (λ v. v.waiting) o []) ≡ option_map_or (receives_of q.queue) o []
    side None = refl
    side (Some v) = sym (receives-side q.queue v)

    kept : places_kept w.cq q ≡ places_of (names_around q) w
    kept = ap (λ xs. xs ++ places_in_use q.responder.message) (side (w.cq (recv_cq_of q)))

    at : (t : ℕ) → AreHeld after.room.holder q.queue (srq_of q t) (taken_in (w.srq (srq_of q t))) (places_kept w.cq q)
        → (o : Option SharedReceives) → (w.srq (srq_of q t)).srq ≡ o → IfSome o (λ v. StandOnce (places_of (names_around q) w) v.taken)
    at t held None is = record {}
    at t held (Some z) is = subst (λ xs. StandOnce xs z.taken) kept (stand-once z.next (places_kept w.cq q) z.taken (map (λ r. r.place) z.waiting) held.0 taken up)
      where
        up : Ascend 0 z.next (z.taken ++ map (λ r. r.place) z.waiting)
        up = subst (λ o. IfSome o (λ v. Ascend 0 v.next (v.taken ++ map (λ r. r.place) v.waiting))) is (after.room.sequence (srq_of q t))

        own : AllByRecursion (λ x. (is_in x z.taken ≡ true) × (after.room.holder (srq_of q t) x ≡ q.queue)) (places_kept w.cq q)
        own = subst (λ o. AllByRecursion (λ x. (is_in x (option_map_or (λ v. v.taken) o []) ≡ true) × (after.room.holder (srq_of q t) x ≡ q.queue)) (places_kept w.cq q)) is held.1

        taken : AllByRecursion (λ x. is_in x z.taken ≡ true) (places_kept w.cq q)
        taken = all-map (λ x. (is_in x z.taken ≡ true) × (after.room.holder (srq_of q t) x ≡ q.queue)) (λ x. is_in x z.taken ≡ true) (λ x two. two.0) (places_kept w.cq q) own

    by : (o : Option ℕ) → IfSome o (λ t. AreHeld after.room.holder q.queue (srq_of q t) (taken_in (w.srq (srq_of q t))) (places_kept w.cq q))
        → IfSome (option_map (srq_of q) o) (λ s. IfSome (w.srq s).srq (λ v. StandOnce (places_of (names_around q) w) v.taken))
    by None held = record {}
    by (Some t) held = at t held (w.srq (srq_of q t)).srq refl
