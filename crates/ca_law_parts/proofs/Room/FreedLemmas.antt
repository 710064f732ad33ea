-- A place of a shared receive queue whose completion waits stands once among those that were taken, and no other completion
-- that waits stands for it.
use Rattle.std.proofs.Common.{◌≡◌, ◌∙◌, ℕ, suc, ◌<◌, ◌==◌, ◌||◌, ◌&&◌, arith, Bool, true, false, List, [], ◌∷◌, ◌++◌, filter, length, map, Option, None, Some, IfSome, is_some, ap, ap₂, subst, sym, if◌then◌else◌, refl, true≢false}
use Rattle.std.proofs.lemmas.Bool.{eq-eqb, eqb-true}
use Rattle.std.specs.List.{AllByRecursion, IsDistinct}
use Rattle.ca_base.specs.Configuration.{Configuration}
use Rattle.ca_base.specs.declared.completion.Completion.{Completion}
use Rattle.ca_keys.specs.declared.names.QueueId.{QueueId}
use Rattle.ca_keys.specs.declared.names.Slot.{Slot}
use Rattle.std.specs.Option.{option_eq, option_map_or}
use Rattle.ca_keys.specs.Equal.{bool_eq}
use Rattle.ca_base.specs.objects.CompletionQueue.{CompletionQueue, source_in}
use Rattle.ca_base.specs.objects.QueuePair.{QueuePair, Present}
use Rattle.ca_base.specs.objects.SharedReceives.{SharedReceives}
use Rattle.ca_cq.proofs.Rooms.{none-of}
use Rattle.ca_srq.specs.Taken.{stands_once}
use Rattle.ca_law_parts.specs.Room.{AreDistinct, HasRoom, depth_of, is_in, taken_in, use_of}
use Rattle.ca_law_parts.proofs.Room.FitLemmas.{IsAt, TakesFrom, at-due, distinct-passing, members, user-held}
use Rattle.ca_law_parts.proofs.Room.PollRoomLemmas.{source-receive, source-takes, takes-none}
use Rattle.ca_law_parts.proofs.Room.RoomLists.{all-in, all-map, ascend-bounds, is_of, number-swap}
use Rattle.ca_law_world.proofs.Sound.SettledLemmas.{queue-refl}
use Rattle.ca_model.specs.machine.CompletionVerbs.{source_of_completion}
use Rattle.ca_model.specs.machine.Places.{Ascend, places_of_side}
use Rattle.ca_model.specs.machine.Sound.{IsSoundWorld}
use Rattle.ca_model.specs.machine.World.{World}

-- a place below those that ascend is none of them
none-below : (place low high : ℕ) (xs : List ℕ) → place < low → Ascend low high xs → length (filter (λ p. p == place) xs) ≡ 0
none-below place low high [] below up = refl
none-below place low high (x ∷ xs) below up = by (x == place) refl (none-below place (suc x) high xs (omega (arith, below, up.0)) up.1)
  where
    by : (b : Bool) → (x == place) ≡ b → length (filter (λ p. p == place) xs) ≡ 0 → length (if b then x ∷ filter (λ p. p == place) xs else filter (λ p. p == place) xs) ≡ 0
    by true e rest = absurd (omega (arith, below, up.0, eqb-true x place e))
    by false e rest = rest

-- a place among those that ascend stands there once
once-ascending : (place low high : ℕ) (xs : List ℕ) → Ascend low high xs → is_in place xs ≡ true → length (filter (λ p. p == place) xs) ≡ 1
once-ascending place low high [] up among = absurd (true≢false (sym among))
once-ascending place low high (x ∷ xs) up among = by (x == place) refl among (once-ascending place (suc x) high xs up.1)
  where
    by : (b : Bool) → (x == place) ≡ b → (b || is_in place xs) ≡ true → (is_in place xs ≡ true → length (filter (λ p. p == place) xs) ≡ 1)
        → length (if b then x ∷ filter (λ p. p == place) xs else filter (λ p. p == place) xs) ≡ 1
    by true e among rest = ap suc (none-below place (suc x) high xs (omega (arith, eqb-true x place e)) up.1)
    by false e among rest = rest among

-- the front of places that ascend ascends
front-ascends : (low high : ℕ) (xs ys : List ℕ) → Ascend low high (xs ++ ys) → Ascend low high xs
front-ascends low high [] ys up = ascend-bounds low high ys up
front-ascends low high (x ∷ xs) ys up = (up.0, front-ascends (suc x) high xs ys up.1)

pub taken-once : (place next : ℕ) (taken more : List ℕ) → Ascend 0 next (taken ++ more) → is_in place taken ≡ true → stands_once place taken ≡ true
taken-once place next taken more up among = eq-eqb (length (filter (λ p. p == place) taken)) 1 (once-ascending place 0 next taken (front-ascends 0 next taken more up) among)

-- the place of each completion of a receive that waits, taken of this shared receive queue, stands there once
pub freed-once : (c : Configuration) (w : World) (s : Slot) (v : CompletionQueue) (t : ℕ) (z : SharedReceives) → IsSoundWorld c w → HasRoom w → w.cq s ≡ Some v
    → (w.srq (record s { slot = t })).srq ≡ Some z
    → AllByRecursion (λ x. x.receive ≡ true → source_in v.reservations x.queue ≡ Some t → stands_once x.place z.taken ≡ true) v.waiting
freed-once c w s v t z sound room there is = all-map (λ x. (n : QueueId) → is_of n true x ≡ true → is_in x.place (places_of_side n true v.waiting) ≡ true)
    (λ x. x.receive ≡ true → source_in v.reservations x.queue ≡ Some t → stands_once x.place z.taken ≡ true) one v.waiting (members v.waiting)
  where
    T : Slot
    T = record s { slot = t }

    at : IsAt c w s v
    at = record { sound = sound; room = room; there = there }

    up : Ascend 0 z.next (z.taken ++ map (λ r. r.place) z.waiting)
    up = subst (λ o. IfSome o (λ q. Ascend 0 q.next (q.taken ++ map (λ r. r.place) q.waiting))) is (room.sequence T)

    taken : (place : ℕ) → is_in place (taken_in (w.srq T)) ≡ true → stands_once place z.taken ≡ true
    taken place among = taken-once place z.next z.taken (map (λ r. r.place) z.waiting) up (subst (λ o. is_in place (option_map_or (λ q. q.taken) o []) ≡ true) is among)

    one : (x : Completion) → ((n : QueueId) → is_of n true x ≡ true → is_in x.place (places_of_side n true v.waiting) ≡ true)
        → x.receive ≡ true → source_in v.reservations x.queue ≡ Some t → stands_once x.place z.taken ≡ true
    one x member receive source = taken x.place (all-in (λ p. (is_in p (taken_in (w.srq T)) ≡ true) × (room.holder T p ≡ x.queue)) x.place (places_of_side x.queue true v.waiting)
        (user-held c w s v t x.queue at takes).1 (member x.queue own)).0
      where
        own : is_of x.queue true x ≡ true
        own = ap₂ (λ a b. a && b) (queue-refl x.queue) (ap (λ b. bool_eq b true) receive)

        takes : TakesFrom s t (use_of (w.queue x.queue))
        takes = source-takes (λ n. use_of (w.queue n)) (λ k. depth_of (w.srq k)) s v.reservations x.queue t (at-due c w s v at) source

distinct-so : (xs : List ℕ) → AreDistinct xs → IsDistinct (λ a b. a == b) xs
unfolding IsDistinct
distinct-so [] all = record {}
distinct-so (x ∷ xs) all = (
  all-map (λ y. (y == x) ≡ false) (λ y. (x == y) ≡ false) (λ y e. number-swap y x e) xs (none-of (λ y. y == x) xs all.0),
  distinct-so xs all.1,
)

-- of the completions that wait no two stand for one place of a shared receive queue
pub apart-waiting : (c : Configuration) (w : World) (s : Slot) (v : CompletionQueue) (t : ℕ) → IsSoundWorld c w → HasRoom w → w.cq s ≡ Some v
    → IsDistinct (λ a b. a == b) (map (λ x. x.place) (filter (λ x. option_eq (λ a b. a == b) (Some t) (source_of_completion v x)) v.waiting))
apart-waiting c w s v t sound room there = distinct-so (map (λ x. x.place) (filter is_from v.waiting)) (distinct-passing is_from D (room.holder T) v.waiting
    (all-map (λ x. (n : QueueId) → is_of n true x ≡ true → is_in x.place (places_of_side n true v.waiting) ≡ true)
    (λ x. is_from x ≡ true → (x.receive ≡ true) × D x.queue × (room.holder T x.place ≡ x.queue)) one v.waiting (members v.waiting))
    (λ n takes. (user-held c w s v t n at takes).0))
  where
    T : Slot
    T = record s { slot = t }

    at : IsAt c w s v
    at = record { sound = sound; room = room; there = there }

    is_from : Completion → Bool
    is_from x = option_eq (λ a b. a == b) (Some t) (source_of_completion v x)

    D : QueueId → Type 0
    D n = TakesFrom s t (use_of (w.queue n))

    one : (x : Completion) → ((n : QueueId) → is_of n true x ≡ true → is_in x.place (places_of_side n true v.waiting) ≡ true)
        → is_from x ≡ true → (x.receive ≡ true) × D x.queue × (room.holder T x.place ≡ x.queue)
    one x member from = by (source_of_completion v x) refl from
      where
        so : source_of_completion v x ≡ Some t → (x.receive ≡ true) × D x.queue × (room.holder T x.place ≡ x.queue)
        so is = (
          receive,
          takes,
          (all-in (λ p. (is_in p (taken_in (w.srq T)) ≡ true) × (room.holder T p ≡ x.queue)) x.place (places_of_side x.queue true v.waiting)
              (user-held c w s v t x.queue at takes).1 (member x.queue (ap₂ (λ a b. a && bool_eq b true) (queue-refl x.queue) receive))).1,
        )
          where
            receive : x.receive ≡ true
            receive = (source-receive v x t is).0

            takes : D x.queue
            takes = source-takes (λ n. use_of (w.queue n)) (λ k. depth_of (w.srq k)) s v.reservations x.queue t (at-due c w s v at) (source-receive v x t is).1

        by : (o : Option ℕ) → source_of_completion v x ≡ o → option_eq (λ a b. a == b) (Some t) o ≡ true → (x.receive ≡ true) × D x.queue × (room.holder T x.place ≡ x.queue)
        by None is from = absurd (true≢false (sym from))
        by (Some u) is from = so (is ∙ ap Some (sym (eqb-true t u from)))

-- a queue pair that reserved here for a shared receive queue has no receives of its own
pub sharing-none : (c : Configuration) (w : World) (s : Slot) (v : CompletionQueue) (n : QueueId) (q : QueuePair) → IsSoundWorld c w → HasRoom w → w.cq s ≡ Some v
    → w.queue n ≡ Present q → is_some (source_in v.reservations n) ≡ true → q.receives ≡ None
sharing-none c w s v n q sound room there is has = by (source_in v.reservations n) refl has
  where
    by : (o : Option ℕ) → source_in v.reservations n ≡ o → is_some o ≡ true → q.receives ≡ None
    by None from has = absurd (true≢false (sym has))
    by (Some t) from has = takes-none c w s t n q sound is (source-takes (λ n. use_of (w.queue n)) (λ k. depth_of (w.srq k)) s v.reservations n t
        (at-due c w s v (record { sound = sound; room = room; there = there })) from)
