-- In a world that has room the completions that wait are no more than the capacity, and the receives of a queue pair no
-- more than its depth.
use Rattle.std.proofs.Common.{◌≡◌, ℕ, ◌≤◌, ◌==◌, ◌&&◌, ◌||◌, not, Bool, true, false, List, [], ◌∷◌, length, map, filter, Option, None, Some, IfSome, is_some, is_none, refl, arith, sym, ◌∙◌, ap, ap₂, subst, true≢false, if◌then◌else◌}
use Rattle.std.proofs.lemmas.Bool.{and_parts, eqb-true, or_parts, or_right}
use Rattle.std.specs.List.{AllByRecursion, list_any}
use Rattle.std.specs.Option.{option_map, option_map_or}
use Rattle.ca_base.specs.declared.completion.Completion.{Completion}
use Rattle.ca_base.specs.declared.limits.TheConstants.{MAX_DEPTH}
use Rattle.ca_base.specs.declared.queue_numbers.Message.{Message}
use Rattle.ca_base.specs.declared.queue_numbers.Message.TheVariants as messages
use Rattle.ca_base.specs.declared.request.RecvRequest.{RecvRequest}
use Rattle.ca_base.specs.declared.reserve.Reservation.{Reservation}
use Rattle.ca_base.specs.declared.reserve.Reserve.{Reserve}
use Rattle.ca_base.specs.declared.reserve.Reserve.TheVariants.{Sends, Receives, Shared}
use Rattle.ca_keys.specs.declared.names.QueueId.{QueueId}
use Rattle.ca_keys.specs.declared.names.Slot.{Slot}
use Rattle.ca_base.specs.Configuration.{Configuration}
use Rattle.ca_keys.specs.Equal.{bool_eq, queue_eq, slot_eq}
use Rattle.ca_base.specs.objects.CompletionQueue.{CompletionQueue, is_for_sends, is_same_side, receives_of, room_reserved, user_of}
use Rattle.ca_base.specs.objects.QueuePair.{QueuePair, QueueSlot, NoQueue, Present, is_present, recv_cq_of, send_cq_of, srq_of}
use Rattle.ca_base.specs.objects.SharedReceives.{SharedReceives, SrqSlot}
use Rattle.ca_base.specs.objects.WorkQueue.{WorkQueue}
use Rattle.ca_model.specs.machine.Invariants.{IsQueue, IsReceives, IsSharedReceives, IsTaken}
use Rattle.ca_model.specs.machine.Places.{Ascend, first_held, places_in_use, places_of_side}
use Rattle.ca_model.specs.machine.Sound.{IsQueueOf, IsSettled, IsSoundWorld, side_of}
use Rattle.ca_model.specs.machine.World.{World, Queue_of, Srq_of}
use Rattle.ca_cq.specs.Room.{HaveRoomOf, IsReserved, count_against, counts_against, is_new_side, is_of_side, reservation_of, share_room}
use Rattle.ca_cq.proofs.Rooms.{all-of, fewer}
use Rattle.ca_cq.proofs.RoomLemmas.{own-all, waiting-fits}
use Rattle.ca_law_world.proofs.Sound.SettledLemmas.{queue-path, queue-refl, slot-path}
use Rattle.ca_law_parts.specs.Room.{AreDistinct, AreHeld, Has, HasRoom, HasSide, Holder, IsDue, IsInPlace, IsSlotInPlace, Use, depth_of, has_side, is_in, places_kept, rooms_of, taken_in, use_of, waits_in}
use Rattle.ca_law_parts.proofs.Room.RoomLists.{all-before, all-in, all-map, ascend-few, distinct-before, distinct-few, is_of, length-map, number-refl, side-head, side-none, side-skip}

-- the reservation of this side of a queue pair
abbrev pub side_reserve : Bool → QueueId → Reserve
side_reserve true n = Receives n
side_reserve false n = Sends n

-- a completion is of the side that its queue pair and its kind tell
pub own-side : (r : Reserve) (x : Completion) (b : Bool) → x.receive ≡ b → is_same_side r (side_reserve b x.queue) ≡ is_of_side r x
own-side r x true e = ap (λ b. queue_eq (user_of r) x.queue && bool_eq (is_for_sends r) (not b)) (sym e)
own-side r x false e = ap (λ b. queue_eq (user_of r) x.queue && bool_eq (is_for_sends r) (not b)) (sym e)

-- where a side has a reservation, so does its completion
pub side-stands : (rs : List Reservation) (x : Completion) (b : Bool) → x.receive ≡ b → has_side (side_reserve b x.queue) rs ≡ true → is_some (reservation_of rs x) ≡ true
side-stands [] x b e has = absurd (true≢false (sym has))
side-stands (r ∷ rs) x b e has = by (is_of_side r.who x) (own-side r.who x b e) has (side-stands rs x b e)
  where
    by : (z : Bool) → is_same_side r.who (side_reserve b x.queue) ≡ z → (is_same_side r.who (side_reserve b x.queue) || has_side (side_reserve b x.queue) rs) ≡ true
        → (has_side (side_reserve b x.queue) rs ≡ true → is_some (reservation_of rs x) ≡ true) → is_some (if z then Some r else reservation_of rs x) ≡ true
    by true f has rest = refl
    by false f has rest = rest (subst (λ z. (z || has_side (side_reserve b x.queue) rs) ≡ true) f has)

-- the reservation of a completion is of its side
pub own-of-side : (rs : List Reservation) (x : Completion) → IfSome (reservation_of rs x) (λ r. is_of_side r.who x ≡ true)
own-of-side [] x = record {}
own-of-side (r ∷ rs) x = by (is_of_side r.who x) refl (own-of-side rs x)
  where
    by : (b : Bool) → is_of_side r.who x ≡ b → IfSome (reservation_of rs x) (λ r. is_of_side r.who x ≡ true) → IfSome (if b then Some r else reservation_of rs x) (λ r. is_of_side r.who x ≡ true)
    by true e rest = e
    by false e rest = rest

-- what two things say of a value that may be there, together
pub both-some : {A : Type 0} (P Q : A → Type 0) (o : Option A) → IfSome o P → IfSome o Q → IfSome o (λ a. P a × Q a)
both-some P Q None one other = record {}
both-some P Q (Some a) one other = (one, other)

-- a completion that counts against a reservation of one queue pair's side is of that side
counts-sends : (rs : List Reservation) (n : QueueId) (x : Completion) → counts_against rs (Sends n) x ≡ true → is_of n false x ≡ true
counts-sends rs n x counts = by (reservation_of rs x) (own-of-side rs x) counts
  where
    at : (who : Reserve) → is_of_side who x ≡ true → share_room who (Sends n) ≡ true → (b : Bool) → x.receive ≡ b → is_of n false x ≡ true
    at (Sends m) of shares true e = absurd (true≢false (sym (and_parts (queue_eq m x.queue) (bool_eq true (not x.receive)) of).1 ∙ ap (λ b. bool_eq true (not b)) e))
    at (Sends m) of shares false e = ap₂ (λ a b. queue_eq a n && bool_eq b false) (sym (queue-path m x.queue (and_parts (queue_eq m x.queue) (bool_eq true (not x.receive)) of).0)) e
        ∙ ap (λ b. b && true) shares
    at (Receives m) of shares b e = absurd (true≢false (sym shares))
    at (Shared t m) of shares b e = absurd (true≢false (sym shares))

    by : (o : Option Reservation) → IfSome o (λ r. is_of_side r.who x ≡ true) → option_map_or (λ r. share_room r.who (Sends n)) o false ≡ true → is_of n false x ≡ true
    by None of counts = absurd (true≢false (sym counts))
    by (Some r) of counts = at r.who of counts x.receive refl

counts-receives : (rs : List Reservation) (n : QueueId) (x : Completion) → counts_against rs (Receives n) x ≡ true → is_of n true x ≡ true
counts-receives rs n x counts = by (reservation_of rs x) (own-of-side rs x) counts
  where
    at : (who : Reserve) → is_of_side who x ≡ true → share_room who (Receives n) ≡ true → (b : Bool) → x.receive ≡ b → is_of n true x ≡ true
    at (Receives m) of shares false e = absurd (true≢false (sym (and_parts (queue_eq m x.queue) (bool_eq false (not x.receive)) of).1 ∙ ap (λ b. bool_eq false (not b)) e))
    at (Receives m) of shares true e = ap₂ (λ a b. queue_eq a n && bool_eq b true) (sym (queue-path m x.queue (and_parts (queue_eq m x.queue) (bool_eq false (not x.receive)) of).0)) e
        ∙ ap (λ b. b && true) shares
    at (Sends m) of shares b e = absurd (true≢false (sym shares))
    at (Shared t m) of shares b e = absurd (true≢false (sym shares))

    by : (o : Option Reservation) → IfSome o (λ r. is_of_side r.who x ≡ true) → option_map_or (λ r. share_room r.who (Receives n)) o false ≡ true → is_of n true x ≡ true
    by None of counts = absurd (true≢false (sym counts))
    by (Some r) of counts = at r.who of counts x.receive refl

-- a queue pair that takes its receives here from this shared receive queue
abbrev pub TakesFrom : Slot → ℕ → Option Use → Type 0
TakesFrom s t u = Has (λ u. (u.recv_cq ≡ s) × (u.srq ≡ Some (record s { slot = t }))) u

-- a completion that counts against a shared receive queue is of a receive of one of its users
counts-shared : (uses : QueueId → Option Use) (depths : Slot → Option ℕ) (s : Slot) (rs : List Reservation) (t : ℕ) (m : QueueId) (x : Completion) → AllByRecursion (λ r. IsDue uses depths s r.who r.room) rs
    → counts_against rs (Shared t m) x ≡ true → (x.receive ≡ true) × TakesFrom s t (uses x.queue)
counts-shared uses depths s rs t m x due counts =
    by (reservation_of rs x) (both-some (λ r. is_of_side r.who x ≡ true) (λ r. IsDue uses depths s r.who r.room) (reservation_of rs x) (own-of-side rs x) (own-all (λ r. IsDue uses depths s r.who r.room) rs x due)) counts
  where
    uses-it : (k : ℕ) (u : Option Use) (room : ℕ) → Has (λ u. (u.recv_cq ≡ s) × (u.srq ≡ Some (record s { slot = k })) × (depths (record s { slot = k }) ≡ Some room)) u → k ≡ t → TakesFrom s t u
    uses-it k None room due same = absurd due
    uses-it k (Some u) room due same = (due.0, due.1 ∙ ap (λ k. Some (record s { slot = k })) same)

    at : (who : Reserve) (room : ℕ) → is_of_side who x ≡ true → IsDue uses depths s who room → share_room who (Shared t m) ≡ true → (b : Bool) → x.receive ≡ b → (x.receive ≡ true) × TakesFrom s t (uses x.queue)
    at (Shared k n) room of due shares true e =
        (e, subst (λ n. TakesFrom s t (uses n)) (queue-path n x.queue (and_parts (queue_eq n x.queue) (bool_eq false (not x.receive)) of).0) (uses-it k (uses n) room due (eqb-true k t shares)))
    at (Shared k n) room of due shares false e = absurd (true≢false (sym (and_parts (queue_eq n x.queue) (bool_eq false (not x.receive)) of).1 ∙ ap (λ b. bool_eq false (not b)) e))
    at (Receives n) room of due shares b e = absurd (true≢false (sym shares))
    at (Sends n) room of due shares b e = absurd (true≢false (sym shares))

    by : (o : Option Reservation) → IfSome o (λ r. (is_of_side r.who x ≡ true) × IsDue uses depths s r.who r.room) → option_map_or (λ r. share_room r.who (Shared t m)) o false ≡ true
        → (x.receive ≡ true) × TakesFrom s t (uses x.queue)
    by None of counts = absurd (true≢false (sym counts))
    by (Some r) of counts = at r.who r.room of.0 of.1 counts x.receive refl

side-tail : (n : QueueId) (place : ℕ) (y : Completion) (ys : List Completion) → is_in place (places_of_side n true (y ∷ ys)) ≡ false → is_in place (places_of_side n true ys) ≡ false
side-tail n place y ys none = by (is_of n true y) refl
  where
    by : (b : Bool) → is_of n true y ≡ b → is_in place (places_of_side n true ys) ≡ false
    by true e = (or_parts (y.place == place) (is_in place (places_of_side n true ys)) (ap (is_in place) (sym (side-head n true y ys e)) ∙ none)).1
    by false e = ap (is_in place) (sym (side-skip n true y ys e)) ∙ none

-- a place that its queue pair does not complete twice is not among those of completions that pass a test, each held by its
-- queue pair
apart-passing : (p : Completion → Bool) (D : QueueId → Type 0) (holds : ℕ → QueueId) (n : QueueId) (place : ℕ) (ys : List Completion) → holds place ≡ n
    → AllByRecursion (λ y. p y ≡ true → (y.receive ≡ true) × D y.queue × (holds y.place ≡ y.queue)) ys
    → is_in place (places_of_side n true ys) ≡ false → is_in place (map (λ c. c.place) (filter p ys)) ≡ false
apart-passing p D holds n place [] held all none = refl
apart-passing p D holds n place (y ∷ ys) held all none =
    by (p y) refl (apart-passing p D holds n place ys held all.1 (side-tail n place y ys none))
  where
    same : (y.receive ≡ true) × D y.queue × (holds y.place ≡ y.queue) → (b : Bool) → (y.place == place) ≡ b → b ≡ false
    same its true e = absurd (true≢false (sym (ap (λ b. b || is_in place (places_of_side n true ys)) e) ∙ (ap (is_in place) (sym (side-head n true y ys of)) ∙ none)))
      where
        of : is_of n true y ≡ true
        of = ap₂ (λ a b. queue_eq a n && bool_eq b true) (sym its.2 ∙ ap holds (eqb-true y.place place e) ∙ held) its.0 ∙ ap (λ b. b && true) (queue-refl n)
    same its false e = refl

    by : (b : Bool) → p y ≡ b → is_in place (map (λ c. c.place) (filter p ys)) ≡ false → is_in place (map (λ c. c.place) (if b then y ∷ filter p ys else filter p ys)) ≡ false
    by true e rest = ap₂ (λ a b. a || b) (same (all.0 e) (y.place == place) refl) rest
    by false e rest = rest

-- places of completions that pass a test: each is held by its queue pair, and of one queue pair none stands twice
pub distinct-passing : (p : Completion → Bool) (D : QueueId → Type 0) (holds : ℕ → QueueId) (xs : List Completion)
    → AllByRecursion (λ x. p x ≡ true → (x.receive ≡ true) × D x.queue × (holds x.place ≡ x.queue)) xs
    → ((n : QueueId) → D n → AreDistinct (places_of_side n true xs)) → AreDistinct (map (λ c. c.place) (filter p xs))
distinct-passing p D holds [] all each = record {}
distinct-passing p D holds (x ∷ xs) all each = by (p x) refl (distinct-passing p D holds xs all.1 (λ n d. later n d (is_of n true x) refl))
  where
    later : (n : QueueId) → D n → (b : Bool) → is_of n true x ≡ b → AreDistinct (places_of_side n true xs)
    later n d true e = (subst AreDistinct (side-head n true x xs e) (each n d)).1
    later n d false e = subst AreDistinct (side-skip n true x xs e) (each n d)

    of : x.receive ≡ true → is_of x.queue true x ≡ true
    of e = ap₂ (λ a b. a && bool_eq b true) (queue-refl x.queue) e

    by : (b : Bool) → p x ≡ b → AreDistinct (map (λ c. c.place) (filter p xs)) → AreDistinct (map (λ c. c.place) (if b then x ∷ filter p xs else filter p xs))
    by true e rest = (
      apart-passing p D holds x.queue x.place xs (all.0 e).2 all.1 (subst AreDistinct (side-head x.queue true x xs (of (all.0 e).0)) (each x.queue (all.0 e).1)).0,
      rest,
    )
    by false e rest = rest

-- the message in progress holds a receive that was taken
pub held-taken : (r : WorkQueue RecvRequest) (m : Option Message) → IsTaken (Some r) m → first_held r m ≤ r.next_taken
held-taken r (Some (messages.Send place receive bytes)) taken = omega (arith, taken)
held-taken r (Some (messages.Write key address left count)) taken = omega arith
held-taken r None taken = omega arith

-- a completion queue of a world that has room, with what is known of it
pub record IsAt (c : Configuration) (w : World) (s : Slot) (v : CompletionQueue) : Type 0 where
  pub sound : IsSoundWorld c w
  pub room : HasRoom w
  pub there : w.cq s ≡ Some v

pub at-settled : (c : Configuration) (w : World) (s : Slot) (v : CompletionQueue) → IsAt c w s v → AllByRecursion (λ x. IsSettled s (w.queue x.queue) x) v.waiting
at-settled c w s v at = subst (λ o. IfSome o (λ v. AllByRecursion (λ x. IsSettled s (w.queue x.queue) x) v.waiting)) at.there (at.sound.settled s)

pub at-due : (c : Configuration) (w : World) (s : Slot) (v : CompletionQueue) → IsAt c w s v
    → AllByRecursion (λ r. IsDue (λ n. use_of (w.queue n)) (λ t. depth_of (w.srq t)) s r.who r.room) v.reservations
at-due c w s v at = subst (λ o. IfSome (rooms_of o) (λ v. AllByRecursion (λ r. IsDue (λ n. use_of (w.queue n)) (λ t. depth_of (w.srq t)) s r.who r.room) v.reservations)) at.there (at.room.reserved.due s)

pub at-waits : (c : Configuration) (w : World) (s : Slot) (v : CompletionQueue) → IsAt c w s v → waits_in w.cq s ≡ v.waiting
at-waits c w s v at = ap (λ o. option_map_or (λ v. v.waiting) o []) at.there

-- a queue pair that is there can come up
pub sound-queue : (c : Configuration) (w : World) (n : QueueId) (q : QueuePair) → IsSoundWorld c w → w.queue n ≡ Present q → IsQueue q
sound-queue c w n q sound is = (subst (IsQueueOf n) is (sound.things (Queue_of n))).2

-- the queue pair of a name, with what is known of it
pub record IsPresent (w : World) (holder : Holder) (n : QueueId) (q : QueuePair) : Type 0 where
  pub there : w.queue n ≡ Present q
  pub named : q.queue ≡ n
  pub place : IsInPlace w.cq w.srq holder q

pub present : (c : Configuration) (w : World) (room : HasRoom w) (n : QueueId) (q : QueuePair) → IsSoundWorld c w → w.queue n ≡ Present q → IsPresent w room.holder n q
present c w room n q sound is = record {
  there = is;
  named = (subst (IsQueueOf n) is (sound.things (Queue_of n))).0;
  place = subst (IsSlotInPlace w.cq w.srq room.holder) is (room.places n);
}

-- each completion that waits has its reservation
standing : (c : Configuration) (w : World) (s : Slot) (v : CompletionQueue) → IsAt c w s v → AllByRecursion (λ x. is_some (reservation_of v.reservations x) ≡ true) v.waiting
standing c w s v at = all-map (λ x. IsSettled s (w.queue x.queue) x) (λ x. is_some (reservation_of v.reservations x) ≡ true) one v.waiting (at-settled c w s v at)
  where
    has : (who : Reserve) (t : Slot) → slot_eq t s ≡ true → HasSide who (rooms_of (w.cq t)) → has_side who v.reservations ≡ true
    has who t e side = subst (λ o. HasSide who (rooms_of o)) (ap w.cq (slot-path t s e) ∙ at.there) side

    one : (x : Completion) → IsSettled s (w.queue x.queue) x → is_some (reservation_of v.reservations x) ≡ true
    one x settled = by (w.queue x.queue) refl settled x.receive refl
      where
        by : (t : QueueSlot) → w.queue x.queue ≡ t → IsSettled s t x → (b : Bool) → x.receive ≡ b → is_some (reservation_of v.reservations x) ≡ true
        by (NoQueue incarnation timers) is settled b e = absurd settled
        by (Present q) is settled true e = side-stands v.reservations x true e (has (Receives x.queue) (recv_cq_of q) (ap (λ b. slot_eq (side_of q b) s) (sym e) ∙ settled.0)
            (subst (λ t. IfSome (use_of t) (λ u. HasSide (Receives x.queue) (rooms_of (w.cq u.recv_cq)))) is (at.room.reserved.receives x.queue)))
        by (Present q) is settled false e = side-stands v.reservations x false e (has (Sends x.queue) (send_cq_of q) (ap (λ b. slot_eq (side_of q b) s) (sym e) ∙ settled.0)
            (subst (λ t. IfSome (use_of t) (λ u. HasSide (Sends x.queue) (rooms_of (w.cq u.send_cq)))) is (at.room.reserved.sends x.queue)))

-- the sends of a queue pair that wait in its completion queue are no more than its depth
sends-fit : (c : Configuration) (w : World) (s : Slot) (v : CompletionQueue) (n : QueueId) (q : QueuePair) → IsAt c w s v → (holder : Holder) → IsPresent w holder n q → IsQueue q
    → send_cq_of q ≡ s → length (places_of_side n false v.waiting) ≤ q.sends.depth
sends-fit c w s v n q at holder p sound same = omega (arith, ascend-few q.sends.first q.requester.oldest (places_of_side n false v.waiting) places, sound.requester.begun, sound.requester.waiting, sound.sends.room)
  where
    places : Ascend q.sends.first q.requester.oldest (places_of_side n false v.waiting)
    places = subst (λ xs. Ascend q.sends.first q.requester.oldest (places_of_side n false xs)) (ap (waits_in w.cq) same ∙ at-waits c w s v at)
        (subst (λ m. Ascend q.sends.first q.requester.oldest (places_of_side m false (waits_in w.cq (send_cq_of q)))) p.named p.place.sends)

-- so are the receives of its own
own-fit : (c : Configuration) (w : World) (s : Slot) (v : CompletionQueue) (n : QueueId) (q : QueuePair) (r : WorkQueue RecvRequest) → IsAt c w s v → (holder : Holder) → IsPresent w holder n q → IsQueue q
    → recv_cq_of q ≡ s → q.receives ≡ Some r → length (places_of_side n true v.waiting) ≤ r.depth
own-fit c w s v n q r at holder p sound same own = omega (arith, ascend-few r.first (first_held r q.responder.message) (places_of_side n true v.waiting) places, held-taken r q.responder.message taken, receives.waiting, receives.queue.room)
  where
    receives : IsReceives r
    receives = subst (λ o. IfSome o IsReceives) own sound.receives

    taken : IsTaken (Some r) q.responder.message
    taken = subst (λ o. IsTaken o q.responder.message) own sound.taken

    places : Ascend r.first (first_held r q.responder.message) (places_of_side n true v.waiting)
    places = subst (λ xs. Ascend r.first (first_held r q.responder.message) (places_of_side n true xs)) (ap (waits_in w.cq) same ∙ at-waits c w s v at)
        (subst (λ m. Ascend r.first (first_held r q.responder.message) (places_of_side m true (waits_in w.cq (recv_cq_of q)))) p.named
        (subst (λ o. IfSome o (λ r. Ascend r.first (first_held r q.responder.message) (places_of_side q.queue true (waits_in w.cq (recv_cq_of q))))) own p.place.receives))

pub some-same : {A : Type 0} (a b : A) → Some a ≡ Some b → a ≡ b
some-same a b same = ap (λ o. option_map_or (λ x. x) o a) same

-- each completion's place is among those of its side
pub members : (xs : List Completion) → AllByRecursion (λ x. (n : QueueId) → is_of n true x ≡ true → is_in x.place (places_of_side n true xs) ≡ true) xs
members [] = record {}
members (x ∷ xs) = (
  λ n e. ap (is_in x.place) (side-head n true x xs e) ∙ ap (λ b. b || is_in x.place (places_of_side n true xs)) (number-refl x.place),
  all-map (λ y. (n : QueueId) → is_of n true y ≡ true → is_in y.place (places_of_side n true xs) ≡ true)
      (λ y. (n : QueueId) → is_of n true y ≡ true → is_in y.place (places_of_side n true (x ∷ xs)) ≡ true) (λ y is n e. more n y.place (is n e) (is_of n true x) refl) xs (members xs),
)
  where
    more : (n : QueueId) (place : ℕ) → is_in place (places_of_side n true xs) ≡ true → (b : Bool) → is_of n true x ≡ b → is_in place (places_of_side n true (x ∷ xs)) ≡ true
    more n place is true e = ap (is_in place) (side-head n true x xs e) ∙ or_right (x.place == place) (is_in place (places_of_side n true xs)) is
    more n place is false e = ap (is_in place) (side-skip n true x xs e) ∙ is

-- the places that wait here of a user of a shared receive queue are its own
pub user-held : (c : Configuration) (w : World) (s : Slot) (v : CompletionQueue) (t : ℕ) (n : QueueId) → (at : IsAt c w s v) → TakesFrom s t (use_of (w.queue n))
    → AreHeld at.room.holder n (record s { slot = t }) (taken_in (w.srq (record s { slot = t }))) (places_of_side n true v.waiting)
user-held c w s v t n at takes = by (w.queue n) refl takes
  where
    T : Slot
    T = record s { slot = t }

    held : (q : QueuePair) → IsPresent w at.room.holder n q → recv_cq_of q ≡ s → (o : Option ℕ) → q.srq ≡ o → option_map (srq_of q) o ≡ Some T
        → AreHeld at.room.holder n T (taken_in (w.srq T)) (places_of_side n true v.waiting)
    held q p same None e of = absurd (true≢false (sym (ap is_some of)))
    held q p same (Some k) e of = before (subst (λ t. AreHeld at.room.holder n t (taken_in (w.srq t)) (places_kept w.cq q)) (some-same (srq_of q k) T of)
        (subst (λ m. AreHeld at.room.holder m (srq_of q k) (taken_in (w.srq (srq_of q k))) (places_kept w.cq q)) p.named
        (subst (λ o. IfSome o (λ t. AreHeld at.room.holder q.queue (srq_of q t) (taken_in (w.srq (srq_of q t))) (places_kept w.cq q))) e p.place.shared)))
      where
        sides : places_of_side q.queue true (waits_in w.cq (recv_cq_of q)) ≡ places_of_side n true v.waiting
        sides = ap₂ (λ m xs. places_of_side m true xs) p.named (ap (waits_in w.cq) same ∙ at-waits c w s v at)

        before : AreHeld at.room.holder n T (taken_in (w.srq T)) (places_kept w.cq q) → AreHeld at.room.holder n T (taken_in (w.srq T)) (places_of_side n true v.waiting)
        before all = subst (AreHeld at.room.holder n T (taken_in (w.srq T))) sides (
          distinct-before (places_of_side q.queue true (waits_in w.cq (recv_cq_of q))) (places_in_use q.responder.message) all.0,
          all-before (λ x. (is_in x (taken_in (w.srq T)) ≡ true) × (at.room.holder T x ≡ n)) (places_of_side q.queue true (waits_in w.cq (recv_cq_of q))) (places_in_use q.responder.message) all.1,
        )

    by : (z : QueueSlot) → w.queue n ≡ z → TakesFrom s t (use_of z) → AreHeld at.room.holder n T (taken_in (w.srq T)) (places_of_side n true v.waiting)
    by (NoQueue incarnation timers) is takes = absurd takes
    by (Present q) is takes = held q (present c w at.room n q at.sound is) takes.0 q.srq refl takes.1

-- no more completions count against a reservation for a shared receive queue than were taken of it
shared-fit : (c : Configuration) (w : World) (s : Slot) (v : CompletionQueue) (t : ℕ) (m : QueueId) → (at : IsAt c w s v)
    → count_against v (Shared t m) ≤ length (taken_in (w.srq (record s { slot = t })))
shared-fit c w s v t m at = omega (arith, length-map (λ (x : Completion). x.place) (filter counts v.waiting), distinct-few (map (λ c. c.place) (filter counts v.waiting)) (taken_in (w.srq T)) distinct among)
  where
    T : Slot
    T = record s { slot = t }

    counts : Completion → Bool
    counts = counts_against v.reservations (Shared t m)

    D : QueueId → Type 0
    D n = TakesFrom s t (use_of (w.queue n))

    Own : Completion → Type 0
    Own x = counts x ≡ true → (x.receive ≡ true) × D x.queue × (at.room.holder T x.place ≡ x.queue) × (is_in x.place (taken_in (w.srq T)) ≡ true)

    own : (x : Completion) → ((n : QueueId) → is_of n true x ≡ true → is_in x.place (places_of_side n true v.waiting) ≡ true) → Own x
    own x member is = by (counts-shared (λ n. use_of (w.queue n)) (λ t. depth_of (w.srq t)) s v.reservations t m x (at-due c w s v at) is)
      where
        by : (x.receive ≡ true) × D x.queue → (x.receive ≡ true) × D x.queue × (at.room.holder T x.place ≡ x.queue) × (is_in x.place (taken_in (w.srq T)) ≡ true)
        by two = (two.0, two.1, (in-place two).1, (in-place two).0)
          where
            in-place : (x.receive ≡ true) × D x.queue → (is_in x.place (taken_in (w.srq T)) ≡ true) × (at.room.holder T x.place ≡ x.queue)
            in-place two = all-in (λ y. (is_in y (taken_in (w.srq T)) ≡ true) × (at.room.holder T y ≡ x.queue)) x.place (places_of_side x.queue true v.waiting)
                (user-held c w s v t x.queue at two.1).1 (member x.queue (ap₂ (λ a b. a && bool_eq b true) (queue-refl x.queue) two.0))

    all : AllByRecursion Own v.waiting
    all = all-map (λ x. (n : QueueId) → is_of n true x ≡ true → is_in x.place (places_of_side n true v.waiting) ≡ true) Own own v.waiting (members v.waiting)

    distinct : AreDistinct (map (λ c. c.place) (filter counts v.waiting))
    distinct = distinct-passing counts D (at.room.holder T) v.waiting
        (all-map Own (λ x. counts x ≡ true → (x.receive ≡ true) × D x.queue × (at.room.holder T x.place ≡ x.queue)) (λ x f is. ((f is).0, (f is).1, (f is).2)) v.waiting all)
        (λ n d. (user-held c w s v t n at d).0)

    passing : (xs : List Completion) → AllByRecursion Own xs → AllByRecursion (λ x. is_in x (taken_in (w.srq T)) ≡ true) (map (λ c. c.place) (filter counts xs))
    passing [] all = record {}
    passing (x ∷ xs) all = add (counts x) refl (passing xs all.1)
      where
        add : (b : Bool) → counts x ≡ b → AllByRecursion (λ x. is_in x (taken_in (w.srq T)) ≡ true) (map (λ c. c.place) (filter counts xs))
            → AllByRecursion (λ x. is_in x (taken_in (w.srq T)) ≡ true) (map (λ c. c.place) (if b then x ∷ filter counts xs else filter counts xs))
        add true e rest = ((all.0 e).3, rest)
        add false e rest = rest

    among : AllByRecursion (λ x. is_in x (taken_in (w.srq T)) ≡ true) (map (λ c. c.place) (filter counts v.waiting))
    among = passing v.waiting all

-- no more places were taken of a shared receive queue than it has
pub taken-few : (slot : SrqSlot) (room : ℕ) → IfSome slot.srq IsSharedReceives → depth_of slot ≡ Some room → length (taken_in slot) ≤ room
taken-few slot room sound is = by slot.srq sound is
  where
    by : (o : Option SharedReceives) → IfSome o IsSharedReceives → option_map (λ s. s.depth) o ≡ Some room → length (option_map_or (λ s. s.taken) o []) ≤ room
    by None sound is = absurd (true≢false (sym (ap is_some is)))
    by (Some s) sound is = omega (arith, sound.room, some-same s.depth room is)

-- as many completions count against a reservation as it has room for, or fewer
within : (c : Configuration) (w : World) (s : Slot) (v : CompletionQueue) → IsAt c w s v → (who : Reserve) (room : ℕ)
    → IsDue (λ n. use_of (w.queue n)) (λ t. depth_of (w.srq t)) s who room → count_against v who ≤ room
within c w s v at (Sends n) room due = by (w.queue n) refl due
  where
    few : count_against v (Sends n) ≤ length (places_of_side n false v.waiting)
    few = omega (
      arith,
      length-map (λ (x : Completion). x.place) (filter (is_of n false) v.waiting),
      fewer (counts_against v.reservations (Sends n)) (is_of n false) v.waiting
          (all-of (λ x. counts_against v.reservations (Sends n) x ≡ true → is_of n false x ≡ true) (counts-sends v.reservations n) v.waiting),
    )

    by : (z : QueueSlot) → w.queue n ≡ z → IsDue (λ m. use_of z) (λ t. depth_of (w.srq t)) s (Sends n) room → count_against v (Sends n) ≤ room
    by (NoQueue incarnation timers) is due = absurd due
    by (Present q) is due = omega (arith, few, due.1, sends-fit c w s v n q at at.room.holder (present c w at.room n q at.sound is) (sound-queue c w n q at.sound is) due.0)
within c w s v at (Receives n) room due = by (w.queue n) refl due
  where
    few : count_against v (Receives n) ≤ length (places_of_side n true v.waiting)
    few = omega (
      arith,
      length-map (λ (x : Completion). x.place) (filter (is_of n true) v.waiting),
      fewer (counts_against v.reservations (Receives n)) (is_of n true) v.waiting
          (all-of (λ x. counts_against v.reservations (Receives n) x ≡ true → is_of n true x ≡ true) (counts-receives v.reservations n) v.waiting),
    )

    own : (q : QueuePair) → w.queue n ≡ Present q → recv_cq_of q ≡ s → (o : Option (WorkQueue RecvRequest)) → q.receives ≡ o → option_map (λ r. r.depth) o ≡ Some room → count_against v (Receives n) ≤ room
    own q is same None e depth = absurd (true≢false (sym (ap is_some depth)))
    own q is same (Some r) e depth =
        omega (arith, few, some-same r.depth room depth, own-fit c w s v n q r at at.room.holder (present c w at.room n q at.sound is) (sound-queue c w n q at.sound is) same e)

    by : (z : QueueSlot) → w.queue n ≡ z → IsDue (λ m. use_of z) (λ t. depth_of (w.srq t)) s (Receives n) room → count_against v (Receives n) ≤ room
    by (NoQueue incarnation timers) is due = absurd due
    by (Present q) is due = own q is due.0 q.receives refl due.1
within c w s v at (Shared t n) room due = omega (arith, shared-fit c w s v t n at, taken-few (w.srq (record s { slot = t })) room (at.sound.things (Srq_of (record s { slot = t }))) (depth (use_of (w.queue n)) due))
  where
    depth : (u : Option Use) → IsDue (λ m. u) (λ t. depth_of (w.srq t)) s (Shared t n) room → depth_of (w.srq (record s { slot = t })) ≡ Some room
    depth None due = absurd due
    depth (Some u) due = due.2

-- reservations that have their room together say the same of it
pub due-alike : (uses : QueueId → Option Use) (depths : Slot → Option ℕ) (s : Slot) (a : Reserve) (m : ℕ) (b : Reserve) (n : ℕ) → IsDue uses depths s a m → IsDue uses depths s b n
    → share_room a b ≡ true → n ≡ m
due-alike uses depths s (Sends p) m (Sends q) n one other shares = by (uses p) one (subst (λ k. IsDue uses depths s (Sends k) n) (sym (queue-path p q shares)) other)
  where
    by : (u : Option Use) → IsDue (λ k. u) depths s (Sends p) m → IsDue (λ k. u) depths s (Sends p) n → n ≡ m
    by None one other = absurd one
    by (Some u) one other = sym other.1 ∙ one.1
due-alike uses depths s (Receives p) m (Receives q) n one other shares = by (uses p) one (subst (λ k. IsDue uses depths s (Receives k) n) (sym (queue-path p q shares)) other)
  where
    by : (u : Option Use) → IsDue (λ k. u) depths s (Receives p) m → IsDue (λ k. u) depths s (Receives p) n → n ≡ m
    by None one other = absurd one
    by (Some u) one other = some-same n m (sym other.1 ∙ one.1)
due-alike uses depths s (Shared t p) m (Shared k q) n one other shares =
    some-same n m (sym (by k n q (uses q) other) ∙ (ap (λ k. depths (record s { slot = k })) (sym (eqb-true t k shares)) ∙ by t m p (uses p) one))
  where
    by : (t room : ℕ) (p : QueueId) (u : Option Use) → IsDue (λ k. u) depths s (Shared t p) room → depths (record s { slot = t }) ≡ Some room
    by t room p None due = absurd due
    by t room p (Some u) due = due.2
due-alike uses depths s (Sends p) m (Receives q) n one other shares = absurd (true≢false (sym shares))
due-alike uses depths s (Sends p) m (Shared k q) n one other shares = absurd (true≢false (sym shares))
due-alike uses depths s (Receives p) m (Sends q) n one other shares = absurd (true≢false (sym shares))
due-alike uses depths s (Receives p) m (Shared k q) n one other shares = absurd (true≢false (sym shares))
due-alike uses depths s (Shared t p) m (Sends q) n one other shares = absurd (true≢false (sym shares))
due-alike uses depths s (Shared t p) m (Receives q) n one other shares = absurd (true≢false (sym shares))

pub all-alike : (uses : QueueId → Option Use) (depths : Slot → Option ℕ) (s : Slot) (rs : List Reservation) → AllByRecursion (λ r. IsDue uses depths s r.who r.room) rs
    → AllByRecursion (λ r. HaveRoomOf r.who r.room rs) rs
all-alike uses depths s rs due = all-map (λ r. IsDue uses depths s r.who r.room) (λ r. HaveRoomOf r.who r.room rs)
    (λ r one. all-map (λ o. IsDue uses depths s o.who o.room) (λ o. share_room r.who o.who ≡ true → o.room ≡ r.room) (λ o other shares. due-alike uses depths s r.who r.room o.who o.room one other shares) rs due) rs due

-- a completion queue of a world that has room: every reservation has room for what waits
pub reserved-at : (c : Configuration) (w : World) (s : Slot) (v : CompletionQueue) → IsAt c w s v → IsReserved v
reserved-at c w s v at = record {
  standing = standing c w s v at;
  within = all-map (λ r. IsDue (λ n. use_of (w.queue n)) (λ t. depth_of (w.srq t)) s r.who r.room) (λ r. count_against v r.who ≤ r.room) (λ r due. within c w s v at r.who r.room due) v.reservations (at-due c w s v at);
  alike = all-alike (λ n. use_of (w.queue n)) (λ t. depth_of (w.srq t)) s v.reservations (at-due c w s v at);
  rooms = subst (λ o. IfSome (rooms_of o) (λ r. room_reserved r.reservations ≤ r.capacity)) at.there (at.room.reserved.within s);
}

pub waiting-few : (c : Configuration) (w : World) (s : Slot) (v : CompletionQueue) → IsSoundWorld c w → HasRoom w → w.cq s ≡ Some v → length v.waiting ≤ v.capacity
waiting-few c w s v sound room there = waiting-fits v (reserved-at c w s v (record { sound = sound; room = room; there = there }))

-- the receives of a queue pair, in both spellings
pub receives-side : (n : QueueId) (v : CompletionQueue) → receives_of n v ≡ places_of_side n true v.waiting
receives-side n v = by v.waiting
  where
    same : (a b : Bool) → (b && a) ≡ (a && bool_eq b true)
    same true true = refl
    same true false = refl
    same false true = refl
    same false false = refl

    by : (xs : List Completion) → map (λ (c : Completion). c.place) (filter (λ c. c.receive && queue_eq c.queue n) xs) ≡ places_of_side n true xs
    by [] = refl
    by (x ∷ xs) = at (x.receive && queue_eq x.queue n) (is_of n true x) (same (queue_eq x.queue n) x.receive) (by xs)
      where
        at : (a b : Bool) → a ≡ b → map (λ (c : Completion). c.place) (filter (λ c. c.receive && queue_eq c.queue n) xs) ≡ places_of_side n true xs
            → map (λ (c : Completion). c.place) (if a then x ∷ filter (λ c. c.receive && queue_eq c.queue n) xs else filter (λ c. c.receive && queue_eq c.queue n) xs)
            ≡ map (λ (c : Completion). c.place) (if b then x ∷ filter (is_of n true) xs else filter (is_of n true) xs)
        at true true e rest = ap (λ ys. x.place ∷ ys) rest
        at false false e rest = rest
        at true false e rest = absurd (true≢false e)
        at false true e rest = absurd (true≢false (sym e))

-- a side of which no completion waits here: that of a queue pair that is not there, or completes elsewhere
pub side-empty : (c : Configuration) (w : World) (s : Slot) (v : CompletionQueue) (n : QueueId) (receive : Bool) → IsSoundWorld c w → w.cq s ≡ Some v
    → ((q : QueuePair) → w.queue n ≡ Present q → slot_eq (side_of q receive) s ≡ false) → places_of_side n receive v.waiting ≡ []
side-empty c w s v n receive sound there elsewhere = side-none n receive v.waiting
    (all-map (λ x. IsSettled s (w.queue x.queue) x) (λ x. is_of n receive x ≡ false) (λ x settled. one x settled (is_of n receive x) refl) v.waiting
    (subst (λ o. IfSome o (λ v. AllByRecursion (λ x. IsSettled s (w.queue x.queue) x) v.waiting)) there (sound.settled s)))
  where
    flag : (a b : Bool) → bool_eq a b ≡ true → a ≡ b
    flag true b e = sym e
    flag false true e = absurd (true≢false (sym e))
    flag false false e = refl

    one : (x : Completion) → IsSettled s (w.queue x.queue) x → (b : Bool) → is_of n receive x ≡ b → b ≡ false
    one x settled false e = refl
    one x settled true e = absurd (by (w.queue n) refl (subst (λ k. IsSettled s (w.queue k) x) (queue-path x.queue n (and_parts (queue_eq x.queue n) (bool_eq x.receive receive) e).0) settled))
      where
        by : (z : QueueSlot) → w.queue n ≡ z → IsSettled s z x → ⊥
        by (NoQueue incarnation timers) is settled = settled
        by (Present q) is settled = true≢false (sym settled.0 ∙ (ap (λ b. slot_eq (side_of q b) s) (flag x.receive receive (and_parts (queue_eq x.queue n) (bool_eq x.receive receive) e).1) ∙ elsewhere q is))

pub receives-few : (c : Configuration) (w : World) (s : Slot) (v : CompletionQueue) (n : QueueId) → IsSoundWorld c w → HasRoom w → w.cq s ≡ Some v → length (receives_of n v) ≤ MAX_DEPTH
receives-few c w s v n sound room there = omega (arith, ap length (receives-side n v), by (w.queue n) refl)
  where
    at : IsAt c w s v
    at = record { sound = sound; room = room; there = there }

    few : length (places_of_side n true v.waiting) ≡ 0 → length (places_of_side n true v.waiting) ≤ MAX_DEPTH
    few none = omega (arith, none)

    here : (q : QueuePair) → w.queue n ≡ Present q → IsQueue q → recv_cq_of q ≡ s → (o : Option (WorkQueue RecvRequest)) → q.receives ≡ o → (p : Option ℕ) → q.srq ≡ p
        → length (places_of_side n true v.waiting) ≤ MAX_DEPTH
    here q is one same (Some r) own p e =
        omega (arith, own-fit c w s v n q r at at.room.holder (present c w at.room n q sound is) one same own, (subst (λ o. IfSome o IsReceives) own one.receives).queue.depth)
    here q is one same None own None e = absurd (true≢false (sym (sym (ap is_some own) ∙ (one.source ∙ ap is_none e))))
    here q is one same None own (Some k) e = shared (w.srq T) refl (sound.things (Srq_of T)) (room.reserved.shared n)
      where
        T : Slot
        T = record s { slot = k }

        sourced : srq_of q k ≡ T
        sourced = ap (λ (t : Slot). record t { slot = k }) same

        takes : TakesFrom s k (use_of (w.queue n))
        takes = subst (λ z. TakesFrom s k (use_of z)) (sym is) (same, ap (option_map (srq_of q)) e ∙ ap Some sourced)

        held : AreHeld room.holder n T (taken_in (w.srq T)) (places_of_side n true v.waiting)
        held = user-held c w s v k n at takes

        number : length (places_of_side n true v.waiting) ≤ length (taken_in (w.srq T))
        number = distinct-few (places_of_side n true v.waiting) (taken_in (w.srq T)) held.0 (all-map (λ x. (is_in x (taken_in (w.srq T)) ≡ true) × (room.holder T x ≡ n)) (λ x. is_in x (taken_in (w.srq T)) ≡ true) (λ x two. two.0) (places_of_side n true v.waiting) held.1)

        most : (slot : SrqSlot) → IfSome slot.srq IsSharedReceives → length (taken_in slot) ≤ MAX_DEPTH
        most slot sound = in-it slot.srq sound
          where
            in-it : (o : Option SharedReceives) → IfSome o IsSharedReceives → length (option_map_or (λ s. s.taken) o []) ≤ MAX_DEPTH
            in-it None sound = omega arith
            in-it (Some s) sound = omega (arith, sound.room, sound.depth)

        shared : (slot : SrqSlot) → w.srq T ≡ slot → IfSome (w.srq T).srq IsSharedReceives → IfSome (use_of (w.queue n)) (λ u. IfSome u.srq (λ t. is_some (depth_of (w.srq t)) ≡ true))
            → length (places_of_side n true v.waiting) ≤ MAX_DEPTH
        shared slot e one stands = omega (arith, number, most (w.srq T) one)

    by : (z : QueueSlot) → w.queue n ≡ z → length (places_of_side n true v.waiting) ≤ MAX_DEPTH
    by (NoQueue incarnation timers) is = few (ap length (side-empty c w s v n true sound there (λ q e. absurd (true≢false (ap is_present (sym e ∙ is))))))
    by (Present q) is = side (slot_eq (recv_cq_of q) s) refl
      where
        cq-in : QueueSlot → Slot
        cq-in (NoQueue incarnation timers) = s
        cq-in (Present p) = recv_cq_of p

        side : (b : Bool) → slot_eq (recv_cq_of q) s ≡ b → length (places_of_side n true v.waiting) ≤ MAX_DEPTH
        side true e = here q is (sound-queue c w n q sound is) (slot-path (recv_cq_of q) s e) q.receives refl q.srq refl
        side false e = few (ap length (side-empty c w s v n true sound there (λ p i. ap (λ z. slot_eq (cq-in z) s) (sym i ∙ is) ∙ e)))

-- a slot without a queue pair has no reservation: each that stands is of a queue pair that is there
pub vacant-new : (w : World) (s : Slot) (q : CompletionQueue) (who : Reserve) (incarnation timers : ℕ) → HasRoom w → w.queue (user_of who) ≡ NoQueue incarnation timers → w.cq s ≡ Some q
    → is_new_side who q ≡ true
vacant-new w s q who incarnation timers room vacant there = ap not (none q.reservations
    (subst (λ o. IfSome (rooms_of o) (λ v. AllByRecursion (λ r. IsDue uses depths s r.who r.room) v.reservations)) there (room.reserved.due s)))
  where
    uses : QueueId → Option Use
    uses n = use_of (w.queue n)

    depths : Slot → Option ℕ
    depths t = depth_of (w.srq t)

    empty : uses (user_of who) ≡ None
    empty = ap use_of vacant

    absent : (o : Reserve) (room : ℕ) → uses (user_of o) ≡ None → IsDue uses depths s o room → ⊥
    absent (Sends n) room e due = subst (Has (λ u. (u.send_cq ≡ s) × (u.send_depth ≡ room))) e due
    absent (Receives n) room e due = subst (Has (λ u. (u.recv_cq ≡ s) × (u.recv_depth ≡ Some room))) e due
    absent (Shared t n) room e due = subst (Has (λ u. (u.recv_cq ≡ s) × (u.srq ≡ Some (record s { slot = t })) × (depths (record s { slot = t }) ≡ Some room))) e due

    other : (o : Reserve) (room : ℕ) → IsDue uses depths s o room → (b : Bool) → is_same_side o who ≡ b → b ≡ false
    other o room due false e = refl
    other o room due true e = absurd (absent o room (ap uses (queue-path (user_of o) (user_of who) (and_parts (queue_eq (user_of o) (user_of who)) (bool_eq (is_for_sends o) (is_for_sends who)) e).0) ∙ empty) due)

    none : (rs : List Reservation) → AllByRecursion (λ r. IsDue uses depths s r.who r.room) rs → list_any (λ r. is_same_side r.who who) rs ≡ false
    none [] due = refl
    none (r ∷ rs) due = ap₂ (λ a b. a || b) (other r.who r.room due.0 (is_same_side r.who who) refl) (none rs due.1)
