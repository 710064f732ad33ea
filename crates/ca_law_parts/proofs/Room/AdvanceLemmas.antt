-- A queue pair that goes on in order leaves room, with what it takes of a shared receive queue.
use Rattle.std.proofs.Common.{◌≡◌, inr, ℕ, ◌==◌, ◌&&◌, ◌||◌, Bool, true, false, List, [], ◌∷◌, ◌++◌, map, take, drop, Option, None, Some, IfSome, is_some, is_none, refl, sym, ◌∙◌, ap, ap₂, subst, true≢false, if◌then◌else◌, append_assoc, slice_get}
use Rattle.std.proofs.lemmas.Bool.{or_left, or_right}
use Rattle.std.proofs.lemmas.List.{append-nil}
use Rattle.std.specs.List.{AllByRecursion}
use Rattle.std.specs.Option.{option_and_then, option_map, option_map_or}
use Rattle.ca_base.specs.declared.queue_numbers.Message.{Message}
use Rattle.ca_base.specs.declared.request.PlacedReceive.{PlacedReceive}
use Rattle.ca_base.specs.declared.request.RecvRequest.{RecvRequest}
use Rattle.ca_keys.specs.declared.names.QueueId.{QueueId}
use Rattle.ca_keys.specs.declared.names.Slot.{Slot}
use Rattle.ca_base.specs.Configuration.{Configuration}
use Rattle.ca_keys.specs.Equal.{queue_eq, slot_eq}
use Rattle.ca_base.specs.objects.CompletionQueue.{CompletionQueue, after_puts}
use Rattle.ca_base.specs.objects.QueuePair.{QueuePair, QueueSlot, Present, recv_cq_of, send_cq_of, srq_of}
use Rattle.ca_base.specs.objects.SharedReceives.{SharedReceives, SrqSlot, after_receive_take, first_receive}
use Rattle.ca_base.specs.objects.WorkQueue.{WorkQueue}
use Rattle.ca_model.specs.Past.{with_at}
use Rattle.ca_model.specs.declared.mark.Mark.{Mark}
use Rattle.ca_model.specs.machine.Around.{Around, completions_to, cq_updates, shared_in, srq_updates, updates_of}
use Rattle.ca_model.specs.machine.Invariants.{IsQueue}
use Rattle.ca_model.specs.machine.Places.{AreTakenInOrder, Ascend, IsInOrder, TakesInOrder, completions_in, places_done, places_in_use, places_of_side}
use Rattle.ca_model.specs.machine.Plan.{Update, ◌:=◌, put_all}
use Rattle.ca_model.specs.machine.Row.{Effects}
use Rattle.ca_model.specs.machine.Sound.{IsQueueOf, IsSoundWorld}
use Rattle.ca_model.specs.machine.World.{World, Srq_of, Queue_of}
use Rattle.ca_law_world.proofs.Sound.GoodLemmas.{IsLater, IsGood}
use Rattle.ca_law_world.proofs.Sound.SettledLemmas.{slot-path, slot-refl}
use Rattle.ca_law_world.proofs.Sound.WorldLemmas.{IsThere, around_in, shared_of}
use Rattle.ca_law_parts.specs.Room.{AreHeld, HasRoom, HaveRoom, Holder, IsInPlace, IsInSequence, IsSlotInPlace, depth_of, is_in, places_kept, rooms_of, taken_in, use_of, waits_in}
use Rattle.ca_law_parts.proofs.Room.RoomLists.{all-join, all-map, ascend-behind, distinct-append, in-append, in-apart, number-refl}
use Rattle.ca_law_parts.proofs.Room.KeptLemmas.{AreAside, Grows, advanced, held-kept, local-places, marks-of, puts-rooms, queue-apart, queue-grows, queue-with-same, room-behind, same-reserved, two-same, with-same}

-- what holds of each value of a function by its slot, where one value is another
pub with-all : {V : Type 0} (P : Slot → V → Type 0) (f : Slot → V) (at : Slot) (v : V) → P at v → ((s : Slot) → P s (f s)) → (s : Slot) → P s (with_at slot_eq f at v s)
with-all P f at v here rest s = by (slot_eq at s) refl
  where
    by : (b : Bool) → slot_eq at s ≡ b → P s (if b then v else f s)
    by true e = subst (λ t. P t v) (slot-path at s e) here
    by false e = rest s

-- all queue pairs have the name of their slot
abbrev pub AreNamed : (QueueId → QueueSlot) → Type 0
AreNamed queue = (n : QueueId) (q : QueuePair) → queue n ≡ Present q → q.queue ≡ n

pub sound-named : (c : Configuration) (w : World) → IsSoundWorld c w → AreNamed w.queue
sound-named c w sound n q is = (subst (IsQueueOf n) is (sound.things (Queue_of n))).0

-- what stands around a queue pair that goes on: its completion queues have what completed, or not, and no other completion
-- queue has more
pub record IsPut (cq now : Slot → Option CompletionQueue) (q : QueuePair) (ms : List Mark) : Type 0 where
  pub rooms : (s : Slot) → rooms_of (now s) ≡ rooms_of (cq s)
  pub grows : (s : Slot) (b : Bool) → Grows q.queue b ms (waits_in cq s) (waits_in now s)
  pub others : (n : QueueId) → queue_eq q.queue n ≡ false → (s : Slot) (b : Bool) → places_of_side n b (waits_in now s) ≡ places_of_side n b (waits_in cq s)

-- both completion queues have what completed
pub puts-put : (cq : Slot → Option CompletionQueue) (q : QueuePair) (ms : List Mark) → AllByRecursion (λ c. c.queue ≡ q.queue) (completions_in ms)
    → IsPut cq (with_at slot_eq (with_at slot_eq cq (send_cq_of q) (option_map (after_puts (completions_to q q.send_cq ms)) (cq (send_cq_of q))))
    (recv_cq_of q) (option_map (after_puts (completions_to q q.recv_cq ms)) (cq (recv_cq_of q)))) q ms
puts-put cq q ms all = record {
  rooms = two-same rooms_of cq (send_cq_of q) (recv_cq_of q) _ _ (puts-rooms q q.send_cq ms (cq (send_cq_of q))) (puts-rooms q q.recv_cq ms (cq (recv_cq_of q)));
  grows = λ s b. with-all (λ s o. Grows q.queue b ms (waits_in cq s) (option_map_or (λ v. v.waiting) o [])) inner (recv_cq_of q) (put q.recv_cq) (queue-grows q q.recv_cq b ms (cq (recv_cq_of q)) all)
      (with-all (λ s o. Grows q.queue b ms (waits_in cq s) (option_map_or (λ v. v.waiting) o [])) cq (send_cq_of q) (put q.send_cq) (queue-grows q q.send_cq b ms (cq (send_cq_of q)) all) (λ s. inr refl)) s;
  others = λ n other s b. two-same (λ o. places_of_side n b (option_map_or (λ v. v.waiting) o [])) cq (send_cq_of q) (recv_cq_of q) _ _
      (queue-apart q q.send_cq n b ms (cq (send_cq_of q)) all other) (queue-apart q q.recv_cq n b ms (cq (recv_cq_of q)) all other) s;
}
  where
    put : ℕ → Option CompletionQueue
    put k = option_map (after_puts (completions_to q k ms)) (cq (record { domain = q.domain; slot = k }))

    inner : Slot → Option CompletionQueue
    inner = with_at slot_eq cq (send_cq_of q) (put q.send_cq)

-- one of them has
pub put-put : (cq : Slot → Option CompletionQueue) (q : QueuePair) (k : ℕ) (ms : List Mark) → AllByRecursion (λ c. c.queue ≡ q.queue) (completions_in ms)
    → IsPut cq (with_at slot_eq cq (record { domain = q.domain; slot = k }) (option_map (after_puts (completions_to q k ms)) (cq (record { domain = q.domain; slot = k })))) q ms
put-put cq q k ms all = record {
  rooms = with-same rooms_of cq at _ (puts-rooms q k ms (cq at));
  grows = λ s b. with-all (λ s o. Grows q.queue b ms (waits_in cq s) (option_map_or (λ v. v.waiting) o [])) cq at (option_map (after_puts (completions_to q k ms)) (cq at)) (queue-grows q k b ms (cq at) all) (λ s. inr refl) s;
  others = λ n other s b. with-same (λ o. places_of_side n b (option_map_or (λ v. v.waiting) o [])) cq at _ (queue-apart q k n b ms (cq at) all other) s;
}
  where
    at : Slot
    at = record { domain = q.domain; slot = k }

-- none has: nothing completes
pub none-put : (cq : Slot → Option CompletionQueue) (q : QueuePair) (ms : List Mark) → IsPut cq cq q ms
none-put cq q ms = record { rooms = λ s. refl; grows = λ s b. inr refl; others = λ n other s b. refl }

-- a queue pair uses what it used
pub same-use : (q p : QueuePair) → IsLater q p → p.sends.depth ≡ q.sends.depth → option_map (λ r. r.depth) p.receives ≡ option_map (λ r. r.depth) q.receives → use_of (Present p) ≡ use_of (Present q)
same-use q p later sends receives = λ i. Some (record {
  send_cq = record { domain = later.domain i; slot = later.send_cq i };
  recv_cq = record { domain = later.domain i; slot = later.recv_cq i };
  srq = option_map (λ k. record { domain = later.domain i; slot = k }) (later.srq i);
  send_depth = sends i;
  recv_depth = receives i;
})

own-depth : (a b : Option (WorkQueue RecvRequest)) (x y : Option Message) (ms : List Mark) → AreTakenInOrder a b x y ms → option_map (λ r. r.depth) b ≡ option_map (λ r. r.depth) a
own-depth None None x y ms own = refl
own-depth None (Some b) x y ms own = absurd own
own-depth (Some a) None x y ms own = absurd own
own-depth (Some a) (Some b) x y ms own = ap (λ r. Some r.depth) own.0

-- a queue pair goes on in order; `new` is what it takes of a shared receive queue
pub advance-room : (queue : QueueId → QueueSlot) (cq now : Slot → Option CompletionQueue) (srq srq' : Slot → SrqSlot) (after : Holder) (q : QueuePair) (e : Effects) (new : List ℕ)
    → (room : HaveRoom queue cq srq) → AreNamed queue → queue q.queue ≡ Present q → IsLater q e.queue → IsInOrder q e → IsPut cq now q e.marks
    → ((t : Slot) → depth_of (srq' t) ≡ depth_of (srq t)) → ((t : Slot) → (srq' t).users ≡ (srq t).users) → ((t : Slot) → IsInSequence (srq' t))
    → ((n : QueueId) → queue_eq q.queue n ≡ false → (t : Slot) (x : ℕ) → is_in x (taken_in (srq t)) ≡ true → room.holder t x ≡ n → (is_in x (taken_in (srq' t)) ≡ true) × (after t x ≡ n))
    → IfSome q.srq (λ t. (places_done true e.marks ++ places_in_use e.queue.responder.message ≡ places_in_use q.responder.message ++ new)
    × AreHeld after q.queue (srq_of q t) (taken_in (srq' (srq_of q t))) (places_kept cq q ++ new))
    → HaveRoom (with_at queue_eq queue q.queue (Present e.queue)) now srq'
advance-room queue cq now srq srq' after q e new room named there later order put depths users sequence stay kept = record {
  reserved = same-reserved queue (with_at queue_eq queue q.queue (Present e.queue)) cq now srq srq' (record {
    uses = queue-with-same use_of queue q.queue (Present e.queue)
        (same-use q e.queue later (ap (λ s. s.depth) order.sends) (own-depth q.receives e.queue.receives q.responder.message e.queue.responder.message e.marks order.own) ∙ ap use_of (sym there));
    rooms = put.rooms;
    depths = depths;
    users = users;
  }) room.reserved;
  sequence = sequence;
  holder = after;
  places = local-places queue cq now srq srq' room.holder after q.queue (Present e.queue) named put.others stay room.places
      (advanced cq now srq srq' room.holder after q e new later order put.grows kept (subst (IsSlotInPlace cq srq room.holder) there (room.places q.queue)));
}

-- the shared receive queue of a queue pair that is there
pub shared-there : (queue : QueueId → QueueSlot) (cq : Slot → Option CompletionQueue) (srq : Slot → SrqSlot) (q : QueuePair) (t : ℕ) → HaveRoom queue cq srq → queue q.queue ≡ Present q → q.srq ≡ Some t
    → is_some (srq (srq_of q t)).srq ≡ true
shared-there queue cq srq q t room there is = by (srq (srq_of q t)).srq (subst (λ o. IfSome (option_map (srq_of q) o) (λ t. is_some (depth_of (srq t)) ≡ true)) is
    (subst (λ z. IfSome (use_of z) (λ u. IfSome u.srq (λ t. is_some (depth_of (srq t)) ≡ true))) there (room.reserved.shared q.queue)))
  where
    by : (o : Option SharedReceives) → is_some (option_map (λ s. s.depth) o) ≡ true → is_some o ≡ true
    by None e = e
    by (Some s) e = refl

-- the places that a queue pair keeps are its own
pub own-held : (queue : QueueId → QueueSlot) (cq : Slot → Option CompletionQueue) (srq : Slot → SrqSlot) (q : QueuePair) (t : ℕ) → (room : HaveRoom queue cq srq) → queue q.queue ≡ Present q → q.srq ≡ Some t
    → AreHeld room.holder q.queue (srq_of q t) (taken_in (srq (srq_of q t))) (places_kept cq q)
own-held queue cq srq q t room there is = subst (λ o. IfSome o (λ t. AreHeld room.holder q.queue (srq_of q t) (taken_in (srq (srq_of q t))) (places_kept cq q))) is
    (place (subst (IsSlotInPlace cq srq room.holder) there (room.places q.queue)))
  where
    place : IsInPlace cq srq room.holder q → IfSome q.srq (λ t. AreHeld room.holder q.queue (srq_of q t) (taken_in (srq (srq_of q t))) (places_kept cq q))
    place p = p.shared

-- a turn that takes no shared receive
pub still-room : (queue : QueueId → QueueSlot) (cq now : Slot → Option CompletionQueue) (srq : Slot → SrqSlot) (q : QueuePair) (e : Effects)
    → HaveRoom queue cq srq → AreNamed queue → queue q.queue ≡ Present q → IsQueue q → IsLater q e.queue → IsInOrder q e → e.takes_shared ≡ false → IsPut cq now q e.marks
    → HaveRoom (with_at queue_eq queue q.queue (Present e.queue)) now srq
still-room queue cq now srq q e room named there sound later order takes put =
    advance-room queue cq now srq srq room.holder q e [] room named there later order put (λ t. refl) (λ t. refl) room.sequence (λ n other t x taken held. (taken, held)) (kept q.srq refl)
  where
    own : (o : Option (WorkQueue RecvRequest)) → q.receives ≡ o → is_some o ≡ false → q.receives ≡ None
    own None is none = is
    own (Some r) is none = absurd (true≢false none)

    kept : (o : Option ℕ) → q.srq ≡ o → IfSome o (λ t. (places_done true e.marks ++ places_in_use e.queue.responder.message ≡ places_in_use q.responder.message ++ [])
        × AreHeld room.holder q.queue (srq_of q t) (taken_in (srq (srq_of q t))) (places_kept cq q ++ []))
    kept None is = record {}
    kept (Some t) is = (
      order.held (own q.receives refl (sound.source ∙ ap is_none is)) takes ∙ sym (append-nil (places_in_use q.responder.message)),
      subst (AreHeld room.holder q.queue (srq_of q t) (taken_in (srq (srq_of q t)))) (sym (append-nil (places_kept cq q))) (own-held queue cq srq q t room there is),
    )

-- a shared receive queue from which the first receive is taken
abbrev pub taken_slot : SrqSlot → SrqSlot
taken_slot slot = record slot { srq = option_map after_receive_take slot.srq }

pub taken-depth : (slot : SrqSlot) → depth_of (taken_slot slot) ≡ depth_of slot
taken-depth slot = by slot.srq
  where
    by : (o : Option SharedReceives) → option_map (λ s. s.depth) (option_map after_receive_take o) ≡ option_map (λ s. s.depth) o
    by None = refl
    by (Some s) = refl

pub taken-sequence : (slot : SrqSlot) → IsInSequence slot → IsInSequence (taken_slot slot)
taken-sequence slot all = by slot.srq all
  where
    split : (xs : List PlacedReceive) (ys : List ℕ) → (ys ++ map (λ r. r.place) (take 1 xs)) ++ map (λ r. r.place) (drop 1 xs) ≡ ys ++ map (λ r. r.place) xs
    split [] ys = append-nil (ys ++ []) ∙ refl
    split (x ∷ xs) ys = append_assoc ys (x.place ∷ []) (map (λ r. r.place) xs)

    by : (o : Option SharedReceives) → IfSome o (λ s. Ascend 0 s.next (s.taken ++ map (λ r. r.place) s.waiting)) → IfSome (option_map after_receive_take o) (λ s. Ascend 0 s.next (s.taken ++ map (λ r. r.place) s.waiting))
    by None all = record {}
    by (Some s) all = subst (Ascend 0 s.next) (sym (split s.waiting s.taken)) all

pub taken-more : (slot : SrqSlot) (x : ℕ) → is_in x (taken_in slot) ≡ true → is_in x (taken_in (taken_slot slot)) ≡ true
taken-more slot x is = by slot.srq is
  where
    by : (o : Option SharedReceives) → is_in x (option_map_or (λ s. s.taken) o []) ≡ true → is_in x (option_map_or (λ s. s.taken) (option_map after_receive_take o) []) ≡ true
    by None is = is
    by (Some s) is = in-append x s.taken (map (λ r. r.place) (take 1 s.waiting)) ∙ or_left (is_in x s.taken) (is_in x (map (λ r. r.place) (take 1 s.waiting))) is

-- a turn that takes a receive from a shared receive queue
pub take-room : (queue : QueueId → QueueSlot) (cq now : Slot → Option CompletionQueue) (srq : Slot → SrqSlot) (q : QueuePair) (e : Effects) (t : ℕ)
    → HaveRoom queue cq srq → AreNamed queue → queue q.queue ≡ Present q → IsLater q e.queue → IsInOrder q e → q.srq ≡ Some t
    → ((s : SharedReceives) → (srq (srq_of q t)).srq ≡ Some s → places_done true e.marks ++ places_in_use e.queue.responder.message
    ≡ places_in_use q.responder.message ++ option_map_or (λ r. r.place ∷ []) (first_receive s) [])
    → IsPut cq now q e.marks
    → HaveRoom (with_at queue_eq queue q.queue (Present e.queue)) now (with_at slot_eq srq (srq_of q t) (taken_slot (srq (srq_of q t))))
take-room queue cq now srq q e t room named there later order is takes put = by (srq T).srq refl (shared-there queue cq srq q t room there is)
  where
    T : Slot
    T = srq_of q t

    now_srq : Slot → SrqSlot
    now_srq = with_at slot_eq srq T (taken_slot (srq T))

    depths : (u : Slot) → depth_of (now_srq u) ≡ depth_of (srq u)
    depths = with-same depth_of srq T (taken_slot (srq T)) (taken-depth (srq T))

    users : (u : Slot) → (now_srq u).users ≡ (srq u).users
    users = with-same (λ slot. slot.users) srq T (taken_slot (srq T)) refl

    sequence : (u : Slot) → IsInSequence (now_srq u)
    sequence = with-all (λ u slot. IsInSequence slot) srq T (taken_slot (srq T)) (taken-sequence (srq T) (room.sequence T)) room.sequence

    more : (u : Slot) (x : ℕ) → is_in x (taken_in (srq u)) ≡ true → is_in x (taken_in (now_srq u)) ≡ true
    more u x = with-all (λ u slot. is_in x (taken_in (srq u)) ≡ true → is_in x (taken_in slot) ≡ true) srq T (taken_slot (srq T)) (taken-more (srq T) x) (λ u is. is) u

    -- what is there to take
    none : (s : SharedReceives) → (srq T).srq ≡ Some s → first_receive s ≡ None → HaveRoom (with_at queue_eq queue q.queue (Present e.queue)) now now_srq
    none s has e-first = advance-room queue cq now srq now_srq room.holder q e [] room named there later order put depths users sequence (λ n other u x taken held. (more u x taken, held))
        (subst (λ o. IfSome o (λ t. (places_done true e.marks ++ places_in_use e.queue.responder.message ≡ places_in_use q.responder.message ++ [])
        × AreHeld room.holder q.queue (srq_of q t) (taken_in (now_srq (srq_of q t))) (places_kept cq q ++ []))) (sym is) (
          takes s has ∙ ap (λ o. places_in_use q.responder.message ++ option_map_or (λ (r : PlacedReceive). r.place ∷ []) o []) e-first,
          subst (AreHeld room.holder q.queue T (taken_in (now_srq T))) (sym (append-nil (places_kept cq q)))
              (held-kept room.holder room.holder q.queue T (taken_in (srq T)) (taken_in (now_srq T)) (places_kept cq q) (λ x taken held. (more T x taken, held)) (own-held queue cq srq q t room there is)),
        ))

    some : (s : SharedReceives) → (srq T).srq ≡ Some s → (r : PlacedReceive) (rest : List PlacedReceive) → s.waiting ≡ r ∷ rest → HaveRoom (with_at queue_eq queue q.queue (Present e.queue)) now now_srq
    some s has r rest waits = advance-room queue cq now srq now_srq after q e (x ∷ []) room named there later order put depths users sequence (λ n other u y taken held. (more u y taken, after-old u y taken ∙ held))
        (subst (λ o. IfSome o (λ t. (places_done true e.marks ++ places_in_use e.queue.responder.message ≡ places_in_use q.responder.message ++ x ∷ [])
        × AreHeld after q.queue (srq_of q t) (taken_in (now_srq (srq_of q t))) (places_kept cq q ++ x ∷ []))) (sym is) (
          takes s has ∙ ap (λ xs. places_in_use q.responder.message ++ option_map_or (λ (r : PlacedReceive). r.place ∷ []) (slice_get xs 0) []) waits,
          (distinct-append (places_kept cq q) x kept.0 (apart (places_kept cq q) kept.1), all-join (λ y. (is_in y (taken_in (now_srq T)) ≡ true) × (after T y ≡ q.queue)) (places_kept cq q) (x ∷ []) old.1 ((now-taken, after-new), record {})),
        ))
      where
        x : ℕ
        x = r.place

        after : Holder
        after u y = if slot_eq T u && (y == x) then q.queue else room.holder u y

        fresh : is_in x (taken_in (srq T)) ≡ false
        fresh = ap (λ o. is_in x (option_map_or (λ s. s.taken) o [])) has ∙ ascend-behind 0 s.next s.taken (map (λ r. r.place) rest) x
            (subst (λ xs. Ascend 0 s.next (s.taken ++ map (λ r. r.place) xs)) waits (subst (λ o. IfSome o (λ s. Ascend 0 s.next (s.taken ++ map (λ r. r.place) s.waiting))) has (room.sequence T)))

        after-old : (u : Slot) (y : ℕ) → is_in y (taken_in (srq u)) ≡ true → after u y ≡ room.holder u y
        after-old u y taken = at (slot_eq T u) refl
          where
            at : (b : Bool) → slot_eq T u ≡ b → (if b && (y == x) then q.queue else room.holder u y) ≡ room.holder u y
            at false e = refl
            at true e = ap (λ b. if b then q.queue else room.holder u y) (in-apart y x (taken_in (srq T)) (subst (λ t. is_in y (taken_in (srq t)) ≡ true) (sym (slot-path T u e)) taken) fresh)

        after-new : after T x ≡ q.queue
        after-new = ap (λ b. if b then q.queue else room.holder T x) (ap₂ (λ a b. a && b) (slot-refl T) (number-refl x))

        kept : AreHeld room.holder q.queue T (taken_in (srq T)) (places_kept cq q)
        kept = own-held queue cq srq q t room there is

        old : AreHeld after q.queue T (taken_in (now_srq T)) (places_kept cq q)
        old = held-kept room.holder after q.queue T (taken_in (srq T)) (taken_in (now_srq T)) (places_kept cq q) (λ y taken held. (more T y taken, after-old T y taken ∙ held)) kept

        apart : (xs : List ℕ) → AllByRecursion (λ y. (is_in y (taken_in (srq T)) ≡ true) × (room.holder T y ≡ q.queue)) xs → is_in x xs ≡ false
        apart [] all = refl
        apart (y ∷ ys) all = ap₂ (λ a b. a || b) (in-apart y x (taken_in (srq T)) all.0.0 fresh) (apart ys all.1)

        now-taken : is_in x (taken_in (now_srq T)) ≡ true
        now-taken = ap (λ b. is_in x (taken_in (if b then taken_slot (srq T) else srq T))) (slot-refl T)
            ∙ (ap (λ o. is_in x (option_map_or (λ s. s.taken) (option_map after_receive_take o) [])) has
            ∙ (ap (λ xs. is_in x (s.taken ++ map (λ (r : PlacedReceive). r.place) (take 1 xs))) waits
            ∙ (in-append x s.taken (x ∷ []) ∙ or_right (is_in x s.taken) ((x == x) || false) (ap (λ b. b || false) (number-refl x)))))

    by : (o : Option SharedReceives) → (srq T).srq ≡ o → is_some o ≡ true → HaveRoom (with_at queue_eq queue q.queue (Present e.queue)) now now_srq
    by None has stands = absurd (true≢false (sym stands))
    by (Some s) has stands = waits s.waiting refl
      where
        waits : (xs : List PlacedReceive) → s.waiting ≡ xs → HaveRoom (with_at queue_eq queue q.queue (Present e.queue)) now now_srq
        waits [] e = none s has (ap (λ xs. slice_get xs 0) e)
        waits (r ∷ rest) e = some s has r rest e

-- a turn's effects that leave a queue pair that can come up, and take receives of the shared receive queue in order
pub record IsTurn (shared : Option SharedReceives) (q : QueuePair) (e : Effects) : Type 0 where
  pub good : IsGood q e
  pub takes : TakesInOrder shared q e

-- effects that take none
pub no-taking : (shared : Option SharedReceives) (q : QueuePair) (e : Effects) → IsGood q e → e.takes_shared ≡ false → IsTurn shared q e
no-taking shared q e good none = record { good = good; takes = λ takes. absurd (true≢false (sym takes ∙ none)) }

-- a turn's changes leave room
pub turn-room : (c : Configuration) (w : World) (q : QueuePair) (e : Effects) (more : List Update) → IsSoundWorld c w → HasRoom w → IsThere w q
    → IsTurn (shared_in (around_in w q (shared_of w q))) q e → AreAside more → HasRoom (put_all (updates_of q (around_in w q (shared_of w q)) e ++ more) w)
turn-room c w q e more sound room there turn aside = room-behind (updates_of q a e) more w aside (by e.takes_shared refl)
  where
    a : Around
    a = around_in w q (shared_of w q)

    named : AreNamed w.queue
    named = sound-named c w sound

    done : AllByRecursion (λ c. c.queue ≡ q.queue) (completions_in e.marks)
    done = all-map (λ c. c.queue ≡ e.queue.queue) (λ c. c.queue ≡ q.queue) (λ c same. same ∙ turn.good.later.queue) (completions_in e.marks) (marks-of e.queue e.marks turn.good.settled)

    now : Slot → Option CompletionQueue
    now = with_at slot_eq (with_at slot_eq w.cq (send_cq_of q) (option_map (after_puts (completions_to q q.send_cq e.marks)) (w.cq (send_cq_of q))))
        (recv_cq_of q) (option_map (after_puts (completions_to q q.recv_cq e.marks)) (w.cq (recv_cq_of q)))

    updates : Option ℕ → Option SrqSlot → List Update
    updates (Some srq) (Some slot) = (Srq_of (srq_of q srq) := record slot { srq = option_map after_receive_take slot.srq }) ∷ []
    updates srq slot = []

    take : (o : Option ℕ) → q.srq ≡ o → e.takes_shared ≡ true
        → HasRoom (put_all ((Queue_of q.queue := Present e.queue) ∷ cq_updates q a e.marks ++ updates o (option_map (λ srq. w.srq (srq_of q srq)) o)) w)
    take None is takes = advance-room w.queue w.cq now w.srq w.srq room.holder q e [] room named there.present turn.good.later turn.good.order (puts-put w.cq q e.marks done)
        (λ t. refl) (λ t. refl) room.sequence (λ n other t x taken held. (taken, held))
        (subst (λ o. IfSome o (λ t. (places_done true e.marks ++ places_in_use e.queue.responder.message ≡ places_in_use q.responder.message ++ [])
        × AreHeld room.holder q.queue (srq_of q t) (taken_in (w.srq (srq_of q t))) (places_kept w.cq q ++ []))) (sym is) (record {}))
    take (Some t) is takes = take-room w.queue w.cq now w.srq q e t room named there.present turn.good.later turn.good.order is
        (λ s has. turn.takes takes s (ap (λ o. option_and_then (λ (s : SrqSlot). s.srq) (option_map (λ srq. w.srq (srq_of q srq)) o)) is ∙ has)) (puts-put w.cq q e.marks done)

    by : (b : Bool) → e.takes_shared ≡ b → HasRoom (put_all ((Queue_of q.queue := Present e.queue) ∷ cq_updates q a e.marks ++ (if b then srq_updates q a after_receive_take else [])) w)
    by false takes = still-room w.queue w.cq now w.srq q e room named there.present there.sound turn.good.later turn.good.order takes (puts-put w.cq q e.marks done)
    by true takes = take q.srq refl takes
