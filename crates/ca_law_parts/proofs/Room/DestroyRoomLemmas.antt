-- The destruction of a queue pair leaves room: what it reserved is free again.
use Rattle.std.proofs.Common.{◌≡◌, ℕ, suc, ◌-◌, ◌≤◌, ◌||◌, not, Bool, true, false, List, [], ◌∷◌, length, filter, Option, None, Some, IfSome, is_some, refl, arith, sym, ◌∙◌, ap, ap₂, subst, true≢false, if◌then◌else◌}
use Rattle.std.proofs.lemmas.Bool.{and_parts, or_left, or_right}
use Rattle.std.specs.List.{AllByRecursion, list_any}
use Rattle.std.specs.Option.{option_map, option_map_or}
use Rattle.ca_base.specs.declared.reserve.Reservation.{Reservation}
use Rattle.ca_base.specs.declared.reserve.Reserve.{Reserve}
use Rattle.ca_base.specs.declared.reserve.Reserve.TheVariants.{Sends, Receives, Shared}
use Rattle.ca_keys.specs.declared.names.QueueId.{QueueId}
use Rattle.ca_keys.specs.declared.names.Slot.{Slot}
use Rattle.ca_base.specs.Configuration.{Configuration}
use Rattle.ca_keys.specs.Equal.{queue_eq, slot_eq}
use Rattle.ca_base.specs.objects.CompletionQueue.{CompletionQueue, is_same_side, room_reserved, user_of, without_completions}
use Rattle.ca_base.specs.objects.Domain.{without_object}
use Rattle.ca_base.specs.objects.QueuePair.{QueuePair, QueueSlot, NoQueue, recv_cq_of, send_cq_of, srq_of}
use Rattle.ca_base.specs.objects.SharedReceives.{SrqSlot, after_receives_retire}
use Rattle.ca_model.specs.Past.{with_at}
use Rattle.ca_model.specs.machine.Around.{Around}
use Rattle.ca_model.specs.machine.Places.{places_of_side}
use Rattle.ca_model.specs.machine.Plan.{Update, ◌:=◌}
use Rattle.ca_model.specs.machine.QueuePairVerbs
use Rattle.ca_model.specs.machine.QueuePairVerbs.{destroy_qp_plan, left_updates, places_held, without_queue}
use Rattle.ca_model.specs.machine.Sound.{IsSoundWorld}
use Rattle.ca_model.specs.machine.VerbAnswers.{Call}
use Rattle.ca_model.specs.machine.World.{World, Cq_of, Domain_of, Mailbox_of, Queue_of, Srq_of}
use Rattle.ca_cq.proofs.Rooms.{filter-rooms}
use Rattle.ca_cq.proofs.RoomLemmas.{alike-sources, one-agrees, one-swap, one_source, room_of, rooms-reserved}
use Rattle.ca_law_world.proofs.Sound.PlanWalks.{walk-destroy}
use Rattle.ca_law_world.proofs.Sound.SettledLemmas.{queue-path, queue-refl, slot-path, slot-refl}
use Rattle.ca_law_world.proofs.Sound.WorldLemmas.{EndsIn, IsThere, around_in, shared_of}
use Rattle.ca_law_parts.specs.Room.{AreReserved, AreUsers, Has, HasRoom, HasSide, HaveRoom, IsDue, IsInSequence, Rooms, Use, Uses, depth_of, has_side, is_in, rooms_of, taken_in, use_of}
use Rattle.ca_law_parts.proofs.Room.RoomLists.{all-map, filter-few}
use Rattle.ca_law_parts.proofs.Room.FitLemmas.{all-alike}
use Rattle.ca_law_parts.proofs.Room.KeptLemmas.{local-places, two-same, with-same}
use Rattle.ca_law_parts.proofs.Room.AdvanceLemmas.{sound-named, with-all}
use Rattle.ca_law_parts.proofs.Room.EngineRoomLemmas.{LeavesRoom}
use Rattle.ca_law_parts.proofs.Room.ObjectRoomLemmas.{if-map}
use Rattle.ca_law_parts.proofs.Room.EmptiedRoomLemmas.{IsEmptied, not-held, retired_slot, slot-depth, slot-others, slot-sequence, without-emptied}

-- the reservations without a queue pair's
abbrev others : QueueId → List Reservation → List Reservation
others name rs = filter (λ r. not (queue_eq (user_of r.who) name)) rs

-- what is reserved without a queue pair is no more
others-fewer : (name : QueueId) (uses : QueueId → Option Use) (depths : Slot → Option ℕ) (s : Slot) (rs : List Reservation) → AllByRecursion (λ r. IsDue uses depths s r.who r.room) rs
    → room_reserved (others name rs) ≤ room_reserved rs
others-fewer name uses depths s rs due = omega (
  arith,
  rooms-reserved rs,
  rooms-reserved (others name rs),
  filter-rooms one_source room_of (λ a b. one-swap a.who b.who) (λ a b one c. one-agrees a.who b.who one c.who) (λ r. not (queue_eq (user_of r.who) name)) [] rs (alike-sources rs (all-alike uses depths s rs due)),
)

-- the side of another queue pair keeps its reservation
side-stays : (name n : QueueId) (who : Reserve) (rs : List Reservation) → user_of who ≡ n → queue_eq name n ≡ false → has_side who rs ≡ true → has_side who (others name rs) ≡ true
side-stays name n who [] of other has = has
side-stays name n who (r ∷ rs) of other has = by (queue_eq (user_of r.who) name) refl (is_same_side r.who who) refl has (side-stays name n who rs of other)
  where
    by : (g : Bool) → queue_eq (user_of r.who) name ≡ g → (z : Bool) → is_same_side r.who who ≡ z → (z || has_side who rs) ≡ true → (has_side who rs ≡ true → has_side who (others name rs) ≡ true)
        → has_side who (if not g then r ∷ others name rs else others name rs) ≡ true
    by true e true f has rest = absurd (true≢false (sym (ap (λ m. queue_eq m n) (sym (queue-path (user_of r.who) name e)) ∙ (ap (queue_eq (user_of r.who)) (sym of)
        ∙ (and_parts (queue_eq (user_of r.who) (user_of who)) _ f).0)) ∙ other))
    by true e false f has rest = rest has
    by false e true f has rest = or_left (is_same_side r.who who) (has_side who (others name rs)) f
    by false e false f has rest = or_right (is_same_side r.who who) (has_side who (others name rs)) (rest has)

-- a queue pair is no longer there
abbrev unused : (QueueId → Option Use) → QueueId → QueueId → Option Use
unused uses name n = if queue_eq name n then None else uses n

-- a reservation of another queue pair stays due
due-stays : (uses : QueueId → Option Use) (depths : Slot → Option ℕ) (name : QueueId) (s : Slot) (who : Reserve) (room : ℕ) → queue_eq (user_of who) name ≡ false → IsDue uses depths s who room
    → IsDue (unused uses name) depths s who room
due-stays uses depths name s who room other due = by who other due
  where
    swap : (n : QueueId) → queue_eq n name ≡ false → queue_eq name n ≡ false
    swap n e = at (queue_eq name n) refl
      where
        at : (b : Bool) → queue_eq name n ≡ b → b ≡ false
        at false f = refl
        at true f = absurd (true≢false (sym (queue-refl n) ∙ (ap (queue_eq n) (sym (queue-path name n f)) ∙ e)))

    same : (n : QueueId) → queue_eq n name ≡ false → unused uses name n ≡ uses n
    same n e = ap (λ b. if b then None else uses n) (swap n e)

    by : (who : Reserve) → queue_eq (user_of who) name ≡ false → IsDue uses depths s who room → IsDue (unused uses name) depths s who room
    by (Sends n) e due = subst (Has (λ u. (u.send_cq ≡ s) × (u.send_depth ≡ room))) (sym (same n e)) due
    by (Receives n) e due = subst (Has (λ u. (u.recv_cq ≡ s) × (u.recv_depth ≡ Some room))) (sym (same n e)) due
    by (Shared t n) e due = subst (Has (λ u. (u.recv_cq ≡ s) × (u.srq ≡ Some (record s { slot = t })) × (depths (record s { slot = t }) ≡ Some room))) (sym (same n e)) due

all-due : (uses : QueueId → Option Use) (depths : Slot → Option ℕ) (name : QueueId) (s : Slot) (rs : List Reservation) → AllByRecursion (λ r. IsDue uses depths s r.who r.room) rs
    → AllByRecursion (λ r. IsDue (unused uses name) depths s r.who r.room) (others name rs)
all-due uses depths name s [] due = record {}
all-due uses depths name s (r ∷ rs) due = by (queue_eq (user_of r.who) name) refl (all-due uses depths name s rs due.1)
  where
    by : (g : Bool) → queue_eq (user_of r.who) name ≡ g → AllByRecursion (λ r. IsDue (unused uses name) depths s r.who r.room) (others name rs)
        → AllByRecursion (λ r. IsDue (unused uses name) depths s r.who r.room) (if not g then r ∷ others name rs else others name rs)
    by true e rest = rest
    by false e rest = (due-stays uses depths name s r.who r.room e due.0, rest)

-- where none of the reservations is that queue pair's
all-apart : (uses : QueueId → Option Use) (depths : Slot → Option ℕ) (name : QueueId) (s : Slot) (rs : List Reservation)
    → Has (λ u. ((u.send_cq ≡ s) → ⊥) × ((u.recv_cq ≡ s) → ⊥)) (uses name) → AllByRecursion (λ r. IsDue uses depths s r.who r.room) rs
    → AllByRecursion (λ r. IsDue (unused uses name) depths s r.who r.room) rs
all-apart uses depths name s rs apart due = all-map (λ r. IsDue uses depths s r.who r.room) (λ r. IsDue (unused uses name) depths s r.who r.room) (λ r one. due-stays uses depths name s r.who r.room (none r.who r.room one (queue_eq (user_of r.who) name) refl) one) rs due
  where
    at : (who : Reserve) (room : ℕ) (u : Option Use) → Has (λ u. ((u.send_cq ≡ s) → ⊥) × ((u.recv_cq ≡ s) → ⊥)) u → IsDue (λ m. u) depths s who room → ⊥
    at (Sends n) room None apart due = due
    at (Sends n) room (Some u) apart due = apart.0 due.0
    at (Receives n) room None apart due = due
    at (Receives n) room (Some u) apart due = apart.1 due.0
    at (Shared t n) room None apart due = due
    at (Shared t n) room (Some u) apart due = apart.1 due.0

    of : (who : Reserve) (room : ℕ) → IsDue uses depths s who room → IsDue (λ m. uses (user_of who)) depths s who room
    of (Sends n) room due = due
    of (Receives n) room due = due
    of (Shared t n) room due = due

    none : (who : Reserve) (room : ℕ) → IsDue uses depths s who room → (b : Bool) → queue_eq (user_of who) name ≡ b → b ≡ false
    none who room due false e = refl
    none who room due true e = absurd (at who room (uses name) apart (subst (λ n. IsDue (λ m. uses n) depths s who room) (queue-path (user_of who) name e) (of who room due)))

-- fewer users: one of them is gone
users-gone : (uses : QueueId → Option Use) (name : QueueId) (t : Slot) (count : ℕ) → AreUsers uses t count → Uses t (uses name) → AreUsers (unused uses name) t (count - 1)
users-gone uses name t count used is = record {
  names = filter (λ m. not (queue_eq m name)) used.names;
  few = omega (arith, used.few, fewer used.names (used.all name is));
  all = λ n by-it. still n by-it;
}
  where
    fewer : (ns : List QueueId) → list_any (queue_eq name) ns ≡ true → suc (length (filter (λ m. not (queue_eq m name)) ns)) ≤ length ns
    fewer [] has = absurd (true≢false (sym has))
    fewer (m ∷ ns) has = at (queue_eq name m) refl has (queue_eq m name) refl (fewer ns)
      where
        at : (b : Bool) → queue_eq name m ≡ b → (b || list_any (queue_eq name) ns) ≡ true → (g : Bool) → queue_eq m name ≡ g
            → (list_any (queue_eq name) ns ≡ true → suc (length (filter (λ m. not (queue_eq m name)) ns)) ≤ length ns)
            → suc (length (if not g then m ∷ filter (λ m. not (queue_eq m name)) ns else filter (λ m. not (queue_eq m name)) ns)) ≤ suc (length ns)
        at b e has true f rest = omega (arith, filter-few (λ m. not (queue_eq m name)) ns)
        at true e has false f rest = absurd (true≢false (sym (queue-refl m) ∙ (ap (queue_eq m) (sym (queue-path name m e)) ∙ f)))
        at false e has false f rest = omega (arith, rest has)

    kept : (n : QueueId) → queue_eq name n ≡ false → (ns : List QueueId) → list_any (queue_eq n) ns ≡ true → list_any (queue_eq n) (filter (λ m. not (queue_eq m name)) ns) ≡ true
    kept n other [] has = has
    kept n other (m ∷ ns) has = at (queue_eq n m) refl has (queue_eq m name) refl (kept n other ns)
      where
        at : (b : Bool) → queue_eq n m ≡ b → (b || list_any (queue_eq n) ns) ≡ true → (g : Bool) → queue_eq m name ≡ g
            → (list_any (queue_eq n) ns ≡ true → list_any (queue_eq n) (filter (λ m. not (queue_eq m name)) ns) ≡ true)
            → list_any (queue_eq n) (if not g then m ∷ filter (λ m. not (queue_eq m name)) ns else filter (λ m. not (queue_eq m name)) ns) ≡ true
        at true e has true f rest = absurd (true≢false (sym (queue-refl n) ∙ (ap (λ k. queue_eq k n) (queue-path n m e ∙ queue-path m name f) ∙ other)))
        at true e has false f rest = or_left (queue_eq n m) (list_any (queue_eq n) (filter (λ m. not (queue_eq m name)) ns)) e
        at false e has true f rest = rest has
        at false e has false f rest = or_right (queue_eq n m) (list_any (queue_eq n) (filter (λ m. not (queue_eq m name)) ns)) (rest has)

    still : (n : QueueId) → Uses t (unused uses name n) → list_any (queue_eq n) (filter (λ m. not (queue_eq m name)) used.names) ≡ true
    still n = at (queue_eq name n) refl
      where
        at : (b : Bool) → queue_eq name n ≡ b → Uses t (if b then None else uses n) → list_any (queue_eq n) (filter (λ m. not (queue_eq m name)) used.names) ≡ true
        at true e is = absurd is
        at false e is = kept n e used.names (used.all n is)

-- the same users, or fewer
users-stay : (uses : QueueId → Option Use) (name : QueueId) (t : Slot) (count : ℕ) → AreUsers uses t count → AreUsers (unused uses name) t count
users-stay uses name t count used = record { names = used.names; few = used.few; all = λ n is. used.all n (by n (queue_eq name n) is) }
  where
    by : (n : QueueId) (b : Bool) → Uses t (if b then None else uses n) → Uses t (uses n)
    by n true is = absurd is
    by n false is = is

unused-map : (uses : QueueId → Option Use) (name : QueueId) (P Q : QueueId → Use → Type 0) → ((n : QueueId) (u : Use) → queue_eq name n ≡ false → P n u → Q n u)
    → ((n : QueueId) → IfSome (uses n) (P n)) → (n : QueueId) → IfSome (unused uses name n) (Q n)
unused-map uses name P Q f all n = by (queue_eq name n) refl
  where
    by : (b : Bool) → queue_eq name n ≡ b → IfSome (if b then None else uses n) (Q n)
    by true e = record {}
    by false e = if-map (P n) (Q n) (λ u. f n u e) (uses n) (all n)

-- a queue pair is gone, and its reservations with it
gone-reserved : (uses : QueueId → Option Use) (cq now : Slot → Option CompletionQueue) (depths after : Slot → Option ℕ) (users counts : Slot → ℕ) (name : QueueId) (u : Use)
    → AreReserved uses (λ s. rooms_of (cq s)) depths users → uses name ≡ Some u
    → ((s : Slot) → slot_eq u.send_cq s ≡ false → slot_eq u.recv_cq s ≡ false → now s ≡ cq s)
    → ((s : Slot) → ((slot_eq u.send_cq s || slot_eq u.recv_cq s) ≡ true) → rooms_of (now s) ≡ option_map (λ r. record { capacity = r.capacity; reservations = others name r.reservations }) (rooms_of (cq s)))
    → ((t : Slot) → after t ≡ depths t) → ((t : Slot) → AreUsers (unused uses name) t (counts t))
    → AreReserved (unused uses name) (λ s. rooms_of (now s)) after counts
gone-reserved uses cq now depths after users counts name u reserved is elsewhere here same used = record {
  due = λ s. subst (λ f. IfSome (rooms_of (now s)) (λ v. AllByRecursion (λ r. IsDue (unused uses name) f s r.who r.room) v.reservations)) (λ i. λ t. sym (same t) i) (due s (slot_eq u.send_cq s) refl (slot_eq u.recv_cq s) refl);
  within = λ s. within s (slot_eq u.send_cq s) refl (slot_eq u.recv_cq s) refl;
  sends = unused-map uses name (λ n u. HasSide (Sends n) (rooms_of (cq u.send_cq))) (λ n u. HasSide (Sends n) (rooms_of (now u.send_cq))) (λ n v other. side n (Sends n) refl other v.send_cq) reserved.sends;
  receives = unused-map uses name (λ n u. HasSide (Receives n) (rooms_of (cq u.recv_cq))) (λ n u. HasSide (Receives n) (rooms_of (now u.recv_cq))) (λ n v other. side n (Receives n) refl other v.recv_cq) reserved.receives;
  shared = unused-map uses name (λ n u. IfSome u.srq (λ t. is_some (depths t) ≡ true)) (λ n u. IfSome u.srq (λ t. is_some (after t) ≡ true))
      (λ n v other. if-map (λ t. is_some (depths t) ≡ true) (λ t. is_some (after t) ≡ true) (λ t e. ap is_some (same t) ∙ e) v.srq) reserved.shared;
  used = used;
}
  where
    less : Option Rooms → Option Rooms
    less o = option_map (λ r. record { capacity = r.capacity; reservations = others name r.reservations }) o

    apart : (s : Slot) → slot_eq u.send_cq s ≡ false → slot_eq u.recv_cq s ≡ false → Has (λ u. ((u.send_cq ≡ s) → ⊥) × ((u.recv_cq ≡ s) → ⊥)) (uses name)
    apart s e f = subst (Has (λ u. ((u.send_cq ≡ s) → ⊥) × ((u.recv_cq ≡ s) → ⊥))) (sym is) (
      λ p. true≢false (sym (slot-refl s) ∙ (ap (λ t. slot_eq t s) (sym p) ∙ e)),
      λ p. true≢false (sym (slot-refl s) ∙ (ap (λ t. slot_eq t s) (sym p) ∙ f)),
    )

    Due : (QueueId → Option Use) → Slot → Option Rooms → Type 0
    Due f s o = IfSome o (λ v. AllByRecursion (λ r. IsDue f depths s r.who r.room) v.reservations)

    due-less : (s : Slot) (o : Option Rooms) → Due uses s o → Due (unused uses name) s (less o)
    due-less s None all = record {}
    due-less s (Some v) all = all-due uses depths name s v.reservations all

    due : (s : Slot) (b : Bool) → slot_eq u.send_cq s ≡ b → (z : Bool) → slot_eq u.recv_cq s ≡ z → Due (unused uses name) s (rooms_of (now s))
    due s true e z f = subst (Due (unused uses name) s) (sym (here s (ap (λ b. b || slot_eq u.recv_cq s) e))) (due-less s (rooms_of (cq s)) (reserved.due s))
    due s false e true f = subst (Due (unused uses name) s) (sym (here s (ap₂ (λ a b. a || b) e f))) (due-less s (rooms_of (cq s)) (reserved.due s))
    due s false e false f = subst (λ o. Due (unused uses name) s (rooms_of o)) (sym (elsewhere s e f))
        (if-map (λ v. AllByRecursion (λ r. IsDue uses depths s r.who r.room) v.reservations) (λ v. AllByRecursion (λ r. IsDue (unused uses name) depths s r.who r.room) v.reservations)
        (λ v. all-apart uses depths name s v.reservations (apart s e f)) (rooms_of (cq s)) (reserved.due s))

    Within : Option Rooms → Type 0
    Within o = IfSome o (λ v. room_reserved v.reservations ≤ v.capacity)

    within-less : (s : Slot) (o : Option Rooms) → Due uses s o → Within o → Within (less o)
    within-less s None all one = record {}
    within-less s (Some v) all one = omega (arith, one, others-fewer name uses depths s v.reservations all)

    within : (s : Slot) (b : Bool) → slot_eq u.send_cq s ≡ b → (z : Bool) → slot_eq u.recv_cq s ≡ z → Within (rooms_of (now s))
    within s true e z f = subst Within (sym (here s (ap (λ b. b || slot_eq u.recv_cq s) e))) (within-less s (rooms_of (cq s)) (reserved.due s) (reserved.within s))
    within s false e true f = subst Within (sym (here s (ap₂ (λ a b. a || b) e f))) (within-less s (rooms_of (cq s)) (reserved.due s) (reserved.within s))
    within s false e false f = subst (λ o. Within (rooms_of o)) (sym (elsewhere s e f)) (reserved.within s)

    side-less : (n : QueueId) (who : Reserve) → user_of who ≡ n → queue_eq name n ≡ false → (o : Option Rooms) → HasSide who o → HasSide who (less o)
    side-less n who of other None has = has
    side-less n who of other (Some v) has = side-stays name n who v.reservations of other has

    side : (n : QueueId) (who : Reserve) → user_of who ≡ n → queue_eq name n ≡ false → (s : Slot) → HasSide who (rooms_of (cq s)) → HasSide who (rooms_of (now s))
    side n who of other s has = at (slot_eq u.send_cq s) refl (slot_eq u.recv_cq s) refl
      where
        at : (b : Bool) → slot_eq u.send_cq s ≡ b → (z : Bool) → slot_eq u.recv_cq s ≡ z → HasSide who (rooms_of (now s))
        at true e z f = subst (HasSide who) (sym (here s (ap (λ b. b || slot_eq u.recv_cq s) e))) (side-less n who of other (rooms_of (cq s)) has)
        at false e true f = subst (HasSide who) (sym (here s (ap₂ (λ a b. a || b) e f))) (side-less n who of other (rooms_of (cq s)) has)
        at false e false f = subst (λ o. HasSide who (rooms_of o)) (sym (elsewhere s e f)) has

without-queue-emptied : (q : QueuePair) (v : Option CompletionQueue) → IsEmptied q.queue v (option_map (without_queue q) v)
without-queue-emptied q None = record { others = λ n b other. refl; own = λ b. refl }
without-queue-emptied q (Some v) = by (without-emptied q.queue (Some v))
  where
    by : IsEmptied q.queue (Some v) (Some (without_completions q.queue v)) → IsEmptied q.queue (Some v) (Some (without_queue q v))
    by e = record { others = e.others; own = e.own }

-- the changes of a destruction
destroy-room : (c : Configuration) (w : World) (s : Slot) (q : QueuePair) → IsSoundWorld c w → HasRoom w → IsThere w q
    → LeavesRoom w ((Domain_of s.domain := without_object (w.domain s.domain))
    ∷ (Queue_of q.queue := NoQueue q.incarnation q.requester.timers)
    ∷ (Mailbox_of q.queue := QueuePairVerbs.emptied_mailbox q.incarnation (w.mailbox q.queue))
    ∷ (Cq_of (send_cq_of q) := option_map (without_queue q) (w.cq (send_cq_of q)))
    ∷ (Cq_of (recv_cq_of q) := option_map (without_queue q) (w.cq (recv_cq_of q)))
    ∷ left_updates q (around_in w q (shared_of w q)))
destroy-room c w s q sound room there = by q.srq refl
  where
    a : Around
    a = around_in w q (shared_of w q)

    ps : List ℕ
    ps = places_held q a

    gone : QueueSlot
    gone = NoQueue q.incarnation q.requester.timers

    x : Option CompletionQueue
    x = option_map (without_queue q) (w.cq (send_cq_of q))

    y : Option CompletionQueue
    y = option_map (without_queue q) (w.cq (recv_cq_of q))

    inner : Slot → Option CompletionQueue
    inner = with_at slot_eq w.cq (send_cq_of q) x

    now : Slot → Option CompletionQueue
    now = with_at slot_eq inner (recv_cq_of q) y

    uses : QueueId → Option Use
    uses n = use_of (w.queue n)

    less : Option Rooms → Option Rooms
    less o = option_map (λ r. record { capacity = r.capacity; reservations = others q.queue r.reservations }) o

    rooms : (o : Option CompletionQueue) → rooms_of (option_map (without_queue q) o) ≡ less (rooms_of o)
    rooms None = refl
    rooms (Some v) = refl

    elsewhere : (s : Slot) → slot_eq (send_cq_of q) s ≡ false → slot_eq (recv_cq_of q) s ≡ false → now s ≡ w.cq s
    elsewhere s e f = ap (λ b. if b then y else inner s) f ∙ ap (λ b. if b then x else w.cq s) e

    here : (s : Slot) → ((slot_eq (send_cq_of q) s || slot_eq (recv_cq_of q) s) ≡ true) → rooms_of (now s) ≡ less (rooms_of (w.cq s))
    here s either = at (slot_eq (recv_cq_of q) s) refl (slot_eq (send_cq_of q) s) refl
      where
        at : (b : Bool) → slot_eq (recv_cq_of q) s ≡ b → (z : Bool) → slot_eq (send_cq_of q) s ≡ z → rooms_of (if b then y else if z then x else w.cq s) ≡ less (rooms_of (w.cq s))
        at true e z f = rooms (w.cq (recv_cq_of q)) ∙ ap (λ t. less (rooms_of (w.cq t))) (slot-path (recv_cq_of q) s e)
        at false e true f = rooms (w.cq (send_cq_of q)) ∙ ap (λ t. less (rooms_of (w.cq t))) (slot-path (send_cq_of q) s f)
        at false e false f = absurd (true≢false (sym either ∙ ap₂ (λ a b. a || b) f e))

    used-by : (n : QueueId) → use_of (with_at queue_eq w.queue q.queue gone n) ≡ unused uses q.queue n
    used-by n = at (queue_eq q.queue n)
      where
        at : (b : Bool) → use_of (if b then gone else w.queue n) ≡ (if b then None else use_of (w.queue n))
        at true = refl
        at false = refl

    after : (srq' : Slot → SrqSlot) → ((t : Slot) → depth_of (srq' t) ≡ depth_of (w.srq t)) → ((t : Slot) → AreUsers (unused uses q.queue) t (srq' t).users) → ((t : Slot) → IsInSequence (srq' t))
        → ((n : QueueId) → queue_eq q.queue n ≡ false → (t : Slot) (x : ℕ) → is_in x (taken_in (w.srq t)) ≡ true → room.holder t x ≡ n → is_in x (taken_in (srq' t)) ≡ true)
        → HaveRoom (with_at queue_eq w.queue q.queue gone) now srq'
    after srq' depths used sequence stay = record {
      reserved = subst (λ f. AreReserved f (λ s. rooms_of (now s)) (λ t. depth_of (srq' t)) (λ t. (srq' t).users)) (λ i. λ n. sym (used-by n) i)
          (gone-reserved uses w.cq now (λ t. depth_of (w.srq t)) (λ t. depth_of (srq' t)) (λ t. (w.srq t).users) (λ t. (srq' t).users) q.queue _ room.reserved (ap use_of there.present) elsewhere here depths used);
      sequence = sequence;
      holder = room.holder;
      places = local-places w.queue w.cq now w.srq srq' room.holder room.holder q.queue gone (sound-named c w sound)
          (λ n other s b. two-same (λ o. places_of_side n b (option_map_or (λ v. v.waiting) o [])) w.cq (send_cq_of q) (recv_cq_of q) x y
          ((without-queue-emptied q (w.cq (send_cq_of q))).others n b other) ((without-queue-emptied q (w.cq (recv_cq_of q))).others n b other) s)
          (λ n other t x taken held. (stay n other t x taken held, held)) room.places (record {});
    }

    updates : Option ℕ → Option SrqSlot → List Update
    updates (Some srq) (Some slot) = (Srq_of (record { domain = q.domain; slot = srq }) := record {
      srq = option_map (after_receives_retire ps) slot.srq;
      users = slot.users - 1;
    }) ∷ []
    updates srq slot = []

    by : (o : Option ℕ) → q.srq ≡ o → LeavesRoom w ((Domain_of s.domain := without_object (w.domain s.domain)) ∷ (Queue_of q.queue := gone) ∷ (Mailbox_of q.queue := QueuePairVerbs.emptied_mailbox q.incarnation (w.mailbox q.queue))
        ∷ (Cq_of (send_cq_of q) := x) ∷ (Cq_of (recv_cq_of q) := y) ∷ updates o (option_map (λ srq. w.srq (srq_of q srq)) o))
    by None is = after w.srq (λ t. refl) (λ t. users-stay uses q.queue t (w.srq t).users (room.reserved.used t)) room.sequence (λ n other t x taken held. taken)
    by (Some t) is = after (with_at slot_eq w.srq T slot)
        (with-same depth_of w.srq T slot (slot-depth ps ((w.srq T).users - 1) (w.srq T)))
        (with-all (λ u v. AreUsers (unused uses q.queue) u v.users) w.srq T slot (users-gone uses q.queue T (w.srq T).users (room.reserved.used T) (subst (λ z. Uses T (use_of z)) (sym there.present) (ap (option_map (srq_of q)) is)))
        (λ u. users-stay uses q.queue u (w.srq u).users (room.reserved.used u)))
        (with-all (λ u v. IsInSequence v) w.srq T slot (slot-sequence ps ((w.srq T).users - 1) (w.srq T) (room.sequence T)) room.sequence)
        (λ n other u z. with-all (λ u v. is_in z (taken_in (w.srq u)) ≡ true → room.holder u z ≡ n → is_in z (taken_in v) ≡ true) w.srq T slot
        (λ taken held. slot-others ps ((w.srq T).users - 1) (w.srq T) z (not-held w q t n z room there.present is other held) taken) (λ u taken held. taken) u)
      where
        T : Slot
        T = srq_of q t

        slot : SrqSlot
        slot = retired_slot ps ((w.srq T).users - 1) (w.srq T)

pub room-destroy_qp : (c : Configuration) (w : World) (call : Call) (s : Slot) → IsSoundWorld c w → HasRoom w → EndsIn w (LeavesRoom w) (destroy_qp_plan call s)
room-destroy_qp c w call s sound room = walk-destroy c w (LeavesRoom w) call s sound room (λ q there free. destroy-room c w s q sound room there)
