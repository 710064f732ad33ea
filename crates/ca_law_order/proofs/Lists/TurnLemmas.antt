-- What marks leave of what is told of lists, and how a queue pair that goes on keeps the agreement on them. For proofs
-- only.
use Rattle.std.proofs.Common.{◌≡◌, ℕ, suc, zero, ◌+◌, ◌-◌, ◌≤◌, ◌&&◌, ◌||◌, nat_lt, Bool, true, false, if◌then◌else◌, List, [], ◌∷◌, ◌++◌, append-nil, append_assoc, drop, length, slice_get, Option, None, Some, IfSome, is_some, refl, sym, ap, subst, ◌∙◌, arith, true≢false}
use Rattle.std.proofs.lemmas.Bool.Decides.{nat_tests}
use Rattle.std.proofs.lemmas.Option.{same_Some}
use Rattle.std.specs.Option.{option_and_then, option_map, option_map_or}
use Rattle.ca_law_endings.proofs.InnerLemmas.{AreOwn, IsOwnMark}
use Rattle.ca_law_order.proofs.Lists.HeldLemmas.{drops_by, drops_in, put_by, puts_in}
use Rattle.ca_law_order.specs.Lists.{AgreeInSlot, AgreeOnLists, AgreeOnReceiver, AgreeOnShared, AreAtPlaces, HasPosted, HoldsOwn, ListsAgree, life_of, receive_by}
use Rattle.ca_law_order.proofs.Polls.StepLemmas.{IsStep}
use Rattle.ca_law_order.proofs.Polls.TurnLemmas.{with_taken}
use Rattle.ca_base.specs.declared.queue_numbers.Message.{Message}
use Rattle.ca_base.specs.declared.queue_numbers.Message.TheVariants as messages
use Rattle.ca_base.specs.declared.request.PlacedReceive.{PlacedReceive}
use Rattle.ca_base.specs.declared.request.RecvRequest.{RecvRequest}
use Rattle.ca_base.specs.objects.QueuePair.{QueuePair, Present, receive_in_use, srq_of}
use Rattle.ca_base.specs.objects.SharedReceives.{SharedReceives, SrqSlot, after_receive_take, first_receive}
use Rattle.ca_base.specs.objects.WorkQueue.{WorkQueue, item_at}
use Rattle.ca_keys.specs.Equal.{queue_eq}
use Rattle.ca_keys.specs.declared.names.DomainId.{DomainId}
use Rattle.ca_keys.specs.declared.names.QueueId.{QueueId}
use Rattle.ca_keys.specs.declared.names.Slot.{Slot}
use Rattle.ca_law_world.proofs.Sound.SettledLemmas.{queue-path, queue-refl}
use Rattle.ca_law_world.proofs.Sound.WorldLemmas.{around_in, shared_of}
use Rattle.ca_model.specs.Packets.{is_send}
use Rattle.ca_model.specs.Past.{Arrival, Past, after_mark, after_marks, arrived_at_hand, at_begin, at_end, bytes_before, bytes_written, or_none, packet_at, placed_at_end, with_at}
use Rattle.ca_model.specs.declared.event.Event.{Event}
use Rattle.ca_model.specs.declared.mark.Mark.{Mark}
use Rattle.ca_model.specs.declared.mark.Mark.TheVariants as marks
use Rattle.ca_model.specs.machine.Around.{shared_in}
use Rattle.ca_model.specs.machine.Arrivals.{next_receive}
use Rattle.ca_model.specs.machine.Places.{AreTakenInOrder}
use Rattle.ca_model.specs.machine.Row.{Effects}
use Rattle.ca_model.specs.machine.World.{World}
use Rattle.ca_wire.specs.Packet.{Fields}

-- ---- marks

-- a mark that answers no verb, and tells of no packet that arrived
abbrev pub IsStillMark : Mark → Type 0
IsStillMark (marks.Verb by verb answer) = ⊥
IsStillMark (marks.Arrived target index) = ⊥
IsStillMark m = Unit {0}

abbrev pub AreStill : List Mark → Type 0
AreStill [] = Unit {0}
AreStill (m ∷ ms) = IsStillMark m × AreStill ms

pub still-append : (ms ns : List Mark) → AreStill ms → AreStill ns → AreStill (ms ++ ns)
still-append [] ns one other = other
still-append (m ∷ ms) ns one other = (one.0, still-append ms ns one.1 other)

pub own-still : (ms : List Mark) → AreOwn ms → AreStill ms
own-still [] own = record {}
own-still (m ∷ ms) own = (one m own.0, own-still ms own.1)
  where
    one : (m : Mark) → IsOwnMark m → IsStillMark m
    one (marks.Verb by verb answer) own = own
    one (marks.Arrived target index) own = own
    one (marks.Done queue x cause) own = record {}
    one (marks.Granted g) own = record {}
    one (marks.Revoked adapter key) own = record {}
    one (marks.Remote queue domain envelope key kind address count verdict) own = record {}
    one (marks.Local queue domain key kind address count verdict) own = record {}
    one (marks.Stored place bytes) own = record {}
    one (marks.Sent source target index request bytes) own = record {}
    one (marks.Lost target index) own = record {}
    one (marks.Dropped target cause) own = record {}
    one (marks.Timer queue silent) own = record {}

-- a past that tells the same of lists, and of the packet that arrived
pub record Leaves (p r : Past) : Type 0 where
  pub incarnation : r.incarnation ≡ p.incarnation
  pub receives : r.receives ≡ p.receives
  pub srq : r.srq ≡ p.srq
  pub shared : r.shared ≡ p.shared
  pub placed : r.placed ≡ p.placed
  pub arrival : r.at_hand.arrival ≡ p.at_hand.arrival

leaves-same : (p : Past) → Leaves p p
leaves-same p = record { incarnation = refl; receives = refl; srq = refl; shared = refl; placed = refl; arrival = refl }

pub leaves-then : (p r s : Past) → Leaves p r → Leaves r s → Leaves p s
leaves-then p r s one other = record {
  incarnation = other.incarnation ∙ one.incarnation;
  receives = other.receives ∙ one.receives;
  srq = other.srq ∙ one.srq;
  shared = other.shared ∙ one.shared;
  placed = other.placed ∙ one.placed;
  arrival = other.arrival ∙ one.arrival;
}

leaves-one : (m : Mark) → IsStillMark m → (p : Past) → Leaves p (after_mark m p)
leaves-one (marks.Verb by verb answer) still p = absurd still
leaves-one (marks.Arrived target index) still p = absurd still
leaves-one (marks.Done queue x cause) still p = record { incarnation = refl; receives = refl; srq = refl; shared = refl; placed = refl; arrival = refl }
leaves-one (marks.Granted g) still p = record { incarnation = refl; receives = refl; srq = refl; shared = refl; placed = refl; arrival = refl }
leaves-one (marks.Revoked adapter key) still p = record { incarnation = refl; receives = refl; srq = refl; shared = refl; placed = refl; arrival = refl }
leaves-one (marks.Remote queue domain envelope key kind address count verdict) still p = record { incarnation = refl; receives = refl; srq = refl; shared = refl; placed = refl; arrival = refl }
leaves-one (marks.Local queue domain key kind address count verdict) still p = record { incarnation = refl; receives = refl; srq = refl; shared = refl; placed = refl; arrival = refl }
leaves-one (marks.Stored place bytes) still p = record { incarnation = refl; receives = refl; srq = refl; shared = refl; placed = refl; arrival = refl }
leaves-one (marks.Sent source target index request bytes) still p = record { incarnation = refl; receives = refl; srq = refl; shared = refl; placed = refl; arrival = refl }
leaves-one (marks.Lost target None) still p = record { incarnation = refl; receives = refl; srq = refl; shared = refl; placed = refl; arrival = refl }
leaves-one (marks.Lost target (Some index)) still p = record { incarnation = refl; receives = refl; srq = refl; shared = refl; placed = refl; arrival = refl }
leaves-one (marks.Dropped target cause) still p = record { incarnation = refl; receives = refl; srq = refl; shared = refl; placed = refl; arrival = refl }
leaves-one (marks.Timer queue silent) still p = record { incarnation = refl; receives = refl; srq = refl; shared = refl; placed = refl; arrival = refl }

pub still-leaves : (ms : List Mark) → AreStill ms → (p : Past) → Leaves p (after_marks ms p)
still-leaves [] still p = leaves-same p
still-leaves (m ∷ ms) still p = leaves-then p (after_mark m p) (after_marks ms (after_mark m p)) (leaves-one m still.0 p) (still-leaves ms still.1 (after_mark m p))

-- what the marks of a row leave of the packet at hand
pub record Hands (ms : List Mark) (p r : Past) : Type 0 where
  pub event : r.at_hand.event ≡ p.at_hand.event
  pub envelopes : r.envelopes ≡ p.envelopes
  pub dropped : r.at_hand.dropped ≡ (p.at_hand.dropped || drops_in ms)
  pub put : r.at_hand.put_locally ≡ p.at_hand.put_locally ++ puts_in ms

or-none : (b : Bool) → b ≡ (b || false)
or-none true = refl
or-none false = refl

or-some : (b c : Bool) → true ≡ (b || (true || c))
or-some true c = refl
or-some false c = refl

or-behind : (a b c : Bool) → ((a || b) || c) ≡ (a || (b || c))
or-behind true b c = refl
or-behind false b c = refl

quiet-hands : (m : Mark) (p r : Past) → put_by m ≡ [] → drops_by m ≡ false → r.at_hand.event ≡ p.at_hand.event → r.envelopes ≡ p.envelopes → r.at_hand.dropped ≡ p.at_hand.dropped → r.at_hand.put_locally ≡ p.at_hand.put_locally → Hands (m ∷ []) p r
quiet-hands m p r none stays event envelopes dropped put = record {
  event = event;
  envelopes = envelopes;
  dropped = dropped ∙ or-none p.at_hand.dropped ∙ ap (λ b. p.at_hand.dropped || (b || false)) (sym stays);
  put = put ∙ sym (append-nil p.at_hand.put_locally) ∙ ap (λ xs. p.at_hand.put_locally ++ (xs ++ [])) (sym none);
}

hands-one : (m : Mark) → IsOwnMark m → (p : Past) → Hands (m ∷ []) p (after_mark m p)
hands-one (marks.Verb by verb answer) own p = absurd own
hands-one (marks.Arrived target index) own p = absurd own
hands-one (marks.Sent source target index request bytes) own p = absurd own
hands-one (marks.Lost target index) own p = absurd own
hands-one (marks.Local queue domain key kind address count verdict) own p = record {
  event = refl;
  envelopes = refl;
  dropped = or-none p.at_hand.dropped;
  put = ap (λ xs. p.at_hand.put_locally ++ xs) (sym (append-nil (or_none (bytes_written verdict))));
}
hands-one (marks.Dropped target cause) own p = record { event = refl; envelopes = refl; dropped = or-some p.at_hand.dropped false; put = sym (append-nil p.at_hand.put_locally) }
hands-one (marks.Done queue x cause) own p = quiet-hands (marks.Done queue x cause) p _ refl refl refl refl refl refl
hands-one (marks.Granted g) own p = quiet-hands (marks.Granted g) p _ refl refl refl refl refl refl
hands-one (marks.Revoked adapter key) own p = quiet-hands (marks.Revoked adapter key) p _ refl refl refl refl refl refl
hands-one (marks.Remote queue domain envelope key kind address count verdict) own p = quiet-hands (marks.Remote queue domain envelope key kind address count verdict) p _ refl refl refl refl refl refl
hands-one (marks.Stored place bytes) own p = quiet-hands (marks.Stored place bytes) p _ refl refl refl refl refl refl
hands-one (marks.Timer queue silent) own p = quiet-hands (marks.Timer queue silent) p _ refl refl refl refl refl refl

pub own-hands : (ms : List Mark) → AreOwn ms → (p : Past) → Hands ms p (after_marks ms p)
own-hands [] own p = record { event = refl; envelopes = refl; dropped = or-none p.at_hand.dropped; put = sym (append-nil p.at_hand.put_locally) }
own-hands (m ∷ ms) own p = by (hands-one m own.0 p) (own-hands ms own.1 (after_mark m p))
  where
    by : Hands (m ∷ []) p (after_mark m p) → Hands ms (after_mark m p) (after_marks ms (after_mark m p)) → Hands (m ∷ ms) p (after_marks ms (after_mark m p))
    by one rest = record {
      event = rest.event ∙ one.event;
      envelopes = rest.envelopes ∙ one.envelopes;
      dropped = rest.dropped ∙ ap (λ b. b || drops_in ms) one.dropped ∙ or-behind p.at_hand.dropped (drops_by m || false) (drops_in ms) ∙ ap (λ b. p.at_hand.dropped || (b || drops_in ms)) (sym (or-none (drops_by m)));
      put = rest.put ∙ ap (λ xs. xs ++ puts_in ms) (one.put ∙ ap (λ xs. p.at_hand.put_locally ++ xs) (append-nil (put_by m))) ∙ append_assoc p.at_hand.put_locally (put_by m) (puts_in ms);
    }

-- ---- bytes that are placed, as an event ends

-- what a packet that arrived at a queue pair leaves
abbrev pub placed_by : Past → QueueId → Fields → QueueId → ℕ
placed_by r q p =
    if is_send p.opcode && nat_lt 0 (length r.at_hand.put_locally)
    then with_at queue_eq r.placed q (bytes_before r q p + length r.at_hand.put_locally)
    else r.placed

-- where no packet arrived, none are placed
pub placed-still : (r : Past) → r.at_hand.arrival ≡ None → placed_at_end r ≡ r.placed
placed-still r none = ap (λ o. option_map_or (λ (a : Arrival). option_map_or (placed_by r a.target) (arrived_at_hand r a.target) r.placed) o r.placed) none

-- a packet that arrived at a queue pair: what its event places
pub placed-arrived : (r : Past) (q : QueueId) (index : Option ℕ) → r.at_hand.arrival ≡ Some (record { target = q; index = index })
    → placed_at_end r ≡ option_map_or (placed_by r q) (if r.at_hand.dropped then None else packet_at r q index) r.placed
placed-arrived r q index arrived = ap (λ o. option_map_or (λ (a : Arrival). option_map_or (placed_by r a.target) (arrived_at_hand r a.target) r.placed) o r.placed) arrived
    ∙ ap (λ o. option_map_or (placed_by r q) o r.placed) (ap (option_and_then (λ a. if r.at_hand.dropped then None else at a)) arrived ∙ ap (λ b. if r.at_hand.dropped then None else if b then packet_at r q index else None) (queue-refl q))
  where
    at : Arrival → Option Fields
    at a = if queue_eq a.target q then packet_at r q a.index else None

-- ---- shared receive queues

-- what waits in another's shared receive queues was posted to them, where it was in one's
abbrev pub KeepsShared : (Slot → SrqSlot) → (Slot → SrqSlot) → Type 0
KeepsShared a b = (t : Slot) (posted : List RecvRequest) → AgreeOnShared posted (a t) → AgreeOnShared posted (b t)

pub taken-keeps : (slot : SrqSlot) (posted : List RecvRequest) → AgreeOnShared posted slot → AgreeOnShared posted (with_taken slot)
taken-keeps slot posted was = by slot.srq was
  where
    less : (xs : List PlacedReceive) → AreAtPlaces posted xs → AreAtPlaces posted (drop 1 xs)
    less [] all = all
    less (x ∷ xs) all = all.1

    by : (o : Option SharedReceives) → IfSome o (λ s. (s.next ≡ length posted) × AreAtPlaces posted s.waiting)
        → IfSome (option_map after_receive_take o) (λ s. (s.next ≡ length posted) × AreAtPlaces posted s.waiting)
    by None was = record {}
    by (Some s) was = (was.0, less s.waiting was.1)

-- ---- a queue pair that goes on

-- a message that holds no receive
pub lost-holds : (at : ℕ → Option RecvRequest) (placed : ℕ) (m : Option Message) → receive_in_use m ≡ None → HoldsOwn at placed m
lost-holds at placed None none = record {}
lost-holds at placed (Some (messages.Write key address left count)) none = record {}
lost-holds at placed (Some (messages.Send place receive bytes)) none = absurd (true≢false (ap is_some none))

-- what was posted to a queue of which only more is taken
pub taken-posted : (own : List RecvRequest) (a b : Option (WorkQueue RecvRequest)) (x y : Option Message) (ms : List Mark) → AreTakenInOrder a b x y ms → IfSome a (HasPosted own) → IfSome b (HasPosted own)
taken-posted own None None x y ms order was = record {}
taken-posted own None (Some b) x y ms order was = absurd order
taken-posted own (Some a) None x y ms order was = absurd order
taken-posted own (Some a) (Some b) x y ms order was = subst (HasPosted own) (sym order.0) (record { count = was.count; items = was.items })

source-later : (srq : Option Slot) (d e : DomainId) (s t : Option ℕ) → e ≡ d → t ≡ s → srq ≡ option_map (λ n. record { domain = d; slot = n }) s → srq ≡ option_map (λ n. record { domain = e; slot = n }) t
source-later srq d e s t domain same is = subst (λ x. srq ≡ option_map (λ n. record { domain = x; slot = n }) t) (sym domain) (subst (λ x. srq ≡ option_map (λ n. record { domain = d; slot = n }) x) (sym same) is)

pub receiver-after : (own : List RecvRequest) (srq : Option Slot) (shared : Slot → List RecvRequest) (placed now : ℕ) (q : QueuePair) (known : Option SharedReceives) (e : Effects) → AgreeOnReceiver own srq shared placed q → IsStep known q e
    → HoldsOwn (receive_by own srq shared) now e.queue.responder.message → AgreeOnReceiver own srq shared now e.queue
receiver-after own srq shared placed now q known e was step message = record {
  source = source-later srq q.domain e.queue.domain q.srq e.queue.srq step.good.later.domain step.good.later.srq was.source;
  posted = taken-posted own q.receives e.queue.receives q.responder.message e.queue.responder.message e.marks step.good.order.own was.posted;
  message = message;
}

slice-drop : {A : Type 0} (k n : ℕ) (xs : List A) → k ≤ n → slice_get (drop k xs) (n - k) ≡ slice_get xs n
slice-drop zero n xs le = ap (slice_get xs) {x = n - 0} {y = n} (omega arith)
slice-drop (suc k) zero xs le = absurd (omega (arith, le))
slice-drop (suc k) (suc n) [] le = refl
slice-drop (suc k) (suc n) (x ∷ xs) le = ap (slice_get (drop k xs)) {x = suc n - suc k} {y = n - k} (omega arith) ∙ slice-drop k n xs (omega (arith, le))

-- the receive that a message would take is the one at its place
pub next-known : (w : World) (q : QueuePair) (own : List RecvRequest) (srq : Option Slot) (shared : Slot → List RecvRequest) (placed : ℕ) (r : PlacedReceive) → AgreeOnReceiver own srq shared placed q → ((s : Slot) → AgreeOnShared (shared s) (w.srq s))
    → next_receive q (shared_in (around_in w q (shared_of w q))) ≡ Some r → receive_by own srq shared r.place ≡ Some r.receive
next-known w q own srq shared placed r was waiting is = by q.srq (sym was.source) is
  where
    from : WorkQueue RecvRequest → Option PlacedReceive
    from x = option_map (λ y. record { place = x.next_taken; receive = y }) (item_at x.next_taken x)

    seen : Option ℕ → Option SharedReceives
    seen o = option_and_then (λ s. s.srq) (option_map (λ t. w.srq (srq_of q t)) o)

    next : Option SharedReceives → Option ℕ → Option PlacedReceive
    next known (Some t) = option_and_then first_receive known
    next known None = option_and_then from q.receives

    item : (x : WorkQueue RecvRequest) → HasPosted own x → (b : Bool) → nat_lt x.next_taken x.first ≡ b → (i : Option RecvRequest) → (if b then None else slice_get x.items (x.next_taken - x.first)) ≡ i
        → option_map {U = PlacedReceive} (λ y. record { place = x.next_taken; receive = y }) i ≡ Some r → slice_get own r.place ≡ Some r.receive
    item x has b e None found same = absurd (true≢false (sym (ap is_some same)))
    item x has true e (Some y) found same = absurd (true≢false (sym (ap is_some found)))
    item x has false e (Some y) found same = subst (λ (z : PlacedReceive). slice_get own z.place ≡ Some z.receive) (same_Some _ r same)
        (sym (slice-drop x.first x.next_taken own (low x.next_taken x.first e)) ∙ ap (λ xs. slice_get xs (x.next_taken - x.first)) (sym has.items) ∙ found)
      where
        low : (a b : ℕ) → nat_lt a b ≡ false → b ≤ a
        low a b e = grind (arith, nat_tests, e)

    owns : (o : Option (WorkQueue RecvRequest)) → IfSome o (HasPosted own) → option_and_then from o ≡ Some r → slice_get own r.place ≡ Some r.receive
    owns None has is = absurd (true≢false (sym (ap is_some is)))
    owns (Some x) has is = item x has (nat_lt x.next_taken x.first) refl (item_at x.next_taken x) refl is

    first : (posted : List RecvRequest) (xs : List PlacedReceive) → AreAtPlaces posted xs → slice_get xs 0 ≡ Some r → slice_get posted r.place ≡ Some r.receive
    first posted [] all is = absurd (true≢false (sym (ap is_some is)))
    first posted (x ∷ xs) all is = subst (λ (z : PlacedReceive). slice_get posted z.place ≡ Some z.receive) (same_Some x r is) all.0

    shares : (t : Slot) (o : Option SharedReceives) → IfSome o (λ s. (s.next ≡ length (shared t)) × AreAtPlaces (shared t) s.waiting) → option_and_then first_receive o ≡ Some r → slice_get (shared t) r.place ≡ Some r.receive
    shares t None all is = absurd (true≢false (sym (ap is_some is)))
    shares t (Some s) all is = first (shared t) s.waiting all.1 is

    by : (o : Option ℕ) → option_map (srq_of q) o ≡ srq → next (seen o) o ≡ Some r → receive_by own srq shared r.place ≡ Some r.receive
    by None source is = subst (λ x. receive_by own x shared r.place ≡ Some r.receive) source (owns q.receives was.posted is)
    by (Some t) source is = subst (λ x. receive_by own x shared r.place ≡ Some r.receive) source (shares (srq_of q t) (w.srq (srq_of q t)).srq (waiting (srq_of q t)) is)

-- ---- worlds

-- with another past that tells the same
pub as-told : (past r : Past) (placed : QueueId → ℕ) (v : World) → r.incarnation ≡ past.incarnation → r.receives ≡ past.receives → r.srq ≡ past.srq → r.shared ≡ past.shared
    → AgreeOnLists past.incarnation past.receives past.srq past.shared placed v.queue v.srq → AgreeOnLists r.incarnation r.receives r.srq r.shared placed v.queue v.srq
as-told past r placed v incarnation receives srq shared agree = subst (λ a. AgreeOnLists a r.receives r.srq r.shared placed v.queue v.srq) (sym incarnation)
    (subst (λ a. AgreeOnLists past.incarnation a r.srq r.shared placed v.queue v.srq) (sym receives)
    (subst (λ a. AgreeOnLists past.incarnation past.receives a r.shared placed v.queue v.srq) (sym srq)
    (subst (λ a. AgreeOnLists past.incarnation past.receives past.srq a placed v.queue v.srq) (sym shared) agree)))

-- a queue pair goes on
pub moved-agree : (past : Past) (w v : World) (q x : QueuePair) (placed : QueueId → ℕ) → ListsAgree past w → v.queue ≡ with_at queue_eq w.queue q.queue (Present x) → KeepsShared w.srq v.srq → ((n : QueueId) → queue_eq q.queue n ≡ false → placed n ≡ past.placed n)
    → AgreeOnReceiver (past.receives (life_of q.queue (past.incarnation q.queue))) (past.srq q.queue) past.shared (placed q.queue) x
    → AgreeOnLists past.incarnation past.receives past.srq past.shared placed v.queue v.srq
moved-agree past w v q x placed agree queue shared others own = record {
  queues = λ n. subst (λ f. AgreeInSlot (past.receives (life_of n (past.incarnation n))) (past.srq n) past.shared (placed n) (f n)) (sym queue) (at n (queue_eq q.queue n) refl);
  later = agree.later;
  waiting = λ s. shared s (past.shared s) (agree.waiting s);
}
  where
    at : (n : QueueId) (b : Bool) → queue_eq q.queue n ≡ b → AgreeInSlot (past.receives (life_of n (past.incarnation n))) (past.srq n) past.shared (placed n) (if b then Present x else w.queue n)
    at n true e = subst (λ m. AgreeOnReceiver (past.receives (life_of m (past.incarnation m))) (past.srq m) past.shared (placed m) x) (queue-path q.queue n e) own
    at n false e = subst (λ k. AgreeInSlot (past.receives (life_of n (past.incarnation n))) (past.srq n) past.shared k (w.queue n)) (sym (others n e)) (agree.queues n)

-- what an event leaves of the agreement
abbrev pub Lists : Past → Event → World → List Mark → Type 0
Lists past event v ms = ListsAgree (at_end (after_marks ms (at_begin event past))) v

-- the agreement as an event ends in which no packet arrived
pub still-ends : (past r : Past) (v : World) → Leaves past r → past.at_hand.arrival ≡ None → AgreeOnLists past.incarnation past.receives past.srq past.shared past.placed v.queue v.srq → ListsAgree (at_end r) v
still-ends past r v leaves none agree = subst (λ f. AgreeOnLists r.incarnation r.receives r.srq r.shared f v.queue v.srq) (sym (placed-still r (leaves.arrival ∙ none) ∙ leaves.placed))
    (as-told past r past.placed v leaves.incarnation leaves.receives leaves.srq leaves.shared agree)
