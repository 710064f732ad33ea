-- What keeps a world's room: reservations that stay, and completions of a queue pair that goes on in order.
use Rattle.std.proofs.Common.{◌≡◌, ◌⊎◌, inl, inr, ℕ, ◌==◌, ◌&&◌, ◌||◌, Bool, true, false, List, [], ◌∷◌, ◌++◌, map, filter, Option, None, Some, IfSome, is_some, refl, sym, ◌∙◌, ap, ap₂, subst, true≢false, if◌then◌else◌, append_assoc}
use Rattle.std.proofs.lemmas.List.{append-nil}
use Rattle.std.specs.List.{AllByRecursion}
use Rattle.std.specs.Option.{option_map, option_map_or}
use Rattle.ca_base.specs.declared.completion.Completion.{Completion}
use Rattle.ca_base.specs.declared.request.RecvRequest.{RecvRequest}
use Rattle.ca_keys.specs.declared.names.DomainId.{DomainId}
use Rattle.ca_keys.specs.declared.names.QueueId.{QueueId}
use Rattle.ca_keys.specs.declared.names.Slot.{Slot}
use Rattle.ca_keys.specs.Equal.{bool_eq, queue_eq, slot_eq}
use Rattle.ca_base.specs.objects.CompletionQueue.{CompletionQueue, after_puts}
use Rattle.ca_base.specs.objects.QueuePair.{QueuePair, QueueSlot, NoQueue, Present, recv_cq_of, send_cq_of, srq_of}
use Rattle.ca_base.specs.objects.SharedReceives.{SrqSlot}
use Rattle.ca_base.specs.objects.WorkQueue.{WorkQueue}
use Rattle.ca_model.specs.Past.{with_at}
use Rattle.ca_model.specs.declared.mark.Mark.{Mark}
use Rattle.ca_model.specs.declared.mark.Mark.TheVariants as marks
use Rattle.ca_model.specs.machine.Around.{completions_to}
use Rattle.ca_model.specs.machine.Places.{AreTakenInOrder, Ascend, IsInOrder, completions_in, first_held, places_done, places_in_use, places_of_side}
use Rattle.ca_model.specs.machine.Plan.{Update, put_all}
use Rattle.ca_model.specs.machine.Row.{Effects}
use Rattle.ca_model.specs.machine.World.{World, Name, Domain_of, Region_of, Window_of, Cq_of, Srq_of, Queue_of, Mailbox_of, Byte_at, Thing, put}
use Rattle.ca_cq.proofs.Rooms.{all-filter}
use Rattle.ca_law_world.proofs.Sound.GoodLemmas.{AreSettledMarks, IsLater, IsSettledMark}
use Rattle.ca_law_world.proofs.Sound.SettledLemmas.{queue-path, queue-refl, slot-path}
use Rattle.ca_law_parts.specs.Room.{AreDistinct, AreHeld, AreReserved, HasRoom, HaveRoom, Holder, IsInPlace, IsSlotInPlace, depth_of, is_in, places_kept, rooms_of, taken_in, use_of, waits_in}
use Rattle.ca_law_parts.proofs.Room.RoomLists.{all-behind, all-map, ascend-append, ascend-bounds, ascend-higher, distinct-behind, in-append, is_of, side-append, side-head, side-none, side-skip}

-- two worlds with the same queue pairs, completion queues and shared receive queues
pub record SameQueues (u v : World) : Type 0 where
  pub queue : u.queue ≡ v.queue
  pub cq : u.cq ≡ v.cq
  pub srq : u.srq ≡ v.srq

pub same-queues : (u : World) → SameQueues u u
same-queues u = record { queue = refl; cq = refl; srq = refl }

pub same-room : (u v : World) → SameQueues u v → HasRoom u → HasRoom v
same-room u v same room = subst (λ f. HaveRoom v.queue v.cq f) same.srq
    (subst (λ f. HaveRoom v.queue f u.srq) same.cq (subst (λ f. HaveRoom f u.cq u.srq) same.queue room))

-- what an event changes beside these
abbrev pub IsAsideName : Name → Type 0
IsAsideName (Queue_of q) = ⊥
IsAsideName (Cq_of s) = ⊥
IsAsideName (Srq_of s) = ⊥
IsAsideName n = Unit {0}

abbrev pub AreAside : List Update → Type 0
AreAside [] = Unit {0}
AreAside (x ∷ xs) = IsAsideName x.name × AreAside xs

pub aside-append : (xs ys : List Update) → AreAside xs → AreAside ys → AreAside (xs ++ ys)
aside-append [] ys one other = other
aside-append (x ∷ xs) ys one other = (one.0, aside-append xs ys one.1 other)

aside-put : (u v : World) (n : Name) (t : Thing n) → IsAsideName n → SameQueues u v → SameQueues u (put v n t)
aside-put u v (Queue_of q) t aside same = absurd aside
aside-put u v (Cq_of s) t aside same = absurd aside
aside-put u v (Srq_of s) t aside same = absurd aside
aside-put u v (Domain_of d) t aside same = record { queue = same.queue; cq = same.cq; srq = same.srq }
aside-put u v (Region_of s) t aside same = record { queue = same.queue; cq = same.cq; srq = same.srq }
aside-put u v (Window_of s) t aside same = record { queue = same.queue; cq = same.cq; srq = same.srq }
aside-put u v (Mailbox_of q) t aside same = record { queue = same.queue; cq = same.cq; srq = same.srq }
aside-put u v (Byte_at p) t aside same = record { queue = same.queue; cq = same.cq; srq = same.srq }

pub aside-puts : (xs : List Update) (u v : World) → AreAside xs → SameQueues u v → SameQueues u (put_all xs v)
aside-puts [] u v aside same = same
aside-puts (x ∷ xs) u v aside same = aside-puts xs u (put v x.name x.thing) aside.1 (aside-put u v x.name x.thing aside.0 same)

pub puts-append : (xs ys : List Update) (u : World) → put_all (xs ++ ys) u ≡ put_all ys (put_all xs u)
puts-append [] ys u = refl
puts-append (x ∷ xs) ys u = puts-append xs ys (put u x.name x.thing)

-- changes behind others leave the room that these leave
pub room-behind : (xs ys : List Update) (w : World) → AreAside ys → HasRoom (put_all xs w) → HasRoom (put_all (xs ++ ys) w)
room-behind xs ys w aside room = subst HasRoom (sym (puts-append xs ys w)) (same-room (put_all xs w) (put_all ys (put_all xs w)) (aside-puts ys (put_all xs w) (put_all xs w) aside (same-queues (put_all xs w))) room)

-- changes aside alone
pub aside-room : (w : World) (xs : List Update) → HasRoom w → AreAside xs → HasRoom (put_all xs w)
aside-room w xs room aside = same-room w (put_all xs w) (aside-puts xs w w aside (same-queues w)) room

-- what is said of each value of a function by its slot, where one value is another
pub with-same : {V X : Type 0} (F : V → X) (f : Slot → V) (at : Slot) (v : V) → F v ≡ F (f at) → (s : Slot) → F (with_at slot_eq f at v s) ≡ F (f s)
with-same {V} F f at v same s = by (slot_eq at s) refl
  where
    by : (b : Bool) → slot_eq at s ≡ b → F (if b then v else f s) ≡ F (f s)
    by true e = same ∙ ap (λ t. F (f t)) (slot-path at s e)
    by false e = refl

pub two-same : {V X : Type 0} (F : V → X) (f : Slot → V) (a b : Slot) (x y : V) → F x ≡ F (f a) → F y ≡ F (f b) → (s : Slot) → F (with_at slot_eq (with_at slot_eq f a x) b y s) ≡ F (f s)
two-same F f a b x y one other s = with-same F (with_at slot_eq f a x) b y (other ∙ sym (with-same F f a x one b)) s ∙ with-same F f a x one s

pub queue-with-same : {X : Type 0} (F : QueueSlot → X) (f : QueueId → QueueSlot) (at : QueueId) (v : QueueSlot) → F v ≡ F (f at) → (n : QueueId) → F (with_at queue_eq f at v n) ≡ F (f n)
queue-with-same F f at v same n = by (queue_eq at n) refl
  where
    by : (b : Bool) → queue_eq at n ≡ b → F (if b then v else f n) ≡ F (f n)
    by true e = same ∙ ap (λ m. F (f m)) (queue-path at n e)
    by false e = refl

-- the same queue pairs use the same: so all reservations stay as they are
pub record IsSameUse (queue after : QueueId → QueueSlot) (cq cq' : Slot → Option CompletionQueue) (srq srq' : Slot → SrqSlot) : Type 0 where
  pub uses : (n : QueueId) → use_of (after n) ≡ use_of (queue n)
  pub rooms : (s : Slot) → rooms_of (cq' s) ≡ rooms_of (cq s)
  pub depths : (t : Slot) → depth_of (srq' t) ≡ depth_of (srq t)
  pub users : (t : Slot) → (srq' t).users ≡ (srq t).users

pub same-reserved : (queue after : QueueId → QueueSlot) (cq cq' : Slot → Option CompletionQueue) (srq srq' : Slot → SrqSlot) → IsSameUse queue after cq cq' srq srq'
    → AreReserved (λ n. use_of (queue n)) (λ s. rooms_of (cq s)) (λ t. depth_of (srq t)) (λ t. (srq t).users)
    → AreReserved (λ n. use_of (after n)) (λ s. rooms_of (cq' s)) (λ t. depth_of (srq' t)) (λ t. (srq' t).users)
same-reserved queue after cq cq' srq srq' same reserved =
    subst (λ f. AreReserved (λ n. use_of (after n)) (λ s. rooms_of (cq' s)) (λ t. depth_of (srq' t)) f) (λ i. λ t. sym (same.users t) i)
    (subst (λ f. AreReserved (λ n. use_of (after n)) (λ s. rooms_of (cq' s)) f (λ t. (srq t).users)) (λ i. λ t. sym (same.depths t) i)
    (subst (λ f. AreReserved (λ n. use_of (after n)) f (λ t. depth_of (srq t)) (λ t. (srq t).users)) (λ i. λ s. sym (same.rooms s) i)
    (subst (λ f. AreReserved f (λ s. rooms_of (cq s)) (λ t. depth_of (srq t)) (λ t. (srq t).users)) (λ i. λ n. sym (same.uses n) i) reserved)))

-- places of a shared receive queue that stay taken
pub held-kept : (holder after : Holder) (n : QueueId) (t : Slot) (taken now : List ℕ) (xs : List ℕ)
    → ((x : ℕ) → is_in x taken ≡ true → holder t x ≡ n → (is_in x now ≡ true) × (after t x ≡ n)) → AreHeld holder n t taken xs → AreHeld after n t now xs
held-kept holder after n t taken now xs stay held =
    (held.0, all-map (λ x. (is_in x taken ≡ true) × (holder t x ≡ n)) (λ x. (is_in x now ≡ true) × (after t x ≡ n)) (λ x two. stay x two.0 two.1) xs held.1)

-- a queue pair of which nothing changes, with what waits for it, and with the shared receive queue that it uses
pub still-in-use : (cq now : Slot → Option CompletionQueue) (srq srq' : Slot → SrqSlot) (holder after : Holder) (q : QueuePair)
    → ((s : Slot) (b : Bool) → places_of_side q.queue b (waits_in now s) ≡ places_of_side q.queue b (waits_in cq s))
    → ((t : Slot) → option_map (srq_of q) q.srq ≡ Some t → (x : ℕ) → is_in x (taken_in (srq t)) ≡ true → holder t x ≡ q.queue → (is_in x (taken_in (srq' t)) ≡ true) × (after t x ≡ q.queue))
    → IsInPlace cq srq holder q → IsInPlace now srq' after q
still-in-use cq now srq srq' holder after q sides stay place = record {
  sends = subst (Ascend q.sends.first q.requester.oldest) (sym (sides (send_cq_of q) false)) place.sends;
  receives = by q.receives place.receives;
  shared = shared q.srq refl place.shared;
}
  where
    by : (o : Option (WorkQueue RecvRequest)) → IfSome o (λ r. Ascend r.first (first_held r q.responder.message) (places_of_side q.queue true (waits_in cq (recv_cq_of q))))
        → IfSome o (λ r. Ascend r.first (first_held r q.responder.message) (places_of_side q.queue true (waits_in now (recv_cq_of q))))
    by None all = record {}
    by (Some r) all = subst (Ascend r.first (first_held r q.responder.message)) (sym (sides (recv_cq_of q) true)) all

    shared : (o : Option ℕ) → q.srq ≡ o → IfSome o (λ t. AreHeld holder q.queue (srq_of q t) (taken_in (srq (srq_of q t))) (places_kept cq q))
        → IfSome o (λ t. AreHeld after q.queue (srq_of q t) (taken_in (srq' (srq_of q t))) (places_kept now q))
    shared None is all = record {}
    shared (Some t) is all = subst (AreHeld after q.queue (srq_of q t) (taken_in (srq' (srq_of q t)))) (sym (ap (λ xs. xs ++ places_in_use q.responder.message) (sides (recv_cq_of q) true)))
        (held-kept holder after q.queue (srq_of q t) (taken_in (srq (srq_of q t))) (taken_in (srq' (srq_of q t))) (places_kept cq q) (stay (srq_of q t) (ap (option_map (srq_of q)) is)) all)

-- the same where all places stay taken
pub still-in-place : (cq now : Slot → Option CompletionQueue) (srq srq' : Slot → SrqSlot) (holder after : Holder) (q : QueuePair)
    → ((s : Slot) (b : Bool) → places_of_side q.queue b (waits_in now s) ≡ places_of_side q.queue b (waits_in cq s))
    → ((t : Slot) (x : ℕ) → is_in x (taken_in (srq t)) ≡ true → holder t x ≡ q.queue → (is_in x (taken_in (srq' t)) ≡ true) × (after t x ≡ q.queue))
    → IsInPlace cq srq holder q → IsInPlace now srq' after q
still-in-place cq now srq srq' holder after q sides stay place = still-in-use cq now srq srq' holder after q sides (λ t is. stay t) place

-- one queue pair goes on, and for others nothing changes
pub local-places : (queue : QueueId → QueueSlot) (cq now : Slot → Option CompletionQueue) (srq srq' : Slot → SrqSlot) (holder after : Holder) (name : QueueId) (slot : QueueSlot)
    → ((n : QueueId) (q : QueuePair) → queue n ≡ Present q → q.queue ≡ n)
    → ((n : QueueId) → queue_eq name n ≡ false → (s : Slot) (b : Bool) → places_of_side n b (waits_in now s) ≡ places_of_side n b (waits_in cq s))
    → ((n : QueueId) → queue_eq name n ≡ false → (t : Slot) (x : ℕ) → is_in x (taken_in (srq t)) ≡ true → holder t x ≡ n → (is_in x (taken_in (srq' t)) ≡ true) × (after t x ≡ n))
    → ((n : QueueId) → IsSlotInPlace cq srq holder (queue n)) → IsSlotInPlace now srq' after slot
    → (n : QueueId) → IsSlotInPlace now srq' after (with_at queue_eq queue name slot n)
local-places queue cq now srq srq' holder after name slot named sides stay places new n = by (queue_eq name n) refl (queue n) refl (places n)
  where
    by : (b : Bool) → queue_eq name n ≡ b → (z : QueueSlot) → queue n ≡ z → IsSlotInPlace cq srq holder z → IsSlotInPlace now srq' after (if b then slot else z)
    by true e z is place = new
    by false e (NoQueue incarnation timers) is place = record {}
    by false e (Present q) is place = still-in-place cq now srq srq' holder after q (λ s b. subst (λ m. places_of_side m b (waits_in now s) ≡ places_of_side m b (waits_in cq s)) (sym (named n q is)) (sides n e s b))
        (λ t x taken held. subst (λ m. (is_in x (taken_in (srq' t)) ≡ true) × (after t x ≡ m)) (sym (named n q is)) (stay n e t x taken (held ∙ named n q is))) place

-- whether a completion of this kind goes to the completion queue of a number
abbrev pub goes_to : QueuePair → ℕ → Completion → Bool
goes_to q k c = if c.receive then q.recv_cq == k else q.send_cq == k

-- the completions that go there are those of the marks that do
to-filter : (q : QueuePair) (k : ℕ) (ms : List Mark) → completions_to q k ms ≡ filter (goes_to q k) (completions_in ms)
to-filter q k [] = refl
to-filter q k (m ∷ ms) = one m (to-filter q k ms)
  where
    add : (c : Completion) (b : Bool) (xs ys : List Completion) → xs ≡ ys → (if b then c ∷ [] else []) ++ xs ≡ (if b then c ∷ ys else ys)
    add c true xs ys same = ap (λ zs. c ∷ zs) same
    add c false xs ys same = same

    one : (m : Mark) → completions_to q k ms ≡ filter (goes_to q k) (completions_in ms) → completions_to q k (m ∷ ms) ≡ filter (goes_to q k) (completions_in (m ∷ ms))
    one (marks.Done queue c cause) rest = add c (goes_to q k c) (completions_to q k ms) (filter (goes_to q k) (completions_in ms)) rest
    one (marks.Verb by verb answer) rest = rest
    one (marks.Granted g) rest = rest
    one (marks.Revoked adapter key) rest = rest
    one (marks.Remote queue domain envelope key kind address count verdict) rest = rest
    one (marks.Local queue domain key kind address count verdict) rest = rest
    one (marks.Stored place bytes) rest = rest
    one (marks.Sent source target index request bytes) rest = rest
    one (marks.Lost target index) rest = rest
    one (marks.Arrived target index) rest = rest
    one (marks.Dropped target cause) rest = rest
    one (marks.Timer queue silent) rest = rest

-- all that completes by settled marks is of the queue pair
pub marks-of : (p : QueuePair) (ms : List Mark) → AreSettledMarks p ms → AllByRecursion (λ c. c.queue ≡ p.queue) (completions_in ms)
marks-of p [] all = record {}
marks-of p (m ∷ ms) all = one m all.0 (marks-of p ms all.1)
  where
    one : (m : Mark) → IsSettledMark p m → AllByRecursion (λ c. c.queue ≡ p.queue) (completions_in ms) → AllByRecursion (λ c. c.queue ≡ p.queue) (completions_in (m ∷ ms))
    one (marks.Done queue c cause) done rest = (done.0, rest)
    one (marks.Verb by verb answer) done rest = rest
    one (marks.Granted g) done rest = rest
    one (marks.Revoked adapter key) done rest = rest
    one (marks.Remote queue domain envelope key kind address count verdict) done rest = rest
    one (marks.Local queue domain key kind address count verdict) done rest = rest
    one (marks.Stored place bytes) done rest = rest
    one (marks.Sent source target index request bytes) done rest = rest
    one (marks.Lost target index) done rest = rest
    one (marks.Arrived target index) done rest = rest
    one (marks.Dropped target cause) done rest = rest
    one (marks.Timer queue silent) done rest = rest

flag-path : (a b : Bool) → bool_eq a b ≡ true → a ≡ b
flag-path true b e = sym e
flag-path false true e = absurd (true≢false (sym e))
flag-path false false e = refl

-- of completions that all go, or all do not, where they are of one side
side-goes : (q : QueuePair) (k : ℕ) (b : Bool) (cs : List Completion) → (if b then q.recv_cq == k else q.send_cq == k) ≡ true → AllByRecursion (λ c. c.queue ≡ q.queue) cs
    → places_of_side q.queue b (filter (goes_to q k) cs) ≡ map (λ c. c.place) (filter (λ c. bool_eq c.receive b) cs)
side-goes q k b [] go all = refl
side-goes q k b (c ∷ cs) go all = by (bool_eq c.receive b) refl (goes_to q k c) refl (side-goes q k b cs go all.1)
  where
    by : (z : Bool) → bool_eq c.receive b ≡ z → (g : Bool) → goes_to q k c ≡ g
        → places_of_side q.queue b (filter (goes_to q k) cs) ≡ map (λ c. c.place) (filter (λ c. bool_eq c.receive b) cs)
        → places_of_side q.queue b (if g then c ∷ filter (goes_to q k) cs else filter (goes_to q k) cs)
        ≡ map (λ c. c.place) (if z then c ∷ filter (λ c. bool_eq c.receive b) cs else filter (λ c. bool_eq c.receive b) cs)
    by true e true g rest = side-head q.queue b c (filter (goes_to q k) cs) (ap₂ (λ x y. x && y) (ap (λ n. queue_eq n q.queue) all.0 ∙ queue-refl q.queue) e) ∙ ap (λ xs. c.place ∷ xs) rest
    by true e false g rest = absurd (true≢false (sym go ∙ (ap (λ r. if r then q.recv_cq == k else q.send_cq == k) (sym (flag-path c.receive b e)) ∙ g)))
    by false e true g rest = side-skip q.queue b c (filter (goes_to q k) cs) (ap₂ (λ x y. x && y) (ap (λ n. queue_eq n q.queue) all.0 ∙ queue-refl q.queue) e) ∙ rest
    by false e false g rest = rest

side-stays : (q : QueuePair) (k : ℕ) (b : Bool) (cs : List Completion) → (if b then q.recv_cq == k else q.send_cq == k) ≡ false
    → places_of_side q.queue b (filter (goes_to q k) cs) ≡ []
side-stays q k b [] go = refl
side-stays q k b (c ∷ cs) go = by (bool_eq c.receive b) refl (goes_to q k c) refl (side-stays q k b cs go)
  where
    by : (z : Bool) → bool_eq c.receive b ≡ z → (g : Bool) → goes_to q k c ≡ g → places_of_side q.queue b (filter (goes_to q k) cs) ≡ []
        → places_of_side q.queue b (if g then c ∷ filter (goes_to q k) cs else filter (goes_to q k) cs) ≡ []
    by true e true g rest = absurd (true≢false (sym (sym go ∙ (ap (λ r. if r then q.recv_cq == k else q.send_cq == k) (sym (flag-path c.receive b e)) ∙ g))))
    by false e true g rest = side-skip q.queue b c (filter (goes_to q k) cs) (ap₂ (λ x y. x && y) refl e ∙ last (queue_eq c.queue q.queue)) ∙ rest
      where
        last : (b : Bool) → (b && false) ≡ false
        last true = refl
        last false = refl
    by z e false g rest = rest

-- places that grew by what completes, or did not
abbrev pub Grows : QueueId → Bool → List Mark → List Completion → List Completion → Type 0
Grows n b ms before now =
    (places_of_side n b now ≡ places_of_side n b before ++ places_done b ms) ⊎ (places_of_side n b now ≡ places_of_side n b before)

pub puts-grow : (q : QueuePair) (k : ℕ) (b : Bool) (ms : List Mark) (xs : List Completion) → AllByRecursion (λ c. c.queue ≡ q.queue) (completions_in ms)
    → Grows q.queue b ms xs (xs ++ completions_to q k ms)
puts-grow q k b ms xs all = by (if b then q.recv_cq == k else q.send_cq == k) refl
  where
    joined : (ys : List ℕ) → places_of_side q.queue b (filter (goes_to q k) (completions_in ms)) ≡ ys → places_of_side q.queue b (xs ++ completions_to q k ms) ≡ places_of_side q.queue b xs ++ ys
    joined ys e = side-append q.queue b xs (completions_to q k ms) ∙ ap (λ zs. places_of_side q.queue b xs ++ zs) (ap (places_of_side q.queue b) (to-filter q k ms) ∙ e)

    by : (z : Bool) → (if b then q.recv_cq == k else q.send_cq == k) ≡ z → Grows q.queue b ms xs (xs ++ completions_to q k ms)
    by true e = inl (joined (places_done b ms) (side-goes q k b (completions_in ms) e all))
    by false e = inr (joined [] (side-stays q k b (completions_in ms) e) ∙ append-nil (places_of_side q.queue b xs))

-- what completes of one queue pair is of no other
pub puts-apart : (q : QueuePair) (k : ℕ) (n : QueueId) (b : Bool) (ms : List Mark) (xs : List Completion) → AllByRecursion (λ c. c.queue ≡ q.queue) (completions_in ms) → queue_eq q.queue n ≡ false
    → places_of_side n b (xs ++ completions_to q k ms) ≡ places_of_side n b xs
puts-apart q k n b ms xs all other = side-append n b xs (completions_to q k ms) ∙ ap (λ zs. places_of_side n b xs ++ zs) (ap (places_of_side n b) (to-filter q k ms) ∙ side-none n b (filter (goes_to q k) (completions_in ms))
    (all-filter (λ c. is_of n b c ≡ false) (goes_to q k) (completions_in ms) (all-map (λ c. c.queue ≡ q.queue) (λ c. is_of n b c ≡ false) (λ c e. ap (λ m. queue_eq m n && bool_eq c.receive b) e ∙ ap (λ z. z && bool_eq c.receive b) other) (completions_in ms) all)))
    ∙ append-nil (places_of_side n b xs)

-- the same in a completion queue that may be there
pub queue-grows : (q : QueuePair) (k : ℕ) (b : Bool) (ms : List Mark) (o : Option CompletionQueue) → AllByRecursion (λ c. c.queue ≡ q.queue) (completions_in ms)
    → Grows q.queue b ms (option_map_or (λ v. v.waiting) o []) (option_map_or (λ v. v.waiting) (option_map (after_puts (completions_to q k ms)) o) [])
queue-grows q k b ms None all = inr refl
queue-grows q k b ms (Some v) all = puts-grow q k b ms v.waiting all

pub queue-apart : (q : QueuePair) (k : ℕ) (n : QueueId) (b : Bool) (ms : List Mark) (o : Option CompletionQueue) → AllByRecursion (λ c. c.queue ≡ q.queue) (completions_in ms) → queue_eq q.queue n ≡ false
    → places_of_side n b (option_map_or (λ v. v.waiting) (option_map (after_puts (completions_to q k ms)) o) []) ≡ places_of_side n b (option_map_or (λ v. v.waiting) o [])
queue-apart q k n b ms None all other = refl
queue-apart q k n b ms (Some v) all other = puts-apart q k n b ms v.waiting all other

pub puts-rooms : (q : QueuePair) (k : ℕ) (ms : List Mark) (o : Option CompletionQueue) → rooms_of (option_map (after_puts (completions_to q k ms)) o) ≡ rooms_of o
puts-rooms q k ms None = refl
puts-rooms q k ms (Some v) = refl

-- places without some in the middle
held-without : (holder : Holder) (n : QueueId) (t : Slot) (taken xs ys zs : List ℕ) → AreHeld holder n t taken (xs ++ (ys ++ zs)) → AreHeld holder n t taken (xs ++ zs)
held-without holder n t taken xs ys zs held = (distinct xs held.0, all xs held.1)
  where
    P : ℕ → Type 0
    P x = (is_in x taken ≡ true) × (holder t x ≡ n)

    apart : (b c d e : Bool) → (b || c) ≡ false → c ≡ (d || e) → (b || e) ≡ false
    apart true c d e none two = none
    apart false c true e none two = absurd (true≢false (sym two ∙ none))
    apart false c false e none two = sym two ∙ none

    distinct : (xs : List ℕ) → AreDistinct (xs ++ (ys ++ zs)) → AreDistinct (xs ++ zs)
    distinct [] d = distinct-behind ys zs d
    distinct (x ∷ xs) d = (
      in-append x xs zs ∙ apart (is_in x xs) (is_in x (ys ++ zs)) (is_in x ys) (is_in x zs) (sym (in-append x xs (ys ++ zs)) ∙ d.0) (in-append x ys zs),
      distinct xs d.1,
    )

    all : (xs : List ℕ) → AllByRecursion P (xs ++ (ys ++ zs)) → AllByRecursion P (xs ++ zs)
    all [] h = all-behind P ys zs h
    all (x ∷ xs) h = (h.0, all xs h.1)

-- A queue pair that goes on in order, with what completes put into its completion queues, or left out, is in place again;
-- `new` is what it takes of a shared receive queue.
pub advanced : (cq now : Slot → Option CompletionQueue) (srq srq' : Slot → SrqSlot) (holder after : Holder) (q : QueuePair) (e : Effects) (new : List ℕ) → IsLater q e.queue → IsInOrder q e
    → ((s : Slot) (b : Bool) → Grows q.queue b e.marks (waits_in cq s) (waits_in now s))
    → IfSome q.srq (λ t. (places_done true e.marks ++ places_in_use e.queue.responder.message ≡ places_in_use q.responder.message ++ new)
    × AreHeld after q.queue (srq_of q t) (taken_in (srq' (srq_of q t))) (places_kept cq q ++ new))
    → IsInPlace cq srq holder q → IsInPlace now srq' after e.queue
advanced cq now srq srq' holder after q e new later order grows kept place = record {
  sends = subst (λ n. Ascend e.queue.sends.first e.queue.requester.oldest (places_of_side n false (waits_in now (send_cq_of e.queue)))) (sym later.queue)
      (subst (λ t. Ascend e.queue.sends.first e.queue.requester.oldest (places_of_side q.queue false (waits_in now t))) (sym send_slot)
      (subst (λ s. Ascend s.first e.queue.requester.oldest (places_of_side q.queue false (waits_in now (send_cq_of q)))) (sym order.sends)
      (sends (grows (send_cq_of q) false))));
  receives = subst (λ n. IfSome e.queue.receives (λ r. Ascend r.first (first_held r e.queue.responder.message) (places_of_side n true (waits_in now (recv_cq_of e.queue))))) (sym later.queue)
      (subst (λ t. IfSome e.queue.receives (λ r. Ascend r.first (first_held r e.queue.responder.message) (places_of_side q.queue true (waits_in now t)))) (sym recv_slot)
      (receives q.receives e.queue.receives place.receives order.own));
  shared = shared q.srq e.queue.srq later.srq kept;
}
  where
    send_slot : send_cq_of e.queue ≡ send_cq_of q
    send_slot = ap₂ (λ (d : DomainId) k. record { domain = d; slot = k }) later.domain later.send_cq

    recv_slot : recv_cq_of e.queue ≡ recv_cq_of q
    recv_slot = ap₂ (λ (d : DomainId) k. record { domain = d; slot = k }) later.domain later.recv_cq

    join : (b : Bool) (low mid high : ℕ) (before now : List Completion) → Grows q.queue b e.marks before now → Ascend low mid (places_of_side q.queue b before) → Ascend mid high (places_done b e.marks)
        → Ascend low high (places_of_side q.queue b now)
    join b low mid high before now (inl same) one other = subst (Ascend low high) (sym same) (ascend-append low mid high (places_of_side q.queue b before) (places_done b e.marks) one other)
    join b low mid high before now (inr same) one other = subst (Ascend low high) (sym same) (ascend-higher low mid high (places_of_side q.queue b before) (ascend-bounds mid high (places_done b e.marks) other) one)

    sends : Grows q.queue false e.marks (waits_in cq (send_cq_of q)) (waits_in now (send_cq_of q)) → Ascend q.sends.first e.queue.requester.oldest (places_of_side q.queue false (waits_in now (send_cq_of q)))
    sends g = join false q.sends.first q.requester.oldest e.queue.requester.oldest (waits_in cq (send_cq_of q)) (waits_in now (send_cq_of q)) g place.sends order.done

    receives : (a b : Option (WorkQueue RecvRequest)) → IfSome a (λ r. Ascend r.first (first_held r q.responder.message) (places_of_side q.queue true (waits_in cq (recv_cq_of q))))
        → AreTakenInOrder a b q.responder.message e.queue.responder.message e.marks
        → IfSome b (λ r. Ascend r.first (first_held r e.queue.responder.message) (places_of_side q.queue true (waits_in now (recv_cq_of q))))
    receives None None one own = record {}
    receives None (Some b) one own = absurd own
    receives (Some a) None one own = absurd own
    receives (Some a) (Some b) one own = subst (λ n. Ascend n (first_held b e.queue.responder.message) (places_of_side q.queue true (waits_in now (recv_cq_of q)))) (sym (ap (λ r. r.first) own.0))
        (join true a.first (first_held a q.responder.message) (first_held b e.queue.responder.message) (waits_in cq (recv_cq_of q)) (waits_in now (recv_cq_of q)) (grows (recv_cq_of q) true) one own.1)

    shared : (o p : Option ℕ) → p ≡ o → IfSome o (λ t. (places_done true e.marks ++ places_in_use e.queue.responder.message ≡ places_in_use q.responder.message ++ new)
        × AreHeld after q.queue (srq_of q t) (taken_in (srq' (srq_of q t))) (places_kept cq q ++ new))
        → IfSome p (λ t. AreHeld after e.queue.queue (srq_of e.queue t) (taken_in (srq' (srq_of e.queue t))) (places_kept now e.queue))
    shared o None same all = record {}
    shared None (Some t) same all = absurd (true≢false (ap is_some same))
    shared (Some u) (Some t) same all = subst (λ m. AreHeld after m (srq_of e.queue t) (taken_in (srq' (srq_of e.queue t))) (places_kept now e.queue)) (sym later.queue)
        (subst (λ s. AreHeld after q.queue s (taken_in (srq' s)) (places_kept now e.queue)) (sym slots)
        (subst (AreHeld after q.queue (srq_of q u) (taken_in (srq' (srq_of q u)))) (sym sides) (by (grows (recv_cq_of q) true) all)))
      where
        slots : srq_of e.queue t ≡ srq_of q u
        slots = ap₂ (λ (d : DomainId) k. record { domain = d; slot = k }) later.domain (ap (λ o. option_map_or (λ k. k) o t) same)

        sides : places_kept now e.queue ≡ places_of_side q.queue true (waits_in now (recv_cq_of q)) ++ places_in_use e.queue.responder.message
        sides = ap₂ (λ n s. places_of_side n true (waits_in now s) ++ places_in_use e.queue.responder.message) later.queue recv_slot

        before : List ℕ
        before = places_of_side q.queue true (waits_in cq (recv_cq_of q))

        by : Grows q.queue true e.marks (waits_in cq (recv_cq_of q)) (waits_in now (recv_cq_of q)) → (places_done true e.marks ++ places_in_use e.queue.responder.message ≡ places_in_use q.responder.message ++ new)
            × AreHeld after q.queue (srq_of q u) (taken_in (srq' (srq_of q u))) (places_kept cq q ++ new)
            → AreHeld after q.queue (srq_of q u) (taken_in (srq' (srq_of q u))) (places_of_side q.queue true (waits_in now (recv_cq_of q)) ++ places_in_use e.queue.responder.message)
        by g all = at g
          where
            whole : AreHeld after q.queue (srq_of q u) (taken_in (srq' (srq_of q u))) (before ++ (places_done true e.marks ++ places_in_use e.queue.responder.message))
            whole = subst (AreHeld after q.queue (srq_of q u) (taken_in (srq' (srq_of q u)))) (append_assoc before (places_in_use q.responder.message) new ∙ ap (λ zs. before ++ zs) (sym all.0)) all.1

            at : Grows q.queue true e.marks (waits_in cq (recv_cq_of q)) (waits_in now (recv_cq_of q))
                → AreHeld after q.queue (srq_of q u) (taken_in (srq' (srq_of q u))) (places_of_side q.queue true (waits_in now (recv_cq_of q)) ++ places_in_use e.queue.responder.message)
            at (inl same) = subst (AreHeld after q.queue (srq_of q u) (taken_in (srq' (srq_of q u))))
                (sym (ap (λ xs. xs ++ places_in_use e.queue.responder.message) same ∙ append_assoc before (places_done true e.marks) (places_in_use e.queue.responder.message))) whole
            at (inr same) = subst (AreHeld after q.queue (srq_of q u) (taken_in (srq' (srq_of q u)))) (sym (ap (λ xs. xs ++ places_in_use e.queue.responder.message) same))
                (held-without after q.queue (srq_of q u) (taken_in (srq' (srq_of q u))) before (places_done true e.marks) (places_in_use e.queue.responder.message) whole)

same-put : (u v : World) (n : Name) (t : Thing n) → SameQueues u v → SameQueues (put u n t) (put v n t)
same-put u v (Queue_of q) t same = record { queue = ap (λ f. with_at queue_eq f q t) same.queue; cq = same.cq; srq = same.srq }
same-put u v (Cq_of s) t same = record { queue = same.queue; cq = ap (λ f. with_at slot_eq f s t) same.cq; srq = same.srq }
same-put u v (Srq_of s) t same = record { queue = same.queue; cq = same.cq; srq = ap (λ f. with_at slot_eq f s t) same.srq }
same-put u v (Domain_of d) t same = record { queue = same.queue; cq = same.cq; srq = same.srq }
same-put u v (Region_of s) t same = record { queue = same.queue; cq = same.cq; srq = same.srq }
same-put u v (Window_of s) t same = record { queue = same.queue; cq = same.cq; srq = same.srq }
same-put u v (Mailbox_of q) t same = record { queue = same.queue; cq = same.cq; srq = same.srq }
same-put u v (Byte_at p) t same = record { queue = same.queue; cq = same.cq; srq = same.srq }

pub same-puts : (xs : List Update) (u v : World) → SameQueues u v → SameQueues (put_all xs u) (put_all xs v)
same-puts [] u v same = same
same-puts (x ∷ xs) u v same = same-puts xs (put u x.name x.thing) (put v x.name x.thing) (same-put u v x.name x.thing same)

-- one change aside comes first
pub room-first : (n : Name) (t : Thing n) (xs : List Update) (w : World) → IsAsideName n → HasRoom (put_all xs w) → HasRoom (put_all xs (put w n t))
room-first n t xs w aside room = same-room (put_all xs w) (put_all xs (put w n t)) (same-puts xs w (put w n t) (aside-put w w n t aside (same-queues w))) room
