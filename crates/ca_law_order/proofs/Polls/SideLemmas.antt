-- Completions by the completion queue to which they go, and marks that tell of the completions of one queue pair. For
-- proofs only.
use Rattle.std.proofs.Common.{◌≡◌, ℕ, ◌==◌, ◌&&◌, Bool, true, false, if◌then◌else◌, List, [], ◌∷◌, ◌++◌, filter, Option, None, Some, refl, sym, ap, ap₂, ◌∙◌}
use Rattle.std.proofs.lemmas.List.{append-nil}
use Rattle.std.proofs.lemmas.List.Elements.{filter-append}
use Rattle.std.specs.List.{AllByRecursion}
use Rattle.std.specs.Option.{option_map, option_map_or}
use Rattle.ca_law_endings.proofs.InnerLemmas.{AreOwn, IsOwnMark}
use Rattle.ca_law_order.specs.Polls.{sides_of}
use Rattle.ca_base.specs.declared.completion.Completion.{Completion}
use Rattle.ca_base.specs.declared.correspondent.Correspondent.{Correspondent}
use Rattle.ca_base.specs.declared.lot.Lot.{Lot}
use Rattle.ca_base.specs.objects.CompletionQueue.{CompletionQueue, after_puts}
use Rattle.ca_base.specs.objects.Mailbox.{Mailbox, is_lost}
use Rattle.ca_base.specs.objects.QueuePair.{QueuePair, recv_cq_of, send_cq_of}
use Rattle.ca_keys.specs.Equal.{slot_eq}
use Rattle.ca_keys.specs.declared.names.QueueId.{QueueId}
use Rattle.ca_keys.specs.declared.names.Slot.{Slot}
use Rattle.ca_law_world.proofs.Sound.GoodLemmas.{AreSettledMarks, IsSettledMark}
use Rattle.ca_law_world.proofs.Sound.OrderLemmas.{completions-append}
use Rattle.ca_law_world.proofs.Sound.SettledLemmas.{domain-refl, slot-path}
use Rattle.ca_model.specs.Past.{with_at}
use Rattle.ca_model.specs.declared.mark.Mark.{Mark}
use Rattle.ca_model.specs.declared.mark.Mark.TheVariants as marks
use Rattle.ca_model.specs.machine.Around.{completions_to}
use Rattle.ca_model.specs.machine.Places.{completions_in}
use Rattle.ca_model.specs.machine.Turns.{Packet, reaches_peer, sent_marks}

-- ---- completions

-- the completion queue of a completion, of a queue pair with these
abbrev pub side_in : Slot × Slot → Bool → Slot
side_in sides receive = if receive then sides.1 else sides.0

-- those of these completions that go to a completion queue
abbrev pub goes_to : Slot × Slot → Slot → List Completion → List Completion
goes_to sides s cs = filter (λ c. slot_eq (side_in sides c.receive) s) cs

pub filter-none : {A : Type 0} (test : A → Bool) (xs : List A) → AllByRecursion (λ x. test x ≡ false) xs → filter test xs ≡ []
filter-none test [] all = refl
filter-none test (x ∷ xs) all = ap (λ b. if b then x ∷ filter test xs else filter test xs) all.0 ∙ filter-none test xs all.1

pub filter-whole : {A : Type 0} (test : A → Bool) (xs : List A) → AllByRecursion (λ x. test x ≡ true) xs → filter test xs ≡ xs
filter-whole test [] all = refl
filter-whole test (x ∷ xs) all = ap (λ b. if b then x ∷ filter test xs else filter test xs) all.0 ∙ ap (λ ys. x ∷ ys) (filter-whole test xs all.1)

-- none goes to a completion queue that is neither
pub goes-nowhere : (sides : Slot × Slot) (s : Slot) (cs : List Completion) → slot_eq sides.0 s ≡ false → slot_eq sides.1 s ≡ false → goes_to sides s cs ≡ []
goes-nowhere sides s cs send recv = filter-none (λ c. slot_eq (side_in sides c.receive) s) cs (all cs)
  where
    one : (b : Bool) → slot_eq (side_in sides b) s ≡ false
    one true = recv
    one false = send

    all : (cs : List Completion) → AllByRecursion (λ c. slot_eq (side_in sides c.receive) s ≡ false) cs
    all [] = record {}
    all (c ∷ cs) = (one c.receive, all cs)

-- where all are of one side, none goes to another completion queue
pub goes-aside : (sides : Slot × Slot) (s : Slot) (b : Bool) (cs : List Completion) → AllByRecursion (λ c. c.receive ≡ b) cs → slot_eq (side_in sides b) s ≡ false → goes_to sides s cs ≡ []
goes-aside sides s b cs side other = filter-none (λ c. slot_eq (side_in sides c.receive) s) cs (all cs side)
  where
    all : (cs : List Completion) → AllByRecursion (λ c. c.receive ≡ b) cs → AllByRecursion (λ c. slot_eq (side_in sides c.receive) s ≡ false) cs
    all [] side = record {}
    all (c ∷ cs) side = (ap (λ r. slot_eq (side_in sides r) s) side.0 ∙ other, all cs side.1)

-- nothing is put
pub puts-none : (o : Option CompletionQueue) → option_map (after_puts []) o ≡ o
puts-none None = refl
puts-none (Some v) = λ i. Some (record v { waiting = append-nil v.waiting i })

-- what goes to a completion queue by its number
pub to-goes : (q : QueuePair) (k : ℕ) (ms : List Mark) → completions_to q k ms ≡ goes_to (sides_of q) (record { domain = q.domain; slot = k }) (completions_in ms)
to-goes q k [] = refl
to-goes q k (m ∷ ms) = one m (to-goes q k ms) ∙ sym (filter-append (λ c. slot_eq (side_in (sides_of q) c.receive) at) (done m) (completions_in ms))
  where
    at : Slot
    at = record { domain = q.domain; slot = k }

    done : Mark → List Completion
    done (marks.Done queue c cause) = c ∷ []
    done m = []

    goes : Completion → Bool
    goes c = if c.receive then q.recv_cq == k else q.send_cq == k

    by : Mark → List Completion
    by (marks.Done queue c cause) = if goes c then c ∷ [] else []
    by m = []

    side : (b : Bool) → (if b then q.recv_cq == k else q.send_cq == k) ≡ slot_eq (side_in (sides_of q) b) at
    side true = sym (ap (λ b. b && (q.recv_cq == k)) (domain-refl q.domain))
    side false = sym (ap (λ b. b && (q.send_cq == k)) (domain-refl q.domain))

    one : (m : Mark) → completions_to q k ms ≡ goes_to (sides_of q) at (completions_in ms) → by m ++ completions_to q k ms ≡ goes_to (sides_of q) at (done m) ++ goes_to (sides_of q) at (completions_in ms)
    one (marks.Done queue c cause) rest = ap₂ (λ b xs. (if b then c ∷ [] else []) ++ xs) (side c.receive) rest
    one (marks.Verb by' verb answer) rest = rest
    one (marks.Granted g) rest = rest
    one (marks.Revoked adapter key) rest = rest
    one (marks.Remote queue domain envelope key kind address count verdict) rest = rest
    one (marks.Local queue domain key kind address count verdict) rest = rest
    one (marks.Stored place bytes) rest = rest
    one (marks.Sent source target index request bytes) rest = rest
    one (marks.Lost target index) rest = rest
    one (marks.Arrived target index) rest = rest
    one (marks.Dropped target cause) rest = rest
    one (marks.Timer queue silent) rest = rest

-- the completion queues of a queue pair with what completed, each with what goes to it
pub puts-both : (cq : Slot → Option CompletionQueue) (q : QueuePair) (ms : List Mark) (s : Slot)
    → with_at slot_eq (with_at slot_eq cq (send_cq_of q) (option_map (after_puts (completions_to q q.send_cq ms)) (cq (send_cq_of q))))
    (recv_cq_of q) (option_map (after_puts (completions_to q q.recv_cq ms)) (cq (recv_cq_of q))) s
    ≡ option_map (after_puts (goes_to (sides_of q) s (completions_in ms))) (cq s)
puts-both cq q ms s = by (slot_eq (recv_cq_of q) s) refl (slot_eq (send_cq_of q) s) refl
  where
    put : ℕ → Option CompletionQueue
    put k = option_map (after_puts (completions_to q k ms)) (cq (record { domain = q.domain; slot = k }))

    Goes : Slot → Option CompletionQueue
    Goes s = option_map (after_puts (goes_to (sides_of q) s (completions_in ms))) (cq s)

    at : (k : ℕ) → slot_eq (record { domain = q.domain; slot = k }) s ≡ true → put k ≡ Goes s
    at k e = ap (λ cs. option_map (after_puts cs) (cq (record { domain = q.domain; slot = k }))) (to-goes q k ms)
        ∙ ap Goes (slot-path (record { domain = q.domain; slot = k }) s e)

    by : (b : Bool) → slot_eq (recv_cq_of q) s ≡ b → (z : Bool) → slot_eq (send_cq_of q) s ≡ z → (if b then put q.recv_cq else if z then put q.send_cq else cq s) ≡ Goes s
    by true e z f = at q.recv_cq e
    by false e true f = at q.send_cq f
    by false e false f = sym (ap (λ cs. option_map (after_puts cs) (cq s)) (goes-nowhere (sides_of q) s (completions_in ms) f e) ∙ puts-none (cq s))

-- the one completion queue of a side with what completed, where all of it is of this side
pub puts-one : (cq : Slot → Option CompletionQueue) (q : QueuePair) (b : Bool) (k : ℕ) (ms : List Mark) (s : Slot) → side_in (sides_of q) b ≡ record { domain = q.domain; slot = k }
    → AllByRecursion (λ c. c.receive ≡ b) (completions_in ms)
    → with_at slot_eq cq (record { domain = q.domain; slot = k }) (option_map (after_puts (completions_to q k ms)) (cq (record { domain = q.domain; slot = k }))) s
    ≡ option_map (after_puts (goes_to (sides_of q) s (completions_in ms))) (cq s)
puts-one cq q b k ms s own side = by (slot_eq at s) refl
  where
    at : Slot
    at = record { domain = q.domain; slot = k }

    Goes : Slot → Option CompletionQueue
    Goes s = option_map (after_puts (goes_to (sides_of q) s (completions_in ms))) (cq s)

    by : (z : Bool) → slot_eq at s ≡ z → (if z then option_map (after_puts (completions_to q k ms)) (cq at) else cq s) ≡ Goes s
    by true e = ap (λ cs. option_map (after_puts cs) (cq at)) (to-goes q k ms) ∙ ap Goes (slot-path at s e)
    by false e = sym (ap (λ cs. option_map (after_puts cs) (cq s)) (goes-aside (sides_of q) s b (completions_in ms) side (ap (λ t. slot_eq t s) own ∙ e)) ∙ puts-none (cq s))

-- ---- marks

-- a mark of one queue pair: no answer, and a completion of it
abbrev pub IsOf : QueueId → Mark → Type 0
IsOf name (marks.Verb by verb answer) = ⊥
IsOf name (marks.Done queue x cause) = x.queue ≡ name
IsOf name m = Unit {0}

abbrev pub AreOf : QueueId → List Mark → Type 0
AreOf name [] = Unit {0}
AreOf name (m ∷ ms) = IsOf name m × AreOf name ms

pub of-append : (name : QueueId) (ms ns : List Mark) → AreOf name ms → AreOf name ns → AreOf name (ms ++ ns)
of-append name [] ns one other = other
of-append name (m ∷ ms) ns one other = (one.0, of-append name ms ns one.1 other)

-- the marks of a row are of its queue pair
pub own-of : (p : QueuePair) (name : QueueId) (ms : List Mark) → p.queue ≡ name → AreOwn ms → AreSettledMarks p ms → AreOf name ms
own-of p name [] same own settled = record {}
own-of p name (m ∷ ms) same own settled = (one m own.0 settled.0, own-of p name ms same own.1 settled.1)
  where
    one : (m : Mark) → IsOwnMark m → IsSettledMark p m → IsOf name m
    one (marks.Verb by verb answer) own settled = own
    one (marks.Done queue x cause) own settled = settled.0 ∙ same
    one (marks.Granted g) own settled = record {}
    one (marks.Revoked adapter key) own settled = record {}
    one (marks.Remote queue domain envelope key kind address count verdict) own settled = record {}
    one (marks.Local queue domain key kind address count verdict) own settled = record {}
    one (marks.Stored place bytes) own settled = record {}
    one (marks.Sent source target index request bytes) own settled = record {}
    one (marks.Lost target index) own settled = record {}
    one (marks.Arrived target index) own settled = record {}
    one (marks.Dropped target cause) own settled = record {}
    one (marks.Timer queue silent) own settled = record {}

-- those of a packet that is sent tell of no completion
pub sent-of : (name : QueueId) (q : QueuePair) (peer : Correspondent) (m : Mailbox) (lot : Lot) (o : Option Packet)
    → AreOf name (option_map_or (sent_marks q peer m lot) o []) × (completions_in (option_map_or (sent_marks q peer m lot) o []) ≡ [])
sent-of name q peer m lot None = (record {}, refl)
sent-of name q peer m lot (Some x) = by (reaches_peer q peer m) (is_lost lot)
  where
    told : Bool → Bool → List Mark
    told b z =
        if b then marks.Sent q.queue peer.queue (Some m.next) x.request x.bytes ∷ (if z then marks.Lost peer.queue (Some m.next) ∷ [] else [])
        else marks.Sent q.queue peer.queue None x.request x.bytes ∷ marks.Lost peer.queue None ∷ []

    by : (b z : Bool) → AreOf name (told b z) × (completions_in (told b z) ≡ [])
    by true true = ((record {}, (record {}, record {})), refl)
    by true false = ((record {}, record {}), refl)
    by false z = ((record {}, (record {}, record {})), refl)

-- marks behind those of a row, which tell of no completion
pub done-behind : (ms ns : List Mark) → completions_in ns ≡ [] → completions_in (ms ++ ns) ≡ completions_in ms
done-behind ms ns none = completions-append ms ns ∙ ap (λ cs. completions_in ms ++ cs) none ∙ append-nil (completions_in ms)
