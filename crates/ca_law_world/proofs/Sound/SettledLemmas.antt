-- Completions that wait stay settled: where a queue pair goes on, where it is emptied, and where others change.
use Rattle.std.proofs.Common.{◌≡◌, ℕ, Bool, true, false, List, [], ◌∷◌, ◌++◌, filter, Option, None, Some, IfSome, subst, ◌∙◌, ◌&&◌, ◌==◌, not, ap, ap₂, sym, true≢false, if◌then◌else◌, refl}
use Rattle.std.proofs.lemmas.Bool.{and_parts, eq-eqb, eqb-true, not-true}
use Rattle.std.specs.List.{AllByRecursion}
use Rattle.std.specs.Option.{option_map}
use Rattle.ca_base.specs.declared.completion.Completion.{Completion}
use Rattle.ca_keys.specs.declared.names.DomainId.{DomainId}
use Rattle.ca_keys.specs.declared.names.QueueId.{QueueId}
use Rattle.ca_keys.specs.declared.names.Slot.{Slot}
use Rattle.ca_keys.specs.Equal.{domain_eq, queue_eq, slot_eq}
use Rattle.ca_base.specs.objects.CompletionQueue.{CompletionQueue, after_puts, without_completions}
use Rattle.ca_base.specs.objects.QueuePair.{QueuePair, QueueSlot, NoQueue, Present, recv_cq_of, send_cq_of}
use Rattle.ca_model.specs.declared.mark.Mark.{Mark}
use Rattle.ca_model.specs.declared.mark.Mark.TheVariants as marks
use Rattle.ca_model.specs.Past.{with_at}
use Rattle.ca_model.specs.machine.Around.{completions_to}
use Rattle.ca_model.specs.machine.Sound.{AreSettled, IsFinished, IsSettled, side_of}
use Rattle.ca_law_world.proofs.Sound.GoodLemmas.{AreSettledMarks, IsSettledMark, IsLater, finished-later}

pub queue-path : (a b : QueueId) → queue_eq a b ≡ true → a ≡ b
queue-path a b same = by (and_parts (a.adapter == b.adapter) (a.number == b.number) same)
  where
    by : ((a.adapter == b.adapter) ≡ true) × ((a.number == b.number) ≡ true) → a ≡ b
    by parts = λ i. record { adapter = eqb-true a.adapter b.adapter parts.0 i; number = eqb-true a.number b.number parts.1 i }

pub queue-refl : (a : QueueId) → queue_eq a a ≡ true
queue-refl a = ap₂ (λ x y. x && y) (eq-eqb a.adapter a.adapter refl) (eq-eqb a.number a.number refl)

pub domain-refl : (a : DomainId) → domain_eq a a ≡ true
domain-refl a = ap₂ (λ x y. x && y) (eq-eqb a.adapter a.adapter refl) (eq-eqb a.domain a.domain refl)

pub slot-refl : (a : Slot) → slot_eq a a ≡ true
slot-refl a = ap₂ (λ x y. x && y) (domain-refl a.domain) (eq-eqb a.slot a.slot refl)

pub slot-path : (s m : Slot) → slot_eq s m ≡ true → s ≡ m
slot-path s m same = by (and_parts (domain_eq s.domain m.domain) (s.slot == m.slot) same)
  where
    at : (domain_eq s.domain m.domain ≡ true) × ((s.slot == m.slot) ≡ true)
        → ((s.domain.adapter == m.domain.adapter) ≡ true) × ((s.domain.domain == m.domain.domain) ≡ true) → s ≡ m
    at both parts = λ i. record {
      domain = record {
        adapter = eqb-true s.domain.adapter m.domain.adapter parts.0 i;
        domain = eqb-true s.domain.domain m.domain.domain parts.1 i;
      };
      slot = eqb-true s.slot m.slot both.1 i;
    }

    by : (domain_eq s.domain m.domain ≡ true) × ((s.slot == m.slot) ≡ true) → s ≡ m
    by both = at both (and_parts (s.domain.adapter == m.domain.adapter) (s.domain.domain == m.domain.domain) both.0)

-- the sides of a queue pair stay
side-later : (q p : QueuePair) (receive : Bool) → IsLater q p → side_of p receive ≡ side_of q receive
side-later q p true later = ap₂ (λ d s. record { domain = d; slot = s }) later.domain later.recv_cq
side-later q p false later = ap₂ (λ d s. record { domain = d; slot = s }) later.domain later.send_cq

pub settled-on : (s : Slot) (q p : QueuePair) (x : Completion) → IsLater q p → IsSettled s (Present q) x → IsSettled s (Present p) x
settled-on s q p x later done = (ap (λ t. slot_eq t s) (side-later q p x.receive later) ∙ done.0, finished-later q p x.receive x.place later done.1)

-- what holds of each completion in a queue, or of no queue
abbrev pub AllWait : (Completion → Type 0) → Option CompletionQueue → Type 0
AllWait P v = IfSome v (λ q. AllByRecursion P q.waiting)

pub all-map : {A : Type 0} (P Q : A → Type 0) → ((x : A) → P x → Q x) → (xs : List A) → AllByRecursion P xs → AllByRecursion Q xs
all-map P Q f [] all = record {}
all-map P Q f (x ∷ xs) all = (f x all.0, all-map P Q f xs all.1)

pub wait-map : (P Q : Completion → Type 0) → ((x : Completion) → P x → Q x) → (v : Option CompletionQueue) → AllWait P v → AllWait Q v
wait-map P Q f None all = record {}
wait-map P Q f (Some q) all = all-map P Q f q.waiting all

-- a queue pair under its name goes on
pub queue-on : (queue : QueueId → QueueSlot) (q p : QueuePair) (name : QueueId) (s : Slot) (x : Completion) → queue name ≡ Present q → IsLater q p
    → IsSettled s (queue x.queue) x → IsSettled s (with_at queue_eq queue name (Present p) x.queue) x
queue-on queue q p name s x is later done = by (queue_eq name x.queue) refl
  where
    by : (b : Bool) → queue_eq name x.queue ≡ b → IsSettled s (if b then Present p else queue x.queue) x
    by true e = settled-on s q p x later (subst (λ t. IsSettled s t x) (ap queue (sym (queue-path name x.queue e)) ∙ is) done)
    by false e = done

-- the completions among marks that go to a completion queue of its domain are settled there
marks-settled : (queue : QueueId → QueueSlot) (q p : QueuePair) (cq : ℕ) (ms : List Mark) → IsLater q p → AreSettledMarks p ms
    → AllByRecursion (λ x. IsSettled (record { domain = q.domain; slot = cq }) (with_at queue_eq queue q.queue (Present p) x.queue) x) (completions_to q cq ms)
marks-settled queue q p cq [] later all = record {}
marks-settled queue q p cq (m ∷ ms) later all = append (by m) (completions_to q cq ms) (one m all.0) (marks-settled queue q p cq ms later all.1)
  where
    at : Slot
    at = record { domain = q.domain; slot = cq }

    Settles : Completion → Type 0
    Settles x = IsSettled at (with_at queue_eq queue q.queue (Present p) x.queue) x

    goes : Completion → Bool
    goes c = if c.receive then q.recv_cq == cq else q.send_cq == cq

    by : Mark → List Completion
    by (marks.Done queue c cause) = if goes c then c ∷ [] else []
    by m = []

    append : (xs ys : List Completion) → AllByRecursion Settles xs → AllByRecursion Settles ys → AllByRecursion Settles (xs ++ ys)
    append [] ys one other = other
    append (x ∷ xs) ys one other = (one.0, append xs ys one.1 other)

    there : (x : Completion) → queue_eq q.queue x.queue ≡ true → (receive : Bool) → x.receive ≡ receive
        → (if receive then q.recv_cq == cq else q.send_cq == cq) ≡ true → IsFinished p receive x.place → (b : Bool) → queue_eq q.queue x.queue ≡ b
        → IsSettled at (if b then Present p else queue x.queue) x
    there x same receive is to finished false e = absurd (true≢false (sym same ∙ e))
    there x same true is to finished true e = (
      ap (λ r. slot_eq (side_of p r) at) is ∙ ap (λ t. slot_eq t at) (side-later q p true later) ∙ ap₂ (λ a b. a && b) (domain-refl q.domain) to,
      subst (λ r. IsFinished p r x.place) (sym is) finished,
    )
    there x same false is to finished true e = (
      ap (λ r. slot_eq (side_of p r) at) is ∙ ap (λ t. slot_eq t at) (side-later q p false later) ∙ ap₂ (λ a b. a && b) (domain-refl q.domain) to,
      subst (λ r. IsFinished p r x.place) (sym is) finished,
    )

    done : (x : Completion) → x.queue ≡ p.queue → IsFinished p x.receive x.place → (b : Bool) → goes x ≡ b → AllByRecursion Settles (if b then x ∷ [] else [])
    done x same finished false e = record {}
    done x same finished true e =
        (there x (ap (λ t. queue_eq q.queue t) (same ∙ later.queue) ∙ queue-refl q.queue) x.receive refl e finished (queue_eq q.queue x.queue) refl, record {})

    one : (m : Mark) → IsSettledMark p m → AllByRecursion Settles (by m)
    one (marks.Done queue x cause) settled = done x settled.0 settled.1 (goes x) refl
    one (marks.Verb by verb answer) settled = record {}
    one (marks.Granted g) settled = record {}
    one (marks.Revoked adapter key) settled = record {}
    one (marks.Remote queue domain envelope key kind address count verdict) settled = record {}
    one (marks.Local queue domain key kind address count verdict) settled = record {}
    one (marks.Stored place bytes) settled = record {}
    one (marks.Sent source target index request bytes) settled = record {}
    one (marks.Lost target index) settled = record {}
    one (marks.Arrived target index) settled = record {}
    one (marks.Dropped target cause) settled = record {}
    one (marks.Timer queue silent) settled = record {}

pub append-all : {A : Type 0} (P : A → Type 0) (xs ys : List A) → AllByRecursion P xs → AllByRecursion P ys → AllByRecursion P (xs ++ ys)
append-all P [] ys one other = other
append-all P (x ∷ xs) ys one other = (one.0, append-all P xs ys one.1 other)

-- a queue pair goes on, and its completion queues have what completed
pub turn-settled : (queue : QueueId → QueueSlot) (cq : Slot → Option CompletionQueue) (q p : QueuePair) (ms : List Mark) → AreSettled queue cq
    → queue q.queue ≡ Present q → IsLater q p → AreSettledMarks p ms
    → AreSettled (with_at queue_eq queue q.queue (Present p))
    (with_at slot_eq (with_at slot_eq cq (send_cq_of q) (option_map (after_puts (completions_to q q.send_cq ms)) (cq (send_cq_of q))))
    (recv_cq_of q) (option_map (after_puts (completions_to q q.recv_cq ms)) (cq (recv_cq_of q))))
turn-settled queue cq q p ms settled is later all s = by (slot_eq (recv_cq_of q) s) refl (slot_eq (send_cq_of q) s) refl
  where
    after : QueueId → QueueSlot
    after = with_at queue_eq queue q.queue (Present p)

    put : (k : ℕ) → Option CompletionQueue
    put k = option_map (after_puts (completions_to q k ms)) (cq (record { domain = q.domain; slot = k }))

    old : (s : Slot) → AllWait (λ x. IsSettled s (after x.queue) x) (cq s)
    old s = wait-map (λ x. IsSettled s (queue x.queue) x) (λ x. IsSettled s (after x.queue) x) (λ x done. queue-on queue q p q.queue s x is later done) (cq s) (settled s)

    more : (k : ℕ) (v : Option CompletionQueue) → AllWait (λ x. IsSettled (record { domain = q.domain; slot = k }) (after x.queue) x) v
        → AllWait (λ x. IsSettled (record { domain = q.domain; slot = k }) (after x.queue) x) (option_map (after_puts (completions_to q k ms)) v)
    more k None waits = record {}
    more k (Some v) waits = append-all (λ x. IsSettled (record { domain = q.domain; slot = k }) (after x.queue) x) v.waiting (completions_to q k ms) waits (marks-settled queue q p k ms later all)

    at : (k : ℕ) → slot_eq (record { domain = q.domain; slot = k }) s ≡ true → AllWait (λ x. IsSettled s (after x.queue) x) (put k)
    at k e = subst (λ t. AllWait (λ x. IsSettled t (after x.queue) x) (put k)) (slot-path (record { domain = q.domain; slot = k }) s e)
        (more k (cq (record { domain = q.domain; slot = k })) (old (record { domain = q.domain; slot = k })))

    by : (b : Bool) → slot_eq (recv_cq_of q) s ≡ b → (z : Bool) → slot_eq (send_cq_of q) s ≡ z
        → AllWait (λ x. IsSettled s (after x.queue) x) (if b then put q.recv_cq else if z then put q.send_cq else cq s)
    by true e z f = at q.recv_cq e
    by false e true f = at q.send_cq f
    by false e false f = old s

-- a queue pair under its name goes on, and nothing completes
pub queue-settled : (queue : QueueId → QueueSlot) (cq : Slot → Option CompletionQueue) (q p : QueuePair) (name : QueueId) → AreSettled queue cq
    → queue name ≡ Present q → IsLater q p → AreSettled (with_at queue_eq queue name (Present p)) cq
queue-settled queue cq q p name settled is later s =
    wait-map (λ x. IsSettled s (queue x.queue) x) (λ x. IsSettled s (with_at queue_eq queue name (Present p) x.queue) x) (λ x done. queue-on queue q p name s x is later done) (cq s) (settled s)

-- another completion queue in a slot, of whose completions each is settled
pub cq-settled : (queue : QueueId → QueueSlot) (cq : Slot → Option CompletionQueue) (at : Slot) (v : Option CompletionQueue) → AreSettled queue cq
    → AllWait (λ x. IsSettled at (queue x.queue) x) v → AreSettled queue (with_at slot_eq cq at v)
cq-settled queue cq at v settled all s = by (slot_eq at s) refl
  where
    by : (b : Bool) → slot_eq at s ≡ b → AllWait (λ x. IsSettled s (queue x.queue) x) (if b then v else cq s)
    by true e = subst (λ t. AllWait (λ x. IsSettled t (queue x.queue) x) v) (slot-path at s e) all
    by false e = settled s

-- what completed at one side of a queue pair, behind what waited there
pub puts-settled : (queue : QueueId → QueueSlot) (q p : QueuePair) (k : ℕ) (ms : List Mark) (v : Option CompletionQueue) → IsLater q p → AreSettledMarks p ms
    → AllWait (λ x. IsSettled (record { domain = q.domain; slot = k }) (with_at queue_eq queue q.queue (Present p) x.queue) x) v
    → AllWait (λ x. IsSettled (record { domain = q.domain; slot = k }) (with_at queue_eq queue q.queue (Present p) x.queue) x) (option_map (after_puts (completions_to q k ms)) v)
puts-settled queue q p k ms None later all waits = record {}
puts-settled queue q p k ms (Some v) later all waits =
    append-all (λ x. IsSettled (record { domain = q.domain; slot = k }) (with_at queue_eq queue q.queue (Present p) x.queue) x) v.waiting (completions_to q k ms) waits (marks-settled queue q p k ms later all)

-- a slot that was vacant has a queue pair: no completion that waits is of it
pub made-settled : (queue : QueueId → QueueSlot) (cq : Slot → Option CompletionQueue) (name : QueueId) (incarnation timers : ℕ) (v : QueueSlot) → AreSettled queue cq
    → queue name ≡ NoQueue incarnation timers → AreSettled (with_at queue_eq queue name v) cq
made-settled queue cq name incarnation timers v settled is s =
    wait-map (λ x. IsSettled s (queue x.queue) x) (λ x. IsSettled s (with_at queue_eq queue name v x.queue) x) (λ x done. by x done (queue_eq name x.queue) refl) (cq s) (settled s)
  where
    by : (x : Completion) → IsSettled s (queue x.queue) x → (b : Bool) → queue_eq name x.queue ≡ b → IsSettled s (if b then v else queue x.queue) x
    by x done true e = absurd (subst (λ t. IsSettled s t x) (ap queue (sym (queue-path name x.queue e)) ∙ is) done)
    by x done false e = done

-- a queue pair is emptied: its completion queues have none of its completions, and no other has one
pub emptied-settled : (queue : QueueId → QueueSlot) (cq : Slot → Option CompletionQueue) (q : QueuePair) (v : QueueSlot) (a b : Option CompletionQueue) → AreSettled queue cq
    → queue q.queue ≡ Present q → AllWait (λ x. IsSettled (send_cq_of q) (queue x.queue) x × (queue_eq q.queue x.queue ≡ false)) a
    → AllWait (λ x. IsSettled (recv_cq_of q) (queue x.queue) x × (queue_eq q.queue x.queue ≡ false)) b
    → AreSettled (with_at queue_eq queue q.queue v) (with_at slot_eq (with_at slot_eq cq (send_cq_of q) a) (recv_cq_of q) b)
emptied-settled queue cq q v send_now recv_now settled is send recv s = at (slot_eq (recv_cq_of q) s) refl (slot_eq (send_cq_of q) s) refl
  where
    after : QueueId → QueueSlot
    after = with_at queue_eq queue q.queue v

    on : (t : Slot) (x : Completion) → IsSettled t (queue x.queue) x → (queue_eq q.queue x.queue ≡ false) → IsSettled t (after x.queue) x
    on t x done other = subst (λ b. IsSettled t (if b then v else queue x.queue) x) (sym other) done

    side : (t : Slot) (o : Option CompletionQueue) → slot_eq t s ≡ true → AllWait (λ x. IsSettled t (queue x.queue) x × (queue_eq q.queue x.queue ≡ false)) o
        → AllWait (λ x. IsSettled s (after x.queue) x) o
    side t o e all = subst (λ r. AllWait (λ x. IsSettled r (after x.queue) x) o) (slot-path t s e)
        (wait-map (λ x. IsSettled t (queue x.queue) x × (queue_eq q.queue x.queue ≡ false)) (λ x. IsSettled t (after x.queue) x) (λ x both. on t x both.0 both.1) o all)

    apart : slot_eq (recv_cq_of q) s ≡ false → slot_eq (send_cq_of q) s ≡ false → (receive : Bool) → slot_eq (side_of q receive) s ≡ true → ⊥
    apart r t true e = true≢false (sym e ∙ r)
    apart r t false e = true≢false (sym e ∙ t)

    else_where : slot_eq (recv_cq_of q) s ≡ false → slot_eq (send_cq_of q) s ≡ false → (x : Completion) → IsSettled s (queue x.queue) x → (b : Bool)
        → queue_eq q.queue x.queue ≡ b → IsSettled s (if b then v else queue x.queue) x
    else_where r t x done true e =
        absurd (apart r t x.receive (subst (λ k. IsSettled s k x) (ap queue (sym (queue-path q.queue x.queue e)) ∙ is) done).0)
    else_where r t x done false e = done

    at : (b : Bool) → slot_eq (recv_cq_of q) s ≡ b → (z : Bool) → slot_eq (send_cq_of q) s ≡ z
        → AllWait (λ x. IsSettled s (after x.queue) x) (if b then recv_now else if z then send_now else cq s)
    at true e z f = side (recv_cq_of q) recv_now e recv
    at false e true f = side (send_cq_of q) send_now f send
    at false e false f = wait-map (λ x. IsSettled s (queue x.queue) x) (λ x. IsSettled s (after x.queue) x)
        (λ x done. else_where e f x done (queue_eq q.queue x.queue) refl) (cq s) (settled s)

-- without a queue pair's completions
pub emptied-waits : (P : Completion → Type 0) (name : QueueId) (v : Option CompletionQueue) → AllWait P v
    → AllWait (λ x. P x × (queue_eq name x.queue ≡ false)) (option_map (without_completions name) v)
emptied-waits P name None all = record {}
emptied-waits P name (Some v) all = by v.waiting all
  where
    test : Completion → Bool
    test c = not (queue_eq c.queue name)

    swap : (a b : QueueId) → queue_eq a b ≡ false → queue_eq b a ≡ false
    swap a b e = no (queue_eq b a) refl
      where
        no : (z : Bool) → queue_eq b a ≡ z → z ≡ false
        no false f = refl
        no true f = absurd (true≢false (sym (queue-refl a) ∙ ap (λ t. queue_eq a t) (sym (queue-path b a f)) ∙ e))

    add : (x : Completion) (xs : List Completion) (b : Bool) → test x ≡ b → P x
        → AllByRecursion (λ x. P x × (queue_eq name x.queue ≡ false)) xs → AllByRecursion (λ x. P x × (queue_eq name x.queue ≡ false)) (if b then x ∷ xs else xs)
    add x xs true e p rest = ((p, swap x.queue name (not-true (queue_eq x.queue name) e)), rest)
    add x xs false e p rest = rest

    by : (xs : List Completion) → AllByRecursion P xs → AllByRecursion (λ x. P x × (queue_eq name x.queue ≡ false)) (filter test xs)
    by [] all = record {}
    by (x ∷ xs) all = add x (filter test xs) (test x) refl all.0 (by xs all.1)
