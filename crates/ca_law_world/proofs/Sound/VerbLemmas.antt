-- What the verbs make of a queue pair that can come up: creation, changes of state, posts and polls.
use Rattle.std.proofs.Common.{zero, ◌≡◌, ℕ, suc, ◌+◌, ◌-◌, ◌/◌, ◌^◌, ◌≤◌, ◌<◌, max, nat_le, nat_lt, arith, Bool, true, false, List, [], ◌∷◌, ◌++◌, length, drop, take, Option, None, Some, IfSome, subst, ◌∙◌, ◌==◌, not, ap, sym, true≢false, if◌then◌else◌, is_none, is_some, slice_get, refl}
use Rattle.std.proofs.lemmas.Bool.{and_parts, leb-false, ltb-true, ltb-false, not-false, or_parts}
use Rattle.std.proofs.lemmas.List.{drop-append-le, drop-drop, length-append, length-drop}
use Rattle.std.specs.List.{AllByRecursion}
use Rattle.std.specs.Option.{option_map, option_map_or}
use Rattle.ca_base.specs.declared.change.Change.{Change}
use Rattle.ca_base.specs.declared.change.Change.TheVariants as changes
use Rattle.ca_base.specs.declared.change.State.{State}
use Rattle.ca_base.specs.declared.change.State.TheVariants as states
use Rattle.ca_base.specs.declared.completion.Completion.{Completion}
use Rattle.ca_base.specs.declared.limits.TheConstants.{MAX_DEPTH, MAX_DOMAINS, MAX_QPS, MAX_READS, MAX_RETRY, MAX_RNR_CODE}
use Rattle.ca_keys.specs.declared.names.QueueId.{QueueId}
use Rattle.ca_base.specs.declared.queue_numbers.Message.{Message}
use Rattle.ca_base.specs.declared.queue_numbers.Message.TheVariants as messages
use Rattle.ca_base.specs.declared.request.RecvRequest.{RecvRequest}
use Rattle.ca_base.specs.declared.request.SendRequest.{SendRequest}
use Rattle.ca_keys.specs.declared.names.DomainId.{DomainId}
use Rattle.ca_keys.specs.declared.names.Slot.{Slot}
use Rattle.ca_base.specs.Configuration.{Adapter, Configuration}
use Rattle.ca_keys.specs.Equal.{queue_eq}
use Rattle.ca_keys.specs.Refusals.{AllFail}
use Rattle.ca_base.specs.declared.request.PostedSend.{PostedSend}
use Rattle.ca_base.specs.objects.QueuePair.{QueuePair, after_reset, in_error, psn_base, queue_at_start, requester_at_start, responder_at_start, with_all_flushed}
use Rattle.ca_base.specs.objects.Slices.{adapter_at, has_domain, has_queue, has_slot, slot_of_queue}
use Rattle.ca_base.specs.objects.StateTable.{is_among, is_path_mtu, modify_refusals, queue_after_change, state_eq}
use Rattle.ca_base.specs.objects.WorkQueue.{WorkQueue, after_retire, empty_queue, is_full, items_from, next_place, with_item}
use Rattle.ca_model.specs.Requests.{psns_of}
use Rattle.ca_model.specs.machine.CompletionVerbs.{after_poll}
use Rattle.ca_model.specs.machine.Completions.{flush_marks}
use Rattle.ca_model.specs.machine.Numbering.{numbers_of}
use Rattle.ca_model.specs.machine.Places.{IsInOrder}
use Rattle.ca_model.specs.machine.PostingVerbs.{after_flush, marks_of_flush, with_send}
use Rattle.ca_model.specs.machine.Row.{queue_and_marks}
use Rattle.ca_model.specs.machine.Invariants.{IsAnswer, IsQueue, IsReceive, IsReceives, IsRequester, IsResponder, IsSend, IsTaken, IsWorkQueue, NamesPeer, begun_end, is_connected, is_fresh, is_idle, is_sending}
use Rattle.ca_model.specs.machine.Sound.{AreLimited, IsFinished, IsLimitedAdapter}
use Rattle.ca_law_world.proofs.Sound.GoodLemmas.{AreSettledMarks, IsLater, IsTakenOn, error-later, error-queue, finished-later, flush-settled, items-end, later-on, later-same, none-taken, settled-later, silent-queue, taken-same}
use Rattle.ca_law_world.proofs.Sound.NumberingLemmas.{count_sum}
use Rattle.ca_law_world.proofs.Sound.OrderLemmas.{flush-order, order-as, order-still}
use Rattle.ca_law_world.proofs.Sound.SettledLemmas.{all-map}

-- numbers of more requests begin with those of the first
numbers-append : (mtu place psn : ℕ) (ps : List PostedSend) (x : PostedSend) (k : ℕ) → k ≤ length ps
    → take k (numbers_of mtu place psn (ps ++ x ∷ [])) ≡ take k (numbers_of mtu place psn ps)
numbers-append mtu place psn ps x zero le = refl
numbers-append mtu place psn [] x (suc k) le = absurd (omega (arith, le))
numbers-append mtu place psn (p ∷ ps) x (suc k) le = ap (λ t. record { place = place; request = p.request; drawn = p.drawn; first = psn; count = psns_of mtu p.request.op } ∷ t)
    (numbers-append mtu (suc place) (psn + psns_of mtu p.request.op) ps x k (omega (arith, le)))

all-append : {A : Type 0} (P : A → Type 0) (xs ys : List A) → AllByRecursion P xs → AllByRecursion P ys → AllByRecursion P (xs ++ ys)
all-append P [] ys one other = other
all-append P (x ∷ xs) ys one other = (one.0, all-append P xs ys one.1 other)

pub all-dropped : {A : Type 0} (P : A → Type 0) (k : ℕ) (xs : List A) → AllByRecursion P xs → AllByRecursion P (drop k xs)
all-dropped P zero xs all = all
all-dropped P (suc k) [] all = record {}
all-dropped P (suc k) (x ∷ xs) all = all-dropped P k xs all.1

-- one more request in a work queue that is not full
posted-queue : {T : Type 0} (Item : T → Type 0) (x : T) (q : WorkQueue T) → IsWorkQueue T Item q → Item x → is_full q ≡ false → IsWorkQueue T Item (with_item x q)
posted-queue Item x q s item free = record {
  some = s.some;
  depth = s.depth;
  room = omega (arith, length-append q.items (x ∷ []), leb-false q.depth (length q.items) free);
  items = all-append Item q.items (x ∷ []) s.items (item, record {});
}

pub posted-end : (q : QueuePair) (request : SendRequest) (drawn : Option ℕ) → IsQueue q → begun_end (with_send request drawn q) ≡ begun_end q
posted-end q request drawn s = ap (λ ns. q.requester.oldest_psn + count_sum ns) (same ∙ numbers-append q.responder.mtu q.requester.oldest q.requester.oldest_psn (items_from q.requester.oldest q.sends) x
    (q.requester.next - q.requester.oldest) (omega (arith, s.requester.waiting, items-end q.sends q.requester.oldest s.requester.finished (omega (arith, s.requester.begun, s.requester.waiting)))))
  where
    x : PostedSend
    x = record { request = request; drawn = drawn }

    same : take (q.requester.next - q.requester.oldest) (numbers_of q.responder.mtu q.requester.oldest q.requester.oldest_psn (drop (q.requester.oldest - q.sends.first) (q.sends.items ++ x ∷ [])))
        ≡ take (q.requester.next - q.requester.oldest) (numbers_of q.responder.mtu q.requester.oldest q.requester.oldest_psn (items_from q.requester.oldest q.sends ++ x ∷ []))
    same = ap (λ ps. take (q.requester.next - q.requester.oldest) (numbers_of q.responder.mtu q.requester.oldest q.requester.oldest_psn ps))
        (drop-append-le (q.requester.oldest - q.sends.first) q.sends.items (x ∷ []) (omega (arith, s.requester.begun, s.requester.waiting)))

pub posted-send : (q : QueuePair) (request : SendRequest) (drawn : Option ℕ) → IsQueue q → IsSend (record { request = request; drawn = drawn }) → is_full q.sends ≡ false
    → IsQueue (with_send request drawn q)
posted-send q request drawn s item free = record {
  sends = posted-queue IsSend (record { request = request; drawn = drawn }) q.sends s.sends item free;
  receives = s.receives;
  source = s.source;
  requester = record {
    finished = s.requester.finished;
    begun = s.requester.begun;
    waiting = omega (arith, s.requester.waiting, length-append q.sends.items (record { request = request; drawn = drawn } ∷ []));
    base = s.requester.base;
    outstanding = s.requester.outstanding;
    retry = s.requester.retry;
    rnr_retry = s.requester.rnr_retry;
    reads = s.requester.reads;
    retried = s.requester.retried;
    retries = s.requester.retries;
    fresh = s.requester.fresh;
  };
  begun = λ sending. omega (arith, s.begun sending, posted-end q request drawn s);
  responder = s.responder;
  taken = s.taken;
  peer = s.peer;
  connected = s.connected;
  saved = s.saved;
}

pub send-later : (q : QueuePair) (request : SendRequest) (drawn : Option ℕ) → IsLater q (with_send request drawn q)
send-later q request drawn = record { queue = refl; domain = refl; send_cq = refl; recv_cq = refl; srq = refl; finished = omega arith; taken = taken-same q.receives }

pub posted-receive : (q : QueuePair) (request : RecvRequest) → IsQueue q → IsReceive request → option_map_or is_full q.receives false ≡ false
    → IsQueue (record q { receives = option_map (with_item request) q.receives })
posted-receive q request s item free = record {
  sends = s.sends;
  receives = receives q.receives s.receives free;
  source = some q.receives ∙ s.source;
  requester = s.requester;
  begun = s.begun;
  responder = s.responder;
  taken = taken q.receives q.responder.message s.taken;
  peer = s.peer;
  connected = s.connected;
  saved = s.saved;
}
  where
    receives : (o : Option (WorkQueue RecvRequest)) → IfSome o IsReceives → option_map_or is_full o false ≡ false → IfSome (option_map (with_item request) o) IsReceives
    receives None s free = record {}
    receives (Some r) s free = record {
      queue = posted-queue IsReceive request r s.queue item free;
      taken = s.taken;
      waiting = omega (arith, s.waiting, length-append r.items (request ∷ []));
    }

    some : (o : Option (WorkQueue RecvRequest)) → is_some (option_map (with_item request) o) ≡ is_some o
    some None = refl
    some (Some r) = refl

    taken : (o : Option (WorkQueue RecvRequest)) (m : Option Message) → IsTaken o m → IsTaken (option_map (with_item request) o) m
    taken None m t = record {}
    taken (Some r) None t = record {}
    taken (Some r) (Some (messages.Send place receive bytes)) t = t
    taken (Some r) (Some (messages.Write key address left count)) t = record {}

pub receive-later : (q : QueuePair) (request : RecvRequest) → IsLater q (record q { receives = option_map (with_item request) q.receives })
receive-later q request = record { queue = refl; domain = refl; send_cq = refl; recv_cq = refl; srq = refl; finished = omega arith; taken = by q.receives }
  where
    by : (o : Option (WorkQueue RecvRequest)) → IsTakenOn o (option_map (with_item request) o)
    by None = record {}
    by (Some r) = omega arith

error-state : (t : State) → state_eq t states.Error ≡ true → t ≡ states.Error
error-state states.Reset e = absurd (true≢false (sym e))
error-state states.Init e = absurd (true≢false (sym e))
error-state states.Rtr e = absurd (true≢false (sym e))
error-state states.Rts e = absurd (true≢false (sym e))
error-state states.Sqd e = absurd (true≢false (sym e))
error-state states.Error e = refl

flushed-later : (q : QueuePair) → IsQueue q → IsLater q (with_all_flushed q)
flushed-later q s = record {
  queue = refl;
  domain = refl;
  send_cq = refl;
  recv_cq = refl;
  srq = refl;
  finished = omega (arith, s.requester.begun, s.requester.waiting);
  taken = (error-later q s).taken;
}

-- a queue pair in Error flushes what is posted, and another keeps it
pub record IsFlushed (q : QueuePair) : Type 0 where
  pub sound : IsQueue (after_flush q)
  pub later : IsLater q (after_flush q)
  pub settled : AreSettledMarks (after_flush q) (marks_of_flush q)
  pub order : IsInOrder q (queue_and_marks (after_flush q) (marks_of_flush q))

pub flushed : (q : QueuePair) → IsQueue q → IsFlushed q
flushed q s = record {
  sound = (by (state_eq q.state states.Error) refl).0;
  later = (by (state_eq q.state states.Error) refl).1;
  settled = marks (state_eq q.state states.Error);
  order = order (state_eq q.state states.Error);
}
  where
    after : Bool → QueuePair
    after b = if b then with_all_flushed q else q

    by : (b : Bool) → state_eq q.state states.Error ≡ b → IsQueue (after b) × IsLater q (after b)
    by true e = (subst (λ t. IsQueue (record (with_all_flushed q) { state = t })) (sym (error-state q.state e)) (error-queue q s), flushed-later q s)
    by false e = (s, later-same q)

    flushed-marks : AreSettledMarks (with_all_flushed q) (flush_marks q)
    flushed-marks = settled-later (in_error q) (with_all_flushed q) (flush_marks q)
        (record { queue = refl; domain = refl; send_cq = refl; recv_cq = refl; srq = refl; finished = omega arith; taken = taken-same (in_error q).receives })
        (flush-settled q s.requester.finished (omega (arith, s.requester.begun, s.requester.waiting)) s.receives s.taken)

    marks : (b : Bool) → AreSettledMarks (after b) (if b then flush_marks q else [])
    marks true = flushed-marks
    marks false = record {}

    order : (b : Bool) → IsInOrder q (queue_and_marks (after b) (if b then flush_marks q else []))
    order true = order-as q (queue_and_marks (in_error q) (flush_marks q)) (queue_and_marks (with_all_flushed q) (flush_marks q))
        (record { sends = refl; receives = refl; oldest = refl; in_use = refl }) refl refl
        (flush-order q s.requester.finished (omega (arith, s.requester.begun, s.requester.waiting)) s.receives s.taken)
    order false = order-still q (queue_and_marks q []) (record { sends = refl; receives = refl; oldest = refl; in_use = refl }) refl

-- a work queue of which the places up to one that was posted are free
retired-queue : {T : Type 0} (Item : T → Type 0) (place : ℕ) (q : WorkQueue T) → IsWorkQueue T Item q → IsWorkQueue T Item (after_retire place q)
retired-queue Item place q s = record {
  some = s.some;
  depth = s.depth;
  room = omega (arith, s.room, length-drop (suc place - q.first) q.items);
  items = all-dropped Item (suc place - q.first) q.items s.items;
}

pub retired-next : {T : Type 0} (place : ℕ) (q : WorkQueue T) → place < next_place q → next_place (after_retire place q) ≡ next_place q
retired-next place q low = omega (arith, low, length-drop (suc place - q.first) q.items)

pub retired-items : {T : Type 0} (place from : ℕ) (q : WorkQueue T) → place < from → q.first ≤ from → items_from from (after_retire place q) ≡ items_from from q
retired-items place from q low first = drop-drop (from - max q.first (suc place)) (suc place - q.first) q.items ∙ ap (λ i. drop i q.items) (omega (arith, low, first))

retire-send : (q : QueuePair) (place : ℕ) → IsQueue q → place < q.requester.oldest → IsQueue (record q { sends = after_retire place q.sends })
retire-send q place s low = record {
  sends = retired-queue IsSend place q.sends s.sends;
  receives = s.receives;
  source = s.source;
  requester = record {
    finished = omega (arith, s.requester.finished, low);
    begun = s.requester.begun;
    waiting = omega (arith, s.requester.waiting, retired-next place q.sends (omega (arith, low, s.requester.begun, s.requester.waiting)));
    base = s.requester.base;
    outstanding = s.requester.outstanding;
    retry = s.requester.retry;
    rnr_retry = s.requester.rnr_retry;
    reads = s.requester.reads;
    retried = s.requester.retried;
    retries = s.requester.retries;
    fresh = s.requester.fresh;
  };
  begun = λ sending. omega (
    arith,
    s.begun sending,
    ap (λ ps. q.requester.oldest_psn + count_sum (take (q.requester.next - q.requester.oldest)
        (numbers_of q.responder.mtu q.requester.oldest q.requester.oldest_psn ps))) (retired-items place q.requester.oldest q.sends low s.requester.finished),
  );
  responder = s.responder;
  taken = s.taken;
  peer = s.peer;
  connected = s.connected;
  saved = s.saved;
}

retire-own : (q : QueuePair) (place : ℕ) → IsQueue q → IfSome q.receives (λ r. place < r.next_taken) → IsQueue (record q { receives = option_map (after_retire place) q.receives })
retire-own q place s low = record {
  sends = s.sends;
  receives = receives q.receives s.receives low;
  source = some q.receives ∙ s.source;
  requester = s.requester;
  begun = s.begun;
  responder = s.responder;
  taken = taken q.receives q.responder.message s.taken;
  peer = s.peer;
  connected = s.connected;
  saved = s.saved;
}
  where
    receives : (o : Option (WorkQueue RecvRequest)) → IfSome o IsReceives → IfSome o (λ r. place < r.next_taken) → IfSome (option_map (after_retire place) o) IsReceives
    receives None s low = record {}
    receives (Some r) s low = record {
      queue = retired-queue IsReceive place r s.queue;
      taken = omega (arith, s.taken, low);
      waiting = omega (arith, s.waiting, retired-next place r (omega (arith, low, s.waiting)));
    }

    some : (o : Option (WorkQueue RecvRequest)) → is_some (option_map (after_retire place) o) ≡ is_some o
    some None = refl
    some (Some r) = refl

    taken : (o : Option (WorkQueue RecvRequest)) (m : Option Message) → IsTaken o m → IsTaken (option_map (after_retire place) o) m
    taken None m t = record {}
    taken (Some r) None t = record {}
    taken (Some r) (Some (messages.Send at receive bytes)) t = t
    taken (Some r) (Some (messages.Write key address left count)) t = record {}

-- a queue pair after a poll, with what is finished and taken as before
pub record IsPolled (q p : QueuePair) : Type 0 where
  pub sound : IsQueue p
  pub later : IsLater q p

pub polled : (name : QueueId) (xs : List Completion) (q : QueuePair) → IsQueue q
    → AllByRecursion (λ x. queue_eq x.queue name ≡ true → IsFinished q x.receive x.place) xs → IsPolled q (after_poll name xs q)
polled name [] q s all = record { sound = s; later = later-same q }
polled name (x ∷ xs) q s all = on (by (queue_eq x.queue name) all.0 x.receive refl) (λ p sound finished. polled name xs p sound finished)
  where
    freed : Bool → QueuePair
    freed true = record q { receives = option_map (after_retire x.place) q.receives }
    freed false = record q { sends = after_retire x.place q.sends }

    next : Bool → Bool → QueuePair
    next b r = if b then freed r else q

    receives-on : (o : Option (WorkQueue RecvRequest)) → IsTakenOn o (option_map (after_retire x.place) o)
    receives-on None = record {}
    receives-on (Some r) = omega arith

    by : (b : Bool) → (b ≡ true → IsFinished q x.receive x.place) → (r : Bool) → x.receive ≡ r → IsPolled q (next b r)
    by false finished r e = record { sound = s; later = later-same q }
    by true finished true e = record {
      sound = retire-own q x.place s (subst (λ r. IsFinished q r x.place) e (finished refl));
      later = record { queue = refl; domain = refl; send_cq = refl; recv_cq = refl; srq = refl; finished = omega arith; taken = receives-on q.receives };
    }
    by true finished false e = record {
      sound = retire-send q x.place s (subst (λ r. IsFinished q r x.place) e (finished refl));
      later = record { queue = refl; domain = refl; send_cq = refl; recv_cq = refl; srq = refl; finished = omega arith; taken = taken-same q.receives };
    }

    on : IsPolled q (next (queue_eq x.queue name) x.receive)
        → ((p : QueuePair) → IsQueue p → AllByRecursion (λ x. queue_eq x.queue name ≡ true → IsFinished p x.receive x.place) xs → IsPolled p (after_poll name xs p))
        → IsPolled q (after_poll name xs (next (queue_eq x.queue name) x.receive))
    on one rest = record {
      sound = (more one rest).sound;
      later = later-on q (next (queue_eq x.queue name) x.receive) _ one.later (more one rest).later;
    }
      where
        more : IsPolled q (next (queue_eq x.queue name) x.receive)
            → ((p : QueuePair) → IsQueue p → AllByRecursion (λ x. queue_eq x.queue name ≡ true → IsFinished p x.receive x.place) xs → IsPolled p (after_poll name xs p))
            → IsPolled (next (queue_eq x.queue name) x.receive) (after_poll name xs (next (queue_eq x.queue name) x.receive))
        more one rest = rest (next (queue_eq x.queue name) x.receive) one.sound (all-map _ _ (λ y finished same. finished-later q (next (queue_eq x.queue name) x.receive) y.receive y.place one.later (finished same)) xs all.1)

adapter-few : (xs : List Adapter) (i : ℕ) (d : ℕ) → AllByRecursion IsLimitedAdapter xs
    → option_map_or (λ a. nat_lt d a.domains) (slice_get xs i) false ≡ true → d < MAX_DOMAINS
adapter-few [] i d all e = absurd (true≢false (sym e))
adapter-few (a ∷ xs) zero d all e = omega (arith, all.0.domains, ltb-true d a.domains e)
adapter-few (a ∷ xs) (suc i) d all e = adapter-few xs i d all.1 e

-- the number of a configured queue pair has 24 bits
queue-number : (c : Configuration) (q : QueueId) → AreLimited c → has_queue c q ≡ true → q.number < 2 ^ 24
queue-number c q few e = omega (arith, adapter-few c.adapters q.adapter (q.number / 256 - 1) few.adapters named)
  where
    slot : Slot
    slot = slot_of_queue q

    named : has_domain c slot.domain ≡ true
    named = (and_parts (has_domain c slot.domain) (option_map_or (λ a. nat_lt slot.slot a.qps) (adapter_at c slot.domain.adapter) false)
        (and_parts (nat_le 256 q.number) (has_slot c (λ a. a.qps) slot) e).1).0

slots-few : (xs : List Adapter) (i : ℕ) (k : ℕ) → AllByRecursion IsLimitedAdapter xs
    → option_map_or (λ a. nat_lt k a.qps) (slice_get xs i) false ≡ true → k < MAX_QPS
slots-few [] i k all e = absurd (true≢false (sym e))
slots-few (a ∷ xs) zero k all e = omega (arith, all.0.qps, ltb-true k a.qps e)
slots-few (a ∷ xs) (suc i) k all e = slots-few xs i k all.1 e

-- the slot of a configured queue pair
pub queue-slot : (c : Configuration) (s : Slot) → AreLimited c → has_slot c (λ a. a.qps) s ≡ true → s.slot < MAX_QPS
queue-slot c s few e = slots-few c.adapters s.domain.adapter s.slot few.adapters
    (and_parts (has_domain c s.domain) (option_map_or (λ a. nat_lt s.slot a.qps) (adapter_at c s.domain.adapter) false) e).1

-- from which states a change may come
among-reset : (t : State) → is_among (states.Reset ∷ []) t ≡ true → t ≡ states.Reset
among-reset states.Reset e = refl
among-reset states.Init e = absurd (true≢false (sym e))
among-reset states.Rtr e = absurd (true≢false (sym e))
among-reset states.Rts e = absurd (true≢false (sym e))
among-reset states.Sqd e = absurd (true≢false (sym e))
among-reset states.Error e = absurd (true≢false (sym e))

among-init : (t : State) → is_among (states.Init ∷ []) t ≡ true → t ≡ states.Init
among-init states.Reset e = absurd (true≢false (sym e))
among-init states.Init e = refl
among-init states.Rtr e = absurd (true≢false (sym e))
among-init states.Rts e = absurd (true≢false (sym e))
among-init states.Sqd e = absurd (true≢false (sym e))
among-init states.Error e = absurd (true≢false (sym e))

among-rtr : (t : State) → is_among (states.Rtr ∷ []) t ≡ true → t ≡ states.Rtr
among-rtr states.Reset e = absurd (true≢false (sym e))
among-rtr states.Init e = absurd (true≢false (sym e))
among-rtr states.Rtr e = refl
among-rtr states.Rts e = absurd (true≢false (sym e))
among-rtr states.Sqd e = absurd (true≢false (sym e))
among-rtr states.Error e = absurd (true≢false (sym e))

among-rts : (t : State) → is_among (states.Rts ∷ []) t ≡ true → t ≡ states.Rts
among-rts states.Reset e = absurd (true≢false (sym e))
among-rts states.Init e = absurd (true≢false (sym e))
among-rts states.Rtr e = absurd (true≢false (sym e))
among-rts states.Rts e = refl
among-rts states.Sqd e = absurd (true≢false (sym e))
among-rts states.Error e = absurd (true≢false (sym e))

among-sqd : (t : State) → is_among (states.Sqd ∷ []) t ≡ true → t ≡ states.Sqd
among-sqd states.Reset e = absurd (true≢false (sym e))
among-sqd states.Init e = absurd (true≢false (sym e))
among-sqd states.Rtr e = absurd (true≢false (sym e))
among-sqd states.Rts e = absurd (true≢false (sym e))
among-sqd states.Sqd e = refl
among-sqd states.Error e = absurd (true≢false (sym e))

depth-queue : {T : Type 0} (Item : T → Type 0) (depth : ℕ) → 0 < depth → depth ≤ MAX_DEPTH → IsWorkQueue T Item (empty_queue depth)
depth-queue Item depth some most = record { some = some; depth = most; room = omega arith; items = record {} }

-- a queue pair in a state in which nothing is sent or taken yet, with the numbers of the start
started-queue : (q : QueuePair) → IsWorkQueue PostedSend IsSend q.sends → q.sends.first ≡ 0 → IfSome q.receives IsReceives → is_some q.receives ≡ is_none q.srq
    → (timers : ℕ) → q.requester ≡ requester_at_start timers → q.responder ≡ responder_at_start → q.state ≡ states.Reset → q.peer ≡ None → q.saved ≡ [] → IsQueue q
started-queue q sends first receives source timers requester responder state peer saved = record {
  sends = sends;
  receives = receives;
  source = source;
  requester = subst (λ r. IsRequester q.state q.sends r) (sym requester) (record {
    finished = omega (arith, first);
    begun = omega arith;
    waiting = omega arith;
    base = omega arith;
    outstanding = omega arith;
    retry = omega arith;
    rnr_retry = omega arith;
    reads = omega arith;
    retried = omega arith;
    retries = λ sending. omega arith;
    fresh = λ fresh. refl;
  });
  begun = λ sending. absurd (true≢false (sym sending ∙ ap is_sending state));
  responder = subst (λ r. IsResponder q.state r) (sym responder) (record {
    base = omega arith;
    msn = omega arith;
    mtu = refl;
    rnr_code = omega arith;
    message = record {};
    answers = record {};
    silent = λ idle. refl;
    empty = λ idle. refl;
  });
  taken = subst (λ r. IsTaken q.receives r.message) (sym responder) (none-taken q.receives);
  peer = subst (λ p. IfSome p (λ p. p.queue.number < 2 ^ 24)) (sym peer) (record {});
  connected = λ connected. absurd (true≢false (sym connected ∙ ap is_connected state));
  saved = omega (arith, ap length saved);
}

reset-queue : (q : QueuePair) → IsQueue q → IsQueue (after_reset q)
reset-queue q s = started-queue (after_reset q) (depth-queue IsSend q.sends.depth s.sends.some s.sends.depth) refl (receives q.receives s.receives)
    (some q.receives ∙ s.source) q.requester.timers refl refl refl refl refl
  where
    receives : (o : Option (WorkQueue RecvRequest)) → IfSome o IsReceives → IfSome (option_map (λ r. empty_queue r.depth) o) IsReceives
    receives None s = record {}
    receives (Some r) s = record { queue = depth-queue IsReceive r.depth s.queue.some s.queue.depth; taken = omega arith; waiting = omega arith }

    some : (o : Option (WorkQueue RecvRequest)) → is_some (option_map (λ r. empty_queue {T = RecvRequest} r.depth) o) ≡ is_some o
    some None = refl
    some (Some r) = refl

-- a new queue pair
pub made-queue : (queue : QueueId) (domain : DomainId) (incarnation timers send_cq recv_cq send_depth recv_depth : ℕ) (srq : Option ℕ)
    → (0 < send_depth) × (send_depth ≤ MAX_DEPTH) → (srq ≡ None → (0 < recv_depth) × (recv_depth ≤ MAX_DEPTH))
    → IsQueue (queue_at_start queue domain incarnation timers send_cq recv_cq send_depth recv_depth srq)
made-queue queue domain incarnation timers send_cq recv_cq send_depth recv_depth (Some srq) sends receives =
    started-queue (queue_at_start queue domain incarnation timers send_cq recv_cq send_depth recv_depth (Some srq))
    (depth-queue IsSend send_depth sends.0 sends.1) refl (record {}) refl timers refl refl refl refl refl
made-queue queue domain incarnation timers send_cq recv_cq send_depth recv_depth None sends receives =
    started-queue (queue_at_start queue domain incarnation timers send_cq recv_cq send_depth recv_depth None)
    (depth-queue IsSend send_depth sends.0 sends.1) refl
    (record { queue = depth-queue IsReceive recv_depth (receives refl).0 (receives refl).1; taken = omega arith; waiting = omega arith })
    refl timers refl refl refl refl refl

-- another state in which the same numbers are sound
state-queue : (q : QueuePair) (t : State) → IsQueue q → (is_sending t ≡ true → is_sending q.state ≡ true) → (is_fresh t ≡ true → is_fresh q.state ≡ true)
    → (is_idle t ≡ true → is_idle q.state ≡ true) → (is_connected t ≡ true → is_connected q.state ≡ true) → IsQueue (record q { state = t })
state-queue q t s sending fresh idle connected = record {
  sends = s.sends;
  receives = s.receives;
  source = s.source;
  requester = record {
    finished = s.requester.finished;
    begun = s.requester.begun;
    waiting = s.requester.waiting;
    base = s.requester.base;
    outstanding = s.requester.outstanding;
    retry = s.requester.retry;
    rnr_retry = s.requester.rnr_retry;
    reads = s.requester.reads;
    retried = s.requester.retried;
    retries = λ e. s.requester.retries (sending e);
    fresh = λ e. s.requester.fresh (fresh e);
  };
  begun = λ e. s.begun (sending e);
  responder = record {
    base = s.responder.base;
    msn = s.responder.msn;
    mtu = s.responder.mtu;
    rnr_code = s.responder.rnr_code;
    message = s.responder.message;
    answers = s.responder.answers;
    silent = λ e. s.responder.silent (idle e);
    empty = λ e. s.responder.empty (idle e);
  };
  taken = s.taken;
  peer = s.peer;
  connected = λ e. s.connected (connected e);
  saved = s.saved;
}

rtr-queue : (q : QueuePair) (peer : QueueId) (incarnation psn mtu rnr_code : ℕ) → IsQueue q → q.state ≡ states.Init → peer.number < 2 ^ 24 → is_path_mtu mtu ≡ true
    → rnr_code ≤ MAX_RNR_CODE → IsQueue (queue_after_change (changes.Rtr peer incarnation psn mtu rnr_code) q)
rtr-queue q peer incarnation psn mtu rnr_code s is number path code = record {
  sends = s.sends;
  receives = s.receives;
  source = s.source;
  requester = record {
    finished = s.requester.finished;
    begun = s.requester.begun;
    waiting = s.requester.waiting;
    base = s.requester.base;
    outstanding = s.requester.outstanding;
    retry = s.requester.retry;
    rnr_retry = s.requester.rnr_retry;
    reads = s.requester.reads;
    retried = s.requester.retried;
    retries = λ e. absurd (true≢false (sym e));
    fresh = λ e. s.requester.fresh (ap is_fresh is);
  };
  begun = λ e. absurd (true≢false (sym e));
  responder = record {
    base = omega arith;
    msn = s.responder.msn;
    mtu = path;
    rnr_code = code;
    message = s.responder.message;
    answers = subst (λ xs. AllByRecursion (IsAnswer mtu (psn_base + psn)) xs) (sym (s.responder.silent (ap is_idle is))) (record {});
    silent = λ e. absurd (true≢false (sym e));
    empty = λ e. absurd (true≢false (sym e));
  };
  taken = s.taken;
  peer = number;
  connected = λ e. refl;
  saved = s.saved;
}

rts-queue : (q : QueuePair) (psn retry rnr_retry reads : ℕ) → IsQueue q → q.state ≡ states.Rtr → retry ≤ MAX_RETRY → rnr_retry ≤ MAX_RETRY → reads ≤ MAX_READS
    → IsQueue (queue_after_change (changes.Rts psn retry rnr_retry reads) q)
rts-queue q psn retry rnr_retry reads s is few few_rnrs few_reads = record {
  sends = s.sends;
  receives = s.receives;
  source = s.source;
  requester = record {
    finished = s.requester.finished;
    begun = s.requester.begun;
    waiting = s.requester.waiting;
    base = omega arith;
    outstanding = omega arith;
    retry = few;
    rnr_retry = few_rnrs;
    reads = few_reads;
    retried = omega (arith, s.requester.fresh (ap is_fresh is));
    retries = λ e. omega (arith, s.requester.fresh (ap is_fresh is));
    fresh = λ e. absurd (true≢false (sym e));
  };
  begun = λ e. omega arith;
  responder = record {
    base = s.responder.base;
    msn = s.responder.msn;
    mtu = s.responder.mtu;
    rnr_code = s.responder.rnr_code;
    message = s.responder.message;
    answers = s.responder.answers;
    silent = λ e. absurd (true≢false (sym e));
    empty = λ e. absurd (true≢false (sym e));
  };
  taken = s.taken;
  peer = s.peer;
  connected = λ e. s.connected (ap is_connected is);
  saved = s.saved;
}

-- a change that nothing refuses leaves a queue pair that can come up
pub changed-queue : (c : Configuration) (change : Change) (q : QueuePair) → NamesPeer change → IsQueue q → AllFail (modify_refusals c q change)
    → IsQueue (queue_after_change change q)
changed-queue c changes.Init q few s fails = state-queue q states.Init s (λ e. absurd (true≢false (sym e))) (λ e. ap is_fresh is) (λ e. ap is_idle is) (λ e. absurd (true≢false (sym e)))
  where
    is : q.state ≡ states.Reset
    is = among-reset q.state (not-false (is_among (states.Reset ∷ []) q.state) fails.0)
changed-queue c (changes.Rtr peer incarnation psn mtu rnr_code) q number s fails =
    rtr-queue q peer incarnation psn mtu rnr_code s (among-init q.state (not-false (is_among (states.Init ∷ []) q.state) fails.0)) number
    (not-false (is_path_mtu mtu) fails.1.1.1.1.0) (ltb-false MAX_RNR_CODE rnr_code fails.1.1.1.1.1.0)
changed-queue c (changes.Rts psn retry rnr_retry reads) q few s fails =
    rts-queue q psn retry rnr_retry reads s (among-rtr q.state (not-false (is_among (states.Rtr ∷ []) q.state) fails.0))
    (ltb-false MAX_RETRY retry fails.1.1.0) (ltb-false MAX_RETRY rnr_retry fails.1.1.1.0)
    (ltb-false MAX_READS reads (or_parts (reads == 0) (nat_lt MAX_READS reads) fails.1.1.1.1.0).1)
changed-queue c changes.Sqd q few s fails = state-queue q states.Sqd s (λ e. ap is_sending is) (λ e. absurd (true≢false (sym e))) (λ e. absurd (true≢false (sym e))) (λ e. ap is_connected is)
  where
    is : q.state ≡ states.Rts
    is = among-rts q.state (not-false (is_among (states.Rts ∷ []) q.state) fails.0)
changed-queue c changes.Resume q few s fails = state-queue q states.Rts s (λ e. ap is_sending is) (λ e. absurd (true≢false (sym e))) (λ e. absurd (true≢false (sym e))) (λ e. ap is_connected is)
  where
    is : q.state ≡ states.Sqd
    is = among-sqd q.state (not-false (is_among (states.Sqd ∷ []) q.state) fails.0)
changed-queue c changes.Error q few s fails = silent-queue (in_error q) (error-queue q s)
changed-queue c changes.Reset q few s fails = reset-queue q s

-- in a configuration within its limits a change that nothing refuses names such a peer
pub named-peer : (c : Configuration) (change : Change) (q : QueuePair) → AreLimited c → AllFail (modify_refusals c q change) → NamesPeer change
named-peer c (changes.Rtr peer incarnation psn mtu rnr_code) q limited fails =
    queue-number c peer limited (not-false (has_queue c peer) (or_parts (not (has_queue c peer)) (queue_eq peer q.queue) fails.1.0).0)
named-peer c changes.Init q limited fails = record {}
named-peer c (changes.Rts psn retry rnr_retry reads) q limited fails = record {}
named-peer c changes.Sqd q limited fails = record {}
named-peer c changes.Resume q limited fails = record {}
named-peer c changes.Error q limited fails = record {}
named-peer c changes.Reset q limited fails = record {}
