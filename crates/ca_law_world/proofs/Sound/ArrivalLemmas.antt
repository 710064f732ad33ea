-- What the pieces of a responder's row make of a queue pair that can come up: answers, messages, receives, NAKs.
use Rattle.std.proofs.Common.{zero, ◌≡◌, ℕ, suc, ◌+◌, ◌-◌, ◌*◌, ◌^◌, ◌%◌, ◌≤◌, ◌<◌, nat_lt, arith, Bool, true, false, List, [], ◌∷◌, ◌++◌, Option, None, Some, IfSome, subst, ◌∙◌, ◌&&◌, ◌||◌, ◌==◌, ap, sym, true≢false, if◌then◌else◌, is_none, is_some, slice_get, refl, rules}
use Rattle.std.proofs.Math.Nat.{mul-le-mul_right}
use Rattle.std.proofs.lemmas.Bool.{eqb-true}
use Rattle.std.proofs.lemmas.Option.{same_Some, slice_get_within}
use Rattle.std.specs.List.{AllByRecursion}
use Rattle.std.specs.Option.{option_and_then, option_map}
use Rattle.ca_base.specs.declared.completion.WcOp.TheVariants as operations
use Rattle.ca_base.specs.declared.completion.WcStatus.{WcStatus}
use Rattle.ca_base.specs.declared.queue_numbers.Message.{Message}
use Rattle.ca_base.specs.declared.queue_numbers.Message.TheVariants as messages
use Rattle.ca_base.specs.declared.queue_numbers.Queued.{Queued}
use Rattle.ca_base.specs.declared.queue_numbers.Queued.TheVariants as queued
use Rattle.ca_base.specs.declared.queue_numbers.ResponderNumbers.{ResponderNumbers}
use Rattle.ca_base.specs.declared.refusals.OpRefusal.{OpRefusal}
use Rattle.ca_base.specs.declared.request.RecvRequest.{RecvRequest}
use Rattle.ca_base.specs.objects.Answers.{is_ack, with_ack_at_end}
use Rattle.ca_base.specs.objects.QueuePair.{QueuePair, in_error}
use Rattle.ca_base.specs.declared.request.PlacedReceive.{PlacedReceive}
use Rattle.ca_base.specs.objects.SharedReceives.{SharedReceives, first_receive}
use Rattle.ca_base.specs.objects.StateTable.{is_path_mtu}
use Rattle.ca_base.specs.objects.WorkQueue.{WorkQueue, after_take, item_at, next_place, with_all_taken}
use Rattle.ca_model.specs.ca_wire.declared.syndrome.NakCode.{NakCode}
use Rattle.ca_model.specs.ca_wire.Packet.{Fields}
use Rattle.ca_model.specs.ca_wire.Syndrome.{nak_code}
use Rattle.ca_model.specs.Requests.{segments}
use Rattle.ca_model.specs.machine.Arrivals.{next_receive, refusal_effects, with_answer, with_flag, with_message, with_receive_taken, with_responder}
use Rattle.ca_model.specs.machine.Completions.{flush_marks, receive_failure}
use Rattle.ca_model.specs.machine.Expected.{queue_after_packet, receive_failure_effects}
use Rattle.ca_model.specs.machine.Invariants.{IsAnswer, IsMessage, IsQueue, IsReceive, IsReceives, IsResponder, IsSharedReceives, IsTaken, begun_end, is_idle}
use Rattle.ca_model.specs.machine.Row.{queue_and_marks}
use Rattle.ca_model.specs.machine.Sound.{IsFinished}
use Rattle.ca_law_world.proofs.Sound.GoodLemmas.{IsGood, IsLater, IsTakenOn, error-later, error-queue, flush-settled, later-on, none-taken, settled-later, taken-same}
use Rattle.ca_law_world.proofs.Sound.OrderLemmas.{flush-order, holding, order-as, order-then, receive-order}

-- the responder's numbers change, and its path MTU does not
pub responder-queue : (q : QueuePair) (r : ResponderNumbers) → IsQueue q → r.mtu ≡ q.responder.mtu → IsResponder q.state r → IsTaken q.receives r.message
    → IsQueue (with_responder r q)
responder-queue q r s mtu one taken = record {
  sends = s.sends;
  receives = s.receives;
  source = s.source;
  requester = s.requester;
  begun = λ sending. subst (λ m. q.requester.cursor ≤ begun_end (with_responder (record r { mtu = m }) q)) (sym mtu) (s.begun sending);
  responder = one;
  taken = taken;
  peer = s.peer;
  connected = s.connected;
  saved = s.saved;
}

pub responder-later : (q : QueuePair) (r : ResponderNumbers) → IsLater q (with_responder r q)
responder-later q r = record {
  queue = refl;
  domain = refl;
  send_cq = refl;
  recv_cq = refl;
  srq = refl;
  finished = omega arith;
  taken = taken-same q.receives;
}

all-append : {A : Type 0} (P : A → Type 0) (xs ys : List A) → AllByRecursion P xs → AllByRecursion P ys → AllByRecursion P (xs ++ ys)
all-append P [] ys one other = other
all-append P (x ∷ xs) ys one other = (one.0, all-append P xs ys one.1 other)

pub flag-queue : (flag : Bool) (q : QueuePair) → IsQueue q → IsQueue (with_flag flag q)
flag-queue flag q s = responder-queue q (with_flag flag q).responder s refl (search rules) s.taken

-- a state in which something is sent or taken
pub answer-queue : (a : Queued) (q : QueuePair) → IsQueue q → is_idle q.state ≡ false → IsAnswer q.responder.mtu q.responder.expected a → IsQueue (with_answer a q)
answer-queue a q s busy answer = responder-queue q (with_answer a q).responder s refl (record {
  base = s.responder.base;
  msn = s.responder.msn;
  mtu = s.responder.mtu;
  rnr_code = s.responder.rnr_code;
  message = s.responder.message;
  answers = all-append (IsAnswer q.responder.mtu q.responder.expected) q.responder.answers (a ∷ []) s.responder.answers (answer, record {});
  silent = λ idle. absurd (true≢false (sym idle ∙ busy));
  empty = s.responder.empty;
}) s.taken

pub message-queue : (m : Option Message) (q : QueuePair) → IsQueue q → is_idle q.state ≡ false → IsMessage m → IsTaken q.receives m → IsQueue (with_message m q)
message-queue m q s busy message taken = responder-queue q (with_message m q).responder s refl (record {
  base = s.responder.base;
  msn = s.responder.msn;
  mtu = s.responder.mtu;
  rnr_code = s.responder.rnr_code;
  message = message;
  answers = s.responder.answers;
  silent = s.responder.silent;
  empty = λ idle. absurd (true≢false (sym idle ∙ busy));
}) taken

pub no-message-queue : (q : QueuePair) → IsQueue q → is_idle q.state ≡ false → IsQueue (with_message None q)
no-message-queue q s busy = message-queue None q s busy (record {}) (none-taken q.receives)

-- an answer stays one where the expected PSN goes on
answer-on : (mtu expected count : ℕ) (a : Queued) → IsAnswer mtu expected a → IsAnswer mtu (expected + count) a
answer-on mtu expected count (queued.Ack psn) answer = omega (arith, answer)
answer-on mtu expected count (queued.Rnr psn) answer = omega (arith, answer)
answer-on mtu expected count (queued.Nak psn code) answer = omega (arith, answer)
answer-on mtu expected count (queued.Read psn key address left first envelope duplicate) answer =
    (omega (arith, answer.0), more (expected - psn) (expected + count - psn) (omega arith) answer.1)
  where
    more : (k j : ℕ) → k ≤ j → left ≤ k * mtu → left ≤ j * mtu
    more k j le enough = omega (arith, enough, mul-le-mul_right mtu le)
answer-on mtu expected count (queued.Atomic psn found duplicate) answer = omega (arith, answer)

answers-on : (mtu expected count : ℕ) (xs : List Queued) → AllByRecursion (IsAnswer mtu expected) xs → AllByRecursion (IsAnswer mtu (expected + count)) xs
answers-on mtu expected count [] all = record {}
answers-on mtu expected count (a ∷ xs) all = (answer-on mtu expected count a all.0, answers-on mtu expected count xs all.1)

ack-at-end : (mtu expected psn : ℕ) (xs : List Queued) → psn ≤ expected → AllByRecursion (IsAnswer mtu expected) xs
    → AllByRecursion (IsAnswer mtu expected) (with_ack_at_end psn xs)
ack-at-end mtu expected psn [] le all = (le, record {})
ack-at-end mtu expected psn (a ∷ []) le all = by (is_ack a)
  where
    by : (b : Bool) → AllByRecursion (IsAnswer mtu expected) (if b then queued.Ack psn ∷ [] else a ∷ queued.Ack psn ∷ [])
    by true = (le, record {})
    by false = (all.0, (le, record {}))
ack-at-end mtu expected psn (a ∷ b ∷ rest) le all = (all.0, ack-at-end mtu expected psn (b ∷ rest) le all.1)

-- a packet is accepted
pub packet-queue : (p : Fields) (count : ℕ) (at_end asks_ack : Bool) (q : QueuePair) → IsQueue q → is_idle q.state ≡ false → IsQueue (queue_after_packet p count at_end asks_ack q)
packet-queue p count at_end asks_ack q s busy = responder-queue q (queue_after_packet p count at_end asks_ack q).responder s refl (record {
  base = omega (arith, s.responder.base);
  msn = msn at_end;
  mtu = s.responder.mtu;
  rnr_code = s.responder.rnr_code;
  message = s.responder.message;
  answers = answers (asks_ack && p.ack);
  silent = λ idle. absurd (true≢false (sym idle ∙ busy));
  empty = s.responder.empty;
}) s.taken
  where
    msn : (b : Bool) → (if b then suc q.responder.msn % 2 ^ 24 else q.responder.msn) < 2 ^ 24
    msn true = omega arith
    msn false = s.responder.msn

    on : AllByRecursion (IsAnswer q.responder.mtu (q.responder.expected + count)) q.responder.answers
    on = answers-on q.responder.mtu q.responder.expected count q.responder.answers s.responder.answers

    answers : (b : Bool) → AllByRecursion (IsAnswer q.responder.mtu (q.responder.expected + count))
        (if b then with_ack_at_end q.responder.expected q.responder.answers else q.responder.answers)
    answers true = ack-at-end q.responder.mtu (q.responder.expected + count) q.responder.expected q.responder.answers (omega arith) on
    answers false = on

-- a packet is accepted that queues its own answer
pub packet-answer-queue : (p : Fields) (count : ℕ) (at_end : Bool) (a : Queued) (q : QueuePair) → IsQueue q → is_idle q.state ≡ false
    → IsAnswer q.responder.mtu (q.responder.expected + count) a → IsQueue (queue_after_packet p count at_end false (with_answer a q))
packet-answer-queue p count at_end a q s busy answer = responder-queue q (queue_after_packet p count at_end false (with_answer a q)).responder s refl (record {
  base = omega (arith, s.responder.base);
  msn = msn at_end;
  mtu = s.responder.mtu;
  rnr_code = s.responder.rnr_code;
  message = s.responder.message;
  answers = all-append (IsAnswer q.responder.mtu (q.responder.expected + count)) q.responder.answers (a ∷ [])
      (answers-on q.responder.mtu q.responder.expected count q.responder.answers s.responder.answers) (answer, record {});
  silent = λ idle. absurd (true≢false (sym idle ∙ busy));
  empty = s.responder.empty;
}) s.taken
  where
    msn : (b : Bool) → (if b then suc q.responder.msn % 2 ^ 24 else q.responder.msn) < 2 ^ 24
    msn true = omega arith
    msn false = s.responder.msn

-- a NAK at the expected PSN: the queue pair moves to Error
pub refusal-good : (code : NakCode) (q : QueuePair) → IsQueue q → is_idle q.state ≡ false → IsGood q (refusal_effects code q)
refusal-good code q s busy = record {
  sound = error-queue answered (answer-queue (queued.Nak q.responder.expected (nak_code code)) q s busy (omega arith));
  later = later-on q answered (in_error answered) (responder-later q answered.responder)
      (error-later answered (answer-queue (queued.Nak q.responder.expected (nak_code code)) q s busy (omega arith)));
  settled = settled-later (in_error q) (in_error answered) (flush_marks q) (record {
    queue = refl;
    domain = refl;
    send_cq = refl;
    recv_cq = refl;
    srq = refl;
    finished = omega arith;
    taken = taken-same (in_error q).receives;
  }) (flush-settled q s.requester.finished (omega (arith, s.requester.begun, s.requester.waiting)) s.receives s.taken);
  order = order-as q (queue_and_marks (in_error q) (flush_marks q)) (refusal_effects code q) (record { sends = refl; receives = refl; oldest = refl; in_use = refl }) refl refl
      (flush-order q s.requester.finished (omega (arith, s.requester.begun, s.requester.waiting)) s.receives s.taken);
}
  where
    answered : QueuePair
    answered = with_answer (queued.Nak q.responder.expected (nak_code code)) q

-- a receive that a message holds or takes
pub record IsHeld (q : QueuePair) (r : PlacedReceive) : Type 0 where
  pub receive : IsReceive r.receive
  pub taken : IsFinished q true r.place

-- the receive of the message in progress fails, and the packet is refused
pub receive-failure-good : (q : QueuePair) (r : PlacedReceive) (status : WcStatus) (cause : Option OpRefusal) (code : NakCode) → IsQueue q → is_idle q.state ≡ false
    → IsHeld q r → IsGood (holding r q) (receive_failure_effects q r status cause code)
receive-failure-good q r status cause code s busy held = record {
  sound = refused.sound;
  later = later-on (holding r q) without (refusal_effects code without).queue (responder-later (holding r q) without.responder) refused.later;
  settled = ((refl, held-on q.receives s.receives held.taken), refused.settled);
  order = order-then (holding r q) (queue_and_marks without (receive_failure q.queue r.place r.receive status cause ∷ [])) (refusal_effects code without) refl
      (receive-order r q without r.receive.id status operations.Recv 0 None None cause (record { sends = refl; receives = refl; oldest = refl; in_use = refl }) held.taken)
      refused.order;
}
  where
    without : QueuePair
    without = with_message None q

    refused : IsGood without (refusal_effects code without)
    refused = refusal-good code without (no-message-queue q s busy) busy

    held-on : (o : Option (WorkQueue RecvRequest)) → IfSome o IsReceives → IfSome o (λ x. r.place < x.next_taken)
        → IfSome (option_map with_all_taken o) (λ x. r.place < x.next_taken)
    held-on None all taken = record {}
    held-on (Some x) all taken = omega (arith, taken, all.waiting)

-- segments of a path MTU have room for all bytes
pub segments-enough : (mtu count : ℕ) → is_path_mtu mtu ≡ true → count ≤ segments mtu count * mtu
segments-enough mtu count e = by (mtu == 256) refl (mtu == 512) refl (mtu == 1024) refl (mtu == 2048) refl (mtu == 4096) refl e
  where
    enough : (m : ℕ) → mtu ≡ m → count ≤ segments m count * m → count ≤ segments mtu count * mtu
    enough m is le = subst (λ x. count ≤ segments x count * x) (sym is) le

    by : (a : Bool) → (mtu == 256) ≡ a → (b : Bool) → (mtu == 512) ≡ b → (c : Bool) → (mtu == 1024) ≡ c → (d : Bool) → (mtu == 2048) ≡ d
        → (f : Bool) → (mtu == 4096) ≡ f → (a || b || c || d || f) ≡ true → count ≤ segments mtu count * mtu
    by true is b b-is c c-is d d-is f f-is e = enough 256 (eqb-true mtu 256 is) (omega arith)
    by false a-is true is c c-is d d-is f f-is e = enough 512 (eqb-true mtu 512 is) (omega arith)
    by false a-is false b-is true is d d-is f f-is e = enough 1024 (eqb-true mtu 1024 is) (omega arith)
    by false a-is false b-is false c-is true is f f-is e = enough 2048 (eqb-true mtu 2048 is) (omega arith)
    by false a-is false b-is false c-is false d-is true is e = enough 4096 (eqb-true mtu 4096 is) (omega arith)
    by false a-is false b-is false c-is false d-is false is e = absurd (true≢false (sym e))

all-at : {A : Type 0} (P : A → Type 0) (xs : List A) (i : ℕ) (x : A) → AllByRecursion P xs → slice_get xs i ≡ Some x → P x
all-at P [] i x all e = absurd (true≢false (sym (ap is_some e)))
all-at P (y ∷ xs) zero x all e = subst P (same_Some y x e) all.0
all-at P (y ∷ xs) (suc i) x all e = all-at P xs i x all.1 e

-- the next receive of its own
record IsOwn (r : WorkQueue RecvRequest) (x : RecvRequest) : Type 0 where
  receive : IsReceive x
  more : r.next_taken < next_place r

own-receive : (r : WorkQueue RecvRequest) (x : RecvRequest) → IsReceives r → item_at r.next_taken r ≡ Some x → IsOwn r x
own-receive r x s e = by (nat_lt r.next_taken r.first) refl e
  where
    by : (b : Bool) → nat_lt r.next_taken r.first ≡ b → (if b then None else slice_get r.items (r.next_taken - r.first)) ≡ Some x → IsOwn r x
    by true low e = absurd (true≢false (sym (ap is_some e)))
    by false low e = record {
      receive = all-at IsReceive r.items (r.next_taken - r.first) x s.queue.items e;
      more = omega (arith, s.taken, slice_get_within r.items (r.next_taken - r.first) x e);
    }

-- what comes of the receive that a message takes
pub record IsTaking (q : QueuePair) (r : PlacedReceive) : Type 0 where
  pub sound : IsQueue (with_receive_taken q)
  pub held : IsHeld (with_receive_taken q) r
  pub place : IfSome q.receives (λ x. r.place ≡ x.next_taken)
  pub later : IsLater q (with_receive_taken q)

taken-queue : (q : QueuePair) → IsQueue q → IfSome q.receives (λ r. r.next_taken < next_place r) → IsQueue (with_receive_taken q)
taken-queue q s more = record {
  sends = s.sends;
  receives = receives q.receives s.receives more;
  source = some q.receives ∙ s.source;
  requester = s.requester;
  begun = s.begun;
  responder = s.responder;
  taken = taken q.receives q.responder.message s.taken;
  peer = s.peer;
  connected = s.connected;
  saved = s.saved;
}
  where
    receives : (o : Option (WorkQueue RecvRequest)) → IfSome o IsReceives → IfSome o (λ r. r.next_taken < next_place r) → IfSome (option_map after_take o) IsReceives
    receives None s more = record {}
    receives (Some r) s more = record {
      queue = record { some = s.queue.some; depth = s.queue.depth; room = s.queue.room; items = s.queue.items };
      taken = omega (arith, s.taken);
      waiting = more;
    }

    some : (o : Option (WorkQueue RecvRequest)) → is_some (option_map after_take o) ≡ is_some o
    some None = refl
    some (Some r) = refl

    taken : (o : Option (WorkQueue RecvRequest)) (m : Option Message) → IsTaken o m → IsTaken (option_map after_take o) m
    taken None m t = record {}
    taken (Some r) None t = record {}
    taken (Some r) (Some (messages.Send place receive bytes)) t = omega (arith, t)
    taken (Some r) (Some (messages.Write key address left count)) t = record {}

taken-later-queue : (q : QueuePair) → IsLater q (with_receive_taken q)
taken-later-queue q = record { queue = refl; domain = refl; send_cq = refl; recv_cq = refl; srq = refl; finished = omega arith; taken = by q.receives }
  where
    by : (o : Option (WorkQueue RecvRequest)) → IsTakenOn o (option_map after_take o)
    by None = record {}
    by (Some r) = omega arith

pub taking : (q : QueuePair) (shared : Option SharedReceives) (r : PlacedReceive) → IsQueue q → IfSome shared IsSharedReceives → next_receive q shared ≡ Some r → IsTaking q r
taking q shared r s all e = by q.srq refl q.receives refl (s.source) e
  where
    own : WorkQueue RecvRequest → Option PlacedReceive
    own r = option_map (λ x. record { place = r.next_taken; receive = x }) (item_at r.next_taken r)

    from : Option ℕ → Option PlacedReceive
    from (Some srq) = option_and_then first_receive shared
    from None = option_and_then own q.receives

    first : (o : Option SharedReceives) → IfSome o IsSharedReceives → option_and_then first_receive o ≡ Some r → IsReceive r.receive
    first None all e = absurd (true≢false (sym (ap is_some e)))
    first (Some x) all e = (all-at (λ y. IsReceive y.receive × (y.place < x.next)) x.waiting 0 r all.waiting e).0

    none : (o : Option (WorkQueue RecvRequest)) → is_some o ≡ false → IfSome o (λ r. r.next_taken < next_place r)
    none None e = record {}
    none (Some x) e = absurd (true≢false e)

    finished : (o : Option (WorkQueue RecvRequest)) → is_some o ≡ false → IfSome (option_map after_take o) (λ x. r.place < x.next_taken)
    finished None e = record {}
    finished (Some x) e = absurd (true≢false e)

    at : (o : Option (WorkQueue RecvRequest)) → is_some o ≡ false → IfSome o (λ x. r.place ≡ x.next_taken)
    at None e = record {}
    at (Some x) e = absurd (true≢false e)

    item : (x : WorkQueue RecvRequest) → IsReceives x → (i : Option RecvRequest) → item_at x.next_taken x ≡ i
        → option_map (λ y. record { place = x.next_taken; receive = y }) i ≡ Some r
        → (IsReceive r.receive × (x.next_taken < next_place x) × (r.place ≡ x.next_taken))
    item x sound None is e = absurd (true≢false (sym (ap is_some e)))
    item x sound (Some y) is e = subst (λ (z : PlacedReceive). IsReceive z.receive × (x.next_taken < next_place x) × (z.place ≡ x.next_taken))
        (same_Some (record { place = x.next_taken; receive = y }) r e)
        ((own-receive x y sound is).receive, (own-receive x y sound is).more, refl)

    by : (srq : Option ℕ) → q.srq ≡ srq → (receives : Option (WorkQueue RecvRequest)) → q.receives ≡ receives → is_some q.receives ≡ is_none q.srq
        → from srq ≡ Some r → IsTaking q r
    by (Some srq) is receives own-is source e = record {
      sound = taken-queue q s (none q.receives (source ∙ ap is_none is));
      held = record { receive = first shared all e; taken = finished q.receives (source ∙ ap is_none is) };
      place = at q.receives (source ∙ ap is_none is);
      later = taken-later-queue q;
    }
    by None is None own-is source e = absurd (true≢false (sym (ap is_some (sym (ap (λ o. option_and_then own o) own-is) ∙ e))))
    by None is (Some x) own-is source e = record {
      sound = taken-queue q s (subst (λ o. IfSome o (λ r. r.next_taken < next_place r)) (sym own-is) (parts sound).1);
      held = record {
        receive = (parts sound).0;
        taken = subst (λ o. IfSome (option_map after_take o) (λ x. r.place < x.next_taken)) (sym own-is) (omega (arith, (parts sound).2));
      };
      place = subst (λ o. IfSome o (λ x. r.place ≡ x.next_taken)) (sym own-is) (parts sound).2;
      later = taken-later-queue q;
    }
      where
        sound : IsReceives x
        sound = subst (λ o. IfSome o IsReceives) own-is s.receives

        parts : IsReceives x → IsReceive r.receive × (x.next_taken < next_place x) × (r.place ≡ x.next_taken)
        parts all = item x all (item_at x.next_taken x) refl (sym (ap (λ o. option_and_then own o) own-is) ∙ e)
