-- What requests ahead, duplicates and the responder's turn make of a queue pair that can come up, and any packet that arrives.
use Rattle.std.proofs.Common.{zero, ◌≡◌, ℕ, suc, ◌+◌, ◌-◌, ◌*◌, ◌≤◌, ◌<◌, nat_le, nat_lt, arith, Bool, true, false, List, [], ◌∷◌, length, drop, filter, Option, None, Some, IfSome, ◌∙◌, ◌==◌, ap, sym, true≢false, if◌then◌else◌, slice_get, refl}
use Rattle.std.proofs.Math.Nat.{mul-le-mul_right}
use Rattle.std.proofs.lemmas.Bool.{leb-true, leb-false, ltb-true, not-false}
use Rattle.std.specs.List.{AllByRecursion, flat_map}
use Rattle.std.specs.Option.{option_map_or}
use Rattle.ca_base.specs.declared.change.State.{State}
use Rattle.ca_base.specs.declared.change.State.TheVariants as states
use Rattle.ca_base.specs.declared.limits.TheConstants.{MAX_DUPLICATES, MAX_PIECES}
use Rattle.ca_base.specs.declared.queue_numbers.Queued.{Queued}
use Rattle.ca_base.specs.declared.queue_numbers.Queued.TheVariants as queued
use Rattle.ca_base.specs.declared.step.Reason.{Reason}
use Rattle.ca_base.specs.declared.step.Reason.TheVariants as reasons
use Rattle.ca_keys.specs.declared.verdict.Verdict.TheVariants as verdicts
use Rattle.ca_keys.specs.Refusals.{first_of}
use Rattle.ca_base.specs.objects.Answers.{answers_before, duplicate_count, psn_of_answer}
use Rattle.ca_base.specs.objects.QueuePair.{QueuePair, in_error, without_answers}
use Rattle.ca_base.specs.objects.Saved.{saved_at}
use Rattle.ca_base.specs.objects.SharedReceives.{SharedReceives}
use Rattle.ca_model.specs.ca_wire.declared.reth.Reth.{Reth}
use Rattle.ca_model.specs.ca_wire.declared.syndrome.NakCode.TheVariants.{PsnSequenceError}
use Rattle.ca_model.specs.ca_wire.Builders.{acknowledgement, atomic_acknowledge, nak, read_response, rnr_nak}
use Rattle.ca_model.specs.ca_wire.Packet.{Fields}
use Rattle.ca_model.specs.ca_wire.Syndrome.{nak_code}
use Rattle.ca_model.specs.declared.mark.Drop1.TheVariants as drops
use Rattle.ca_model.specs.Requests.{segments}
use Rattle.ca_model.specs.machine.Arrivals.{remote_mark, with_answer, with_flag, with_responder}
use Rattle.ca_model.specs.machine.Completions.{flush_marks}
use Rattle.ca_model.specs.machine.Delivery.{arrival_drops, arrival_row}
use Rattle.ca_model.specs.machine.Duplicates.{ack_again, ahead_effects, answer_again, atomic_again, duplicate_effects, read_again, request_row, with_answers_before}
use Rattle.ca_model.specs.declared.read_left.ReadLeft.{ReadLeft}
use Rattle.ca_model.specs.machine.Respond.{answer_turn, is_last_response, nak_of, response_segment, read_row, respond_refusals, respond_row, response_ask, response_length, rest_of, with_front, with_packet, without_front}
use Rattle.ca_model.specs.machine.Requester.{peer_number, psn_bits}
use Rattle.ca_model.specs.machine.Responses.{drop_effects}
use Rattle.ca_model.specs.machine.Row.{Effects, NotPossible, Row, plain_row, queue_and_marks}
use Rattle.ca_model.specs.ca_wire.declared.shape.Shape.{Shape}
use Rattle.ca_model.specs.ca_wire.declared.shape.Shape.TheVariants as shapes
use Rattle.ca_model.specs.machine.Invariants.{IsAnswer, IsQueue, IsSharedReceives, is_connected, is_idle}
use Rattle.ca_law_world.proofs.Sound.ArrivalLemmas.{answer-queue, flag-queue, responder-later, responder-queue, segments-enough}
use Rattle.ca_law_world.proofs.Sound.ExpectedLemmas.{expected-good, responder-good}
use Rattle.ca_law_world.proofs.Sound.GoodLemmas.{AreSettledMarks, IsGood, error-later, error-queue, flush-settled, later-on, later-same, settled-later, silent-later, silent-queue}
use Rattle.ca_law_world.proofs.Sound.OrderLemmas.{order-as, order-still, silent-order}
use Rattle.ca_law_world.proofs.Sound.ResponseLemmas.{IsGoodRow, drop-good, plain-good, response-good}
use Rattle.ca_law_world.proofs.Sound.TurnLemmas.{all-fail}
use Rattle.ca_law_world.proofs.Sound.RowWalks.{walk-arrival, walk-request}

all-filtered : {A : Type 0} (P : A → Type 0) (test : A → Bool) (xs : List A) → AllByRecursion P xs → AllByRecursion P (filter test xs)
all-filtered P test [] all = record {}
all-filtered P test (x ∷ xs) all = by (test x) (all-filtered P test xs all.1)
  where
    by : (b : Bool) → AllByRecursion P (filter test xs) → AllByRecursion P (if b then x ∷ filter test xs else filter test xs)
    by true rest = (all.0, rest)
    by false rest = rest

-- other answers, each of them sound, in a state in which something is taken
answers-queue : (answers : List Queued) (flag : Bool) (q : QueuePair) → IsQueue q → is_idle q.state ≡ false
    → AllByRecursion (IsAnswer q.responder.mtu q.responder.expected) answers → IsQueue (with_responder (record q.responder { answers = answers; nak_sent = flag }) q)
answers-queue answers flag q s busy all = responder-queue q (record q.responder { answers = answers; nak_sent = flag }) s refl (record {
  base = s.responder.base;
  msn = s.responder.msn;
  mtu = s.responder.mtu;
  rnr_code = s.responder.rnr_code;
  message = s.responder.message;
  answers = all;
  silent = λ idle. absurd (true≢false (sym idle ∙ busy));
  empty = s.responder.empty;
}) s.taken

ahead-good : (q : QueuePair) → IsQueue q → is_idle q.state ≡ false → IsGood q (ahead_effects q)
ahead-good q s busy = by q.responder.nak_sent
  where
    nak : QueuePair
    nak = with_answer (queued.Nak q.responder.expected (nak_code PsnSequenceError)) q

    by : (b : Bool) → IsGood q (if b then drop_effects q drops.Stale else queue_and_marks (with_flag true nak) [])
    by true = drop-good q drops.Stale s
    by false = responder-good q (with_flag true nak)
        (flag-queue true nak (answer-queue (queued.Nak q.responder.expected (nak_code PsnSequenceError)) q s busy (omega arith)))
        (later-on q nak (with_flag true nak) (responder-later q nak.responder) (responder-later nak (with_flag true nak).responder))
        (record { sends = refl; receives = refl; oldest = refl; in_use = refl })

again-good : (psn : ℕ) (answer : Queued) (q : QueuePair) → IsQueue q → is_idle q.state ≡ false → IsAnswer q.responder.mtu q.responder.expected answer
    → IsGood q (answer_again psn answer q)
again-good psn answer q s busy one = responder-good q (with_answer answer before)
    (answer-queue answer before (answers-queue (answers_before psn q.responder.answers) before.responder.nak_sent q s busy
    (all-filtered (IsAnswer q.responder.mtu q.responder.expected) (λ a. nat_lt (psn_of_answer a) psn) q.responder.answers s.responder.answers)) busy one)
    (later-on q before (with_answer answer before) (responder-later q before.responder) (responder-later before (with_answer answer before).responder))
    (record { sends = refl; receives = refl; oldest = refl; in_use = refl })
  where
    before : QueuePair
    before = with_answers_before psn q

read-again-good : (psn : ℕ) (envelope : Option ℕ) (h : Reth) (q : QueuePair) → IsQueue q → is_idle q.state ≡ false → IsGood q (read_again psn envelope h q)
read-again-good psn envelope h q s busy = by (nat_le (psn + segments q.responder.mtu h.length) q.responder.expected) refl
  where
    within : nat_le (psn + segments q.responder.mtu h.length) q.responder.expected ≡ true → psn + segments q.responder.mtu h.length ≤ q.responder.expected
    within e = leb-true (psn + segments q.responder.mtu h.length) q.responder.expected e

    enough : (k j : ℕ) → segments q.responder.mtu h.length ≡ k → k ≤ j → h.length ≤ j * q.responder.mtu
    enough k j e le = omega (arith, segments-enough q.responder.mtu h.length s.responder.mtu, ap (λ i. i * q.responder.mtu) e, mul-le-mul_right q.responder.mtu le)

    by : (b : Bool) → nat_le (psn + segments q.responder.mtu h.length) q.responder.expected ≡ b
        → IsGood q (if b then answer_again psn (queued.Read psn h.key h.address h.length true envelope true) q else drop_effects q drops.Unsaved)
    by true e = again-good psn (queued.Read psn h.key h.address h.length true envelope true) q s busy
        (omega (arith, within e), enough (segments q.responder.mtu h.length) (q.responder.expected - psn) refl (omega (arith, within e)))
    by false e = drop-good q drops.Unsaved s

duplicate-good : (psn : ℕ) (p : Fields) (envelope : Option ℕ) (shape : Shape) (q : QueuePair) → IsQueue q → is_idle q.state ≡ false → psn < q.responder.expected
    → IsGood q (duplicate_effects psn p envelope shape q)
duplicate-good psn p envelope shape q s busy low = at (nat_le MAX_DUPLICATES (duplicate_count q.responder.answers))
  where
    acks : (b : Bool) → IsGood q (if b then queue_and_marks (with_answer (queued.Ack (q.responder.expected - 1)) q) [] else drop_effects q drops.Unsaved)
    acks true = responder-good q (with_answer (queued.Ack (q.responder.expected - 1)) q) (answer-queue (queued.Ack (q.responder.expected - 1)) q s busy (omega arith))
        (responder-later q (with_answer (queued.Ack (q.responder.expected - 1)) q).responder) (record { sends = refl; receives = refl; oldest = refl; in_use = refl })
    acks false = drop-good q drops.Unsaved s

    reads : (o : Option Reth) → IsGood q (option_map_or (λ h. read_again psn envelope h q) o (drop_effects q drops.Unsaved))
    reads None = drop-good q drops.Unsaved s
    reads (Some h) = read-again-good psn envelope h q s busy

    atomics : (o : Option ℕ) → IsGood q (atomic_again psn o q)
    atomics None = drop-good q drops.Unsaved s
    atomics (Some found) = again-good psn (queued.Atomic psn found true) q s busy (omega (arith, low))

    effects : Shape → Effects
    effects (shapes.Send place) = ack_again q
    effects (shapes.Write place) = ack_again q
    effects shapes.Read = option_map_or (λ h. read_again psn envelope h q) p.reth (drop_effects q drops.Unsaved)
    effects (shapes.Atomic kind) = atomic_again psn (saved_at psn q.saved) q

    by : (shape : Shape) → IsGood q (effects shape)
    by (shapes.Send place) = acks (length q.responder.answers == 0)
    by (shapes.Write place) = acks (length q.responder.answers == 0)
    by shapes.Read = reads p.reth
    by (shapes.Atomic kind) = atomics (saved_at psn q.saved)

    at : (b : Bool) → IsGood q (if b then drop_effects q drops.Unsaved else effects shape)
    at true = drop-good q drops.Unsaved s
    at false = by shape

request-good : (p : Fields) (envelope : Option ℕ) (shared : Option SharedReceives) (shape : Shape) (q : QueuePair) → IsQueue q → is_idle q.state ≡ false
    → IfSome shared IsSharedReceives → IsGoodRow q (request_row p envelope shared shape q)
request-good p envelope shared shape q s busy all = walk-request (IsGoodRow q) p envelope shared shape q (plain-good q _ (ahead-good q s busy))
    (λ psn e. plain-good q _ (duplicate-good psn p envelope shape q s busy (ltb-true psn q.responder.expected e))) (expected-good q shared p envelope shape s busy all)

-- a queue pair that takes packets is not idle
connected-busy : (q : QueuePair) → is_connected q.state ≡ true → is_idle q.state ≡ false
connected-busy q e = by q.state e
  where
    by : (t : State) → is_connected t ≡ true → is_idle t ≡ false
    by states.Reset e = absurd (true≢false (sym e))
    by states.Init e = absurd (true≢false (sym e))
    by states.Rtr e = refl
    by states.Rts e = refl
    by states.Sqd e = refl
    by states.Error e = refl

pub arrival-good : (bytes : List ℕ) (envelope : Option ℕ) (shared : Option SharedReceives) (q : QueuePair) → IsQueue q → IfSome shared IsSharedReceives
    → IsGoodRow q (arrival_row bytes envelope shared q)
arrival-good bytes envelope shared q s all =
    walk-arrival (IsGoodRow q) bytes envelope shared q (λ cause. plain-good q _ (drop-good q cause s)) (λ p none. response-good p q s)
    (λ p shape none. request-good p envelope shared shape q s (connected-busy q (not-false (is_connected q.state) (all-fail (arrival_drops q p) none).1.1.0)) all)

drop-all : {A : Type 0} (P : A → Type 0) (xs : List A) → AllByRecursion P xs → AllByRecursion P (drop 1 xs)
drop-all P [] all = record {}
drop-all P (x ∷ xs) all = all.1

front-queue : (q : QueuePair) → IsQueue q → is_idle q.state ≡ false → IsQueue (without_front q)
front-queue q s busy = answers-queue (drop 1 q.responder.answers) q.responder.nak_sent q s busy
    (drop-all (IsAnswer q.responder.mtu q.responder.expected) q.responder.answers s.responder.answers)

front-good : (q : QueuePair) (p : Fields) → IsQueue q → is_idle q.state ≡ false → IsGood q (with_packet p (queue_and_marks (without_front q) []))
front-good q p s busy = record {
  sound = front-queue q s busy;
  later = responder-later q (without_front q).responder;
  settled = record {};
  order = order-still q (with_packet p (queue_and_marks (without_front q) [])) (record { sends = refl; receives = refl; oldest = refl; in_use = refl }) refl;
}

-- what is left of a READ after its next response, where that is not the last
rest-answer : (q : QueuePair) (r : ReadLeft) → nat_le r.left q.responder.mtu ≡ false → r.psn < q.responder.expected
    → r.left ≤ (q.responder.expected - r.psn) * q.responder.mtu → IsAnswer q.responder.mtu q.responder.expected (rest_of q r)
rest-answer q r more low enough = by (q.responder.expected - r.psn) refl enough
  where
    by : (k : ℕ) → q.responder.expected - r.psn ≡ k → r.left ≤ k * q.responder.mtu
        → (suc r.psn < q.responder.expected) × (r.left - response_length q r ≤ (q.responder.expected - suc r.psn) * q.responder.mtu)
    by zero e le = absurd (omega (arith, e, low))
    by (suc zero) e le = absurd (omega (arith, le, leb-false r.left q.responder.mtu more))
    by (suc (suc k)) e le = (omega (arith, e), omega (arith, le, leb-false r.left q.responder.mtu more, ap (λ i. i * q.responder.mtu) (rest e)))
      where
        rest : q.responder.expected - r.psn ≡ suc (suc k) → q.responder.expected - suc r.psn ≡ suc k
        rest e = omega (arith, e)

read-left-good : (q : QueuePair) (r : ReadLeft) → IsQueue q → is_idle q.state ≡ false → r.psn < q.responder.expected
    → r.left ≤ (q.responder.expected - r.psn) * q.responder.mtu → IsGoodRow q (read_row q r)
read-left-good q r s busy low enough = record {
  denied = λ d. record {
    sound = silent-queue (in_error q) (error-queue q s);
    later = silent-later q (in_error q) (error-later q s);
    settled = (record {}, settled-silent);
    order = order-as q (queue_and_marks (without_answers (in_error q)) (flush_marks q)) _ (record { sends = refl; receives = refl; oldest = refl; in_use = refl }) refl refl
        (silent-order q s.requester.finished (omega (arith, s.requester.begun, s.requester.waiting)) s.receives s.taken);
  };
  allowed = λ bytes refusal. answered (flat_map (λ b. b) bytes) (is_last_response q r) refl;
  few = few (r.left == 0);
}
  where
    few : (b : Bool) → length (if b then [] else response_ask q r ∷ []) ≤ MAX_PIECES
    few true = omega arith
    few false = omega arith

    settled-silent : AreSettledMarks (without_answers (in_error q)) (flush_marks q)
    settled-silent = settled-later (in_error q) (without_answers (in_error q)) (flush_marks q) (silent-later (in_error q) (in_error q) (later-same (in_error q)))
        (flush-settled q s.requester.finished (omega (arith, s.requester.begun, s.requester.waiting)) s.receives s.taken)

    next : Bool → QueuePair
    next b = if b then without_front q else with_front (rest_of q r) q

    packet : List ℕ → Fields
    packet bytes = read_response (response_segment r.first (is_last_response q r)) (peer_number q) (psn_bits r.psn) q.responder.msn bytes

    rest : AllByRecursion (IsAnswer q.responder.mtu q.responder.expected) (drop 1 q.responder.answers)
    rest = drop-all (IsAnswer q.responder.mtu q.responder.expected) q.responder.answers s.responder.answers

    answered : (bytes : List ℕ) (b : Bool) → is_last_response q r ≡ b → IsGood q (with_packet (packet bytes) (queue_and_marks (next b)
        (remote_mark (response_ask q r) r.envelope (verdicts.Read bytes) ∷ [])))
    answered bytes true e = record {
      sound = front-queue q s busy;
      later = responder-later q (without_front q).responder;
      settled = (record {}, record {});
      order = order-still q _ (record { sends = refl; receives = refl; oldest = refl; in_use = refl }) refl;
    }
    answered bytes false e = record {
      sound = answers-queue (rest_of q r ∷ drop 1 q.responder.answers) q.responder.nak_sent q s busy (rest-answer q r e low enough, rest);
      later = responder-later q (with_front (rest_of q r) q).responder;
      settled = (record {}, record {});
      order = order-still q _ (record { sends = refl; receives = refl; oldest = refl; in_use = refl }) refl;
    }

pub respond-good : (room : Bool) (q : QueuePair) → IsQueue q → IsGoodRow q (respond_row room q)
respond-good room q s = by (first_of (respond_refusals room q)) refl q.responder.answers s.responder.answers refl
  where
    front : Option Reason → Option Queued → Row
    front (Some reason) answer = plain_row (NotPossible reason)
    front None None = plain_row (NotPossible reasons.Empty)
    front None (Some answer) = answer_turn q answer

    turn : (a : Queued) → IsAnswer q.responder.mtu q.responder.expected a → is_idle q.state ≡ false → IsGoodRow q (answer_turn q a)
    turn (queued.Ack psn) answer busy = plain-good q _ (front-good q (acknowledgement (peer_number q) (psn_bits psn) q.responder.msn) s busy)
    turn (queued.Rnr psn) answer busy = plain-good q _ (front-good q (rnr_nak q.responder.rnr_code (peer_number q) (psn_bits psn) q.responder.msn) s busy)
    turn (queued.Nak psn code) answer busy = plain-good q _ (front-good q (nak (nak_of code) (peer_number q) (psn_bits psn) q.responder.msn) s busy)
    turn (queued.Read psn key address left first envelope duplicate) answer busy = read-left-good q (record {
      psn = psn;
      key = key;
      address = address;
      left = left;
      first = first;
      envelope = envelope;
      duplicate = duplicate;
    }) s busy answer.0 answer.1
    turn (queued.Atomic psn found duplicate) answer busy =
        plain-good q _ (front-good q (atomic_acknowledge found (peer_number q) (psn_bits psn) q.responder.msn) s busy)

    by : (o : Option Reason) → first_of (respond_refusals room q) ≡ o → (xs : List Queued) → AllByRecursion (IsAnswer q.responder.mtu q.responder.expected) xs
        → q.responder.answers ≡ xs → IsGoodRow q (front o (slice_get xs 0))
    by (Some reason) e xs all is = plain-good q (NotPossible reason) (record {})
    by None e [] all is = plain-good q (NotPossible reasons.Empty) (record {})
    by None e (a ∷ xs) all is = turn a all.0 (all-fail (respond_refusals room q) e).0
