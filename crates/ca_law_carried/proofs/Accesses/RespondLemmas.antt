-- The rows of a responder's turn: each READ that they make is the rest of one that arrived. For proofs only.
use Rattle.std.proofs.Common.{Bool, List, None, Option, Some, [], ap, append-nil, arith, drop, eq-eqb, eqb-true, false, if◌then◌else◌, is_some, leb-true, length, map, min, nat_le, nat_lt, refl, slice_get, subst, suc, sym, true, true≢false, zero, ℕ, ◌%◌, ◌&&◌, ◌+◌, ◌-◌, ◌<◌, ◌==◌, ◌^◌, ◌||◌, ◌∙◌, ◌∷◌, ◌≡◌, ◌≤◌}
use Rattle.std.proofs.Math.Nat.{add-mod_right}
use Rattle.std.proofs.lemmas.Bool.{and_parts, le-leb, leb-false, lt-ltb}
use Rattle.std.proofs.lemmas.List.Sums.{sum_by-cons}
use Rattle.std.proofs.lemmas.Option.{same_Some}
use Rattle.std.specs.List.{AllByRecursion, flat_map, list_any}
use Rattle.std.specs.Option.{option_eq}
use Rattle.ca_law_carried.proofs.Accesses.CarryLemmas.{Carries, is_accessed, leaves-remote, passes-append, quiet-carries}
use Rattle.ca_law_carried.proofs.Accesses.EndLemmas.{RowSees, one-denied}
use Rattle.ca_law_carried.proofs.Accesses.QuietLemmas.{AreUnheard, IsLess, plain-unheard}
use Rattle.ca_law_carried.specs.Accesses.{GoesOn, IsAsked}
use Rattle.ca_law_keys.proofs.Keys.KeyTurnLemmas.{found}
use Rattle.ca_law_keys.proofs.Keys.PlainLemmas.{flush-plain}
use Rattle.ca_base.specs.Sight.{Sight, bytes_in, runs_by_grant}
use Rattle.ca_base.specs.declared.queue_numbers.Queued.{Queued}
use Rattle.ca_base.specs.declared.step.Reason.{Reason}
use Rattle.ca_base.specs.objects.QueuePair.{QueuePair, in_error, without_answers}
use Rattle.ca_law_keys.proofs.Judged.JudgeLemmas.{both-true}
use Rattle.ca_law_keys.proofs.Judged.WholeLemmas.{bytes-count}
use Rattle.ca_keys.specs.Equal.{key_eq}
use Rattle.ca_keys.specs.Memory.{cut, places_count, run_part}
use Rattle.ca_keys.specs.Refusals.{first_of}
use Rattle.ca_keys.specs.declared.access.Ask.{Ask}
use Rattle.ca_keys.specs.declared.access.Denial.{Denial}
use Rattle.ca_keys.specs.declared.grant.Grant.{Grant}
use Rattle.ca_keys.specs.declared.key.Key.{Key}
use Rattle.ca_keys.specs.declared.names.QueueId.{QueueId}
use Rattle.ca_keys.specs.declared.place.Run.{Run}
use Rattle.ca_keys.specs.declared.verdict.Verdict.{Verdict}
use Rattle.ca_model.specs.Carried.{is_respond_of, is_rest_of, reads_at_most}
use Rattle.ca_model.specs.Past.{LatestWrite, Past, ReadRequest, mtu_of, present_incarnation, remote_ask}
use Rattle.ca_model.specs.declared.read_left.ReadLeft.{ReadLeft}
use Rattle.ca_model.specs.machine.Arrivals.{remote_mark}
use Rattle.ca_model.specs.machine.Completions.{flush_marks}
use Rattle.ca_model.specs.machine.Requester.{peer_number, psn_bits}
use Rattle.ca_model.specs.machine.Respond.{answer_turn, is_last_response, nak_of, read_answer, read_row, respond_refusals, respond_row, response_ask, response_length, rest_of, with_front, with_packet, without_front}
use Rattle.ca_model.specs.machine.Row.{Does, Effects, NotPossible, Row, plain_row, queue_and_marks}
use Rattle.ca_wire.specs.Packet.{follows}
use Rattle.ca_wire.specs.Builders.{acknowledgement, atomic_acknowledge, nak, rnr_nak}
use Rattle.ca_wire.specs.declared.syndrome.NakCode.TheVariants.{RemoteAccessError}
use Rattle.ca_keys.specs.declared.access.Kind.TheVariants as kinds
use Rattle.ca_model.specs.declared.mark.Mark.TheVariants as marks
use Rattle.ca_base.specs.declared.queue_numbers.Queued.TheVariants as queued
use Rattle.ca_base.specs.declared.step.Reason.TheVariants as reasons
use Rattle.ca_keys.specs.declared.verdict.Verdict.TheVariants as verdicts

-- a past in which it is the turn of a queue pair's responder, with this path MTU and these requests
pub record RespondsAt (queue : QueueId) (size : ℕ) (rs : List ReadRequest) (l : Option LatestWrite) (p : Past) : Type 0 where
  pub latest : p.latest_write queue ≡ l
  pub event : is_respond_of queue p.at_hand.event ≡ true
  pub mtu : mtu_of p queue ≡ size
  pub requests : p.read_requests (present_incarnation p queue) ≡ rs

-- ---- numbers

any-follows : (one other : ReadRequest → Bool) (rs : List ReadRequest) → ((r : ReadRequest) → one r ≡ true → other r ≡ true) → list_any one rs ≡ true → list_any other rs ≡ true
any-follows one other [] follows any = any
any-follows one other (r ∷ rs) follows any = by (one r) refl any (any-follows one other rs follows)
  where
    rest : (b : Bool) → list_any other rs ≡ true → (b || list_any other rs) ≡ true
    rest true any = refl
    rest false any = any

    by : (b : Bool) → one r ≡ b → (b || list_any one rs) ≡ true → (list_any one rs ≡ true → list_any other rs ≡ true) → (other r || list_any other rs) ≡ true
    by true e any more = ap (λ b. b || list_any other rs) (follows r e)
    by false e any more = rest (other r) (more any)

-- without a path MTU of it, the rest of a READ is the rest again
one-left : (mtu : ℕ) (key : Key) (address left : ℕ) (envelope : Option ℕ) (r : ReadRequest) → nat_le left mtu ≡ false → is_rest_of mtu key address left envelope r ≡ true
    → is_rest_of mtu key ((address + min mtu left) % 2 ^ 64) (left - min mtu left) envelope r ≡ true
one-left mtu key address left envelope r long is = both-true _ _ (both-true _ _ (both-true _ _ (both-true _ _ d.0 fits) places) addresses) some
  where
    a : (is_rest_of mtu key address left envelope r ≡ true) × (mtu < left)
    a = (is, leb-false left mtu long)

    b : ((option_eq (λ m n. m == n) r.envelope envelope && key_eq r.key key && nat_le left r.length && ((r.length - left) % mtu == 0) && (address % 2 ^ 64 == (r.address + (r.length - left)) % 2 ^ 64)) ≡ true)
        × ((nat_lt 0 left || (r.length == 0)) ≡ true)
    b = and_parts (option_eq (λ m n. m == n) r.envelope envelope && key_eq r.key key && nat_le left r.length && ((r.length - left) % mtu == 0) && (address % 2 ^ 64 == (r.address + (r.length - left)) % 2 ^ 64))
        (nat_lt 0 left || (r.length == 0)) is

    e : ((option_eq (λ m n. m == n) r.envelope envelope && key_eq r.key key && nat_le left r.length && ((r.length - left) % mtu == 0)) ≡ true) × ((address % 2 ^ 64 == (r.address + (r.length - left)) % 2 ^ 64) ≡ true)
    e = and_parts (option_eq (λ m n. m == n) r.envelope envelope && key_eq r.key key && nat_le left r.length && ((r.length - left) % mtu == 0)) (address % 2 ^ 64 == (r.address + (r.length - left)) % 2 ^ 64) b.0

    f : ((option_eq (λ m n. m == n) r.envelope envelope && key_eq r.key key && nat_le left r.length) ≡ true) × (((r.length - left) % mtu == 0) ≡ true)
    f = and_parts (option_eq (λ m n. m == n) r.envelope envelope && key_eq r.key key && nat_le left r.length) ((r.length - left) % mtu == 0) e.0

    d : ((option_eq (λ m n. m == n) r.envelope envelope && key_eq r.key key) ≡ true) × (nat_le left r.length ≡ true)
    d = and_parts (option_eq (λ m n. m == n) r.envelope envelope && key_eq r.key key) (nat_le left r.length) f.0

    within : left ≤ r.length
    within = leb-true left r.length d.1

    one : min mtu left ≡ mtu
    one = omega (arith, a.1)

    fits : nat_le (left - min mtu left) r.length ≡ true
    fits = le-leb (left - min mtu left) r.length (omega (arith, within))

    places : ((r.length - (left - min mtu left)) % mtu == 0) ≡ true
    places = eq-eqb ((r.length - (left - min mtu left)) % mtu) 0 (ap (λ n. n % mtu) {y = (r.length - left) + mtu} (omega (arith, within, one, a.1)) ∙ add-mod_right (r.length - left) mtu ∙ eqb-true ((r.length - left) % mtu) 0 f.1)

    addresses : (((address + min mtu left) % 2 ^ 64) % 2 ^ 64 == (r.address + (r.length - (left - min mtu left))) % 2 ^ 64) ≡ true
    addresses = eq-eqb (((address + min mtu left) % 2 ^ 64) % 2 ^ 64) ((r.address + (r.length - (left - min mtu left))) % 2 ^ 64)
        (omega (arith, within, one, a.1, eqb-true (address % 2 ^ 64) ((r.address + (r.length - left)) % 2 ^ 64) e.1))

    some : (nat_lt 0 (left - min mtu left) || (r.length == 0)) ≡ true
    some = ap (λ b. b || (r.length == 0)) (lt-ltb 0 (left - min mtu left) (omega (arith, one, a.1)))

-- runs that are cut have no more places than they are cut to
pub cut-few : (skip count : ℕ) (rs : List Run) → places_count (cut skip count rs) ≤ count
cut-few skip count [] = omega arith
cut-few skip count (r ∷ rs) = by (nat_le r.length skip) (count == 0) (cut-few (skip - r.length) count rs) (cut-few 0 (count - (r.length - skip)) rs)
  where
    by : (b z : Bool) → places_count (cut (skip - r.length) count rs) ≤ count → places_count (cut 0 (count - (r.length - skip)) rs) ≤ count - (r.length - skip)
        → places_count (if b then cut (skip - r.length) count rs else if z then [] else run_part r skip (min count (r.length - skip)) ∷ cut 0 (count - (r.length - skip)) rs) ≤ count
    by true z rest more = rest
    by false true rest more = omega arith
    by false false rest more = omega (arith, more, sum_by-cons (λ (r : Run). r.length) (run_part r skip (min count (r.length - skip))) (cut 0 (count - (r.length - skip)) rs))

-- an ask sees no more bytes than it touches
pub seen-few : (s : Sight) (ask : Ask) → length (bytes_in s ask) ≤ ask.touch
seen-few s ask = omega (arith, bytes-count s.byte (runs_by_grant ask (s.grant ask)), by (s.grant ask))
  where
    by : (o : Option Grant) → places_count (runs_by_grant ask o) ≤ ask.touch
    by None = omega arith
    by (Some g) = cut-few (ask.address - g.address) ask.touch g.runs

-- the bytes of a response are no more than the path MTU
pub response-few : (s : Sight) (q : QueuePair) (r : ReadLeft) (none : Bool) → length (flat_map (λ b. b) (map (bytes_in s) (if none then [] else response_ask q r ∷ []))) ≤ q.responder.mtu
response-few s q r true = omega arith
response-few s q r false = omega (arith, ap length (append-nil (bytes_in s (response_ask q r))), seen-few s (response_ask q r))

-- ---- rows

module _ (s : Sight) (l : Option LatestWrite) (rs : List ReadRequest) (q : QueuePair) (write : GoesOn q.responder.message l) (reads : AllByRecursion (IsAsked q.responder.mtu rs) q.responder.answers) where
  abbrev I : Past → Type 0
  I = RespondsAt q.queue q.responder.mtu rs l

  abbrev IsOf : ReadLeft → Type 0
  IsOf r = list_any (is_rest_of q.responder.mtu r.key r.address r.left r.envelope) rs ≡ true

  -- the mark of a READ passes
  read-passes : (r : ReadLeft) (verdict : Verdict) (x : Past) → IsOf r → I x → reads_at_most q.responder.mtu verdict ≡ true
      → is_accessed x (marks.Remote q.queue q.domain r.envelope r.key kinds.Read r.address r.left verdict) ≡ true
  read-passes r verdict x of at most = both-true true _ refl (both-true (is_respond_of q.queue x.at_hand.event && list_any (is_rest_of (mtu_of x q.queue) r.key r.address r.left r.envelope) (x.read_requests (present_incarnation x q.queue))) _
      (both-true (is_respond_of q.queue x.at_hand.event) _ at.event ((λ i. list_any (is_rest_of (at.mtu i) r.key r.address r.left r.envelope) (at.requests i)) ∙ of))
      (ap (λ n. reads_at_most n verdict) at.mtu ∙ most))

  all-dropped : (k : ℕ) (xs : List Queued) → AllByRecursion (IsAsked q.responder.mtu rs) xs → AllByRecursion (IsAsked q.responder.mtu rs) (drop k xs)
  all-dropped zero xs all = all
  all-dropped (suc k) [] all = record {}
  all-dropped (suc k) (x ∷ xs) all = all-dropped k xs all.1

  read-carried : (r : ReadLeft) → IsOf r → RowSees s (Carries I q rs) (read_row q r)
  read-carried r of = record {
    denied = λ d is. subst (λ a. Carries I q rs (refused a d.denial)) (sym (one-denied s (r.left == 0) (response_ask q r) d is)) (denied d.denial);
    allowed = λ is refusal. gives (flat_map (λ b. b) (map (bytes_in s) (if r.left == 0 then [] else response_ask q r ∷ []))) (response-few s q r (r.left == 0));
  }
    where
      ask : Ask
      ask = remote_ask q.queue q.domain r.key kinds.Read r.address r.left

      refused : Ask → Denial → Effects
      refused a denial = with_packet (nak RemoteAccessError (peer_number q) (psn_bits r.psn) q.responder.msn)
          (queue_and_marks (without_answers (in_error q)) (remote_mark a r.envelope (verdicts.Denied denial) ∷ flush_marks q))

      denied : (denial : Denial) → Carries I q rs (refused (response_ask q r) denial)
      denied denial = λ x at. record {
        latest = l;
        passes = passes-append (remote_mark (response_ask q r) r.envelope (verdicts.Denied denial) ∷ []) (flush_marks q) x (both-true _ true (read-passes r (verdicts.Denied denial) x of at refl) refl) (plain-unheard (flush_marks q) (flush-plain q));
        leaves = leaves-remote q ask r.envelope (verdicts.Denied denial) l l (flush_marks q) x refl at.latest refl (plain-unheard (flush_marks q) (flush-plain q));
        mtu = refl;
        write = record {};
        reads = record {};
      }

      left : Bool → QueuePair
      left b = if b then without_front q else with_front (rest_of q r) q

      kept : (b : Bool) → is_last_response q r ≡ b → ((left b).responder.mtu ≡ q.responder.mtu) × (GoesOn (left b).responder.message l × AllByRecursion (IsAsked q.responder.mtu rs) (left b).responder.answers)
      kept true e = (refl, (write, all-dropped 1 q.responder.answers reads))
      kept false e = (
        refl,
        (
          write,
          (
            any-follows (is_rest_of q.responder.mtu r.key r.address r.left r.envelope)
                (is_rest_of q.responder.mtu r.key ((r.address + response_length q r) % 2 ^ 64) (r.left - response_length q r) r.envelope) rs
                (λ request is. one-left q.responder.mtu r.key r.address r.left r.envelope request e is) of,
            all-dropped 1 q.responder.answers reads,
          ),
        ),
      )

      gives : (bytes : List ℕ) → length bytes ≤ q.responder.mtu → Carries I q rs (read_answer q r bytes)
      gives bytes few = λ x at. record {
        latest = l;
        passes = both-true _ true (read-passes r (verdicts.Read bytes) x of at (le-leb (length bytes) q.responder.mtu few)) refl;
        leaves = leaves-remote q ask r.envelope (verdicts.Read bytes) l l [] x refl at.latest refl (record {});
        mtu = (kept (is_last_response q r) refl).0;
        write = (kept (is_last_response q r) refl).1.0;
        reads = (kept (is_last_response q r) refl).1.1;
      }

  -- an answer that is no READ
  told : (e : Effects) → AreUnheard e.marks → e.queue ≡ without_front q → RowSees s (Carries I q rs) (plain_row (Does e))
  told e unheard same = record { denied = λ d is. carries; allowed = λ is refusal. carries }
    where
      carries : Carries I q rs e
      carries = quiet-carries I q l rs e (λ x at. at.latest) write reads (record {
        less = subst (λ p. IsLess l rs q p) (sym same) (record { mtu = refl; write = λ at. at; reads = λ all. all-dropped 1 q.responder.answers all });
        marks = unheard;
      })

  turn-carried : (a : Queued) → IsAsked q.responder.mtu rs a → RowSees s (Carries I q rs) (answer_turn q a)
  turn-carried (queued.Ack psn) asked = told (with_packet (acknowledgement (peer_number q) (psn_bits psn) q.responder.msn) (queue_and_marks (without_front q) [])) (record {}) refl
  turn-carried (queued.Rnr psn) asked = told (with_packet (rnr_nak q.responder.rnr_code (peer_number q) (psn_bits psn) q.responder.msn) (queue_and_marks (without_front q) [])) (record {}) refl
  turn-carried (queued.Nak psn code) asked = told (with_packet (nak (nak_of code) (peer_number q) (psn_bits psn) q.responder.msn) (queue_and_marks (without_front q) [])) (record {}) refl
  turn-carried (queued.Read psn key address left first envelope duplicate) asked = read-carried (record {
    psn = psn;
    key = key;
    address = address;
    left = left;
    first = first;
    envelope = envelope;
    duplicate = duplicate;
  }) asked
  turn-carried (queued.Atomic psn found duplicate) asked = told (with_packet (atomic_acknowledge found (peer_number q) (psn_bits psn) q.responder.msn) (queue_and_marks (without_front q) [])) (record {}) refl

  front-asked : (xs : List Queued) (a : Queued) → AllByRecursion (IsAsked q.responder.mtu rs) xs → slice_get xs 0 ≡ Some a → IsAsked q.responder.mtu rs a
  front-asked [] a all is = absurd (true≢false (sym (ap is_some is)))
  front-asked (x ∷ xs) a all is = subst (IsAsked q.responder.mtu rs) (same_Some x a is) all.0

  pub respond-carried : (room : Bool) → RowSees s (Carries I q rs) (respond_row room q)
  respond-carried room = by (first_of (respond_refusals room q)) (slice_get q.responder.answers 0) refl
    where
      front : Option Reason → Option Queued → Row
      front (Some reason) answer = plain_row (NotPossible reason)
      front None None = plain_row (NotPossible reasons.Empty)
      front None (Some answer) = answer_turn q answer

      by : (o : Option Reason) (a : Option Queued) → slice_get q.responder.answers 0 ≡ a → RowSees s (Carries I q rs) (front o a)
      by (Some reason) a is = record { denied = λ d is. record {}; allowed = λ is refusal. record {} }
      by None None is = record { denied = λ d is. record {}; allowed = λ is refusal. record {} }
      by None (Some a) is = turn-carried a (front-asked q.responder.answers a reads is)
