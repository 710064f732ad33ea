-- The rows of packets that arrive: each access that they make is one that its packet asks for. For proofs only.
use Rattle.std.proofs.Common.{Bool, Err, List, None, Ok, Option, Result, Some, [], ap, arith, eq-eqb, false, if◌then◌else◌, is_none, is_some, length, ltb-true, map, nat_lt, not, refl, subst, sym, true, true≢false, ℕ, ◌&&◌, ◌+◌, ◌==◌, ◌^◌, ◌||◌, ◌∙◌, ◌∷◌, ◌≡◌, ◌≤◌}
use Rattle.std.proofs.lemmas.Bool.Decides.{nat_tests}
use Rattle.std.proofs.lemmas.Option.{same_Some}
use Rattle.std.specs.List.{AllByRecursion, flat_map, list_any}
use Rattle.std.specs.Option.{option_map_or}
use Rattle.std.specs.Result.{result_ok}
use Rattle.ca_law_carried.proofs.Accesses.CarryLemmas.{Carries, is_accessed, leaves-remote, passes-append, quiet-carries}
use Rattle.ca_law_carried.proofs.Accesses.DecodedLemmas.{shape-fits, write-reth}
use Rattle.ca_law_carried.proofs.Accesses.EndLemmas.{RowSees, allowed-ended, does-sees, ending-weaker, one-allowed, one-denied}
use Rattle.ca_law_carried.proofs.Accesses.QuietLemmas.{AreUnheard, IsQuiet, accepted-reads, ahead-less, all-more, dropped, duplicate-quiet, plain-row, plain-unheard, refused, response-quiet, sends-quiet, waits-less}
use Rattle.ca_law_carried.specs.Accesses.{GoesOn, IsAsked, IsEndedWorld, IsFrom}
use Rattle.ca_law_keys.proofs.Keys.PlainLemmas.{ahead-plain, flush-plain}
use Rattle.ca_law_keys.proofs.Keys.ToldLemmas.{ended}
use Rattle.ca_base.specs.Configuration.{Configuration}
use Rattle.ca_base.specs.Sight.{Sight, bytes_in, first_denied}
use Rattle.ca_base.specs.declared.completion.WcStatus.TheVariants.{Success}
use Rattle.ca_base.specs.declared.limits.TheConstants.{ATOMIC_BYTES, MAX_MESSAGE_BYTES}
use Rattle.ca_base.specs.declared.queue_numbers.Message.{Message}
use Rattle.ca_base.specs.declared.request.PlacedReceive.{PlacedReceive}
use Rattle.ca_base.specs.objects.QueuePair.{QueuePair}
use Rattle.ca_base.specs.objects.Saved.{after_save}
use Rattle.ca_base.specs.objects.SharedReceives.{SharedReceives}
use Rattle.ca_law_keys.proofs.Judged.JudgeLemmas.{both-true, bytes-refl}
use Rattle.ca_keys.specs.Allowed.{fits}
use Rattle.ca_keys.specs.Equal.{key_eq, kind_eq}
use Rattle.ca_keys.specs.Memory.{little_endian, little_endian_bytes}
use Rattle.ca_keys.specs.Refusals.{first_of}
use Rattle.ca_keys.specs.declared.access.Ask.{Ask}
use Rattle.ca_keys.specs.declared.access.Denial.{Denial}
use Rattle.ca_keys.specs.declared.access.Kind.{Kind}
use Rattle.ca_keys.specs.declared.key.Key.{Key}
use Rattle.ca_keys.specs.declared.names.QueueId.{QueueId}
use Rattle.ca_keys.specs.declared.verdict.Verdict.{Verdict}
use Rattle.ca_law_world.proofs.Sound.WorldLemmas.{RowDoes}
use Rattle.ca_law_world.specs.Bindings.{IsBoundWorld}
use Rattle.ca_model.specs.Carried.{arrived_so, asks_for, goes_on, is_rest_of, names_all, names_atomic, names_write, writes_payload}
use Rattle.ca_model.specs.Packets.{asks_atomic, continues_write, is_response, is_write, number_put, packet_of}
use Rattle.ca_model.specs.Past.{LatestWrite, Past, ReadRequest, latest_write_after, packet_at, remote_ask}
use Rattle.ca_model.specs.declared.mark.Drop1.{Drop1}
use Rattle.ca_model.specs.declared.write_reach.WriteReach.{WriteReach}
use Rattle.ca_model.specs.machine.Arrivals.{next_receive, packet_ask, refusal_effects, remote_mark, with_answer, with_flag, with_message, with_receive_taken}
use Rattle.ca_model.specs.machine.Completions.{flush_marks, receive_mark}
use Rattle.ca_model.specs.machine.Delivery.{arrival_drops, arrival_row, packet_arrived}
use Rattle.ca_model.specs.machine.Duplicates.{ahead_effects, duplicate_effects, request_row}
use Rattle.ca_model.specs.machine.Expected.{atomic_row, behind_marks, continues, expected_row, fits_left, fits_payload, fits_write, has_no_place, is_invalid, is_misaligned, message_left, queue_after_packet, reach_of_reth, read_queued, rnr_effects, takes_receive, valid_row, with_shared_receive, write_reach, write_row}
use Rattle.ca_model.specs.machine.Responses.{drop_effects, response_row}
use Rattle.ca_model.specs.machine.Row.{Does, Effects, Row, plain_row, queue_and_marks}
use Rattle.ca_model.specs.machine.Seen.{sight_in}
use Rattle.ca_model.specs.machine.World.{World}
use Rattle.ca_wire.specs.Decoding.{packet_in}
use Rattle.ca_wire.specs.Packet.{Fields}
use Rattle.ca_wire.specs.Shapes.{IsAtomicKind, begins, ends}
use Rattle.ca_wire.specs.Table.{has, shape_of}
use Rattle.ca_wire.specs.declared.atomic_eth.AtomicEth.{AtomicEth}
use Rattle.ca_wire.specs.declared.reth.Reth.{Reth}
use Rattle.ca_wire.specs.declared.shape.Position.{Position}
use Rattle.ca_wire.specs.declared.shape.Shape.{Shape}
use Rattle.ca_wire.specs.declared.wire_error.WireError.{WireError}
use Rattle.ca_psn.specs.Psn.{widened}
use Rattle.ca_wire.specs.Syndrome.{nak_code}
use Rattle.ca_wire.specs.declared.syndrome.NakCode.TheVariants.{InvalidRequest, RemoteAccessError}
use Rattle.ca_model.specs.declared.mark.Drop1.TheVariants as drops
use Rattle.ca_keys.specs.declared.access.Kind.TheVariants as kinds
use Rattle.ca_model.specs.declared.mark.Mark.TheVariants as marks
use Rattle.ca_base.specs.declared.queue_numbers.Message.TheVariants as messages
use Rattle.ca_base.specs.declared.completion.WcOp.TheVariants as operations
use Rattle.ca_base.specs.declared.queue_numbers.Queued.TheVariants as queued
use Rattle.ca_wire.specs.declared.shape.Shape.TheVariants as shapes
use Rattle.ca_keys.specs.declared.verdict.Verdict.TheVariants as verdicts

-- a past in which the bytes of a packet have arrived at a queue pair, whose latest write was this
pub record ArrivesAt (queue : QueueId) (envelope : Option ℕ) (o : Option Fields) (l : Option LatestWrite) (p : Past) : Type 0 where
  pub latest : p.latest_write queue ≡ l
  pub arrived : arrived_so p queue envelope ≡ true
  pub packet : packet_at p queue envelope ≡ o

same-number : (n : ℕ) → (n == n) ≡ true
same-number n = eq-eqb n n refl

same-key : (k : Key) → key_eq k k ≡ true
same-key k = same-number k.0

equal-numbers : (m n : ℕ) → m ≡ n → (m == n) ≡ true
equal-numbers m n same = eq-eqb m n same

-- ---- writes

-- a packet that begins a WRITE names what is written
begins-named : (x : Past) (ask : Ask) (p : Fields) (place : Position) (h : Reth) → shape_of p.opcode ≡ Some (shapes.Write place) → begins place ≡ true → p.reth ≡ Some h
    → h.key ≡ ask.key → h.address ≡ ask.address → h.length ≡ ask.length → names_write x ask p ≡ true
begins-named x ask p place h shaped first has key address count = ap (λ b. if b then option_map_or (names_all ask) p.reth false else continues_write p.opcode && option_map_or (goes_on ask) (x.latest_write ask.queue) false)
    (ap (is_write begins) shaped ∙ first)
    ∙ ap (λ o. option_map_or (names_all ask) o false) has
    ∙ both-true (key_eq h.key ask.key && (h.address == ask.address)) (h.length == ask.length)
    (both-true (key_eq h.key ask.key) (h.address == ask.address) (ap (λ k. key_eq k ask.key) key ∙ same-key ask.key) (equal-numbers h.address ask.address address)) (equal-numbers h.length ask.length count)

-- a packet that goes on with a WRITE goes on where the latest one ended
goes-named : (x : Past) (ask : Ask) (p : Fields) (place : Position) (l : Option LatestWrite) → shape_of p.opcode ≡ Some (shapes.Write place) → begins place ≡ false → x.latest_write ask.queue ≡ l
    → IsFrom ask.key ask.address ask.length l → names_write x ask p ≡ true
goes-named x ask p place l shaped later latest from = ap (λ b. if b then option_map_or (names_all ask) p.reth false else continues_write p.opcode && option_map_or (goes_on ask) (x.latest_write ask.queue) false)
    (ap (is_write begins) shaped ∙ later)
    ∙ both-true (continues_write p.opcode) _ (ap (is_write (λ place. not (begins place))) shaped ∙ ap not later) (ap (λ o. option_map_or (goes_on ask) o false) latest ∙ by l from)
  where
    by : (l : Option LatestWrite) → IsFrom ask.key ask.address ask.length l → option_map_or (goes_on ask) l false ≡ true
    by None from = absurd from
    by (Some w) from = both-true (key_eq w.key ask.key && (w.address + w.wrote == ask.address)) (w.asked == ask.length + w.wrote)
        (both-true (key_eq w.key ask.key) (w.address + w.wrote == ask.address) (ap (λ k. key_eq k ask.key) from.0 ∙ same-key ask.key) (equal-numbers (w.address + w.wrote) ask.address from.1))
        (equal-numbers w.asked (ask.length + w.wrote) from.2)

-- what a WRITE reaches
abbrev write_ask : QueuePair → WriteReach → Ask
write_ask q r = remote_ask q.queue q.domain r.key kinds.Write r.address r.left

-- a packet names what it writes, whatever its past is beside the latest write
abbrev Names : QueuePair → Option LatestWrite → Fields → WriteReach → Type 0
Names q l p r = (x : Past) → x.latest_write q.queue ≡ l → names_write x (write_ask q r) p ≡ true

-- the mark of a WRITE passes
write-passes : (q : QueuePair) (l : Option LatestWrite) (p : Fields) (envelope : Option ℕ) (r : WriteReach) (verdict : Verdict) (x : Past) → Names q l p r → ArrivesAt q.queue envelope (Some p) l x
    → writes_payload verdict p.payload ≡ true → is_accessed x (marks.Remote q.queue q.domain envelope r.key kinds.Write r.address r.left verdict) ≡ true
write-passes q l p envelope r verdict x names at payload = both-true _ true
    (both-true (arrived_so x q.queue envelope) _ at.arrived (ap (λ o. option_map_or (asks_for x (write_ask q r) verdict kinds.Write) o false) at.packet
    ∙ both-true (names_write x (write_ask q r) p) (writes_payload verdict p.payload) (names x at.latest) payload)) refl

-- a WRITE that goes on goes on behind what was written
left-behind : (r : WriteReach) (count : ℕ) → r.address + r.left ≤ 2 ^ 64 → nat_lt count r.left ≡ true
    → GoesOn (Some (message_left r count)) (Some (record { key = r.key; address = r.address; asked = r.left; wrote = count }))
left-behind r count most less = (refl, omega (arith, most, ltb-true count r.left less), omega (arith, ltb-true count r.left less))

some-left : (count left : ℕ) → nat_lt count left ≡ true → (left == 0) ≡ false
some-left count left less = grind (arith, nat_tests, less)

pub write-carried : (c : Configuration) (w : World) (l : Option LatestWrite) (rs : List ReadRequest) (q : QueuePair) (p : Fields) (envelope : Option ℕ) (place : Position) (next : Option PlacedReceive) (r : WriteReach)
    → IsEndedWorld w → IsBoundWorld w → Names q l p r → fits_left (length p.payload) place r ≡ true → AllByRecursion (IsAsked q.responder.mtu rs) q.responder.answers
    → RowSees (sight_in c w) (Carries (ArrivesAt q.queue envelope (Some p) l) q rs) (write_row q p envelope place next r)
write-carried c w l rs q p envelope place next r ended bound names fits reads = record {
  denied = λ d is. subst (λ a. Carries I q rs (behind_marks (remote_mark a envelope (verdicts.Denied d.denial) ∷ []) (refusal_effects RemoteAccessError q))) (sym (one-denied s (r.left == 0) ask d is)) (denied d.denial);
  allowed = λ is refusal. at (ends place) refl is;
}
  where
    s : Sight
    s = sight_in c w

    I : Past → Type 0
    I = ArrivesAt q.queue envelope (Some p) l

    ask : Ask
    ask = packet_ask q r.key kinds.Write r.address r.left (length p.payload)

    denied : (denial : Denial) → Carries I q rs (behind_marks (remote_mark ask envelope (verdicts.Denied denial) ∷ []) (refusal_effects RemoteAccessError q))
    denied denial = λ x at. record {
      latest = None;
      passes = passes-append (remote_mark ask envelope (verdicts.Denied denial) ∷ []) (flush_marks q) x
          (both-true _ true (write-passes q l p envelope r (verdicts.Denied denial) x names at refl) refl) (plain-unheard (flush_marks q) (flush-plain q));
      leaves = leaves-remote q (write_ask q r) envelope (verdicts.Denied denial) l None (flush_marks q) x refl at.latest refl (plain-unheard (flush_marks q) (flush-plain q));
      mtu = refl;
      write = record {};
      reads = all-more (IsAsked q.responder.mtu rs) q.responder.answers (queued.Nak q.responder.expected (nak_code RemoteAccessError)) reads (record {});
    }

    wrote : Option LatestWrite
    wrote = Some (record { key = r.key; address = r.address; asked = r.left; wrote = length p.payload })

    done : QueuePair → QueuePair
    done q = with_message None (queue_after_packet p 1 true true q)

    immediate : Option ℕ → Option PlacedReceive → Effects
    immediate (Some imm) (Some receive) = with_shared_receive q (queue_and_marks (done (with_receive_taken q))
        (receive_mark q.queue receive.place receive.receive Success operations.RecvImm r.whole (Some imm) None ∷ []))
    immediate imm next = queue_and_marks (done q) []

    -- the effects, with the write behind which they stand
    wrote-by : Effects → Effects
    wrote-by e = record (behind_marks (remote_mark ask envelope (verdicts.Wrote p.payload) ∷ []) e) { writes = if r.left == 0 then [] else (ask, p.payload) ∷ [] }

    carried : (e : Effects) → AreUnheard e.marks → e.queue.responder.mtu ≡ q.responder.mtu → GoesOn e.queue.responder.message wrote → AllByRecursion (IsAsked q.responder.mtu rs) e.queue.responder.answers
        → Carries I q rs (wrote-by e)
    carried e unheard mtu goes all = λ x at. record {
      latest = wrote;
      passes = passes-append (remote_mark ask envelope (verdicts.Wrote p.payload) ∷ []) e.marks x
          (both-true _ true (write-passes q l p envelope r (verdicts.Wrote p.payload) x names at (bytes-refl p.payload)) refl) unheard;
      leaves = leaves-remote q (write_ask q r) envelope (verdicts.Wrote p.payload) l wrote e.marks x refl at.latest refl unheard;
      mtu = mtu;
      write = goes;
      reads = all;
    }

    last : (imm : Option ℕ) (next : Option PlacedReceive) → Carries I q rs (wrote-by (immediate imm next))
    last (Some imm) (Some receive) = carried (immediate (Some imm) (Some receive)) (record {}, record {}) refl (record {}) (accepted-reads l rs p 1 true true q reads)
    last (Some imm) None = carried (immediate (Some imm) None) (record {}) refl (record {}) (accepted-reads l rs p 1 true true q reads)
    last None next = carried (immediate None next) (record {}) refl (record {}) (accepted-reads l rs p 1 true true q reads)

    at : (b : Bool) → ends place ≡ b → first_denied s (if r.left == 0 then [] else ask ∷ []) ≡ None
        → Carries I q rs (wrote-by (if b then immediate p.imm next else queue_and_marks (with_message (Some (message_left r (length p.payload))) (queue_after_packet p 1 false true q)) []))
    at true e is = last p.imm next
    at false e is = carried (queue_and_marks (with_message (Some (message_left r (length p.payload))) (queue_after_packet p 1 false true q)) []) (record {}) refl
        (left-behind r (length p.payload) (allowed-ended c w ask ended bound (one-allowed s (r.left == 0) ask is some) some) less) (accepted-reads l rs p 1 false true q reads)
      where
        less : nat_lt (length p.payload) r.left ≡ true
        less = sym (ap (λ b. if b then length p.payload == r.left else nat_lt (length p.payload) r.left) e) ∙ fits

        some : (r.left == 0) ≡ false
        some = some-left (length p.payload) r.left less

-- ---- atomics

kind-refl : (kind : Kind) → kind_eq kind kind ≡ true
kind-refl kinds.Read = refl
kind-refl kinds.Write = refl
kind-refl kinds.CmpSwap = refl
kind-refl kinds.FetchAdd = refl

-- the mark of an atomic passes
atomic-passes : (q : QueuePair) (l : Option LatestWrite) (p : Fields) (envelope : Option ℕ) (kind : Kind) (a : AtomicEth) (verdict : Verdict) (x : Past) → IsAtomicKind kind → shape_of p.opcode ≡ Some (shapes.Atomic kind)
    → p.atomic ≡ Some a → ArrivesAt q.queue envelope (Some p) l x → is_accessed x (marks.Remote q.queue q.domain envelope a.key kind a.address ATOMIC_BYTES verdict) ≡ true
atomic-passes q l p envelope kind a verdict x atomic shaped has at = by kind atomic (ap (asks kind) shaped ∙ kind-refl kind)
  where
    ask : Kind → Ask
    ask k = remote_ask q.queue q.domain a.key k a.address ATOMIC_BYTES

    asks : Kind → Option Shape → Bool
    asks k (Some (shapes.Atomic found)) = kind_eq found k
    asks k shape = false

    names : (k : Kind) → asks_atomic k p.opcode ≡ true → names_atomic (ask k) p ≡ true
    names k is = both-true (asks_atomic k p.opcode) _ is (ap (λ o. option_map_or (λ a. key_eq a.key (ask k).key && (a.address == (ask k).address)) o false) has
        ∙ both-true (key_eq a.key a.key) (a.address == a.address) (same-key a.key) (same-number a.address))

    carried : (k : Kind) → asks_for x (ask k) verdict k p ≡ true → (arrived_so x q.queue envelope && option_map_or (asks_for x (ask k) verdict k) (packet_at x q.queue envelope) false) ≡ true
    carried k is = both-true (arrived_so x q.queue envelope) _ at.arrived (ap (λ o. option_map_or (asks_for x (ask k) verdict k) o false) at.packet ∙ is)

    by : (k : Kind) → IsAtomicKind k → asks_atomic k p.opcode ≡ true → is_accessed x (marks.Remote q.queue q.domain envelope a.key k a.address ATOMIC_BYTES verdict) ≡ true
    by kinds.Read none is = absurd none
    by kinds.Write none is = absurd none
    by kinds.CmpSwap none is = both-true _ true (carried kinds.CmpSwap (names kinds.CmpSwap is)) refl
    by kinds.FetchAdd none is = both-true _ true (carried kinds.FetchAdd (names kinds.FetchAdd is)) refl

-- an atomic that is denied leaves the latest write
denied-latest : (ask : Ask) (denial : Denial) (l : Option LatestWrite) → IsAtomicKind ask.kind → latest_write_after ask (verdicts.Denied denial) l ≡ l
denied-latest ask denial l atomic = by ask.kind atomic
  where
    after : Kind → Option LatestWrite
    after kinds.Write = None
    after kind = l

    by : (k : Kind) → IsAtomicKind k → after k ≡ l
    by kinds.Read none = absurd none
    by kinds.Write none = absurd none
    by kinds.CmpSwap none = refl
    by kinds.FetchAdd none = refl

pub atomic-carried : (s : Sight) (l : Option LatestWrite) (rs : List ReadRequest) (q : QueuePair) (p : Fields) (envelope : Option ℕ) (kind : Kind) (a : AtomicEth) → IsAtomicKind kind → shape_of p.opcode ≡ Some (shapes.Atomic kind)
    → p.atomic ≡ Some a → GoesOn q.responder.message l → AllByRecursion (IsAsked q.responder.mtu rs) q.responder.answers
    → RowSees s (Carries (ArrivesAt q.queue envelope (Some p) l) q rs) (atomic_row q p envelope kind a)
atomic-carried s l rs q p envelope kind a atomic shaped has write reads = record {
  denied = λ d is. subst (λ x. Carries I q rs (behind_marks (remote_mark x envelope (verdicts.Denied d.denial) ∷ []) (refusal_effects RemoteAccessError q))) (sym (one-denied s false ask d is)) (denied d.denial);
  allowed = λ is refusal. acted (little_endian (flat_map (λ b. b) (map (bytes_in s) (ask ∷ []))));
}
  where
    I : Past → Type 0
    I = ArrivesAt q.queue envelope (Some p) l

    ask : Ask
    ask = packet_ask q a.key kind a.address ATOMIC_BYTES ATOMIC_BYTES

    told : Ask
    told = remote_ask q.queue q.domain a.key kind a.address ATOMIC_BYTES

    denied : (denial : Denial) → Carries I q rs (behind_marks (remote_mark ask envelope (verdicts.Denied denial) ∷ []) (refusal_effects RemoteAccessError q))
    denied denial = λ x at. record {
      latest = l;
      passes = passes-append (remote_mark ask envelope (verdicts.Denied denial) ∷ []) (flush_marks q) x
          (both-true _ true (atomic-passes q l p envelope kind a (verdicts.Denied denial) x atomic shaped has at) refl) (plain-unheard (flush_marks q) (flush-plain q));
      leaves = leaves-remote q told envelope (verdicts.Denied denial) l l (flush_marks q) x refl at.latest (denied-latest told denial l atomic) (plain-unheard (flush_marks q) (flush-plain q));
      mtu = refl;
      write = record {};
      reads = all-more (IsAsked q.responder.mtu rs) q.responder.answers (queued.Nak q.responder.expected (nak_code RemoteAccessError)) reads (record {});
    }

    put : ℕ → ℕ
    put found = option_map_or (λ n. n) (number_put kind a found) 0

    saved : ℕ → QueuePair
    saved found = record (with_answer (queued.Atomic q.responder.expected found false) q) { saved = after_save q.responder.expected found q.saved }

    effects : ℕ → Effects
    effects found = record (queue_and_marks (queue_after_packet p 1 true false (saved found)) (remote_mark ask envelope (verdicts.Swapped found (put found)) ∷ [])) { writes = (ask, little_endian_bytes (put found)) ∷ [] }

    acted : (found : ℕ) → Carries I q rs (effects found)
    acted found = λ x at. record {
      latest = l;
      passes = both-true _ true (atomic-passes q l p envelope kind a (verdicts.Swapped found (put found)) x atomic shaped has at) refl;
      leaves = leaves-remote q told envelope (verdicts.Swapped found (put found)) l l [] x refl at.latest refl (record {});
      mtu = refl;
      write = write;
      reads = all-more (IsAsked q.responder.mtu rs) q.responder.answers (queued.Atomic q.responder.expected found false) reads (record {});
    }

-- ---- requests

-- the requests have the READ that a packet is
abbrev pub Hears : List ReadRequest → ℕ → Option ℕ → Fields → Type 0
Hears rs mtu envelope p = (h : Reth) → shape_of p.opcode ≡ Some shapes.Read → p.reth ≡ Some h → list_any (is_rest_of mtu h.key h.address h.length envelope) rs ≡ true

module _ (c : Configuration) (w : World) (l : Option LatestWrite) (rs : List ReadRequest) (bytes : List ℕ) (p : Fields) (envelope : Option ℕ) (ended : IsEndedWorld w) (bound : IsBoundWorld w) (is : packet_in bytes ≡ Ok p) where
  -- the row of a queue pair whose message and answers agree
  abbrev RowCarries : QueuePair → Row → Type 0
  RowCarries q row = RowSees (sight_in c w) (Carries (ArrivesAt q.queue envelope (Some p) l) q rs) row

  abbrev Agrees : QueuePair → Type 0
  Agrees q = GoesOn q.responder.message l × AllByRecursion (IsAsked q.responder.mtu rs) q.responder.answers

  quietly : (q : QueuePair) (row : Row) → Agrees q → RowDoes (IsQuiet l rs q) row → RowCarries q row
  quietly q row agree does = does-sees (sight_in c w) (IsQuiet l rs q) (Carries (ArrivesAt q.queue envelope (Some p) l) q rs) row
      (λ e quiet. quiet-carries (ArrivesAt q.queue envelope (Some p) l) q l rs e (λ x at. at.latest) agree.0 agree.1 quiet) does

  -- a WRITE that is valid names what it reaches
  write-named : (q : QueuePair) (place : Position) (r : WriteReach) → Agrees q → shape_of p.opcode ≡ Some (shapes.Write place) → continues q.responder.message (shapes.Write place) ≡ true → write_reach q p ≡ Some r → Names q l p r
  write-named q place r agree shaped goes reach = at p.reth refl (write-reth bytes p place is shaped) reach
    where
      found : Option Reth → Option Message → Option WriteReach
      found (Some h) message = Some (reach_of_reth h)
      found None (Some (messages.Write key address left count)) = Some (record { key = key; address = address; left = left; whole = count })
      found None message = None

      later : (m : Option Message) → GoesOn m l → begins place ≡ false → continues m (shapes.Write place) ≡ true → found None m ≡ Some r → Names q l p r
      later None on none goes reach = absurd (true≢false (sym (ap is_some reach)))
      later (Some (messages.Send at receive count)) on none goes reach = absurd (true≢false (sym (ap is_some reach)))
      later (Some (messages.Write key address left count)) on none goes reach = λ x latest. goes-named x (write_ask q r) p place l shaped none latest
          (subst (λ (r : WriteReach). IsFrom r.key r.address r.left l) (same_Some _ r reach) on)

      at : (o : Option Reth) → p.reth ≡ o → is_some o ≡ begins place → found o q.responder.message ≡ Some r → Names q l p r
      at None has first reach = later q.responder.message agree.0 (sym first) goes reach
      at (Some h) has first reach = λ x latest. begins-named x (write_ask q r) p place h shaped (sym first) has
          (ap (λ (r : WriteReach). r.key) same) (ap (λ (r : WriteReach). r.address) same) (ap (λ (r : WriteReach). r.left) same)
        where
          same : reach_of_reth h ≡ r
          same = same_Some _ r reach

  valid-carried : (q : QueuePair) (next : Option PlacedReceive) (shape : Shape) → Agrees q → Hears rs q.responder.mtu envelope p → shape_of p.opcode ≡ Some shape → continues q.responder.message shape ≡ true → fits_write q p shape ≡ true
      → RowCarries q (valid_row q p envelope next shape)
  valid-carried q next (shapes.Send place) agree hears shaped goes fits = quietly q (valid_row q p envelope next (shapes.Send place)) agree (sends-quiet l rs q p place next envelope)
  valid-carried q next (shapes.Write place) agree hears shaped goes fits = by (write_reach q p) refl fits
    where
      row : Option WriteReach → Row
      row (Some r) = write_row q p envelope place next r
      row None = plain_row (Does (refusal_effects InvalidRequest q))

      by : (o : Option WriteReach) → write_reach q p ≡ o → option_map_or (fits_left (length p.payload) place) o true ≡ true → RowCarries q (row o)
      by (Some r) reach fits = write-carried c w l rs q p envelope place next r ended bound (write-named q place r agree shaped goes reach) fits agree.1
      by None reach fits = quietly q (plain_row (Does (refusal_effects InvalidRequest q))) agree (refused l rs InvalidRequest q)
  valid-carried q next shapes.Read agree hears shaped goes fits = by p.reth refl
    where
      row : Option Reth → Row
      row (Some h) = plain_row (Does (read_queued q p envelope h))
      row None = plain_row (Does (refusal_effects InvalidRequest q))

      queues : (h : Reth) → p.reth ≡ Some h → RowDoes (IsQuiet l rs q) (plain_row (Does (read_queued q p envelope h)))
      queues h has = record { denied = λ d. quiet; allowed = λ bytes refusal. quiet }
        where
          quiet : IsQuiet l rs q (read_queued q p envelope h)
          quiet = record {
            less = record {
              mtu = refl;
              write = λ at. at;
              reads = λ all. all-more (IsAsked q.responder.mtu rs) q.responder.answers (queued.Read q.responder.expected h.key h.address h.length true envelope false) all (hears h shaped has);
            };
            marks = record {};
          }

      by : (o : Option Reth) → p.reth ≡ o → RowCarries q (row o)
      by (Some h) has = quietly q (plain_row (Does (read_queued q p envelope h))) agree (queues h has)
      by None has = quietly q (plain_row (Does (refusal_effects InvalidRequest q))) agree (refused l rs InvalidRequest q)
  valid-carried q next (shapes.Atomic kind) agree hears shaped goes fits = by p.atomic refl
    where
      row : Option AtomicEth → Row
      row (Some a) = atomic_row q p envelope kind a
      row None = plain_row (Does (refusal_effects InvalidRequest q))

      by : (o : Option AtomicEth) → p.atomic ≡ o → RowCarries q (row o)
      by (Some a) has = atomic-carried (sight_in c w) l rs q p envelope kind a (shape-fits p.opcode (shapes.Atomic kind) shaped) shaped has agree.0 agree.1
      by None has = quietly q (plain_row (Does (refusal_effects InvalidRequest q))) agree (refused l rs InvalidRequest q)

  valid-of : (a f x y z n : Bool) → (not a || not f || not x || y || z || n) ≡ false → (a ≡ true) × (x ≡ true)
  valid-of true true true y z n e = (refl, refl)
  valid-of true true false y z n e = absurd (true≢false e)
  valid-of true false x y z n e = absurd (true≢false e)
  valid-of false f x y z n e = absurd (true≢false e)

  expected-carried : (before : QueuePair) (shared : Option SharedReceives) (shape : Shape) → Agrees before → Hears rs before.responder.mtu envelope p → shape_of p.opcode ≡ Some shape → RowCarries before (expected_row before shared p envelope shape)
  expected-carried before shared shape agree hears shaped = by (is_invalid q p shape) refl
    where
      q : QueuePair
      q = with_flag false before

      waits : (b : Bool) → (continues q.responder.message shape ≡ true) × (fits_write q p shape ≡ true) → RowCarries before (if b then plain_row (Does (rnr_effects q)) else valid_row q p envelope (next_receive q shared) shape)
      waits true valid = quietly q (plain_row (Does (rnr_effects q))) agree (record { denied = λ d. record { less = waits-less l rs q; marks = record {} }; allowed = λ bytes refusal. record { less = waits-less l rs q; marks = record {} } })
      waits false valid = valid-carried q (next_receive q shared) shape agree hears shaped valid.0 valid.1

      by : (b : Bool) → is_invalid q p shape ≡ b → RowCarries before (
          if b then plain_row (Does (refusal_effects InvalidRequest q))
          else if takes_receive p shape && is_none (next_receive q shared) then plain_row (Does (rnr_effects q))
          else valid_row q p envelope (next_receive q shared) shape)
      by true e = quietly q (plain_row (Does (refusal_effects InvalidRequest q))) agree (refused l rs InvalidRequest q)
      by false e = waits (takes_receive p shape && is_none (next_receive q shared))
          (valid-of (continues q.responder.message shape) (fits_payload q p shape) (fits_write q p shape) (option_map_or (λ h. nat_lt MAX_MESSAGE_BYTES h.length) p.reth false) (is_misaligned p) (has_no_place q shape) e)

  request-carried : (shared : Option SharedReceives) (shape : Shape) (q : QueuePair) → Agrees q → Hears rs q.responder.mtu envelope p → shape_of p.opcode ≡ Some shape → RowCarries q (request_row p envelope shared shape q)
  request-carried shared shape q agree hears shaped = by (widened q.responder.expected p.psn)
    where
      again : (psn : ℕ) → RowCarries q (plain_row (Does (duplicate_effects psn p envelope shape q)))
      again psn = quietly q (plain_row (Does (duplicate_effects psn p envelope shape q))) agree (record { denied = λ d. quiet; allowed = λ bytes refusal. quiet })
        where
          quiet : IsQuiet l rs q (duplicate_effects psn p envelope shape q)
          quiet = duplicate-quiet l rs psn p envelope shape q (λ h reads has. hears h (shaped ∙ ap Some reads) has)

      before : (psn : ℕ) (b : Bool) → RowCarries q (if b then plain_row (Does (duplicate_effects psn p envelope shape q)) else expected_row q shared p envelope shape)
      before psn true = again psn
      before psn false = expected-carried q shared shape agree hears shaped

      ahead : (psn : ℕ) (b : Bool) → RowCarries q (
          if b then plain_row (Does (ahead_effects q))
          else if nat_lt psn q.responder.expected then plain_row (Does (duplicate_effects psn p envelope shape q))
          else expected_row q shared p envelope shape)
      ahead psn true = quietly q (plain_row (Does (ahead_effects q))) agree (plain-row l rs q (ahead_effects q) (ahead-less l rs q) (ahead-plain q))
      ahead psn false = before psn (nat_lt psn q.responder.expected)

      by : (psn : ℕ) → RowCarries q (
          if nat_lt q.responder.expected psn then plain_row (Does (ahead_effects q))
          else if nat_lt psn q.responder.expected then plain_row (Does (duplicate_effects psn p envelope shape q))
          else expected_row q shared p envelope shape)
      by psn = ahead psn (nat_lt q.responder.expected psn)

  -- a packet, once it is read
  pub packet-carried : (shared : Option SharedReceives) (q : QueuePair) → Agrees q → Hears rs q.responder.mtu envelope p → RowCarries q (packet_arrived p envelope shared q)
  packet-carried shared q agree hears = kinds_of (is_response p.opcode)
    where
      shaped : Option Shape → Row
      shaped (Some shape) = request_row p envelope shared shape q
      shaped None = plain_row (Does (drop_effects q drops.State))

      requests : (o : Option Shape) → shape_of p.opcode ≡ o → RowCarries q (shaped o)
      requests (Some shape) e = request-carried shared shape q agree hears e
      requests None e = quietly q (plain_row (Does (drop_effects q drops.State))) agree (dropped l rs q drops.State)

      kinds_of : (b : Bool) → RowCarries q (if b then response_row p q else shaped (shape_of p.opcode))
      kinds_of true = quietly q (response_row p q) agree (response-quiet l rs p q)
      kinds_of false = requests (shape_of p.opcode) refl

-- what is carried from more pasts on is carried from fewer
sees-fewer : (s : Sight) (q : QueuePair) (rs : List ReadRequest) (I J : Past → Type 0) (row : Row) → ((x : Past) → J x → I x) → RowSees s (Carries I q rs) row → RowSees s (Carries J q rs) row
sees-fewer s q rs I J row fewer sees = record {
  denied = λ d is. ending-weaker (Carries I q rs) (Carries J q rs) (row.denied d) (λ e carries x at. carries x (fewer x at)) (sees.denied d is);
  allowed = λ is refusal. ending-weaker (Carries I q rs) (Carries J q rs) (row.allowed (map (bytes_in s) row.asks) refusal) (λ e carries x at. carries x (fewer x at)) (sees.allowed is refusal);
}

-- bytes that arrive at a queue pair whose message and answers agree
pub arrival-carried : (c : Configuration) (w : World) (l : Option LatestWrite) (rs : List ReadRequest) (bytes : List ℕ) (envelope : Option ℕ) (shared : Option SharedReceives) (q : QueuePair) → IsEndedWorld w → IsBoundWorld w
    → GoesOn q.responder.message l → AllByRecursion (IsAsked q.responder.mtu rs) q.responder.answers → ((p : Fields) → packet_in bytes ≡ Ok p → Hears rs q.responder.mtu envelope p)
    → RowSees (sight_in c w) (Carries (ArrivesAt q.queue envelope (packet_of bytes) l) q rs) (arrival_row bytes envelope shared q)
arrival-carried c w l rs bytes envelope shared q ended bound write reads hears = by (packet_in bytes) refl
  where
    I : Option Fields → Past → Type 0
    I o = ArrivesAt q.queue envelope o l

    drop : (o : Option Fields) (cause : Drop1) → RowSees (sight_in c w) (Carries (I o) q rs) (plain_row (Does (drop_effects q cause)))
    drop o cause = does-sees (sight_in c w) (IsQuiet l rs q) (Carries (I o) q rs) (plain_row (Does (drop_effects q cause)))
        (λ e quiet. quiet-carries (I o) q l rs e (λ x at. at.latest) write reads quiet) (dropped l rs q cause)

    unless : Fields → Option Drop1 → Row
    unless p (Some cause) = plain_row (Does (drop_effects q cause))
    unless p None = packet_arrived p envelope shared q

    row : Result Fields WireError → Row
    row (Err error) = plain_row (Does (drop_effects q (drops.Wire error)))
    row (Ok p) = unless p (first_of (arrival_drops q p))

    at : (p : Fields) → packet_in bytes ≡ Ok p → (o : Option Drop1) → RowSees (sight_in c w) (Carries (I (Some p)) q rs) (unless p o)
    at p is (Some cause) = drop (Some p) cause
    at p is None = packet-carried c w l rs bytes p envelope ended bound is shared q (write, reads) (hears p is)

    by : (r : Result Fields WireError) → packet_in bytes ≡ r → RowSees (sight_in c w) (Carries (I (result_ok r)) q rs) (row r)
    by (Err error) is = drop None (drops.Wire error)
    by (Ok p) is = at p is (first_of (arrival_drops q p))
