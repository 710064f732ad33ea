-- The turn of the requester: the packet that it sends is the one at its cursor, as a link's requester sends it.
use Rattle.std.proofs.Common.{◌≡◌, ℕ, zero, suc, ◌+◌, ◌-◌, ◌≤◌, ◌<◌, ◌==◌, ◌&&◌, ◌||◌, max, Bool, true, false, nat_le, nat_lt, not, if◌then◌else◌, List, [], ◌∷◌, length, Option, None, Some, IfSome, is_some, slice_get, refl, ap, sym, subst, ◌∙◌, arith, true≢false, le-leb}
use Rattle.std.proofs.lemmas.Bool.{eqb-true, ltb-false}
use Rattle.std.proofs.lemmas.List.{length-take}
use Rattle.std.proofs.lemmas.Option.{slice_get_within}
use Rattle.std.specs.List.{find, flat_map, sum_by}
use Rattle.std.specs.Option.{option_or}
use Rattle.ca_base.specs.declared.denied_ask.DeniedAsk.{DeniedAsk}
use Rattle.ca_base.specs.declared.limits.TheConstants.{MAX_MESSAGE_BYTES, MAX_OUTSTANDING_PACKETS, MAX_OUTSTANDING_PSNS, MIN_PATH_MTU}
use Rattle.ca_base.specs.declared.request.SendOp.{SendOp}
use Rattle.ca_base.specs.declared.request.SendOp.TheVariants as ops
use Rattle.ca_base.specs.declared.step.Reason.TheVariants as reasons
use Rattle.ca_base.specs.objects.QueuePair.{QueuePair}
use Rattle.ca_base.specs.objects.StateTable.{is_path_mtu}
use Rattle.ca_connection.proofs.LayoutLemmas.{segments-most, span-is_read, span-not_read, span-read}
use Rattle.ca_connection.specs.Layout.{Direction, bytes_left, bytes_of, first, is_read, psns, span}
use Rattle.ca_connection.specs.Limits.{greatest_span}
use Rattle.ca_keys.specs.Refusals.{first_of}
use Rattle.ca_law_world.proofs.Sound.NumberingLemmas.{all-got, next-short}
use Rattle.ca_law_world.proofs.Sound.TurnLemmas.{sending-parts, sends-parts}
use Rattle.ca_law_world.proofs.Steady.SendLemmas.{psns-some}
use Rattle.ca_model.specs.Requests.{is_local, list_length, list_of}
use Rattle.ca_model.specs.machine.Invariants.{IsList, IsQueue, is_sending}
use Rattle.ca_model.specs.machine.Numbering.{Numbered, begun_requests, has_psn, is_read as is_read_op, next_to_begin, psn_end, request_at, unfinished_requests}
use Rattle.ca_model.specs.machine.Requester.{Sends, answers_between, denied_list_effects, end_of_packet, is_outstanding, is_too_much, next_request, packet_asks, packet_row, packets_between, sent_packet, turn_of, turn_refusals}
use Rattle.ca_model.specs.machine.Row.{Does, NotPossible, Row, plain_row}
use Rattle.ca_law_once.proofs.Rows.EntryLemmas.{request-spelt}
use Rattle.ca_law_once.proofs.Rows.LayLemmas.{Lie, LiesAt, all-lie, begun-lie, lie-end, psns-of-work, read-of-work, unfinished-lie}
use Rattle.ca_law_once.proofs.Rows.ResponseRowLemmas.{IsRequestAt, request-found}
use Rattle.ca_law_once.specs.Moves.{EndingLeads, IsRequestTurn, RowLeads}
use Rattle.ca_law_once.specs.Sides.{IsLaid, requester_in, work_of}

-- where no request has a PSN from the first on, it lies behind them all
none-found : (d : Direction) (at place : ℕ) (ns : List Numbered) → Lie d place ns → first d place ≤ at → find (has_psn at) ns ≡ None → first d (place + length ns) ≤ at
none-found d at place [] there low none = omega (arith, low, ap (first d) (let e : place + 0 ≡ place = omega arith in e))
none-found d at place (n ∷ ns) there low none = by (λ low none. none-found d at (suc place) ns there.1 low none) (nat_le n.first at) refl (nat_lt at (psn_end n)) refl none
  where
    begin : n.first ≡ first d place
    begin = there.0.1.begin ∙ ap (first d) there.0.0

    end : psn_end n ≡ first d (suc place)
    end = there.0.1.end ∙ ap (λ m. first d (suc m)) there.0.0

    by : (first d (suc place) ≤ at → find (has_psn at) ns ≡ None → first d (suc place + length ns) ≤ at) → (a : Bool) → nat_le n.first at ≡ a → (b : Bool) → nat_lt at (psn_end n) ≡ b
        → (if a && b then Some n else find (has_psn at) ns) ≡ None → first d (place + suc (length ns)) ≤ at
    by more true ea true eb is = absurd (true≢false (ap is_some is))
    by more true ea false eb is = omega (arith, more (omega (arith, ltb-false at (psn_end n) eb, end)) is, ap (first d) (let e : place + suc (length ns) ≡ suc place + length ns = omega arith in e))
    by more false ea b eb is = absurd (true≢false (sym (le-leb n.first at (omega (arith, low, begin))) ∙ ea))

pub got-place : (d : Direction) (place i : ℕ) (ns : List Numbered) → Lie d place ns → IfSome (slice_get ns i) (λ n. n.place ≡ place + i)
got-place d place i [] there = record {}
got-place d place zero (n ∷ ns) there = omega (arith, there.0.0)
got-place d place (suc i) (n ∷ ns) there = by (slice_get ns i) (got-place d (suc place) i ns there.1)
  where
    by : (o : Option Numbered) → IfSome o (λ n. n.place ≡ suc place + i) → IfSome o (λ n. n.place ≡ place + suc i)
    by None is = record {}
    by (Some m) is = omega (arith, is)

-- a request that has packets has a number
some-number : (d : Direction) (n : Numbered) → LiesAt d n → is_local n.request.op ≡ false → first d n.place < first d (suc n.place)
some-number d n lies packet = omega (arith, psns-some d.mtu n.request.op packet, psns-of-work d.mtu n.request.op, ap (psns d.mtu) lies.work)

-- the next thing to send is of the request that has the number at the cursor
next-at : (d : Direction) (q : QueuePair) (n : Numbered) → IsQueue q → is_sending q.state ≡ true → IsLaid d q → is_local n.request.op ≡ false → next_request q ≡ Some n → IsRequestAt d q.requester.cursor n
next-at d q n s sending laid packet next = by (request_at q.requester.cursor q) refl (request-found d q.requester.cursor q laid) next
  where
    k : ℕ
    k = q.requester.next - q.requester.oldest

    low : first d q.requester.oldest ≤ q.requester.cursor
    low = omega (arith, laid.begin, laid.passed, s.requester.outstanding)

    new : request_at q.requester.cursor q ≡ None → next_to_begin q ≡ Some n → IsRequestAt d q.requester.cursor n
    new none at = record {
      number = record { from = omega (arith, same, place); below = omega (arith, same, place, some-number d n lies packet) };
      lies = lies;
    }
      where
        lies : LiesAt d n
        lies = subst (λ o. IfSome o (LiesAt d)) at (all-got (LiesAt d) (unfinished_requests q) k (all-lie d q.requester.oldest (unfinished_requests q) (unfinished-lie d q laid)))

        place : first d n.place ≡ first d (q.requester.oldest + k)
        place = ap (first d) (subst (λ o. IfSome o (λ n. n.place ≡ q.requester.oldest + k)) at (got-place d q.requester.oldest k (unfinished_requests q) (unfinished-lie d q laid)))

        counted : length (begun_requests q) ≡ k
        counted = omega (arith, length-take k (unfinished_requests q), slice_get_within (unfinished_requests q) k n at)

        same : first d (q.requester.oldest + k) ≡ q.requester.cursor
        same = omega (
          arith,
          none-found d q.requester.cursor q.requester.oldest (begun_requests q) (begun-lie d q laid) low none,
          s.begun sending,
          laid.begin,
          lie-end d q.requester.oldest (begun_requests q) (begun-lie d q laid),
          ap (λ i. first d (q.requester.oldest + i)) counted,
        )

    by : (o : Option Numbered) → request_at q.requester.cursor q ≡ o → IfSome o (IsRequestAt d q.requester.cursor) → option_or o (next_to_begin q) ≡ Some n → IsRequestAt d q.requester.cursor n
    by (Some m) is there e = subst (λ o. IfSome o (IsRequestAt d q.requester.cursor)) e there
    by None is there e = new is e

bytes-of-work : (op : SendOp) → bytes_of (work_of op) ≤ max 8 (list_length (list_of op))
bytes-of-work (ops.Send list) = omega arith
bytes-of-work (ops.SendImm imm list) = omega arith
bytes-of-work (ops.SendInv key list) = omega arith
bytes-of-work (ops.Write address key list) = omega arith
bytes-of-work (ops.WriteImm address key imm list) = omega arith
bytes-of-work (ops.Read address key list) = omega arith
bytes-of-work (ops.CmpSwap address key compare swap list) = omega arith
bytes-of-work (ops.FetchAdd address key add list) = omega arith
bytes-of-work (ops.Bind1 window region address count rights) = omega arith
bytes-of-work (ops.Bind2 window region low address count rights) = omega arith
bytes-of-work (ops.FastReg region low buffer address count rights pages) = omega arith
bytes-of-work (ops.LocalInv key) = omega arith

pub least-mtu : (mtu : ℕ) → is_path_mtu mtu ≡ true → MIN_PATH_MTU ≤ mtu
least-mtu mtu e = five (mtu == 256) (mtu == 512) (mtu == 1024) (mtu == 2048) (mtu == 4096) refl refl refl refl refl e
  where
    five : (a b c x y : Bool) → (mtu == 256) ≡ a → (mtu == 512) ≡ b → (mtu == 1024) ≡ c → (mtu == 2048) ≡ x → (mtu == 4096) ≡ y → (a || b || c || x || y) ≡ true → MIN_PATH_MTU ≤ mtu
    five true b c x y ea eb ec ex ey e = omega (arith, eqb-true mtu 256 ea)
    five false true c x y ea eb ec ex ey e = omega (arith, eqb-true mtu 512 eb)
    five false false true x y ea eb ec ex ey e = omega (arith, eqb-true mtu 1024 ec)
    five false false false true y ea eb ec ex ey e = omega (arith, eqb-true mtu 2048 ex)
    five false false false false true ea eb ec ex ey e = omega (arith, eqb-true mtu 4096 ey)
    five false false false false false ea eb ec ex ey e = absurd (true≢false (sym e))

-- how far the packet goes
packet-span : (d : Direction) (q : QueuePair) (n : Numbered) → 0 < d.mtu → IsRequestAt d q.requester.cursor n → end_of_packet q n ≡ q.requester.cursor + span d n.place q.requester.cursor
packet-span d q n some has = by (is_read_op n.request.op) refl
  where
    is : (b : Bool) → is_read_op n.request.op ≡ b → is_read (d.work n.place) ≡ b
    is b e = ap is_read has.lies.work ∙ sym (read-of-work n.request.op) ∙ e

    by : (b : Bool) → is_read_op n.request.op ≡ b → (if b then psn_end n else suc q.requester.cursor) ≡ q.requester.cursor + span d n.place q.requester.cursor
    by true e = omega (arith, has.lies.end, span-read d n.place q.requester.cursor some (is true e) has.number)
    by false e = omega (arith, span-not_read d n.place q.requester.cursor (is false e))

few-psns : (d : Direction) (w : ℕ) (n : Numbered) → MIN_PATH_MTU ≤ d.mtu → list_length (list_of n.request.op) ≤ MAX_MESSAGE_BYTES → IsRequestAt d w n → span d n.place w ≤ greatest_span
few-psns d w n wide short has = by (is_read (d.work n.place)) refl
  where
    bytes : bytes_left d n.place w ≤ MAX_MESSAGE_BYTES
    bytes = omega (arith, short, bytes-of-work n.request.op, ap bytes_of has.lies.work)

    by : (b : Bool) → is_read (d.work n.place) ≡ b → span d n.place w ≤ greatest_span
    by true e = omega (arith, span-is_read d n.place w e, segments-most d.mtu (bytes_left d n.place w) greatest_span MIN_PATH_MTU (omega arith) wide (omega (arith, bytes)) (omega arith))
    by false e = omega (arith, span-not_read d n.place w e)

-- the packet leaves no more outstanding than may be
packet-room : (q : QueuePair) (n : Numbered) → is_too_much q n ≡ false → end_of_packet q n ≤ q.requester.una + MAX_OUTSTANDING_PSNS
packet-room q n is = omega (
  arith,
  ltb-false MAX_OUTSTANDING_PSNS (end_of_packet q n - q.requester.una)
      (first_false (nat_lt MAX_OUTSTANDING_PSNS (end_of_packet q n - q.requester.una))
      (nat_lt MAX_OUTSTANDING_PACKETS (sum_by (packets_between q.requester.una (end_of_packet q n)) (unfinished_requests q)))
      (nat_lt q.requester.reads (sum_by (answers_between q.requester.una (end_of_packet q n)) (unfinished_requests q))) is),
)
  where
    first_false : (a b c : Bool) → (a || b || c) ≡ false → a ≡ false
    first_false true b c e = e
    first_false false b c e = refl

sent-sends : (d : Direction) (q : QueuePair) (n : Numbered) (bytes : List (List ℕ)) → IsQueue q → IsLaid d q → list_length (list_of n.request.op) ≤ MAX_MESSAGE_BYTES → is_local n.request.op ≡ false → is_too_much q n ≡ false
    → IsRequestAt d q.requester.cursor n → IsRequestTurn d (requester_in q) (sent_packet q n bytes)
sent-sends d q n bytes s laid short packet room has = record {
  number = has.number;
  room = omega (arith, packet-room q n room, span_is);
  few = few-psns d q.requester.cursor n wide short has;
  una = refl;
  cursor = span_is;
  spells = request-spelt d q n (flat_map (λ b. b) bytes) s laid.mtu short packet has;
  laid = λ e. record { mtu = laid.mtu; begin = laid.begin; work = laid.work; passed = laid.passed };
}
  where
    wide : MIN_PATH_MTU ≤ d.mtu
    wide = omega (arith, laid.mtu, least-mtu q.responder.mtu s.responder.mtu)

    span_is : end_of_packet q n ≡ q.requester.cursor + span d n.place q.requester.cursor
    span_is = packet-span d q n (omega (arith, wide)) has

pub packet-row : (d : Direction) (q : QueuePair) (room : Bool) (n : Numbered) → IsQueue q → (is_sending q.state ≡ true → IsLaid d q) → turn_of q ≡ Sends n
    → RowLeads (IsRequestTurn d (requester_in q)) (packet_row q room n)
packet-row d q room n s laid turn = by (is_too_much q n) refl (sends-parts (first_of (turn_refusals q)) (next_request q) n turn)
  where
    row : Row
    row = record {
      asks = packet_asks q n;
      invalidation = None;
      denied = λ d.
          if is_outstanding q then NotPossible reasons.Outstanding
          else if not room then NotPossible reasons.NoRoom
          else Does (denied_list_effects q d);
      allowed = λ bytes refusal. if not room then NotPossible reasons.NoRoom else Does (sent_packet q n bytes);
    }

    denied : (a : DeniedAsk) (b z : Bool) → EndingLeads (IsRequestTurn d (requester_in q)) (if b then NotPossible reasons.Outstanding else if not z then NotPossible reasons.NoRoom else Does (denied_list_effects q a))
    denied a true z = record {}
    denied a false true = record { requester = refl; laid = λ e. absurd (true≢false (sym e)) }
    denied a false false = record {}

    allowed : (bytes : List (List ℕ)) → IsRequestTurn d (requester_in q) (sent_packet q n bytes) → (z : Bool)
        → EndingLeads (IsRequestTurn d (requester_in q)) (if not z then NotPossible reasons.NoRoom else Does (sent_packet q n bytes))
    allowed bytes does true = does
    allowed bytes does false = record {}

    by : (b : Bool) → is_too_much q n ≡ b → (first_of (turn_refusals q) ≡ None) × (next_request q ≡ Some n) × (is_local n.request.op ≡ false)
        → RowLeads (IsRequestTurn d (requester_in q)) (if b then plain_row (NotPossible reasons.Outstanding) else row)
    by true e parts = record { denied = λ a. record {}; allowed = λ bytes refusal. record {} }
    by false e parts = record {
      denied = λ a. denied a (is_outstanding q) room;
      allowed = λ bytes refusal. allowed bytes (sent-sends d q n bytes s (laid sending) short parts.2 e (next-at d q n s sending (laid sending) parts.2 parts.1)) room;
    }
      where
        sending : is_sending q.state ≡ true
        sending = (sending-parts q parts.0).0

        short : list_length (list_of n.request.op) ≤ MAX_MESSAGE_BYTES
        short = (subst (λ o. IfSome o (λ n. IsList (list_of n.request.op))) parts.1 (next-short q s)).bytes
