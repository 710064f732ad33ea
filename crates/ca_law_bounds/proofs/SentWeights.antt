-- A packet that is sent weighs less than what was left to send of its request. For proofs only.
use Rattle.std.proofs.Common.{◌≡◌, ℕ, suc, ◌+◌, ◌-◌, ◌*◌, ◌≤◌, ◌<◌, min, Bool, true, false, not, if◌then◌else◌, List, [], Option, None, Some, IfSome, Result, Ok, Err, refl, ap, sym, subst, ◌∙◌, arith, true≢false}
use Rattle.std.specs.List.{AllByRecursion}
use Rattle.std.specs.Option.{option_map_or, option_or}
use Rattle.ca_base.specs.declared.denied_ask.DeniedAsk.{DeniedAsk}
use Rattle.ca_base.specs.declared.step.Reason.TheVariants as reasons
use Rattle.ca_base.specs.objects.QueuePair.{QueuePair}
use Rattle.ca_connection.proofs.LayoutLemmas.{span-is_read, span-not_read, span-read, span-some}
use Rattle.ca_connection.specs.Layout.{Direction, bytes_left, is_read, segments, span}
use Rattle.ca_connection.specs.Link.{RequestPacket}
use Rattle.ca_keys.specs.Refusals.{first_of}
use Rattle.ca_law_world.proofs.Sound.NumberingLemmas.{all-found, all-got, all-taken}
use Rattle.ca_law_world.proofs.Sound.TurnLemmas.{sending-parts, sends-parts}
use Rattle.ca_model.specs.Packets.{is_response}
use Rattle.ca_model.specs.Requests.{is_local}
use Rattle.ca_model.specs.machine.Invariants.{IsQueue, is_sending}
use Rattle.ca_model.specs.machine.Numbering.{Numbered, has_psn, is_read as is_read_op, next_to_begin, request_at, begun_requests, unfinished_requests}
use Rattle.ca_model.specs.machine.Requester.{Sends, begins, denied_list_effects, is_outstanding, is_too_much, next_request, packet_asks, packet_row, sent_packet, turn_of, turn_refusals}
use Rattle.ca_model.specs.machine.Row.{Does, Effects, NotPossible, Row, plain_row}
use Rattle.ca_wire.specs.Decoding.{packet_in}
use Rattle.ca_wire.specs.Packet.{Fields}
use Rattle.ca_wire.specs.Table.{shape_of}
use Rattle.ca_wire.specs.declared.reth.Reth.{Reth}
use Rattle.ca_wire.specs.declared.shape.Shape.{Shape}
use Rattle.ca_wire.specs.declared.shape.Shape.TheVariants as shapes
use Rattle.ca_wire.specs.declared.wire_error.WireError.{WireError}
use Rattle.ca_law_once.proofs.Rows.ForgetLemmas.{cond-ending}
use Rattle.ca_law_once.proofs.Rows.LayLemmas.{LiesAt, all-lie, read-of-work, unfinished-lie}
use Rattle.ca_law_once.proofs.Rows.PacketRowLemmas.{least-mtu, packet-row}
use Rattle.ca_law_once.specs.Entries.{IsRequestOf, RequestEntry, SpellsRequest}
use Rattle.ca_law_once.specs.Moves.{IsRequestTurn, RowLeads, SendsIn}
use Rattle.ca_law_once.specs.Sides.{IsLaid, requester_in}
use Rattle.ca_law_bounds.proofs.SumLemmas.{Falls, all-fall, error-weighs, request-less}
use Rattle.ca_law_bounds.specs.Weights.{Lowers, asked_weight, decoded_weight, packet_weight, psns_left, queue_weight, request_packet_weight, request_weight}

-- ---- the packet

-- a packet of a READ asks for as many responses as it takes PSNs
light-read : (d : Direction) (x : RequestPacket) (bytes : List ℕ) → is_read (d.work x.place) ≡ true → SpellsRequest d x bytes → packet_weight d.mtu bytes ≤ 1 + 2 * span d x.place x.number
light-read d x bytes kind spells = by (packet_in bytes) refl
  where
    asks : (p : Fields) (o : Option Reth) → IfSome o (λ h. h.length ≡ bytes_left d x.place x.number) → suc (option_map_or (λ h. 2 * segments d.mtu h.length) o 2) ≤ 1 + 2 * span d x.place x.number
    asks p None is = omega (arith, span-some d x.place x.number)
    asks p (Some h) is = omega (arith, ap (segments d.mtu) is, span-is_read d x.place x.number kind)

    shaped : (p : Fields) (shape : Shape) → RequestEntry d x shape p → suc (asked_weight d.mtu p shape) ≤ 1 + 2 * span d x.place x.number
    shaped p (shapes.Send place) entry = omega (arith, span-some d x.place x.number)
    shaped p (shapes.Write place) entry = omega (arith, span-some d x.place x.number)
    shaped p shapes.Read entry = asks p p.reth (entry.asks kind)
    shaped p (shapes.Atomic access) entry = omega (arith, span-some d x.place x.number)

    request : (p : Fields) → IsRequestOf d x p → request_packet_weight d.mtu p (shape_of p.opcode) ≤ 1 + 2 * span d x.place x.number
    request p is = subst (λ o. request_packet_weight d.mtu p o ≤ 1 + 2 * span d x.place x.number) (sym is.is) (shaped p is.shape is.entry)

    either : (p : Fields) → IsRequestOf d x p → (b : Bool) → (if b then 1 else request_packet_weight d.mtu p (shape_of p.opcode)) ≤ 1 + 2 * span d x.place x.number
    either p is true = omega arith
    either p is false = request p is

    by : (r : Result Fields WireError) → packet_in bytes ≡ r → decoded_weight d.mtu r ≤ 1 + 2 * span d x.place x.number
    by (Err error) is = omega arith
    by (Ok p) is = either p (spells p is) (is_response p.opcode)

-- any other asks for one
light-other : (d : Direction) (x : RequestPacket) (bytes : List ℕ) → is_read (d.work x.place) ≡ false → SpellsRequest d x bytes → packet_weight d.mtu bytes ≤ 3
light-other d x bytes kind spells = by (packet_in bytes) refl
  where
    shaped : (p : Fields) (shape : Shape) → RequestEntry d x shape p → suc (asked_weight d.mtu p shape) ≤ 3
    shaped p (shapes.Send place) entry = omega arith
    shaped p (shapes.Write place) entry = omega arith
    shaped p shapes.Read entry = absurd (true≢false (sym entry.kind ∙ kind))
    shaped p (shapes.Atomic access) entry = omega arith

    request : (p : Fields) → IsRequestOf d x p → request_packet_weight d.mtu p (shape_of p.opcode) ≤ 3
    request p is = subst (λ o. request_packet_weight d.mtu p o ≤ 3) (sym is.is) (shaped p is.shape is.entry)

    either : (p : Fields) → IsRequestOf d x p → (b : Bool) → (if b then 1 else request_packet_weight d.mtu p (shape_of p.opcode)) ≤ 3
    either p is true = omega arith
    either p is false = request p is

    by : (r : Result Fields WireError) → packet_in bytes ≡ r → decoded_weight d.mtu r ≤ 3
    by (Err error) is = omega arith
    by (Ok p) is = either p (spells p is) (is_response p.opcode)

-- ---- its request

-- what holds of all unfinished requests holds of the next thing's
pub next-all : (P : Numbered → Type 0) (q : QueuePair) → AllByRecursion P (unfinished_requests q) → IfSome (next_request q) P
next-all P q all = by (request_at q.requester.cursor q)
    (all-found P (has_psn q.requester.cursor) (begun_requests q) (all-taken P (q.requester.next - q.requester.oldest) (unfinished_requests q) all))
  where
    by : (o : Option Numbered) → IfSome o P → IfSome (option_or o (next_to_begin q)) P
    by None found = all-got P (unfinished_requests q) (q.requester.next - q.requester.oldest) all
    by (Some n) found = found

-- what a request that has packets weighs
weight-of : (cursor next : ℕ) (n : Numbered) (b : Bool) → is_local n.request.op ≡ false → is_read_op n.request.op ≡ b
    → request_weight cursor next n ≡ (if b then 2 * psns_left cursor n + 2 * min 1 (psns_left cursor n) else 4 * psns_left cursor n)
weight-of cursor next n b packet is =
    ap (λ l. if l then min 1 (suc n.place - next) else if is_read_op n.request.op then 2 * psns_left cursor n + 2 * min 1 (psns_left cursor n) else 4 * psns_left cursor n) packet
    ∙ ap (λ r. if r then 2 * psns_left cursor n + 2 * min 1 (psns_left cursor n) else 4 * psns_left cursor n) is

-- where the next thing is a packet of this request
record IsNextPacket (d : Direction) (q : QueuePair) (n : Numbered) : Type 0 where
  laid : IsLaid d q
  packet : is_local n.request.op ≡ false
  lies : LiesAt d n
  falls : (cursor next : ℕ) → q.requester.cursor ≤ cursor → q.requester.next ≤ next
      → Falls (request_weight cursor next) (request_weight q.requester.cursor q.requester.next) (unfinished_requests q) n
  some : 0 < d.mtu
  sends : (bytes : List (List ℕ)) → SendsIn d (requester_in q) n.place (sent_packet q n bytes)

-- the request weighs more than its packet does, by what is left of it
sent-lowers : (d : Direction) (q : QueuePair) (n : Numbered) (bytes : List (List ℕ)) → IsNextPacket d q n → Lowers q 0 (sent_packet q n bytes)
sent-lowers d q n bytes at on = by (is_read_op n.request.op) refl
  where
    e : Effects
    e = sent_packet q n bytes

    turn : SendsIn d (requester_in q) n.place e
    turn = at.sends bytes

    kind : (b : Bool) → is_read_op n.request.op ≡ b → is_read (d.work n.place) ≡ b
    kind b is = ap is_read at.lies.work ∙ sym (read-of-work n.request.op) ∙ is

    later : q.requester.next ≤ e.queue.requester.next
    later = of (begins q)
      where
        of : (b : Bool) → q.requester.next ≤ (if b then suc q.requester.next else q.requester.next)
        of true = omega arith
        of false = omega arith

    falls : Falls (request_weight e.queue.requester.cursor e.queue.requester.next) (request_weight q.requester.cursor q.requester.next) (unfinished_requests q) n
    falls = at.falls e.queue.requester.cursor e.queue.requester.next (omega (arith, turn.cursor)) later

    width : packet_weight q.responder.mtu e.spelt ≡ packet_weight d.mtu e.spelt
    width = ap (λ m. packet_weight m e.spelt) at.laid.mtu

    by : (b : Bool) → is_read_op n.request.op ≡ b → queue_weight e.queue + packet_weight q.responder.mtu e.spelt < queue_weight q + 0
    by true is = omega (
      arith,
      falls,
      weight-of q.requester.cursor q.requester.next n true at.packet is,
      weight-of e.queue.requester.cursor e.queue.requester.next n true at.packet is,
      width,
      light-read d (record { number = q.requester.cursor; place = n.place }) e.spelt (kind true is) turn.spells,
      span-read d n.place q.requester.cursor at.some (kind true is) turn.number,
      turn.cursor,
      turn.number.from,
      turn.number.below,
      at.lies.begin,
      at.lies.end,
    )
    by false is = omega (
      arith,
      falls,
      weight-of q.requester.cursor q.requester.next n false at.packet is,
      weight-of e.queue.requester.cursor e.queue.requester.next n false at.packet is,
      width,
      light-other d (record { number = q.requester.cursor; place = n.place }) e.spelt (kind false is) turn.spells,
      span-not_read d n.place q.requester.cursor (kind false is),
      turn.cursor,
      turn.number.from,
      turn.number.below,
      at.lies.begin,
      at.lies.end,
    )

-- a request that fails leaves nothing, and was something
failed-lowers : (d : Direction) (q : QueuePair) (n : Numbered) (a : DeniedAsk) → IsNextPacket d q n → Lowers q 0 (denied_list_effects q a)
failed-lowers d q n a at on = omega (arith, error-weighs q, some)
  where
    lowers : queue_weight (sent_packet q n []).queue + packet_weight q.responder.mtu (sent_packet q n []).spelt < queue_weight q + 0
    lowers = sent-lowers d q n [] at (omega (arith, (at.sends []).cursor))

    some : 0 < queue_weight q
    some = omega (arith, lowers)

pub packet-lowers : (d : Direction) (q : QueuePair) (room : Bool) (n : Numbered) → IsQueue q → (is_sending q.state ≡ true → IsLaid d q) → turn_of q ≡ Sends n → RowLeads (Lowers q 0) (packet_row q room n)
packet-lowers d q room n s laid turn = by (is_too_much q n) refl (sends-parts (first_of (turn_refusals q)) (next_request q) n turn)
  where
    row : Bool → Row
    row z = record {
      asks = packet_asks q n;
      invalidation = None;
      denied = λ d.
          if is_outstanding q then NotPossible reasons.Outstanding
          else if not z then NotPossible reasons.NoRoom
          else Does (denied_list_effects q d);
      allowed = λ bytes refusal. if not z then NotPossible reasons.NoRoom else Does (sent_packet q n bytes);
    }

    at : is_too_much q n ≡ false → first_of (turn_refusals q) ≡ None → next_request q ≡ Some n → is_local n.request.op ≡ false → IsNextPacket d q n
    at little ready next packet = record {
      laid = here;
      packet = packet;
      lies = subst (λ o. IfSome o (LiesAt d)) next (next-all (LiesAt d) q (all-lie d q.requester.oldest (unfinished_requests q) (unfinished-lie d q here)));
      falls = λ cursor following on more. subst (λ o. IfSome o (Falls (request_weight cursor following) (request_weight q.requester.cursor q.requester.next) (unfinished_requests q))) next
          (next-all (Falls (request_weight cursor following) (request_weight q.requester.cursor q.requester.next) (unfinished_requests q)) q
          (all-fall (request_weight cursor following) (request_weight q.requester.cursor q.requester.next)
          (request-less q.requester.cursor q.requester.next cursor following on more) (unfinished_requests q)));
      some = omega (arith, least-mtu q.responder.mtu s.responder.mtu, here.mtu);
      sends = λ bytes. (subst (λ b. RowLeads (IsRequestTurn d (requester_in q)) (if b then plain_row (NotPossible reasons.Outstanding) else row true)) little (packet-row d q true n s laid turn)).allowed bytes None;
    }
      where
        here : IsLaid d q
        here = laid (sending-parts q ready).0

    by : (b : Bool) → is_too_much q n ≡ b → (first_of (turn_refusals q) ≡ None) × (next_request q ≡ Some n) × (is_local n.request.op ≡ false)
        → RowLeads (Lowers q 0) (if b then plain_row (NotPossible reasons.Outstanding) else row room)
    by true is parts = record { denied = λ a. record {}; allowed = λ bytes refusal. record {} }
    by false is parts = record {
      denied = λ a. cond-ending (Lowers q 0) (is_outstanding q) (NotPossible reasons.Outstanding) _ (record {})
          (cond-ending (Lowers q 0) (not room) (NotPossible reasons.NoRoom) (Does (denied_list_effects q a)) (record {}) (failed-lowers d q n a (at is parts.0 parts.1 parts.2)));
      allowed = λ bytes refusal. cond-ending (Lowers q 0) (not room) (NotPossible reasons.NoRoom) (Does (sent_packet q n bytes)) (record {}) (sent-lowers d q n bytes (at is parts.0 parts.1 parts.2));
    }
