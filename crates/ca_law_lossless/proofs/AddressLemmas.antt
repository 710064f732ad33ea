-- What a turn sends is in the default partition, and for the queue pair that its own has named, if it is a packet. For
-- proofs only.
use Rattle.std.proofs.Common.{◌≡◌, ℕ, ◌*◌, ◌^◌, ◌<◌, Bool, true, false, not, List, [], Option, None, Some, Ok, is_some, length, slice_get, nat_le, refl, ap, sym, subst, ◌∙◌, arith, true≢false}
use Rattle.std.specs.List.{flat_map}
use Rattle.std.specs.Option.{option_map, option_map_or}
use Rattle.ca_base.specs.declared.queue_numbers.Queued.{Queued}
use Rattle.ca_base.specs.declared.queue_numbers.Queued.TheVariants as queued
use Rattle.ca_base.specs.declared.request.SendOp.{SendOp}
use Rattle.ca_base.specs.declared.request.SendOp.TheVariants as ops
use Rattle.ca_base.specs.declared.step.Reason.{Reason}
use Rattle.ca_base.specs.declared.step.Reason.TheVariants as reasons
use Rattle.ca_base.specs.declared.step.Sent.{Sent}
use Rattle.ca_base.specs.declared.step.Sent.TheVariants.{Silent, Spelt}
use Rattle.ca_base.specs.objects.QueuePair.{QueuePair}
use Rattle.ca_keys.specs.Refusals.{first_of}
use Rattle.ca_keys.specs.declared.access.Kind.TheVariants.{CmpSwap, FetchAdd}
use Rattle.ca_law_world.proofs.Sound.TurnLemmas.{sends-parts}
use Rattle.ca_model.specs.Requests.{is_local, list_length, request_packet, reth_behind, segment}
use Rattle.ca_model.specs.machine.Invariants.{IsQueue}
use Rattle.ca_model.specs.machine.Numbering.{Numbered}
use Rattle.ca_model.specs.machine.Requester.{Sends, denied_list_effects, index_of_packet, is_outstanding, is_too_much, next_request, packet_row, peer_number, psn_bits, sent_packet, spelt_packet, turn_of, turn_refusals}
use Rattle.ca_model.specs.machine.Respond.{answer_turn, nak_of, respond_refusals, respond_row, response_segment}
use Rattle.ca_model.specs.machine.Row.{Does, NotPossible, Row as EngineRow, plain_row}
use Rattle.ca_wire.proofs.BthLaws.{bth_again}
use Rattle.ca_wire.proofs.PacketLaws.{after_body, after_bth}
use Rattle.ca_wire.proofs.Steps.{bind_ok, ok_is}
use Rattle.ca_wire.proofs.TableRows.{row_orderly}
use Rattle.ca_wire.specs.Decoding.{body_in, bth_at, fields_from, packet_in}
use Rattle.ca_wire.specs.Packet.{Fields, FitsBth, Ignored, bth_of, canonical, packet_bytes, pad_count, spelling}
use Rattle.ca_wire.specs.Table.{Row, operation_of, row_of}
use Rattle.ca_wire.specs.declared.bth.Bth.{Bth}
use Rattle.ca_wire.specs.declared.opcode.TheConstants.{ACKNOWLEDGE, ATOMIC_ACKNOWLEDGE, CMP_SWAP, FETCH_ADD, RDMA_READ_REQUEST}
use Rattle.ca_wire.specs.declared.packet.TheConstants.{DEFAULT_PKEY}
use Rattle.ca_wire.specs.declared.reth.Reth.{Reth}
use Rattle.ca_wire.specs.declared.shape.Operation.{Operation}
use Rattle.ca_wire.specs.declared.shape.Operation.TheVariants.{Request, ReadResponse, Acknowledge, AtomicAcknowledge}
use Rattle.ca_wire.specs.declared.shape.Shape.{Shape}
use Rattle.ca_wire.specs.declared.shape.Shape.TheVariants as shapes
use Rattle.ca_law_lossless.specs.RowMail.{IsFor, SendsFor}
use Rattle.ca_law_once.proofs.Rows.DecodeLemmas.{behind_bth}
use Rattle.ca_law_once.proofs.Rows.EntryLemmas.{peer-fits}
use Rattle.ca_law_once.proofs.Rows.ForgetLemmas.{cond-ending}
use Rattle.ca_law_once.proofs.Rows.RequestRowLemmas.{cond-row, plain}
use Rattle.ca_law_once.specs.Entries.{IfPacket}
use Rattle.ca_law_once.specs.Moves.{RowLeads}
use Rattle.ca_wire.proofs.OperationLaws.{read_response_is, send_is, write_is}
use Rattle.ca_wire.specs.Builders.{acknowledge, atomic_acknowledge, cmp_swap, fetch_add, read_request, read_response, send_packet, write_packet}
use Rattle.ca_wire.specs.Segment.{position_of}
use Rattle.ca_wire.specs.declared.requests.SendKind.{SendKind}
use Rattle.ca_wire.specs.declared.requests.SendKind.TheVariants.{Plain, WithImmediate, WithInvalidate}
use Rattle.ca_wire.specs.declared.segment.Segment.{Segment}
use Rattle.ca_wire.specs.declared.syndrome.NakCode.TheVariants as codes
use Rattle.ca_wire.specs.declared.syndrome.Syndrome.{Syndrome}
use Rattle.ca_wire.specs.declared.syndrome.Syndrome.TheVariants as syndromes
use Rattle.ca_wire.specs.declared.syndrome.TheConstants.{UNLIMITED_CREDITS}

-- what is read is for the queue pair for which it was spelt
decoded-for : (f p : Fields) → FitsBth (bth_of f) → f.pkey ≡ DEFAULT_PKEY → packet_in (spelling f) ≡ Ok p → IsFor f.queue p
unfolding packet_in packet_bytes
decoded-for f p fits partition is =
    let i : Ignored = canonical (pad_count (length f.payload)) in
    let b = bind_ok (bth_at (spelling f)) after_bth p is in
    let x = bind_ok (body_in b.0.0.opcode b.0.0.pad b.0.1) (after_body b.0.0) p b.2 in
    let same : b.0 ≡ (bth_of f, behind_bth f) = ok_is _ _ (sym b.1 ∙ bth_again i (bth_of f) (behind_bth f) fits (omega arith) (omega arith)) in
    let whole : fields_from b.0.0 x.0.0 x.0.1 ≡ p = ok_is _ _ x.2 in
    record {
      partition = ap (λ (g : Fields). g.pkey) (sym whole) ∙ ap (λ (y : Bth × List ℕ). y.0.pkey) same ∙ partition;
      queue = ap (λ (g : Fields). g.queue) (sym whole) ∙ ap (λ (y : Bth × List ℕ). y.0.queue) same;
    }

-- an opcode of which the table has an operation has eight bits
known-opcode : (opcode : ℕ) (o : Operation) → operation_of opcode ≡ Some o → opcode < 2 ^ 8
known-opcode opcode o is = by (row_of opcode) refl is
  where
    by : (r : Option Row) → row_of opcode ≡ r → option_map (λ (r : Row). r.operation) r ≡ Some o → opcode < 2 ^ 8
    by (Some r) e is = let row = row_orderly opcode r e in omega (arith, row.0.opcode, row.1)
    by None e is = absurd (true≢false (sym (ap is_some is)))

spelt-for : (f : Fields) (o : Operation) (number : ℕ) → operation_of f.opcode ≡ Some o → f.pkey ≡ DEFAULT_PKEY → f.queue ≡ number → number < 2 ^ 24 → f.psn < 2 ^ 24 → IfPacket (spelling f) (IsFor number)
spelt-for f o number is partition own fits psn p decodes = subst (λ n. IsFor n p) own
    (decoded-for f p (record { opcode = known-opcode f.opcode o is; pad = omega arith; pkey = omega (arith, partition); queue = omega (arith, own, fits); psn = psn }) partition decodes)

-- ---- requests

cmp-swap-is : operation_of CMP_SWAP ≡ Some (Request (shapes.Atomic CmpSwap))
unfolding row_of
cmp-swap-is = refl

fetch-add-is : operation_of FETCH_ADD ≡ Some (Request (shapes.Atomic FetchAdd))
unfolding row_of
fetch-add-is = refl

read-request-is : operation_of RDMA_READ_REQUEST ≡ Some (Request shapes.Read)
unfolding row_of
read-request-is = refl

request-for : (q : QueuePair) (n : Numbered) (payload : List ℕ) → IsQueue q → is_local n.request.op ≡ false → IfPacket (spelt_packet q n payload) (IsFor (peer_number q))
request-for q n payload s packet p is = by n.request.op refl
  where
    index : ℕ
    index = index_of_packet q n

    fields : SendOp → Option Fields
    fields op = request_packet q.responder.mtu (record n.request { op = op }) index (peer_number q) (psn_bits q.requester.cursor) payload

    bytes : (op : SendOp) → n.request.op ≡ op → packet_in (option_map_or spelling (fields op) []) ≡ Ok p
    bytes op e = subst (λ o. packet_in (option_map_or spelling (fields o) []) ≡ Ok p) e is

    one : (f : Fields) (shape : Shape) → operation_of f.opcode ≡ Some (Request shape) → f.pkey ≡ DEFAULT_PKEY → f.queue ≡ peer_number q → f.psn ≡ psn_bits q.requester.cursor → packet_in (spelling f) ≡ Ok p → IsFor (peer_number q) p
    one f shape op partition own psn is = spelt-for f (Request shape) (peer_number q) op partition own (peer-fits q s) (omega (arith, psn)) p is

    send : (kind : SendKind) (seg : Segment) → packet_in (spelling (send_packet kind seg n.request.solicited (peer_number q) (psn_bits q.requester.cursor) payload)) ≡ Ok p → IsFor (peer_number q) p
    send kind seg is = one (send_packet kind seg n.request.solicited (peer_number q) (psn_bits q.requester.cursor) payload) (shapes.Send (position_of seg)) (send_is kind (position_of seg)) refl refl refl is

    write : (seg : Segment) (reth : Reth) (imm : Option ℕ) → packet_in (spelling (write_packet seg reth imm n.request.solicited (peer_number q) (psn_bits q.requester.cursor) payload)) ≡ Ok p → IsFor (peer_number q) p
    write seg reth imm is = one (write_packet seg reth imm n.request.solicited (peer_number q) (psn_bits q.requester.cursor) payload) (shapes.Write (position_of seg)) (write_is imm (position_of seg)) refl refl refl is

    by : (op : SendOp) → n.request.op ≡ op → IsFor (peer_number q) p
    by (ops.Send list) e = send Plain (segment q.responder.mtu (list_length list.items) index) (bytes (ops.Send list) e)
    by (ops.SendImm imm list) e = send (WithImmediate imm) (segment q.responder.mtu (list_length list.items) index) (bytes (ops.SendImm imm list) e)
    by (ops.SendInv key list) e = send (WithInvalidate key) (segment q.responder.mtu (list_length list.items) index) (bytes (ops.SendInv key list) e)
    by (ops.Write address key list) e = write (segment q.responder.mtu (list_length list.items) index) (record { address = address; key = key; length = list_length list.items }) None (bytes (ops.Write address key list) e)
    by (ops.WriteImm address key imm list) e = write (segment q.responder.mtu (list_length list.items) index) (record { address = address; key = key; length = list_length list.items }) (Some imm) (bytes (ops.WriteImm address key imm list) e)
    by (ops.Read address key list) e = one (read_request (reth_behind (index * q.responder.mtu) address key (list_length list.items)) (peer_number q) (psn_bits q.requester.cursor)) shapes.Read read-request-is refl refl refl (bytes (ops.Read address key list) e)
    by (ops.CmpSwap address key compare swap list) e =
        one (cmp_swap (record { address = address; key = key; swap = swap; compare = compare }) (peer_number q) (psn_bits q.requester.cursor)) (shapes.Atomic CmpSwap) cmp-swap-is refl refl refl (bytes (ops.CmpSwap address key compare swap list) e)
    by (ops.FetchAdd address key add list) e = one (fetch_add address key add (peer_number q) (psn_bits q.requester.cursor)) (shapes.Atomic FetchAdd) fetch-add-is refl refl refl (bytes (ops.FetchAdd address key add list) e)
    by (ops.Bind1 window region address count rights) e = absurd (true≢false (ap is_local (sym e) ∙ packet))
    by (ops.Bind2 window region low address count rights) e = absurd (true≢false (ap is_local (sym e) ∙ packet))
    by (ops.FastReg region low buffer address count rights pages) e = absurd (true≢false (ap is_local (sym e) ∙ packet))
    by (ops.LocalInv key) e = absurd (true≢false (ap is_local (sym e) ∙ packet))

-- ---- responses

acknowledge-is : operation_of ACKNOWLEDGE ≡ Some Acknowledge
unfolding row_of
acknowledge-is = refl

atomic-acknowledge-is : operation_of ATOMIC_ACKNOWLEDGE ≡ Some AtomicAcknowledge
unfolding row_of
atomic-acknowledge-is = refl

acknowledge-for : (s : Syndrome) (queue psn msn : ℕ) → queue < 2 ^ 24 → IfPacket (spelling (acknowledge s queue (psn_bits psn) msn)) (IsFor queue)
acknowledge-for s queue psn msn fits = spelt-for (acknowledge s queue (psn_bits psn) msn) Acknowledge queue acknowledge-is refl refl fits (omega arith)

found-for : (found queue psn msn : ℕ) → queue < 2 ^ 24 → IfPacket (spelling (atomic_acknowledge found queue (psn_bits psn) msn)) (IsFor queue)
found-for found queue psn msn fits = spelt-for (atomic_acknowledge found queue (psn_bits psn) msn) AtomicAcknowledge queue atomic-acknowledge-is refl refl fits (omega arith)

read-for : (seg : Segment) (queue psn msn : ℕ) (payload : List ℕ) → queue < 2 ^ 24 → IfPacket (spelling (read_response seg queue (psn_bits psn) msn payload)) (IsFor queue)
read-for seg queue psn msn payload fits = spelt-for (read_response seg queue (psn_bits psn) msn payload) (ReadResponse (position_of seg)) queue (read_response_is (position_of seg)) refl refl fits (omega arith)

-- ---- rows

abbrev is_spelt : Sent → Bool
is_spelt Silent = false
is_spelt (Spelt request) = true

pub packet-for : (q : QueuePair) (room : Bool) (n : Numbered) → IsQueue q → turn_of q ≡ Sends n → RowLeads (SendsFor q) (packet_row q room n)
packet-for q room n s turn = cond-row (SendsFor q) (is_too_much q n) _ _ (record { denied = λ d. record {}; allowed = λ bytes refusal. record {} }) (record {
  denied = λ d. cond-ending (SendsFor q) (is_outstanding q) (NotPossible reasons.Outstanding) _ (record {}) (cond-ending (SendsFor q) (not room) (NotPossible reasons.NoRoom) (Does (denied_list_effects q d)) (record {})
      (λ request sent. absurd (true≢false (sym (ap is_spelt sent)))));
  allowed = λ bytes refusal. cond-ending (SendsFor q) (not room) (NotPossible reasons.NoRoom) (Does (sent_packet q n bytes)) (record {})
      (λ request sent. request-for q n (flat_map (λ b. b) bytes) s (sends-parts (first_of (turn_refusals q)) (next_request q) n turn).2);
})

answer-for : (q : QueuePair) (a : Queued) → IsQueue q → RowLeads (SendsFor q) (answer_turn q a)
answer-for q (queued.Ack psn) s = plain (SendsFor q) _ (λ request sent. acknowledge-for (syndromes.Ack UNLIMITED_CREDITS) (peer_number q) psn q.responder.msn (peer-fits q s))
answer-for q (queued.Rnr psn) s = plain (SendsFor q) _ (λ request sent. acknowledge-for (syndromes.RnrNak q.responder.rnr_code) (peer_number q) psn q.responder.msn (peer-fits q s))
answer-for q (queued.Nak psn code) s = plain (SendsFor q) _ (λ request sent. acknowledge-for (syndromes.Nak (nak_of code)) (peer_number q) psn q.responder.msn (peer-fits q s))
answer-for q (queued.Read psn key address left begins envelope duplicate) s = record {
  denied = λ d. λ request sent. acknowledge-for (syndromes.Nak codes.RemoteAccessError) (peer_number q) psn q.responder.msn (peer-fits q s);
  allowed = λ bytes refusal. λ request sent. read-for (response_segment begins (nat_le left q.responder.mtu)) (peer_number q) psn q.responder.msn (flat_map (λ b. b) bytes) (peer-fits q s);
}
answer-for q (queued.Atomic psn found duplicate) s = plain (SendsFor q) _ (λ request sent. found-for found (peer_number q) psn q.responder.msn (peer-fits q s))

pub respond-for : (q : QueuePair) (room : Bool) → IsQueue q → RowLeads (SendsFor q) (respond_row room q)
respond-for q room s = by (first_of (respond_refusals room q)) (slice_get q.responder.answers 0)
  where
    row : Option Reason → Option Queued → EngineRow
    row (Some reason) answer = plain_row (NotPossible reason)
    row None None = plain_row (NotPossible reasons.Empty)
    row None (Some answer) = answer_turn q answer

    by : (o : Option Reason) (a : Option Queued) → RowLeads (SendsFor q) (row o a)
    by (Some reason) a = record { denied = λ d. record {}; allowed = λ bytes refusal. record {} }
    by None None = record { denied = λ d. record {}; allowed = λ bytes refusal. record {} }
    by None (Some a) = answer-for q a s
