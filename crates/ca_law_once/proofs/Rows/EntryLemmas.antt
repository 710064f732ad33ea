-- The packets that requester and responder spell stand for the entries of a link.
use Rattle.std.proofs.Common.{◌≡◌, ℕ, ◌-◌, ◌*◌, ◌%◌, ◌^◌, ◌<◌, ◌≤◌, Bool, true, false, List, [], Option, None, Some, IfSome, Ok, refl, ap, ap₂, sym, subst, ◌∙◌, arith, true≢false, is_some}
use Rattle.std.specs.Option.{option_map, option_map_or}
use Rattle.ca_base.specs.declared.limits.TheConstants.{MAX_MESSAGE_BYTES}
use Rattle.ca_base.specs.declared.correspondent.Correspondent.{Correspondent}
use Rattle.ca_base.specs.declared.request.SendOp.{SendOp}
use Rattle.ca_base.specs.declared.request.SendOp.TheVariants as ops
use Rattle.ca_base.specs.objects.QueuePair.{QueuePair}
use Rattle.ca_connection.specs.Layout.{Direction, bytes_left, bytes_of, is_atomic, is_data, is_read, is_write}
use Rattle.ca_connection.specs.Link.{NakReason, RequestPacket}
use Rattle.ca_connection.specs.Link.Response.{Ack, Nak, Data, Found}
use Rattle.ca_keys.specs.declared.access.Kind.TheVariants.{CmpSwap, FetchAdd}
use Rattle.ca_model.specs.Packets.{answers_read, is_response}
use Rattle.ca_model.specs.Requests.{is_local, list_length, list_of, request_packet, reth_behind, segment}
use Rattle.ca_model.specs.machine.Invariants.{IsQueue}
use Rattle.ca_model.specs.machine.Numbering.{Numbered}
use Rattle.ca_model.specs.machine.Requester.{index_of_packet, peer_number, psn_bits, spelt_packet}
use Rattle.ca_wire.proofs.TableRows.{row_orderly}
use Rattle.ca_wire.specs.Decoding.{packet_in}
use Rattle.ca_wire.specs.Packet.{Fields, FitsBth, bth_of, spelling}
use Rattle.ca_wire.specs.Table.{Row, operation_of, request_shape, row_of, shape_of}
use Rattle.ca_wire.specs.declared.opcode.TheConstants.{ACKNOWLEDGE, ATOMIC_ACKNOWLEDGE, CMP_SWAP, FETCH_ADD, RDMA_READ_REQUEST}
use Rattle.ca_wire.specs.declared.packet.TheConstants.{DEFAULT_PKEY}
use Rattle.ca_wire.specs.declared.reth.Reth.{Reth}
use Rattle.ca_wire.specs.declared.shape.Operation.{Operation}
use Rattle.ca_wire.specs.declared.shape.Operation.TheVariants.{Request, ReadResponse, Acknowledge, AtomicAcknowledge}
use Rattle.ca_wire.specs.declared.shape.Shape.{Shape}
use Rattle.ca_wire.specs.declared.shape.Shape.TheVariants as shapes
use Rattle.ca_law_once.proofs.Rows.DecodeLemmas.{Decoded, decoded}
use Rattle.ca_law_once.proofs.Rows.ResponseRowLemmas.{IsRequestAt}
use Rattle.ca_law_once.proofs.Rows.SpellLemmas.{aeth-decoded, read-decoded, result-decoded}
use Rattle.ca_law_once.specs.Entries.{IsRequestOf, IsShapeOf, is_write_shape, SpellsRequest, SpellsResponse, SpellsSomeRequest, SpellsSomeResponse, Tells}
use Rattle.ca_law_once.specs.Sides.{work_of}
use Rattle.ca_wire.proofs.OperationLaws.{read_response_is, send_is, write_is}
use Rattle.ca_wire.specs.Builders.{acknowledge, atomic_acknowledge, cmp_swap, fetch_add, read_request, read_response, send_packet, write_packet}
use Rattle.ca_wire.specs.Segment.{position_of}
use Rattle.ca_wire.specs.Syndrome.{FitsSyndrome}
use Rattle.ca_wire.specs.declared.requests.SendKind.{SendKind}
use Rattle.ca_wire.specs.declared.requests.SendKind.TheVariants.{Plain, WithImmediate, WithInvalidate}
use Rattle.ca_wire.specs.declared.segment.Segment.{Segment}
use Rattle.ca_wire.specs.declared.syndrome.Syndrome.{Syndrome}

-- an opcode of which the table has an operation has eight bits
known-opcode : (opcode : ℕ) (o : Operation) → operation_of opcode ≡ Some o → opcode < 2 ^ 8
known-opcode opcode o is = by (row_of opcode) refl is
  where
    by : (r : Option Row) → row_of opcode ≡ r → option_map (λ (r : Row). r.operation) r ≡ Some o → opcode < 2 ^ 8
    by (Some r) e is = let row = row_orderly opcode r e in omega (arith, row.0.opcode, row.1)
    by None e is = absurd (true≢false (sym (ap is_some is)))

-- the numbers of a packet's base transport header fit
bth-fits : (f : Fields) (o : Operation) → operation_of f.opcode ≡ Some o → f.pkey ≡ DEFAULT_PKEY → f.queue < 2 ^ 24 → f.psn < 2 ^ 24 → FitsBth (bth_of f)
bth-fits f o is pkey queue psn = record { opcode = known-opcode f.opcode o is; pad = omega arith; pkey = omega (arith, pkey); queue = queue; psn = psn }

pub peer-fits : (q : QueuePair) → IsQueue q → peer_number q < 2 ^ 24
peer-fits q s = by q.peer s.peer
  where
    by : (o : Option Correspondent) → IfSome o (λ p. p.queue.number < 2 ^ 24) → option_map_or (λ p. p.queue.number) o 0 < 2 ^ 24
    by (Some p) fits = fits
    by None fits = omega arith

-- ---- requests

-- a packet that was spelt as one of this shape is one
request-entry : (d : Direction) (x : RequestPacket) (f p : Fields) (shape : Shape) → Decoded f p → f.psn ≡ x.number % 2 ^ 24 → operation_of f.opcode ≡ Some (Request shape) → IsShapeOf (d.work x.place) shape
    → is_write (d.work x.place) ≡ is_write_shape shape → (is_read (d.work x.place) ≡ true → IfSome p.reth (λ h. h.length ≡ bytes_left d x.place x.number)) → IsRequestOf d x p
request-entry d x f p shape dec psn is kind writes asks = record {
  shape = shape;
  is = ap shape_of dec.opcode ∙ ap request_shape is;
  entry = record { psn = dec.psn ∙ psn; kind = kind; writes = writes; asks = asks };
}

cmp-swap-is : operation_of CMP_SWAP ≡ Some (Request (shapes.Atomic CmpSwap))
unfolding row_of
cmp-swap-is = refl

fetch-add-is : operation_of FETCH_ADD ≡ Some (Request (shapes.Atomic FetchAdd))
unfolding row_of
fetch-add-is = refl

read-request-is : operation_of RDMA_READ_REQUEST ≡ Some (Request shapes.Read)
unfolding row_of
read-request-is = refl

-- a SEND or a WRITE asks for nothing, and neither does an atomic
asks-none : (d : Direction) (x : RequestPacket) (p : Fields) → is_read (d.work x.place) ≡ false → is_read (d.work x.place) ≡ true → IfSome p.reth (λ h. h.length ≡ bytes_left d x.place x.number)
asks-none d x p other is_so = absurd (true≢false (sym is_so ∙ other))

pub request-spelt : (d : Direction) (q : QueuePair) (n : Numbered) (payload : List ℕ) → IsQueue q → q.responder.mtu ≡ d.mtu → list_length (list_of n.request.op) ≤ MAX_MESSAGE_BYTES → is_local n.request.op ≡ false
    → IsRequestAt d q.requester.cursor n → SpellsRequest d (record { number = q.requester.cursor; place = n.place }) (spelt_packet q n payload)
request-spelt d q n payload s mtu short packet has p is = by n.request.op refl
  where
    x : RequestPacket
    x = record { number = q.requester.cursor; place = n.place }

    index : ℕ
    index = index_of_packet q n

    spelt : SendOp → List ℕ
    spelt op = option_map_or spelling (request_packet q.responder.mtu (record n.request { op = op }) index (peer_number q) (psn_bits q.requester.cursor) payload) []

    work : (op : SendOp) → n.request.op ≡ op → d.work x.place ≡ work_of op
    work op e = has.lies.work ∙ ap work_of e

    bytes : (op : SendOp) → n.request.op ≡ op → packet_in (spelt op) ≡ Ok p
    bytes op e = subst (λ o. packet_in (spelt o) ≡ Ok p) e is

    send : (kind : SendKind) (seg : Segment) (op : SendOp) → n.request.op ≡ op → is_data (work_of op) ≡ true → is_write (work_of op) ≡ false → is_read (work_of op) ≡ false
        → packet_in (spelling (send_packet kind seg n.request.solicited (peer_number q) (psn_bits q.requester.cursor) payload)) ≡ Ok p → IsRequestOf d x p
    send kind seg op e is_of write_is_of other is = request-entry d x f p (shapes.Send (position_of seg)) dec refl (send_is kind (position_of seg)) (ap is_data (work op e) ∙ is_of) (ap is_write (work op e) ∙ write_is_of) (asks-none d x p (ap is_read (work op e) ∙ other))
      where
        f : Fields
        f = send_packet kind seg n.request.solicited (peer_number q) (psn_bits q.requester.cursor) payload

        dec : Decoded f p
        dec = decoded f p (bth-fits f (Request (shapes.Send (position_of seg))) (send_is kind (position_of seg)) refl (peer-fits q s) (omega arith)) is

    write : (seg : Segment) (reth : Reth) (imm : Option ℕ) (op : SendOp) → n.request.op ≡ op → is_data (work_of op) ≡ true → is_write (work_of op) ≡ true → is_read (work_of op) ≡ false
        → packet_in (spelling (write_packet seg reth imm n.request.solicited (peer_number q) (psn_bits q.requester.cursor) payload)) ≡ Ok p → IsRequestOf d x p
    write seg reth imm op e is_of write_is_of other is = request-entry d x f p (shapes.Write (position_of seg)) dec refl (write_is imm (position_of seg)) (ap is_data (work op e) ∙ is_of) (ap is_write (work op e) ∙ write_is_of) (asks-none d x p (ap is_read (work op e) ∙ other))
      where
        f : Fields
        f = write_packet seg reth imm n.request.solicited (peer_number q) (psn_bits q.requester.cursor) payload

        dec : Decoded f p
        dec = decoded f p (bth-fits f (Request (shapes.Write (position_of seg))) (write_is imm (position_of seg)) refl (peer-fits q s) (omega arith)) is

    -- how many bytes of a READ are left
    left : (op : SendOp) → n.request.op ≡ op → list_length (list_of op) ≡ bytes_of (work_of op) → list_length (list_of op) - index * q.responder.mtu ≡ bytes_left d x.place x.number
    left op e same = ap₂ (λ m i. m - i) (same ∙ ap bytes_of (sym (work op e))) (ap₂ (λ i m. i * m) (ap (λ (m : ℕ). q.requester.cursor - m) has.lies.begin) mtu)

    by : (op : SendOp) → n.request.op ≡ op → IsRequestOf d x p
    by (ops.Send list) e = send Plain (segment q.responder.mtu (list_length list.items) index) (ops.Send list) e refl refl refl (bytes (ops.Send list) e)
    by (ops.SendImm imm list) e = send (WithImmediate imm) (segment q.responder.mtu (list_length list.items) index) (ops.SendImm imm list) e refl refl refl (bytes (ops.SendImm imm list) e)
    by (ops.SendInv key list) e = send (WithInvalidate key) (segment q.responder.mtu (list_length list.items) index) (ops.SendInv key list) e refl refl refl (bytes (ops.SendInv key list) e)
    by (ops.Write address key list) e = write (segment q.responder.mtu (list_length list.items) index) (record { address = address; key = key; length = list_length list.items }) None (ops.Write address key list) e refl refl refl (bytes (ops.Write address key list) e)
    by (ops.WriteImm address key imm list) e =
        write (segment q.responder.mtu (list_length list.items) index) (record { address = address; key = key; length = list_length list.items }) (Some imm) (ops.WriteImm address key imm list) e refl refl refl (bytes (ops.WriteImm address key imm list) e)
    by (ops.Read address key list) e = request-entry d x f p shapes.Read dec refl read-request-is (ap is_read (work (ops.Read address key list) e)) (ap is_write (work (ops.Read address key list) e))
        (λ reads. subst (λ m. IfSome p.reth (λ h. h.length ≡ m)) (left (ops.Read address key list) e refl) (read-decoded (reth_behind (index * q.responder.mtu) address key (list_length list.items)) (peer_number q) (psn_bits q.requester.cursor) p
        (omega (arith, short, ap (λ op. list_length (list_of op)) e)) dec))
      where
        f : Fields
        f = read_request (reth_behind (index * q.responder.mtu) address key (list_length list.items)) (peer_number q) (psn_bits q.requester.cursor)

        dec : Decoded f p
        dec = decoded f p (bth-fits f (Request shapes.Read) read-request-is refl (peer-fits q s) (omega arith)) (bytes (ops.Read address key list) e)
    by (ops.CmpSwap address key compare swap list) e = request-entry d x f p (shapes.Atomic CmpSwap) dec refl cmp-swap-is (ap is_atomic (work op e)) (ap is_write (work op e)) (asks-none d x p (ap is_read (work op e)))
      where
        op : SendOp
        op = ops.CmpSwap address key compare swap list

        f : Fields
        f = cmp_swap (record { address = address; key = key; swap = swap; compare = compare }) (peer_number q) (psn_bits q.requester.cursor)

        dec : Decoded f p
        dec = decoded f p (bth-fits f (Request (shapes.Atomic CmpSwap)) cmp-swap-is refl (peer-fits q s) (omega arith)) (bytes op e)
    by (ops.FetchAdd address key add list) e = request-entry d x f p (shapes.Atomic FetchAdd) dec refl fetch-add-is (ap is_atomic (work op e)) (ap is_write (work op e)) (asks-none d x p (ap is_read (work op e)))
      where
        op : SendOp
        op = ops.FetchAdd address key add list

        f : Fields
        f = fetch_add address key add (peer_number q) (psn_bits q.requester.cursor)

        dec : Decoded f p
        dec = decoded f p (bth-fits f (Request (shapes.Atomic FetchAdd)) fetch-add-is refl (peer-fits q s) (omega arith)) (bytes op e)
    by (ops.Bind1 window region address count rights) e = absurd (true≢false (ap is_local (sym e) ∙ packet))
    by (ops.Bind2 window region low address count rights) e = absurd (true≢false (ap is_local (sym e) ∙ packet))
    by (ops.FastReg region low buffer address count rights pages) e = absurd (true≢false (ap is_local (sym e) ∙ packet))
    by (ops.LocalInv key) e = absurd (true≢false (ap is_local (sym e) ∙ packet))

abbrev pub answers : Option Operation → Bool
answers (Some (Request shape)) = false
answers (Some operation) = true
answers None = false

-- the same, whatever the direction: what is sent of a request is no response
no-response : (f p : Fields) (shape : Shape) → Decoded f p → operation_of f.opcode ≡ Some (Request shape) → is_response p.opcode ≡ false
no-response f p shape dec is = ap is_response dec.opcode ∙ ap answers is

pub request-is-no-response : (q : QueuePair) (n : Numbered) (payload : List ℕ) → IsQueue q → is_local n.request.op ≡ false → SpellsSomeRequest (spelt_packet q n payload)
request-is-no-response q n payload s packet p is = by n.request.op refl
  where
    index : ℕ
    index = index_of_packet q n

    fields : SendOp → Option Fields
    fields op = request_packet q.responder.mtu (record n.request { op = op }) index (peer_number q) (psn_bits q.requester.cursor) payload

    bytes : (op : SendOp) → n.request.op ≡ op → packet_in (option_map_or spelling (fields op) []) ≡ Ok p
    bytes op e = subst (λ o. packet_in (option_map_or spelling (fields o) []) ≡ Ok p) e is

    one : (f : Fields) (shape : Shape) → operation_of f.opcode ≡ Some (Request shape) → f.pkey ≡ DEFAULT_PKEY → f.queue ≡ peer_number q → f.psn ≡ psn_bits q.requester.cursor → packet_in (spelling f) ≡ Ok p → is_response p.opcode ≡ false
    one f shape op pkey queue psn is = no-response f p shape (decoded f p (bth-fits f (Request shape) op pkey (omega (arith, queue, peer-fits q s)) (omega (arith, psn))) is) op

    send : (kind : SendKind) (seg : Segment) → packet_in (spelling (send_packet kind seg n.request.solicited (peer_number q) (psn_bits q.requester.cursor) payload)) ≡ Ok p → is_response p.opcode ≡ false
    send kind seg is = one (send_packet kind seg n.request.solicited (peer_number q) (psn_bits q.requester.cursor) payload) (shapes.Send (position_of seg)) (send_is kind (position_of seg)) refl refl refl is

    write : (seg : Segment) (reth : Reth) (imm : Option ℕ) → packet_in (spelling (write_packet seg reth imm n.request.solicited (peer_number q) (psn_bits q.requester.cursor) payload)) ≡ Ok p → is_response p.opcode ≡ false
    write seg reth imm is = one (write_packet seg reth imm n.request.solicited (peer_number q) (psn_bits q.requester.cursor) payload) (shapes.Write (position_of seg)) (write_is imm (position_of seg)) refl refl refl is

    by : (op : SendOp) → n.request.op ≡ op → is_response p.opcode ≡ false
    by (ops.Send list) e = send Plain (segment q.responder.mtu (list_length list.items) index) (bytes (ops.Send list) e)
    by (ops.SendImm imm list) e = send (WithImmediate imm) (segment q.responder.mtu (list_length list.items) index) (bytes (ops.SendImm imm list) e)
    by (ops.SendInv key list) e = send (WithInvalidate key) (segment q.responder.mtu (list_length list.items) index) (bytes (ops.SendInv key list) e)
    by (ops.Write address key list) e = write (segment q.responder.mtu (list_length list.items) index) (record { address = address; key = key; length = list_length list.items }) None (bytes (ops.Write address key list) e)
    by (ops.WriteImm address key imm list) e = write (segment q.responder.mtu (list_length list.items) index) (record { address = address; key = key; length = list_length list.items }) (Some imm) (bytes (ops.WriteImm address key imm list) e)
    by (ops.Read address key list) e = one (read_request (reth_behind (index * q.responder.mtu) address key (list_length list.items)) (peer_number q) (psn_bits q.requester.cursor)) shapes.Read read-request-is refl refl refl (bytes (ops.Read address key list) e)
    by (ops.CmpSwap address key compare swap list) e =
        one (cmp_swap (record { address = address; key = key; swap = swap; compare = compare }) (peer_number q) (psn_bits q.requester.cursor)) (shapes.Atomic CmpSwap) cmp-swap-is refl refl refl (bytes (ops.CmpSwap address key compare swap list) e)
    by (ops.FetchAdd address key add list) e = one (fetch_add address key add (peer_number q) (psn_bits q.requester.cursor)) (shapes.Atomic FetchAdd) fetch-add-is refl refl refl (bytes (ops.FetchAdd address key add list) e)
    by (ops.Bind1 window region address count rights) e = absurd (true≢false (ap is_local (sym e) ∙ packet))
    by (ops.Bind2 window region low address count rights) e = absurd (true≢false (ap is_local (sym e) ∙ packet))
    by (ops.FastReg region low buffer address count rights pages) e = absurd (true≢false (ap is_local (sym e) ∙ packet))
    by (ops.LocalInv key) e = absurd (true≢false (ap is_local (sym e) ∙ packet))

-- ---- responses

acknowledge-is : operation_of ACKNOWLEDGE ≡ Some Acknowledge
unfolding row_of
acknowledge-is = refl

atomic-acknowledge-is : operation_of ATOMIC_ACKNOWLEDGE ≡ Some AtomicAcknowledge
unfolding row_of
atomic-acknowledge-is = refl

-- a packet of an answer is a response
response-is : (f p : Fields) (o : Operation) → Decoded f p → operation_of f.opcode ≡ Some o → answers (Some o) ≡ true → is_response p.opcode ≡ true
response-is f p o dec is is_so = ap is_response dec.opcode ∙ ap answers is ∙ is_so

acknowledge-decoded : (s : Syndrome) (queue psn msn : ℕ) (p : Fields) → queue < 2 ^ 24 → packet_in (spelling (acknowledge s queue (psn_bits psn) msn)) ≡ Ok p → Decoded (acknowledge s queue (psn_bits psn) msn) p
acknowledge-decoded s queue psn msn p fits is = decoded f p (bth-fits f Acknowledge acknowledge-is refl fits (omega arith)) is
  where
    f : Fields
    f = acknowledge s queue (psn_bits psn) msn

-- an Acknowledge packet of a NAK or an RNR NAK, or of an ACK
pub nak-spelt : (s : Syndrome) (code : NakReason) (queue psn msn : ℕ) → queue < 2 ^ 24 → msn < 2 ^ 24 → FitsSyndrome s → Tells code (Some s) → SpellsResponse (Nak code psn) (spelling (acknowledge s queue (psn_bits psn) msn))
nak-spelt s code queue psn msn fits below legal tells p is = (response-is f p Acknowledge dec acknowledge-is refl, record { psn = dec.psn; says = (dec.opcode, subst (Tells code) (sym (aeth-decoded s queue (psn_bits psn) msn p legal below dec)) tells) })
  where
    f : Fields
    f = acknowledge s queue (psn_bits psn) msn

    dec : Decoded f p
    dec = acknowledge-decoded s queue psn msn p fits is

pub ack-spelt : (s : Syndrome) (queue psn msn : ℕ) → queue < 2 ^ 24 → SpellsResponse (Ack psn) (spelling (acknowledge s queue (psn_bits psn) msn))
ack-spelt s queue psn msn fits p is = (response-is f p Acknowledge dec acknowledge-is refl, record { psn = dec.psn; says = dec.opcode })
  where
    f : Fields
    f = acknowledge s queue (psn_bits psn) msn

    dec : Decoded f p
    dec = acknowledge-decoded s queue psn msn p fits is

pub found-spelt : (found queue psn msn : ℕ) → queue < 2 ^ 24 → SpellsResponse (Found psn found) (spelling (atomic_acknowledge found queue (psn_bits psn) msn))
found-spelt found queue psn msn fits p is = (response-is f p AtomicAcknowledge dec atomic-acknowledge-is refl, record { psn = dec.psn; says = (dec.opcode, result-decoded found queue (psn_bits psn) msn p dec) })
  where
    f : Fields
    f = atomic_acknowledge found queue (psn_bits psn) msn

    dec : Decoded f p
    dec = decoded f p (bth-fits f AtomicAcknowledge atomic-acknowledge-is refl fits (omega arith)) is

abbrev reads : Option Operation → Bool
reads (Some (ReadResponse place)) = true
reads operation = false

pub read-spelt : (seg : Segment) (left queue psn msn : ℕ) (payload : List ℕ) → queue < 2 ^ 24 → SpellsResponse (Data psn left) (spelling (read_response seg queue (psn_bits psn) msn payload))
read-spelt seg left queue psn msn payload fits p is =
    (response-is f p (ReadResponse (position_of seg)) dec (read_response_is (position_of seg)) refl, record { psn = dec.psn; says = ap answers_read dec.opcode ∙ ap reads (read_response_is (position_of seg)) })
  where
    f : Fields
    f = read_response seg queue (psn_bits psn) msn payload

    dec : Decoded f p
    dec = decoded f p (bth-fits f (ReadResponse (position_of seg)) (read_response_is (position_of seg)) refl fits (omega arith)) is

-- an Acknowledge packet is a response, whatever it says
pub acknowledge-is-response : (s : Syndrome) (queue psn msn : ℕ) → queue < 2 ^ 24 → SpellsSomeResponse (spelling (acknowledge s queue (psn_bits psn) msn))
acknowledge-is-response s queue psn msn fits p is = response-is (acknowledge s queue (psn_bits psn) msn) p Acknowledge (acknowledge-decoded s queue psn msn p fits is) acknowledge-is refl
