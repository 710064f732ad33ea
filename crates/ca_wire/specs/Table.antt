-- The table of opcodes: of which operation a packet is and where in its message it stands, which headers follow the base
-- transport header, in order, and whether a payload may stand. Contracts cite it.
use Rattle.std.specs.Prelude.{ℕ, ◌==◌, Bool, true, false, List, [], ◌∷◌, Option, None, Some, find}
use Rattle.std.specs.List.{list_any}
use Rattle.std.specs.Option.{option_map, option_map_or}
use Rattle.ca_base.specs.ca_keys.declared.access.Kind.TheVariants.{CmpSwap, FetchAdd}
use Rattle.ca_wire.specs.declared.opcode.TheConstants.{SEND_FIRST, SEND_MIDDLE, SEND_LAST, SEND_LAST_WITH_IMMEDIATE, SEND_ONLY, SEND_ONLY_WITH_IMMEDIATE, RDMA_WRITE_FIRST, RDMA_WRITE_MIDDLE, RDMA_WRITE_LAST, RDMA_WRITE_LAST_WITH_IMMEDIATE, RDMA_WRITE_ONLY, RDMA_WRITE_ONLY_WITH_IMMEDIATE, RDMA_READ_REQUEST, RDMA_READ_RESPONSE_FIRST, RDMA_READ_RESPONSE_MIDDLE, RDMA_READ_RESPONSE_LAST, RDMA_READ_RESPONSE_ONLY, ACKNOWLEDGE, ATOMIC_ACKNOWLEDGE, CMP_SWAP, FETCH_ADD, SEND_LAST_WITH_INVALIDATE, SEND_ONLY_WITH_INVALIDATE}
use Rattle.ca_wire.specs.declared.shape.Operation.{Operation}
use Rattle.ca_wire.specs.declared.shape.Operation.TheVariants.{Request, ReadResponse, Acknowledge, AtomicAcknowledge}
use Rattle.ca_wire.specs.declared.shape.Position.TheVariants.{First, Middle, Last, Only}
use Rattle.ca_wire.specs.declared.shape.Shape.{Shape}
use Rattle.ca_wire.specs.declared.shape.Shape.TheVariants.{Send, Write, Read, Atomic}

-- a header that may follow the base transport header
pub data Header : Type 0 where
  RETH : Header
  AtomicETH : Header
  AETH : Header
  AtomicAckETH : Header
  ImmDt : Header
  IETH : Header

-- how many bytes a header has
abbrev pub size_of : Header → ℕ
size_of RETH = 16
size_of AtomicETH = 28
size_of AETH = 4
size_of AtomicAckETH = 8
size_of ImmDt = 4
size_of IETH = 4

-- what stands in a packet with this opcode
pub record Row : Type 0 where
  pub opcode : ℕ
  pub operation : Operation
  pub headers : List Header
  pub payload : Bool

-- one row of the table
abbrev pub row : ℕ → Operation → List Header → Bool → Row
row opcode operation headers payload =
    record { opcode = opcode; operation = operation; headers = headers; payload = payload }

-- the opcodes of the reliable connection
abbrev pub table : List Row
table =
    row SEND_FIRST (Request (Send First)) [] true
    ∷ row SEND_MIDDLE (Request (Send Middle)) [] true
    ∷ row SEND_LAST (Request (Send Last)) [] true
    ∷ row SEND_LAST_WITH_IMMEDIATE (Request (Send Last)) (ImmDt ∷ []) true
    ∷ row SEND_ONLY (Request (Send Only)) [] true
    ∷ row SEND_ONLY_WITH_IMMEDIATE (Request (Send Only)) (ImmDt ∷ []) true
    ∷ row RDMA_WRITE_FIRST (Request (Write First)) (RETH ∷ []) true
    ∷ row RDMA_WRITE_MIDDLE (Request (Write Middle)) [] true
    ∷ row RDMA_WRITE_LAST (Request (Write Last)) [] true
    ∷ row RDMA_WRITE_LAST_WITH_IMMEDIATE (Request (Write Last)) (ImmDt ∷ []) true
    ∷ row RDMA_WRITE_ONLY (Request (Write Only)) (RETH ∷ []) true
    ∷ row RDMA_WRITE_ONLY_WITH_IMMEDIATE (Request (Write Only)) (RETH ∷ ImmDt ∷ []) true
    ∷ row RDMA_READ_REQUEST (Request Read) (RETH ∷ []) false
    ∷ row RDMA_READ_RESPONSE_FIRST (ReadResponse First) (AETH ∷ []) true
    ∷ row RDMA_READ_RESPONSE_MIDDLE (ReadResponse Middle) [] true
    ∷ row RDMA_READ_RESPONSE_LAST (ReadResponse Last) (AETH ∷ []) true
    ∷ row RDMA_READ_RESPONSE_ONLY (ReadResponse Only) (AETH ∷ []) true
    ∷ row ACKNOWLEDGE Acknowledge (AETH ∷ []) false
    ∷ row ATOMIC_ACKNOWLEDGE AtomicAcknowledge (AETH ∷ AtomicAckETH ∷ []) false
    ∷ row CMP_SWAP (Request (Atomic CmpSwap)) (AtomicETH ∷ []) false
    ∷ row FETCH_ADD (Request (Atomic FetchAdd)) (AtomicETH ∷ []) false
    ∷ row SEND_LAST_WITH_INVALIDATE (Request (Send Last)) (IETH ∷ []) true
    ∷ row SEND_ONLY_WITH_INVALIDATE (Request (Send Only)) (IETH ∷ []) true
    ∷ []

-- the row of an opcode, if the table has it
unfoldable pub row_of : ℕ → Option Row
row_of opcode = find (λ r. r.opcode == opcode) table

-- of which operation a packet with this opcode is, and where in its message it stands
abbrev pub operation_of : ℕ → Option Operation
operation_of opcode = option_map (λ r. r.operation) (row_of opcode)

-- the shape of a request
abbrev pub request_shape : Option Operation → Option Shape
request_shape (Some (Request shape)) = Some shape
request_shape operation = None

-- the shape of a request packet, by its opcode
abbrev pub shape_of : ℕ → Option Shape
shape_of opcode = request_shape (operation_of opcode)

-- the headers of an opcode, in order
abbrev pub headers_of : ℕ → List Header
headers_of opcode = option_map_or (λ r. r.headers) (row_of opcode) []

-- whether a payload may stand after the headers of an opcode
abbrev pub allows_payload : ℕ → Bool
allows_payload opcode = option_map_or (λ r. r.payload) (row_of opcode) false

-- these are one header
abbrev pub is_header : Header → Header → Bool
is_header RETH RETH = true
is_header AtomicETH AtomicETH = true
is_header AETH AETH = true
is_header AtomicAckETH AtomicAckETH = true
is_header ImmDt ImmDt = true
is_header IETH IETH = true
is_header _ _ = false

-- whether a header is among these
abbrev pub has : Header → List Header → Bool
has header headers = list_any (is_header header) headers
