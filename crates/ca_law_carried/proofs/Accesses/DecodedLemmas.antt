-- What packets that were read have: a RETH where the opcode begins a WRITE, and else none. For proofs only.
use Rattle.std.proofs.Common.{Bool, Err, List, None, Ok, Option, Result, Some, [], ap, false, find, if◌then◌else◌, is_some, option_map, refl, subst, sum_by, sym, true, true≢false, ℕ, ◌==◌, ◌∙◌, ◌∷◌, ◌≡◌}
use Rattle.std.proofs.lemmas.Bool.{and_parts}
use Rattle.std.proofs.lemmas.Option.{same_Some}
use Rattle.std.specs.List.{list_all}
use Rattle.std.specs.Option.{ok_or, option_map_or}
use Rattle.ca_keys.specs.Equal.{bool_eq}
use Rattle.ca_keys.specs.declared.access.Kind.{Kind}
use Rattle.ca_wire.specs.Decoding.{body_in, bth_at, fields_from, headers_at, packet_in, part_at, payload_behind, reth_from, ◌>>=◌}
use Rattle.ca_wire.specs.Packet.{Fields, follows}
use Rattle.ca_wire.specs.Shapes.{IsAtomicKind, begins}
use Rattle.ca_wire.specs.Table.{Header, RETH, has, headers_of, request_shape, row_of, shape_of, size_of, table}
use Rattle.ca_wire.specs.declared.bth.Bth.{Bth}
use Rattle.ca_wire.specs.declared.headers.Headers.{Headers}
use Rattle.ca_wire.specs.declared.shape.Operation.{Operation}
use Rattle.ca_wire.specs.declared.shape.Operation.TheVariants.{Acknowledge, AtomicAcknowledge, ReadResponse, Request}
use Rattle.ca_wire.specs.declared.shape.Position.{Position}
use Rattle.ca_wire.specs.declared.shape.Shape.{Shape}
use Rattle.ca_wire.specs.declared.wire_error.WireError.{WireError}
use Rattle.ca_wire.specs.declared.wire_error.WireError.TheVariants.{Opcode}
use Rattle.ca_wire.specs.Table.{Row as TableRow}
use Rattle.ca_keys.specs.declared.access.Kind.TheVariants as kinds
use Rattle.ca_wire.specs.declared.shape.Shape.TheVariants as shapes

-- ---- the table of opcodes

-- what holds of a row: a WRITE has a RETH where it begins, and the kinds of atomics are two
abbrev is_fit_row : TableRow → Bool
is_fit_row r = by r.operation
  where
    kind_is : Kind → Bool
    kind_is kinds.Read = false
    kind_is kinds.Write = false
    kind_is kind = true

    shaped : Shape → Bool
    shaped (shapes.Send place) = true
    shaped (shapes.Write place) = bool_eq (has RETH r.headers) (begins place)
    shaped shapes.Read = true
    shaped (shapes.Atomic kind) = kind_is kind

    by : Operation → Bool
    by (Request shape) = shaped shape
    by operation = true

find-all : {A : Type 0} (test right : A → Bool) (xs : List A) (x : A) → list_all right xs ≡ true → find test xs ≡ Some x → right x ≡ true
find-all test right [] x all is = absurd (true≢false (sym (ap is_some is)))
find-all test right (y ∷ ys) x all is = by (test y) is (find-all test right ys x (and_parts (right y) (list_all right ys) all).1)
  where
    by : (b : Bool) → (if b then Some y else find test ys) ≡ Some x → (find test ys ≡ Some x → right x ≡ true) → right x ≡ true
    by true is rest = ap right (sym (same_Some y x is)) ∙ (and_parts (right y) (list_all right ys) all).0
    by false is rest = rest is

row-fits : (opcode : ℕ) (r : TableRow) → row_of opcode ≡ Some r → is_fit_row r ≡ true
unfolding row_of
row-fits opcode r is = find-all (λ r. r.opcode == opcode) is_fit_row table r refl is

-- what a shape says of its opcode
abbrev IsFitShape : ℕ → Option Shape → Type 0
IsFitShape opcode None = Unit {0}
IsFitShape opcode (Some (shapes.Send place)) = Unit {0}
IsFitShape opcode (Some (shapes.Write place)) = follows RETH opcode ≡ begins place
IsFitShape opcode (Some shapes.Read) = Unit {0}
IsFitShape opcode (Some (shapes.Atomic kind)) = IsAtomicKind kind

pub shape-fits : (opcode : ℕ) (shape : Shape) → shape_of opcode ≡ Some shape → IsFitShape opcode (Some shape)
shape-fits opcode shape is = subst (IsFitShape opcode) is (by (row_of opcode) refl)
  where
    same : (a b : Bool) → bool_eq a b ≡ true → a ≡ b
    same true true e = refl
    same true false e = sym e
    same false true e = e
    same false false e = refl

    rest : (hs : List Header) (s : Shape) (number : ℕ) (payload : Bool) → is_fit_row (record { opcode = number; operation = Request s; headers = hs; payload = payload }) ≡ true → headers_of opcode ≡ hs → IsFitShape opcode (Some s)
    rest hs (shapes.Send place) number payload fit are = record {}
    rest hs (shapes.Write place) number payload fit are = ap (has RETH) are ∙ same (has RETH hs) (begins place) fit
    rest hs shapes.Read number payload fit are = record {}
    rest hs (shapes.Atomic kinds.Read) number payload fit are = absurd (true≢false (sym fit))
    rest hs (shapes.Atomic kinds.Write) number payload fit are = absurd (true≢false (sym fit))
    rest hs (shapes.Atomic kinds.CmpSwap) number payload fit are = record {}
    rest hs (shapes.Atomic kinds.FetchAdd) number payload fit are = record {}

    operation : (r : TableRow) → is_fit_row r ≡ true → headers_of opcode ≡ r.headers → (o : Operation) → r.operation ≡ o → IsFitShape opcode (request_shape (Some o))
    operation r fit are (Request s) e = rest r.headers s r.opcode r.payload (ap (λ o. is_fit_row (record { opcode = r.opcode; operation = o; headers = r.headers; payload = r.payload })) (sym e) ∙ fit) are
    operation r fit are (ReadResponse place) e = record {}
    operation r fit are Acknowledge e = record {}
    operation r fit are AtomicAcknowledge e = record {}

    by : (o : Option TableRow) → row_of opcode ≡ o → IsFitShape opcode (request_shape (option_map (λ r. r.operation) o))
    by None e = record {}
    by (Some r) e = operation r (row-fits opcode r e) (ap (λ o. option_map_or (λ r. r.headers) o []) e) r.operation refl

-- ---- reading

-- a packet has a RETH exactly where its opcode has one
pub reth-follows : (bytes : List ℕ) (f : Fields) → packet_in bytes ≡ Ok f → is_some f.reth ≡ follows RETH f.opcode
unfolding packet_in body_in
reth-follows bytes f is = by (bth_at bytes) is
  where
    fails : Result Fields WireError → Bool
    fails (Ok x) = false
    fails (Err e) = true

    fields-of : Result Fields WireError → Fields
    fields-of (Ok x) = x
    fields-of (Err e) = f

    there : (b : Bool) (rest : List ℕ) → is_some (part_at 16 reth_from b rest).0 ≡ b
    there true rest = refl
    there false rest = refl

    paired : Headers → List ℕ → Result (Headers × List ℕ) WireError
    paired h p = Ok (h, p)

    whole : Bth → Headers × List ℕ → Result Fields WireError
    whole b x = Ok (fields_from b x.0 x.1)

    body : (b : Bth) (rest : List ℕ) (r : TableRow) → row_of b.opcode ≡ Some r → (p : Result (List ℕ) WireError) → ((p >>= paired (headers_at r.headers rest).0) >>= whole b) ≡ Ok f → is_some f.reth ≡ follows RETH f.opcode
    body b rest r known (Err e) same = absurd (true≢false (ap fails same))
    body b rest r known (Ok p) same = ap (λ (g : Fields). is_some g.reth) (sym one) ∙ there (has RETH r.headers) rest
        ∙ sym (ap (λ o. has RETH (option_map_or (λ r. r.headers) o [])) known) ∙ ap (λ (g : Fields). follows RETH g.opcode) one
      where
        one : fields_from b (headers_at r.headers rest).0 p ≡ f
        one = ap fields-of same

    opcode : (b : Bth) (rest : List ℕ) (o : Option TableRow) → row_of b.opcode ≡ o
        → ((ok_or o Opcode >>= λ r. payload_behind (sum_by size_of r.headers) r.payload b.pad rest >>= paired (headers_at r.headers rest).0) >>= whole b) ≡ Ok f → is_some f.reth ≡ follows RETH f.opcode
    opcode b rest None known same = absurd (true≢false (ap fails same))
    opcode b rest (Some r) known same = body b rest r known (payload_behind (sum_by size_of r.headers) r.payload b.pad rest) same

    by : (r : Result (Bth × List ℕ) WireError) → (r >>= λ b. body_in b.0.opcode b.0.pad b.1 >>= whole b.0) ≡ Ok f → is_some f.reth ≡ follows RETH f.opcode
    by (Err e) same = absurd (true≢false (ap fails same))
    by (Ok b) same = opcode b.0 b.1 (row_of b.0.opcode) refl same

-- the reth of a packet of a WRITE
pub write-reth : (bytes : List ℕ) (f : Fields) (place : Position) → packet_in bytes ≡ Ok f → shape_of f.opcode ≡ Some (shapes.Write place) → is_some f.reth ≡ begins place
write-reth bytes f place is shaped = reth-follows bytes f is ∙ shape-fits f.opcode (shapes.Write place) shaped
