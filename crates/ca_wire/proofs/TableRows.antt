-- What holds of each row of the table of opcodes, read off the table by one test.
use Rattle.std.proofs.Common.{◌≡◌, ℕ, ◌<◌, ◌≤◌, Bool, true, false, not, ◌&&◌, ◌||◌, cond, eqb, ltb, List, [], ◌∷◌, ◌++◌, Some, None, refl, subst, arith}
use Rattle.std.specs.Prelude.{find, is_some, sum_by}
use Rattle.std.specs.List.{flat_map}
use Rattle.std.proofs.lemmas.Bool.{eqb-true, ltb-true, and_parts}
use Rattle.ca_wire.specs.Table.{Header, RETH, AtomicETH, AETH, AtomicAckETH, ImmDt, IETH, Row, table, row_of, has, request_shape, size_of}
use Rattle.ca_wire.specs.Decoding.{flags_size}

-- these headers in the order in which each of them stands before the later ones
abbrev pub in_order : (Header → List ℕ) → List Header → List ℕ
in_order g hs =
    cond (has RETH hs) (g RETH) [] ++ (cond (has AtomicETH hs) (g AtomicETH) [] ++ (cond (has AETH hs) (g AETH) [] ++ (cond (has AtomicAckETH hs) (g AtomicAckETH) [] ++ (cond (has ImmDt hs) (g ImmDt) [] ++ (cond (has IETH hs) (g IETH) [] ++ [])))))

-- the headers that a packet of the table has
abbrev is_shape : List Header → Bool
is_shape [] = true
is_shape (RETH ∷ []) = true
is_shape (RETH ∷ ImmDt ∷ []) = true
is_shape (AtomicETH ∷ []) = true
is_shape (AETH ∷ []) = true
is_shape (AETH ∷ AtomicAckETH ∷ []) = true
is_shape (ImmDt ∷ []) = true
is_shape (IETH ∷ []) = true
is_shape _ = false

-- they stand in that order, and their bytes are counted rightly
record IsShape (hs : List Header) : Type 0 where
  ordered : (g : Header → List ℕ) → flat_map g hs ≡ in_order g hs
  size : sum_by size_of hs ≡ flags_size hs
  most : sum_by size_of hs ≤ cond (has AtomicETH hs) 28 20

shape : (hs : List Header) → is_shape hs ≡ true → IsShape hs
shape [] h = record { ordered = λ g. refl; size = refl; most = omega arith }
shape (RETH ∷ []) h = record { ordered = λ g. refl; size = refl; most = omega arith }
shape (RETH ∷ ImmDt ∷ []) h = record { ordered = λ g. refl; size = refl; most = omega arith }
shape (AtomicETH ∷ []) h = record { ordered = λ g. refl; size = refl; most = omega arith }
shape (AETH ∷ []) h = record { ordered = λ g. refl; size = refl; most = omega arith }
shape (AETH ∷ AtomicAckETH ∷ []) h = record { ordered = λ g. refl; size = refl; most = omega arith }
shape (ImmDt ∷ []) h = record { ordered = λ g. refl; size = refl; most = omega arith }
shape (IETH ∷ []) h = record { ordered = λ g. refl; size = refl; most = omega arith }
shape _ h = absurd cc

-- the headers of a row are as they should be, its opcode is a byte, and no payload follows an AtomicETH
abbrev is_orderly : Row → Bool
is_orderly r = is_shape r.headers && (ltb r.opcode 256 && not (r.payload && has AtomicETH r.headers))

abbrev every : (Row → Bool) → List Row → Bool
every q [] = true
every q (r ∷ rs) = q r && every q rs

all_orderly : every is_orderly table ≡ true
all_orderly = refl

some_is : {X : Type 0} (x y : X) → Some x ≡ Some y → x ≡ y
some_is x y e = cc

found_by : (p q : Row → Bool) (rs : List Row) (r : Row) → every q rs ≡ true → find p rs ≡ Some r → (q r ≡ true) × (p r ≡ true)
found_by p q [] r h e = absurd cc
found_by p q (y ∷ ys) r h e =
    let parts = and_parts (q y) (every q ys) h in
    elim (p y) as (λ b. p y ≡ b → (q r ≡ true) × (p r ≡ true)) [
      | true ↦ λ is. let same : y ≡ r = some_is y r (rw is at e) in subst (λ z. (q z ≡ true) × (p z ≡ true)) same (parts.0, is)
      | false ↦ λ is. found_by p q ys r parts.1 (rw is at e)
    ] refl

-- the headers of a row stand in that order, their bytes are counted rightly, and the opcode is a byte
pub record IsOrderly (r : Row) : Type 0 where
  pub ordered : (g : Header → List ℕ) → flat_map g r.headers ≡ in_order g r.headers
  pub size : sum_by size_of r.headers ≡ flags_size r.headers
  pub opcode : r.opcode < 256
  pub most : sum_by size_of r.headers ≤ cond r.payload 20 28

with_payload : (n : ℕ) (payload atomic : Bool) → n ≤ cond atomic 28 20 → not (payload && atomic) ≡ true → n ≤ cond payload 20 28
with_payload n true true most h = absurd cc
with_payload n true false most h = most
with_payload n false true most h = most
with_payload n false false most h = omega arith

orderly : (r : Row) → is_orderly r ≡ true → IsOrderly r
orderly r h =
    let parts = and_parts (is_shape r.headers) (ltb r.opcode 256 && not (r.payload && has AtomicETH r.headers)) h in
    let more = and_parts (ltb r.opcode 256) (not (r.payload && has AtomicETH r.headers)) parts.1 in
    let s = shape r.headers parts.0 in
    record {
      ordered = s.ordered;
      size = s.size;
      opcode = ltb-true r.opcode 256 more.0;
      most = with_payload (sum_by size_of r.headers) r.payload (has AtomicETH r.headers) s.most more.1;
    }

pub row_orderly : (opcode : ℕ) (r : Row) → row_of opcode ≡ Some r → IsOrderly r × (r.opcode ≡ opcode)
unfolding row_of
row_orderly opcode r e =
    let f = found_by (λ (x : Row). eqb x.opcode opcode) is_orderly table r all_orderly e in
    (orderly r f.0, eqb-true r.opcode opcode f.1)

-- the headers of a response are few: an AETH before a payload, and else that and an AtomicAckETH
abbrev is_short_answer : Row → Bool
is_short_answer r = is_some (request_shape (Some r.operation)) || ltb (sum_by size_of r.headers) (cond r.payload 5 13)

all_short : every is_short_answer table ≡ true
all_short = refl

few : (n : ℕ) (payload : Bool) → n < cond payload 5 13 → n ≤ cond payload 4 12
few n true less = omega (arith, less)
few n false less = omega (arith, less)

pub row_answer : (opcode : ℕ) (r : Row) → row_of opcode ≡ Some r → request_shape (Some r.operation) ≡ None
    → sum_by size_of r.headers ≤ cond r.payload 4 12
unfolding row_of
row_answer opcode r e none =
    let f = found_by (λ (x : Row). eqb x.opcode opcode) is_short_answer table r all_short e in
    let less : ltb (sum_by size_of r.headers) (cond r.payload 5 13) ≡ true = rw none at f.0 in
    few (sum_by size_of r.headers) r.payload (ltb-true _ _ less)
