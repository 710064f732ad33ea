-- All headers of a packet, in the order of the table of opcodes.
use Rattle.ca_wire.specs.Packet.{be_bytes, reth_bytes, atomic_bytes, aeth_bytes, FitsReth, FitsAtomic, Fields, IsWellFormed, header_bytes}
use Rattle.ca_wire.specs.Decoding.{if_there, reth_from, atomic_from, aeth_from, number_from, part_at, flags_size, headers_at}
use Rattle.ca_wire.specs.Table.{Header, RETH, AtomicETH, AETH, AtomicAckETH, ImmDt, IETH, Row, row_of, has, headers_of, allows_payload}
use Rattle.ca_wire.specs.declared.headers.Headers.{Headers}
use Rattle.ca_wire.specs.declared.wire_error.WireError.TheVariants.{Opcode}
use Rattle.std.proofs.Common.{◌≡◌, ℕ, ◌+◌, ◌^◌, ◌<◌, ◌≤◌, Bool, cond, List, [], ◌++◌, length, drop, Option, Some, None, Ok, refl, sym, ap, ◌∙◌, append_assoc, arith, add-zero}
use Rattle.std.proofs.lemmas.List.{length-append, drop-drop}
use Rattle.std.specs.Int.{w32, w64}
use Rattle.std.specs.List.{flat_map}
use Rattle.std.specs.Option.{option_map_or, ok_or}
use Rattle.std.specs.Prelude.{IfSome, is_some, IsSome}
use Rattle.ca_wire.proofs.NumberLaws.{IsBytes, wide32, wide64}
use Rattle.ca_wire.proofs.Steps.{ok_is}
use Rattle.ca_wire.proofs.HeaderLaws.{reth_header, atomic_header, FitsAeth, aeth_header, number_header, part_takes, part_again, part_length, part_rest}
use Rattle.ca_wire.proofs.TableRows.{IsOrderly}

-- the headers that are there, one after the other
abbrev pub shown : Headers → List ℕ
shown h =
    option_map_or reth_bytes h.reth [] ++ (option_map_or atomic_bytes h.atomic [] ++ (option_map_or aeth_bytes h.aeth [] ++ (option_map_or (be_bytes w64) h.«result» [] ++ (option_map_or (be_bytes w32) h.imm [] ++ (option_map_or (be_bytes w32) h.ieth [] ++ [])))))

pub record FitsHeaders (h : Headers) : Type 0 where
  pub reth : IfSome h.reth FitsReth
  pub atomic : IfSome h.atomic FitsAtomic
  pub aeth : IfSome h.aeth FitsAeth
  pub «result» : IfSome h.«result» (λ n. n < 2 ^ 64)
  pub imm : IfSome h.imm (λ n. n < 2 ^ 32)
  pub ieth : IfSome h.ieth (λ n. n < 2 ^ 32)

-- the headers that are there are these
pub record AreThose (h : Headers) (hs : List Header) : Type 0 where
  pub reth : is_some h.reth ≡ has RETH hs
  pub atomic : is_some h.atomic ≡ has AtomicETH hs
  pub aeth : is_some h.aeth ≡ has AETH hs
  pub «result» : is_some h.«result» ≡ has AtomicAckETH hs
  pub imm : is_some h.imm ≡ has ImmDt hs
  pub ieth : is_some h.ieth ≡ has IETH hs

pub record AreHeaders (hs : List Header) (bytes : List ℕ) (h : Headers) (rest : List ℕ) : Type 0 where
  pub parts : bytes ≡ shown h ++ rest
  pub fits : FitsHeaders h
  pub those : AreThose h hs

regroup : (a b c d e f rest : List ℕ) → (a ++ (b ++ (c ++ (d ++ (e ++ (f ++ [])))))) ++ rest ≡ a ++ (b ++ (c ++ (d ++ (e ++ (f ++ rest)))))
regroup a b c d e f rest = simp append_assoc

pub headers_take : (hs : List Header) (bytes : List ℕ) → IsBytes bytes → flags_size hs ≤ length bytes → AreHeaders hs bytes (headers_at hs bytes).0 (headers_at hs bytes).1
headers_take hs bytes fits long =
    let a = part_at 16 reth_from (has RETH hs) bytes in
    let b = part_at 28 atomic_from (has AtomicETH hs) a.1 in
    let c = part_at 4 aeth_from (has AETH hs) b.1 in
    let d = part_at 8 (number_from w64) (has AtomicAckETH hs) c.1 in
    let e = part_at 4 (number_from w32) (has ImmDt hs) d.1 in
    let f = part_at 4 (number_from w32) (has IETH hs) e.1 in
    let ta = part_takes 16 reth_from reth_bytes FitsReth reth_header (has RETH hs) bytes fits (omega arith) in
    let la = ta.len in
    let tb = part_takes 28 atomic_from atomic_bytes FitsAtomic atomic_header (has AtomicETH hs) a.1 ta.fits (omega arith) in
    let lb = tb.len in
    let tc = part_takes 4 aeth_from aeth_bytes FitsAeth aeth_header (has AETH hs) b.1 tb.fits (omega arith) in
    let lc = tc.len in
    let td = part_takes 8 (number_from w64) (be_bytes w64) (λ n. n < 2 ^ 64) (number_header w64 (2 ^ 64) wide64) (has AtomicAckETH hs) c.1 tc.fits (omega arith) in
    let ld = td.len in
    let te = part_takes 4 (number_from w32) (be_bytes w32) (λ n. n < 2 ^ 32) (number_header w32 (2 ^ 32) wide32) (has ImmDt hs) d.1 td.fits (omega arith) in
    let le = te.len in
    let tf = part_takes 4 (number_from w32) (be_bytes w32) (λ n. n < 2 ^ 32) (number_header w32 (2 ^ 32) wide32) (has IETH hs) e.1 te.fits (omega arith) in
    let sa = option_map_or reth_bytes a.0 [] in
    let sb = option_map_or atomic_bytes b.0 [] in
    let sc = option_map_or aeth_bytes c.0 [] in
    let sd = option_map_or (be_bytes w64) d.0 [] in
    let se = option_map_or (be_bytes w32) e.0 [] in
    let sf = option_map_or (be_bytes w32) f.0 [] in
    let chained : bytes ≡ sa ++ (sb ++ (sc ++ (sd ++ (se ++ (sf ++ f.1))))) =
    ta.parts ∙ ap (λ (t : List ℕ). sa ++ t) (tb.parts ∙ ap (λ (t : List ℕ). sb ++ t) (tc.parts ∙ ap (λ (t : List ℕ). sc ++ t) (td.parts ∙ ap (λ (t : List ℕ). sd ++ t) (te.parts ∙ ap (λ (t : List ℕ). se ++ t) tf.parts)))) in
    record {
      parts = chained ∙ sym (regroup sa sb sc sd se sf f.1);
      fits = record { reth = ta.holds; atomic = tb.holds; aeth = tc.holds; «result» = td.holds; imm = te.holds; ieth = tf.holds };
      those = record { reth = ta.there; atomic = tb.there; aeth = tc.there; «result» = td.there; imm = te.there; ieth = tf.there };
    }

-- what is left behind the headers
pub headers_rest : (hs : List Header) (bytes : List ℕ) → (headers_at hs bytes).1 ≡ drop (flags_size hs) bytes
headers_rest hs bytes =
    let a = part_at 16 reth_from (has RETH hs) bytes in
    let b = part_at 28 atomic_from (has AtomicETH hs) a.1 in
    let c = part_at 4 aeth_from (has AETH hs) b.1 in
    let d = part_at 8 (number_from w64) (has AtomicAckETH hs) c.1 in
    let e = part_at 4 (number_from w32) (has ImmDt hs) d.1 in
    let na = if_there (has RETH hs) 16 in
    let nb = na + if_there (has AtomicETH hs) 28 in
    let nc = nb + if_there (has AETH hs) 4 in
    let nd = nc + if_there (has AtomicAckETH hs) 8 in
    let ne = nd + if_there (has ImmDt hs) 4 in
    let ra : a.1 ≡ drop na bytes = part_rest 16 reth_from (has RETH hs) bytes in
    let rb : b.1 ≡ drop nb bytes = part_rest 28 atomic_from (has AtomicETH hs) a.1 ∙ ap (drop (if_there (has AtomicETH hs) 28)) ra ∙ drop-drop (if_there (has AtomicETH hs) 28) na bytes in
    let rc : c.1 ≡ drop nc bytes = part_rest 4 aeth_from (has AETH hs) b.1 ∙ ap (drop (if_there (has AETH hs) 4)) rb ∙ drop-drop (if_there (has AETH hs) 4) nb bytes in
    let rd : d.1 ≡ drop nd bytes = part_rest 8 (number_from w64) (has AtomicAckETH hs) c.1 ∙ ap (drop (if_there (has AtomicAckETH hs) 8)) rc ∙ drop-drop (if_there (has AtomicAckETH hs) 8) nc bytes in
    let re : e.1 ≡ drop ne bytes = part_rest 4 (number_from w32) (has ImmDt hs) d.1 ∙ ap (drop (if_there (has ImmDt hs) 4)) rd ∙ drop-drop (if_there (has ImmDt hs) 4) nd bytes in
    part_rest 4 (number_from w32) (has IETH hs) e.1 ∙ ap (drop (if_there (has IETH hs) 4)) re ∙ drop-drop (if_there (has IETH hs) 4) ne bytes

abbrev pub all_headers : Fields → Headers
all_headers f = record { reth = f.reth; atomic = f.atomic; aeth = f.aeth; «result» = f.«result»; imm = f.imm; ieth = f.ieth }

pub headers_again : (hs : List Header) (h : Headers) (rest : List ℕ) → AreThose h hs → FitsHeaders h → headers_at hs (shown h ++ rest) ≡ (h, rest)
headers_again hs h rest those fits =
    let sa = option_map_or reth_bytes h.reth [] in
    let sb = option_map_or atomic_bytes h.atomic [] in
    let sc = option_map_or aeth_bytes h.aeth [] in
    let sd = option_map_or (be_bytes w64) h.«result» [] in
    let se = option_map_or (be_bytes w32) h.imm [] in
    let sf = option_map_or (be_bytes w32) h.ieth [] in
    ap (headers_at hs) (regroup sa sb sc sd se sf rest) ∙ rw (
      ← those.reth,
      ← those.atomic,
      ← those.aeth,
      ← those.«result»,
      ← those.imm,
      ← those.ieth,
      part_again 16 reth_from reth_bytes FitsReth reth_header h.reth (sb ++ (sc ++ (sd ++ (se ++ (sf ++ rest))))) fits.reth,
      part_again 28 atomic_from atomic_bytes FitsAtomic atomic_header h.atomic (sc ++ (sd ++ (se ++ (sf ++ rest)))) fits.atomic,
      part_again 4 aeth_from aeth_bytes FitsAeth aeth_header h.aeth (sd ++ (se ++ (sf ++ rest))) fits.aeth,
      part_again 8 (number_from w64) (be_bytes w64) (λ n. n < 2 ^ 64) (number_header w64 (2 ^ 64) wide64) h.«result» (se ++ (sf ++ rest)) fits.«result»,
      part_again 4 (number_from w32) (be_bytes w32) (λ n. n < 2 ^ 32) (number_header w32 (2 ^ 32) wide32) h.imm (sf ++ rest) fits.imm,
      part_again 4 (number_from w32) (be_bytes w32) (λ n. n < 2 ^ 32) (number_header w32 (2 ^ 32) wide32) h.ieth rest fits.ieth,
    ) refl

only_there : {X : Type 0} (g : X → List ℕ) (o : Option X) (b : Bool) → is_some o ≡ b → cond b (option_map_or g o []) [] ≡ option_map_or g o []
only_there g None b e = rw (← e) refl
only_there g (Some x) b e = rw (← e) refl

-- the headers in the table's order are the headers that are there
pub in_table_order : (f : Fields) (r : Row) → IsOrderly r → AreThose (all_headers f) r.headers → flat_map (header_bytes f) r.headers ≡ shown (all_headers f)
in_table_order f r orderly those =
    orderly.ordered (header_bytes f) ∙ rw (
      only_there reth_bytes f.reth (has RETH r.headers) those.reth,
      only_there atomic_bytes f.atomic (has AtomicETH r.headers) those.atomic,
      only_there aeth_bytes f.aeth (has AETH r.headers) those.aeth,
      only_there (be_bytes w64) f.«result» (has AtomicAckETH r.headers) those.«result»,
      only_there (be_bytes w32) f.imm (has ImmDt r.headers) those.imm,
      only_there (be_bytes w32) f.ieth (has IETH r.headers) those.ieth,
    ) refl

pub known_row : (o : Option Row) (r : Row) → ok_or o Opcode ≡ Ok r → o ≡ Some r
known_row None r e = absurd cc
known_row (Some x) r e = ap (λ (y : Row). Some y) (ok_is x r e)

pub some_row : (o : Option Row) → IsSome o → (r : Row) × (o ≡ Some r)
some_row None h = absurd cc
some_row (Some r) h = (r, refl)

sum_lengths : (a b c d e f rest : List ℕ) → length ((a ++ (b ++ (c ++ (d ++ (e ++ (f ++ [])))))) ++ rest) ≡ length a + length b + length c + length d + length e + length f + length rest
sum_lengths a b c d e f rest = simp (length-append, add-zero) (omega arith)

pub shown_length : (hs : List Header) (h : Headers) (rest : List ℕ) → AreThose h hs → length (shown h ++ rest) ≡ flags_size hs + length rest
shown_length hs h rest those =
    let sa = option_map_or reth_bytes h.reth [] in
    let sb = option_map_or atomic_bytes h.atomic [] in
    let sc = option_map_or aeth_bytes h.aeth [] in
    let sd = option_map_or (be_bytes w64) h.«result» [] in
    let se = option_map_or (be_bytes w32) h.imm [] in
    let sf = option_map_or (be_bytes w32) h.ieth [] in
    let la : length sa ≡ if_there (has RETH hs) 16 = part_length 16 reth_from reth_bytes FitsReth reth_header h.reth ∙ ap (λ b. if_there b 16) those.reth in
    let lb : length sb ≡ if_there (has AtomicETH hs) 28 = part_length 28 atomic_from atomic_bytes FitsAtomic atomic_header h.atomic ∙ ap (λ b. if_there b 28) those.atomic in
    let lc : length sc ≡ if_there (has AETH hs) 4 = part_length 4 aeth_from aeth_bytes FitsAeth aeth_header h.aeth ∙ ap (λ b. if_there b 4) those.aeth in
    let ld : length sd ≡ if_there (has AtomicAckETH hs) 8 = part_length 8 (number_from w64) (be_bytes w64) (λ n. n < 2 ^ 64) (number_header w64 (2 ^ 64) wide64) h.«result» ∙ ap (λ b. if_there b 8) those.«result» in
    let le : length se ≡ if_there (has ImmDt hs) 4 = part_length 4 (number_from w32) (be_bytes w32) (λ n. n < 2 ^ 32) (number_header w32 (2 ^ 32) wide32) h.imm ∙ ap (λ b. if_there b 4) those.imm in
    let lf : length sf ≡ if_there (has IETH hs) 4 = part_length 4 (number_from w32) (be_bytes w32) (λ n. n < 2 ^ 32) (number_header w32 (2 ^ 32) wide32) h.ieth ∙ ap (λ b. if_there b 4) those.ieth in
    sum_lengths sa sb sc sd se sf rest ∙ rw (la, lb, lc, ld, le, lf) refl

pub with_row : (opcode : ℕ) (r : Row) → row_of opcode ≡ Some r → (headers_of opcode ≡ r.headers) × (allows_payload opcode ≡ r.payload) × IsSome (row_of opcode)
with_row opcode r e = (rw e refl, rw e refl, rw e refl)

pub those_of : (f : Fields) (r : Row) → row_of f.opcode ≡ Some r → IsWellFormed f → AreThose (all_headers f) r.headers
those_of f r row good =
    let w = with_row f.opcode r row in
    record {
      reth = rw w.0 at good.reth;
      atomic = rw w.0 at good.atomic;
      aeth = rw w.0 at good.aeth;
      «result» = rw w.0 at good.«result»;
      imm = rw w.0 at good.imm;
      ieth = rw w.0 at good.ieth;
    }
