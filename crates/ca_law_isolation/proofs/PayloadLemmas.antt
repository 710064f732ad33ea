-- What a packet that was read carries is no more than the longest payload. For proofs only.
use Rattle.std.proofs.Common.{◌≡◌, ℕ, ◌-◌, ◌≤◌, ◌==◌, ◌&&◌, ◌%◌, not, nat_lt, arith, Bool, true, false, if◌then◌else◌, List, length, take, drop, sum_by, Option, None, Some, Result, Ok, Err, ap, refl, subst, true≢false}
use Rattle.std.proofs.lemmas.Bool.{ltb-false}
use Rattle.std.proofs.lemmas.List.{length-take}
use Rattle.std.specs.Option.{ok_or}
use Rattle.ca_base.specs.declared.limits.TheConstants.{MAX_PAYLOAD_BYTES, MAX_STORE_BYTES}
use Rattle.ca_wire.specs.Decoding.{body_in, bth_at, fields_from, headers_at, packet_in, payload_at, payload_behind, ◌>>=◌}
use Rattle.ca_wire.specs.Packet.{Fields}
use Rattle.ca_wire.specs.Table.{row_of, size_of}
use Rattle.ca_wire.specs.Table.{Row as TableRow}
use Rattle.ca_wire.specs.declared.bth.Bth.{Bth}
use Rattle.ca_wire.specs.declared.headers.Headers.{Headers}
use Rattle.ca_wire.specs.declared.wire_error.WireError.{WireError}
use Rattle.ca_wire.specs.declared.wire_error.WireError.TheVariants.{Length, Opcode, Pad, TooShort}

-- a payload that was read
abbrev IsFew : Result (List ℕ) WireError → Type 0
IsFew (Ok p) = length p ≤ MAX_PAYLOAD_BYTES
IsFew (Err e) = Unit {0}

few-at : (allowed : Bool) (pad : ℕ) (rest : List ℕ) → IsFew (payload_at allowed pad rest)
unfolding payload_at
few-at allowed pad rest = by (not (length rest % 4 == 0)) (not (length rest == 0) && not allowed) (nat_lt MAX_PAYLOAD_BYTES (length rest - pad)) refl ((length rest == 0) && not (pad == 0))
  where
    by : (a b x : Bool) → nat_lt MAX_PAYLOAD_BYTES (length rest - pad) ≡ x → (d : Bool)
        → IsFew (if a then Err Length else if b then Err Length else if x then Err Length else if d then Err Pad else Ok (take (length rest - pad) rest))
    by true b x is d = record {}
    by false true x is d = record {}
    by false false true is d = record {}
    by false false false is true = record {}
    by false false false is false = omega (arith, length-take (length rest - pad) rest, ltb-false MAX_PAYLOAD_BYTES (length rest - pad) is)

few-behind : (size : ℕ) (allowed : Bool) (pad : ℕ) (bytes : List ℕ) → IsFew (payload_behind size allowed pad bytes)
unfolding payload_behind
few-behind size allowed pad bytes = by (nat_lt (length bytes) size)
  where
    by : (b : Bool) → IsFew (if b then Err TooShort else payload_at allowed pad (drop size bytes))
    by true = record {}
    by false = few-at allowed pad (drop size bytes)

-- the payload of a packet that was read
pub few-carried : (bytes : List ℕ) (f : Fields) → packet_in bytes ≡ Ok f → length f.payload ≤ MAX_STORE_BYTES
unfolding packet_in body_in
few-carried bytes f is = by (bth_at bytes) is
  where
    fails : Result Fields WireError → Bool
    fails (Ok x) = false
    fails (Err e) = true

    fields-of : Result Fields WireError → Fields
    fields-of (Ok x) = x
    fields-of (Err e) = f

    paired : Headers → List ℕ → Result (Headers × List ℕ) WireError
    paired h p = Ok (h, p)

    whole : Bth → Headers × List ℕ → Result Fields WireError
    whole b x = Ok (fields_from b x.0 x.1)

    body : (b : Bth) (rest : List ℕ) (r : TableRow) (p : Result (List ℕ) WireError) → IsFew p → ((p >>= paired (headers_at r.headers rest).0) >>= whole b) ≡ Ok f → length f.payload ≤ MAX_STORE_BYTES
    body b rest r (Err e) few same = absurd (true≢false (ap fails same))
    body b rest r (Ok p) few same = subst (λ (g : Fields). length g.payload ≤ MAX_STORE_BYTES) (ap fields-of same) few

    opcode : (b : Bth) (rest : List ℕ) (o : Option TableRow)
        → ((ok_or o Opcode >>= λ r. payload_behind (sum_by size_of r.headers) r.payload b.pad rest >>= paired (headers_at r.headers rest).0) >>= whole b) ≡ Ok f → length f.payload ≤ MAX_STORE_BYTES
    opcode b rest None same = absurd (true≢false (ap fails same))
    opcode b rest (Some r) same = body b rest r (payload_behind (sum_by size_of r.headers) r.payload b.pad rest) (few-behind (sum_by size_of r.headers) r.payload b.pad rest) same

    by : (r : Result (Bth × List ℕ) WireError) → (r >>= λ b. body_in b.0.opcode b.0.pad b.1 >>= whole b.0) ≡ Ok f → length f.payload ≤ MAX_STORE_BYTES
    by (Err e) same = absurd (true≢false (ap fails same))
    by (Ok b) same = opcode b.0 b.1 (row_of b.0.opcode) same
