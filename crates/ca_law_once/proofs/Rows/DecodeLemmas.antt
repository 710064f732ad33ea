-- What the bytes that spell a packet decode to, if they decode: its opcode, its PSN, and the headers of its opcode.
use Rattle.std.proofs.Common.{◌≡◌, ℕ, List, ◌++◌, length, replicate, Some, Ok, ap, sym, ◌∙◌, arith}
use Rattle.std.specs.List.{flat_map}
use Rattle.std.specs.Option.{ok_or}
use Rattle.std.specs.Prelude.{sum_by}
use Rattle.ca_wire.proofs.AllHeaders.{known_row}
use Rattle.ca_wire.proofs.BthLaws.{bth_again}
use Rattle.ca_wire.proofs.PacketLaws.{after_body, after_bth, after_row, with_headers}
use Rattle.ca_wire.proofs.Steps.{bind_ok, ok_is}
use Rattle.ca_wire.specs.Decoding.{bth_at, body_in, fields_from, headers_at, packet_in, payload_behind}
use Rattle.ca_wire.specs.Packet.{Fields, FitsBth, Ignored, bth_of, canonical, header_bytes, packet_bytes, pad_count, spelling}
use Rattle.ca_wire.specs.Table.{Row, headers_of, row_of, size_of}
use Rattle.ca_wire.specs.declared.bth.Bth.{Bth}
use Rattle.ca_wire.specs.declared.headers.Headers.{Headers}
use Rattle.ca_wire.specs.declared.wire_error.WireError.TheVariants.{Opcode}

-- what stands behind the base transport header of a packet's spelling
abbrev pub behind_bth : Fields → List ℕ
behind_bth f = flat_map (header_bytes f) (headers_of f.opcode) ++ (f.payload ++ replicate (pad_count (length f.payload)) 0)

-- the packet that was read says this of what was spelt
pub record Decoded (f p : Fields) : Type 0 where
  pub opcode : p.opcode ≡ f.opcode
  pub psn : p.psn ≡ f.psn
  pub row : Row
  pub known : row_of f.opcode ≡ Some row
  pub reth : p.reth ≡ (headers_at row.headers (behind_bth f)).0.reth
  pub aeth : p.aeth ≡ (headers_at row.headers (behind_bth f)).0.aeth
  pub «result» : p.«result» ≡ (headers_at row.headers (behind_bth f)).0.«result»

record IsBody (opcode pad : ℕ) (bytes : List ℕ) (x : Headers × List ℕ) : Type 0 where
  row : Row
  known : row_of opcode ≡ Some row
  headers : (headers_at row.headers bytes).0 ≡ x.0

body-read : (opcode pad : ℕ) (bytes : List ℕ) (x : Headers × List ℕ) → body_in opcode pad bytes ≡ Ok x → IsBody opcode pad bytes x
unfolding body_in
body-read opcode pad bytes x e =
    let r = bind_ok (ok_or (row_of opcode) Opcode) (after_row pad bytes) x e in
    let p = bind_ok (payload_behind (sum_by size_of r.0.headers) r.0.payload pad bytes) (with_headers r.0 bytes) x r.2 in record {
      row = r.0;
      known = known_row (row_of opcode) r.0 r.1;
      headers = ap (λ (y : Headers × List ℕ). y.0) (ok_is _ _ p.2);
    }

pub decoded : (f p : Fields) → FitsBth (bth_of f) → packet_in (spelling f) ≡ Ok p → Decoded f p
unfolding packet_in packet_bytes
decoded f p fits is =
    let i : Ignored = canonical (pad_count (length f.payload)) in
    let b = bind_ok (bth_at (spelling f)) after_bth p is in
    let x = bind_ok (body_in b.0.0.opcode b.0.0.pad b.0.1) (after_body b.0.0) p b.2 in
    let r = body-read b.0.0.opcode b.0.0.pad b.0.1 x.0 x.1 in
    let same : b.0 ≡ (bth_of f, behind_bth f) = ok_is _ _ (sym b.1 ∙ bth_again i (bth_of f) (behind_bth f) fits (omega arith) (omega arith)) in
    let whole : fields_from b.0.0 x.0.0 x.0.1 ≡ p = ok_is _ _ x.2 in
    record {
      opcode = ap (λ (g : Fields). g.opcode) (sym whole) ∙ ap (λ (y : Bth × List ℕ). y.0.opcode) same;
      psn = ap (λ (g : Fields). g.psn) (sym whole) ∙ ap (λ (y : Bth × List ℕ). y.0.psn) same;
      row = r.row;
      known = ap (λ (y : Bth × List ℕ). row_of y.0.opcode) (sym same) ∙ r.known;
      reth = ap (λ (g : Fields). g.reth) (sym whole) ∙ ap (λ (h : Headers). h.reth) (sym r.headers) ∙ ap (λ (y : Bth × List ℕ). (headers_at r.row.headers y.1).0.reth) same;
      aeth = ap (λ (g : Fields). g.aeth) (sym whole) ∙ ap (λ (h : Headers). h.aeth) (sym r.headers) ∙ ap (λ (y : Bth × List ℕ). (headers_at r.row.headers y.1).0.aeth) same;
      «result» = ap (λ (g : Fields). g.«result») (sym whole) ∙ ap (λ (h : Headers). h.«result») (sym r.headers) ∙ ap (λ (y : Bth × List ℕ). (headers_at r.row.headers y.1).0.«result») same;
    }
