-- The two laws of reading: what is read is spelt so, and what is spelt so is read.
use Rattle.ca_wire.specs.Packet.{Ignored, bth_bytes, FitsBth, pad_count, Fields, Spells, bth_of, header_bytes, packet_bytes, headers_size}
use Rattle.ca_wire.specs.Decoding.{bth_at, payload_at, payload_behind, ◌>>=◌, flags_size, headers_at, body_in, fields_from, packet_in}
use Rattle.ca_wire.specs.Table.{Row, size_of, row_of, headers_of}
use Rattle.ca_wire.specs.declared.bth.Bth.{Bth}
use Rattle.ca_wire.specs.declared.headers.Headers.{Headers}
use Rattle.ca_wire.specs.declared.wire_error.WireError.{WireError}
use Rattle.ca_wire.specs.declared.wire_error.WireError.TheVariants.{TooShort, Opcode}
use Rattle.std.proofs.Common.{◌≡◌, ℕ, ◌+◌, ◌^◌, ◌<◌, ◌≤◌, false, ltb, List, [], ◌++◌, length, take, drop, Option, Some, None, Result, Ok, refl, sym, ap, subst, ◌∙◌, arith}
use Rattle.std.proofs.lemmas.Bool.{ltb-false, le-ltb}
use Rattle.std.proofs.lemmas.List.{length-append, take_at, drop_at, drop-drop}
use Rattle.std.specs.List.{flat_map}
use Rattle.std.specs.Option.{ok_or}
use Rattle.std.specs.Prelude.{IfSome, sum_by}
use Rattle.ca_wire.proofs.NumberLaws.{IsBytes}
use Rattle.ca_wire.proofs.Steps.{guard_next, done, ok_is, bind_ok}
use Rattle.ca_wire.proofs.BthLaws.{IsHeader, bth_takes, bth_length, bth_again}
use Rattle.ca_wire.proofs.HeaderLaws.{FitsAeth}
use Rattle.ca_wire.proofs.PayloadLaws.{IsPayload, payload_takes, payload_again}
use Rattle.ca_wire.proofs.AllHeaders.{shown, FitsHeaders, AreHeaders, headers_take, headers_rest, all_headers, headers_again, in_table_order, known_row, some_row, shown_length, with_row, those_of}
use Rattle.ca_wire.proofs.TableRows.{IsOrderly, row_orderly}

abbrev pub with_headers : Row → List ℕ → List ℕ → Result (Headers × List ℕ) WireError
with_headers r bytes p = Ok ((headers_at r.headers bytes).0, p)

abbrev pub after_row : ℕ → List ℕ → Row → Result (Headers × List ℕ) WireError
after_row pad bytes r = payload_behind (sum_by size_of r.headers) r.payload pad bytes >>= with_headers r bytes

abbrev pub after_body : Bth → Headers × List ℕ → Result Fields WireError
after_body b x = Ok (fields_from b x.0 x.1)

abbrev pub after_bth : Bth × List ℕ → Result Fields WireError
after_bth b = body_in b.0.opcode b.0.pad b.1 >>= after_body b.0

map_if : {X : Type 0} (o : Option X) (P Q : X → Type 0) → ((x : X) → P x → Q x) → IfSome o P → IfSome o Q
map_if None P Q f h = tt
map_if (Some x) P Q f h = f x h

both_if : {X : Type 0} (o : Option X) (P Q R : X → Type 0) → ((x : X) → P x → Q x → R x) → IfSome o P → IfSome o Q → IfSome o R
both_if None P Q R f h k = tt
both_if (Some x) P Q R f h k = f x h k

spelt : (bytes : List ℕ) (b : Bth × List ℕ) (r : Row) (h : Headers × List ℕ) (p : List ℕ) → IsHeader bytes b.0 b.1 → row_of b.0.opcode ≡ Some r → IsOrderly r → AreHeaders r.headers b.1 h.0 h.1 → IsPayload r.payload b.0.pad h.1 p → Spells bytes (fields_from b.0 h.0 p)
unfolding packet_bytes
spelt bytes b r h p tb row orderly th tp =
    let w = with_row b.0.opcode r row in
    let f = fields_from b.0 h.0 p in
    let those = th.those in
    let i : Ignored = record { before_queue = tb.ignored.before_queue; before_psn = tb.ignored.before_psn; pad = tp.after } in
    let same_bth : bth_of f ≡ b.0 = rw (← tp.counted) refl in
    let same_headers : flat_map (header_bytes f) (headers_of b.0.opcode) ≡ shown h.0 = rw w.0 (in_table_order f r orderly those) in
    record {
      well_formed = record {
        known = w.2;
        reth = rw w.0 those.reth;
        atomic = rw w.0 those.atomic;
        aeth = rw w.0 those.aeth;
        «result» = rw w.0 those.«result»;
        imm = rw w.0 those.imm;
        ieth = rw w.0 those.ieth;
        queue = tb.bth.queue;
        psn = tb.bth.psn;
        msn = map_if h.0.aeth FitsAeth (λ a. a.msn < 2 ^ 24) (λ a k. k.1) th.fits.aeth;
        most = tp.most;
        empty = λ none. tp.empty (sym w.1 ∙ none);
      };
      fits = record {
        pkey = tb.bth.pkey;
        reth = th.fits.reth;
        atomic = th.fits.atomic;
        syndrome = map_if h.0.aeth FitsAeth (λ a. a.syndrome < 2 ^ 8) (λ a k. k.0) th.fits.aeth;
        «result» = th.fits.«result»;
        imm = th.fits.imm;
        ieth = th.fits.ieth;
      };
      ignored = i;
      before_queue = tb.before_queue;
      before_psn = tb.before_psn;
      pad = tp.len ∙ tp.counted;
      whole = tb.parts ∙ ap (λ (x : Bth). bth_bytes i x ++ b.1) (sym same_bth) ∙ ap (λ (t : List ℕ). bth_bytes i (bth_of f) ++ t) (th.parts ∙ ap (λ (t : List ℕ). shown h.0 ++ t) tp.parts ∙ ap (λ (t : List ℕ). t ++ (p ++ tp.after)) (sym same_headers));
    }

-- the headers that were read are those of the row, and are whole
record IsRow (opcode pad : ℕ) (bytes : List ℕ) (x : Headers × List ℕ) : Type 0 where
  row : Row
  known : row_of opcode ≡ Some row
  whole : sum_by size_of row.headers ≤ length bytes
  payload : payload_at row.payload pad (drop (sum_by size_of row.headers) bytes) ≡ Ok x.1
  headers : (headers_at row.headers bytes).0 ≡ x.0

row_taken : (opcode pad : ℕ) (bytes : List ℕ) (x : Headers × List ℕ) → body_in opcode pad bytes ≡ Ok x → IsRow opcode pad bytes x
unfolding body_in payload_behind
row_taken opcode pad bytes x e =
    let r = bind_ok (ok_or (row_of opcode) Opcode) (after_row pad bytes) x e in
    let size = sum_by size_of r.0.headers in
    let p = bind_ok (payload_behind size r.0.payload pad bytes) (with_headers r.0 bytes) x r.2 in
    let g = guard_next (ltb (length bytes) size) TooShort (payload_at r.0.payload pad (drop size bytes)) p.0 p.1 in
    let same : ((headers_at r.0.headers bytes).0, p.0) ≡ x = ok_is _ _ p.2 in
    record {
      row = r.0;
      known = known_row (row_of opcode) r.0 r.1;
      whole = ltb-false _ _ g.0;
      payload = g.1 ∙ ap (λ (y : Headers × List ℕ). done y.1) same;
      headers = ap (λ (y : Headers × List ℕ). y.0) same;
    }

-- what is read behind a base transport header is spelt so
row_takes : (bytes : List ℕ) (b : Bth × List ℕ) (r : Row) (p : List ℕ) → IsHeader bytes b.0 b.1 → row_of b.0.opcode ≡ Some r → sum_by size_of r.headers ≤ length b.1 → payload_at r.payload b.0.pad (drop (sum_by size_of r.headers) b.1) ≡ Ok p → Spells bytes (fields_from b.0 (headers_at r.headers b.1).0 p)
row_takes bytes b r p tb known whole e =
    let size = sum_by size_of r.headers in
    let orderly = row_orderly b.0.opcode r known in
    let th = headers_take r.headers b.1 tb.fits (omega (arith, orderly.0.size)) in
    let rest : (headers_at r.headers b.1).1 ≡ drop size b.1 = rw orderly.0.size (headers_rest r.headers b.1) in
    let tp = payload_takes r.payload b.0.pad (headers_at r.headers b.1).1 p tb.bth.pad (rw rest e) in
    spelt bytes b r (headers_at r.headers b.1) p tb known orderly.0 th tp

-- what is read is spelt so
pub packet_takes : (bytes : List ℕ) (f : Fields) → IsBytes bytes → packet_in bytes ≡ Ok f → Spells bytes f
unfolding packet_in
packet_takes bytes f fits e =
    let b = bind_ok (bth_at bytes) after_bth f e in
    let x = bind_ok (body_in b.0.0.opcode b.0.0.pad b.0.1) (after_body b.0.0) f b.2 in
    let r = row_taken b.0.0.opcode b.0.0.pad b.0.1 x.0 x.1 in
    let spelt_so = row_takes bytes b.0 r.row x.0.1 (bth_takes bytes b.0 fits b.1) r.known r.whole r.payload in
    let is : fields_from b.0.0 (headers_at r.row.headers b.0.1).0 x.0.1 ≡ f = ap (λ (h : Headers). fields_from b.0.0 h x.0.1) r.headers ∙ ok_is _ _ x.2 in
    subst (λ (y : Fields). Spells bytes y) is spelt_so

small_pad : (n : ℕ) → pad_count n < 4
small_pad n = omega arith

-- what is spelt so is read
pub packet_again : (bytes : List ℕ) (f : Fields) → Spells bytes f → packet_in bytes ≡ Ok f
unfolding packet_in body_in payload_behind packet_bytes
packet_again bytes f s =
    let good = s.well_formed in
    let r = some_row (row_of f.opcode) good.known in
    let w = with_row f.opcode r.0 r.1 in
    let row = row_orderly f.opcode r.0 r.1 in
    let those = those_of f r.0 r.1 good in
    let h = all_headers f in
    let after = f.payload ++ s.ignored.pad in
    let fits : FitsHeaders h = record { reth = s.fits.reth; atomic = s.fits.atomic; aeth = both_if f.aeth (λ a. a.syndrome < 2 ^ 8) (λ a. a.msn < 2 ^ 24) FitsAeth (λ a p q. (p, q)) s.fits.syndrome good.msn; «result» = s.fits.«result»; imm = s.fits.imm; ieth = s.fits.ieth } in
    let bth_fits : FitsBth (bth_of f) = record { opcode = subst (λ n. n < 256) row.1 row.0.opcode; pad = small_pad (length f.payload); pkey = s.fits.pkey; queue = good.queue; psn = good.psn } in
    let same_headers : flat_map (header_bytes f) (headers_of f.opcode) ≡ shown h = rw w.0 (in_table_order f r.0 row.0 those) in
    let whole : bytes ≡ bth_bytes s.ignored (bth_of f) ++ (shown h ++ after) = s.whole ∙ ap (λ (t : List ℕ). bth_bytes s.ignored (bth_of f) ++ (t ++ after)) same_headers in
    let size = sum_by size_of r.0.headers in
    let long : ltb (length (shown h ++ after)) size ≡ false = le-ltb _ _ (omega (arith, shown_length r.0.headers h after those, row.0.size)) in
    let again : headers_at r.0.headers (shown h ++ after) ≡ (h, after) = headers_again r.0.headers h after those fits in
    let rest : drop size (shown h ++ after) ≡ after = rw row.0.size (sym (headers_rest r.0.headers (shown h ++ after)) ∙ ap (λ (x : Headers × List ℕ). x.1) again) in
    let payload : payload_at r.0.payload (pad_count (length f.payload)) after ≡ Ok f.payload = payload_again r.0.payload f.payload s.ignored.pad good.most (λ none. good.empty (w.1 ∙ none)) s.pad in
    let first : bth_at bytes ≡ Ok (bth_of f, shown h ++ after) = ap bth_at whole ∙ bth_again s.ignored (bth_of f) (shown h ++ after) bth_fits s.before_queue s.before_psn in
    rw (first, r.1, long, rest, payload) (ap (λ (x : Headers × List ℕ). done (fields_from (bth_of f) x.0 f.payload)) again)

pub one_packet_at_most : (bytes : List ℕ) (f g : Fields) → Spells bytes f → Spells bytes g → f ≡ g
one_packet_at_most bytes f g s t = ok_is f g (sym (packet_again bytes f s) ∙ packet_again bytes g t)

-- the payload stands after the headers
pub payload_lies : (bytes : List ℕ) (f : Fields) → Spells bytes f → f.payload ≡ take (length f.payload) (drop (12 + headers_size f.opcode) bytes)
unfolding packet_bytes
payload_lies bytes f s =
    let good = s.well_formed in
    let r = some_row (row_of f.opcode) good.known in
    let w = with_row f.opcode r.0 r.1 in
    let row = row_orderly f.opcode r.0 r.1 in
    let those = those_of f r.0 r.1 good in
    let h = all_headers f in
    let head = bth_bytes s.ignored (bth_of f) in
    let after = f.payload ++ s.ignored.pad in
    let same_headers : flat_map (header_bytes f) (headers_of f.opcode) ≡ shown h = rw w.0 (in_table_order f r.0 row.0 those) in
    let whole : bytes ≡ head ++ (shown h ++ after) = s.whole ∙ ap (λ (t : List ℕ). head ++ (t ++ after)) same_headers in
    let size : headers_size f.opcode ≡ flags_size r.0.headers = rw w.0 row.0.size in
    let long : length (shown h) ≡ headers_size f.opcode = omega (arith, shown_length r.0.headers h [] those, length-append (shown h) [], size) in
    let dropped : drop (12 + headers_size f.opcode) (head ++ (shown h ++ after)) ≡ after = sym (drop-drop (headers_size f.opcode) 12 (head ++ (shown h ++ after))) ∙ rw (drop_at head (shown h ++ after) 12 (bth_length s.ignored (bth_of f))) (drop_at (shown h) after (headers_size f.opcode) long) in
    rw (whole, dropped) (sym (take_at f.payload s.ignored.pad (length f.payload) refl))
