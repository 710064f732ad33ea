-- Reads and writes of one buffer as those of memory. For proofs only.
use Rattle.std.proofs.Common.{◌≡◌, ℕ, ◌+◌, ◌-◌, ◌<◌, ◌≤◌, ◌==◌, nat_le, min, Bool, true, false, if◌then◌else◌, List, [], ◌∷◌, ◌++◌, length, take, drop, map, get_or, refl, sym, ap, ◌∙◌, arith, eq-eqb, length-append}
use Rattle.std.proofs.Math.Path.{fun_ext}
use Rattle.std.proofs.lemmas.Bool.{eqb-true, leb-false}
use Rattle.std.proofs.lemmas.Bool.Decides.{nat_tests}
use Rattle.std.proofs.lemmas.List.{map-append, get_or-take, length-take-le, length-drop}
use Rattle.std.proofs.lemmas.List.Sums.{sum_by-cons}
use Rattle.std.specs.Prelude.{slice_index_or}
use Rattle.std.specs.List.{range_with_len}
use Rattle.ca_keys.specs.declared.place.Place.{Place}
use Rattle.ca_keys.specs.declared.place.Run.{Run}
use Rattle.ca_keys.specs.Memory.{ByteMap, bytes_at, cut, is_in, memory_after, places_count, run_part, run_places, places_of}
use Rattle.ca_grant.specs.Access.{FitInBytes, AreOfBuffer, buffer_after, memory_of_buffer}
use Rattle.ca_memory.specs.Buffer.{memory_of, bytes_after}
use Rattle.ca_memory.proofs.Places.{write-places}

-- what is cut of runs that fit fits
pub cut-fits : (rs : List Run) (n s k : ℕ) → FitInBytes n rs → FitInBytes n (cut s k rs)
cut-fits [] n s k fit = tt
cut-fits (r ∷ rs) n s k fit =
    by (nat_le r.length s) refl (k == 0) (cut-fits rs n (s - r.length) k fit.1) (cut-fits rs n 0 (k - (r.length - s)) fit.1)
  where
    by : (b : Bool) → nat_le r.length s ≡ b → (z : Bool) → FitInBytes n (cut (s - r.length) k rs) → FitInBytes n (cut 0 (k - (r.length - s)) rs)
        → FitInBytes n (if b then cut (s - r.length) k rs else if z then [] else run_part r s (min k (r.length - s)) ∷ cut 0 (k - (r.length - s)) rs)
    by true e z later here = later
    by false e true later here = tt
    by false e false later here = (omega (arith, leb-false r.length s e, fit.0), here)

-- and what is cut of runs of a buffer is of that buffer
pub cut-of-buffer : (rs : List Run) (a b s k : ℕ) → AreOfBuffer a b rs → AreOfBuffer a b (cut s k rs)
cut-of-buffer [] a b s k are = tt
cut-of-buffer (r ∷ rs) a b s k are =
    by (nat_le r.length s) (k == 0) (cut-of-buffer rs a b (s - r.length) k are.1) (cut-of-buffer rs a b 0 (k - (r.length - s)) are.1)
  where
    by : (c : Bool) → (z : Bool) → AreOfBuffer a b (cut (s - r.length) k rs) → AreOfBuffer a b (cut 0 (k - (r.length - s)) rs)
        → AreOfBuffer a b (if c then cut (s - r.length) k rs else if z then [] else run_part r s (min k (r.length - s)) ∷ cut 0 (k - (r.length - s)) rs)
    by true z later here = later
    by false true later here = tt
    by false false later here = (are.0, here)

-- a run written in its buffer, at each place
module _ (a b : ℕ) (r : Run) (written bytes : List ℕ) (adapter : r.adapter ≡ a) (buffer : r.buffer ≡ b)
    (fits : r.offset + r.length ≤ length bytes) (enough : r.length ≤ length written) where
  within : (p : Place) → is_in r p ≡ true → get_or (take r.length written) (p.offset - r.offset) 0 ≡ get_or written (p.offset - r.offset) 0
  within p is = let below : p.offset - r.offset < r.length = grind (arith, nat_tests) in get_or-take r.length written (p.offset - r.offset) 0 below

  stored : (p : Place) → p.adapter ≡ r.adapter → p.buffer ≡ r.buffer
      → memory_of (bytes_after r.offset (take r.length written) bytes) p
      ≡ (if is_in r p then slice_index_or (take r.length written) (p.offset - r.offset) 0 else memory_of bytes p)
  stored =
      let count : length (take r.length written) ≡ r.length = length-take-le r.length written enough in
      write-places bytes (take r.length written) (bytes_after r.offset (take r.length written) bytes) r r.offset refl (sym count) (omega arith) refl

  at_place : (p : Place) →
      (if is_in r p then slice_index_or written (p.offset - r.offset) 0 else memory_of_buffer a b bytes p)
      ≡ memory_of_buffer a b (bytes_after r.offset (take r.length written) bytes) p
  at_place p = by (p.adapter == a) refl (p.buffer == b) refl (is_in r p) refl
    where
      by : (c : Bool) → (p.adapter == a) ≡ c → (d : Bool) → (p.buffer == b) ≡ d → (e : Bool) → is_in r p ≡ e
          → (if e then slice_index_or written (p.offset - r.offset) 0 else memory_of_buffer a b bytes p)
          ≡ memory_of_buffer a b (bytes_after r.offset (take r.length written) bytes) p
      by true x true y true z =
          let s = stored p (eqb-true p.adapter a x ∙ sym adapter) (eqb-true p.buffer b y ∙ sym buffer) in
          rw (x, y) (sym (within p z) ∙ sym (rw z at s))
      by true x true y false z =
          let s = stored p (eqb-true p.adapter a x ∙ sym adapter) (eqb-true p.buffer b y ∙ sym buffer) in
          rw (x, y) (sym (rw z at s))
      by true x false y true z = absurd (grind (arith, nat_tests))
      by true x false y false z = rw (x, y) refl
      by false x d y true z = absurd (grind (arith, nat_tests))
      by false x d y false z = rw x refl

  -- what a run that is written leaves in its buffer is what it leaves in memory
  pub run-written : memory_after (memory_of_buffer a b bytes) (r ∷ []) written
      ≡ memory_of_buffer a b (bytes_after r.offset (take r.length written) bytes)
  run-written = fun_ext at_place

  pub run-keeps-length : length (bytes_after r.offset (take r.length written) bytes) ≡ length bytes
  run-keeps-length =
      let count : length (take r.length written) ≡ r.length = length-take-le r.length written enough in
      let before : length (take r.offset bytes) ≡ r.offset = length-take-le r.offset bytes (omega arith) in
      simp (length-append, length-drop) (omega arith)

-- what runs that are written leave in their buffer is what they leave in memory
pub runs-written : (a b : ℕ) (rs : List Run) (written bytes : List ℕ) → FitInBytes (length bytes) rs → AreOfBuffer a b rs
    → places_count rs ≤ length written
    → memory_after (memory_of_buffer a b bytes) rs written ≡ memory_of_buffer a b (buffer_after rs written bytes)
runs-written a b [] written bytes fit are enough = refl
runs-written a b (r ∷ rs) written bytes fit are enough =
    let total : places_count (r ∷ rs) ≡ r.length + places_count rs = sum_by-cons (λ (r : Run). r.length) r rs in
    let here : r.length ≤ length written = omega arith in
    let count : length (bytes_after r.offset (take r.length written) bytes) ≡ length bytes = run-keeps-length a b r written bytes are.0.0 are.0.1 fit.0 here in
    let fits : FitInBytes (length (bytes_after r.offset (take r.length written) bytes)) rs = rw count fit.1 in
    ap (λ (m : ByteMap). memory_after m rs (drop r.length written)) (run-written a b r written bytes are.0.0 are.0.1 fit.0 here)
    ∙ runs-written a b rs (drop r.length written) (bytes_after r.offset (take r.length written) bytes) fits are.1
    (omega (arith, length-drop r.length written))

-- a place of the buffer has the same byte in its memory
same-byte : (a b : ℕ) (bytes : List ℕ) (p : Place) → p.adapter ≡ a → p.buffer ≡ b → memory_of bytes p ≡ memory_of_buffer a b bytes p
same-byte a b bytes p x y = rw (eq-eqb p.adapter a x, eq-eqb p.buffer b y) refl

same-row : (a b : ℕ) (r : Run) (bytes : List ℕ) → r.adapter ≡ a → r.buffer ≡ b → (ns : List ℕ)
    → map (memory_of bytes) (map (λ at. record { adapter = r.adapter; buffer = r.buffer; offset = at }) ns)
    ≡ map (memory_of_buffer a b bytes) (map (λ at. record { adapter = r.adapter; buffer = r.buffer; offset = at }) ns)
same-row a b r bytes x y [] = refl
same-row a b r bytes x y (n ∷ ns) =
    ap (λ (byte : ℕ). byte ∷ map (memory_of bytes) (map (λ at. record { adapter = r.adapter; buffer = r.buffer; offset = at }) ns))
    (same-byte a b bytes (record { adapter = r.adapter; buffer = r.buffer; offset = n }) x y)
    ∙ ap (λ (rest : List ℕ). memory_of_buffer a b bytes (record { adapter = r.adapter; buffer = r.buffer; offset = n }) ∷ rest) (same-row a b r bytes x y ns)

-- the bytes of runs of a buffer are the same in its memory
pub same-bytes : (a b : ℕ) (rs : List Run) (bytes : List ℕ) → AreOfBuffer a b rs
    → bytes_at (memory_of bytes) rs ≡ bytes_at (memory_of_buffer a b bytes) rs
same-bytes a b [] bytes are = refl
same-bytes a b (r ∷ rs) bytes are =
    map-append (memory_of bytes) (run_places r) (places_of rs)
    ∙ ap (λ (xs : List ℕ). xs ++ map (memory_of bytes) (places_of rs)) (same-row a b r bytes are.0.0 are.0.1 (range_with_len r.offset r.length))
    ∙ ap (λ (xs : List ℕ). map (memory_of_buffer a b bytes) (run_places r) ++ xs) (same-bytes a b rs bytes are.1)
    ∙ sym (map-append (memory_of_buffer a b bytes) (run_places r) (places_of rs))
