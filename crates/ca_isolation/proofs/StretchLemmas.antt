-- The Stores of a write's stretches leave in covered bytes what the write leaves there. For proofs only.
use Rattle.std.proofs.Common.{◌≡◌, ◌∙◌, ℕ, zero, suc, ◌+◌, ◌-◌, ◌≤◌, ◌<◌, ◌==◌, ◌&&◌, nat_le, nat_lt, arith, Bool, true, false, List, [], ◌∷◌, ◌++◌, drop, length, slice_index_or, Option, None, Some, if◌then◌else◌, ap, refl, subst, sym, true≢false}
use Rattle.std.proofs.lemmas.Bool.{and_from, and_parts, eq-eqb, eqb-false, eqb-true, le-leb, leb-true, lt-ltb, ltb-true}
use Rattle.std.proofs.lemmas.Grind.{get_or_after_one}
use Rattle.ca_isolation.specs.Alone.{Cell, cells_from, cells_of, ended_before, goes_on, grown, memory_stored, open_behind, run_of_stretch, stretches_of, stretches_of_write}
use Rattle.ca_isolation.specs.declared.stretch.Stretch.{Stretch}
use Rattle.ca_keys.specs.Equal.{place_eq}
use Rattle.ca_keys.specs.Memory.{ByteMap, is_in, memory_after}
use Rattle.ca_keys.specs.declared.place.Place.{Place}
use Rattle.ca_keys.specs.declared.place.Run.{Run}
use Rattle.ca_model.proofs.ThingLemmas.{place-path}
use Rattle.ca_model.specs.Past.{with_at}
use Rattle.ca_model.specs.machine.Plan.{Write}

-- memory after these cells were written, one after another
abbrev pub memory_of_cells : List Cell → ByteMap → ByteMap
memory_of_cells [] m = m
memory_of_cells (x ∷ xs) m = memory_of_cells xs (with_at place_eq m x.place x.byte)

cells-agree : (xs : List Cell) (m k : ByteMap) (p : Place) → m p ≡ k p → memory_of_cells xs m p ≡ memory_of_cells xs k p
cells-agree [] m k p same = same
cells-agree (x ∷ xs) m k p same = cells-agree xs (with_at place_eq m x.place x.byte) (with_at place_eq k x.place x.byte) p (ap (λ v. if place_eq x.place p then x.byte else v) same)

cells-append : (xs ys : List Cell) (m : ByteMap) → memory_of_cells (xs ++ ys) m ≡ memory_of_cells ys (memory_of_cells xs m)
cells-append [] ys m = refl
cells-append (x ∷ xs) ys m = cells-append xs ys (with_at place_eq m x.place x.byte)

-- a place is one of a run
pub record InPlaces (r : Run) (p : Place) : Type 0 where
  pub adapter : p.adapter ≡ r.adapter
  pub buffer : p.buffer ≡ r.buffer
  pub from : r.offset ≤ p.offset
  pub upto : p.offset < r.offset + r.length

pub run-parts : (r : Run) (p : Place) → is_in r p ≡ true → InPlaces r p
run-parts r p is = record {
  adapter = eqb-true p.adapter r.adapter two.0;
  buffer = eqb-true p.buffer r.buffer two.1;
  from = leb-true r.offset p.offset three.1;
  upto = ltb-true p.offset (r.offset + r.length) four.1;
}
  where
    four : (((p.adapter == r.adapter) && (p.buffer == r.buffer) && nat_le r.offset p.offset) ≡ true) × (nat_lt p.offset (r.offset + r.length) ≡ true)
    four = and_parts ((p.adapter == r.adapter) && (p.buffer == r.buffer) && nat_le r.offset p.offset) (nat_lt p.offset (r.offset + r.length)) is

    three : (((p.adapter == r.adapter) && (p.buffer == r.buffer)) ≡ true) × (nat_le r.offset p.offset ≡ true)
    three = and_parts ((p.adapter == r.adapter) && (p.buffer == r.buffer)) (nat_le r.offset p.offset) four.0

    two : ((p.adapter == r.adapter) ≡ true) × ((p.buffer == r.buffer) ≡ true)
    two = and_parts (p.adapter == r.adapter) (p.buffer == r.buffer) three.0

pub run-made : (r : Run) (p : Place) → InPlaces r p → is_in r p ≡ true
run-made r p one = and_from ((p.adapter == r.adapter) && (p.buffer == r.buffer) && nat_le r.offset p.offset) (nat_lt p.offset (r.offset + r.length))
    (and_from ((p.adapter == r.adapter) && (p.buffer == r.buffer)) (nat_le r.offset p.offset)
    (and_from (p.adapter == r.adapter) (p.buffer == r.buffer) (eq-eqb p.adapter r.adapter one.adapter) (eq-eqb p.buffer r.buffer one.buffer))
    (le-leb r.offset p.offset one.from))
    (lt-ltb p.offset (r.offset + r.length) one.upto)

same-place : (a p : Place) → p.adapter ≡ a.adapter → p.buffer ≡ a.buffer → p.offset ≡ a.offset → place_eq a p ≡ true
same-place a p adapter buffer offset = and_from ((a.adapter == p.adapter) && (a.buffer == p.buffer)) (a.offset == p.offset)
    (and_from (a.adapter == p.adapter) (a.buffer == p.buffer) (eq-eqb a.adapter p.adapter (sym adapter)) (eq-eqb a.buffer p.buffer (sym buffer))) (eq-eqb a.offset p.offset (sym offset))

-- the places from one on
abbrev from : Place → ℕ → Run
from a n = record { adapter = a.adapter; buffer = a.buffer; offset = a.offset; length = n }

abbrev next : Place → Place
next a = record a { offset = suc a.offset }

-- what cells of places that follow each other leave at a place
run-cells : (a : Place) (n : ℕ) (bytes : List ℕ) (m : ByteMap) (p : Place)
    → memory_of_cells (cells_from a n bytes) m p ≡ (if is_in (from a n) p then slice_index_or bytes (p.offset - a.offset) 0 else m p)
run-cells a zero bytes m p = by (is_in (from a 0) p) refl
  where
    none : InPlaces (from a 0) p → ⊥
    none one = omega (arith, one.from, one.upto)

    by : (b : Bool) → is_in (from a 0) p ≡ b → m p ≡ (if b then slice_index_or bytes (p.offset - a.offset) 0 else m p)
    by true is = absurd (none (run-parts (from a 0) p is))
    by false is = refl
run-cells a (suc n) bytes m p =
    run-cells (next a) n (drop 1 bytes) (with_at place_eq m a (slice_index_or bytes 0 0)) p ∙ by (is_in (from (next a) n) p) refl (place_eq a p) refl (is_in (from a (suc n)) p) refl
  where
    later : InPlaces (from (next a) n) p → InPlaces (from a (suc n)) p
    later one = record { adapter = one.adapter; buffer = one.buffer; from = omega (arith, one.from); upto = omega (arith, one.upto) }

    here : InPlaces (from a (suc n)) p → p.offset ≡ a.offset → place_eq a p ≡ true
    here one is = same-place a p one.adapter one.buffer is

    there : InPlaces (from a (suc n)) p → a.offset < p.offset → InPlaces (from (next a) n) p
    there one is = record { adapter = one.adapter; buffer = one.buffer; from = omega (arith, is); upto = omega (arith, one.upto) }

    missed : InPlaces (from a (suc n)) p → is_in (from (next a) n) p ≡ false → place_eq a p ≡ false → ⊥
    missed one later-not here-not = at (p.offset == a.offset) refl
      where
        at : (b : Bool) → (p.offset == a.offset) ≡ b → ⊥
        at true e = true≢false (sym (here one (eqb-true p.offset a.offset e)) ∙ here-not)
        at false e = true≢false (sym (run-made (from (next a) n) p (there one (omega (arith, one.from, eqb-false p.offset a.offset e)))) ∙ later-not)

    first : place_eq a p ≡ true → InPlaces (from a (suc n)) p
    first e = subst (λ x. InPlaces (from a (suc n)) x) (place-path a p e) (record { adapter = refl; buffer = refl; from = omega arith; upto = omega arith })

    behind : InPlaces (from (next a) n) p → slice_index_or (drop 1 bytes) (p.offset - suc a.offset) 0 ≡ slice_index_or bytes (p.offset - a.offset) 0
    behind one = get_or_after_one bytes (p.offset - suc a.offset) 0 ∙ ap (λ i. slice_index_or bytes i 0) index
      where
        index : 1 + (p.offset - suc a.offset) ≡ p.offset - a.offset
        index = omega (arith, one.from)

    by : (l : Bool) → is_in (from (next a) n) p ≡ l → (h : Bool) → place_eq a p ≡ h → (w : Bool) → is_in (from a (suc n)) p ≡ w
        → (if l then slice_index_or (drop 1 bytes) (p.offset - suc a.offset) 0 else if h then slice_index_or bytes 0 0 else m p)
        ≡ (if w then slice_index_or bytes (p.offset - a.offset) 0 else m p)
    by true l h e true w = behind (run-parts (from (next a) n) p l)
    by true l h e false w = absurd (true≢false (sym (run-made (from a (suc n)) p (later (run-parts (from (next a) n) p l))) ∙ w))
    by false l true h true w = ap (λ i. slice_index_or bytes i 0) zero-index
      where
        zero-index : 0 ≡ p.offset - a.offset
        zero-index = omega (arith, ap (λ (x : Place). x.offset) (place-path a p h))
    by false l true h false w = absurd (true≢false (sym (run-made (from a (suc n)) p (first h)) ∙ w))
    by false l false h true w = absurd (missed (run-parts (from a (suc n)) p w) l h)
    by false l false h false w = refl

memory-agree : (rs : List Run) (m k : ByteMap) (bytes : List ℕ) (p : Place) → m p ≡ k p → memory_after m rs bytes p ≡ memory_after k rs bytes p
memory-agree [] m k bytes p same = same
memory-agree (r ∷ rs) m k bytes p same = memory-agree rs _ _ (drop r.length bytes) p (ap (λ v. if is_in r p then slice_index_or bytes (p.offset - r.offset) 0 else v) same)

-- a write is that of its cells
write-cells : (rs : List Run) (bytes : List ℕ) (m : ByteMap) (p : Place) → memory_of_cells (cells_of rs bytes) m p ≡ memory_after m rs bytes p
write-cells [] bytes m p = refl
write-cells (r ∷ rs) bytes m p = ap (λ (k : ByteMap). k p) (cells-append first (cells_of rs (drop r.length bytes)) m)
    ∙ write-cells rs (drop r.length bytes) (memory_of_cells first m) p
    ∙ memory-agree rs (memory_of_cells first m) (λ x. if is_in r x then slice_index_or bytes (x.offset - r.offset) 0 else m x) (drop r.length bytes) p (run-cells at r.length bytes m p)
  where
    at : Place
    at = record { adapter = r.adapter; buffer = r.buffer; offset = r.offset }

    first : List Cell
    first = cells_from at r.length bytes

-- ---- stretches

abbrev listed : Option Stretch → List Stretch
listed None = []
listed (Some s) = s ∷ []

pub stored-append : (xs ys : List Stretch) (m : ByteMap) → memory_stored (xs ++ ys) m ≡ memory_stored ys (memory_stored xs m)
stored-append [] ys m = refl
stored-append (x ∷ xs) ys m = stored-append xs ys (memory_after m (run_of_stretch x ∷ []) x.bytes)

-- a stretch of one cell
alone-stored : (x : Cell) (m : ByteMap) (p : Place) → memory_stored (record { at = x.place; bytes = x.byte ∷ [] } ∷ []) m p ≡ with_at place_eq m x.place x.byte p
alone-stored x m p = sym (run-cells x.place 1 (x.byte ∷ []) m p)

-- the cells of a stretch with one more byte
cells-longer : (a : Place) (bytes : List ℕ) (b : ℕ)
    → cells_from a (length (bytes ++ b ∷ [])) (bytes ++ b ∷ []) ≡ cells_from a (length bytes) bytes ++ record { place = record a { offset = a.offset + length bytes }; byte = b } ∷ []
cells-longer a [] b = ap (λ n. record { place = record a { offset = n }; byte = b } ∷ []) same
  where
    same : a.offset ≡ a.offset + 0
    same = omega arith
cells-longer a (x ∷ bytes) b = ap (λ t. record { place = a; byte = x } ∷ t) (cells-longer (next a) bytes b
    ∙ ap (λ n. cells_from (next a) (length bytes) bytes ++ record { place = record a { offset = n }; byte = b } ∷ []) same)
  where
    same : suc a.offset + length bytes ≡ a.offset + suc (length bytes)
    same = omega arith

longer-stored : (s : Stretch) (x : Cell) (m : ByteMap) (p : Place) → goes_on s x ≡ true
    → memory_stored (record s { bytes = s.bytes ++ x.byte ∷ [] } ∷ []) m p ≡ with_at place_eq (memory_stored (s ∷ []) m) x.place x.byte p
longer-stored s x m p on = sym (run-cells s.at (length (s.bytes ++ x.byte ∷ [])) (s.bytes ++ x.byte ∷ []) m p)
    ∙ ap (λ (xs : List Cell). memory_of_cells xs m p) (cells-longer s.at s.bytes x.byte)
    ∙ ap (λ (k : ByteMap). k p) (cells-append (cells_from s.at (length s.bytes) s.bytes) (record { place = record s.at { offset = s.at.offset + length s.bytes }; byte = x.byte } ∷ []) m)
    ∙ ap (λ (a : Place). with_at place_eq (memory_of_cells (cells_from s.at (length s.bytes) s.bytes) m) a x.byte p) place
    ∙ ap (λ v. if place_eq x.place p then x.byte else v) (run-cells s.at (length s.bytes) s.bytes m p)
  where
    parts : ((x.place.adapter == s.at.adapter) && (x.place.buffer == s.at.buffer) ≡ true) × ((x.place.offset == s.at.offset + length s.bytes) ≡ true)
    parts = and_parts ((x.place.adapter == s.at.adapter) && (x.place.buffer == s.at.buffer)) (x.place.offset == s.at.offset + length s.bytes) on

    place : record s.at { offset = s.at.offset + length s.bytes } ≡ x.place
    place = sym (place-path x.place (record s.at { offset = s.at.offset + length s.bytes }) (and_from ((x.place.adapter == s.at.adapter) && (x.place.buffer == s.at.buffer))
        (x.place.offset == s.at.offset + length s.bytes) parts.0 parts.1))

pub stretches-stored : (cover : Place → Bool) (xs : List Cell) (front : Option Stretch) (m : ByteMap) (p : Place) → cover p ≡ true
    → memory_stored (stretches_of cover xs front) m p ≡ memory_of_cells xs (memory_stored (listed front) m) p
stretches-stored cover [] None m p covered = refl
stretches-stored cover [] (Some s) m p covered = refl
stretches-stored cover (x ∷ xs) front m p covered =
    ap (λ (k : ByteMap). k p) (stored-append (ended_before cover front x) (stretches_of cover xs (open_behind cover front x)) m)
    ∙ stretches-stored cover xs (open_behind cover front x) (memory_stored (ended_before cover front x) m) p covered
    ∙ cells-agree xs _ _ p (step front)
  where
    goes : (s : Stretch) (b : Bool) → goes_on s x ≡ b
        → memory_stored ((if b then record s { bytes = s.bytes ++ x.byte ∷ [] } else record { at = x.place; bytes = x.byte ∷ [] }) ∷ []) (memory_stored (if b then [] else s ∷ []) m) p
        ≡ with_at place_eq (memory_stored (s ∷ []) m) x.place x.byte p
    goes s true on = longer-stored s x m p on
    goes s false off = alone-stored x (memory_stored (s ∷ []) m) p

    apart : cover x.place ≡ false → place_eq x.place p ≡ false
    apart none = at (place_eq x.place p) refl
      where
        at : (b : Bool) → place_eq x.place p ≡ b → b ≡ false
        at true same = absurd (true≢false (sym covered ∙ sym (ap cover (place-path x.place p same)) ∙ none))
        at false same = refl

    skipped : (v : ℕ) → cover x.place ≡ false → v ≡ (if place_eq x.place p then x.byte else v)
    skipped v none = ap (λ b. if b then x.byte else v) (sym (apart none))

    first : (c : Bool) → cover x.place ≡ c → memory_stored (listed (if c then Some (grown None x) else None)) m p ≡ with_at place_eq m x.place x.byte p
    first true is = alone-stored x m p
    first false is = skipped (m p) is

    later : (s : Stretch) (c : Bool) → cover x.place ≡ c
        → memory_stored (listed (if c then Some (grown (Some s) x) else None)) (memory_stored (if c && goes_on s x then [] else s ∷ []) m) p ≡ with_at place_eq (memory_stored (s ∷ []) m) x.place x.byte p
    later s true is = goes s (goes_on s x) refl
    later s false is = skipped (memory_stored (s ∷ []) m p) is

    step : (front : Option Stretch)
        → memory_stored (listed (open_behind cover front x)) (memory_stored (ended_before cover front x) m) p ≡ with_at place_eq (memory_stored (listed front) m) x.place x.byte p
    step None = first (cover x.place) refl
    step (Some s) = later s (cover x.place) refl

pub stores-write : (cover : Place → Bool) (x : Write) (m k : ByteMap) (p : Place) → cover p ≡ true → m p ≡ k p
    → memory_stored (stretches_of_write cover x) m p ≡ memory_after k x.runs x.bytes p
stores-write cover x m k p covered same = stretches-stored cover (cells_of x.runs x.bytes) None m p covered ∙ write-cells x.runs x.bytes m p ∙ memory-agree x.runs m k x.bytes p same
