-- The grants that registrations make: as many places as bytes, in one buffer.
use Rattle.std.proofs.Common.{◌≡◌, ℕ, ◌+◌, ◌-◌, ◌*◌, ◌%◌, ◌≤◌, ◌<◌, min, nat_le, nat_lt, arith, Bool, true, false, List, [], ◌∷◌, length, map, ◌==◌, sym, if◌then◌else◌, refl}
use Rattle.std.proofs.lemmas.Bool.{eqb-false, eqb-true, leb-true, leb-false, ltb-false, or_parts}
use Rattle.std.proofs.lemmas.List.Sums.{sum_by-cons}
use Rattle.std.specs.List.{AllByRecursion, list_any}
use Rattle.ca_keys.specs.declared.names.Slot.{Slot}
use Rattle.ca_keys.specs.declared.place.Run.{Run}
use Rattle.ca_keys.specs.declared.rights.Rights.{Rights}
use Rattle.ca_base.specs.Configuration.{Configuration}
use Rattle.ca_base.specs.Grants.{grant_of_fast_registration, grant_of_registration, page_run, page_runs}
use Rattle.ca_keys.specs.Memory.{cut, places_count, run_part}
use Rattle.ca_base.specs.objects.Region.{pages_needed, passes_end}
use Rattle.ca_model.specs.machine.Step.{bytes_of_buffer}
use Rattle.ca_model.specs.machine.Sound.{IsRegionGrant, LieIn}

-- runs that are cut have as many places as are left of them
sound-cut : (rs : List Run) (skip count : ℕ) → skip + count ≤ places_count rs → places_count (cut skip count rs) ≡ count
sound-cut [] skip count enough = omega (arith, enough)
sound-cut (r ∷ rs) skip count enough =
    by (nat_le r.length skip) refl (count == 0) refl (sound-cut rs (skip - r.length) count) (sound-cut rs 0 (count - (r.length - skip)))
  where
    total : skip + count ≤ r.length + places_count rs
    total = omega (arith, enough, sum_by-cons (λ (r : Run). r.length) r rs)

    by : (b : Bool) → nat_le r.length skip ≡ b → (z : Bool) → (count == 0) ≡ z
        → (skip - r.length + count ≤ places_count rs → places_count (cut (skip - r.length) count rs) ≡ count)
        → (0 + (count - (r.length - skip)) ≤ places_count rs → places_count (cut 0 (count - (r.length - skip)) rs) ≡ count - (r.length - skip))
        → places_count (if b then cut (skip - r.length) count rs else if z then [] else run_part r skip (min count (r.length - skip)) ∷ cut 0 (count - (r.length - skip)) rs) ≡ count
    by true e z f later here = later (omega (arith, total, leb-true r.length skip e))
    by false e true f later here = sym (eqb-true count 0 f)
    by false e false f later here =
        omega (
          arith,
          sum_by-cons (λ (r : Run). r.length) (run_part r skip (min count (r.length - skip))) (cut 0 (count - (r.length - skip)) rs),
          here (omega (arith, total, leb-false r.length skip e)),
          leb-false r.length skip e,
        )

pages-places : (adapter buffer : ℕ) (pages : List ℕ) → places_count (map (page_run adapter buffer) pages) ≡ length pages * 4096
pages-places adapter buffer [] = refl
pages-places adapter buffer (p ∷ ps) =
    omega (arith, sum_by-cons (λ (r : Run). r.length) (page_run adapter buffer p) (map (page_run adapter buffer) ps), pages-places adapter buffer ps)

lie-cut : (adapter buffer bytes : ℕ) (pages : List ℕ) (skip count : ℕ) → list_any (passes_end bytes) (cut skip count (map (page_run adapter buffer) pages)) ≡ false
    → LieIn adapter buffer bytes (cut skip count (map (page_run adapter buffer) pages))
lie-cut adapter buffer bytes [] skip count none = record {}
lie-cut adapter buffer bytes (p ∷ ps) skip count none =
    by (nat_le 4096 skip) (count == 0) none
    (lie-cut adapter buffer bytes ps (skip - 4096) count) (lie-cut adapter buffer bytes ps 0 (count - (4096 - skip)))
  where
    runs : List Run
    runs = map (page_run adapter buffer) ps

    here : Run
    here = run_part (page_run adapter buffer p) skip (min count (4096 - skip))

    by : (b z : Bool) → list_any (passes_end bytes) (if b then cut (skip - 4096) count runs else if z then [] else here ∷ cut 0 (count - (4096 - skip)) runs) ≡ false
        → (list_any (passes_end bytes) (cut (skip - 4096) count runs) ≡ false → LieIn adapter buffer bytes (cut (skip - 4096) count runs))
        → (list_any (passes_end bytes) (cut 0 (count - (4096 - skip)) runs) ≡ false → LieIn adapter buffer bytes (cut 0 (count - (4096 - skip)) runs))
        → LieIn adapter buffer bytes (if b then cut (skip - 4096) count runs else if z then [] else here ∷ cut 0 (count - (4096 - skip)) runs)
    by true z none later rest = later none
    by false true none later rest = record {}
    by false false none later rest = (
      (refl, refl, ltb-false bytes (here.offset + here.length) (or_parts (passes_end bytes here) (list_any (passes_end bytes) (cut 0 (count - (4096 - skip)) runs)) none).0),
      rest (or_parts (passes_end bytes here) (list_any (passes_end bytes) (cut 0 (count - (4096 - skip)) runs)) none).1,
    )

pages-enough : (address count : ℕ) (pages : List ℕ) → length pages ≡ pages_needed address count
    → address % 4096 + count ≤ length pages * 4096
pages-enough address count pages e = omega (arith, e)

-- each run that is cut from pages has some bytes
some-cut : (adapter buffer : ℕ) (pages : List ℕ) (skip count : ℕ) → AllByRecursion (λ r. 0 < r.length) (cut skip count (map (page_run adapter buffer) pages))
some-cut adapter buffer [] skip count = record {}
some-cut adapter buffer (p ∷ ps) skip count =
    by (nat_le 4096 skip) refl (count == 0) refl (some-cut adapter buffer ps (skip - 4096) count) (some-cut adapter buffer ps 0 (count - (4096 - skip)))
  where
    runs : List Run
    runs = map (page_run adapter buffer) ps

    by : (b : Bool) → nat_le 4096 skip ≡ b → (z : Bool) → (count == 0) ≡ z
        → AllByRecursion (λ r. 0 < r.length) (cut (skip - 4096) count runs) → AllByRecursion (λ r. 0 < r.length) (cut 0 (count - (4096 - skip)) runs)
        → AllByRecursion (λ r. 0 < r.length) (if b then cut (skip - 4096) count runs else if z then [] else run_part (page_run adapter buffer p) skip (min count (4096 - skip)) ∷ cut 0 (count - (4096 - skip)) runs)
    by true e z f later rest = later
    by false e true f later rest = record {}
    by false e false f later rest = (omega (arith, leb-false 4096 skip e, eqb-false count 0 f), rest)

pub sound-fast : (c : Configuration) (s : Slot) (low buffer address count : ℕ) (rights : Rights) (pages : List ℕ)
    → length pages ≡ pages_needed address count
    → list_any (passes_end (bytes_of_buffer c s.domain.adapter buffer)) (page_runs s.domain.adapter buffer address count pages) ≡ false
    → IsRegionGrant c s low (grant_of_fast_registration s low buffer address count rights pages)
sound-fast c s low buffer address count rights pages enough none = record {
  key = refl;
  domain = refl;
  queue = refl;
  local = refl;
  places = sound-cut (map (page_run s.domain.adapter buffer) pages) (address % 4096) count
      (omega (arith, pages-enough address count pages enough, pages-places s.domain.adapter buffer pages));
  some = some-cut s.domain.adapter buffer pages (address % 4096) count;
  buffer = buffer;
  inside = lie-cut s.domain.adapter buffer (bytes_of_buffer c s.domain.adapter buffer) pages (address % 4096) count none;
}

pub sound-registration : (c : Configuration) (s : Slot) (at : Run) (rights : Rights) (low : ℕ) → at.adapter ≡ s.domain.adapter → (at.length == 0) ≡ false
    → nat_lt (bytes_of_buffer c s.domain.adapter at.buffer) (at.offset + at.length) ≡ false
    → IsRegionGrant c s low (grant_of_registration s at rights low)
sound-registration c s at rights low own some inside = record {
  key = refl;
  domain = refl;
  queue = refl;
  local = refl;
  places = omega arith;
  some = (omega (arith, eqb-false at.length 0 some), record {});
  buffer = at.buffer;
  inside = ((own, refl, ltb-false (bytes_of_buffer c s.domain.adapter at.buffer) (at.offset + at.length) inside), record {});
}
