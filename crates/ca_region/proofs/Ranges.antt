-- Lemmas on the range that a mapping to pages has. For proofs only.
use Rattle.std.proofs.Common.{◌≡◌, ℕ, ◌+◌, ◌*◌, ◌%◌, ◌<◌, ◌≤◌, List, [], ◌∷◌, Some, None, length, map, ap, sym, ◌∙◌, arith}
use Rattle.ca_base.specs.Grants.{page_run}
use Rattle.ca_keys.specs.Memory.{cut}
use Rattle.ca_region.proofs.Cut.{cut-cut, cut-first, cut-none}
use Rattle.ca_region.specs.declared.places.Places.{Places}
use Rattle.ca_region.specs.declared.places.Places.TheVariants.{PageList}
use Rattle.ca_region.specs.Places.{runs_of_places}
use Rattle.ca_region.specs.Region.{buffer_of_runs}

-- bytes of the range are bytes of the pages
pub cut-of-pages : (places : Places) (allocated buffer : ℕ) (pages list : List ℕ) (adapter address bytes k n j : ℕ)
    → places ≡ PageList allocated buffer pages → list ≡ pages → j ≡ address % 4096 + k → k + n ≤ bytes
    → cut j n (map (page_run adapter buffer) list) ≡ cut k n (runs_of_places adapter address bytes places)
cut-of-pages places allocated buffer pages list adapter address bytes k n j is same begin within =
    ap (λ (ps : List ℕ). cut j n (map (page_run adapter buffer) ps)) same
    ∙ ap (λ (i : ℕ). cut i n (map (page_run adapter buffer) pages)) begin
    ∙ sym (cut-cut (map (page_run adapter buffer) pages) (address % 4096) bytes k n within)
    ∙ ap (λ (p : Places). cut k n (runs_of_places adapter address bytes p)) (sym is)

-- bytes of pages lie in the buffer of the pages
buffer-of-cut : (adapter buffer k n : ℕ) (pages : List ℕ) → 0 < n → k < 4096 → k + n ≤ length pages * 4096
    → buffer_of_runs (cut k n (map (page_run adapter buffer) pages)) ≡ Some (adapter, buffer)
buffer-of-cut adapter buffer k n [] some few held = absurd (omega (arith, some, held))
buffer-of-cut adapter buffer k n (p ∷ ps) some few held =
    ap buffer_of_runs (cut-first (page_run adapter buffer p) (map (page_run adapter buffer) ps) k n few some)

-- the range lies in the buffer of its pages
pub buffer-of-pages : (places : Places) (allocated buffer : ℕ) (pages : List ℕ) (adapter address bytes : ℕ)
    → places ≡ PageList allocated buffer pages → 0 < bytes → address % 4096 + bytes ≤ length pages * 4096
    → Some (adapter, buffer) ≡ buffer_of_runs (runs_of_places adapter address bytes places)
buffer-of-pages places allocated buffer pages adapter address bytes is some held =
    sym (
    ap (λ (p : Places). buffer_of_runs (runs_of_places adapter address bytes p)) is
    ∙ buffer-of-cut adapter buffer (address % 4096) bytes pages some (omega arith) held)

-- no bytes lie in no buffer
pub no-buffer : (places : Places) (allocated buffer : ℕ) (pages : List ℕ) (adapter address bytes : ℕ)
    → places ≡ PageList allocated buffer pages → bytes ≡ 0
    → None ≡ buffer_of_runs (runs_of_places adapter address bytes places)
no-buffer places allocated buffer pages adapter address bytes is none =
    sym (
    ap (λ (p : Places). buffer_of_runs (runs_of_places adapter address bytes p)) is
    ∙ ap (λ (n : ℕ). buffer_of_runs (cut (address % 4096) n (map (page_run adapter buffer) pages))) none
    ∙ ap buffer_of_runs (cut-none (map (page_run adapter buffer) pages) (address % 4096)))
