-- Lemmas on the runs of pages that are cut. For proofs only.
use Rattle.std.proofs.Common.{◌≡◌, ℕ, suc, zero, ◌+◌, ◌-◌, ◌*◌, ◌/◌, ◌%◌, ◌<◌, ◌≤◌, min, List, [], ◌∷◌, length, drop, map, get_or, refl, sym, ap, ◌∙◌, arith}
use Rattle.std.proofs.lemmas.List.{drop_more}
use Rattle.std.proofs.lemmas.List.Sums.{sum_by-cons}
use Rattle.ca_keys.specs.declared.place.Run.{Run}
use Rattle.ca_base.specs.Grants.{page_run}
use Rattle.ca_keys.specs.Memory.{cut, run_part, places_count}
use Rattle.ca_region.proofs.Cut.{cut-skip, cut-none, cut-first, cut-count}

module _ (adapter buffer : ℕ) where
  -- the pages that nothing is left of do not stand
  pub cut-drop : (pages : List ℕ) (q r n : ℕ) →
      cut (q * 4096 + r) n (map (page_run adapter buffer) pages) ≡ cut r n (map (page_run adapter buffer) (drop q pages))
  cut-drop pages zero r n = ap (λ (k : ℕ). cut k n (map (page_run adapter buffer) pages)) (omega arith)
  cut-drop [] (suc q) r n = refl
  cut-drop (p ∷ ps) (suc q) r n =
      cut-skip (page_run adapter buffer p) (map (page_run adapter buffer) ps) (suc q * 4096 + r) n (omega arith)
      ∙ ap (λ (k : ℕ). cut k n (map (page_run adapter buffer) ps)) (omega arith)
      ∙ cut-drop ps q r n

  -- the first page of which something is left, among those from an index on
  pub cut-page : (pages : List ℕ) (i s n : ℕ) → i < length pages → s < 4096 → 0 < n →
      cut s n (map (page_run adapter buffer) (drop i pages))
      ≡ run_part (page_run adapter buffer (get_or pages i 0)) s (min n (4096 - s))
      ∷ cut 0 (n - (4096 - s)) (map (page_run adapter buffer) (drop (i + 1) pages))
  cut-page pages i s n h f g =
      ap (λ (xs : List ℕ). cut s n (map (page_run adapter buffer) xs)) (drop_more pages i 0 h)
      ∙ cut-first (page_run adapter buffer (get_or pages i 0)) (map (page_run adapter buffer) (drop (i + 1) pages)) s n f g

  -- bytes of pages begin in the page that their begin tells
  pub cut-pages : (pages : List ℕ) (k n : ℕ) →
      cut k n (map (page_run adapter buffer) pages) ≡ cut (k % 4096) n (map (page_run adapter buffer) (drop (k / 4096) pages))
  cut-pages pages k n =
      ap (λ (j : ℕ). cut j n (map (page_run adapter buffer) pages)) (omega arith) ∙ cut-drop pages (k / 4096) (k % 4096) n

  -- bytes that end in the page in which they begin
  pub span-in-one : (pages : List ℕ) (k n i s : ℕ) (x : Run) → 0 < n → k + n ≤ length pages * 4096
      → i ≡ k / 4096 → s ≡ k % 4096 → x ≡ run_part (page_run adapter buffer (get_or pages i 0)) s (min n (4096 - s))
      → n - x.length ≡ 0
      → x ∷ [] ≡ cut k n (map (page_run adapter buffer) pages)
  span-in-one pages k n i s x some held at skip part rest =
      let whole : x.length ≡ min n (4096 - s) = ap (λ (r : Run). r.length) part in
      let none : n - (4096 - s) ≡ 0 = omega arith in
      let others : List Run = map (page_run adapter buffer) (drop (i + 1) pages) in
      sym (
      cut-pages pages k n
      ∙ ap (λ (j : ℕ). cut j n (map (page_run adapter buffer) (drop (k / 4096) pages))) (sym skip)
      ∙ ap (λ (j : ℕ). cut s n (map (page_run adapter buffer) (drop j pages))) (sym at)
      ∙ cut-page pages i s n (omega arith) (omega arith) some
      ∙ ap (λ (r : Run). r ∷ cut 0 (n - (4096 - s)) others) (sym part)
      ∙ ap (λ (j : ℕ). x ∷ cut 0 j others) none
      ∙ ap (λ (rs : List Run). x ∷ rs) (cut-none others 0))

  -- bytes that end in the page behind
  pub span-in-two : (pages : List ℕ) (k n i s : ℕ) (x y : Run) → n ≤ 4096 → k + n ≤ length pages * 4096
      → i ≡ k / 4096 → s ≡ k % 4096 → x ≡ run_part (page_run adapter buffer (get_or pages i 0)) s (min n (4096 - s))
      → 0 < n - x.length → y ≡ run_part (page_run adapter buffer (get_or pages (i + 1) 0)) 0 (min (n - x.length) 4096)
      → x ∷ y ∷ [] ≡ cut k n (map (page_run adapter buffer) pages)
  span-in-two pages k n i s x y few held at skip part rest next =
      let whole : x.length ≡ min n (4096 - s) = ap (λ (r : Run). r.length) part in
      let left : n - x.length ≡ n - (4096 - s) = omega arith in
      let none : n - (4096 - s) - 4096 ≡ 0 = omega arith in
      let others : List Run = map (page_run adapter buffer) (drop (i + 1 + 1) pages) in
      sym (
      cut-pages pages k n
      ∙ ap (λ (j : ℕ). cut j n (map (page_run adapter buffer) (drop (k / 4096) pages))) (sym skip)
      ∙ ap (λ (j : ℕ). cut s n (map (page_run adapter buffer) (drop j pages))) (sym at)
      ∙ cut-page pages i s n (omega arith) (omega arith) (omega arith)
      ∙ ap (λ (r : Run). r ∷ cut 0 (n - (4096 - s)) (map (page_run adapter buffer) (drop (i + 1) pages))) (sym part)
      ∙ ap (λ (rs : List Run). x ∷ rs) (
      cut-page pages (i + 1) 0 (n - (4096 - s)) (omega arith) (omega arith) (omega arith)
      ∙ ap (λ (j : ℕ). run_part (page_run adapter buffer (get_or pages (i + 1) 0)) 0 (min j 4096) ∷ cut 0 (n - (4096 - s) - 4096) others) (sym left)
      ∙ ap (λ (r : Run). r ∷ cut 0 (n - (4096 - s) - 4096) others) (sym next)
      ∙ ap (λ (j : ℕ). y ∷ cut 0 j others) none
      ∙ ap (λ (rs : List Run). y ∷ rs) (cut-none others 0)))

  -- pages have 4096 places each
  pages-count : (pages : List ℕ) → places_count (map (page_run adapter buffer) pages) ≡ length pages * 4096
  pages-count [] = refl
  pages-count (p ∷ ps) =
      omega (arith, sum_by-cons (λ (r : Run). r.length) (page_run adapter buffer p) (map (page_run adapter buffer) ps), pages-count ps)

  -- bytes of pages have a place each
  pub range-count : (pages : List ℕ) (a m : ℕ) → a + m ≤ length pages * 4096 → places_count (cut a m (map (page_run adapter buffer) pages)) ≡ m
  range-count pages a m h = cut-count (map (page_run adapter buffer) pages) a m (omega (arith, pages-count pages))
