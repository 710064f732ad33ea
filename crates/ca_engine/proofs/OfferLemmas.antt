-- Lists of offers that are made item by item. For proofs only.
use Rattle.std.proofs.Common.{◌≡◌, ℕ, zero, suc, ◌+◌, List, [], ◌∷◌, ◌++◌, map, sym, ap, ◌∙◌, arith, append_assoc}
use Rattle.std.specs.List.{flat_map, range_with_len}
use Rattle.std.proofs.lemmas.List.{append-nil, map-append}
use Rattle.std.proofs.lemmas.Grind.{flat_map-append}
use Rattle.ca_script_order.specs.Visits.{numbers_below}

range_more : (a n : ℕ) → range_with_len a (suc n) ≡ range_with_len a n ++ (a + n) ∷ []
range_more a zero = ap (λ (k : ℕ). k ∷ []) (omega arith)
range_more a (suc n) = ap (λ (xs : List ℕ). a ∷ xs) (range_more (a + 1) n ∙ ap (λ (k : ℕ). range_with_len (a + 1) n ++ k ∷ []) (omega arith))

-- one number more
pub numbers_more : (n : ℕ) → numbers_below (n + 1) ≡ numbers_below n ++ n ∷ []
numbers_more n = ap (λ (k : ℕ). range_with_len 0 k) {y = suc n} (omega arith) ∙ range_more 0 n ∙ ap (λ (k : ℕ). numbers_below n ++ k ∷ []) {y = n} (omega arith)

-- what is made of one number more
pub map_more : {Y : Type 0} (f : ℕ → Y) (n : ℕ) → map f (numbers_below (n + 1)) ≡ map f (numbers_below n) ++ f n ∷ []
map_more f n = ap (map f) (numbers_more n) ∙ map-append f (numbers_below n) (n ∷ [])

pub flat_more : {Y : Type 0} (f : ℕ → List Y) (n : ℕ) → flat_map f (numbers_below (n + 1)) ≡ flat_map f (numbers_below n) ++ f n
flat_more f n = ap (flat_map f) (numbers_more n) ∙ flat_map-append f (numbers_below n) (n ∷ []) ∙ ap (λ ys. flat_map f (numbers_below n) ++ ys) (append-nil (f n))

-- more behind what was there before
pub added : {Y : Type 0} (before done items more new all : List Y) → new ≡ items ++ more → items ≡ before ++ done → all ≡ done ++ more → new ≡ before ++ all
added before done items more new all is so_far all_is =
    is ∙ ap (λ l. l ++ more) so_far ∙ append_assoc before done more ∙ ap (λ l. before ++ l) (sym all_is)
