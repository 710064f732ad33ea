-- The contents of the buffers of one adapter. For proofs only.
use Rattle.std.proofs.Common.{◌≡◌, ◌∙◌, refl, sym, ap, subst, ℕ, zero, suc, ◌+◌, ◌≤◌, arith, List, [], ◌∷◌, length, map, take, drop, sum_by, Option, None, Some, slice_get, true≢false, is_some}
use Rattle.std.proofs.Math.Seq.{drop-append_seam, take-append_seam}
use Rattle.std.proofs.lemmas.List.{length-append}
use Rattle.std.proofs.lemmas.List.Sums.{sum_by-cons}
use Rattle.std.specs.List.{AllByRecursion}
use Rattle.std.specs.Option.{option_map, option_map_or}
use Rattle.ca_model.specs.machine.Sound.{AreLimited, IsLimitedAdapter}
use Rattle.ca_base.specs.Configuration.{Adapter, adapter_of, configuration_of}
use Rattle.ca_base.specs.declared.config.AdapterConfig.{AdapterConfig}
use Rattle.ca_base.specs.declared.config.Config.{Config}
use Rattle.ca_adapter_opening.specs.Opening.{FitContents, buffer_lengths, buffers_before}

pub length-map : {A B : Type 0} (f : A → B) (xs : List A) → length (map f xs) ≡ length xs
length-map f [] = refl
length-map f (x ∷ xs) = ap suc (length-map f xs)

map-take : {A B : Type 0} (f : A → B) (n : ℕ) (xs : List A) → map f (take n xs) ≡ take n (map f xs)
map-take f zero xs = refl
map-take f (suc n) [] = refl
map-take f (suc n) (x ∷ xs) = ap (λ ys. f x ∷ ys) (map-take f n xs)

map-drop : {A B : Type 0} (f : A → B) (n : ℕ) (xs : List A) → map f (drop n xs) ≡ drop n (map f xs)
map-drop f zero xs = refl
map-drop f (suc n) [] = refl
map-drop f (suc n) (x ∷ xs) = map-drop f n xs

drop-none : {A : Type 0} (k : ℕ) → drop {A = A} k [] ≡ []
drop-none zero = refl
drop-none (suc k) = refl

drop-drop : {A : Type 0} (n m : ℕ) (xs : List A) → drop (n + m) xs ≡ drop m (drop n xs)
drop-drop zero m xs = ap (λ k. drop k xs) (none m)
  where
    none : (k : ℕ) → 0 + k ≡ k
    none k = omega arith
drop-drop (suc n) m [] = ap (λ k. drop k []) (one n m) ∙ sym (drop-none m)
  where
    one : (n m : ℕ) → suc n + m ≡ suc (n + m)
    one n m = omega arith
drop-drop (suc n) m (x ∷ xs) = ap (λ k. drop k (x ∷ xs)) (one n m) ∙ drop-drop n m xs
  where
    one : (n m : ℕ) → suc n + m ≡ suc (n + m)
    one n m = omega arith

-- an adapter's part of the contents: as many as it has buffers, each of its length
pub record IsPartOf (before : ℕ) (a : Adapter) (contents : List (List ℕ)) : Type 0 where
  pub fit : map length (take (length a.buffers) (drop before contents)) ≡ a.buffers
  pub within : before + length a.buffers ≤ length contents

pub part-of : (number : ℕ) (adapters : List Adapter) (a : Adapter) (contents : List (List ℕ)) → map length contents ≡ buffer_lengths adapters → slice_get adapters number ≡ Some a
    → IsPartOf (sum_by (λ (x : Adapter). length x.buffers) (take number adapters)) a contents
part-of number [] a contents fit at = absurd (true≢false (sym (ap is_some at)))
part-of zero (x ∷ more) a contents fit at = subst (λ y. IsPartOf 0 y contents) (ap (λ o. here o) at) (record {
  fit = map-take length (length x.buffers) contents ∙ ap (take (length x.buffers)) fit ∙ take-append_seam x.buffers (buffer_lengths more);
  within = omega (arith, length-map length contents, ap length fit, length-append x.buffers (buffer_lengths more));
})
  where
    here : Option Adapter → Adapter
    here None = x
    here (Some y) = y
part-of (suc number) (x ∷ more) a contents fit at = by (part-of number more a (drop (length x.buffers) contents) fits at)
  where
    sum : sum_by (λ (y : Adapter). length y.buffers) (x ∷ take number more) ≡ length x.buffers + sum_by (λ (y : Adapter). length y.buffers) (take number more)
    sum = sum_by-cons (λ (y : Adapter). length y.buffers) x (take number more)

    fits : map length (drop (length x.buffers) contents) ≡ buffer_lengths more
    fits = map-drop length (length x.buffers) contents ∙ ap (drop (length x.buffers)) fit ∙ drop-append_seam x.buffers (buffer_lengths more)

    dropped : length (drop (length x.buffers) contents) ≡ length (buffer_lengths more)
    dropped = sym (length-map length (drop (length x.buffers) contents)) ∙ ap length fits

    by : IsPartOf (sum_by (λ (y : Adapter). length y.buffers) (take number more)) a (drop (length x.buffers) contents)
        → IsPartOf (sum_by (λ (y : Adapter). length y.buffers) (x ∷ take number more)) a contents
    by rest = record {
      fit = ap (λ k. map length (take (length a.buffers) (drop k contents))) sum
          ∙ ap (λ xs. map length (take (length a.buffers) xs)) (drop-drop (length x.buffers) (sum_by (λ (y : Adapter). length y.buffers) (take number more)) contents) ∙ rest.fit;
      within = omega (arith, sum, rest.within, dropped, length-map length contents, ap length fit, length-append x.buffers (buffer_lengths more));
    }

-- what stands among the first is there
pub get-take : {A : Type 0} (n i : ℕ) (xs : List A) (x : A) → slice_get (take n xs) i ≡ Some x → slice_get xs i ≡ Some x
get-take zero i xs x at = absurd (true≢false (sym (ap is_some at)))
get-take (suc n) i [] x at = at
get-take (suc n) zero (y ∷ ys) x at = at
get-take (suc n) (suc i) (y ∷ ys) x at = get-take n i ys x at

pub get-map : {A B : Type 0} (f : A → B) (i : ℕ) (xs : List A) (x : A) → slice_get xs i ≡ Some x → slice_get (map f xs) i ≡ Some (f x)
get-map f i [] x at = absurd (true≢false (sym (ap is_some at)))
get-map f zero (y ∷ ys) x at = ap (option_map f) at
get-map f (suc i) (y ∷ ys) x at = get-map f i ys x at

-- the contents of a configured adapter
pub there : (o : Config) (all : List (List ℕ)) (number : ℕ) (a : AdapterConfig) → slice_get o.adapters.items number ≡ Some a → FitContents (configuration_of o) all
    → IsPartOf (buffers_before (configuration_of o) number) (adapter_of a) all
there o all number a at fit = part-of number (configuration_of o).adapters (adapter_of a) all fit (get-map adapter_of number o.adapters.items a at)

-- it is within the limits
pub limited_at : (P : Adapter → Type 0) (number : ℕ) (adapters : List Adapter) (a : Adapter) → AllByRecursion P adapters → slice_get adapters number ≡ Some a → P a
limited_at P number [] a all at = absurd (true≢false (sym (ap is_some at)))
limited_at P zero (x ∷ more) a all at = subst P (ap (λ o. option_map_or (λ y. y) o x) at) all.0
limited_at P (suc number) (x ∷ more) a all at = limited_at P number more a all.1 at

pub limited_there : (o : Config) (number : ℕ) (a : AdapterConfig) → slice_get o.adapters.items number ≡ Some a → AreLimited (configuration_of o) → IsLimitedAdapter (adapter_of a)
limited_there o number a at limited = limited_at IsLimitedAdapter number (configuration_of o).adapters (adapter_of a) limited.adapters (get-map adapter_of number o.adapters.items a at)
