-- One adapter among several.
use Rattle.std.proofs.Common.{◌≡◌, ℕ, zero, suc, ◌+◌, ◌-◌, ◌<◌, ◌≤◌, false, ltb, List, [], ◌∷◌, ◌++◌, length, length-append, get_or, set, map, replicate, refl, sym, ap, ◌∙◌, arith}
use Rattle.ca_base.specs.Configuration.{Adapter, adapter_of}
use Rattle.ca_base.specs.declared.config.AdapterConfig.{AdapterConfig}
use Rattle.ca_base.specs.declared.limits.TheConstants.{MAX_BUFFERS}
use Rattle.ca_script.specs.Setup.{with_adapter, has_buffer_left, plain_adapter}

pub with_at : (f : Adapter → Adapter) (k : ℕ) (xs : List AdapterConfig) (y d : AdapterConfig) → k < length xs → adapter_of y ≡ f (adapter_of (get_or xs k d)) → map adapter_of (set xs k y) ≡ with_adapter k f (map adapter_of xs)
with_at f k [] y d h e = absurd (omega (arith, h))
with_at f zero (x ∷ xs) y d h e = ap (λ (a : Adapter). a ∷ map adapter_of xs) e
with_at f (suc k) (x ∷ xs) y d h e = ap (λ (rest : List Adapter). adapter_of x ∷ rest) (with_at f k xs y d (omega (arith, h)) e)

pub with_none : (f : Adapter → Adapter) (k : ℕ) (xs : List AdapterConfig) → length xs ≤ k → map adapter_of xs ≡ with_adapter k f (map adapter_of xs)
with_none f k [] h = refl
with_none f zero (x ∷ xs) h = absurd (omega (arith, h))
with_none f (suc k) (x ∷ xs) h = ap (λ (rest : List Adapter). adapter_of x ∷ rest) (with_none f k xs (omega (arith, h)))

pub left_at : (k : ℕ) (xs : List AdapterConfig) (d : AdapterConfig) → k < length xs → ltb (length (get_or xs k d).buffers.items) MAX_BUFFERS ≡ has_buffer_left k (map adapter_of xs)
left_at k [] d h = absurd (omega (arith, h))
left_at zero (x ∷ xs) d h = refl
left_at (suc k) (x ∷ xs) d h = left_at k xs d (omega (arith, h))

pub left_none : (k : ℕ) (xs : List AdapterConfig) → length xs ≤ k → false ≡ has_buffer_left k (map adapter_of xs)
left_none k [] h = refl
left_none zero (x ∷ xs) h = absurd (omega (arith, h))
left_none (suc k) (x ∷ xs) h = left_none k xs (omega (arith, h))

pub next_plain : (i n : ℕ) → i < n → replicate (n - i) plain_adapter ≡ plain_adapter ∷ replicate (n - (i + 1)) plain_adapter
next_plain i n h =
    let one : n - i ≡ suc (n - (i + 1)) = omega arith in
    rw one refl

pub over_plain : (i n : ℕ) → n ≤ i → replicate (n - i) plain_adapter ≡ []
over_plain i n h =
    let none : n - i ≡ 0 = omega arith in
    rw none refl

move : (items : List AdapterConfig) (x : AdapterConfig) (rest : List Adapter) → map adapter_of (items ++ x ∷ []) ++ rest ≡ map adapter_of items ++ (adapter_of x ∷ rest)
move [] x rest = refl
move (y ∷ ys) x rest = ap (λ (r : List Adapter). adapter_of y ∷ r) (move ys x rest)

-- one adapter more
pub plain_more : (items new : List AdapterConfig) (x : AdapterConfig) (i n : ℕ) → new ≡ items ++ x ∷ [] → adapter_of x ≡ plain_adapter → i < n → map adapter_of items ++ replicate (n - i) plain_adapter ≡ replicate n plain_adapter → map adapter_of new ++ replicate (n - (i + 1)) plain_adapter ≡ replicate n plain_adapter
plain_more items new x i n e plain h so_far =
    rw e (move items x (replicate (n - (i + 1)) plain_adapter)
    ∙ ap (λ (a : Adapter). map adapter_of items ++ (a ∷ replicate (n - (i + 1)) plain_adapter)) plain
    ∙ ap (λ (r : List Adapter). map adapter_of items ++ r) (sym (next_plain i n h))
    ∙ so_far)

pub length_more : (items new : List AdapterConfig) (x : AdapterConfig) (i : ℕ) → new ≡ items ++ x ∷ [] → length items ≡ i → length new ≡ i + 1
length_more items new x i e h = rw e (length-append items (x ∷ []) ∙ ap (λ (n : ℕ). n + 1) h)

pub ruleset changing = (with_at, with_none, left_at, left_none)

pub ruleset making = (next_plain, over_plain)
