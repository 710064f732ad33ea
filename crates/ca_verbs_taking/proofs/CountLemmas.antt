-- How many of the parts that are needed are missing. For proofs only.
use Rattle.std.proofs.Common.{◌≡◌, ◌∙◌, refl, sym, ap, suc, ◌+◌, ◌≤◌, ◌||◌, inl, inr, arith, Bool, true, false, List, [], ◌∷◌, ◌++◌, length, Option, None, Some, if◌then◌else◌, true≢false}
use Rattle.ca_verbs_machine.proofs.of_ca_law_parts.Parts.NeedsLemmas.{IsMissing, part-refl, some-missing}
use Rattle.ca_model.specs.declared.part_name.PartName.{PartName}
use Rattle.ca_model.specs.machine.Parts.{IsAmong, Needs, is_held, listed, next_part, part_eq}
use Rattle.ca_model.specs.machine.World.{World}
use Rattle.ca_verbs_taking.specs.Hands.{AreApart}
use Rattle.ca_verbs_taking.proofs.PartLemmas.{part-path}
use Rattle.ca_verbs_taking.specs.Amid.{missing}

-- with one name more
abbrev pub with_name : PartName → (PartName → Bool) → PartName → Bool
with_name p held q = if part_eq p q then true else held q

pub all-missing : (held : PartName → Bool) (xs : List PartName) → missing held xs ≤ length xs
all-missing held [] = omega arith
all-missing held (x ∷ xs) = by (held x) (all-missing held xs)
  where
    by : (b : Bool) → missing held xs ≤ length xs → (if b then 0 else 1) + missing held xs ≤ suc (length xs)
    by true rest = omega (arith, rest)
    by false rest = omega (arith, rest)

fewer : (held : PartName → Bool) (p : PartName) (xs : List PartName) → missing (with_name p held) xs ≤ missing held xs
fewer held p [] = omega arith
fewer held p (x ∷ xs) = by (part_eq p x) (held x) (fewer held p xs)
  where
    by : (b z : Bool) → missing (with_name p held) xs ≤ missing held xs
        → (if (if b then true else z) then 0 else 1) + missing (with_name p held) xs ≤ (if z then 0 else 1) + missing held xs
    by true true rest = omega (arith, rest)
    by true false rest = omega (arith, rest)
    by false z rest = omega (arith, rest)

-- one that is taken is one fewer
pub one-fewer : (held : PartName → Bool) (p : PartName) (xs : List PartName) → IsAmong xs p → held p ≡ false → suc (missing (with_name p held) xs) ≤ missing held xs
one-fewer held p [] among free = absurd among
one-fewer held p (x ∷ xs) among free = at among (λ later. one-fewer held p xs later free)
  where
    first : (b z : Bool) → b ≡ true → z ≡ false → suc ((if (if b then true else z) then 0 else 1) + missing (with_name p held) xs) ≤ (if z then 0 else 1) + missing held xs
    first true false same taken = omega (arith, fewer held p xs)
    first true true same taken = absurd (true≢false taken)
    first false z same taken = absurd (true≢false (sym same))

    rest : (b z : Bool) → suc (missing (with_name p held) xs) ≤ missing held xs
        → suc ((if (if b then true else z) then 0 else 1) + missing (with_name p held) xs) ≤ (if z then 0 else 1) + missing held xs
    rest true true later = omega (arith, later)
    rest true false later = omega (arith, later)
    rest false z later = omega (arith, later)

    at : IsAmong (x ∷ xs) p → (IsAmong xs p → suc (missing (with_name p held) xs) ≤ missing held xs) → suc (missing (with_name p held) (x ∷ xs)) ≤ missing held (x ∷ xs)
    at (inl is) later = first (part_eq p x) (held x) (ap (part_eq p) (sym is) ∙ part-refl p) (ap held (sym is) ∙ free)
    at (inr behind) later = rest (part_eq p x) (held x) (later behind)

-- where none is missing, none is next
pub none-next : (held : PartName → Bool) (w : World) (needs : Needs) → missing held (listed w needs) ≤ 0 → next_part held w needs ≡ None
none-next held w needs few = by (next_part held w needs) refl
  where
    by : (o : Option PartName) → next_part held w needs ≡ o → o ≡ None
    by None e = refl
    by (Some p) e = let one : IsMissing held (listed w needs) p = some-missing held w needs p e
        in absurd (omega (arith, few, one-fewer held p (listed w needs) one.among one.free))

-- one name more among those that are held
pub held-more : (names : List PartName) (name p : PartName) → is_held (names ++ name ∷ []) p ≡ (if part_eq name p then true else is_held names p)
held-more [] name p = by (part_eq name p)
  where
    by : (b : Bool) → (b || false) ≡ (if b then true else false)
    by true = refl
    by false = refl
held-more (x ∷ names) name p = by (part_eq x p) (part_eq name p) (held-more names name p)
  where
    by : (a b : Bool) → is_held (names ++ name ∷ []) p ≡ (if b then true else is_held names p) → (a || is_held (names ++ name ∷ []) p) ≡ (if b then true else a || is_held names p)
    by true true rest = refl
    by true false rest = refl
    by false true rest = rest
    by false false rest = rest

-- names that are not the same, in either order
pub apart-turned : (a b : PartName) → part_eq a b ≡ false → part_eq b a ≡ false
apart-turned a b other = by (part_eq b a) refl
  where
    by : (z : Bool) → part_eq b a ≡ z → z ≡ false
    by false e = refl
    by true e = absurd (true≢false (sym (part-refl b) ∙ ap (λ x. part_eq x b) (part-path b a e) ∙ other))

-- one name more, which stands not among the others
pub apart-more : (names : List PartName) (name : PartName) → AreApart names → is_held names name ≡ false → AreApart (names ++ name ∷ [])
apart-more [] name apart free = (refl, record {})
apart-more (x ∷ names) name apart free = (held-more names name x ∙ by (part_eq name x) refl, apart-more names name apart.1 (behind (part_eq x name) free))
  where
    first : (b : Bool) → (b || is_held names name) ≡ false → b ≡ false
    first true e = absurd (true≢false e)
    first false e = refl

    behind : (b : Bool) → (b || is_held names name) ≡ false → is_held names name ≡ false
    behind true e = absurd (true≢false e)
    behind false e = e

    by : (b : Bool) → part_eq name x ≡ b → (if b then true else is_held names x) ≡ false
    by true e = absurd (true≢false (sym e ∙ apart-turned x name (first (part_eq x name) free)))
    by false e = apart.0
