-- Which part is needed next: what decides it, and that naming parts comes to an end.
use Rattle.std.proofs.Common.{◌≡◌, ◌∙◌, ℕ, zero, suc, ◌+◌, ◌≤◌, ◌||◌, ◌&&◌, arith, Bool, true, false, List, [], ◌∷◌, ◌++◌, length, Option, None, Some, ap, ap₂, subst, if◌then◌else◌, inl, inr, sym, refl, true≢false}
use Rattle.std.proofs.lemmas.Bool.{eq-eqb}
use Rattle.std.proofs.lemmas.Option.{none-some}
use Rattle.std.specs.List.{AllByRecursion}
use Rattle.ca_law_world.proofs.Sound.SettledLemmas.{domain-refl, queue-refl, slot-refl}
use Rattle.ca_model.specs.declared.part_name.PartName.{PartName}
use Rattle.ca_model.specs.declared.part_name.PartName.TheVariants as names
use Rattle.ca_model.specs.machine.Parts.{By, Enough, IsAmong, Needs, Part, ShowsHeld, also, gathered, is_held, listed, next_part, part_eq, part_of}
use Rattle.ca_model.specs.machine.World.{Name, Thing, World, get}

pub next-same : (held : PartName → Bool) (v w : World) (needs : Needs) → ShowsHeld held v w → next_part held v needs ≡ next_part held w needs
next-same held v w Enough shows = refl
next-same held v w (Part p more) shows = ap (λ o. if held p then o else Some p) (next-same held v w more shows)
next-same held v w (By n decides) shows = by (held (part_of n)) refl (next-same held v w (decides (get w n)) shows)
  where
    by : (b : Bool) → held (part_of n) ≡ b → next_part held v (decides (get w n)) ≡ next_part held w (decides (get w n))
        → (if b then next_part held v (decides (get v n)) else Some (part_of n)) ≡ (if b then next_part held w (decides (get w n)) else Some (part_of n))
    by false e same = refl
    by true e same = ap (λ x. next_part held v (decides x)) (shows n e) ∙ same

-- all of these parts are held
abbrev pub AreHeld : (PartName → Bool) → List PartName → Type 0
AreHeld held ps = AllByRecursion (λ p. held p ≡ true) ps

pub none-held : (held : PartName → Bool) (w : World) (needs : Needs) → next_part held w needs ≡ None → AreHeld held (listed w needs)
none-held held w Enough none = record {}
none-held held w (Part p more) none = by (held p) refl (none-held held w more) none
  where
    by : (b : Bool) → held p ≡ b → (next_part held w more ≡ None → AreHeld held (listed w more)) → (if b then next_part held w more else Some p) ≡ None
        → AreHeld held (p ∷ listed w more)
    by true e rest none = (e, rest none)
    by false e rest none = absurd (none-some p (sym none))
none-held held w (By n decides) none = by (held (part_of n)) refl (none-held held w (decides (get w n))) none
  where
    by : (b : Bool) → held (part_of n) ≡ b → (next_part held w (decides (get w n)) ≡ None → AreHeld held (listed w (decides (get w n))))
        → (if b then next_part held w (decides (get w n)) else Some (part_of n)) ≡ None → AreHeld held (part_of n ∷ listed w (decides (get w n)))
    by true e rest none = (e, rest none)
    by false e rest none = absurd (none-some (part_of n) (sym none))

-- the part that is next is one of those that are needed, and is not held
pub record IsMissing (held : PartName → Bool) (ps : List PartName) (p : PartName) : Type 0 where
  pub among : IsAmong ps p
  pub free : held p ≡ false

behind-missing : (held : PartName → Bool) (x p : PartName) (ps : List PartName) → IsMissing held ps p → IsMissing held (x ∷ ps) p
behind-missing held x p ps one = record { among = inr one.among; free = one.free }

first-missing : (held : PartName → Bool) (x p : PartName) (ps : List PartName) → held x ≡ false → Some x ≡ Some p → IsMissing held (x ∷ ps) p
first-missing held x p ps free is = record { among = inl (sym same); free = subst (λ y. held y ≡ false) same free }
  where
    named : Option PartName → PartName
    named None = x
    named (Some y) = y

    same : x ≡ p
    same = ap named is

pub some-missing : (held : PartName → Bool) (w : World) (needs : Needs) (p : PartName) → next_part held w needs ≡ Some p → IsMissing held (listed w needs) p
some-missing held w Enough p is = absurd (none-some p is)
some-missing held w (Part x more) p is = by (held x) refl (some-missing held w more p) is
  where
    by : (b : Bool) → held x ≡ b → (next_part held w more ≡ Some p → IsMissing held (listed w more) p) → (if b then next_part held w more else Some x) ≡ Some p
        → IsMissing held (x ∷ listed w more) p
    by true e rest is = behind-missing held x p (listed w more) (rest is)
    by false e rest is = first-missing held x p (listed w more) e is
some-missing held w (By n decides) p is = by (held (part_of n)) refl (some-missing held w (decides (get w n)) p) is
  where
    by : (b : Bool) → held (part_of n) ≡ b → (next_part held w (decides (get w n)) ≡ Some p → IsMissing held (listed w (decides (get w n))) p)
        → (if b then next_part held w (decides (get w n)) else Some (part_of n)) ≡ Some p → IsMissing held (part_of n ∷ listed w (decides (get w n))) p
    by true e rest is = behind-missing held (part_of n) p (listed w (decides (get w n))) (rest is)
    by false e rest is = first-missing held (part_of n) p (listed w (decides (get w n))) e is

pub part-refl : (p : PartName) → part_eq p p ≡ true
part-refl (names.Control d) = domain-refl d
part-refl (names.Region s) = slot-refl s
part-refl (names.Window s) = slot-refl s
part-refl (names.Cq s) = slot-refl s
part-refl (names.Srq s) = slot-refl s
part-refl (names.Queue q) = queue-refl q
part-refl (names.Mailbox q) = queue-refl q
part-refl (names.Buffer a i) = ap₂ (λ x y. x && y) (eq-eqb a a refl) (eq-eqb i i refl)

-- how many of these parts are not held
abbrev missing : (PartName → Bool) → List PartName → ℕ
missing held [] = 0
missing held (x ∷ xs) = (if held x then 0 else 1) + missing held xs

all-missing : (held : PartName → Bool) (xs : List PartName) → missing held xs ≤ length xs
all-missing held [] = omega arith
all-missing held (x ∷ xs) = by (held x) (all-missing held xs)
  where
    by : (b : Bool) → missing held xs ≤ length xs → (if b then 0 else 1) + missing held xs ≤ suc (length xs)
    by true rest = omega (arith, rest)
    by false rest = omega (arith, rest)

-- one more in hand leaves no more missing, and fewer where it was
fewer : (held : List PartName) (p : PartName) (xs : List PartName) → missing (is_held (p ∷ held)) xs ≤ missing (is_held held) xs
fewer held p [] = omega arith
fewer held p (x ∷ xs) = by (part_eq p x) (is_held held x) (fewer held p xs)
  where
    by : (b z : Bool) → missing (is_held (p ∷ held)) xs ≤ missing (is_held held) xs
        → (if b || z then 0 else 1) + missing (is_held (p ∷ held)) xs ≤ (if z then 0 else 1) + missing (is_held held) xs
    by true true rest = omega (arith, rest)
    by true false rest = omega (arith, rest)
    by false z rest = omega (arith, rest)

-- one part fewer is missing
abbrev IsOneFewer : List PartName → PartName → List PartName → Type 0
IsOneFewer held p xs = suc (missing (is_held (p ∷ held)) xs) ≤ missing (is_held held) xs

one-fewer : (held : List PartName) (p : PartName) (xs : List PartName) → IsMissing (is_held held) xs p → IsOneFewer held p xs
one-fewer held p [] one = absurd one.among
one-fewer held p (x ∷ xs) one = at one.among (λ later. one-fewer held p xs (record { among = later; free = one.free }))
  where
    first : (b z : Bool) → b ≡ true → z ≡ false → suc ((if b || z then 0 else 1) + missing (is_held (p ∷ held)) xs) ≤ (if z then 0 else 1) + missing (is_held held) xs
    first true false same taken = omega (arith, fewer held p xs)
    first true true same taken = absurd (true≢false taken)
    first false z same taken = absurd (true≢false (sym same))

    rest : (b z : Bool) → IsOneFewer held p xs → suc ((if b || z then 0 else 1) + missing (is_held (p ∷ held)) xs) ≤ (if z then 0 else 1) + missing (is_held held) xs
    rest true true later = omega (arith, later)
    rest true false later = omega (arith, later)
    rest false z later = omega (arith, later)

    at : IsAmong (x ∷ xs) p → (IsAmong xs p → IsOneFewer held p xs) → IsOneFewer held p (x ∷ xs)
    at (inl is) later = first (part_eq p x) (is_held held x) (ap (part_eq p) (sym is) ∙ part-refl p) (ap (is_held held) (sym is) ∙ one.free)
    at (inr behind) later = rest (part_eq p x) (is_held held x) (later behind)

-- naming and taking what is next comes to an end with as many steps as parts are missing
gathered-all : (n : ℕ) (w : World) (needs : Needs) (held : List PartName) → missing (is_held held) (listed w needs) ≤ n
    → next_part (is_held (gathered n w needs held)) w needs ≡ None
gathered-all zero w needs held few = by (next_part (is_held held) w needs) refl
  where
    by : (o : Option PartName) → next_part (is_held held) w needs ≡ o → o ≡ None
    by None e = refl
    by (Some p) e = absurd (omega (arith, few, one-fewer held p (listed w needs) (some-missing (is_held held) w needs p e)))
gathered-all (suc n) w needs held few = by (next_part (is_held held) w needs) refl (λ p. gathered-all n w needs (p ∷ held))
  where
    hand : Option PartName → (List PartName → List PartName) → List PartName
    hand None rest = held
    hand (Some p) rest = rest (p ∷ held)

    by : (o : Option PartName) → next_part (is_held held) w needs ≡ o
        → ((p : PartName) → missing (is_held (p ∷ held)) (listed w needs) ≤ n → next_part (is_held (gathered n w needs (p ∷ held))) w needs ≡ None)
        → next_part (is_held (hand o (gathered n w needs))) w needs ≡ None
    by None e rest = e
    by (Some p) e rest = rest p (omega (arith, few, one-fewer held p (listed w needs) (some-missing (is_held held) w needs p e)))

pub gathers : (n : ℕ) (w : World) (needs : Needs) → length (listed w needs) ≤ n → next_part (is_held (gathered n w needs [])) w needs ≡ None
gathers n w needs few = gathered-all n w needs [] (omega (arith, few, all-missing (is_held []) (listed w needs)))

-- what two needs list, one behind the other
pub listed-also : (w : World) (a b : Needs) → listed w (also a b) ≡ listed w a ++ listed w b
listed-also w Enough b = refl
listed-also w (Part p more) b = ap (λ ps. p ∷ ps) (listed-also w more b)
listed-also w (By n decides) b = ap (λ ps. part_of n ∷ ps) (listed-also w (decides (get w n)) b)

-- where no part is missing of two needs, none is of either
pub none-first : (held : PartName → Bool) (w : World) (a b : Needs) → next_part held w (also a b) ≡ None → next_part held w a ≡ None
none-first held w Enough b none = refl
none-first held w (Part p more) b none = by (held p) none (none-first held w more b)
  where
    by : (z : Bool) → (if z then next_part held w (also more b) else Some p) ≡ None → (next_part held w (also more b) ≡ None → next_part held w more ≡ None)
        → (if z then next_part held w more else Some p) ≡ None
    by true none rest = rest none
    by false none rest = none
none-first held w (By n decides) b none = by (held (part_of n)) none (none-first held w (decides (get w n)) b)
  where
    by : (z : Bool) → (if z then next_part held w (also (decides (get w n)) b) else Some (part_of n)) ≡ None
        → (next_part held w (also (decides (get w n)) b) ≡ None → next_part held w (decides (get w n)) ≡ None)
        → (if z then next_part held w (decides (get w n)) else Some (part_of n)) ≡ None
    by true none rest = rest none
    by false none rest = none

-- where no part is missing, none is of what comes behind a part
pub none-behind : (held : PartName → Bool) (w : World) (p : PartName) (more : Needs) → next_part held w (Part p more) ≡ None → next_part held w more ≡ None
none-behind held w p more none = by (held p) none
  where
    by : (z : Bool) → (if z then next_part held w more else Some p) ≡ None → next_part held w more ≡ None
    by true none = none
    by false none = absurd (none-some p (sym none))

pub none-decided : (held : PartName → Bool) (w : World) (n : Name) (decides : Thing n → Needs) → next_part held w (By n decides) ≡ None → next_part held w (decides (get w n)) ≡ None
none-decided held w n decides none = by (held (part_of n)) none
  where
    by : (z : Bool) → (if z then next_part held w (decides (get w n)) else Some (part_of n)) ≡ None → next_part held w (decides (get w n)) ≡ None
    by true none = none
    by false none = absurd (none-some (part_of n) (sym none))
