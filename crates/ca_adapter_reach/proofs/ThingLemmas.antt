-- The thing of a name is the one that stands where its name comes first. For proofs only.
use Rattle.std.proofs.Common.{◌≡◌, ◌∙◌, refl, sym, ap, ◌+◌, if◌then◌else◌, ◌++◌, arith, ℕ, suc, nat_lt, not, Bool, true, false, List, [], ◌∷◌, None, Some, is_some, length, slice_index_or, slice_set, subst, true≢false}
use Rattle.std.proofs.lemmas.Bool.Decides.{nat_tests}
use Rattle.std.specs.Option.{option_map_or}
use mathlib.Core.Bool.{cond}
use Rattle.std.specs.List.{position, position_or_len, remove}
use Rattle.ca_adapter_reach.specs.declared.shelf.Named.{Named}
use Rattle.ca_adapter_reach.specs.Found.{IsFound, IsAbsent}
use Rattle.ca_adapter_reach.specs.Shelved.{AreDistinct, StandsOnce, has_thing, thing_under, with_thing, without_thing}

module _ {N T : Type 0} (same : N → N → Bool) (name : N) where
  abbrev place : List (Named N T) → ℕ
  place xs = position_or_len (λ x. same x.name name) xs

  behind : (x : Named N T) (xs : List (Named N T)) (i : ℕ) → same x.name name ≡ false → IsFound same name xs i → IsFound same name (x ∷ xs) (suc i)
  behind x xs i is rest = record {
    within = omega (arith, rest.within);
    thing = λ d. rw is (rest.thing d);
    changed = λ d v. rw (is, rest.changed d v) refl;
    gone = rw (is, rest.gone) refl;
  }

  at-first : (xs : List (Named N T)) → nat_lt (place xs) (length xs) ≡ true → IsFound same name xs (place xs)
  at-first [] e = grind (arith, nat_tests, e)
  at-first (x ∷ xs) e = by (at-first xs) (same x.name name) refl e
    where
      by : (nat_lt (place xs) (length xs) ≡ true → IsFound same name xs (place xs)) → (b : Bool) → same x.name name ≡ b
          → nat_lt (cond (not b) (1 + place xs) 0) (suc (length xs)) ≡ true → IsFound same name (x ∷ xs) (cond (not b) (1 + place xs) 0)
      by again true is e = record { within = omega arith; thing = λ d. rw is refl; changed = λ d v. rw is refl; gone = rw is refl }
      by again false is e = let one : 1 + place xs ≡ suc (place xs) = omega arith in rw one (behind x xs (place xs) is (again (grind (arith, nat_tests, e))))

  past : (x : Named N T) (xs : List (Named N T)) → same x.name name ≡ false → IsAbsent same name xs → IsAbsent same name (x ∷ xs)
  past x xs is rest = record { thing = rw is rest.thing; same_things = rw (is, rest.same_things) refl }

  none-first : (xs : List (Named N T)) → nat_lt (place xs) (length xs) ≡ false → IsAbsent same name xs
  none-first [] e = record { thing = refl; same_things = refl }
  none-first (x ∷ xs) e = by (none-first xs) (same x.name name) refl e
    where
      by : (nat_lt (place xs) (length xs) ≡ false → IsAbsent same name xs) → (b : Bool) → same x.name name ≡ b
          → nat_lt (cond (not b) (1 + place xs) 0) (suc (length xs)) ≡ false → IsAbsent same name (x ∷ xs)
      by again true is e = grind (arith, nat_tests, e)
      by again false is e = past x xs is (again (grind (arith, nat_tests, e)))

  pub found : (xs : List (Named N T)) (i : ℕ) → position (λ x. same x.name name) xs ≡ Some i → IsFound same name xs i
  found xs i e = by (nat_lt (place xs) (length xs)) refl e
    where
      by : (b : Bool) → nat_lt (place xs) (length xs) ≡ b → cond b (Some (place xs)) None ≡ Some i → IsFound same name xs i
      by true is e = let p : place xs ≡ i = ap (λ o. option_map_or (λ n. n) o 0) e in rw (← p) (at-first xs is)
      by false is e = absurd (true≢false (sym (ap is_some e)))

  pub absent : (xs : List (Named N T)) → position (λ x. same x.name name) xs ≡ None → IsAbsent same name xs
  absent xs e = by (nat_lt (place xs) (length xs)) refl e
    where
      by : (b : Bool) → nat_lt (place xs) (length xs) ≡ b → cond b (Some (place xs)) None ≡ None → IsAbsent same name xs
      by true is e = absurd (true≢false (ap is_some e))
      by false is e = none-first xs is

-- a name of one thing at most names none once it is taken
pub gone : {N T : Type 0} (same : N → N → Bool) (name : N) (xs : List (Named N T)) → StandsOnce same name xs → has_thing same name (without_thing same name xs) ≡ false
gone same name [] once = refl
gone same name (x ∷ xs) once = by (same x.name name) refl (gone same name xs once.1)
  where
    by : (b : Bool) → same x.name name ≡ b → has_thing same name (without_thing same name xs) ≡ false
        → has_thing same name (if b then xs else x ∷ without_thing same name xs) ≡ false
    by true is rest = once.0 is
    by false is rest = rw is rest

-- what is not there is not there when another thing is taken
none-without : {N T : Type 0} (same : N → N → Bool) (n m : N) (xs : List (Named N T)) → has_thing same m xs ≡ false → has_thing same m (without_thing same n xs) ≡ false
none-without same n m [] none = refl
none-without same n m (x ∷ xs) none = by (same x.name n) (same x.name m) refl none (none-without same n m xs)
  where
    by : (b z : Bool) → same x.name m ≡ z → is_some (if z then Some x.thing else thing_under same m xs) ≡ false
        → (has_thing same m xs ≡ false → has_thing same m (without_thing same n xs) ≡ false)
        → has_thing same m (if b then xs else x ∷ without_thing same n xs) ≡ false
    by b true is none again = absurd (true≢false none)
    by true false is none again = none
    by false false is none again = rw is (again none)

once-without : {N T : Type 0} (same : N → N → Bool) (n m : N) (xs : List (Named N T)) → StandsOnce same m xs → StandsOnce same m (without_thing same n xs)
once-without same n m [] once = record {}
once-without same n m (x ∷ xs) once = by (same x.name n) (once-without same n m xs once.1)
  where
    by : (b : Bool) → StandsOnce same m (without_thing same n xs) → StandsOnce same m (if b then xs else x ∷ without_thing same n xs)
    by true rest = once.1
    by false rest = (λ is. none-without same n m xs (once.0 is), rest)

-- without the thing of a name that stands at some place, names stay distinct, and this one is gone
pub taken_distinct : {N T : Type 0} (same : N → N → Bool) (n : N) (xs : List (Named N T)) (i : ℕ) → IsFound same n xs i → AreDistinct same xs → AreDistinct same (remove xs i)
taken_distinct same n xs i found names = subst (AreDistinct same) found.gone (record { once = λ m. once-without same n m xs (names.once m) })

pub taken_gone : {N T : Type 0} (same : N → N → Bool) (n : N) (xs : List (Named N T)) (i : ℕ) → IsFound same n xs i → AreDistinct same xs → has_thing same n (remove xs i) ≡ false
taken_gone same n xs i found names = ap (has_thing same n) (sym found.gone) ∙ gone same n xs (names.once n)

-- nothing is there under a name that was not there, after another thing was put where one stands
none-with : {N T : Type 0} (same : N → N → Bool) (n m : N) (v : T) (xs : List (Named N T)) → has_thing same m xs ≡ false → has_thing same m (with_thing same n v xs) ≡ false
none-with same n m v [] none = refl
none-with same n m v (x ∷ xs) none = by (same x.name n) (same x.name m) refl none (none-with same n m v xs)
  where
    by : (b z : Bool) → same x.name m ≡ z → is_some (if z then Some x.thing else thing_under same m xs) ≡ false
        → (has_thing same m xs ≡ false → has_thing same m (with_thing same n v xs) ≡ false)
        → has_thing same m (if b then record x { thing = v } ∷ xs else x ∷ with_thing same n v xs) ≡ false
    by b true is none again = absurd (true≢false none)
    by true false is none again = rw is none
    by false false is none again = rw is (again none)

once-with : {N T : Type 0} (same : N → N → Bool) (n m : N) (v : T) (xs : List (Named N T)) → StandsOnce same m xs → StandsOnce same m (with_thing same n v xs)
once-with same n m v [] once = record {}
once-with same n m v (x ∷ xs) once = by (same x.name n) (once-with same n m v xs once.1)
  where
    by : (b : Bool) → StandsOnce same m (with_thing same n v xs) → StandsOnce same m (if b then record x { thing = v } ∷ xs else x ∷ with_thing same n v xs)
    by true rest = once
    by false rest = (λ is. none-with same n m v xs (once.0 is), rest)

pub set_distinct : {N T : Type 0} (same : N → N → Bool) (n : N) (xs : List (Named N T)) (i : ℕ) (x : Named N T) (v : T) → IsFound same n xs i → x ≡ slice_index_or xs i x
    → AreDistinct same xs → AreDistinct same (slice_set xs i (record x { thing = v }))
set_distinct same n xs i x v found is names = subst (AreDistinct same) (found.changed x v ∙ ap (λ y. slice_set xs i (record y { thing = v })) (sym is))
    (record { once = λ m. once-with same n m v xs (names.once m) })

module _ {N T : Type 0} (same : N → N → Bool) (path : (a b : N) → same a b ≡ true → a ≡ b) (name : N) (thing : T) where
  none-added : (m : N) (xs : List (Named N T)) → same name m ≡ false → has_thing same m xs ≡ false → has_thing same m (xs ++ record { name = name; thing = thing } ∷ []) ≡ false
  none-added m [] other none = rw other refl
  none-added m (x ∷ xs) other none = by (same x.name m) none (none-added m xs other)
    where
      by : (b : Bool) → is_some (if b then Some x.thing else thing_under same m xs) ≡ false
          → (has_thing same m xs ≡ false → has_thing same m (xs ++ record { name = name; thing = thing } ∷ []) ≡ false)
          → is_some (if b then Some x.thing else thing_under same m (xs ++ record { name = name; thing = thing } ∷ [])) ≡ false
      by true none again = none
      by false none again = again none

  once-added : (m : N) (xs : List (Named N T)) → has_thing same name xs ≡ false → StandsOnce same m xs → StandsOnce same m (xs ++ record { name = name; thing = thing } ∷ [])
  once-added m [] free once = (λ is. refl, record {})
  once-added m (x ∷ xs) free once = by (same x.name name) refl free (once-added m xs)
    where
      other : (b : Bool) → same name m ≡ b → same x.name name ≡ false → same x.name m ≡ true → same name m ≡ false
      other false e apart is = e
      other true e apart is = absurd (true≢false (sym is ∙ ap (same x.name) (sym (path name m e)) ∙ apart))

      by : (b : Bool) → same x.name name ≡ b → is_some (if b then Some x.thing else thing_under same name xs) ≡ false
          → (has_thing same name xs ≡ false → StandsOnce same m xs → StandsOnce same m (xs ++ record { name = name; thing = thing } ∷ []))
          → StandsOnce same m (x ∷ xs ++ record { name = name; thing = thing } ∷ [])
      by true is free again = absurd (true≢false free)
      by false apart free again = (λ is. none-added m xs (other (same name m) refl apart is) (once.0 is), again free once.1)

  pub distinct_added : (xs : List (Named N T)) (b : Bool) → has_thing same name xs ≡ false → AreDistinct same xs
      → AreDistinct same (if b then xs ++ record { name = name; thing = thing } ∷ [] else xs)
  distinct_added xs true free names = record { once = λ m. once-added m xs free (names.once m) }
  distinct_added xs false free names = names
