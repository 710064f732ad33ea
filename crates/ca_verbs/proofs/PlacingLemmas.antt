-- Entries put to the places of their stamps. For proofs only.
use Rattle.std.proofs.Common.{◌≡◌, ◌∙◌, refl, sym, ap, subst, ℕ, zero, suc, ◌+◌, ◌<◌, ◌==◌, ◌⊎◌, inl, inr, ⊎_elim, arith, Bool, true, false, List, [], ◌∷◌, ◌++◌, length, Option, Some, is_some, set, slice_get, length-set, true≢false}
use Rattle.std.proofs.lemmas.Bool.{eq-eqb, eqb-true}
use Rattle.std.proofs.lemmas.List.{map-append}
use Rattle.std.specs.List.{AllByRecursion}
use Rattle.std.specs.Option.{option_map_or}
use Rattle.ca_model.specs.declared.entry.Entry.{Entry}
use Rattle.ca_parts.proofs.Lists.{has_left, has_right, times_append}
use Rattle.ca_parts.specs.Lists.{Has, bit, times}
use Rattle.ca_verbs.specs.Closing.{IsFilled, stamps_of}

-- what is filled is right, and each stamp is filled or still to come
pub record IsPlacing (all : List Entry) (first : List (Option Entry)) (entries : List Entry) (slots : List (Option Entry)) : Type 0 where
  pub count : length slots ≡ length first
  pub left : (e : Entry) → Has e entries → Has e all
  pub right : (m : ℕ) (e : Entry) → slice_get slots m ≡ Some (Some e) → (e.stamp ≡ m) × Has e all
  pub filled : (m : ℕ) → 0 < times m (stamps_of all) → IsFilled slots m ⊎ (0 < times m (stamps_of entries))

set-there : {A : Type 0} (xs : List A) (i : ℕ) (v : A) → i < length xs → slice_get (set xs i v) i ≡ Some v
set-there [] i v within = absurd (omega (arith, within))
set-there (x ∷ xs) zero v within = refl
set-there (x ∷ xs) (suc i) v within = set-there xs i v (omega (arith, within))

set-other : {A : Type 0} (xs : List A) (i j : ℕ) (v : A) → (j ≡ i → ⊥) → slice_get (set xs i v) j ≡ slice_get xs j
set-other [] i j v apart = refl
set-other (x ∷ xs) zero zero v apart = absurd (apart refl)
set-other (x ∷ xs) zero (suc j) v apart = refl
set-other (x ∷ xs) (suc i) zero v apart = refl
set-other (x ∷ xs) (suc i) (suc j) v apart = set-other xs i j v (λ e. apart (ap suc e))

some-same : {A : Type 0} (a b : A) → Some a ≡ Some b → a ≡ b
some-same a b is = ap (λ o. option_map_or (λ x. x) o a) is

pub placing-first : (all : List Entry) (slots : List (Option Entry)) → ((m : ℕ) (e : Entry) → slice_get slots m ≡ Some (Some e) → ⊥) → IsPlacing all slots all slots
placing-first all slots none = record {
  count = refl;
  left = λ e has. has;
  right = λ m e there. absurd (none m e there);
  filled = λ m some. inr some;
}

module _ (all : List Entry) (first : List (Option Entry)) (entries rest : List Entry) (slots : List (Option Entry)) (entry : Entry) (is : IsPlacing all first entries slots) (popped : entries ≡ rest ++ entry ∷ []) where
  pub last-left : Has entry all
  last-left = is.left entry (subst (λ es. Has entry es) (sym popped) (has_right entry rest (entry ∷ []) (inl refl)))

  placed-right : entry.stamp < length slots → (m : ℕ) (e : Entry) → slice_get (set slots entry.stamp (Some entry)) m ≡ Some (Some e) → (e.stamp ≡ m) × Has e all
  placed-right within m e there = by (m == entry.stamp) refl
    where
      by : (b : Bool) → (m == entry.stamp) ≡ b → (e.stamp ≡ m) × Has e all
      by true same =
          let at : m ≡ entry.stamp = eqb-true m entry.stamp same in
          let one : entry ≡ e = some-same entry e (some-same (Some entry) (Some e) (sym (set-there slots entry.stamp (Some entry) within) ∙ ap (slice_get (set slots entry.stamp (Some entry))) (sym at) ∙ there)) in
          (ap (λ (x : Entry). x.stamp) (sym one) ∙ sym at, subst (λ x. Has x all) one last-left)
      by false other = is.right m e (sym (set-other slots entry.stamp m (Some entry) (λ e. true≢false (sym (eq-eqb m entry.stamp e) ∙ other))) ∙ there)

  placed-filled : entry.stamp < length slots → (m : ℕ) → 0 < times m (stamps_of all) → IsFilled (set slots entry.stamp (Some entry)) m ⊎ (0 < times m (stamps_of rest))
  placed-filled within m some = by (m == entry.stamp) refl
    where
      sum : times m (stamps_of entries) ≡ times m (stamps_of rest) + (bit (m == entry.stamp) + 0)
      sum = ap (λ es. times m (stamps_of es)) popped ∙ ap (times m) (map-append (λ (x : Entry). x.stamp) rest (entry ∷ [])) ∙ times_append m (stamps_of rest) (entry.stamp ∷ [])

      by : (b : Bool) → (m == entry.stamp) ≡ b → IsFilled (set slots entry.stamp (Some entry)) m ⊎ (0 < times m (stamps_of rest))
      by true same = inl (record { entry = entry; there = ap (slice_get (set slots entry.stamp (Some entry))) (eqb-true m entry.stamp same) ∙ set-there slots entry.stamp (Some entry) within })
      by false other = ⊎_elim
          (λ (f : IsFilled slots m). inl (record { entry = f.entry; there = set-other slots entry.stamp m (Some entry) (λ e. true≢false (sym (eq-eqb m entry.stamp e) ∙ other)) ∙ f.there }))
          (λ (more : 0 < times m (stamps_of entries)). inr (omega (arith, more, sum, ap bit other)))
          (is.filled m some)

  pub placing-on : (new : List (Option Entry)) → entry.stamp < length slots → new ≡ set slots entry.stamp (Some entry) → IsPlacing all first rest new
  placing-on new within put = subst (IsPlacing all first rest) (sym put) (record {
    count = length-set slots entry.stamp (Some entry) ∙ is.count;
    left = λ e has. is.left e (subst (λ es. Has e es) (sym popped) (has_left e rest (entry ∷ []) has));
    right = placed-right within;
    filled = placed-filled within;
  })

-- the stamps of a list that is used up are all filled
pub placing-last : (all : List Entry) (first slots : List (Option Entry)) (entries : List Entry) → IsPlacing all first entries slots → entries ≡ [] → (m : ℕ) → 0 < times m (stamps_of all) → IsFilled slots m
placing-last all first slots entries is none m some = ⊎_elim (λ (f : IsFilled slots m). f)
    (λ (more : 0 < times m (stamps_of entries)). absurd (omega (arith, more, ap (λ es. times m (stamps_of es)) none))) (is.filled m some)

-- the last of places that are all filled
pub last-filled : (slots rest : List (Option Entry)) (o : Option Entry) → AllByRecursion (λ (x : Option Entry). is_some x ≡ true) (rest ++ o ∷ slots) → is_some o ≡ true
last-filled slots [] o all = all.0
last-filled slots (x ∷ xs) o all = last-filled slots xs o all.1
