-- Lists of posting places: those that ascend, those in which none stands twice, and the places of a side.
use Rattle.std.proofs.Common.{◌≡◌, ℕ, suc, ◌+◌, ◌≤◌, ◌<◌, ◌==◌, ◌&&◌, ◌||◌, not, Bool, true, false, List, [], ◌∷◌, ◌++◌, length, map, filter, refl, arith, sym, ◌∙◌, ap, ap₂, subst, true≢false, if◌then◌else◌}
use Rattle.std.proofs.lemmas.Bool.{eq-eqb, eqb-true, or_parts, or_right, or_left}
use Rattle.std.proofs.lemmas.List.{map-append}
use Rattle.std.proofs.lemmas.List.Elements.{filter-append}
use Rattle.std.specs.List.{AllByRecursion}
use Rattle.ca_base.specs.declared.completion.Completion.{Completion}
use Rattle.ca_keys.specs.declared.names.QueueId.{QueueId}
use Rattle.ca_keys.specs.Equal.{bool_eq, queue_eq}
use Rattle.ca_model.specs.machine.Places.{Ascend, places_of_side}
use Rattle.ca_law_parts.specs.Room.{AreDistinct, is_in}

pub ascend-bounds : (low high : ℕ) (xs : List ℕ) → Ascend low high xs → low ≤ high
ascend-bounds low high [] all = all
ascend-bounds low high (x ∷ xs) all = omega (arith, all.0, ascend-bounds (suc x) high xs all.1)

-- places that ascend are no more than stand between their bounds
pub ascend-few : (low high : ℕ) (xs : List ℕ) → Ascend low high xs → low + length xs ≤ high
ascend-few low high [] all = omega (arith, all)
ascend-few low high (x ∷ xs) all = omega (arith, all.0, ascend-few (suc x) high xs all.1)

pub ascend-append : (low mid high : ℕ) (xs ys : List ℕ) → Ascend low mid xs → Ascend mid high ys → Ascend low high (xs ++ ys)
ascend-append low mid high [] [] one other = omega (arith, one, other)
ascend-append low mid high [] (y ∷ ys) one other = (omega (arith, one, other.0), other.1)
ascend-append low mid high (x ∷ xs) ys one other = (one.0, ascend-append (suc x) mid high xs ys one.1 other)

-- the same with other bounds
pub ascend-lower : (low less high : ℕ) (xs : List ℕ) → less ≤ low → Ascend low high xs → Ascend less high xs
ascend-lower low less high [] le all = omega (arith, le, all)
ascend-lower low less high (x ∷ xs) le all = (omega (arith, le, all.0), all.1)

pub ascend-higher : (low high more : ℕ) (xs : List ℕ) → high ≤ more → Ascend low high xs → Ascend low more xs
ascend-higher low high more [] le all = omega (arith, le, all)
ascend-higher low high more (x ∷ xs) le all = (all.0, ascend-higher (suc x) high more xs le all.1)

-- fewer of them
pub ascend-filter : (low high : ℕ) (p : ℕ → Bool) (xs ys : List ℕ) → Ascend low high (xs ++ ys) → Ascend low high (filter p xs ++ ys)
ascend-filter low high p [] ys all = all
ascend-filter low high p (x ∷ xs) ys all = by (p x) (ascend-filter (suc x) high p xs ys all.1)
  where
    by : (b : Bool) → Ascend (suc x) high (filter p xs ++ ys) → Ascend low high ((if b then x ∷ filter p xs else filter p xs) ++ ys)
    by true rest = (all.0, rest)
    by false rest = ascend-lower (suc x) low high (filter p xs ++ ys) (omega (arith, all.0)) rest

-- none of those that ascend is below the bound
pub ascend-none : (low high : ℕ) (xs : List ℕ) (x : ℕ) → Ascend low high xs → x < low → is_in x xs ≡ false
ascend-none low high [] x all less = refl
ascend-none low high (y ∷ ys) x all less = by (y == x) refl (ascend-none (suc y) high ys x all.1 (omega (arith, less, all.0)))
  where
    by : (b : Bool) → (y == x) ≡ b → is_in x ys ≡ false → (b || is_in x ys) ≡ false
    by true e rest = absurd (omega (arith, eqb-true y x e, less, all.0))
    by false e rest = rest

pub ascend-distinct : (low high : ℕ) (xs : List ℕ) → Ascend low high xs → AreDistinct xs
ascend-distinct low high [] all = record {}
ascend-distinct low high (x ∷ xs) all = (ascend-none (suc x) high xs x all.1 (omega arith), ascend-distinct (suc x) high xs all.1)

-- one behind those that ascend is none of them
pub ascend-behind : (low high : ℕ) (xs ys : List ℕ) (x : ℕ) → Ascend low high (xs ++ x ∷ ys) → is_in x xs ≡ false
ascend-behind low high [] ys x all = refl
ascend-behind low high (z ∷ zs) ys x all = by (z == x) refl (ascend-behind (suc z) high zs ys x all.1)
  where
    past : (zs : List ℕ) (low : ℕ) → Ascend low high (zs ++ x ∷ ys) → low ≤ x
    past [] low all = all.0
    past (a ∷ zs) low all = omega (arith, all.0, past zs (suc a) all.1)

    by : (b : Bool) → (z == x) ≡ b → is_in x zs ≡ false → (b || is_in x zs) ≡ false
    by true e rest = absurd (omega (arith, eqb-true z x e, past zs (suc z) all.1))
    by false e rest = rest

pub in-append : (x : ℕ) (xs ys : List ℕ) → is_in x (xs ++ ys) ≡ (is_in x xs || is_in x ys)
in-append x [] ys = refl
in-append x (z ∷ zs) ys = by (z == x) (in-append x zs ys)
  where
    by : (b : Bool) → is_in x (zs ++ ys) ≡ (is_in x zs || is_in x ys) → (b || is_in x (zs ++ ys)) ≡ ((b || is_in x zs) || is_in x ys)
    by true rest = refl
    by false rest = rest

-- one of a list that another does not have is not that other's
pub in-apart : (x y : ℕ) (xs : List ℕ) → is_in x xs ≡ true → is_in y xs ≡ false → (x == y) ≡ false
in-apart x y xs one other = by (x == y) refl
  where
    by : (b : Bool) → (x == y) ≡ b → b ≡ false
    by true e = absurd (true≢false (sym one ∙ ap (λ z. is_in z xs) (eqb-true x y e) ∙ other))
    by false e = refl

pub number-refl : (x : ℕ) → (x == x) ≡ true
number-refl x = eq-eqb x x refl

pub number-swap : (x y : ℕ) → (x == y) ≡ false → (y == x) ≡ false
number-swap x y apart = by (y == x) refl
  where
    by : (b : Bool) → (y == x) ≡ b → b ≡ false
    by true e = absurd (true≢false (sym (eq-eqb x y (sym (eqb-true y x e))) ∙ apart))
    by false e = refl

-- what stays of a list where one element is removed
pub in-filter : (x y : ℕ) (xs : List ℕ) → (x == y) ≡ false → is_in x xs ≡ true → is_in x (filter (λ p. not (p == y)) xs) ≡ true
in-filter x y [] other is = is
in-filter x y (z ∷ zs) other is = by (z == x) refl is (z == y) refl (in-filter x y zs other)
  where
    by : (b : Bool) → (z == x) ≡ b → (b || is_in x zs) ≡ true → (d : Bool) → (z == y) ≡ d → (is_in x zs ≡ true → is_in x (filter (λ p. not (p == y)) zs) ≡ true)
        → is_in x (if not d then z ∷ filter (λ p. not (p == y)) zs else filter (λ p. not (p == y)) zs) ≡ true
    by true e is true f rest = absurd (true≢false (sym f ∙ ap (λ n. n == y) (eqb-true z x e) ∙ other))
    by true e is false f rest = or_left (z == x) (is_in x (filter (λ p. not (p == y)) zs)) e
    by false e is true f rest = rest is
    by false e is false f rest = or_right (z == x) (is_in x (filter (λ p. not (p == y)) zs)) (rest is)

-- one element less leaves fewer
pub filter-few : {A : Type 0} (p : A → Bool) (xs : List A) → length (filter p xs) ≤ length xs
filter-few p [] = omega arith
filter-few p (x ∷ xs) = by (p x) (filter-few p xs)
  where
    by : (b : Bool) → length (filter p xs) ≤ length xs → length (if b then x ∷ filter p xs else filter p xs) ≤ suc (length xs)
    by true rest = omega (arith, rest)
    by false rest = omega (arith, rest)

pub filter-fewer : (x : ℕ) (xs : List ℕ) → is_in x xs ≡ true → length (filter (λ p. not (p == x)) xs) < length xs
filter-fewer x [] is = absurd (true≢false (sym is))
filter-fewer x (z ∷ zs) is = by (z == x) is (filter-fewer x zs)
  where
    by : (b : Bool) → (b || is_in x zs) ≡ true → (is_in x zs ≡ true → length (filter (λ p. not (p == x)) zs) < length zs)
        → length (if not b then z ∷ filter (λ p. not (p == x)) zs else filter (λ p. not (p == x)) zs) < suc (length zs)
    by true is rest = omega (arith, filter-few (λ p. not (p == x)) zs)
    by false is rest = omega (arith, rest is)

-- elements of another list are among it still where one that is none of them is removed
pub still-in : (x : ℕ) (ys zs : List ℕ) → is_in x zs ≡ false → AllByRecursion (λ z. is_in z ys ≡ true) zs → AllByRecursion (λ z. is_in z (filter (λ p. not (p == x)) ys) ≡ true) zs
still-in x ys [] apart all = record {}
still-in x ys (z ∷ zs) apart all = (
  in-filter z x ys (or_parts (z == x) (is_in x zs) apart).0 all.0,
  still-in x ys zs (or_parts (z == x) (is_in x zs) apart).1 all.1,
)

-- places of which none stands twice, each among others, are no more than these
pub distinct-few : (xs ys : List ℕ) → AreDistinct xs → AllByRecursion (λ x. is_in x ys ≡ true) xs → length xs ≤ length ys
distinct-few [] ys distinct all = omega arith
distinct-few (x ∷ xs) ys distinct all = omega (arith, filter-fewer x ys all.0, distinct-few xs (filter (λ p. not (p == x)) ys) distinct.1 (still-in x ys xs distinct.0 all.1))

pub distinct-append : (xs : List ℕ) (x : ℕ) → AreDistinct xs → is_in x xs ≡ false → AreDistinct (xs ++ x ∷ [])
distinct-append [] x distinct apart = (refl, record {})
distinct-append (z ∷ zs) x distinct apart = (
  in-append z zs (x ∷ []) ∙ ap₂ (λ a b. a || (b || false)) distinct.0 (number-swap z x (or_parts (z == x) (is_in x zs) apart).0),
  distinct-append zs x distinct.1 (or_parts (z == x) (is_in x zs) apart).1,
)

-- the places before some others
pub distinct-before : (xs ys : List ℕ) → AreDistinct (xs ++ ys) → AreDistinct xs
distinct-before [] ys distinct = record {}
distinct-before (x ∷ xs) ys distinct = ((or_parts (is_in x xs) (is_in x ys) (sym (in-append x xs ys) ∙ distinct.0)).0, distinct-before xs ys distinct.1)

pub distinct-behind : (xs ys : List ℕ) → AreDistinct (xs ++ ys) → AreDistinct ys
distinct-behind [] ys distinct = distinct
distinct-behind (x ∷ xs) ys distinct = distinct-behind xs ys distinct.1

pub all-before : {A : Type 0} (P : A → Type 0) (xs ys : List A) → AllByRecursion P (xs ++ ys) → AllByRecursion P xs
all-before P [] ys all = record {}
all-before P (x ∷ xs) ys all = (all.0, all-before P xs ys all.1)

pub all-behind : {A : Type 0} (P : A → Type 0) (xs ys : List A) → AllByRecursion P (xs ++ ys) → AllByRecursion P ys
all-behind P [] ys all = all
all-behind P (x ∷ xs) ys all = all-behind P xs ys all.1

pub all-join : {A : Type 0} (P : A → Type 0) (xs ys : List A) → AllByRecursion P xs → AllByRecursion P ys → AllByRecursion P (xs ++ ys)
all-join P [] ys one other = other
all-join P (x ∷ xs) ys one other = (one.0, all-join P xs ys one.1 other)

pub all-map : {A : Type 0} (P Q : A → Type 0) → ((x : A) → P x → Q x) → (xs : List A) → AllByRecursion P xs → AllByRecursion Q xs
all-map P Q f [] all = record {}
all-map P Q f (x ∷ xs) all = (f x all.0, all-map P Q f xs all.1)

-- the element that a list has is one of it
pub all-in : (P : ℕ → Type 0) (x : ℕ) (xs : List ℕ) → AllByRecursion P xs → is_in x xs ≡ true → P x
all-in P x [] all is = absurd (true≢false (sym is))
all-in P x (z ∷ zs) all is = by (z == x) refl is (all-in P x zs all.1)
  where
    by : (b : Bool) → (z == x) ≡ b → (b || is_in x zs) ≡ true → (is_in x zs ≡ true → P x) → P x
    by true e is rest = subst P (eqb-true z x e) all.0
    by false e is rest = rest is

-- a completion is of this side of a queue pair
abbrev pub is_of : QueueId → Bool → Completion → Bool
is_of n receive c = queue_eq c.queue n && bool_eq c.receive receive

pub side-append : (n : QueueId) (receive : Bool) (xs ys : List Completion) → places_of_side n receive (xs ++ ys) ≡ places_of_side n receive xs ++ places_of_side n receive ys
side-append n receive xs ys =
    ap (map (λ c. c.place)) (filter-append (is_of n receive) xs ys) ∙ map-append (λ c. c.place) (filter (is_of n receive) xs) (filter (is_of n receive) ys)

-- no completion of this side
pub side-none : (n : QueueId) (receive : Bool) (xs : List Completion) → AllByRecursion (λ c. is_of n receive c ≡ false) xs → places_of_side n receive xs ≡ []
side-none n receive [] all = refl
side-none n receive (x ∷ xs) all = ap (λ b. map (λ c. c.place) (if b then x ∷ filter (is_of n receive) xs else filter (is_of n receive) xs)) all.0 ∙ side-none n receive xs all.1

pub side-head : (n : QueueId) (receive : Bool) (x : Completion) (xs : List Completion) → is_of n receive x ≡ true → places_of_side n receive (x ∷ xs) ≡ x.place ∷ places_of_side n receive xs
side-head n receive x xs is = ap (λ b. map (λ c. c.place) (if b then x ∷ filter (is_of n receive) xs else filter (is_of n receive) xs)) is

pub side-skip : (n : QueueId) (receive : Bool) (x : Completion) (xs : List Completion) → is_of n receive x ≡ false → places_of_side n receive (x ∷ xs) ≡ places_of_side n receive xs
side-skip n receive x xs is = ap (λ b. map (λ c. c.place) (if b then x ∷ filter (is_of n receive) xs else filter (is_of n receive) xs)) is

pub length-map : {A B : Type 0} (f : A → B) (xs : List A) → length (map f xs) ≡ length xs
length-map f [] = refl
length-map f (x ∷ xs) = ap suc (length-map f xs)
