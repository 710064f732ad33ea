-- Lemmas on elements that share rooms: how many things the rooms hold together, and the rooms of fewer elements. For proofs
-- only.
use Rattle.std.proofs.Common.{◌≡◌, ℕ, suc, zero, ◌+◌, ◌<◌, ◌≤◌, Bool, true, false, ◌||◌, nat_lt, List, [], ◌∷◌, ◌++◌, length, filter, refl, arith, if◌then◌else◌, subst, sym, ◌∙◌, ap, ap₂, true≢false, append_assoc, drop}
use Rattle.std.proofs.lemmas.Bool.{lt-ltb, ltb-true, or_parts}
use Rattle.std.specs.List.{AllByRecursion, list_any}

-- what is so of each element, and implies another thing there
pub all-map : {X : Type 0} (P Q : X → Type 0) → ((x : X) → P x → Q x) → (xs : List X) → AllByRecursion P xs → AllByRecursion Q xs
all-map P Q f [] all = record {}
all-map P Q f (x ∷ xs) all = (f x all.0, all-map P Q f xs all.1)

-- two things that are so of each element, and imply a third there
pub all-zip : {X : Type 0} (P Q R : X → Type 0) → ((x : X) → P x → Q x → R x) → (xs : List X) → AllByRecursion P xs → AllByRecursion Q xs → AllByRecursion R xs
all-zip P Q R f [] all both = record {}
all-zip P Q R f (x ∷ xs) all both = (f x all.0 both.0, all-zip P Q R f xs all.1 both.1)

-- what is so of all things is so of each element
pub all-of : {X : Type 0} (P : X → Type 0) → ((x : X) → P x) → (xs : List X) → AllByRecursion P xs
all-of P f [] = record {}
all-of P f (x ∷ xs) = (f x, all-of P f xs)

pub all-filter : {X : Type 0} (P : X → Type 0) (p : X → Bool) (xs : List X) → AllByRecursion P xs → AllByRecursion P (filter p xs)
all-filter P p [] all = record {}
all-filter P p (x ∷ xs) all = by (p x) (all-filter P p xs all.1)
  where
    by : (b : Bool) → AllByRecursion P (filter p xs) → AllByRecursion P (if b then x ∷ filter p xs else filter p xs)
    by true rest = (all.0, rest)
    by false rest = rest

pub all-append : {X : Type 0} (P : X → Type 0) (xs ys : List X) → AllByRecursion P xs → AllByRecursion P ys → AllByRecursion P (xs ++ ys)
all-append P [] ys all others = others
all-append P (x ∷ xs) ys all others = (all.0, all-append P xs ys all.1 others)

-- what is so of each element of a list without one of them
pub all-without : {X : Type 0} (P : X → Type 0) (a b : List X) (x : X) → AllByRecursion P (a ++ x ∷ b) → AllByRecursion P (a ++ b)
all-without P [] b x all = all.1
all-without P (y ∷ a) b x all = (all.0, all-without P a b x all.1)

-- what is so of that one
pub all-at : {X : Type 0} (P : X → Type 0) (a b : List X) (x : X) → AllByRecursion P (a ++ x ∷ b) → P x
all-at P [] b x all = all.0
all-at P (y ∷ a) b x all = all-at P a b x all.1

-- no element passes a test
pub none-of : {X : Type 0} (p : X → Bool) (xs : List X) → list_any p xs ≡ false → AllByRecursion (λ x. p x ≡ false) xs
none-of p [] none = record {}
none-of p (x ∷ xs) none = ((or_parts (p x) (list_any p xs) none).0, none-of p xs (or_parts (p x) (list_any p xs) none).1)

pub or-right : (b c : Bool) → c ≡ true → (b || c) ≡ true
or-right true c h = refl
or-right false c h = h

-- those that pass a test are no more than those that pass a weaker one
pub fewer : {Y : Type 0} (p q : Y → Bool) (ys : List Y) → AllByRecursion (λ y. p y ≡ true → q y ≡ true) ys → length (filter p ys) ≤ length (filter q ys)
fewer p q [] all = omega arith
fewer p q (y ∷ ys) all = by (p y) (q y) all.0 (fewer p q ys all.1)
  where
    by : (b c : Bool) → (b ≡ true → c ≡ true) → length (filter p ys) ≤ length (filter q ys) → length (if b then y ∷ filter p ys else filter p ys) ≤ length (if c then y ∷ filter q ys else filter q ys)
    by true true h rest = omega (arith, rest)
    by true false h rest = absurd (true≢false (sym (h refl)))
    by false true h rest = omega (arith, rest)
    by false false h rest = rest

-- those that pass one of two tests
either : {Y : Type 0} (p q : Y → Bool) (ys : List Y) → length (filter (λ y. p y || q y) ys) ≤ length (filter p ys) + length (filter q ys)
either p q [] = omega arith
either p q (y ∷ ys) = by (p y) (q y) (either p q ys)
  where
    by : (b c : Bool) → length (filter (λ x. p x || q x) ys) ≤ length (filter p ys) + length (filter q ys) → length (if b || c then y ∷ filter (λ x. p x || q x) ys else filter (λ x. p x || q x) ys) ≤ length (if b then y ∷ filter p ys else filter p ys) + length (if c then y ∷ filter q ys else filter q ys)
    by true true rest = omega (arith, rest)
    by true false rest = omega (arith, rest)
    by false true rest = omega (arith, rest)
    by false false rest = rest

pub nobody : {Y : Type 0} (ys : List Y) → length (filter (λ y. false) ys) ≡ 0
nobody [] = refl
nobody (y ∷ ys) = nobody ys

-- where each passes, all stay
pub all-stay : {Y : Type 0} (p : Y → Bool) (ys : List Y) → AllByRecursion (λ y. p y ≡ true) ys → length (filter p ys) ≡ length ys
all-stay p [] all = refl
all-stay p (y ∷ ys) all =
    subst (λ b. length (if b then y ∷ filter p ys else filter p ys) ≡ suc (length ys)) (sym all.0) (ap suc (all-stay p ys all.1))

-- of fewer things no more pass
pub filter-fewer : {Y : Type 0} (p q : Y → Bool) (ys : List Y) → length (filter p (filter q ys)) ≤ length (filter p ys)
filter-fewer p q [] = omega arith
filter-fewer p q (y ∷ ys) = by (p y) refl (q y) (filter-fewer p q ys)
  where
    by : (b : Bool) → p y ≡ b → (c : Bool) → length (filter p (filter q ys)) ≤ length (filter p ys) → length (filter p (if c then y ∷ filter q ys else filter q ys)) ≤ length (if b then y ∷ filter p ys else filter p ys)
    by true e true rest =
        subst (λ b. length (if b then y ∷ filter p (filter q ys) else filter p (filter q ys)) ≤ suc (length (filter p ys))) (sym e) (omega (arith, rest))
    by true e false rest = omega (arith, rest)
    by false e true rest =
        subst (λ b. length (if b then y ∷ filter p (filter q ys) else filter p (filter q ys)) ≤ length (filter p ys)) (sym e) rest
    by false e false rest = rest

-- the rooms of elements of which some have theirs together
abbrev pub rooms : {X : Type 0} → (X → X → Bool) → (X → ℕ) → List X → ℕ
rooms S room [] = 0
rooms S room (x ∷ xs) = (if list_any (S x) xs then 0 else room x) + rooms S room xs

-- which things an element has is the same of all that have their room together
abbrev pub AgreeOn : {X Y : Type 0} → (X → X → Bool) → (X → Y → Bool) → Type 0
AgreeOn {X} {Y} S C = (a b : X) → S a b ≡ true → (y : Y) → C a y ≡ C b y

-- those that have their room together with an element have as much
abbrev pub HaveRoom : {X : Type 0} → (X → X → Bool) → (X → ℕ) → List X → X → Type 0
HaveRoom S room xs x = AllByRecursion (λ o. S x o ≡ true → room o ≡ room x) xs

-- an element has this thing
abbrev pub has_any : {X Y : Type 0} → (X → Y → Bool) → List X → Y → Bool
has_any C xs y = list_any (λ x. C x y) xs

-- an element has fewer things than room
abbrev pub has_left : {X Y : Type 0} → (X → Y → Bool) → (X → ℕ) → List Y → X → Bool
has_left C room ys x = nat_lt (length (filter (C x) ys)) (room x)

any-shared : {X Y : Type 0} (S : X → X → Bool) (C : X → Y → Bool) → AgreeOn S C → (x : X) (xs : List X) → list_any (S x) xs ≡ true → (y : Y) → C x y ≡ true → has_any C xs y ≡ true
any-shared S C agree x [] any y is = absurd (true≢false (sym any))
any-shared S C agree x (o ∷ os) any y is = by (S x o) refl (any-shared S C agree x os)
  where
    by : (b : Bool) → S x o ≡ b → (list_any (S x) os ≡ true → (y : _) → C x y ≡ true → has_any C os y ≡ true) → (C o y || has_any C os y) ≡ true
    by true e rest = ap (λ b. b || has_any C os y) (sym (agree x o e y) ∙ is)
    by false e rest = or-right (C o y) (has_any C os y) (rest (subst (λ b. (b || list_any (S x) os) ≡ true) e any) y is)

-- an element that has its room together with others adds no things
shared-adds-none : {X Y : Type 0} (S : X → X → Bool) (C : X → Y → Bool) (ys : List Y) → AgreeOn S C → (x : X) (xs : List X) → list_any (S x) xs ≡ true
    → length (filter (has_any C (x ∷ xs)) ys) ≤ length (filter (has_any C xs) ys)
shared-adds-none S C ys agree x xs any =
    fewer (has_any C (x ∷ xs)) (has_any C xs) ys (all-of (λ y. has_any C (x ∷ xs) y ≡ true → has_any C xs y ≡ true) (λ y. by y (C x y) refl) ys)
  where
    by : (y : _) → (b : Bool) → C x y ≡ b → (b || has_any C xs y) ≡ true → has_any C xs y ≡ true
    by y true e is = any-shared S C agree x xs any y e
    by y false e is = is

-- the elements have no more things together than room
pub within-rooms : {X Y : Type 0} (S : X → X → Bool) (C : X → Y → Bool) (room : X → ℕ) (ys : List Y) → AgreeOn S C → (xs : List X)
    → AllByRecursion (λ x. length (filter (C x) ys) ≤ room x) xs → length (filter (has_any C xs) ys) ≤ rooms S room xs
within-rooms S C room ys agree [] all = omega (arith, nobody ys)
within-rooms S C room ys agree (x ∷ xs) all = by (list_any (S x) xs) refl (within-rooms S C room ys agree xs all.1)
  where
    by : (b : Bool) → list_any (S x) xs ≡ b → length (filter (has_any C xs) ys) ≤ rooms S room xs → length (filter (has_any C (x ∷ xs)) ys) ≤ (if b then 0 else room x) + rooms S room xs
    by true e rest = omega (arith, rest, shared-adds-none S C ys agree x xs e)
    by false e rest = omega (arith, rest, all.0, either (C x) (has_any C xs) ys)

any-left : {X Y : Type 0} (S : X → X → Bool) (C : X → Y → Bool) (room : X → ℕ) (ys : List Y) → AgreeOn S C → (x : X) (xs : List X)
    → list_any (S x) xs ≡ true → HaveRoom S room xs x → has_left C room ys x ≡ true → list_any (has_left C room ys) xs ≡ true
any-left S C room ys agree x [] any alike left = absurd (true≢false (sym any))
any-left S C room ys agree x (o ∷ os) any alike left = by (S x o) refl (λ h. any-left S C room ys agree x os h alike.1 left)
  where
    left-there : S x o ≡ true → has_left C room ys o ≡ true
    left-there e =
        lt-ltb (length (filter (C o) ys)) (room o) (omega (arith, alike.0 e, ltb-true (length (filter (C x) ys)) (room x) left, fewer (C o) (C x) ys (all-of (λ y. C o y ≡ true → C x y ≡ true) (λ y is. agree x o e y ∙ is) ys)))

    by : (b : Bool) → S x o ≡ b → (list_any (S x) os ≡ true → list_any (has_left C room ys) os ≡ true) → (has_left C room ys o || list_any (has_left C room ys) os) ≡ true
    by true e rest = ap (λ b. b || list_any (has_left C room ys) os) (left-there e)
    by false e rest =
        or-right (has_left C room ys o) (list_any (has_left C room ys) os) (rest (subst (λ b. (b || list_any (S x) os) ≡ true) e any))

-- where one of the elements has room left, they have fewer things together than room
pub below-rooms : {X Y : Type 0} (S : X → X → Bool) (C : X → Y → Bool) (room : X → ℕ) (ys : List Y) → AgreeOn S C → (xs : List X)
    → AllByRecursion (HaveRoom S room xs) xs → AllByRecursion (λ x. length (filter (C x) ys) ≤ room x) xs → list_any (has_left C room ys) xs ≡ true
    → length (filter (has_any C xs) ys) < rooms S room xs
below-rooms S C room ys agree [] alike all any = absurd (true≢false (sym any))
below-rooms S C room ys agree (x ∷ xs) alike all any =
    by (list_any (S x) xs) refl (has_left C room ys x) refl (λ left. below-rooms S C room ys agree xs behind all.1 left)
  where
    behind : AllByRecursion (HaveRoom S room xs) xs
    behind = all-map (HaveRoom S room (x ∷ xs)) (HaveRoom S room xs) (λ o h. h.1) xs alike.1

    both : length (filter (has_any C (x ∷ xs)) ys) ≤ length (filter (C x) ys) + length (filter (has_any C xs) ys)
    both = either (C x) (has_any C xs) ys

    by : (b : Bool) → list_any (S x) xs ≡ b → (c : Bool) → has_left C room ys x ≡ c
        → (list_any (has_left C room ys) xs ≡ true → length (filter (has_any C xs) ys) < rooms S room xs)
        → length (filter (has_any C (x ∷ xs)) ys) < (if b then 0 else room x) + rooms S room xs
    by true e true f less =
        omega (arith, shared-adds-none S C ys agree x xs e, less (any-left S C room ys agree x xs e alike.0.1 f))
    by true e false f less =
        omega (arith, shared-adds-none S C ys agree x xs e, less (subst (λ c. (c || list_any (has_left C room ys) xs) ≡ true) f any))
    by false e true f less =
        omega (arith, within-rooms S C room ys agree xs all.1, both, ltb-true (length (filter (C x) ys)) (room x) f)
    by false e false f less =
        omega (arith, both, all.0, less (subst (λ c. (c || list_any (has_left C room ys) xs) ≡ true) f any))

-- an element with a room of its own adds that room, wherever it stands
own-room : {X : Type 0} (S : X → X → Bool) (room : X → ℕ) → ((a b : X) → S a b ≡ S b a) → (a b : List X) (x : X) → list_any (S x) (a ++ b) ≡ false
    → rooms S room (a ++ x ∷ b) ≡ room x + rooms S room (a ++ b)
own-room S room swap [] b x none = ap (λ c. (if c then 0 else room x) + rooms S room b) none
own-room S room swap (y ∷ a) b x none =
    by (own-room S room swap a b x (or_parts (S x y) (list_any (S x) (a ++ b)) none).1) (same-shared a)
  where
    apart : S y x ≡ false
    apart = swap y x ∙ (or_parts (S x y) (list_any (S x) (a ++ b)) none).0

    same-shared : (c : List _) → list_any (S y) (c ++ x ∷ b) ≡ list_any (S y) (c ++ b)
    same-shared [] = ap (λ d. d || list_any (S y) b) apart
    same-shared (z ∷ c) = ap (λ d. S y z || d) (same-shared c)

    by : rooms S room (a ++ x ∷ b) ≡ room x + rooms S room (a ++ b) → list_any (S y) (a ++ x ∷ b) ≡ list_any (S y) (a ++ b)
        → rooms S room (y ∷ a ++ x ∷ b) ≡ room x + rooms S room (y ∷ a ++ b)
    by rest same =
        subst (λ d. (if d then 0 else room y) + rooms S room (a ++ x ∷ b) ≡ room x + rooms S room (y ∷ a ++ b)) (sym same) (omega (arith, rest))

agree-any : {X : Type 0} (S : X → X → Bool) → AgreeOn S S → (x y : X) → S x y ≡ true → (zs : List X) → list_any (S x) zs ≡ list_any (S y) zs
agree-any S agree x y e [] = refl
agree-any S agree x y e (z ∷ zs) = ap₂ (λ b c. b || c) (agree x y e z) (agree-any S agree x y e zs)

-- one element less has no more room, where those that have their room together have as much
without-one : {X : Type 0} (S : X → X → Bool) (room : X → ℕ) → ((a b : X) → S a b ≡ S b a) → AgreeOn S S → (a b : List X) (x : X)
    → HaveRoom S room (a ++ b) x → rooms S room (a ++ b) ≤ rooms S room (a ++ x ∷ b)
without-one S room swap agree [] b x alike = omega arith
without-one S room swap agree (y ∷ a) b x alike =
    by (list_any (S y) (a ++ b)) refl (S y x) refl (without-one S room swap agree a b x alike.1)
  where
    seen : (c : List _) → list_any (S y) (c ++ x ∷ b) ≡ (S y x || list_any (S y) (c ++ b))
    seen [] = refl
    seen (z ∷ c) = ap (λ d. S y z || d) (seen c) ∙ turn (S y z) (S y x) (list_any (S y) (c ++ b))
      where
        turn : (d e f : Bool) → (d || (e || f)) ≡ (e || (d || f))
        turn true true f = refl
        turn true false f = refl
        turn false e f = refl

    by : (b' : Bool) → list_any (S y) (a ++ b) ≡ b' → (c : Bool) → S y x ≡ c → rooms S room (a ++ b) ≤ rooms S room (a ++ x ∷ b)
        → (if b' then 0 else room y) + rooms S room (a ++ b) ≤ (if list_any (S y) (a ++ x ∷ b) then 0 else room y) + rooms S room (a ++ x ∷ b)
    by true e c f rest = omega (arith, rest)
    by false e true f rest =
        omega (arith, alike.0 (swap x y ∙ f), own-room S room swap a b x (sym (agree-any S agree y x f (a ++ b)) ∙ e))
    by false e false f rest =
        subst (λ d. room y + rooms S room (a ++ b) ≤ (if d then 0 else room y) + rooms S room (a ++ x ∷ b)) (sym (seen a ∙ ap₂ (λ c d. c || d) f e)) (omega (arith, rest))

-- fewer elements have no more room, where those that have their room together have as much
pub filter-rooms : {X : Type 0} (S : X → X → Bool) (room : X → ℕ) → ((a b : X) → S a b ≡ S b a) → AgreeOn S S → (p : X → Bool) (a xs : List X)
    → AllByRecursion (HaveRoom S room (a ++ xs)) (a ++ xs) → rooms S room (a ++ filter p xs) ≤ rooms S room (a ++ xs)
filter-rooms S room swap agree p a [] alike = omega arith
filter-rooms S room swap agree p a (x ∷ xs) alike =
    by (p x) (filter-rooms S room swap agree p (a ++ x ∷ []) xs (subst (λ l. AllByRecursion (HaveRoom S room l) l) (sym (append_assoc a (x ∷ []) xs)) alike)) (filter-rooms S room swap agree p a xs fewer-alike)
  where
    fewer-alike : AllByRecursion (HaveRoom S room (a ++ xs)) (a ++ xs)
    fewer-alike =
        all-map (HaveRoom S room (a ++ x ∷ xs)) (HaveRoom S room (a ++ xs)) (λ y. all-without (λ o. S y o ≡ true → room o ≡ room y) a xs x) (a ++ xs) (all-without (HaveRoom S room (a ++ x ∷ xs)) a xs x alike)

    here : HaveRoom S room (a ++ xs) x
    here = all-without (λ o. S x o ≡ true → room o ≡ room x) a xs x (all-at (HaveRoom S room (a ++ x ∷ xs)) a xs x alike)

    by : (b : Bool) → rooms S room ((a ++ x ∷ []) ++ filter p xs) ≤ rooms S room ((a ++ x ∷ []) ++ xs) → rooms S room (a ++ filter p xs) ≤ rooms S room (a ++ xs)
        → rooms S room (a ++ (if b then x ∷ filter p xs else filter p xs)) ≤ rooms S room (a ++ x ∷ xs)
    by true kept rest =
        omega (arith, kept, ap (rooms S room) (append_assoc a (x ∷ []) (filter p xs)), ap (rooms S room) (append_assoc a (x ∷ []) xs))
    by false kept rest = omega (arith, rest, without-one S room swap agree a xs x here)

pub all-drop : {X : Type 0} (P : X → Type 0) (n : ℕ) (xs : List X) → AllByRecursion P xs → AllByRecursion P (drop n xs)
all-drop P zero xs all = all
all-drop P (suc n) [] all = record {}
all-drop P (suc n) (x ∷ xs) all = all-drop P n xs all.1

-- of those behind the first so many no more pass
pub drop-fewer : {Y : Type 0} (p : Y → Bool) (n : ℕ) (ys : List Y) → length (filter p (drop n ys)) ≤ length (filter p ys)
drop-fewer p zero ys = omega arith
drop-fewer p (suc n) [] = omega arith
drop-fewer p (suc n) (y ∷ ys) = by (p y) (drop-fewer p n ys)
  where
    by : (b : Bool) → length (filter p (drop n ys)) ≤ length (filter p ys) → length (filter p (drop n ys)) ≤ length (if b then y ∷ filter p ys else filter p ys)
    by true rest = omega (arith, rest)
    by false rest = rest

-- one more thing is one more where it passes
pub one-more : {Y : Type 0} (p : Y → Bool) (ys : List Y) (y : Y) → length (filter p (ys ++ y ∷ [])) ≡ length (filter p ys) + (if p y then 1 else 0)
one-more p [] y = by (p y)
  where
    by : (b : Bool) → length (if b then y ∷ [] else []) ≡ 0 + (if b then 1 else 0)
    by true = refl
    by false = refl
one-more p (x ∷ ys) y = by (p x) (one-more p ys y)
  where
    by : (b : Bool) → length (filter p (ys ++ y ∷ [])) ≡ length (filter p ys) + (if p y then 1 else 0)
        → length (if b then x ∷ filter p (ys ++ y ∷ []) else filter p (ys ++ y ∷ [])) ≡ length (if b then x ∷ filter p ys else filter p ys) + (if p y then 1 else 0)
    by true rest = omega (arith, rest)
    by false rest = rest
