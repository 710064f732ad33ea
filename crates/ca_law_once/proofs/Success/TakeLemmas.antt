-- Where a response brings `una` beyond an atomic, it is that atomic's own, and the link had accepted it once. For proofs only.
use Rattle.std.proofs.Common.{◌≡◌, ℕ, suc, ◌+◌, ◌==◌, ◌<◌, ◌≤◌, ◌⊎◌, inl, inr, Bool, true, false, ◌||◌, nat_lt, if◌then◌else◌, List, [], ◌∷◌, Option, Some, refl, ap, sym, subst, ◌∙◌, arith, true≢false}
use Rattle.std.proofs.lemmas.Bool.{ltb-false, ltb-true}
use Rattle.std.proofs.lemmas.Bool.Decides.{nat_tests}
use Rattle.std.specs.List.{Contains, count_by}
use Rattle.ca_connection.proofs.ListLemmas.{contains-cases}
use Rattle.std.proofs.lemmas.List.Sums.{sum_by-cons}
use Rattle.ca_connection.proofs.LayoutLemmas.{first-is_atomic, names-one, read-not_atomic}
use Rattle.ca_connection.specs.Acknowledge.{PassesNone}
use Rattle.ca_connection.specs.Layout.{Direction, HasNumber, first, is_answered, is_atomic, is_read}
use Rattle.ca_connection.specs.Link.{Acceptance, AtomicCompletion, Requester, Response}
use Rattle.ca_connection.specs.Link.Response.{Found}
use Rattle.ca_connection.specs.Moves.{Takes}
use Rattle.ca_connection.specs.Moves.Takes.{drop as take_drop, acknowledge as take_acknowledge, read as take_read, atomic as take_atomic}
use Rattle.ca_connection.specs.Once.{acceptances_of_request}
use Rattle.ca_law_once.specs.Links.{found_at}

-- the response was the atomic's own, and completed it
pub record IsOwn (d : Direction) (a : Response) (w place : ℕ) (completion : Option AtomicCompletion) : Type 0 where
  pub number : ℕ
  pub found : ℕ
  pub says : a ≡ Found number found
  pub completes : completion ≡ Some (record { place = place; found = found })
  pub at : w ≡ first d place

atomic-number : (d : Direction) (place : ℕ) → is_atomic (d.work place) ≡ true → HasNumber d place (first d place)
atomic-number d place is = record { from = omega arith; below = omega (arith, first-is_atomic d place is) }

answered : (d : Direction) (place : ℕ) → is_atomic (d.work place) ≡ true → is_answered (d.work place) ≡ true
answered d place is = by (is_read (d.work place))
  where
    by : (b : Bool) → (b || is_atomic (d.work place)) ≡ true
    by true = refl
    by false = is

-- no acknowledgement passes it
not-passed : (d : Direction) (una next place : ℕ) → is_atomic (d.work place) ≡ true → PassesNone d una next → una ≤ first d place → first d place < next → ⊥
not-passed d una next place is passes low high = true≢false (sym (answered d place is) ∙ passes place (first d place) low high (atomic-number d place is))

-- the number that a response takes, just beyond what it passed, is the atomic's
just-beyond : (d : Direction) (una w place : ℕ) → is_atomic (d.work place) ≡ true → PassesNone d una w → una ≤ first d place → first d (suc place) ≤ w + 1 → w ≡ first d place
just-beyond d una w place is passes low high = by (nat_lt (first d place) w) refl
  where
    by : (b : Bool) → nat_lt (first d place) w ≡ b → w ≡ first d place
    by true less = absurd (not-passed d una w place is passes low (ltb-true (first d place) w less))
    by false more = omega (arith, high, first-is_atomic d place is, ltb-false (first d place) w more)

pub own-response : (d : Direction) (a : Response) (w place : ℕ) (r after : Requester) (completion : Option AtomicCompletion) → is_atomic (d.work place) ≡ true → Takes d a w r after completion → r.una < first d (suc place)
    → first d (suc place) ≤ after.una → IsOwn d a w place completion
own-response d a w place r after completion is take_drop low high = absurd (omega (arith, low, high))
own-response d a w place r after completion is (take_acknowledge next cursor on most passes back far) low high =
    absurd (not-passed d r.una next place is passes (omega (arith, low, first-is_atomic d place is)) (omega (arith, high, first-is_atomic d place is)))
own-response d a w place r after completion is (take_read n left p says number reads from below passes) low high = absurd (read-not_atomic (d.work p) reads (subst (λ k. is_atomic (d.work k) ≡ true) same is))
  where
    at : w ≡ first d place
    at = just-beyond d r.una w place is passes (omega (arith, low, first-is_atomic d place is)) high

    same : place ≡ p
    same = names-one d place p w (subst (HasNumber d place) (sym at) (atomic-number d place is)) number
own-response d a w place r after completion is (take_atomic n found p says number acts from below passes) low high = record {
  number = n;
  found = found;
  says = says;
  completes = ap (λ k. Some (record { place = k; found = found })) (sym same);
  at = at;
}
  where
    at : w ≡ first d place
    at = just-beyond d r.una w place is passes (omega (arith, low, first-is_atomic d place is)) high

    same : place ≡ p
    same = names-one d place p w (subst (HasNumber d place) (sym at) (atomic-number d place is)) number

-- ---- one acceptance, and what it found

count-yes : {A : Type 0} (test : A → Bool) (x : A) (xs : List A) → test x ≡ true → count_by test (x ∷ xs) ≡ suc (count_by test xs)
count-yes test x xs passes = omega (arith, sum_by-cons (λ y. if test y then 1 else 0) x xs, ap {B = ℕ} (λ b. if b then 1 else 0) passes)

count-not : {A : Type 0} (test : A → Bool) (x : A) (xs : List A) → test x ≡ false → count_by test (x ∷ xs) ≡ count_by test xs
count-not test x xs fails = omega (arith, sum_by-cons (λ y. if test y then 1 else 0) x xs, ap {B = ℕ} (λ b. if b then 1 else 0) fails)

same-place : (n : ℕ) → (n == n) ≡ true
same-place n = grind (arith, nat_tests)

none-found : (place : ℕ) (xs : List Acceptance) → acceptances_of_request place xs ≡ 0 → found_at place xs ≡ []
none-found place [] none = refl
none-found place (x ∷ xs) none = by (x.place == place) refl (none-found place xs)
  where
    by : (b : Bool) → (x.place == place) ≡ b → (acceptances_of_request place xs ≡ 0 → found_at place xs ≡ []) → (if b then x.found ∷ found_at place xs else found_at place xs) ≡ []
    by true e rest = absurd (omega (arith, none, count-yes (λ (m : Acceptance). m.place == place) x xs e))
    by false e rest = rest (omega (arith, none, count-not (λ (m : Acceptance). m.place == place) x xs e))

some-counted : (place number found : ℕ) (xs : List Acceptance) → Contains xs (record { number = number; place = place; found = found }) → 0 < acceptances_of_request place xs
some-counted place number found [] has = absurd (omega (arith, has.1))
some-counted place number found (x ∷ xs) has = by (x.place == place) refl (contains-cases x (record { number = number; place = place; found = found }) xs has) (some-counted place number found xs)
  where
    by : (b : Bool) → (x.place == place) ≡ b → (x ≡ record { number = number; place = place; found = found }) ⊎ Contains xs (record { number = number; place = place; found = found })
        → (Contains xs (record { number = number; place = place; found = found }) → 0 < acceptances_of_request place xs) → 0 < acceptances_of_request place (x ∷ xs)
    by true e either rest = omega (arith, count-yes (λ (m : Acceptance). m.place == place) x xs e)
    by false e (inl same) rest = absurd (true≢false (sym (same-place place) ∙ ap (λ (m : Acceptance). m.place == place) (sym same) ∙ e))
    by false e (inr later) rest = omega (arith, rest later, count-not (λ (m : Acceptance). m.place == place) x xs e)

pub one-found : (place number found : ℕ) (xs : List Acceptance) → acceptances_of_request place xs ≡ 1 → Contains xs (record { number = number; place = place; found = found }) → found_at place xs ≡ found ∷ []
one-found place number found [] one has = absurd (omega (arith, has.1))
one-found place number found (x ∷ xs) one has = by (x.place == place) refl (contains-cases x (record { number = number; place = place; found = found }) xs has) (one-found place number found xs)
  where
    by : (b : Bool) → (x.place == place) ≡ b → (x ≡ record { number = number; place = place; found = found }) ⊎ Contains xs (record { number = number; place = place; found = found })
        → (acceptances_of_request place xs ≡ 1 → Contains xs (record { number = number; place = place; found = found }) → found_at place xs ≡ found ∷ [])
        → (if b then x.found ∷ found_at place xs else found_at place xs) ≡ found ∷ []
    by true e (inl same) rest = ap (λ ns. x.found ∷ ns) (none-found place xs (omega (arith, one, count-yes (λ (m : Acceptance). m.place == place) x xs e))) ∙ ap (λ (m : Acceptance). m.found ∷ []) same
    by true e (inr later) rest = absurd (omega (arith, one, count-yes (λ (m : Acceptance). m.place == place) x xs e, some-counted place number found xs later))
    by false e (inl same) rest = absurd (true≢false (sym (same-place place) ∙ ap (λ (m : Acceptance). m.place == place) (sym same) ∙ e))
    by false e (inr later) rest = rest (omega (arith, one, count-not (λ (m : Acceptance). m.place == place) x xs e)) later
