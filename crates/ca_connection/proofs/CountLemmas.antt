-- How many acceptances a packet or a request has.
use Rattle.std.proofs.Common.{◌≡◌, ℕ, suc, ◌+◌, ◌<◌, ◌≤◌, ◌⊎◌, ◌&&◌, inl, inr, true, false, Bool, cond, List, [], ◌∷◌, refl, sym, ◌∙◌, ap, subst, arith, ltb-true, lt-ltb, eqb-true, eq-eqb, ne_eqb, le-leb, leb-true}
use Rattle.std.proofs.lemmas.List.Sums.{sum_by-cons}
use Rattle.std.specs.List.{Contains, count_by}
use Rattle.std.specs.Prelude.{nat_lt, nat_le, ◌==◌}
use Rattle.ca_connection.specs.Layout.{Direction, is_read, is_atomic, start, first, HasNumber, span}
use Rattle.ca_connection.specs.Link.{Acceptance}
use Rattle.ca_connection.specs.Invariant.{AcceptanceFact}
use Rattle.ca_connection.specs.Once.{acceptances_of_packet, acceptances_of_request, takes_number}
use Rattle.ca_connection.proofs.LayoutLemmas.{names-one, span-some, span-within, first-is_atomic, names-is_atomic, span-not_read}
use Rattle.ca_connection.proofs.ListLemmas.{contains-head, contains-more}
use Rattle.ca_connection.proofs.NumberLemmas.{cases-lt}

ge-ltb : (a b : ℕ) → b ≤ a → nat_lt a b ≡ false
ge-ltb a b le = go (nat_lt a b) refl
  where
    go : (c : Bool) → nat_lt a b ≡ c → nat_lt a b ≡ false
    go true is = absurd (omega (arith, ltb-true a b is))
    go false is = is

gt-leb : (a b : ℕ) → b < a → nat_le a b ≡ false
gt-leb a b lt = go (nat_le a b) refl
  where
    go : (c : Bool) → nat_le a b ≡ c → nat_le a b ≡ false
    go true is = absurd (omega (arith, leb-true a b is))
    go false is = is

count-yes : {A : Type 0} (test : A → Bool) (x : A) (xs : List A) → test x ≡ true → count_by test (x ∷ xs) ≡ suc (count_by test xs)
count-yes test x xs passes = omega (arith, sum_by-cons (λ y. cond (test y) 1 0) x xs, ap {B = ℕ} (λ b. cond b 1 0) passes)

count-not : {A : Type 0} (test : A → Bool) (x : A) (xs : List A) → test x ≡ false → count_by test (x ∷ xs) ≡ count_by test xs
count-not test x xs fails = omega (arith, sum_by-cons (λ y. cond (test y) 1 0) x xs, ap {B = ℕ} (λ b. cond b 1 0) fails)

-- no acceptance has a number from the bound on
packet-none : (d : Direction) (bound n : ℕ) (acceptances : List Acceptance) → AcceptanceFact d bound acceptances → bound ≤ n → acceptances_of_packet n acceptances ≡ 0
packet-none d bound n [] fact above = refl
packet-none d bound n (m ∷ rest) fact above =
    let long = span-some d m.place m.number in
    let other : (m.number == n) ≡ false = ne_eqb m.number n (λ e. omega (arith, fact.0)) in
    omega (arith, count-not (λ (x : Acceptance). x.number == n) m rest other, packet-none d m.number n rest fact.2 (omega (arith, fact.0)))

pub packet-once : (d : Direction) (bound n : ℕ) (acceptances : List Acceptance) → AcceptanceFact d bound acceptances → acceptances_of_packet n acceptances ≤ 1
packet-once d bound n [] fact = omega arith
packet-once d bound n (m ∷ rest) fact = go (packet-once d m.number n rest fact.2) (m.number == n) refl
  where
    go : acceptances_of_packet n rest ≤ 1 → (b : Bool) → (m.number == n) ≡ b → acceptances_of_packet n (m ∷ rest) ≤ 1
    go before true is = omega (arith, count-yes (λ (x : Acceptance). x.number == n) m rest is, packet-none d m.number n rest fact.2 (omega (arith, eqb-true m.number n is)))
    go before false is = omega (arith, count-not (λ (x : Acceptance). x.number == n) m rest is, before)

-- the acceptances of an atomic's request are those of its one number
pub atomic-acceptances : (d : Direction) (bound place : ℕ) (acceptances : List Acceptance) → is_atomic (d.work place) ≡ true → AcceptanceFact d bound acceptances
    → acceptances_of_request place acceptances ≡ acceptances_of_packet (first d place) acceptances
atomic-acceptances d bound place [] is fact = refl
atomic-acceptances d bound place (m ∷ rest) is fact = go (atomic-acceptances d m.number place rest is fact.2) (m.place == place) refl
  where
    go : acceptances_of_request place rest ≡ acceptances_of_packet (first d place) rest → (b : Bool) → (m.place == place) ≡ b
        → acceptances_of_request place (m ∷ rest) ≡ acceptances_of_packet (first d place) (m ∷ rest)
    go before true own =
        let same : m.place ≡ place = eqb-true m.place place own in
        let at : m.number ≡ first d place = names-is_atomic d place m.number is (subst (λ p. HasNumber d p m.number) same fact.1) in
        omega (arith, before, count-yes (λ (x : Acceptance). x.place == place) m rest own, count-yes (λ (x : Acceptance). x.number == first d place) m rest (eq-eqb m.number (first d place) at))
    go before false other =
        let apart : (m.number == first d place) ≡ false = ne_eqb m.number (first d place) (λ e.
        let named : HasNumber d m.place (first d place) = subst (HasNumber d m.place) e fact.1 in
        let own : HasNumber d place (first d place) = record { from = omega arith; below = omega (arith, first-is_atomic d place is) } in
        let same : m.place ≡ place = names-one d m.place place (first d place) named own in
        let yes_ : (m.place == place) ≡ true = eq-eqb m.place place same in
        let bad : true ≡ false = sym yes_ ∙ other in
        cc) in
        omega (arith, before, count-not (λ (x : Acceptance). x.place == place) m rest other, count-not (λ (x : Acceptance). x.number == first d place) m rest apart)

-- each number below the bound is covered by one acceptance
number-none : (d : Direction) (bound n : ℕ) (acceptances : List Acceptance) → AcceptanceFact d bound acceptances → bound ≤ n → count_by (takes_number d n) acceptances ≡ 0
number-none d bound n [] fact above = refl
number-none d bound n (m ∷ rest) fact above =
    let long = span-some d m.place m.number in
    let other : takes_number d n m ≡ false = and_false (nat_le m.number n) (nat_lt n (m.number + span d m.place m.number)) (ge-ltb n (m.number + span d m.place m.number) (omega (arith, fact.0))) in
    omega (arith, count-not (takes_number d n) m rest other, number-none d m.number n rest fact.2 (omega (arith, fact.0)))
  where
    and_false : (a b : Bool) → b ≡ false → (a && b) ≡ false
    and_false true b e = e
    and_false false b e = refl

pub number-one : (d : Direction) (bound n : ℕ) (acceptances : List Acceptance) → AcceptanceFact d bound acceptances → start d ≤ n → n < bound → count_by (takes_number d n) acceptances ≡ 1
number-one d bound n [] fact low high = absurd (omega (arith, fact))
number-one d bound n (m ∷ rest) fact low high = go (number-one d m.number n rest fact.2 low) (cases-lt n m.number)
  where
    go : (n < m.number → count_by (takes_number d n) rest ≡ 1) → (n < m.number) ⊎ (m.number ≤ n) → count_by (takes_number d n) (m ∷ rest) ≡ 1
    go before (inl lt) =
        let other : takes_number d n m ≡ false = ap (λ b. b && nat_lt n (m.number + span d m.place m.number)) (gt-leb m.number n lt) in
        omega (arith, count-not (takes_number d n) m rest other, before lt)
    go before (inr le) =
        let here : takes_number d n m ≡ true = ap (λ b. b && nat_lt n (m.number + span d m.place m.number)) (le-leb m.number n le) ∙ lt-ltb n (m.number + span d m.place m.number) (omega (arith, fact.0)) in
        omega (arith, count-yes (takes_number d n) m rest here, number-none d m.number n rest fact.2 le)

-- a packet of one number below the bound has its acceptance, and the acceptance is of its request
pub packet-accepted : (d : Direction) (bound place n : ℕ) (acceptances : List Acceptance) → 0 < d.mtu → is_read (d.work place) ≡ false
    → AcceptanceFact d bound acceptances → HasNumber d place n → start d ≤ n → n < bound
    → (acceptances_of_packet n acceptances ≡ 1) × ((found : ℕ) × Contains acceptances (record { number = n; place = place; found = found }))
packet-accepted d bound place n [] some kind fact names low high = absurd (omega (arith, fact))
packet-accepted d bound place n (m ∷ rest) some kind fact names low high = go (packet-accepted d m.number place n rest some kind fact.2 names low) (cases-lt n m.number)
  where
    go : (n < m.number → (acceptances_of_packet n rest ≡ 1) × ((found : ℕ) × Contains rest (record { number = n; place = place; found = found })))
        → (n < m.number) ⊎ (m.number ≤ n)
        → (acceptances_of_packet n (m ∷ rest) ≡ 1) × ((found : ℕ) × Contains (m ∷ rest) (record { number = n; place = place; found = found }))
    go before (inl lt) =
        let other : (m.number == n) ≡ false = ne_eqb m.number n (λ e. omega arith) in
        let r = before lt in
        (count-not (λ (x : Acceptance). x.number == n) m rest other ∙ r.0, (r.1.0, contains-more m _ rest r.1.1))
    go before (inr le) =
        let within = span-within d m.place m.number some fact.1 in
        let named : HasNumber d m.place n = record { from = omega (arith, fact.1.from); below = omega (arith, fact.0, within) } in
        let same : m.place ≡ place = names-one d m.place place n named names in
        let one : span d m.place m.number ≡ 1 = span-not_read d m.place m.number (ap (λ p. is_read (d.work p)) same ∙ kind) in
        let at : m.number ≡ n = omega (arith, fact.0, one) in
        let is : (m.number == n) ≡ true = eq-eqb m.number n at in
        let gone : acceptances_of_packet n rest ≡ 0 = packet-none d m.number n rest fact.2 (omega arith) in (
          count-yes (λ (x : Acceptance). x.number == n) m rest is ∙ ap suc gone,
          (
            m.found,
            subst (λ p. Contains (m ∷ rest) (record { number = n; place = p; found = m.found })) same
                (subst (λ k. Contains (m ∷ rest) (record { number = k; place = m.place; found = m.found })) at (contains-head m rest)),
          ),
        )
