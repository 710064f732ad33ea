-- Which packets of one request were accepted: those below the expected number, each once, in order.
use Rattle.std.proofs.Common.{◌≡◌, ℕ, suc, ◌+◌, ◌-◌, ◌<◌, ◌≤◌, ◌⊎◌, inl, inr, min, ◌==◌, if◌then◌else◌, true, false, Bool, List, [], ◌∷◌, refl, sym, ◌∙◌, ap, ap₂, subst, arith, eqb-true}
use Rattle.std.proofs.lemmas.Bool.{eqb-false}
use Rattle.ca_connection.specs.Layout.{Direction, is_read, first, psns, HasNumber, span}
use Rattle.ca_connection.specs.Link.{Acceptance, Link}
use Rattle.ca_connection.specs.Moves.{Reached}
use Rattle.ca_connection.specs.Invariant.{AcceptanceFact}
use Rattle.ca_connection.specs.Once.{falling, numbers_at, passed}
use Rattle.ca_connection.proofs.LayoutLemmas.{first-le, span-not_read, span-some, span-within, start-le}
use Rattle.ca_connection.proofs.MoveLemmas.{mtu-some, reached-sound}

-- the bound where it moves past a packet of another request
passed-other : (d : Direction) (place number bound : ℕ) (other : ℕ) → (other ≡ place → ⊥) → number ≤ bound → bound ≤ first d (suc other) → first d other ≤ number
    → passed d place bound ≡ passed d place number
passed-other d place number bound other apart low high from = by (cases other place)
  where
    cases : (x y : ℕ) → (x < y) ⊎ ((x ≡ y) ⊎ (y < x))
    cases x y = grind arith

    by : (other < place) ⊎ ((other ≡ place) ⊎ (place < other)) → passed d place bound ≡ passed d place number
    by (inl before) = omega (arith, first-le d (suc other) place before, low, high)
    by (inr (inl same)) = absurd (apart same)
    by (inr (inr behind)) = omega (arith, first-le d (suc place) other behind, low, from)

pub numbers-fall : (d : Direction) (place bound : ℕ) (acceptances : List Acceptance) → 0 < d.mtu → is_read (d.work place) ≡ false → AcceptanceFact d bound acceptances
    → numbers_at place acceptances ≡ falling (first d place) (passed d place bound)
numbers-fall d place bound [] some kind fact = sym (ap (falling (first d place)) none)
  where
    none : passed d place bound ≡ 0
    none = omega (arith, start-le d place, fact)
numbers-fall d place bound (m ∷ rest) some kind fact = go (m.place == place) refl (numbers-fall d place m.number rest some kind fact.2)
  where
    go : (b : Bool) → (m.place == place) ≡ b → numbers_at place rest ≡ falling (first d place) (passed d place m.number)
        → (if b then m.number ∷ numbers_at place rest else numbers_at place rest) ≡ falling (first d place) (passed d place bound)
    go true own before =
        let same : m.place ≡ place = eqb-true m.place place own in
        let named : HasNumber d place m.number = subst (λ p. HasNumber d p m.number) same fact.1 in
        let one : span d m.place m.number ≡ 1 = span-not_read d m.place m.number (ap (λ p. is_read (d.work p)) same ∙ kind) in
        let more : passed d place bound ≡ suc (passed d place m.number) = omega (arith, fact.0, one, named.from, named.below) in
        let at : m.number ≡ first d place + passed d place m.number = omega (arith, named.from, named.below) in
        ap₂ (λ (n : ℕ) (ns : List ℕ). n ∷ ns) at before ∙ ap (falling (first d place)) (sym more)
    go false other before =
        before ∙ ap (falling (first d place)) (sym (passed-other d place m.number bound m.place (eqb-false m.place place other) (omega (arith, fact.0)) (omega (arith, fact.0, span-within d m.place m.number some fact.1)) fact.1.from))

pub law-in-order : (d : Direction) (l : Link) (place : ℕ) → Reached d l → is_read (d.work place) ≡ false → numbers_at place l.acceptances ≡ falling (first d place) (passed d place l.responder.expected)
law-in-order d l place reached kind = numbers-fall d place l.responder.expected l.acceptances (mtu-some d l reached) kind (let s = reached-sound d l reached in s.acceptances)

pub law-passed : (d : Direction) (l : Link) (place : ℕ) → Reached d l → is_read (d.work place) ≡ false → first d (suc place) ≤ l.responder.expected
    → numbers_at place l.acceptances ≡ falling (first d place) (psns d.mtu (d.work place))
law-passed d l place reached kind below = law-in-order d l place reached kind ∙ ap (falling (first d place)) (let e : passed d place l.responder.expected ≡ psns d.mtu (d.work place) = omega (arith, below) in e)
