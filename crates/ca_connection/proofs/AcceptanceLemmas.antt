-- The acceptances of accepted packets, and what grows with them.
use Rattle.std.proofs.Common.{◌≡◌, ℕ, ◌+◌, ◌≤◌, ◌⊎◌, inl, inr, List, [], ◌∷◌, subst, arith}
use Rattle.std.specs.List.{Contains}
use Rattle.ca_connection.specs.Layout.{Direction, HasNumber, span}
use Rattle.ca_connection.specs.Link.{SavedResult, Acceptance, Rejection, AtomicCompletion}
use Rattle.ca_connection.specs.Moves.{Reception, acceptances_after, rejections_after}
use Rattle.ca_connection.specs.Moves.Reception.{Neither, Rejected, Accepted}
use Rattle.ca_connection.specs.Invariant.{ResultFact, AcceptanceFact, CompletionFact}
use Rattle.ca_connection.proofs.ListLemmas.{contains-more, contains-cases}

-- a mark's numbers lie below the bound
pub acceptances-below : (d : Direction) (bound : ℕ) (acceptances : List Acceptance) (m : Acceptance) → AcceptanceFact d bound acceptances → Contains acceptances m → m.number + span d m.place m.number ≤ bound
acceptances-below d bound [] m fact has = absurd (omega (arith, has.1))
acceptances-below d bound (x ∷ rest) m fact has = go (acceptances-below d x.number rest m fact.2) (contains-cases x m rest has)
  where
    go : (Contains rest m → m.number + span d m.place m.number ≤ x.number) → (x ≡ m) ⊎ Contains rest m → m.number + span d m.place m.number ≤ bound
    go before (inl same) = subst (λ y. y.number + span d y.place y.number ≤ bound) same (omega (arith, fact.0))
    go before (inr later) = omega (arith, before later, fact.0)

-- a mark's request has its number
pub acceptances-names : (d : Direction) (bound : ℕ) (acceptances : List Acceptance) (m : Acceptance) → AcceptanceFact d bound acceptances → Contains acceptances m → HasNumber d m.place m.number
acceptances-names d bound [] m fact has = absurd (omega (arith, has.1))
acceptances-names d bound (x ∷ rest) m fact has = go (acceptances-names d x.number rest m fact.2) (contains-cases x m rest has)
  where
    go : (Contains rest m → HasNumber d m.place m.number) → (x ≡ m) ⊎ Contains rest m → HasNumber d m.place m.number
    go before (inl same) = subst (λ y. HasNumber d y.place y.number) same fact.1
    go before (inr later) = before later

pub acceptances-grow : (w place : ℕ) (reception : Reception) (acceptances : List Acceptance) (m : Acceptance) → Contains acceptances m → Contains (acceptances_after w place reception acceptances) m
acceptances-grow w place Neither acceptances m has = has
acceptances-grow w place (Rejected code) acceptances m has = has
acceptances-grow w place (Accepted found) acceptances m has = contains-more _ m acceptances has

pub rejections-grow : (w place : ℕ) (reception : Reception) (rejections : List Rejection) (r : Rejection) → Contains rejections r → Contains (rejections_after w place reception rejections) r
rejections-grow w place Neither rejections r has = has
rejections-grow w place (Rejected code) rejections r has = contains-more _ r rejections has
rejections-grow w place (Accepted found) rejections r has = has

pub completions-more : (d : Direction) (una : ℕ) (acceptances more : List Acceptance) (completions : List AtomicCompletion)
    → ((m : Acceptance) → Contains acceptances m → Contains more m) → CompletionFact d una acceptances completions → CompletionFact d una more completions
completions-more d una acceptances more completions grow c = record {
  atomic = c.atomic;
  below = c.below;
  acceptance = λ place found has. grow _ (c.acceptance place found has);
  all = c.all;
}

pub results-more : (d : Direction) (acceptances more : List Acceptance) (saved : List SavedResult)
    → ((m : Acceptance) → Contains acceptances m → Contains more m) → ResultFact d acceptances saved → ResultFact d more saved
results-more d acceptances more saved grow fact n found has = let s = fact n found has in record { place = s.place; atomic = s.atomic; acceptance = grow _ s.acceptance }
