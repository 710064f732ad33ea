-- The walk over the begun requests finds the first number of a READ or an atomic that was not answered.
use Rattle.std.proofs.Common.{◌≡◌, ℕ, suc, ◌+◌, ◌≤◌, ◌<◌, ◌⊎◌, inl, inr, ◌&&◌, max, Bool, true, false, nat_lt, if◌then◌else◌, List, [], ◌∷◌, length, Option, None, Some, refl, ap, sym, ◌∙◌, true≢false, arith, lt-ltb}
use Rattle.std.proofs.lemmas.Bool.{ltb-true}
use Rattle.ca_connection.proofs.LayoutLemmas.{names-one}
use Rattle.ca_connection.proofs.NumberLemmas.{cases-lt}
use Rattle.ca_connection.specs.Acknowledge.{PassesNone}
use Rattle.ca_connection.specs.Layout.{Direction, HasNumber, first, is_answered}
use Rattle.ca_base.specs.objects.QueuePair.{QueuePair}
use Rattle.ca_model.specs.machine.Acknowledgements.{first_unanswered}
use Rattle.ca_model.specs.machine.Invariants.{begun_end}
use Rattle.ca_model.specs.machine.Numbering.{Numbered, begun_requests, is_answered_op, psn_end}
use Rattle.ca_law_once.proofs.Rows.LayLemmas.{Lie, answered-of-work, begun-lie, lie-end}
use Rattle.ca_law_once.specs.Sides.{IsLaid}

-- what the walk finds: the number at which it stops, or that there is none
pub record IsStop (d : Direction) (una psn back : ℕ) : Type 0 where
  pub low : una ≤ back
  pub high : back < psn
  pub passes : PassesNone d una back

abbrev pub Stops : Direction → ℕ → ℕ → Option ℕ → Type 0
Stops d una psn None = PassesNone d una psn
Stops d una psn (Some back) = IsStop d una psn back

-- no number of a READ or an atomic stands from una on, below psn and before this place
abbrev PassesTo : Direction → ℕ → ℕ → ℕ → Type 0
PassesTo d una psn place = (q m : ℕ) → una ≤ m → m < psn → m < first d place → HasNumber d q m → is_answered (d.work q) ≡ false

walk : (d : Direction) (una psn place : ℕ) (ns : List Numbered) → Lie d place ns → PassesTo d una psn place → psn ≤ first d (place + length ns) → Stops d una psn (first_unanswered una psn ns)
walk d una psn place [] lie before enough = λ q m low high has. before q m low high (omega (arith, high, enough, ap (first d) (let e : place + 0 ≡ place = omega arith in e))) has
walk d una psn place (n ∷ ns) lie before enough =
    by (λ more. walk d una psn (suc place) ns lie.1 more (omega (arith, enough, ap (first d) (let e : place + suc (length ns) ≡ suc place + length ns = omega arith in e))))
    (is_answered_op n.request.op) refl (nat_lt una (psn_end n)) refl (nat_lt (max una n.first) psn) refl
  where
    begin : n.first ≡ first d place
    begin = lie.0.1.begin ∙ ap (first d) lie.0.0

    end : psn_end n ≡ first d (suc place)
    end = lie.0.1.end ∙ ap (λ m. first d (suc m)) lie.0.0

    answered : is_answered (d.work place) ≡ is_answered_op n.request.op
    answered = ap (λ m. is_answered (d.work m)) (sym lie.0.0) ∙ ap is_answered lie.0.1.work ∙ sym (answered-of-work n.request.op)

    more : ((m : ℕ) → una ≤ m → m < psn → first d place ≤ m → m < first d (suc place) → is_answered_op n.request.op ≡ false) → PassesTo d una psn (suc place)
    more none q m low high below has = go (cases-lt m (first d place))
      where
        go : (m < first d place) ⊎ (first d place ≤ m) → is_answered (d.work q) ≡ false
        go (inl lt) = before q m low high lt has
        go (inr ge) = ap (λ p. is_answered (d.work p)) (names-one d q place m has (record { from = ge; below = below })) ∙ answered ∙ none m low high ge below

    by : (PassesTo d una psn (suc place) → Stops d una psn (first_unanswered una psn ns))
        → (a : Bool) → is_answered_op n.request.op ≡ a → (b : Bool) → nat_lt una (psn_end n) ≡ b → (c : Bool) → nat_lt (max una n.first) psn ≡ c
        → Stops d una psn (if a && b && c then Some (max una n.first) else first_unanswered una psn ns)
    by rest true ea true eb true ec = record {
      low = omega arith;
      high = ltb-true (max una n.first) psn ec;
      passes = λ q m low high has. before q m low (omega (arith, high, ltb-true (max una n.first) psn ec)) (omega (arith, low, high, begin)) has;
    }
    by rest true ea true eb false ec = rest (more (λ m low high from below. absurd (true≢false (sym (lt-ltb (max una n.first) psn (omega (arith, low, high, from, begin))) ∙ ec))))
    by rest true ea false eb c ec = rest (more (λ m low high from below. absurd (true≢false (sym (lt-ltb una (psn_end n) (omega (arith, low, below, end))) ∙ eb))))
    by rest false ea b eb c ec = rest (more (λ m low high from below. ea))

pub acknowledgement-stops : (d : Direction) (psn : ℕ) (q : QueuePair) → IsLaid d q → psn ≤ begun_end q → Stops d q.requester.una psn (first_unanswered q.requester.una psn (begun_requests q))
acknowledgement-stops d psn q laid high = walk d q.requester.una psn q.requester.oldest (begun_requests q) (begun-lie d q laid)
    (λ p m low below before has. absurd (omega (arith, low, before, laid.begin, laid.passed)))
    (omega (arith, high, laid.begin, lie-end d q.requester.oldest (begun_requests q) (begun-lie d q laid)))
