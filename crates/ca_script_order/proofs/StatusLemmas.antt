-- How a script ended is what its status says, and nothing else. For proofs only.
use Rattle.std.proofs.Common.{◌≡◌, ℕ, zero, suc, ◌+◌, ◌<◌, inl, inr, Bool, true, false, if◌then◌else◌, nat_le, nat_lt, List, [], ◌∷◌, length, refl, ap, sym, ◌∙◌, subst, arith, true≢false}
use Rattle.std.proofs.lemmas.Bool.Decides.{nat_tests}
use Rattle.std.proofs.lemmas.List.{length-reverse}
use Rattle.ca_model.specs.declared.event.Event.{Event}
use Rattle.ca_model.specs.machine.Plan.{Outcome, NotReady, Did}
use Rattle.ca_model.specs.machine.Step.{step}
use Rattle.ca_script.specs.Script.{ScriptValue}
use Rattle.ca_script.specs.ca_script_lines.declared.Line.{Line}
use Rattle.ca_script_order.specs.Order.{Stage, after_event, after_outcome, ending, has_no_event_left, lines_of, most_rounds, opening_stage, order, with_lines_left}
use Rattle.ca_script_order.specs.OfScript.{BudgetSpent, Fine, HasEnded, HasStatus, IsQuietEnd, IsStalledAt, Stalled, Status, lines_at, stalled_at, stalled_from, status_of}
use Rattle.ca_script_order.proofs.KeepLemmas.{IsKept, kept-rounds, kept-visit}
use Rattle.ca_script_order.proofs.QuietLemmas.{order-ended}

-- ---- as many entries as are counted

abbrev Counted : Stage → Type 0
Counted g = length g.past ≡ g.count

counted-made : (s : ScriptValue) (event : Event) (done : Stage → Stage) → ((g : Stage) → Counted g → Counted (done g)) → (g : Stage) → Counted g → Counted (after_event s event done g)
counted-made s event done also g counted = by (step s.config g.world event)
  where
    by : (o : Outcome) → Counted (after_outcome event o done g)
    by (NotReady reason) = counted
    by (Did w ms) = also _ (ap suc counted)

counted-kept : (s : ScriptValue) → IsKept s Counted
counted-kept s = record {
  makes = λ event g counted. counted-made s event (λ h. h) (λ h is. is) g counted;
  calls = λ event k rest g counted. counted-made s event (with_lines_left k rest) (λ h is. is) g counted;
  passes = λ k rest g counted. counted;
}

pub order-counted : (s : ScriptValue) → length (order s) ≡ (ending s).count
order-counted s = length-reverse (ending s).past ∙ kept-rounds s Counted (λ g counted. counted) (kept-visit s Counted (counted-kept s)) (most_rounds s) (opening_stage s) refl

-- ---- the first that is not at its end

-- it is the one at this place, of consumers of which the first has the number k
record IsFirst (count k : ℕ) (left : List (List Line)) (i number : ℕ) : Type 0 where
  place : ℕ
  at : i ≡ k + place
  stalled : IsStalledAt count left place number

abbrev FromStatus : ℕ → ℕ → List (List Line) → Status → Type 0
FromStatus count k left Fine = (j : ℕ) → lines_at count (lines_of j left) ≡ []
FromStatus count k left (Stalled i number) = IsFirst count k left i number
FromStatus count k left (BudgetSpent n) = ⊥

from-status : (count k : ℕ) (left : List (List Line)) → FromStatus count k left (stalled_from count k left)
from-status count k [] = λ j. refl
from-status count k (lines ∷ more) = by (lines_at count lines) refl (from-status count (suc k) more)
  where
    none : lines_at count lines ≡ [] → (bound : ℕ) → ((j : ℕ) → j < bound → lines_at count (lines_of j more) ≡ []) → (j : ℕ) → j < suc bound → lines_at count (lines_of j (lines ∷ more)) ≡ []
    none is bound others zero few = is
    none is bound others (suc j) few = others j (omega (arith, few))

    all : lines_at count lines ≡ [] → ((j : ℕ) → lines_at count (lines_of j more) ≡ []) → (j : ℕ) → lines_at count (lines_of j (lines ∷ more)) ≡ []
    all is others zero = is
    all is others (suc j) = others j

    behind : lines_at count lines ≡ [] → (status : Status) → FromStatus count (suc k) more status → FromStatus count k (lines ∷ more) status
    behind is Fine others = all is others
    behind is (Stalled i number) f = record {
      place = suc f.place;
      at = omega (arith, f.at);
      stalled = record {
        before = none is f.place f.stalled.before;
        line = f.stalled.line;
        rest = f.stalled.rest;
        stands = f.stalled.stands;
        is = f.stalled.is;
      };
    }
    behind is (BudgetSpent n) f = absurd f

    by : (ls : List Line) → lines_at count lines ≡ ls → FromStatus count (suc k) more (stalled_from count (suc k) more) → FromStatus count k (lines ∷ more) (stalled_at k ls (stalled_from count (suc k) more))
    by [] is others = behind is (stalled_from count (suc k) more) others
    by (line ∷ rest) is others = record {
      place = 0;
      at = omega arith;
      stalled = record { before = λ j few. absurd (omega (arith, few)); line = line; rest = rest; stands = is; is = refl };
    }

pub ended-status : (s : ScriptValue) (g : Stage) → HasEnded s g → HasStatus s g (status_of s g)
ended-status s g ended = by (nat_le s.config.events g.count) refl
  where
    quiet : has_no_event_left s g ≡ false → HasEnded s g → IsQuietEnd s g
    quiet room (inl full) = absurd (true≢false (sym full ∙ room))
    quiet room (inr rest) = rest

    few : has_no_event_left s g ≡ false → g.count < s.config.events
    few room = grind (arith, nat_tests, room)

    of_status : has_no_event_left s g ≡ false → (status : Status) → FromStatus g.count 0 g.left status → HasStatus s g status
    of_status room Fine all = (few room, quiet room ended, all)
    of_status room (Stalled i number) f = (few room, quiet room ended, subst (λ k. IsStalledAt g.count g.left k number) (omega (arith, f.at)) f.stalled)
    of_status room (BudgetSpent n) f = absurd f

    by : (b : Bool) → has_no_event_left s g ≡ b → HasStatus s g (if b then BudgetSpent g.count else stalled_from g.count 0 g.left)
    by true full = (refl, grind (arith, nat_tests, full))
    by false room = of_status room (stalled_from g.count 0 g.left) (from-status g.count 0 g.left)

pub order-status : (s : ScriptValue) → HasStatus s (ending s) (status_of s (ending s))
order-status s = ended-status s (ending s) (order-ended s)

-- ---- a stage has one status

not-both : {A : Type 0} (xs : List A) (x : A) (more : List A) → xs ≡ [] → xs ≡ x ∷ more → ⊥
not-both xs x more none some = cc

first-line : (line other : Line) (rest more : List Line) → line ∷ rest ≡ other ∷ more → line ≡ other
first-line line other rest more same = cc

pub one-status : (s : ScriptValue) (g : Stage) (a b : Status) → HasStatus s g a → HasStatus s g b → a ≡ b
one-status s g Fine Fine one other = refl
one-status s g Fine (Stalled k number) one other = absurd (not-both (lines_at g.count (lines_of k g.left)) other.2.line other.2.rest (one.2 k) other.2.stands)
one-status s g Fine (BudgetSpent n) one other = absurd (omega (arith, one.0, other.0, other.1))
one-status s g (Stalled k number) Fine one other = absurd (not-both (lines_at g.count (lines_of k g.left)) one.2.line one.2.rest (other.2 k) one.2.stands)
one-status s g (Stalled k number) (Stalled j other_number) one other = by (nat_lt k j) (nat_lt j k) refl refl
  where
    same : k ≡ j → Stalled k number ≡ Stalled j other_number
    same is =
        let lines : one.2.line ∷ one.2.rest ≡ other.2.line ∷ other.2.rest = sym one.2.stands ∙ ap (λ i. lines_at g.count (lines_of i g.left)) is ∙ other.2.stands
        in let numbers : number ≡ other_number = sym one.2.is ∙ ap (λ (l : Line). l.number) (first-line one.2.line other.2.line one.2.rest other.2.rest lines) ∙ other.2.is
        in ap (λ i. Stalled i number) is ∙ ap (Stalled j) numbers

    by : (a b : Bool) → nat_lt k j ≡ a → nat_lt j k ≡ b → Stalled k number ≡ Stalled j other_number
    by true b is so = absurd (not-both (lines_at g.count (lines_of k g.left)) one.2.line one.2.rest (other.2.before k (grind (arith, nat_tests, is))) one.2.stands)
    by false true is so = absurd (not-both (lines_at g.count (lines_of j g.left)) other.2.line other.2.rest (one.2.before j (grind (arith, nat_tests, so))) other.2.stands)
    by false false is so = same (grind (arith, nat_tests, is, so))
one-status s g (Stalled k number) (BudgetSpent n) one other = absurd (omega (arith, one.0, other.0, other.1))
one-status s g (BudgetSpent n) Fine one other = absurd (omega (arith, one.0, one.1, other.0))
one-status s g (BudgetSpent n) (Stalled k number) one other = absurd (omega (arith, one.0, one.1, other.0))
one-status s g (BudgetSpent n) (BudgetSpent m) one other = ap BudgetSpent (sym one.0 ∙ other.0)

-- what a status says of a stage is so only where it has ended
has-ended : (s : ScriptValue) (g : Stage) (status : Status) → HasStatus s g status → HasEnded s g
has-ended s g Fine has = inr has.1
has-ended s g (Stalled k number) has = inr has.1
has-ended s g (BudgetSpent n) has = inl (grind (arith, nat_tests, has.0, has.1))

pub status-alone : (s : ScriptValue) (g : Stage) (status : Status) → HasStatus s g status → status ≡ status_of s g
status-alone s g status has = one-status s g status (status_of s g) has (ended-status s g (has-ended s g status has))
