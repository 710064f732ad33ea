-- The lines that are left of consumers behind those that each has done. For proofs only.
use Rattle.std.proofs.Common.{◌≡◌, ◌∙◌, refl, sym, ap, subst, ℕ, zero, suc, ◌+◌, ◌≤◌, arith, Bool, true, false, true≢false, List, [], ◌∷◌, drop, length, sum_by, Option, None, Some, is_some, slice_get, slice_index, slice_set}
use Rattle.std.proofs.lemmas.List.{length-drop}
use Rattle.std.proofs.lemmas.List.Sums.{sum_by-cons}
use Rattle.ca_script_order.specs.Order.{HasNoMoreLines, Stage, lines_of}
use Rattle.ca_script.specs.Script.{ScriptValue}
use Rattle.ca_script_lines.specs.declared.what.Line.{Line}
use Rattle.ca_script_run.specs.Progress.{IsAt, lines_behind}
use Rattle.ca_script_run.specs.declared.progress.Progress.{Progress}

first-behind : (n : ℕ) (lines : List Line) → slice_get (drop n lines) 0 ≡ slice_get lines n
first-behind zero lines = refl
first-behind (suc n) [] = refl
first-behind (suc n) (x ∷ xs) = first-behind n xs

-- a consumer that is not there has no line left
pub behind_nobody : (consumers : List (List Line)) (done : List ℕ) (k : ℕ) → slice_get consumers k ≡ None
    → slice_get (lines_of k (lines_behind consumers done)) 0 ≡ None
behind_nobody [] done k none = refl
behind_nobody (c ∷ cs) [] k none = refl
behind_nobody (c ∷ cs) (d ∷ ds) zero none = absurd (true≢false (ap is_some none))
behind_nobody (c ∷ cs) (d ∷ ds) (suc k) none = behind_nobody cs ds k none

pub behind_nothing : (consumers : List (List Line)) (done : List ℕ) (k : ℕ) → slice_get done k ≡ None
    → slice_get (lines_of k (lines_behind consumers done)) 0 ≡ None
behind_nothing [] done k none = refl
behind_nothing (c ∷ cs) [] k none = refl
behind_nothing (c ∷ cs) (d ∷ ds) zero none = absurd (true≢false (ap is_some none))
behind_nothing (c ∷ cs) (d ∷ ds) (suc k) none = behind_nothing cs ds k none

-- the line behind those that a consumer has done
pub behind_some : (consumers : List (List Line)) (done : List ℕ) (k : ℕ) (lines : List Line) (n : ℕ) → slice_get consumers k ≡ Some lines → slice_get done k ≡ Some n
    → slice_get (lines_of k (lines_behind consumers done)) 0 ≡ slice_get lines n
behind_some [] done k lines n there passed = absurd (true≢false (sym (ap is_some there)))
behind_some (c ∷ cs) [] k lines n there passed = absurd (true≢false (sym (ap is_some passed)))
behind_some (c ∷ cs) (d ∷ ds) zero lines n there passed = first-behind d c ∙ (λ i. slice_get (given c (there i)) (given d (passed i)))
  where
    given : {A : Type 0} → A → Option A → A
    given x None = x
    given x (Some y) = y
behind_some (c ∷ cs) (d ∷ ds) (suc k) lines n there passed = behind_some cs ds k lines n there passed

rest-behind : (n : ℕ) (lines : List Line) (line : Line) (rest : List Line) → drop n lines ≡ line ∷ rest → rest ≡ drop (suc n) lines
rest-behind zero [] line rest is = absurd (true≢false (ap begins (sym is)))
  where
    begins : List Line → Bool
    begins [] = false
    begins (x ∷ xs) = true
rest-behind zero (x ∷ xs) line rest is = sym (ap (drop 1) is)
rest-behind (suc n) [] line rest is = absurd (true≢false (ap begins (sym is)))
  where
    begins : List Line → Bool
    begins [] = false
    begins (x ∷ xs) = true
rest-behind (suc n) (x ∷ xs) line rest is = rest-behind n xs line rest is

-- one line more is done
pub line_passed : (consumers : List (List Line)) (done : List ℕ) (k : ℕ) (line : Line) (rest : List Line) → lines_of k (lines_behind consumers done) ≡ line ∷ rest
    → slice_set (lines_behind consumers done) k rest ≡ lines_behind consumers (slice_set done k (slice_index done k + 1))
line_passed [] done k line rest is = absurd (true≢false (ap begins (sym is)))
  where
    begins : List Line → Bool
    begins [] = false
    begins (x ∷ xs) = true
line_passed (c ∷ cs) [] k line rest is = absurd (true≢false (ap begins (sym is)))
  where
    begins : List Line → Bool
    begins [] = false
    begins (x ∷ xs) = true
line_passed (c ∷ cs) (d ∷ ds) zero line rest is = ap (λ xs. xs ∷ lines_behind cs ds) (rest-behind d c line rest is ∙ ap (λ n. drop n c) (one d))
  where
    one : (n : ℕ) → suc n ≡ n + 1
    one n = omega arith
line_passed (c ∷ cs) (d ∷ ds) (suc k) line rest is = ap (λ xs. drop d c ∷ xs) (line_passed cs ds k line rest is)

-- no more lines are left than there were
fewer-behind : (consumers : List (List Line)) (done : List ℕ) → sum_by (λ (lines : List Line). length lines) (lines_behind consumers done) ≤ sum_by (λ (lines : List Line). length lines) consumers
fewer-behind [] done = omega arith
fewer-behind (c ∷ cs) [] = omega arith
fewer-behind (c ∷ cs) (d ∷ ds) = omega (
  arith,
  sum_by-cons (λ (lines : List Line). length lines) (drop d c) (lines_behind cs ds),
  sum_by-cons (λ (lines : List Line). length lines) c cs,
  length-drop d c,
  fewer-behind cs ds,
)

pub few_lines : (s : ScriptValue) (g : Stage) (p : Progress) → IsAt s g p → HasNoMoreLines s g
few_lines s g p at = subst (λ left. sum_by (λ (lines : List Line). length lines) left ≤ sum_by (λ (lines : List Line). length lines) s.consumers) (sym at.left)
    (fewer-behind s.consumers p.done.items)
