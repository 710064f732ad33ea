-- The consumers behind the last. For proofs only.
use Rattle.std.proofs.Common.{◌≡◌, refl, ℕ, zero, suc, ◌≤◌, arith, List, [], ◌∷◌, drop, length, min}
use Rattle.ca_script_lines.specs.declared.what.Line.{Line}
use Rattle.ca_script_run.specs.Progress.{lines_behind}

nobody : (consumers : List (List Line)) → lines_behind consumers [] ≡ []
nobody [] = refl
nobody (c ∷ cs) = refl

pub nobody_left : (k : ℕ) (consumers : List (List Line)) (done : List ℕ) → min (length consumers) (length done) ≤ k → lines_behind (drop k consumers) (drop k done) ≡ []
nobody_left zero [] done past = refl
nobody_left zero (c ∷ cs) [] past = refl
nobody_left zero (c ∷ cs) (d ∷ ds) past = absurd (omega (arith, past))
nobody_left (suc k) [] done past = refl
nobody_left (suc k) (c ∷ cs) [] past = nobody (drop k cs)
nobody_left (suc k) (c ∷ cs) (d ∷ ds) past = nobody_left k cs ds (omega (arith, past))
