-- Which verb a consumer calls next, and for which clock it waits before. Contracts of the crate's own functions cite it.
use Rattle.std.specs.Prelude.{◌≡◌, ℕ, ◌≤◌, ◌+◌, List, ◌∷◌, ◌++◌, length, drop}
use Rattle.std.specs.List.{AllByRecursion}
use Rattle.ca_model.specs.declared.verb.Verb.{Verb}
use Rattle.ca_script_lines.specs.declared.Line.{Line}
use Rattle.ca_script_lines.specs.declared.what.What.{What}
use Rattle.ca_script_lines.specs.declared.what.What.TheVariants as whats

-- a line waits, for no later clock than this
abbrev pub Waits : ℕ → What → Type 0
Waits clock (whats.Verb verb) = ⊥
Waits clock (whats.At t) = t ≤ clock

abbrev pub AllWait : ℕ → List Line → Type 0
AllWait clock lines = AllByRecursion (λ line. Waits clock line.what) lines

-- Behind so many lines the next that calls a verb stands at this place. Those before it wait, for no later clock than this.
pub record IsNextCall (lines : List Line) (passed at clock : ℕ) (verb : Verb) : Type 0 where
  pub waiting : List Line
  pub line : Line
  pub rest : List Line
  pub is : drop passed lines ≡ waiting ++ line ∷ rest
  pub waits : AllWait clock waiting
  pub calls : line.what ≡ whats.Verb verb
  pub place : at ≡ passed + length waiting

-- The lines between two places wait, for no later clock than this.
pub record AreWaiting (lines : List Line) (passed at clock : ℕ) : Type 0 where
  pub waiting : List Line
  pub is : drop passed lines ≡ waiting ++ drop at lines
  pub waits : AllWait clock waiting
  pub place : at ≡ passed + length waiting
