-- Why a fabric is not closed. Contracts cite it.
use Rattle.std.specs.Prelude.{◌≡◌, ◌<◌, Result, Err}
use Rattle.ca_base.specs.declared.limits.TheConstants.{MAX_PASSES}
use Rattle.ca_verbs.specs.Passes.{known_of}
use Rattle.ca_verbs.specs.declared.close_error.CloseError.{CloseError}
use Rattle.ca_verbs.specs.declared.close_error.CloseError.TheVariants as errors
use Rattle.ca_verbs.specs.declared.fabric.Fabric.{Fabric}
use Rattle.ca_verbs.specs.declared.pass.Pass.{Pass}

-- the answer is that a pass is out
abbrev pub IsPassOut : {A : Type 0} → Result A CloseError → Type 0
IsPassOut (Err (errors.PassOut f p)) = Unit {0}
IsPassOut r = ⊥

-- both come back as they were; that a pass is out is said only where the share of the pass is below the whole
abbrev pub IsCauseOf : Fabric → Pass → CloseError → Type 0
IsCauseOf fabric pass (errors.PassOut f p) = (f ≡ fabric) × (p ≡ pass) × ((known_of pass).share < MAX_PASSES)
IsCauseOf fabric pass (errors.Memory f p) = (f ≡ fabric) × (p ≡ pass)
