use Rattle.ca_law_scripts.proofs.CalmScripts.BoundLemmas.{script-bounded, script-not-spent}
use Rattle.ca_law_scripts.proofs.laws.calm_scripts.calm_scripts_are_bounded.Goals as goal

pub returns : goal.returns
returns c = record { entries = script-bounded; status = script-not-spent }
