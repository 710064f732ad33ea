-- A script that keeps to the limits. Contracts cite it.
use Rattle.ca_model.specs.machine.Sound.{AreLimited}
use Rattle.ca_law_scripts.specs.Rest.{AreCallable}
use Rattle.ca_script.specs.Script.{ScriptValue}

-- A script keeps to the limits: its configuration does, and the list of each request that a line posts has as few pieces
-- as its type allows.
pub record KeepsToLimits (s : ScriptValue) : Type 0 where
  pub limited : AreLimited s.config
  pub callable : AreCallable s.consumers
