-- A history of a script that is lawful. Contracts cite it.
use Rattle.std.specs.Prelude.{List}
use Rattle.ca_isolation.specs.Alone.{Isolated}
use Rattle.ca_keys.specs.Memory.{zeros}
use Rattle.ca_law_caused.specs.Relations.{HasRelations}
use Rattle.ca_model.specs.Entries.{EntryValue}
use Rattle.ca_model.specs.History.{IsHistory}
use Rattle.ca_model.specs.machine.Run.{Follows}
use Rattle.ca_script_order.specs.OfScript.{LeadsTo}
use Rattle.ca_script_order.specs.Order.{Stage, ending}
use Rattle.ca_script.specs.Script.{ScriptValue}

-- A history of a script over buffers of zeros is lawful: it follows the machine, is a history, has all the relations, and is
-- isolated; and it is one of the script, and leads to this stage.
pub record IsLawfulHistory (s : ScriptValue) (es : List EntryValue) (end : Stage) : Type 0 where
  pub follows : Follows s.config zeros es
  pub history : IsHistory es
  pub relations : HasRelations zeros es
  pub isolated : Isolated s.config zeros es
  pub of_script : LeadsTo s es end

-- a history that leads to where the order of the script ends
abbrev pub IsLawfulOrder : ScriptValue → List EntryValue → Type 0
IsLawfulOrder s es = IsLawfulHistory s es (ending s)
