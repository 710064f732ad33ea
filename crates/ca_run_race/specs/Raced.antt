-- What came of a race: how far the workers came, in whatever order, and what the caller made of it alone. Contracts cite it.
use Rattle.std.specs.Prelude.{◌≡◌, List, reverse}
use Rattle.ca_keys.specs.Memory.{zeros}
use Rattle.ca_model.specs.Entries.{EntryValue}
use Rattle.ca_model.specs.machine.Run.{Follows}
use Rattle.ca_script_order.specs.OfScript as machine
use Rattle.ca_script_order.specs.OfScript.{LeadsTo}
use Rattle.ca_script_order.specs.Order.{HasNoMoreLines, Stage, ending_from}
use Rattle.ca_script.specs.Script.{ScriptValue}
use Rattle.ca_script_run.specs.Progress.{IsAt}
use Rattle.ca_script_run.specs.declared.progress.Progress.{Progress}

-- A stage to which a history of the script leads that follows the machine over buffers of zeros. No more lines are left than
-- the script has.
pub record IsReached (s : ScriptValue) (g : Stage) : Type 0 where
  pub follows : Follows s.config zeros (reverse g.past)
  pub leads : LeadsTo s (reverse g.past) g
  pub lines : HasNoMoreLines s g

-- what is kept is of such a stage
pub record IsGathered (s : ScriptValue) (p : Progress) : Type 0 where
  pub stage : Stage
  pub at : IsAt s stage p
  pub reached : IsReached s stage

-- The workers came to some stage, and what is there are the rounds from it: the history, and how the script ended.
pub record IsRaced (s : ScriptValue) (history : List EntryValue) (status : machine.Status) : Type 0 where
  pub stage : Stage
  pub reached : IsReached s stage
  pub history_is : history ≡ reverse (ending_from s stage).past
  pub status_is : status ≡ machine.status_of s (ending_from s stage)
