-- A history of a script that keeps to the limits is lawful, and so is its order. For proofs only.
use Rattle.std.specs.Prelude.{List}
use Rattle.ca_law_endings.proofs.EventFitLemmas.{followed-is-history}
use Rattle.ca_law_isolation.proofs.AloneLemmas.{alone-goes}
use Rattle.ca_keys.specs.Memory.{zeros}
use Rattle.ca_law_caused.proofs.RelationLemmas.{relations-along}
use Rattle.ca_model.specs.Entries.{EntryValue}
use Rattle.ca_model.specs.History.{IsHistory}
use Rattle.ca_model.specs.machine.Run.{Follows}
use Rattle.ca_script_order.proofs.FollowLemmas.{order-follows}
use Rattle.ca_script_order.proofs.ScriptLemmas.{order-told}
use Rattle.ca_script_order.specs.OfScript.{LeadsTo}
use Rattle.ca_script_order.specs.Order.{Stage, ending, order}
use Rattle.ca_law_scripts.proofs.OrderLaws.EventLemmas.{AreMade, script-made}
use Rattle.ca_law_scripts.proofs.OrderLaws.StampLemmas.{order-stamped}
use Rattle.ca_law_scripts.specs.Lawful.{IsLawfulHistory, IsLawfulOrder}
use Rattle.ca_law_scripts.specs.Limits.{KeepsToLimits}
use Rattle.ca_script.specs.Script.{ScriptValue}

pub history-lawful : (s : ScriptValue) (es : List EntryValue) (end : Stage) → KeepsToLimits s → IsHistory es → Follows s.config zeros es → LeadsTo s es end → IsLawfulHistory s es end
history-lawful s es end keeps history follows leads = let made : AreMade es = script-made s es end keeps.callable leads in record {
  follows = follows;
  history = history;
  relations = relations-along s.config zeros es keeps.limited made follows;
  isolated = alone-goes s.config zeros es keeps.limited made follows;
  of_script = leads;
}

pub order-lawful : (s : ScriptValue) → KeepsToLimits s → IsLawfulOrder s (order s)
order-lawful s keeps = history-lawful s (order s) (ending s) keeps (followed-is-history s.config zeros (order s) (order-stamped s) (order-follows s)) (order-follows s) (order-told s)
