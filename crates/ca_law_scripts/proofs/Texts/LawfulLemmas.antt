-- The order of a script that a text means is lawful. For proofs only.
use Rattle.std.proofs.Common.{◌≡◌, ℕ, List, Ok}
use Rattle.ca_script_order.specs.Order.{order}
use Rattle.ca_law_scripts.proofs.OrderLaws.LawfulLemmas.{order-lawful}
use Rattle.ca_law_scripts.specs.Lawful.{IsLawfulOrder}
use Rattle.ca_law_scripts.proofs.Rest.TextLemmas.{text-callable, text-limited}
use Rattle.ca_script.specs.Script.{ScriptValue, script_of}

pub lawful-by-text : (text : List ℕ) (s : ScriptValue) → script_of text ≡ Ok s → IsLawfulOrder s (order s)
lawful-by-text text s reads = order-lawful s (record { limited = text-limited text s reads; callable = text-callable text s reads })
