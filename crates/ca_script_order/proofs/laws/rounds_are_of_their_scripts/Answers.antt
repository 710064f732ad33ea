use Rattle.ca_script_order.proofs.ScriptLemmas.{leads-counted, rounds-told}
use Rattle.ca_script_order.specs.Order.{after_rounds}
use Rattle.ca_script_order.proofs.laws.rounds_are_of_their_scripts.Goals as goal

pub returns : goal.returns
returns c = record {
  leads = rounds-told;
  count = λ s n g leads. leads-counted s (after_rounds s n g) (rounds-told s n g leads);
}
