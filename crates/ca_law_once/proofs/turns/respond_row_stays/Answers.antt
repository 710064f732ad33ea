use Rattle.ca_law_once.proofs.Rows.TurnLemmas.{respond-row-stays}
use Rattle.ca_law_once.proofs.turns.respond_row_stays.Goals as goal

pub returns : goal.returns
returns c = respond-row-stays
