use Rattle.ca_connection.proofs.CalmLemmas.{cursor-on}
use Rattle.ca_connection.proofs.laws.calm_cursor_goes_on.Goals as goal

pub returns : goal.returns
returns c = cursor-on
