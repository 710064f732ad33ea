use Rattle.ca_law_once.proofs.Rows.TurnLemmas.{packet-row-forgets}
use Rattle.ca_law_once.proofs.turns.packet_row_forgets.Goals as goal

pub returns : goal.returns
returns c = packet-row-forgets
