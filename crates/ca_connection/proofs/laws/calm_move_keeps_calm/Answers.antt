use Rattle.ca_connection.proofs.CalmLemmas.{calm-move}
use Rattle.ca_connection.proofs.LinkLemmas.{calm-link}
use Rattle.ca_connection.proofs.laws.calm_move_keeps_calm.Goals as goal

pub returns-clause-link : goal.returns-clause-link
returns-clause-link c = calm-link

pub returns-clause-calm : goal.returns-clause-calm
returns-clause-calm c = calm-move
