use Rattle.ca_connection.proofs.MoveLemmas.{move-sound}
use Rattle.ca_connection.proofs.invariant.move_keeps_sound.Goals as goal

pub returns : goal.returns
returns c = move-sound
