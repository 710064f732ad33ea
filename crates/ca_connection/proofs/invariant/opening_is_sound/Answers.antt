use Rattle.ca_connection.proofs.SendLemmas.{opening-sound}
use Rattle.ca_connection.proofs.invariant.opening_is_sound.Goals as goal

pub returns : goal.returns
returns c = opening-sound
