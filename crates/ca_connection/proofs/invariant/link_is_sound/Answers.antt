use Rattle.ca_connection.proofs.MoveLemmas.{reached-sound}
use Rattle.ca_connection.proofs.invariant.link_is_sound.Goals as goal

pub returns : goal.returns
returns c = reached-sound
