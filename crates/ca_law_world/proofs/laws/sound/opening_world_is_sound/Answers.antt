use Rattle.ca_law_world.proofs.Sound.SoundLemmas.{opening-sound}
use Rattle.ca_law_world.proofs.laws.sound.opening_world_is_sound.Goals as goal

pub returns : goal.returns
returns c = opening-sound
