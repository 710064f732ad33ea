use Rattle.ca_law_world.proofs.Sound.SoundLemmas.{event-sound}
use Rattle.ca_law_world.proofs.laws.sound.event_keeps_worlds_sound.Goals as goal

pub returns : goal.returns
returns c = event-sound
