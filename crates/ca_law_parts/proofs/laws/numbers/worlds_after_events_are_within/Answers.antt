use Rattle.ca_law_parts.proofs.Numbers.EventNumberLemmas.{opening-within}
use Rattle.ca_law_parts.proofs.Numbers.LimitLemmas.{worlds-within}
use Rattle.ca_law_parts.proofs.laws.numbers.worlds_after_events_are_within.Goals as goal
use Rattle.ca_law_world.proofs.Sound.SoundLemmas.{opening-sound}
use Rattle.ca_model.specs.machine.World.{opening_world}

pub returns : goal.returns
returns c = λ config byte events limited made. worlds-within config 0 (opening_world byte) events limited made (opening-sound config byte) (opening-within byte)
