-- Handed on under the names that other crates cite. For proofs only.
use Rattle.std.proofs.Common.{◌≡◌, subst}
use Rattle.ca_law_world.proofs.Sound.WorldLemmas.{IsThere, is-there}
use Rattle.ca_base.specs.Configuration.{Configuration}
use Rattle.ca_base.specs.objects.QueuePair.{QueuePair, Present}
use Rattle.ca_keys.specs.declared.names.QueueId.{QueueId}
use Rattle.ca_model.specs.machine.Sound.{IsQueueOf, IsSoundWorld}
use Rattle.ca_model.specs.machine.World.{World, Queue_of}
pub use Rattle.ca_law_keys.proofs.Keys.KeyFrame.{IsUp, own-adapter}

-- a queue pair that is found stands under its own name
pub found : (c : Configuration) (w : World) (name : QueueId) (q : QueuePair) → IsSoundWorld c w → w.queue name ≡ Present q → IsThere w q
found c w name q sound is = is-there w name q is (subst (IsQueueOf name) is (sound.things (Queue_of name)))
