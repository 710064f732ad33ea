use Rattle.std.proofs.Common.{◌≡◌, take}
use Rattle.std.specs.List.{flat_map}
use Rattle.ca_engine.specs.Offers.{timers_of_queue}
use Rattle.ca_engine.proofs.offers.timers_of.Given as goal

abbrev pub invariant-loop-queue : goal.invariant-loop-queue
invariant-loop-queue l = l.offers.items ≡ flat_map timers_of_queue (take l.queue-index l.queues)
