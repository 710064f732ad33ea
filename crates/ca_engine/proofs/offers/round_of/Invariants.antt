use Rattle.std.proofs.Common.{◌≡◌, ◌++◌, map, take}
use Rattle.std.specs.List.{flat_map}
use Rattle.ca_script_order.specs.Visits.{numbers_below}
use Rattle.ca_engine.specs.Offers.{turns_of_queue}
use Rattle.ca_engine.specs.declared.offer.Offer.TheVariants as variants
use Rattle.ca_engine.proofs.offers.round_of.Given as goal

abbrev pub invariant-loop-queue : goal.invariant-loop-queue
invariant-loop-queue l = l.offers.items ≡ map variants.Consumer (numbers_below l.consumers) ++ flat_map turns_of_queue (take l.queue-index l.queues)
