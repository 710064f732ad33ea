use Rattle.std.proofs.Common.{◌≡◌, ◌++◌, map}
use Rattle.ca_script_order.specs.Visits.{numbers_below}
use Rattle.ca_engine.specs.declared.offer.Offer.TheVariants as variants
use Rattle.ca_engine.proofs.offers.add_consumers.Given as goal

abbrev pub invariant-loop-consumer : goal.invariant-loop-consumer
invariant-loop-consumer l = l.offers.items ≡ l.fn.offers.items ++ map variants.Consumer (numbers_below l.consumer)
