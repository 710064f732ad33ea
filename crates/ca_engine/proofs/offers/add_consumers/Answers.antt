use Rattle.std.proofs.Common.{[], ◌∷◌, map}
use Rattle.ca_script_order.specs.Visits.{numbers_below}
use Rattle.ca_engine.specs.declared.offer.Offer.TheVariants as variants
use Rattle.ca_engine.proofs.OfferLemmas.{added, map_more}
use Rattle.ca_engine.proofs.offers.add_consumers.Goals as goal

pub loop-consumer-preserved : goal.loop-consumer-preserved
loop-consumer-preserved c = added c.args.offers.now.items (map variants.Consumer (numbers_below c.loop-consumer.consumer)) c.loop-consumer.offers.items (variants.Consumer c.loop-consumer.consumer ∷ []) _ _
    c.in_ok-push.ensures.items c.loop-consumer.invariant (map_more variants.Consumer c.loop-consumer.consumer)
