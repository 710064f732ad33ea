use Rattle.std.proofs.Common.{ℕ, [], ◌∷◌, ◌++◌, map, sym, ap, ◌∙◌}
use Rattle.ca_keys.specs.Numbers.{queue_of}
use Rattle.ca_keys.specs.declared.names.QueueId.{QueueId}
use Rattle.ca_script_order.specs.Visits.{numbers_below}
use Rattle.ca_engine.proofs.OfferLemmas.{added, map_more}
use Rattle.ca_engine.proofs.offers.add_queues_of_domain.Goals as goal

pub loop-slot-preserved : goal.loop-slot-preserved
loop-slot-preserved c =
    let f : ℕ → QueueId = λ s. queue_of (record { domain = c.args.domain; slot = s })
    in added c.args.queues.now.items (map f (numbers_below c.loop-slot.slot)) c.loop-slot.queues.items (c.of_slot.result ∷ []) _ _
    c.in_ok-push.ensures.items c.loop-slot.invariant
    (map_more f c.loop-slot.slot ∙ ap (λ q. map f (numbers_below c.loop-slot.slot) ++ q ∷ []) (sym c.of_slot.ensures))
