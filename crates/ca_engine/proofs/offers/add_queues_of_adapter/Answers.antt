use Rattle.std.proofs.Common.{ℕ, List, map}
use Rattle.std.specs.List.{flat_map}
use Rattle.ca_keys.specs.Numbers.{queue_of}
use Rattle.ca_keys.specs.declared.names.QueueId.{QueueId}
use Rattle.ca_script_order.specs.Visits.{numbers_below}
use Rattle.ca_engine.proofs.OfferLemmas.{added, flat_more}
use Rattle.ca_engine.proofs.offers.add_queues_of_adapter.Goals as goal

pub loop-domain-preserved : goal.loop-domain-preserved
loop-domain-preserved c =
    let f : ℕ → List QueueId = λ d. map (λ s. queue_of (record { domain = record { adapter = c.args.adapter; domain = d }; slot = s })) (numbers_below c.args.config.now.qps)
    in added c.args.queues.now.items (flat_map f (numbers_below c.loop-domain.domain)) c.loop-domain.queues.items (f c.loop-domain.domain) _ _
    c.in_ok-add_queues_of_domain.ensures c.loop-domain.invariant (flat_more f c.loop-domain.domain)
