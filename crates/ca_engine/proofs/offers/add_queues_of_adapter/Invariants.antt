use Rattle.std.proofs.Common.{◌≡◌, ◌++◌, map}
use Rattle.std.specs.List.{flat_map}
use Rattle.ca_keys.specs.Numbers.{queue_of}
use Rattle.ca_script_order.specs.Visits.{numbers_below}
use Rattle.ca_engine.proofs.offers.add_queues_of_adapter.Given as goal

abbrev pub invariant-loop-domain : goal.invariant-loop-domain
invariant-loop-domain l = l.queues.items ≡ l.fn.queues.items
    ++ flat_map (λ d. map (λ s. queue_of (record { domain = record { adapter = l.adapter; domain = d }; slot = s })) (numbers_below l.config.qps)) (numbers_below l.domain)
