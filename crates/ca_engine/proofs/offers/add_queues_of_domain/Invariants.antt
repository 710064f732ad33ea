use Rattle.std.proofs.Common.{◌≡◌, ◌++◌, map}
use Rattle.ca_keys.specs.Numbers.{queue_of}
use Rattle.ca_script_order.specs.Visits.{numbers_below}
use Rattle.ca_engine.proofs.offers.add_queues_of_domain.Given as goal

abbrev pub invariant-loop-slot : goal.invariant-loop-slot
invariant-loop-slot l = l.queues.items ≡ l.fn.queues.items ++ map (λ s. queue_of (record { domain = l.domain; slot = s })) (numbers_below l.slot)
