-- When an engine may take a step with a queue pair. Contracts cite it.
use Rattle.std.specs.Prelude.{◌^◌, ◌<◌}
use Rattle.ca_base.specs.objects.QueuePair.{QueuePair}
use Rattle.ca_model.specs.machine.Invariants.{IsQueue}

-- Numbers that only events raise lie far below the ends of their types: the whole PSNs, and the counts of RNR NAKs and of
-- timers.
pub record AreNarrow (q : QueuePair) : Type 0 where
  pub una : q.requester.una < 2 ^ 62
  pub cursor : q.requester.cursor < 2 ^ 62
  pub oldest_psn : q.requester.oldest_psn < 2 ^ 62
  pub rnrs : q.requester.rnrs < 2 ^ 62
  pub timers : q.requester.timers < 2 ^ 62
  pub expected : q.responder.expected < 2 ^ 62

-- the queue pair can come up, and its numbers are narrow
pub record CanStep (q : QueuePair) : Type 0 where
  pub queue : IsQueue q
  pub narrow : AreNarrow q
