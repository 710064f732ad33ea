-- What is flushed behind a request that has ended. Contracts cite it.
use Rattle.std.specs.Prelude.{ℕ}
use Rattle.ca_base.specs.objects.QueuePair.{QueuePair}

-- the queue pair whose oldest unfinished request stands at this posting place
abbrev pub with_oldest : ℕ → QueuePair → QueuePair
with_oldest oldest q = record q { requester = record q.requester { oldest = oldest } }
