-- Which receives are flushed with the sends of a queue pair. Contracts cite it.
use Rattle.std.specs.Prelude.{◌≡◌, ℕ, ◌<◌, None, IfSome}
use Rattle.ca_base.specs.objects.QueuePair.{QueuePair}
use Rattle.ca_base.specs.objects.WorkQueue.{waiting_count}
use Rattle.ca_model.specs.machine.Arrivals.{with_message, with_receive_taken}
use Rattle.ca_responder_answers.specs.declared.flush.FlushedReceives.{FlushedReceives}
use Rattle.ca_responder_answers.specs.declared.flush.FlushedReceives.TheVariants.{All, Waiting, BehindNext}

-- the queue pair with the receives that are to be flushed
abbrev pub left_to_flush : FlushedReceives → QueuePair → QueuePair
left_to_flush All q = q
left_to_flush Waiting q = with_message None q
left_to_flush BehindNext q = with_message None (with_receive_taken q)

-- the next receive waits, where the flush begins behind it
abbrev pub CanFlush : FlushedReceives → QueuePair → Type 0
CanFlush receives q = receives ≡ BehindNext → IfSome q.receives (λ r. 0 < waiting_count r)

-- how many of the receives that wait stand before those that are flushed
abbrev pub first_behind : FlushedReceives → ℕ
first_behind All = 0
first_behind Waiting = 0
first_behind BehindNext = 1
