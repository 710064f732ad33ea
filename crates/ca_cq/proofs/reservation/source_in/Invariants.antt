use Rattle.std.proofs.Common.{◌≡◌, drop}
use Rattle.ca_base.specs.objects.CompletionQueue.{source_in}
use Rattle.ca_cq.proofs.reservation.source_in.Given as goal

-- the reservations that were passed name no shared receive queue for the queue pair
abbrev pub invariant-loop-reservation : goal.invariant-loop-reservation
invariant-loop-reservation l = source_in (drop l.reservation-index l.reservations) l.queue ≡ source_in l.reservations l.queue
