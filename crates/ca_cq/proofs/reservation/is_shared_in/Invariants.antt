use Rattle.std.proofs.Common.{◌≡◌, drop}
use Rattle.ca_base.specs.objects.CompletionQueue.{is_shared_in}
use Rattle.ca_cq.proofs.reservation.is_shared_in.Given as goal

-- the reservations that were passed are for other queues
abbrev pub invariant-loop-reservation : goal.invariant-loop-reservation
invariant-loop-reservation l = is_shared_in (drop l.reservation-index l.reservations) l.fn.who ≡ is_shared_in l.reservations l.fn.who
