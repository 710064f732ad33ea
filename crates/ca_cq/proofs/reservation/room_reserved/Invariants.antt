use Rattle.std.proofs.Common.{◌≡◌, ◌≤◌, ◌-◌, ◌^◌, drop, length, min}
use Rattle.ca_base.specs.objects.CompletionQueue.{room_reserved}
use Rattle.ca_cq.proofs.reservation.room_reserved.Given as goal

-- what the reservations from this place on take
abbrev pub invariant-loop-place : goal.invariant-loop-place
invariant-loop-place l = (l.place ≤ length l.reservations) × (l.room ≡ min (room_reserved (drop l.place l.reservations)) (2 ^ 32 - 1))

abbrev pub decreases-loop-place : goal.decreases-loop-place
decreases-loop-place l = l.place
