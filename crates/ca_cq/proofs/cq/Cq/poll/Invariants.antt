use Rattle.std.proofs.Common.{◌≡◌, take, drop}
use Rattle.circular_buffer.specs.Buffer.{buffer}
use Rattle.ca_cq.proofs.cq.Cq.poll.Given as goal

-- the first so many were taken, and the others wait
abbrev pub invariant-loop : goal.invariant-loop
invariant-loop l =
    (l.completions.items ≡ take l.counter l.fn.self.waiting)
    × (l.self-inside.waiting ≡ buffer (drop l.counter l.fn.self.waiting) l.fn.self.capacity)
    × (l.self-inside.reservations.items ≡ l.fn.self.reservations)
