use Rattle.std.proofs.Common.{◌≡◌, ◌++◌, drop, filter, not, take}
use Rattle.circular_buffer.specs.Buffer.{buffer}
use Rattle.ca_cq.proofs.removal.remove.Given as goal

-- the things that were not looked at yet, and behind them those that stay
abbrev pub invariant-loop : goal.invariant-loop
invariant-loop g l =
    l.ring
    ≡ buffer (drop l.counter l.initial.ring.items ++ filter (λ x. not (g.R.Removal.names l.which x)) (take l.counter l.initial.ring.items))
    l.initial.ring.capacity
