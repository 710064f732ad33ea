use Rattle.std.proofs.Common.{◌≡◌, ◌&&◌, filter, map, take}
use Rattle.ca_keys.specs.Equal.{queue_eq}
use Rattle.ca_cq.proofs.ring.places_of.Given as goal

-- the places of the receives among those that were looked at
abbrev pub invariant-loop-i : goal.invariant-loop-i
invariant-loop-i l =
    l.places.items ≡ map (λ c. c.place) (filter (λ c. c.receive && queue_eq c.queue l.fn.queue) (take l.i l.waiting.items))
