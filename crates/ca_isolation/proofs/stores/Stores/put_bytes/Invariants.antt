use Rattle.std.proofs.Common.{◌-◌, ◌≤◌, length}
use Rattle.ca_isolation.specs.Alone.{cells_from}
use Rattle.ca_isolation.specs.Cover.{covers}
use Rattle.ca_isolation.specs.Extents.{place_of}
use Rattle.ca_isolation.specs.Putting.{HasPut}
use Rattle.ca_isolation.proofs.stores.Stores.put_bytes.Given as goal

abbrev pub invariant-loop-done : goal.invariant-loop-done
invariant-loop-done l = (l.done ≤ length l.bytes) × HasPut (covers l.cover) (cells_from (place_of l.at) l.done l.bytes) l.initial.self l.self

abbrev pub decreases-loop-done : goal.decreases-loop-done
decreases-loop-done l = length l.bytes - l.done
