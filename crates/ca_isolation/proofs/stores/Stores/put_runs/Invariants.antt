use Rattle.std.proofs.Common.{drop, length}
use Rattle.ca_isolation.specs.Alone.{cells_of}
use Rattle.ca_keys.specs.Memory.{cut}
use Rattle.ca_isolation.proofs.RunLemmas.{IsLeft}
use Rattle.ca_isolation.specs.Cover.{covers}
use Rattle.ca_isolation.proofs.stores.Stores.put_runs.Given as goal

abbrev pub invariant-loop-run : goal.invariant-loop-run
invariant-loop-run l = IsLeft (covers l.cover) (cells_of (cut l.before (length l.bytes) l.runs) l.bytes) l.initial.self l.self l.skip l.done (drop l.run-index l.runs) l.bytes
