use Rattle.std.proofs.Common.{List, drop}
use Rattle.ca_keys.specs.Memory.{is_in}
use Rattle.ca_keys.specs.declared.place.Run.{Run}
use Rattle.ca_isolation.specs.Cover.{EndsInReach}
use Rattle.ca_isolation.specs.Covering.{AddsPlacesOfEach}
use Rattle.ca_isolation.proofs.cover.add_runs.Given as goal

abbrev pub invariant-loop-run : goal.invariant-loop-run
invariant-loop-run l = (new : List Run) → AddsPlacesOfEach EndsInReach is_in (drop l.run-index l.runs) l.cover.items new → AddsPlacesOfEach EndsInReach is_in l.runs l.initial.cover.items new
