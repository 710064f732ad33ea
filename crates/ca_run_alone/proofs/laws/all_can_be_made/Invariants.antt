use Rattle.std.proofs.Common.{take}
use Rattle.std.specs.List.{AllByRecursion}
use Rattle.ca_model.specs.machine.Sound.{CanBeMade}
use Rattle.ca_model.specs.declared.entry.Entry.{Entry}
use Rattle.ca_run_alone.proofs.laws.all_can_be_made.Given as goal

abbrev pub invariant-loop-entry : goal.invariant-loop-entry
invariant-loop-entry l = AllByRecursion (λ (e : Entry). CanBeMade e.event) (take l.entry-index l.entries)
