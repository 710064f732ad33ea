use Rattle.std.proofs.Common.{drop}
use Rattle.std.specs.List.{AllByRecursion}
use Rattle.ca_model.specs.machine.Sound.{CanBeMade}
use Rattle.ca_verbs.proofs.placing.all_fit.Given as goal

abbrev pub invariant-loop-entry : goal.invariant-loop-entry
invariant-loop-entry l = AllByRecursion (λ e. CanBeMade e.event) (drop l.entry-index l.entries) → AllByRecursion (λ e. CanBeMade e.event) l.entries
