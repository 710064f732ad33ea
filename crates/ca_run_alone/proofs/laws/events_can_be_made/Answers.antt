use Rattle.std.proofs.Common.{subst}
use Rattle.std.specs.List.{AllByRecursion}
use Rattle.ca_run_alone.proofs.LoneLemmas.{made-kept}
use Rattle.ca_run_alone.proofs.laws.events_can_be_made.Goals as goal
use Rattle.ca_model.specs.Entries.{EntryValue}
use Rattle.ca_model.specs.machine.Sound.{CanBeMade}

pub returns : goal.returns
returns c = subst (AllByRecursion (λ (e : EntryValue). CanBeMade e.event)) c.as_slice.ensures.entries (made-kept c.as_slice.result.now c.all_can_be_made.ensures)
