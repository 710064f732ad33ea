use Rattle.std.proofs.Common.{take}
use Rattle.std.specs.List.{AllByRecursion}
use Rattle.ca_model.specs.Entries.{entry_of}
use Rattle.ca_trace_read_fits.specs.Histories.{EntryHolds}
use Rattle.ca_trace_read_fits.proofs.history.entries_hold.Given as goal

abbrev pub invariant-loop-entry : goal.invariant-loop-entry
invariant-loop-entry l = AllByRecursion (λ e. EntryHolds (entry_of e)) (take l.entry-index l.entries)
