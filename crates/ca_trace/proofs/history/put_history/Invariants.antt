use Rattle.std.proofs.Common.{◌≡◌, ◌++◌, take}
use Rattle.std.specs.List.{flat_map}
use Rattle.ca_model.specs.Entries.{entry_of}
use Rattle.ca_trace.specs.Trace.{entry_text}
use Rattle.ca_trace.proofs.history.put_history.Given as goal

abbrev pub invariant-loop-entry : goal.invariant-loop-entry
invariant-loop-entry l = l.out.items ≡ l.initial.out.items ++ flat_map (λ e. entry_text (entry_of e)) (take l.entry-index l.entries)
