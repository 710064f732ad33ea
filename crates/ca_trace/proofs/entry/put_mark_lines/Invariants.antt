use Rattle.std.proofs.Common.{◌≡◌, ◌++◌, drop}
use Rattle.std.specs.List.{flat_map}
use Rattle.ca_trace.specs.Trace.{mark_text}
use Rattle.ca_trace.proofs.entry.put_mark_lines.Given as goal

abbrev pub invariant-loop-mark : goal.invariant-loop-mark
invariant-loop-mark l =
    l.text ++ flat_map mark_text (drop l.mark-index l.marks) ≡ l.initial.text ++ flat_map mark_text l.marks
