use Rattle.std.proofs.Common.{◌≡◌, ◌+◌, ◌-◌, length}
use Rattle.ca_script_lines.specs.declared.what.Line.{Line}
use Rattle.ca_script.specs.Script.{with_line}
use Rattle.ca_script.proofs.draft.pad.Given as goal

abbrev pub invariant-loop-alloc : goal.invariant-loop-alloc
invariant-loop-alloc l = (line : Line) → with_line l.consumer line l.consumers.items ≡ with_line l.consumer line l.fn.consumers.items

abbrev pub decreases-loop-alloc : goal.decreases-loop-alloc
decreases-loop-alloc l = l.consumer + 1 - length l.consumers.items
