use Rattle.std.proofs.Common.{◌≡◌, ◌+◌, ◌<◌, ◌≤◌, length}
use Rattle.ca_base.specs.declared.limits.TheConstants.{MAX_SCRIPT_BYTES}
use Rattle.ca_script.specs.Script.{after_lines, draft_of}
use Rattle.ca_script.proofs.read.read_lines.Given as goal

abbrev pub invariant-loop-line : goal.invariant-loop-line
invariant-loop-line l = (after_lines l.number l.room (draft_of l.so_far) l.lines ≡ after_lines 1 MAX_SCRIPT_BYTES (draft_of l.fn.so_far) l.fn.lines) × (0 < length l.lines → l.number + l.room ≤ MAX_SCRIPT_BYTES + 1) × (l.number ≤ MAX_SCRIPT_BYTES + 2)

abbrev pub decreases-loop-line : goal.decreases-loop-line
decreases-loop-line l = length l.lines
