use Rattle.std.proofs.Common.{◌≡◌, drop}
use Rattle.ca_script_order.specs.OfScript.{lines_at}
use Rattle.ca_script_run.proofs.status.line_awaited.Given as goal

-- each line before this one is passed
abbrev pub invariant-loop-place : goal.invariant-loop-place
invariant-loop-place l = lines_at l.count (drop l.passed l.lines) ≡ lines_at l.count (drop l.place l.lines)
