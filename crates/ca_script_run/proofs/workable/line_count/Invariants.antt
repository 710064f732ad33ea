use Rattle.std.proofs.Common.{◌≡◌, ◌*◌, ◌^◌, ◌≤◌, length, sum_by, take}
use Rattle.ca_script_run.proofs.workable.line_count.Given as goal

abbrev pub invariant-loop-lines : goal.invariant-loop-lines
invariant-loop-lines l =
    (l.count ≡ sum_by (λ lines. length lines) (take l.lines-index l.consumers)) × (l.count ≤ l.lines-index * 2 ^ 64)
