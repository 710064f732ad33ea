use Rattle.std.proofs.Common.{◌≡◌, ◌+◌, ◌-◌, ◌*◌, ◌++◌}
use Rattle.ca_script_seed.specs.Made.{requests, generator, lines_from}
use Rattle.ca_script_seed.proofs.requests.add_requests.Given as goal

abbrev pub invariant-loop-i : goal.invariant-loop-i
invariant-loop-i l = l.lines.items ++ lines_from (l.number + 2 * l.i) (requests l.domain l.i (200 - l.i) l.generator) ≡ l.fn.lines.items ++ lines_from l.number (requests l.domain 0 200 (generator l.seed l.domain))
