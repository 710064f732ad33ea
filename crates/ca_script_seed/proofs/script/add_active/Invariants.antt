use Rattle.std.proofs.Common.{◌≡◌, ◌-◌, ◌++◌}
use Rattle.ca_script_seed.specs.Made.{each_from, active}
use Rattle.ca_script_seed.proofs.script.add_active.Given as goal

abbrev pub invariant-loop-d : goal.invariant-loop-d
invariant-loop-d l = l.consumers.items ++ each_from (active l.seed) l.d (4 - l.d) ≡ l.fn.consumers.items ++ each_from (active l.seed) 0 4
