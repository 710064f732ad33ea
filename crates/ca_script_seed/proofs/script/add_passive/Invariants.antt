use Rattle.std.proofs.Common.{◌≡◌, ◌-◌, ◌++◌}
use Rattle.ca_script_seed.specs.Made.{each_from, passive}
use Rattle.ca_script_seed.proofs.script.add_passive.Given as goal

abbrev pub invariant-loop-d : goal.invariant-loop-d
invariant-loop-d l = l.consumers.items ++ each_from passive l.d (4 - l.d) ≡ l.fn.consumers.items ++ each_from passive 0 4
