use Rattle.std.proofs.Common.{◌≡◌, ◌++◌, map, reverse, vec_len}
use Rattle.ca_model.specs.Entries.{entry_of}
use Rattle.ca_run_race.proofs.gathering.history_of.Given as goal

-- what is pushed, and behind it what is left
abbrev pub invariant-loop-entry : goal.invariant-loop-entry
invariant-loop-entry l = l.history ++ map entry_of (reverse l.entries.items) ≡ map entry_of l.fn.entries.items

abbrev pub decreases-loop-entry : goal.decreases-loop-entry
decreases-loop-entry l = vec_len l.entries
