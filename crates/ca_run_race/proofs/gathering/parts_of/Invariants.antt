use Rattle.std.proofs.Common.{◌≡◌, ◌+◌, ◌≤◌, ◌++◌, map, reverse, vec_len, vec_capacity}
use Rattle.ca_verbs_machine.specs.Values.{value_of}
use Rattle.ca_run_race.proofs.gathering.parts_of.Given as goal

abbrev pub invariant-loop-part : goal.invariant-loop-part
invariant-loop-part l = record {
  order : l.fn.shared.items ≡ l.shared.items ++ map value_of (reverse l.parts.items);
  count : vec_len l.shared + vec_len l.parts ≡ vec_len l.fn.shared;
  room : vec_len l.fn.shared ≤ vec_capacity l.parts;
}

abbrev pub decreases-loop-part : goal.decreases-loop-part
decreases-loop-part l = vec_len l.shared
