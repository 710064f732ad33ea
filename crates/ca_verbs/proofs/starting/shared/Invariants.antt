use Rattle.std.proofs.Common.{◌≡◌, ◌+◌, ◌≤◌, ◌++◌, map, reverse, vec_len, vec_capacity}
use Rattle.ca_verbs_machine.specs.Values.{value_of}
use Rattle.ca_verbs.proofs.starting.shared.Given as goal

abbrev pub invariant-loop-part : goal.invariant-loop-part
invariant-loop-part l = record {
  order : map value_of l.fn.parts.items ≡ map value_of l.parts.items ++ reverse l.values.items;
  count : vec_len l.parts + vec_len l.values ≡ vec_len l.fn.parts;
  room : vec_len l.fn.parts ≤ vec_capacity l.values;
}

abbrev pub decreases-loop-part : goal.decreases-loop-part
decreases-loop-part l = vec_len l.parts
