use Rattle.std.proofs.Common.{◌≡◌, ◌+◌, ◌≤◌, ◌++◌, map, reverse, vec_len, vec_capacity, Some}
use Rattle.ca_parts.proofs.parts.slots_of.Given as goal

abbrev pub invariant-loop-x : goal.invariant-loop-x
invariant-loop-x g l = record {
  order : map Some l.fn.values.items ≡ map Some l.values.items ++ reverse l.slots.items;
  count : vec_len l.values + vec_len l.slots ≡ vec_len l.fn.values;
  room : vec_len l.fn.values ≤ vec_capacity l.slots;
  kept : vec_capacity l.values ≡ vec_capacity l.fn.values;
}

abbrev pub decreases-loop-x : goal.decreases-loop-x
decreases-loop-x g l = vec_len l.values
