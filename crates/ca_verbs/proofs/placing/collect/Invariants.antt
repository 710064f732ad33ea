use Rattle.std.proofs.Common.{◌≡◌, ◌+◌, ◌++◌, Some, length, map, reverse, vec_capacity, vec_len}
use Rattle.ca_verbs.proofs.placing.collect.Given as goal

abbrev pub invariant-loop-slot : goal.invariant-loop-slot
invariant-loop-slot l = record {
  order : l.fn.slots.items ≡ l.slots.items ++ map Some (reverse l.out.items);
  count : vec_len l.slots + vec_len l.out ≡ length l.fn.slots.items;
  room : vec_capacity l.out ≡ vec_capacity l.fn.out;
}

abbrev pub decreases-loop-slot : goal.decreases-loop-slot
decreases-loop-slot l = vec_len l.slots
