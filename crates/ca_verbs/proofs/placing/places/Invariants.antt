use Rattle.std.proofs.Common.{◌≡◌, ◌≤◌, replicate, vec_capacity, vec_len, None}
use Rattle.ca_verbs.proofs.placing.places.Given as goal

abbrev pub invariant-loop : goal.invariant-loop
invariant-loop l = record {
  all : l.slots.items ≡ replicate l.counter None;
  count : vec_len l.slots ≡ l.counter;
  room : l.count ≤ vec_capacity l.slots;
}
