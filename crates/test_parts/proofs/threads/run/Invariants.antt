use Rattle.std.proofs.Common.{◌≡◌, ◌≤◌, [], length, vec_capacity}
use Rattle.ca_parts.specs.Rows.{view_of, IsPassOf}
use Rattle.test_parts.proofs.threads.run.Given as goal

abbrev pub invariant-loop-k : goal.invariant-loop-k
invariant-loop-k l = record {
  of : IsPassOf l.parts l.pass;
  idle : (view_of l.pass).hand ≡ [];
  empty : length l.held.items ≡ 0;
  room : 2 ≤ vec_capacity l.held;
  share : (view_of l.pass).share ≡ (view_of l.initial.pass).share;
}
