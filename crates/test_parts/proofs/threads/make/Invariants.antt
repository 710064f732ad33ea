use Rattle.std.proofs.Common.{◌≡◌, [], length, vec_capacity}
use Rattle.ca_parts.specs.Rows.{view_of, IsPassOf}
use Rattle.test_parts.proofs.threads.make.Given as goal

abbrev pub invariant-loop-tries : goal.invariant-loop-tries
invariant-loop-tries l = record {
  of : IsPassOf l.parts l.pass;
  idle : (view_of l.pass).hand ≡ [];
  empty : length l.held.items ≡ 0;
  room : vec_capacity l.held ≡ vec_capacity l.initial.held;
  share : (view_of l.pass).share ≡ (view_of l.initial.pass).share;
}
