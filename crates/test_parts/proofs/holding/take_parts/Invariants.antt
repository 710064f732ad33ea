use Rattle.std.proofs.Common.{◌≡◌, ◌≤◌, ◌⊎◌, ◌-◌, false, vec_len, vec_capacity, Some}
use Rattle.ca_parts.specs.Lists.{numbers_of}
use Rattle.ca_parts.specs.Rows.{view_of, IsPassOf}
use Rattle.test_parts.specs.Held.{hand_of, first_parts, SameRecord}
use Rattle.test_parts.proofs.holding.take_parts.Given as goal

abbrev pub ghost-take_one : goal.ghost-take_one
ghost-take_one a = a._for_move

abbrev pub invariant-loop-part : goal.invariant-loop-part
invariant-loop-part l = record {
  of : IsPassOf l.parts l.pass;
  hand : (view_of l.pass).hand ≡ hand_of l.held.items;
  numbers : numbers_of (hand_of l.held.items) ≡ first_parts l.m (vec_len l.held);
  few : vec_len l.held ≤ 2;
  taking : (vec_len l.held ≡ 0) ⊎ (((view_of l.pass).giving ≡ false) × ((view_of l.pass).event ≡ Some l.m));
  room : vec_capacity l.held ≡ vec_capacity l.initial.held;
  refused : (view_of l.pass).refused ≡ (view_of l.initial.pass).refused;
  same : SameRecord (view_of l.initial.pass) (view_of l.pass);
}

abbrev pub decreases-loop-part : goal.decreases-loop-part
decreases-loop-part l = 2 - vec_len l.held
