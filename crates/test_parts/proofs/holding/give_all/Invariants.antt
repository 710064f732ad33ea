use Rattle.std.proofs.Common.{◌≡◌, vec_len, vec_capacity}
use Rattle.ca_parts.specs.Rows.{view_of, IsPassOf}
use Rattle.test_parts.specs.Held.{hand_of, AreApart, SameRecord}
use Rattle.test_parts.proofs.holding.give_all.Given as goal

abbrev pub invariant-loop-t : goal.invariant-loop-t
invariant-loop-t l = record {
  of : IsPassOf l.parts l.pass;
  hand : (view_of l.pass).hand ≡ hand_of l.held.items;
  apart : AreApart (hand_of l.held.items);
  room : vec_capacity l.held ≡ vec_capacity l.initial.held;
  same : SameRecord (view_of l.initial.pass) (view_of l.pass);
  refused : (view_of l.pass).refused ≡ (view_of l.initial.pass).refused;
}

abbrev pub decreases-loop-t : goal.decreases-loop-t
decreases-loop-t l = vec_len l.held
