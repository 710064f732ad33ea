use Rattle.std.proofs.Common.{◌≡◌, ◌≤◌, ℕ, vec_len}
use Rattle.ca_parts.specs.Lists.{numbers_of, times}
use Rattle.ca_parts.specs.Rows.{IsPassOf, view_of}
use Rattle.ca_verbs_taking.specs.Giving.{SameNotes}
use Rattle.ca_verbs_taking.specs.Holding.{hand_of}
use Rattle.ca_verbs_taking.specs.Taking.{SameRecord}
use Rattle.ca_verbs_taking.proofs.giving.give_all.Given as goal

abbrev pub invariant-loop-t : goal.invariant-loop-t
invariant-loop-t l = record {
  of : IsPassOf l.parts l.pass;
  hand : (view_of l.pass).hand ≡ hand_of l.out.items;
  apart : (k : ℕ) → times k (numbers_of (hand_of l.out.items)) ≤ 1;
  same : SameRecord (view_of l.initial.pass) (view_of l.pass);
  notes : SameNotes (view_of l.initial.pass) (view_of l.pass);
}

abbrev pub decreases-loop-t : goal.decreases-loop-t
decreases-loop-t l = vec_len l.out
