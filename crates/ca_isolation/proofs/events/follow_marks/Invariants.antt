use Rattle.std.proofs.Common.{drop}
use Rattle.ca_isolation.proofs.FollowLemmas.{FollowsTo}
use Rattle.ca_isolation.specs.InForce.{AreInForce}
use Rattle.ca_model.specs.Past.{Past}
use Rattle.ca_isolation.proofs.events.follow_marks.Given as goal

abbrev pub invariant-loop-mark : goal.invariant-loop-mark
invariant-loop-mark l = (past : Past) → AreInForce l.initial.in_force.items past → FollowsTo l.marks past (drop l.mark-index l.marks) l.in_force.items
