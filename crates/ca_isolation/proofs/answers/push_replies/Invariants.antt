use Rattle.std.proofs.Common.{◌≡◌, ◌++◌, drop, filter}
use Rattle.ca_isolation.specs.Groups.{is_reply}
use Rattle.ca_isolation.proofs.answers.push_replies.Given as goal

abbrev pub invariant-loop-mark : goal.invariant-loop-mark
invariant-loop-mark l = l.out.items ++ filter is_reply (drop l.mark-index l.marks) ≡ l.initial.out.items ++ filter is_reply l.marks
