use Rattle.std.proofs.Common.{◌≡◌, ◌++◌, drop, map}
use Rattle.ca_isolation.specs.Groups.{group_of, replies_of}
use Rattle.ca_model.specs.Entries.{entry_of}
use Rattle.ca_isolation.proofs.answers.replies.Given as goal

abbrev pub invariant-loop-entry : goal.invariant-loop-entry
invariant-loop-entry l = l.replies.items ++ replies_of (group_of l.group) (map entry_of (drop l.entry-index l.entries)) ≡ replies_of (group_of l.group) (map entry_of l.entries)
