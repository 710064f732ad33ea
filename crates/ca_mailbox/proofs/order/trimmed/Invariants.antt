use Rattle.std.proofs.Common.{◌≡◌, ◌≤◌, drop}
use Rattle.ca_base.specs.objects.Mailbox.{undelivered_count}
use Rattle.ca_mailbox.proofs.order.trimmed.Given as goal

-- none behind those that are left is undelivered
abbrev pub invariant-loop-left : goal.invariant-loop-left
invariant-loop-left l = (l.left ≤ l.enough) × (undelivered_count (drop l.left l.envelopes.items) ≡ 0)

abbrev pub decreases-loop-left : goal.decreases-loop-left
decreases-loop-left l = l.left
