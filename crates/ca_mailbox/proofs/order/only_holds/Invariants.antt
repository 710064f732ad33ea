use Rattle.std.proofs.Common.{◌≡◌, drop}
use Rattle.ca_base.specs.objects.Mailbox.{only_holds}
use Rattle.ca_mailbox.proofs.order.only_holds.Given as goal

-- what was passed is held or delivered
abbrev pub invariant-loop-place : goal.invariant-loop-place
invariant-loop-place l = only_holds (drop l.place l.envelopes.items) ≡ only_holds l.envelopes.items
