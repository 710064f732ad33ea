use Rattle.std.proofs.Common.{◌≡◌, ◌≤◌, ◌-◌, drop}
use Rattle.std.specs.Option.{option_or}
use Rattle.ca_base.specs.objects.Mailbox.{due_from}
use Rattle.ca_mailbox.proofs.order.first_ready.Given as goal

-- the first among those that were not looked at, and else what was found
abbrev pub invariant-loop-place : goal.invariant-loop-place
invariant-loop-place l =
    (l.later ≤ l.place)
    × (option_or (due_from l.all_held (l.fn.next - l.place) l.later (drop l.place l.fn.envelopes.items)) l.found
    ≡ due_from l.all_held l.fn.next 0 l.fn.envelopes.items)
