use Rattle.std.proofs.Common.{◌<◌, ◌-◌, sym, arith}
use Rattle.ca_base.specs.objects.Mailbox.{only_holds}
use Rattle.ca_mailbox.proofs.Due.{due_from-none, due_from-left}
use Rattle.ca_mailbox.proofs.Envelopes.{is_kept}
use Rattle.ca_mailbox.proofs.mailbox.Mailbox.due.Goals as goal

pub returns-then-left-eq0 : goal.returns-then-left-eq0
returns-then-left-eq0 c =
    rw (← c.self.view_is) (sym (due_from-none (only_holds c.self.inside.envelopes.items) c.self.inside.next 0 c.self.inside.envelopes.items
    (rw c.if-left-eq0.true at c.trimmed-left.ensures.none_behind)))

pub overflow_sub-result : goal.overflow_sub-result
overflow_sub-result c =
    let some : 0 < c.trimmed-left.result = omega (arith, c.if-left-eq0.false) in
    omega (arith, c.self.invariant.0, is_kept (c.trimmed-left.result - 1) c.self.inside.envelopes.items (c.trimmed-left.ensures.least some))

pub returns : goal.returns
returns c =
    let some : 0 < c.trimmed-left.result = omega (arith, c.if-left-eq0.false) in
    rw (← c.self.view_is) (sym (due_from-left (only_holds c.self.inside.envelopes.items) c.self.inside.next 0 c.trimmed-left.result
    c.self.inside.envelopes.items some c.trimmed-left.ensures.none_behind (c.trimmed-left.ensures.least some)
    (rw (← c.slot_is_held.ensures) c.if-slot_is_held.false)))
