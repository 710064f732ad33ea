use Rattle.std.proofs.Common.{arith}
use Rattle.std.proofs.lemmas.Grind.{common_steps}
use Rattle.ca_mailbox.proofs.Envelopes.{undelivered_count-after_send, undelivered_count-behind}
use Rattle.ca_mailbox.proofs.mailbox.Mailbox.put.Goals as goal

pub invariant_of-self : goal.invariant_of-self
invariant_of-self c =
    let i = c.self.invariant in
    let sent = undelivered_count-after_send c.args.lot c.args.bytes c.args.self.now (rw (← c.self.view_is) i.3) c.requires.room in (
      grind (arith, common_steps, i.0, i.3),
      grind (arith, common_steps, i.1),
      grind (arith, common_steps, i.2),
      grind (arith, common_steps, i.2, i.3),
      grind (arith, common_steps, i.2, i.4, sent),
      grind (arith, c.min-self-inside.ensures),
      grind (arith, c.push_front.ensures.items, i.2, undelivered_count-behind c.min-self-inside.result c.self.inside.span (record { lot = c.args.lot; bytes = c.args.bytes; delivered = 0 }) c.self.inside.envelopes.items i.6 c.min-self-inside.ensures),
    )
