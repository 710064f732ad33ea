use Rattle.std.proofs.Common.{arith}
use Rattle.std.proofs.lemmas.Grind.{common_steps}
use Rattle.ca_mailbox.proofs.Envelopes.{length-with_delivery, undelivered_count-drop-delivery}
use Rattle.ca_mailbox.proofs.mailbox.Mailbox.count.Goals as goal

pub trimmed-self-inside-requires : goal.trimmed-self-inside-requires
trimmed-self-inside-requires c = grind (arith, undelivered_count-drop-delivery, c.self.invariant.6, c.deliver.ensures.envelopes)

pub invariant_of-self : goal.invariant_of-self
invariant_of-self c = grind (arith, common_steps, length-with_delivery, c.self.invariant, c.deliver.ensures)

pub invariant_of-self-else-deliver : goal.invariant_of-self-else-deliver
invariant_of-self-else-deliver c =
    grind (arith, common_steps, length-with_delivery, undelivered_count-drop-delivery, c.self.invariant, c.deliver.ensures)
