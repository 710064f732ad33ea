use Rattle.std.proofs.Common.{◌-◌, arith}
use Rattle.std.proofs.lemmas.Grind.{common_steps}
use Rattle.ca_mailbox.proofs.Envelopes.{undelivered_count-drop}
use Rattle.ca_mailbox.proofs.order.trimmed.Goals as goal

pub loop-left-preserved : goal.loop-left-preserved
loop-left-preserved c =
    grind (arith, common_steps, undelivered_count-drop (c.loop-left.left - 1) c.args.envelopes.now.items)
