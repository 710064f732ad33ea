use Rattle.std.proofs.Common.{arith, sym}
use Rattle.std.proofs.lemmas.Grind.{common_steps}
use Rattle.ca_mailbox.proofs.Envelopes.{with_delivery-set, undelivered_count-with_delivery}
use Rattle.ca_mailbox.proofs.order.deliver.Goals as goal

pub returns-in-Some-clause-envelopes : goal.returns-in-Some-clause-envelopes
returns-in-Some-clause-envelopes c =
    grind (arith, common_steps, with_delivery-set c.args.later c.args.envelopes.now.items c.in-Some.envelope.now (sym c.in-Some.ensures.value))

pub returns-in-Some-clause-done : goal.returns-in-Some-clause-done
returns-in-Some-clause-done c =
    grind (arith, common_steps, undelivered_count-with_delivery c.args.later c.args.envelopes.now.items c.in-Some.envelope.now (sym c.in-Some.ensures.value))
