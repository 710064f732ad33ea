use Rattle.std.proofs.Common.{◌∙◌, ap, arith, sym}
use Rattle.ca_script_order.specs.OfScript.{stalled_from}
use Rattle.ca_script_run.proofs.StatusLemmas.{nobody_left}
use Rattle.ca_script_run.proofs.status.stalled.Goals as goal

pub returns : goal.returns
returns c = sym (c.loop-consumer.invariant ∙ ap (stalled_from c.args.count c.loop-consumer.consumer)
    (nobody_left c.loop-consumer.consumer c.args.consumers.now c.args.done.now (omega (arith, c.loop-consumer-test.false, c.min-consumer-end.ensures))))
