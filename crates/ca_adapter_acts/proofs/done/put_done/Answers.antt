use Rattle.ca_adapter_parts.specs.HeldView.{holding}
use Rattle.ca_adapter_acts.proofs.DoneLemmas.{done_both, done_once}
use Rattle.ca_adapter_acts.proofs.done.put_done.Goals as goal

pub returns-then-to : goal.returns-then-to
returns-then-to c = done_both c.args.to.now c.args.marks.now (holding c.args.held.now) (holding c.put_into.new.held) (holding c.put_into-then-to.new.held)
    c.send_slot.result c.recv_slot.result c.send_slot.ensures c.recv_slot.ensures c.if-to.true c.put_into.ensures c.put_into-then-to.ensures

pub returns-else-to : goal.returns-else-to
returns-else-to c = done_once c.args.to.now c.args.marks.now (holding c.args.held.now) (holding c.put_into.new.held)
    c.send_slot.result c.send_slot.ensures c.if-to.false c.put_into.ensures
