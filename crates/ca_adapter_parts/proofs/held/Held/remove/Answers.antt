use Rattle.std.proofs.Common.{ap, is_some}
use Rattle.ca_adapter_parts.specs.HeldView.{holding}
use Rattle.ca_adapter_parts.proofs.held.Held.remove.Goals.{in-Control+in_ok-remove-in-Control, in-Queue+in_ok-remove-in-Queue, in-Mailbox+in_ok-remove-in-Mailbox, in-Cq+in_ok-remove-in-Cq, in-Srq+in_ok-remove-in-Srq, in-Window+in_ok-remove-in-Window, in-Region+in_ok-remove-in-Region, in-Buffer+in_ok-remove-in-Buffer}
use Rattle.ca_adapter_parts.proofs.held.Held.remove.Goals as goal

pub returns-clause-there : goal.returns-clause-there
unfolding holding
returns-clause-there c = elim c.match-name.branch [ in-Control+in_ok-remove-in-Control w ↦ rw w.in-Control.is (ap is_some w.in_ok-remove-in-Control.ensures.thing) | in-Queue+in_ok-remove-in-Queue w ↦ rw w.in-Queue.is (ap is_some w.in_ok-remove-in-Queue.ensures.thing) | in-Mailbox+in_ok-remove-in-Mailbox w ↦ rw w.in-Mailbox.is (ap is_some w.in_ok-remove-in-Mailbox.ensures.thing) | in-Cq+in_ok-remove-in-Cq w ↦ rw w.in-Cq.is (ap is_some w.in_ok-remove-in-Cq.ensures.thing) | in-Srq+in_ok-remove-in-Srq w ↦ rw w.in-Srq.is (ap is_some w.in_ok-remove-in-Srq.ensures.thing) | in-Window+in_ok-remove-in-Window w ↦ rw w.in-Window.is (ap is_some w.in_ok-remove-in-Window.ensures.thing) | in-Region+in_ok-remove-in-Region w ↦ rw w.in-Region.is (ap is_some w.in_ok-remove-in-Region.ensures.thing) | in-Buffer+in_ok-remove-in-Buffer w ↦ rw w.in-Buffer.is (ap is_some w.in_ok-remove-in-Buffer.ensures.thing) ]
