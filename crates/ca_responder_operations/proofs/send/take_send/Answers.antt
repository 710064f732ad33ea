use Rattle.std.proofs.Common.{true, sym, subst, ◌∙◌}
use Rattle.ca_model.specs.machine.Row.{Row}
use Rattle.ca_responder_operations.specs.Sends.{outcome_of_send}
use Rattle.ca_responder_operations.specs.Taking.{IsTaken, outcome_in}
use Rattle.ca_responder_operations.proofs.SendLemmas.{receiving-next, row-of-send}
use Rattle.ca_responder_operations.proofs.send.take_send.Goals as goal

pub returns : goal.returns
unfolding outcome_of_send
returns g c = record {
  taken = subst (λ (row : Row). IsTaken g.R.Reach.written g.R.Reach.revoked c.receive_send.result (outcome_in (g.R.Reach.sight c.args.reach.now) row)
      c.args.q.now c.receive_send.new.q c.args.marks.now c.receive_send.new.marks c.args.reach.now c.receive_send.new.reach)
      (sym (row-of-send c.args.q.now c.args.request.now.packet.now c.args.request.now.envelope c.args.next.now c.args.request.now.shape c.args.position
      (record { receive = c.in-Some.receive; before = 0; taken = true }) c.requires.shape
      (receiving-next c.args.q.now c.args.next.now c.args.q.now.responder.message c.in-Some.receive (sym c.holds_receive.ensures ∙ c.if-holds_receive.false) c.in-Some.is)))
      c.receive_send.ensures.taken;
}
