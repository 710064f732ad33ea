use Rattle.std.proofs.Common.{sym, subst, ◌∙◌}
use Rattle.ca_model.specs.machine.Row.{Row}
use Rattle.ca_responder_operations.specs.Sends.{outcome_of_send}
use Rattle.ca_responder_operations.specs.Taking.{CanMeet, IsTaken, outcome_in}
use Rattle.ca_responder_operations.proofs.SendLemmas.{receiving-held, row-of-send}
use Rattle.ca_responder_operations.proofs.send.go_on.Goals as goal

pub receive_send-requires-clause-at_hand : goal.receive_send-requires-clause-at_hand
receive_send-requires-clause-at_hand g c =
    subst (λ (row : Row). CanMeet g.R.Reach.sight g.R.Reach.judges g.R.Reach.touches g.R.Reach.ends c.args.reach.now c.args.q.now row)
    (row-of-send c.args.q.now c.args.request.now.packet.now c.args.request.now.envelope c.args.next.now c.args.request.now.shape c.args.position c.in-Some.r c.requires.shape
    (receiving-held c.args.q.now c.args.next.now c.args.q.now.responder.message c.requires.holds ∙ sym c.in_ok-r.ensures.value ∙ c.in-Some.is))
    c.requires.at_hand

pub returns : goal.returns
unfolding outcome_of_send
returns g c = record {
  taken = subst (λ (row : Row). IsTaken g.R.Reach.written g.R.Reach.revoked c.receive_send.result (outcome_in (g.R.Reach.sight c.args.reach.now) row)
      c.args.q.now c.receive_send.new.q c.args.marks.now c.receive_send.new.marks c.args.reach.now c.receive_send.new.reach)
      (sym (row-of-send c.args.q.now c.args.request.now.packet.now c.args.request.now.envelope c.args.next.now c.args.request.now.shape c.args.position c.in-Some.r
      c.requires.shape (receiving-held c.args.q.now c.args.next.now c.args.q.now.responder.message c.requires.holds ∙ sym c.in_ok-r.ensures.value ∙ c.in-Some.is)))
      c.receive_send.ensures.taken;
}
