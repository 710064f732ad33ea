use Rattle.std.proofs.Common.{◌≡◌, rules, arith, ap, subst, sym, ◌∙◌, false, option_copied, Some}
use Rattle.std.proofs.lemmas.Grind.{common_steps}
use Rattle.ca_model.specs.machine.Arrivals.{next_receive, with_flag}
use Rattle.ca_model.specs.machine.Expected.{takes_receive, valid_row}
use Rattle.ca_model.specs.machine.Row.{Does, Row, plain_row}
use Rattle.ca_wire.specs.declared.shape.Shape.{Shape}
use Rattle.ca_responder_operations.specs.Access.{read_effects}
use Rattle.ca_wire.specs.Table.{shape_of}
use Rattle.ca_psn.specs.Psn.{widened}
use Rattle.ca_responder.proofs.ArrivalLemmas.{plain_queued, queued_row, taken_plain}
use Rattle.ca_responder.proofs.WaitingLemmas.{arrived_by, lacks_by}
use Rattle.ca_responder_operations.specs.Taking.{CanMeet, IsTaken, outcome_in}
use Rattle.ca_responder.proofs.request.take_request.Goals as goal

pub take_send-requires-clause-at_hand : goal.take_send-requires-clause-at_hand
take_send-requires-clause-at_hand g c =
    let is : shape_of c.args.p.now.opcode ≡ Some c.in-Some.shape = search rules in
    let same : widened c.args.q.now.responder.expected c.args.p.now.psn ≡ c.args.q.now.responder.expected = grind (arith, common_steps) in
    subst (λ (row : Row). CanMeet g.R.Reach.sight g.R.Reach.judges g.R.Reach.touches g.R.Reach.ends c.args.reach.now c.args.q.now row)
    (sym (arrived_by c.args.q.now (option_copied c.args.srq) c.args.p.now c.args.envelope c.in-Some.shape c.put_receive.new.next c.requires.request is same
    (sym c.is_invalid.ensures ∙ c.if-is_invalid.false) (lacks_by (takes_receive c.args.p.now c.in-Some.shape) (next_receive c.args.q.now (option_copied c.args.srq)) c.put_receive.new.next c.in_ok-put_receive.ensures.value
    ∙ sym c.is_missing.ensures ∙ c.if-is_missing.false) c.in_ok-put_receive.ensures.value)) c.requires.at_hand

pub take_write-requires-clause-at_hand : goal.take_write-requires-clause-at_hand
take_write-requires-clause-at_hand g c =
    let is : shape_of c.args.p.now.opcode ≡ Some c.in-Some.shape = search rules in
    let same : widened c.args.q.now.responder.expected c.args.p.now.psn ≡ c.args.q.now.responder.expected = grind (arith, common_steps) in
    subst (λ (row : Row). CanMeet g.R.Reach.sight g.R.Reach.judges g.R.Reach.touches g.R.Reach.ends c.args.reach.now c.args.q.now row)
    (sym (arrived_by c.args.q.now (option_copied c.args.srq) c.args.p.now c.args.envelope c.in-Some.shape c.put_receive.new.next c.requires.request is same
    (sym c.is_invalid.ensures ∙ c.if-is_invalid.false) (lacks_by (takes_receive c.args.p.now c.in-Some.shape) (next_receive c.args.q.now (option_copied c.args.srq)) c.put_receive.new.next c.in_ok-put_receive.ensures.value
    ∙ sym c.is_missing.ensures ∙ c.if-is_missing.false) c.in_ok-put_receive.ensures.value)) c.requires.at_hand

pub returns-in-Write : goal.returns-in-Write
returns-in-Write g c =
    let is : shape_of c.args.p.now.opcode ≡ Some c.in-Some.shape = search rules in
    let same : widened c.args.q.now.responder.expected c.args.p.now.psn ≡ c.args.q.now.responder.expected = grind (arith, common_steps) in
    subst (λ (row : Row). IsTaken g.R.Reach.written g.R.Reach.revoked c.take_write.result (outcome_in (g.R.Reach.sight c.args.reach.now) row)
    c.args.q.now c.take_write.new.q c.args.marks.now c.take_write.new.marks c.args.reach.now c.take_write.new.reach)
    (arrived_by c.args.q.now (option_copied c.args.srq) c.args.p.now c.args.envelope c.in-Some.shape c.put_receive.new.next c.requires.request is same
    (sym c.is_invalid.ensures ∙ c.if-is_invalid.false) (lacks_by (takes_receive c.args.p.now c.in-Some.shape) (next_receive c.args.q.now (option_copied c.args.srq)) c.put_receive.new.next c.in_ok-put_receive.ensures.value
    ∙ sym c.is_missing.ensures ∙ c.if-is_missing.false) c.in_ok-put_receive.ensures.value) c.take_write.ensures.taken

pub returns-in-Read : goal.returns-in-Read
returns-in-Read g c =
    let q = with_flag false c.args.q.now in
    let p = c.args.p.now in
    let is : shape_of p.opcode ≡ Some c.in-Some.shape = search rules in
    let same : widened c.args.q.now.responder.expected p.psn ≡ c.args.q.now.responder.expected = grind (arith, common_steps) in
    let queued : Row = plain_row (Does (read_effects q p c.args.envelope)) in
    subst (λ (row : Row). IsTaken g.R.Reach.written g.R.Reach.revoked c.take_read.result (outcome_in (g.R.Reach.sight c.args.reach.now) row)
    c.args.q.now c.take_read.new.q c.args.marks.now c.take_read.new.marks c.args.reach.now c.args.reach.now)
    (queued_row q p c.args.envelope c.put_receive.new.next ∙ ap (λ (shape : Shape). valid_row q p c.args.envelope c.put_receive.new.next shape) (sym c.in-Read.is)
    ∙ arrived_by c.args.q.now (option_copied c.args.srq) p c.args.envelope c.in-Some.shape c.put_receive.new.next c.requires.request is same
    (sym c.is_invalid.ensures ∙ c.if-is_invalid.false) (lacks_by (takes_receive c.args.p.now c.in-Some.shape) (next_receive c.args.q.now (option_copied c.args.srq)) c.put_receive.new.next c.in_ok-put_receive.ensures.value
    ∙ sym c.is_missing.ensures ∙ c.if-is_missing.false) c.in_ok-put_receive.ensures.value)
    (taken_plain g.R.Reach.written g.R.Reach.revoked (g.R.Reach.sight c.args.reach.now) c.take_read.result (read_effects q p c.args.envelope)
    c.args.q.now c.take_read.new.q c.args.marks.now c.take_read.new.marks c.args.reach.now (plain_queued q p c.args.envelope) c.take_read.ensures.stays c.take_read.ensures.made)
