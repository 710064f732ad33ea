use Rattle.std.proofs.Common.{◌∙◌, ap, sym}
use Rattle.ca_model.specs.machine.Row.{Row}
use Rattle.ca_requester.proofs.ResponseLemmas.{is_fit, row_fails}
use Rattle.ca_requester.proofs.TakingLemmas.{row_asks}
use Rattle.ca_requester.proofs.taking.answer_asks.Goals as goal

pub returns-in-Some : goal.returns-in-Some
returns-in-Some c =
    c.fill_answer_asks.ensures.value
    ∙ row_asks c.args.q.now c.args.psn c.args.p.now c.oldest_below-oldest.result.acknowledged c.in-Some.request _
    (is_fit c.args.q.now c.args.psn c.args.p.now c.oldest_below-oldest.result.acknowledged c.oldest_below-oldest.result.oldest c.fitting_request.result c.in-Some.request
    c.oldest_below-oldest.ensures.acknowledged c.if-acknowledged.false c.oldest_below-oldest.ensures.oldest c.fitting_request.ensures.value c.in-Some.is)

pub returns-in_default : goal.returns-in_default
returns-in_default c =
    c.new-asks.ensures
    ∙ sym (ap (λ (r : Row). r.asks)
    (row_fails c.args.q.now c.args.psn c.args.p.now c.oldest_below-oldest.result.acknowledged c.oldest_below-oldest.result.oldest c.fitting_request.result
    c.oldest_below-oldest.ensures.acknowledged c.if-acknowledged.false c.oldest_below-oldest.ensures.oldest c.fitting_request.ensures.value c.in_default.is))
