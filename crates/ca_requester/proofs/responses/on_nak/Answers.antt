use Rattle.std.proofs.Common.{rules}
use Rattle.ca_model.specs.machine.Responses.{nak_effects}
use Rattle.ca_requester.proofs.ResponseLemmas.{makes_on, makes_unless}
use Rattle.ca_requester.proofs.responses.on_nak.Goals as goal

pub returns-then-acknowledged : goal.returns-then-acknowledged
returns-then-acknowledged c =
    makes_unless c.args.q.now c.args.psn c.acknowledged_below-acknowledged.result (nak_effects c.args.psn c.args.code) c.on_implied_nak.result c.acknowledged_below-acknowledged.ensures (search rules) c.on_implied_nak.ensures

pub returns : goal.returns
returns c =
    makes_on c.args.q.now c.args.psn c.acknowledged_below-acknowledged.result c.numbers_after.result (nak_effects c.args.psn c.args.code) c.nak.result c.acknowledged_below-acknowledged.ensures (search rules) c.numbers_after.ensures c.nak.ensures
