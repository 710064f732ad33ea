use Rattle.ca_requester.proofs.ResponseLemmas.{makes_bad}
use Rattle.ca_requester.proofs.responses.on_bad_answer.Goals as goal

pub returns : goal.returns
returns c = makes_bad c.args.q.now c.args.acknowledged c.numbers_after.result c.failure.result c.numbers_after.ensures c.requires c.failure.ensures
