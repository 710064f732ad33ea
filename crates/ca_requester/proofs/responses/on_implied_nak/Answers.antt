use Rattle.ca_requester.proofs.ResponseLemmas.{makes_back}
use Rattle.ca_requester.proofs.responses.on_implied_nak.Goals as goal

pub returns : goal.returns
returns c = makes_back c.args.q.now c.args.acknowledged c.numbers_after.result c.one_retry.result c.numbers_after.ensures c.requires c.one_retry.ensures
