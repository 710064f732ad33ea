use Rattle.std.proofs.Common.{arith}
use Rattle.ca_psn.proofs.Ahead.{is_ahead}
use Rattle.ca_psn.proofs.psn.classify.Goals as goal

pub returns-else-back-le-DUPLICATES-clause-meaning : goal.returns-else-back-le-DUPLICATES-clause-meaning
returns-else-back-le-DUPLICATES-clause-meaning c = is_ahead c.args.expected c.args.got (omega arith) (omega arith) (omega arith)
