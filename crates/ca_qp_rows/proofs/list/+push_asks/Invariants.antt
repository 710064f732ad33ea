use Rattle.std.proofs.Common.{length}
use Rattle.ca_qp_rows.proofs.list.+push_asks.Given as goal

abbrev pub decreases-push_asks : goal.decreases-push_asks
decreases-push_asks l = length l.list.now
