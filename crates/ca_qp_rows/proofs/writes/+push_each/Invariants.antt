use Rattle.std.proofs.Common.{length}
use Rattle.ca_qp_rows.proofs.writes.+push_each.Given as goal

abbrev pub decreases-push_each : goal.decreases-push_each
decreases-push_each l = length l.asks.now
