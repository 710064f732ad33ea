use Rattle.std.proofs.Common.{◌-◌}
use Rattle.ca_qp_rows.proofs.flush.+push_flushed_receives.Given as goal

abbrev pub decreases-push_flushed_receives : goal.decreases-push_flushed_receives
decreases-push_flushed_receives l = l.end - l.posting
