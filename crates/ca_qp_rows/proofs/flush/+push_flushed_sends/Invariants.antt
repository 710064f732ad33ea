use Rattle.std.proofs.Common.{◌-◌}
use Rattle.ca_qp_rows.proofs.flush.+push_flushed_sends.Given as goal

abbrev pub decreases-push_flushed_sends : goal.decreases-push_flushed_sends
decreases-push_flushed_sends l = l.end - l.posting
