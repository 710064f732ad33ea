use Rattle.std.proofs.Common.{length}
use Rattle.ca_qp_rows.proofs.list.+list_length.Given as goal

abbrev pub decreases-list_length : goal.decreases-list_length
decreases-list_length l = length l.list.now
