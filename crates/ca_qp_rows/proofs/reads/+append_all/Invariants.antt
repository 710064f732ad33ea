use Rattle.std.proofs.Common.{length}
use Rattle.ca_qp_rows.proofs.reads.+append_all.Given as goal

abbrev pub decreases-append_all : goal.decreases-append_all
decreases-append_all l = length l.reads.now
