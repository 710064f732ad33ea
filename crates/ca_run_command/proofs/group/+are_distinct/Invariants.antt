use Rattle.std.proofs.Common.{length}
use Rattle.ca_run_command.proofs.group.+are_distinct.Given as goal

abbrev pub decreases-are_distinct : goal.decreases-are_distinct
decreases-are_distinct l = length l.domains.now
