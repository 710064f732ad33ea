use Rattle.std.proofs.Common.{◌-◌}
use Rattle.ca_requester_sends.proofs.finished.+push_finished_from.Given as goal

abbrev pub decreases-push_finished_from : goal.decreases-push_finished_from
decreases-push_finished_from l = l.end - l.posting
