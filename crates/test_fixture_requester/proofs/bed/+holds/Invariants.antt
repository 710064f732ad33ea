use Rattle.std.proofs.Common.{length}
use Rattle.test_fixture_requester.proofs.bed.+holds.Given as goal

abbrev pub decreases-holds : goal.decreases-holds
decreases-holds l = length l.list.now
