use Rattle.std.proofs.Common.{length}
use Rattle.test_fixture_requester.proofs.bed.+are_here.Given as goal

abbrev pub decreases-are_here : goal.decreases-are_here
decreases-are_here l = length l.asks.now
