use Rattle.std.proofs.Common.{length}
use Rattle.test_fixture_reach.proofs.engine.+first_denial.Given as goal

abbrev pub decreases-first_denial : goal.decreases-first_denial
decreases-first_denial g l = length l.asks.now
