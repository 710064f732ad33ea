use Rattle.std.proofs.Common.{length}
use Rattle.ca_adapter_turns.proofs.sending.+touched_by.Given as goal

abbrev pub decreases-touched_by : goal.decreases-touched_by
decreases-touched_by l = length l.asks.now
