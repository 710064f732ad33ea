use Rattle.std.proofs.Common.{length}
use Rattle.ca_adapter_footprint.proofs.keys.+asks.Given as goal

abbrev pub decreases-asks : goal.decreases-asks
decreases-asks l = length l.list.now
