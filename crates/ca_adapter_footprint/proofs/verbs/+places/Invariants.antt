use Rattle.std.proofs.Common.{◌-◌}
use Rattle.ca_adapter_footprint.proofs.verbs.+places.Given as goal

abbrev pub decreases-places : goal.decreases-places
decreases-places l = l.upto - l.from
