use Rattle.std.proofs.Common.{drop, map}
use Rattle.std.specs.List.{AllByRecursion}
use Rattle.ca_base.specs.Configuration.{adapter_of}
use Rattle.ca_model.specs.machine.Sound.{IsLimitedAdapter}
use Rattle.ca_adapter_opening.proofs.limits.are_limited_adapters.Given as goal

abbrev pub invariant-loop-adapter : goal.invariant-loop-adapter
invariant-loop-adapter l =
    (AllByRecursion IsLimitedAdapter (map adapter_of l.adapters) → AllByRecursion IsLimitedAdapter (map adapter_of (drop l.adapter-index l.adapters)))
    × (AllByRecursion IsLimitedAdapter (map adapter_of (drop l.adapter-index l.adapters)) → AllByRecursion IsLimitedAdapter (map adapter_of l.adapters))
