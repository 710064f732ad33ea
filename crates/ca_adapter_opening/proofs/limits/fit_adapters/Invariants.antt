use Rattle.std.proofs.Common.{◌≡◌, drop, length, map}
use Rattle.ca_base.specs.Configuration.{adapter_of}
use Rattle.ca_adapter_opening.specs.Opening.{buffer_lengths}
use Rattle.ca_adapter_opening.proofs.limits.fit_adapters.Given as goal

abbrev pub invariant-loop-adapter : goal.invariant-loop-adapter
invariant-loop-adapter l =
    (map length l.contents ≡ buffer_lengths (map adapter_of l.adapters) → map length l.rest ≡ buffer_lengths (map adapter_of (drop l.adapter-index l.adapters)))
    × (map length l.rest ≡ buffer_lengths (map adapter_of (drop l.adapter-index l.adapters)) → map length l.contents ≡ buffer_lengths (map adapter_of l.adapters))
