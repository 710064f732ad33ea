use Rattle.std.proofs.Common.{◌≡◌, ◌++◌, drop, map}
use Rattle.ca_base.specs.Configuration.{adapter_of}
use Rattle.ca_adapter_opening.specs.Opening.{buffer_lengths}
use Rattle.ca_adapter_opening.specs.Zeros.{zeros_of}
use Rattle.ca_adapter_opening.proofs.zeros.zero_contents.Given as goal

abbrev pub invariant-loop-adapter : goal.invariant-loop-adapter
invariant-loop-adapter l =
    l.contents.items ++ zeros_of (buffer_lengths (map adapter_of (drop l.adapter-index l.config.adapters.items)))
    ≡ zeros_of (buffer_lengths (map adapter_of l.config.adapters.items))
