use Rattle.std.proofs.Common.{◌≡◌, ◌-◌, ◌++◌, length, map, replicate}
use Rattle.ca_base.specs.Configuration.{adapter_of}
use Rattle.ca_script.specs.Setup.{plain_adapter}
use Rattle.ca_script.proofs.setup.plain_adapters.Given as goal

abbrev pub invariant-loop-i : goal.invariant-loop-i
invariant-loop-i l = (map adapter_of l.adapters.items ++ replicate (l.count - l._i) plain_adapter ≡ replicate l.count plain_adapter) × (length l.adapters.items ≡ l._i)
