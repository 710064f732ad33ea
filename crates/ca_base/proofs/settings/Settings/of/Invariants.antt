use Rattle.std.proofs.Common.{◌≡◌, length, map, take}
use Rattle.ca_base.specs.Configuration.{adapter_of, adapter_in}
use Rattle.ca_base.proofs.settings.Settings.of.Given as goal

abbrev pub invariant-loop-i : goal.invariant-loop-i
invariant-loop-i l =
    (map adapter_in (take l.i l.adapters) ≡ map adapter_of (take l.i l.there))
    × (length l.adapters ≡ length l.initial.adapters)
