use Rattle.std.proofs.Common.{◌≡◌, drop, map, leb}
use Rattle.ca_base.specs.Configuration.{adapter_of}
use Rattle.ca_script.specs.Setup.{total_bytes}
use Rattle.ca_script.proofs.room.fits.Given as goal

abbrev pub invariant-loop-adapter : goal.invariant-loop-adapter
invariant-loop-adapter l = leb (total_bytes (map adapter_of (drop l.adapter-index l.adapters))) l.left ≡ leb (total_bytes (map adapter_of l.adapters)) l.room
