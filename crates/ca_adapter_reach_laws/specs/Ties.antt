-- What keys reach of the parts in hand, beside the small world that these are. Laws cite it.
use Rattle.std.specs.Prelude.{◌≡◌, ℕ, false, List, length}
use Rattle.std.specs.List.{AllByRecursion}
use Rattle.ca_keys.specs.declared.access.Ask.{Ask}
use Rattle.ca_keys.specs.declared.names.Slot.{Slot}
use Rattle.ca_base.specs.Configuration.{Configuration}
use Rattle.ca_base.specs.objects.Region.{vacant_region}
use Rattle.ca_base.specs.objects.Slices.{has_slot}
use Rattle.ca_base.specs.objects.Window.{vacant_window}
use Rattle.ca_model.specs.machine.World.{World}
use Rattle.ca_adapter_reach.specs.declared.reached.Reached.{Reached}
use Rattle.ca_adapter_reach.specs.AtHand.{HasBytesAtHand}
use Rattle.ca_adapter_parts.specs.declared.held.Held.{Held}

-- what is held, with other windows, regions and buffers
abbrev pub with_reached : Held → Reached → Held
with_reached h r = record h { reached = r }

-- regions and windows outside the configured slices are vacant
pub record IsVacantOutside (c : Configuration) (w : World) : Type 0 where
  pub regions : (s : Slot) → has_slot c (λ a. a.regions) s ≡ false → w.region s ≡ vacant_region
  pub windows : (s : Slot) → has_slot c (λ a. a.windows) s ≡ false → w.window s ≡ vacant_window s

-- writes of which the places are at hand, with as many bytes as each ask touches
abbrev pub AreWritesAtHand : Reached → List (Ask × List ℕ) → Type 0
AreWritesAtHand r writes = AllByRecursion (λ x. HasBytesAtHand r x.0 × (length x.1 ≡ x.0.touch)) writes
