-- What the held parts serve: the keys and the bytes of an access, and a key that ends. Laws cite it.
use Rattle.std.specs.Prelude.{◌≡◌, Bool, true, List, IfSome}
use Rattle.std.specs.List.{AllByRecursion}
use Rattle.ca_keys.specs.declared.access.Ask.{Ask}
use Rattle.ca_keys.specs.declared.names.Slot.{Slot}
use Rattle.ca_keys.specs.declared.place.Run.{Run}
use Rattle.ca_base.specs.Configuration.{Configuration}
use Rattle.ca_base.specs.Sight.{Invalidation, runs_in}
use Rattle.ca_base.specs.objects.Region.{grant_of_region}
use Rattle.ca_base.specs.objects.Slices.{names_region, names_window, slot_of_key}
use Rattle.ca_model.specs.declared.part_name.PartName.{PartName}
use Rattle.ca_model.specs.declared.part_name.PartName.TheVariants as names
use Rattle.ca_model.specs.machine.Row.{region_under}
use Rattle.ca_model.specs.machine.Seen.{asks_window, sight_in}
use Rattle.ca_model.specs.machine.World.{World}

-- the buffers are held in which runs lie
abbrev pub AreBuffersHeld : (PartName → Bool) → List Run → Type 0
AreBuffersHeld held rs = AllByRecursion (λ r. held (names.Buffer r.adapter r.buffer) ≡ true) rs

-- a region is held, and the buffer in which its grant lies
pub record IsRegionHeld (held : PartName → Bool) (w : World) (s : Slot) : Type 0 where
  pub region : held (names.Region s) ≡ true
  pub buffer : IfSome (grant_of_region (w.region s)) (λ g. AreBuffersHeld held g.runs)

-- the parts of an ask's key are held: its region, or its window and the region of the binding; and the buffers of all
-- bytes that it touches
pub record IsAskHeld (c : Configuration) (held : PartName → Bool) (w : World) (ask : Ask) : Type 0 where
  pub region : names_region c ask.domain ask.key ≡ true → IsRegionHeld held w (slot_of_key ask.domain ask.key)
  pub window : asks_window c ask ≡ true → held (names.Window (slot_of_key ask.domain ask.key)) ≡ true
  pub under : asks_window c ask ≡ true → IfSome (w.window (slot_of_key ask.domain ask.key)).binding
      (λ b. IsRegionHeld held w (region_under (w.window (slot_of_key ask.domain ask.key)) b))
  pub bytes : AreBuffersHeld held (runs_in (sight_in c w) ask)

-- the parts of a key that ends are held: its region, or its window and the region of the binding
pub record IsEndHeld (c : Configuration) (held : PartName → Bool) (w : World) (i : Invalidation) : Type 0 where
  pub region : names_region c i.domain i.key ≡ true → held (names.Region (slot_of_key i.domain i.key)) ≡ true
  pub window : names_window c i.domain i.key ≡ true → held (names.Window (slot_of_key i.domain i.key)) ≡ true
  pub under : names_window c i.domain i.key ≡ true → IfSome (w.window (slot_of_key i.domain i.key)).binding
      (λ b. held (names.Region (region_under (w.window (slot_of_key i.domain i.key)) b)) ≡ true)
