-- What the past of a history and the world of the machine say alike of how keys came into force: the low byte of each
-- region's latest key, which keys were fast-registered, and to which region each window is bound. Laws cite it.
use Rattle.std.specs.Prelude.{◌≡◌, ℕ, true, false, Some}
use Rattle.ca_law_keys.specs.InForce.{is_window_slot, slot_at}
use Rattle.ca_base.specs.objects.Region.{Region, grant_of_region, is_fast_registered}
use Rattle.ca_base.specs.objects.Window.{Binding, Window}
use Rattle.ca_keys.specs.declared.grant.Grant.{Grant}
use Rattle.ca_keys.specs.declared.names.Slot.{Slot}
use Rattle.ca_model.specs.Past.{FastRegistration, BindTo, KeySlot, Past, Way}
use Rattle.ca_model.specs.machine.Row.{region_under}
use Rattle.ca_model.specs.machine.World.{World}

-- Each region has the low byte that its key slot took last; the key of one that is fast-registered came into force by a
-- fast registration, and that of a bound window by a bind to the key of its region.
pub record AgreeOnWays (lows : KeySlot → ℕ) (ways : KeySlot → Way) (region : Slot → Region) (window : Slot → Window) : Type 0
  where
    pub low : (k : KeySlot) → is_window_slot k ≡ false → lows k ≡ (region (slot_at k)).low
    pub fast : (k : KeySlot) → is_window_slot k ≡ false → is_fast_registered (region (slot_at k)).state ≡ true
        → ways k ≡ FastRegistration
    pub bound : (k : KeySlot) → is_window_slot k ≡ true → (b : Binding) → (window (slot_at k)).binding ≡ Some b
        → (g : Grant) → grant_of_region (region (region_under (window (slot_at k)) b)) ≡ Some g → ways k ≡ BindTo g.key

-- what a past and a world say of ways
abbrev pub WaysAgree : Past → World → Type 0
WaysAgree past w = AgreeOnWays past.low past.way w.region w.window
