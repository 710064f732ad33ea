-- What holds of every world that comes up, in one record. Laws cite it.
use Rattle.std.specs.Prelude.{ℕ, ◌<◌, ◌-◌, ◌^◌}
use Rattle.ca_base.specs.Configuration.{Configuration}
use Rattle.ca_law_parts.specs.Placed.{IsPlacedWorld}
use Rattle.ca_law_parts.specs.Raised.{IsWorldWithin}
use Rattle.ca_law_parts.specs.Room.{HasRoom}
use Rattle.ca_law_world.specs.Bindings.{IsBoundWorld}
use Rattle.ca_model.specs.machine.Sound.{AreLimited, IsSoundWorld}
use Rattle.ca_model.specs.machine.World.{World}

-- A world to which so many events lead from an opening, fewer than 2^32 - 1. The configuration keeps to its limits; each
-- object is sound; bound windows are counted; numbers are within as many events; what is named is configured; and what
-- completes has room.
pub record IsWorldAfter (c : Configuration) (n : ℕ) (w : World) : Type 0 where
  pub limited : AreLimited c
  pub few : n < 2 ^ 32 - 1
  pub sound : IsSoundWorld c w
  pub counted : IsBoundWorld w
  pub numbers : IsWorldWithin n w
  pub placed : IsPlacedWorld c w
  pub room : HasRoom w
