-- Parts in hand that a world shows which comes up. Contracts cite it.
use Rattle.ca_base.specs.Configuration.{Configuration}
use Rattle.ca_adapter_parts.specs.declared.held.Held.{Held}
use Rattle.ca_adapter_parts.specs.HeldView.{holding}
use Rattle.ca_adapter_reach_laws.specs.ca_law_world.Bindings.{IsBoundWorld}
use Rattle.ca_model.specs.machine.Parts.{ShowsHeld}
use Rattle.ca_model.specs.machine.Sound.{IsSoundWorld}
use Rattle.ca_model.specs.machine.World.{World}
use Rattle.ca_adapter_reach_laws.specs.Ties.{IsVacantOutside}

-- The parts in hand are those of a sound world, in which bound windows are counted, and which is vacant outside the
-- configured slices.
pub record AreShown (c : Configuration) (h : Held) : Type 0 where
  pub world : World
  pub sound : IsSoundWorld c world
  pub bound : IsBoundWorld world
  pub outside : IsVacantOutside c world
  pub shows : ShowsHeld (holding h).parts (holding h).world world
