use Rattle.std.proofs.Common.{◌≡◌, drop}
use Rattle.ca_base.specs.objects.SharedReceives.{after_receives_retire}
use Rattle.ca_adapter_pairs.specs.Departures.{StandOnce}
use Rattle.ca_adapter_pairs.proofs.departure.retire_all.Given as goal

-- what is left to free stands once, and freeing it is freeing all
abbrev pub invariant-loop-place : goal.invariant-loop-place
invariant-loop-place l =
    StandOnce (drop l.place-index l.places) l.srq.taken
    × (after_receives_retire (drop l.place-index l.places) l.srq ≡ after_receives_retire l.places l.fn.srq)
