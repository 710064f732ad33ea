-- What an event makes of a row, from what it makes of its parts. For proofs only.
use Rattle.std.proofs.Common.{◌≡◌, ◌∙◌, sym, ap, subst, ℕ, suc, ◌+◌, ◌<◌, ◌-◌, ◌^◌, arith, Result, Ok, Err}
use Rattle.ca_base.specs.Configuration.{Configuration, configuration_in}
use Rattle.ca_base.specs.declared.step.ActError.{ActError}
use Rattle.ca_base.specs.declared.step.ActError.TheVariants as steps
use Rattle.ca_adapter_parts.specs.HeldView.{Holding, holding}
use Rattle.ca_model.specs.Marks.{MarkList}
use Rattle.ca_model.specs.declared.event.Event.{Event}
use Rattle.ca_model.specs.machine.Frame.{Afterwards}
use Rattle.ca_model.specs.machine.Plan.{Did, NotReady, Outcome}
use Rattle.ca_model.specs.machine.Sound.{CanBeMade}
use Rattle.ca_model.specs.machine.Step.{step}
use Rattle.ca_model.specs.machine.World.{World}
use Rattle.ca_adapter_store.specs.declared.row.Row.{Row}
use Rattle.ca_adapter_store.specs.Hand.{IsOfWorld}
use Rattle.ca_adapter_store.specs.Rows.{AreTogether, IsEmpty, IsMade, IsRow, IsRowOf, count_after}
use Rattle.ca_adapter.proofs.of_ca_law_parts.Worlds.LeadsLemmas.{after-event}
use Rattle.ca_adapter.specs.ca_law_parts.Worlds.{IsWorldAfter}

pub row_made : (c : Configuration) (event : Event) (w : World) (old new : Row) (result : Result MarkList ActError) → suc old.count < 2 ^ 32 - 1 → CanBeMade event
    → IsRowOf c w old → new.settings ≡ old.settings → new.count ≡ count_after result old.count → IsEmpty (holding new.held)
    → IsMade result (step c w event) w (λ v. AreTogether c v new.parts.items (holding new.held))
    → IsMade result (step c w event) w (λ v. IsRowOf c v new)
row_made c event w old new result few made row settings count empty is =
    by result (step c w event) count (after-event c event old.count w few made row.after) is
  where
    same : configuration_in new.settings ≡ c
    same = ap configuration_in settings ∙ row.settings

    stays : new.count ≡ old.count → AreTogether c w new.parts.items (holding new.held) → IsRowOf c w new
    stays count together = record { settings = same; after = subst (λ n. IsWorldAfter c n w) (sym count) row.after; together = together; empty = empty }

    by : (r : Result MarkList ActError) (o : Outcome) → new.count ≡ count_after r old.count → Afterwards (IsWorldAfter c (suc old.count)) o
        → IsMade r o w (λ v. AreTogether c v new.parts.items (holding new.held)) → IsMade r o w (λ v. IsRowOf c v new)
    by (Ok m) (Did v ms) count after is = (
      is.0,
      record { settings = same; after = subst (λ n. IsWorldAfter c n v) (sym count) after; together = is.1; empty = empty },
    )
    by (Ok m) (NotReady reason) count after is = is
    by (Err (steps.NotReady reason)) (Did v ms) count after is = is
    by (Err (steps.NotReady reason)) (NotReady why) count after is = (is.0, stays count is.1)
    by (Err steps.Memory) (Did v ms) count after is = stays count is
    by (Err steps.Memory) (NotReady why) count after is = stays count is

-- the same from what was made of the parts, with the room that the hand got before
pub row_made_by : (event : Event) (old new : Row) (h : Holding) (result by : Result MarkList ActError) → suc old.count < 2 ^ 32 - 1 → CanBeMade event
    → new.settings ≡ old.settings → new.count ≡ count_after result old.count → IsEmpty (holding new.held) → h ≡ holding old.held → by ≡ result
    → ((w : World) → AreTogether (configuration_in old.settings) w old.parts.items h
    → IsMade by (step (configuration_in old.settings) w event) w (λ v. AreTogether (configuration_in old.settings) v new.parts.items (holding new.held)))
    → (c : Configuration) (w : World) → IsRowOf c w old → IsMade result (step c w event) w (λ v. IsRowOf c v new)
row_made_by event old new h result by few made settings count empty same is all c w row =
    row_made c event w old new result few made row settings count empty
    (subst (λ r. IsMade r (step c w event) w (λ v. AreTogether c v new.parts.items (holding new.held))) is
    (subst (λ k. AreTogether k w old.parts.items h → IsMade by (step k w event) w (λ v. AreTogether k v new.parts.items (holding new.held))) row.settings (all w)
    (subst (AreTogether c w old.parts.items) (sym same) row.together)))

-- the parts of a row are of its world
pub row_of_world : (row : Row) → IsRow row → IsOfWorld (configuration_in row.settings) row.parts.items row.held
row_of_world row is = record { count = row.count; world = is.world; after = is.of.after; together = is.of.together }

-- a row that stands for a world under some configuration does so under its own
pub row_is : (c : Configuration) (w : World) (row : Row) → IsRowOf c w row → IsRow row
row_is c w row is = record { world = w; of = subst (λ k. IsRowOf k w row) (sym is.settings) is }

-- whatever an event made, a row is left
pub row_left : (c : Configuration) (w : World) (row : Row) (result : Result MarkList ActError) (o : Outcome) → IsMade result o w (λ v. IsRowOf c v row) → IsRow row
row_left c w row (Ok m) (Did v ms) is = row_is c v row is.1
row_left c w row (Ok m) (NotReady reason) is = absurd is
row_left c w row (Err (steps.NotReady reason)) (Did v ms) is = absurd is
row_left c w row (Err (steps.NotReady reason)) (NotReady why) is = row_is c w row is.1
row_left c w row (Err steps.Memory) (Did v ms) is = row_is c w row is
row_left c w row (Err steps.Memory) (NotReady why) is = row_is c w row is

pub one_more : (n : ℕ) → n + 1 ≡ suc n
one_more n = omega arith
