-- What a try leaves of a pass: its entry, or why there is none. Contracts cite it.
use Rattle.std.specs.Prelude.{◌≡◌, ◌<◌, ◌≤◌, ℕ, List, [], ◌∷◌, ◌++◌, length, Option, None, Some}
use Rattle.ca_base.specs.Configuration.{Configuration, configuration_in}
use Rattle.ca_base.specs.declared.settings.Settings.{Settings}
use Rattle.ca_base.specs.declared.step.Reason.{Reason}
use Rattle.ca_base.specs.declared.step.Reason.TheVariants as reasons
use Rattle.ca_base.specs.declared.step.ActError.{ActError}
use Rattle.ca_base.specs.declared.step.ActError.TheVariants as steps
use Rattle.ca_verbs_machine.specs.After.{IsUp, world_after}
use Rattle.ca_verbs_machine.specs.Asks.{event_asked}
use Rattle.ca_verbs_machine.specs.Meanings.{CanFollow, StandsFor, next_of}
use Rattle.ca_verbs_machine.specs.Values.{PartValue}
use Rattle.ca_verbs_machine.specs.declared.asked.Asked.{Asked}
use Rattle.ca_verbs_machine.specs.declared.asked.Told.{Told}
use Rattle.ca_model.specs.declared.event.Event.{Event}
use Rattle.ca_model.specs.declared.mark.Mark.{Mark}
use Rattle.ca_model.specs.machine.Plan.{NotReady}
use Rattle.ca_model.specs.machine.Step.{step}
use Rattle.ca_model.specs.machine.World.{World}
use Rattle.ca_parts.specs.Hands.{AllStand, Suffices}
use Rattle.ca_parts.specs.Lists.{EachFollows, Has}
use Rattle.ca_verbs_taking.specs.Holding.{Known}
use Rattle.ca_verbs_taking.specs.Taking.{HasLooked, IsSeen, WasBusy, WasFull}
use Rattle.ca_verbs_taking.specs.declared.take_error.TakeError.{TakeError}
use Rattle.ca_verbs_taking.specs.declared.take_error.TakeError.TheVariants as takes
use Rattle.ca_verbs.specs.declared.try_error.TryError.{TryError}
use Rattle.ca_verbs.specs.declared.try_error.TryError.TheVariants as errors

-- what the history keeps of an event that was made
abbrev pub told_of : Asked → Event → List Mark → Told
told_of asked event marks = record { asked = asked; event = event; marks = marks }

-- what is asked for is this event in each world for which the parts in hand stand
abbrev pub IsEventOf : Settings → Asked → Event → List (ℕ × PartValue) → Type 0
IsEventOf key asked event hand =
    (log : List Told) → IsUp (configuration_in key) log → AllStand (StandsFor key log) hand
    → event_asked (world_after (configuration_in key) log) asked ≡ Some event

-- An entry was made: it stands in the pass with its stamp, which is the number of the entries before it, and may follow
-- them. The stamp is above those of the pass before, and not below what it read. With all in hand that was needed, a look
-- of this call read less than the limit of events.
pub record IsMade (key : Settings) (e : Told) (stamp : ℕ) (old new : Known) : Type 0 where
  pub added : new.entries ≡ old.entries ++ (stamp, e) ∷ []
  pub log : List Told
  pub length_is : length log ≡ stamp
  pub follows : EachFollows (CanFollow key) [] log
  pub step : CanFollow key log e
  pub later : (m : ℕ) (x : Told) → Has (m, x) old.entries → m < stamp
  pub read : (m : ℕ) (hand : List (ℕ × PartValue)) → Has (m, hand) old.notes → m ≤ stamp
  pub looked : ℕ
  pub hand : List (ℕ × PartValue)
  pub needed : Suffices next_of key e.asked hand
  pub noted : HasLooked looked hand old new
  pub under : looked < key.events
  pub before : looked ≤ stamp
  pub share : new.share ≡ old.share
  pub passes : new.passes ≡ old.passes
  pub refused : new.refused ≡ old.refused

-- what is asked for is not possible in a world, for this reason: the event that it is there; or it is none, since nothing is due
abbrev pub IsNotPossible : Configuration → World → Option Event → Reason → Type 0
IsNotPossible c w None reason = reason ≡ reasons.Empty
IsNotPossible c w (Some event) reason = step c w event ≡ NotReady reason

-- The parts in a hand say of what is asked for that it is not possible, for this reason: they are all that it needs, and
-- after every list of n entries of the machine for which they stand it is not.
pub record SaysNotPossible (key : Settings) (asked : Asked) (n : ℕ) (reason : Reason) (hand : List (ℕ × PartValue)) : Type 0 where
  pub needed : Suffices next_of key asked hand
  pub says : (log : List Told) → length log ≡ n → IsUp (configuration_in key) log → AllStand (StandsFor key log) hand
      → IsNotPossible (configuration_in key) (world_after (configuration_in key) log) (event_asked (world_after (configuration_in key) log) asked) reason

-- After the first n entries what was asked for was not possible, for this reason. A look of this call read n, which is below
-- the limit of events, and noted the parts that say so. They stood so after n entries; what closes the fabric says that they
-- stood so after the first n of its history, as all that is noted.
pub record WasNotReady (key : Settings) (asked : Asked) (n : ℕ) (reason : Reason) (old new : Known) : Type 0 where
  pub under : n < key.events
  pub hand : List (ℕ × PartValue)
  pub noted : HasLooked n hand old new
  pub not_possible : SaysNotPossible key asked n reason hand
  pub seen : IsSeen key n hand
  pub refused : new.refused ≡ old.refused

-- why no entry was made; of want of memory nothing more is said
abbrev pub WasNotMade : Settings → Asked → TryError → Known → Known → Type 0
WasNotMade key asked (errors.Busy name) old new = WasBusy key asked name old new
WasNotMade key asked (errors.HistoryFull n) old new = WasFull key n old new
WasNotMade key asked (errors.NotReady n reason) old new = WasNotReady key asked n reason old new
WasNotMade key asked errors.Memory old new = new.refused ≡ old.refused

-- what is answered where an event is not made that the clock n was read for
abbrev pub refusal_of : ℕ → ActError → TryError
refusal_of n (steps.NotReady reason) = errors.NotReady n reason
refusal_of n steps.Memory = errors.Memory

-- what is answered where not all parts were taken
abbrev pub error_of : TakeError → TryError
error_of (takes.Busy name) = errors.Busy name
error_of (takes.Full n) = errors.HistoryFull n
