-- What it is to take the parts of what is asked for, and to give them back. Contracts cite it.
use Rattle.std.specs.Prelude.{◌≡◌, ◌≢◌, ◌<◌, ◌≤◌, ◌⊎◌, ℕ, false, List, [], ◌∷◌, ◌++◌, length, Some, None}
use Rattle.ca_base.specs.Configuration.{configuration_in}
use Rattle.ca_base.specs.declared.limits.TheConstants.{MAX_PASSES}
use Rattle.ca_base.specs.declared.settings.Settings.{Settings}
use Rattle.ca_verbs_machine.specs.After.{IsUp}
use Rattle.ca_verbs_machine.specs.Meanings.{CanFollow, StandsFor, next_of}
use Rattle.ca_verbs_machine.specs.Values.{PartValue}
use Rattle.ca_verbs_machine.specs.declared.asked.Asked.{Asked}
use Rattle.ca_verbs_machine.specs.declared.asked.Told.{Told}
use Rattle.ca_model.specs.declared.part_name.PartName.{PartName}
use Rattle.ca_parts.specs.Calls.{WasTaken}
use Rattle.ca_parts.specs.Hands.{AllStand, IsTakenFor}
use Rattle.ca_parts.specs.Lists.{Has}
use Rattle.ca_model_places.specs.Places.{place_of}
use Rattle.ca_verbs_taking.specs.Holding.{Known}
use Rattle.ca_verbs_taking.specs.declared.take_error.TakeError.{TakeError}
use Rattle.ca_verbs_taking.specs.declared.take_error.TakeError.TheVariants as errors

-- the share of a pass, the passes that it is made of, and its entries are as they were
abbrev pub SameRecord : Known → Known → Type 0
SameRecord old new = ((new.share ≡ old.share) × (new.passes ≡ old.passes)) × (new.entries ≡ old.entries)

-- after the first n entries, which are a list of the machine, the parts in a hand stood for their values
pub record IsSeen (key : Settings) (n : ℕ) (hand : List (ℕ × PartValue)) : Type 0 where
  pub log : List Told
  pub length_is : length log ≡ n
  pub up : IsUp (configuration_in key) log
  pub stand : AllStand (StandsFor key log) hand

-- a look read n, with the parts that are in hand then: it is above the stamps of the pass, and not below what it read
-- before this call and in it
pub record HasLooked (n : ℕ) (hand : List (ℕ × PartValue)) (old new : Known) : Type 0 where
  pub between : List (ℕ × List (ℕ × PartValue))
  pub noted : new.notes ≡ old.notes ++ (between ++ (n, hand) ∷ [])
  pub later : (m : ℕ) (e : Told) → Has (m, e) old.entries → m < n
  pub read : (m : ℕ) (h : List (ℕ × PartValue)) → Has (m, h) old.notes → m ≤ n
  pub before : (m : ℕ) (h : List (ℕ × PartValue)) → Has (m, h) between → m ≤ n

-- All parts are in hand that are needed for what is asked: each is the one that was needed next after those before it. The
-- clock was read as n with them in hand, and is below the limit of events.
pub record TookAll (key : Settings) (asked : Asked) (n : ℕ) (old new : Known) : Type 0 where
  pub taken : IsTakenFor next_of key asked new.hand
  pub all : next_of key asked new.hand ≡ None
  pub taking : (new.hand ≡ []) ⊎ ((new.giving ≡ false) × (new.event ≡ Some asked))
  pub looked : new.looked ≡ Some n
  pub under : n < key.events
  pub seen : IsSeen key n new.hand
  pub noted : HasLooked n new.hand old new
  pub refused : new.refused ≡ old.refused

-- The part at place k, which is needed next after those in hand, was taken by another pass at a moment of this call. What
-- this call read of the clock is below the limit of events.
pub record WasBusy (key : Settings) (asked : Asked) (name : PartName) (old new : Known) : Type 0 where
  pub place : ℕ
  pub place_is : place_of (configuration_in key) name ≡ Some place
  pub at : Known
  pub taken : IsTakenFor next_of key asked at.hand
  pub needed : next_of key asked at.hand ≡ Some place
  pub was : WasTaken next_of CanFollow StandsFor key place at
  pub not_alone : old.share ≢ MAX_PASSES
  pub refused : new.refused ≡ old.refused ++ place ∷ []
  pub looks : List (ℕ × List (ℕ × PartValue))
  pub noted : new.notes ≡ old.notes ++ looks
  pub under : (m : ℕ) (h : List (ℕ × PartValue)) → Has (m, h) looks → m < key.events

-- the clock was read as n, with the parts that were in hand then, and is not below the limit of events
pub record WasFull (key : Settings) (n : ℕ) (old new : Known) : Type 0 where
  pub over : key.events ≤ n
  pub hand : List (ℕ × PartValue)
  pub noted : HasLooked n hand old new
  pub refused : new.refused ≡ old.refused

-- why not all parts were taken
abbrev pub WasStopped : Settings → Asked → TakeError → Known → Known → Type 0
WasStopped key asked (errors.Busy name) old new = WasBusy key asked name old new
WasStopped key asked (errors.Full n) old new = WasFull key n old new
