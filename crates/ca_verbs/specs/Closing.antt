-- The history that is left where a fabric is closed. Contracts cite it.
use Rattle.std.specs.Prelude.{◌≡◌, ◌≤◌, ◌<◌, ◌+◌, ℕ, suc, List, [], ◌∷◌, length, map, take, Option, Some, slice_get, Ok}
use Rattle.ca_base.specs.Configuration.{configuration_in, part_count}
use Rattle.ca_base.specs.declared.settings.Settings.{Settings}
use Rattle.ca_base.specs.declared.step.Reason.{Reason}
use Rattle.ca_verbs_machine.specs.After.{IsUp, world_after}
use Rattle.ca_verbs_machine.specs.Asks.{event_asked}
use Rattle.ca_verbs_machine.specs.Meanings.{StandsFor}
use Rattle.ca_verbs_machine.specs.Values.{PartValue}
use Rattle.ca_verbs_machine.specs.declared.asked.Asked.{Asked}
use Rattle.ca_verbs_machine.specs.declared.asked.Told.{Told}
use Rattle.ca_isolation.specs.Alone.{Isolated}
use Rattle.ca_keys.specs.Memory.{zeros}
use Rattle.ca_law_caused.specs.Relations.{HasRelations}
use Rattle.ca_model.specs.Entries.{entry_of}
use Rattle.ca_model.specs.History.{IsHistory}
use Rattle.ca_model.specs.declared.entry.Entry.{Entry}
use Rattle.ca_model.specs.machine.Run.{run}
use Rattle.ca_parts.specs.Hands.{AllStand}
use Rattle.ca_parts.specs.Lists.{Has}
use Rattle.ca_verbs_taking.specs.Holding.{Known}
use Rattle.ca_verbs.specs.Kept.{Kept, kept_of}
use Rattle.ca_verbs.specs.Tried.{IsNotPossible, SaysNotPossible}

-- a list of entries with its stamps, of which the first is this
abbrev pub stamped_from : ℕ → List Told → List Kept
stamped_from n [] = []
stamped_from n (t ∷ ts) = (n, t.event, t.marks) ∷ stamped_from (suc n) ts

-- The history of all passes: all entries in the order of their stamps, from 0 on. It is one of the machine, which runs its
-- events with its marks; each entry of the pass that was left stands in it at its stamp, and each note is true of it, so
-- each that says of something that it was not possible. It exceeds the limit of events by at most the number of the other
-- passes that the pass that was left is made of.
pub record IsHistoryOf (key : Settings) (v : Known) (j : List Entry) : Type 0 where
  pub log : List Told
  pub up : IsUp (configuration_in key) log
  pub kept : kept_of j ≡ stamped_from 0 log
  pub runs : run (configuration_in key) (map (λ e. e.event) j) ≡ Ok (map (λ e. e.marks.marks) j)
  pub receipts : (m : ℕ) (e : Told) → Has (m, e) v.entries → slice_get log m ≡ Some e
  pub notes : (m : ℕ) (hand : List (ℕ × PartValue)) → Has (m, hand) v.notes → (m ≤ length log) × AllStand (StandsFor key (take m log)) hand
  pub not_possible : (m : ℕ) (hand : List (ℕ × PartValue)) (asked : Asked) (reason : Reason) → Has (m, hand) v.notes → SaysNotPossible key asked m reason hand
      → IsNotPossible (configuration_in key) (world_after (configuration_in key) (take m log)) (event_asked (world_after (configuration_in key) (take m log)) asked) reason
  pub few : length j < key.events + v.passes

-- The entries that a pass kept are the history's: each, with the number of the pass that made it, stands there at its stamp,
-- and no others do.
pub record AreInPlace (kept j : List Entry) : Type 0 where
  pub there : (e : Entry) → Has e kept → slice_get j e.stamp ≡ Some e
  pub all : (m : ℕ) (e : Entry) → slice_get j m ≡ Some e → (e.stamp ≡ m) × Has e kept

-- What is left of a fabric: its history, in which nothing stands but the entries of the pass; and its parts, each of which
-- is what it is after the history.
pub record AreRemains (key : Settings) (v : Known) (j : List Entry) (parts : List PartValue) : Type 0 where
  pub history : IsHistoryOf key v j
  pub all : (m : ℕ) (e : Told) → slice_get history.log m ≡ Some e → Has (m, e) v.entries
  pub count : length parts ≡ part_count (configuration_in key)
  pub stand : (k : ℕ) (x : PartValue) → slice_get parts k ≡ Some x → StandsFor key history.log k x

-- A history over zeros is lawful: its stamps count from 0 and each verb has its answer; it has all the relations; and a closed
-- group of domains gets what it would get alone.
pub record IsLawful (key : Settings) (j : List Entry) : Type 0 where
  pub history : IsHistory (map entry_of j)
  pub relations : HasRelations zeros (map entry_of j)
  pub isolated : Isolated (configuration_in key) zeros (map entry_of j)

-- the stamps of entries
abbrev pub stamps_of : List Entry → List ℕ
stamps_of entries = map (λ e. e.stamp) entries

-- there is an entry at this place
pub record IsFilled (slots : List (Option Entry)) (m : ℕ) : Type 0 where
  pub entry : Entry
  pub there : slice_get slots m ≡ Some (Some entry)
