-- A list of events made one after another: what the machine runs, and its history. Contracts cite it.
use Rattle.std.specs.Prelude.{◌≡◌, ℕ, suc, List, [], ◌∷◌, map, Result, Ok, Err}
use Rattle.std.specs.Global.{Vec}
use Rattle.ca_base.specs.declared.step.ActError.{ActError}
use Rattle.ca_base.specs.declared.step.ActError.TheVariants as steps
use Rattle.ca_model.specs.Entries.{EntryValue}
use Rattle.ca_model.specs.Marks.{MarkList}
use Rattle.ca_model.specs.declared.mark.Mark.{Mark}
use Rattle.ca_model.specs.declared.event.Event.{Event}
use Rattle.ca_model.specs.machine.Run.{Ran}
use Rattle.ca_adapter_store.specs.declared.events.ReplayError.{ReplayError}
use Rattle.ca_adapter_store.specs.declared.events.ReplayError.TheVariants as errors

-- the marks of each event
abbrev pub marks_of_each : List MarkList → List (List Mark)
marks_of_each all = map (λ m. m.marks) all

-- What was made is what the machine runs: the marks of each event; or the place and the reason of the first that is not
-- possible. Nothing is said where memory ends.
abbrev pub IsReplay : Result (Vec MarkList) ReplayError → Ran → Type 0
IsReplay (Ok all) ran = ran ≡ Ok (marks_of_each all.items)
IsReplay (Err (errors.NotReady place reason)) ran = ran ≡ Err (place, reason)
IsReplay (Err errors.Memory) ran = Unit {0}

-- the history of events with their marks, of one caller, from a stamp on
abbrev pub entries_from : ℕ → List Event → List MarkList → List EntryValue
entries_from n (event ∷ events) (m ∷ all) = record { stamp = n; pass = 0; event = event; marks = m.marks } ∷ entries_from (suc n) events all
entries_from n events all = []

-- the same from the first on
abbrev pub history_of : List Event → List MarkList → List EntryValue
history_of events all = entries_from 0 events all

-- what is answered where an event is not made, before which so many were
abbrev pub stop_at : ℕ → ActError → ReplayError
stop_at place (steps.NotReady reason) = errors.NotReady place reason
stop_at place steps.Memory = errors.Memory
