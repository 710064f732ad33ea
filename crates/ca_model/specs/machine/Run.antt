-- The machine over a list of events, and what it is that a history follows it. Contracts cite it.
use Rattle.std.specs.Prelude.{◌≡◌, ℕ, suc, List, [], ◌∷◌, map, Result, Ok, Err}
use Rattle.ca_base.specs.declared.step.Reason.{Reason}
use Rattle.ca_base.specs.Configuration.{Configuration}
use Rattle.ca_keys.specs.Memory.{ByteMap, zeros}
use Rattle.ca_model.specs.declared.event.Event.{Event}
use Rattle.ca_model.specs.declared.mark.Mark.{Mark}
use Rattle.ca_model.specs.Entries.{EntryValue}
use Rattle.ca_model.specs.machine.Plan.{Outcome, NotReady, Did}
use Rattle.ca_model.specs.machine.Step.{step}
use Rattle.ca_model.specs.machine.World.{World, opening_world}

-- the marks of each event, or the place and the reason of the first event that is not possible
abbrev pub Ran : Type 0
Ran = Result (List (List Mark)) (ℕ × Reason)

-- marks before those of what comes
abbrev pub with_marks : List Mark → Ran → Ran
with_marks ms (Ok rest) = Ok (ms ∷ rest)
with_marks ms (Err stop) = Err stop

-- the marks of an event and of what comes after it, or its place and its reason
abbrev pub go_on : ℕ → Outcome → (World → Ran) → Ran
go_on n (NotReady reason) rest = Err (n, reason)
go_on n (Did w ms) rest = with_marks ms (rest w)

-- events from a world on, of which the first has this place
abbrev pub run_from : Configuration → ℕ → World → List Event → Ran
run_from c n w [] = Ok []
run_from c n w (event ∷ events) = go_on n (step c w event) (λ v. run_from c (suc n) v events)

-- events from an opening on
abbrev pub run_over : Configuration → ByteMap → List Event → Ran
run_over c byte events = run_from c 0 (opening_world byte) events

-- events from an opening of zeros on
abbrev pub run : Configuration → List Event → Ran
run c events = run_over c zeros events

-- the marks of a history are those of the machine, of which no step is refused
abbrev pub Follows : Configuration → ByteMap → List EntryValue → Type 0
Follows c byte entries = run_over c byte (map (λ e. e.event) entries) ≡ Ok (map (λ e. e.marks) entries)
