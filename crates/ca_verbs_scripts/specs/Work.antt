-- What was called of a script: verbs of its lines, in order, and turns under its weather. Contracts cite it.
use Rattle.std.specs.Prelude.{◌≡◌, ℕ, suc, ◌≤◌, ◌==◌, false, if◌then◌else◌, List, [], ◌∷◌, ◌++◌, length, reverse}
use Rattle.std.specs.List.{AllByRecursion}
use Rattle.ca_verbs_machine.specs.After.{world_after}
use Rattle.ca_verbs_machine.specs.declared.asked.Asked.{Asked}
use Rattle.ca_verbs_machine.specs.declared.asked.Asked.TheVariants as asks
use Rattle.ca_verbs_machine.specs.declared.asked.Told.{Told}
use Rattle.ca_mailbox.specs.declared.weather.Weather.{Weather}
use Rattle.ca_model.specs.Entries.{EntryValue}
use Rattle.ca_model.specs.declared.event.Event.{Event}
use Rattle.ca_model.specs.declared.event.Event.TheVariants as events
use Rattle.ca_model.specs.declared.verb.Verb.{Verb}
use Rattle.ca_script_order.specs.Order.{Stage, lines_of}
use Rattle.ca_script.specs.Script.{ScriptValue}
use Rattle.ca_script_lines.specs.declared.Line.{Line}
use Rattle.ca_script_lines.specs.declared.what.What.{What}
use Rattle.ca_script_lines.specs.declared.what.What.TheVariants as whats
use Rattle.ca_base.specs.declared.step.Turn.{Turn}
use Rattle.ca_base.specs.declared.step.Turn.TheVariants as turns

-- ---- what may be asked for

-- a turn that a worker may ask for: what is due, a response or a request, and no timer
abbrev pub IsWorkersTurn : Turn → Type 0
IsWorkersTurn (turns.Request q) = Unit {0}
IsWorkersTurn (turns.Due q) = Unit {0}
IsWorkersTurn (turns.Deliver q index) = ⊥
IsWorkersTurn (turns.Respond q) = Unit {0}
IsWorkersTurn (turns.Timeout q) = ⊥
IsWorkersTurn (turns.RnrWake q) = ⊥

-- an event that a worker may ask for as it is: a verb
abbrev pub IsVerb : Event → Type 0
IsVerb (events.Verb by verb) = Unit {0}
IsVerb (events.Request q lot) = ⊥
IsVerb (events.Deliver q index) = ⊥
IsVerb (events.Respond q lot) = ⊥
IsVerb (events.Timeout q hasten) = ⊥
IsVerb (events.RnrWake q) = ⊥

-- what a worker may ask for: a verb, or such a turn under the weather
abbrev pub IsAsked : Weather → Asked → Type 0
IsAsked weather (asks.Event event) = IsVerb event
IsAsked weather (asks.Turn turn under) = IsWorkersTurn turn × (under ≡ weather)

-- ---- what a consumer called

-- a call of a verb: the stamp of its entry, and the verb
abbrev pub Call : Type 0
Call = ℕ × Verb

-- the call of a consumer that an event with this stamp is, if it is one
abbrev pub call_by : ℕ → ℕ → Event → List Call
call_by k n (events.Verb by verb) = if by == k then (n, verb) ∷ [] else []
call_by k n (events.Request q lot) = []
call_by k n (events.Deliver q index) = []
call_by k n (events.Respond q lot) = []
call_by k n (events.Timeout q hasten) = []
call_by k n (events.RnrWake q) = []

-- the same of what was asked for
abbrev pub call_in : ℕ → ℕ → Asked → List Call
call_in k n (asks.Event event) = call_by k n event
call_in k n (asks.Turn turn weather) = []

-- the calls of a consumer among entries with their stamps
abbrev pub calls_of : ℕ → List (ℕ × Told) → List Call
calls_of k [] = []
calls_of k (e ∷ es) = call_in k e.0 e.1.asked ++ calls_of k es

-- there is a next call, and it is not before this clock
abbrev pub IsNotBefore : ℕ → List Call → Type 0
IsNotBefore t [] = ⊥
IsNotBefore t (c ∷ cs) = t ≤ c.0

-- A line is done by calls, and the rest of them do what is behind it: a verb is called; and the clock for which a line
-- waits had come when the next verb was called.
abbrev pub IsDoneBy : What → List Call → (List Call → Type 0) → Type 0
IsDoneBy (whats.Verb verb) [] Behind = ⊥
IsDoneBy (whats.Verb verb) (c ∷ cs) Behind = (c.1 ≡ verb) × Behind cs
IsDoneBy (whats.At t) calls Behind = IsNotBefore t calls × Behind calls

-- these lines are done by these calls, one after the other, and no call is left
abbrev pub AreDoneBy : List Line → List Call → Type 0
AreDoneBy [] [] = Unit {0}
AreDoneBy [] (c ∷ cs) = ⊥
AreDoneBy (line ∷ lines) calls = IsDoneBy line.what calls (AreDoneBy lines)

-- each call has a later stamp than those before it
abbrev pub AreInOrder : ℕ → List Call → Type 0
AreInOrder from [] = Unit {0}
AreInOrder from (c ∷ cs) = (from ≤ c.0) × AreInOrder (suc c.0) cs

-- of all lines of a consumer the calls did those that are not left, in order
pub record HasCalled (all rest : List Line) (calls : List Call) : Type 0 where
  pub done : List Line
  pub is : all ≡ done ++ rest
  pub by : AreDoneBy done calls
  pub ordered : AreInOrder 0 calls

-- ---- the work of a script

-- Entries with their stamps are work of a script: each is a verb or a turn under its weather, and of each consumer they
-- called the verbs of the lines that are not left.
pub record HasWorked (s : ScriptValue) (entries : List (ℕ × Told)) (left : List (List Line)) : Type 0 where
  pub asked : AllByRecursion (λ e. IsAsked s.weather e.1.asked) entries
  pub called : (k : ℕ) → HasCalled (lines_of k s.consumers) (lines_of k left) (calls_of k entries)

-- the entries of a list with their stamps, of which the first is this
abbrev pub numbered : ℕ → List Told → List (ℕ × Told)
numbered n [] = []
numbered n (e ∷ es) = (n, e) ∷ numbered (suc n) es

-- how far a script is worked after a list of the machine, which has these entries, with these lines left
abbrev pub stage_after : ScriptValue → List Told → List EntryValue → List (List Line) → Stage
stage_after s log es left = record {
  world = world_after s.config log;
  past = reverse es;
  count = length log;
  left = left;
  happened = false;
}
