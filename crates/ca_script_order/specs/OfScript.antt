-- What it is that a history is one of a script, that a world is quiet, and how a script ends. Contracts cite it.
use Rattle.std.specs.Prelude.{◌≡◌, ◌⊎◌, ℕ, suc, ◌<◌, ◌≤◌, ◌==◌, ◌&&◌, ◌||◌, not, Bool, true, false, if◌then◌else◌, nat_le, List, [], ◌∷◌, length, take, drop, slice_set, Option, None, Some}
use Rattle.std.specs.List.{flat_map, list_any}
use Rattle.std.specs.Option.{option_eq, option_map_or}
use Rattle.ca_base.specs.declared.lot.Lot.{Lot}
use Rattle.ca_base.specs.declared.lot.Lot.TheVariants.{Pass, Lose, Repeat, Hold}
use Rattle.ca_base.specs.objects.Mailbox.{due}
use Rattle.ca_keys.specs.Equal.{bool_eq}
use Rattle.ca_keys.specs.Memory.{zeros}
use Rattle.ca_model.specs.Entries.{EntryValue}
use Rattle.ca_model.specs.declared.event.Event.{Event}
use Rattle.ca_model.specs.declared.event.Event.TheVariants as events
use Rattle.ca_model.specs.declared.verb.Verb.{Verb}
use Rattle.ca_model.specs.machine.Plan.{Outcome, NotReady, Did}
use Rattle.ca_model.specs.machine.Step.{step}
use Rattle.ca_model.specs.machine.World.{World, opening_world}
use Rattle.ca_script.specs.Script.{ScriptValue}
use Rattle.ca_script.specs.ca_script_lines.declared.Line.{Line}
use Rattle.ca_script.specs.ca_script_lines.declared.what.What.{What}
use Rattle.ca_script.specs.ca_script_lines.declared.what.What.TheVariants as whats
use Rattle.ca_model_places.specs.Turns.{event_of, hasten_at, lot_at}
use Rattle.ca_base.specs.declared.step.Turn.{Turn}
use Rattle.ca_base.specs.declared.step.Turn.TheVariants as turns
use Rattle.ca_script_order.specs.Visits.{all_queues, numbers_below}
use Rattle.ca_script_order.specs.Order.{Stage, has_no_event_left, lines_of}

-- ---- what is possible

abbrev pub is_possible : Outcome → Bool
is_possible (NotReady reason) = false
is_possible (Did w ms) = true

-- a turn is possible, with the weather's word
abbrev pub may_turn : ScriptValue → World → Turn → Bool
may_turn s w turn = option_map_or (λ event. is_possible (step s.config w event)) (event_of s.weather w turn) false

-- an engine can work at some queue pair: what is due can be delivered, or a response or a request can be sent
abbrev pub may_work : ScriptValue → World → Bool
may_work s w = list_any
    (λ q. may_turn s w (turns.Due q) || (may_turn s w (turns.Respond q) || may_turn s w (turns.Request q)))
    (all_queues s.config)

-- a wait after an RNR NAK can end, or a timer fire
abbrev pub may_fire : ScriptValue → World → Bool
may_fire s w = list_any (λ q. may_turn s w (turns.RnrWake q) || may_turn s w (turns.Timeout q)) (all_queues s.config)

-- Quiet: no engine can work, and no timer can fire
abbrev pub is_quiet : ScriptValue → World → Bool
is_quiet s w = not (may_work s w || may_fire s w)

-- ---- the lines of consumers

-- a line waits for no more entries than there are
abbrev pub is_passed : ℕ → What → Bool
is_passed count (whats.Verb verb) = false
is_passed count (whats.At t) = nat_le t count

-- the lines that are left of a consumer once it passed what it may pass after so many entries
abbrev pub lines_at : ℕ → List Line → List Line
lines_at count [] = []
lines_at count (line ∷ rest) = if is_passed count line.what then lines_at count rest else line ∷ rest

abbrev pub is_call : List Line → Bool
is_call [] = false
is_call (line ∷ rest) = by line.what
  where
    by : What → Bool
    by (whats.Verb verb) = true
    by (whats.At t) = false

-- a consumer's next verb is possible
abbrev pub may_go_on : ScriptValue → World → ℕ → List Line → Bool
may_go_on s w k [] = false
may_go_on s w k (line ∷ rest) = by line.what
  where
    by : What → Bool
    by (whats.Verb verb) = is_possible (step s.config w (events.Verb k verb))
    by (whats.At t) = false

-- the next verb of some consumer is possible, after so many entries and with these lines left
abbrev pub may_call : ScriptValue → World → ℕ → List (List Line) → Bool
may_call s w count left =
    list_any (λ k. may_go_on s w k (lines_at count (lines_of k left))) (numbers_below (length s.consumers))

-- ---- a history of the script

-- how far the entries so far come: the world, their number, and the lines that are left of each consumer
pub record Reach : Type 0 where
  pub world : World
  pub count : ℕ
  pub left : List (List Line)

abbrev pub opening_reach : ScriptValue → Reach
opening_reach s = record { world = opening_world zeros; count = 0; left = s.consumers }

abbrev pub lot_eq : Lot → Lot → Bool
lot_eq Pass Pass = true
lot_eq Lose Lose = true
lot_eq (Repeat a) (Repeat b) = a == b
lot_eq (Hold a) (Hold b) = a == b
lot_eq a b = false

-- no engine can work, and no consumer go on: timers may fire
abbrev pub is_idle : ScriptValue → Reach → Bool
is_idle s g = not (may_work s g.world || may_call s g.world g.count g.left)

-- An event may stand here: a verb where its consumer's next line calls one; what is sent, with the weather's lot; a
-- delivery of what is due; a timer as the weather hastens it, and a wake, only where all is idle.
abbrev pub may_stand : ScriptValue → Reach → Event → Bool
may_stand s g (events.Verb by verb) = is_call (lines_at g.count (lines_of by g.left))
may_stand s g (events.Request q lot) = lot_eq lot (lot_at s.weather g.world q)
may_stand s g (events.Respond q lot) = lot_eq lot (lot_at s.weather g.world q)
may_stand s g (events.Deliver q index) = option_eq (λ a b. a == b) (due (g.world.mailbox q)) (Some index)
may_stand s g (events.Timeout q hasten) = bool_eq hasten (hasten_at s.weather g.world q) && is_idle s g
may_stand s g (events.RnrWake q) = is_idle s g

-- the lines that are left after an event
abbrev pub left_after : Reach → Event → List (List Line)
left_after g (events.Verb by verb) = slice_set g.left by (drop 1 (lines_at g.count (lines_of by g.left)))
left_after g (events.Request q lot) = g.left
left_after g (events.Respond q lot) = g.left
left_after g (events.Deliver q index) = g.left
left_after g (events.Timeout q hasten) = g.left
left_after g (events.RnrWake q) = g.left

-- how far an event leads, if it is possible
abbrev pub reach_by : Reach → Event → Outcome → (Reach → Option Reach) → Option Reach
reach_by g event (NotReady reason) rest = None
reach_by g event (Did w ms) rest = rest (record { world = w; count = suc g.count; left = left_after g event })

-- how far entries lead; None where one of them may not stand
abbrev pub reach_from : ScriptValue → Reach → List EntryValue → Option Reach
reach_from s g [] = Some g
reach_from s g (e ∷ es) =
    if may_stand s g e.event
    then reach_by g e.event (step s.config g.world e.event) (λ h. reach_from s h es)
    else None

abbrev pub reach : ScriptValue → List EntryValue → Option Reach
reach s es = reach_from s (opening_reach s) es

-- the verbs that a consumer called in entries
abbrev pub calls_by : ℕ → List EntryValue → List Verb
calls_by k es = flat_map (λ e. by e.event) es
  where
    of_consumer : Bool → Verb → List Verb
    of_consumer true verb = verb ∷ []
    of_consumer false verb = []

    by : Event → List Verb
    by (events.Verb consumer verb) = of_consumer (consumer == k) verb
    by (events.Request q lot) = []
    by (events.Respond q lot) = []
    by (events.Deliver q index) = []
    by (events.Timeout q hasten) = []
    by (events.RnrWake q) = []

-- the verbs of lines
abbrev pub verbs_in : List Line → List Verb
verbs_in lines = flat_map (λ line. by line.what) lines
  where
    by : What → List Verb
    by (whats.Verb verb) = verb ∷ []
    by (whats.At t) = []

-- The history is one of the script: each consumer called the verbs of its lines in order, up to where it came, and
-- nobody else called one; and each event may stand where it stands.
pub record IsOfScript (s : ScriptValue) (es : List EntryValue) (end : Reach) : Type 0 where
  pub calls : (k : ℕ) → calls_by k es ≡ take (length (calls_by k es)) (verbs_in (lines_of k s.consumers))
  pub stand : reach s es ≡ Some end

-- The history is one of the script, and leads to this stage: to its world, after as many entries, and with the same
-- lines left of each consumer, once it passed what it may pass.
pub record LeadsTo (s : ScriptValue) (es : List EntryValue) (g : Stage) : Type 0 where
  pub left : List (List Line)
  pub of_script : IsOfScript s es (record { world = g.world; count = g.count; left = left })
  pub same : (k : ℕ) → lines_at g.count (lines_of k left) ≡ lines_at g.count (lines_of k g.left)

-- ---- how a script ends

-- Fine; or a consumer stands before the line of this number, which is not possible though all is quiet; or all
-- events that the script allows were made
pub data Status : Type 0 where
  Fine : Status
  Stalled : ℕ → ℕ → Status
  BudgetSpent : ℕ → Status

-- a consumer stands before its next line; where it is at its end, what holds of the others
abbrev pub stalled_at : ℕ → List Line → Status → Status
stalled_at k [] others = others
stalled_at k (line ∷ rest) others = Stalled k line.number

-- the first consumer that is not at its end, from this number on, and the number of its next line
abbrev pub stalled_from : ℕ → ℕ → List (List Line) → Status
stalled_from count k [] = Fine
stalled_from count k (lines ∷ more) = stalled_at k (lines_at count lines) (stalled_from count (suc k) more)

-- all is quiet, and no consumer can go on
abbrev pub IsQuietEnd : ScriptValue → Stage → Type 0
IsQuietEnd s g = (is_quiet s g.world ≡ true) × (may_call s g.world g.count g.left ≡ false)

-- the end of a script's order: as many events as it allows were made, or all is quiet and no consumer can go on
abbrev pub HasEnded : ScriptValue → Stage → Type 0
HasEnded s g = (has_no_event_left s g ≡ true) ⊎ IsQuietEnd s g

abbrev pub status_of : ScriptValue → Stage → Status
status_of s g = if nat_le s.config.events g.count then BudgetSpent g.count else stalled_from g.count 0 g.left

-- Each consumer before this one is at its end, once it passed what it may pass after so many entries; and this one
-- stands before the line of this number.
pub record IsStalledAt (count : ℕ) (left : List (List Line)) (k number : ℕ) : Type 0 where
  pub before : (j : ℕ) → j < k → lines_at count (lines_of j left) ≡ []
  pub line : Line
  pub rest : List Line
  pub stands : lines_at count (lines_of k left) ≡ line ∷ rest
  pub is : line.number ≡ number

-- What a status says of a stage. Fine: fewer events were made than the script allows, all is quiet, and each
-- consumer is at its end. Stalled: so too, but this consumer is the first that is not at its end, and no consumer
-- can go on. BudgetSpent: so many events were made, and these are as many as the script allows.
abbrev pub HasStatus : ScriptValue → Stage → Status → Type 0
HasStatus s g Fine =
    (g.count < s.config.events) × IsQuietEnd s g × ((k : ℕ) → lines_at g.count (lines_of k g.left) ≡ [])
HasStatus s g (Stalled k number) = (g.count < s.config.events) × IsQuietEnd s g × IsStalledAt g.count g.left k number
HasStatus s g (BudgetSpent n) = (g.count ≡ n) × (s.config.events ≤ n)
