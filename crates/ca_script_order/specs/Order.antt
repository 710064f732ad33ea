-- The order of a script: the one history that rounds make of it, each with a timer pass behind it where nothing happened.
-- Contracts cite it.
use Rattle.std.specs.Prelude.{◌≡◌, ℕ, zero, suc, ◌+◌, ◌≤◌, Bool, true, false, if◌then◌else◌, nat_le, List, [], ◌∷◌, ◌++◌, length, reverse, sum_by, slice_get, slice_set}
use Rattle.std.specs.List.{AllByRecursion}
use Rattle.std.specs.Option.{option_map_or}
use Rattle.ca_keys.specs.Memory.{zeros}
use Rattle.ca_model.specs.Entries.{EntryValue}
use Rattle.ca_model.specs.declared.event.Event.{Event}
use Rattle.ca_model.specs.declared.event.Event.TheVariants as events
use Rattle.ca_model.specs.machine.Plan.{Outcome, NotReady, Did}
use Rattle.ca_model.specs.machine.Step.{step}
use Rattle.ca_model.specs.machine.World.{World, opening_world}
use Rattle.ca_script.specs.Script.{ScriptValue}
use Rattle.ca_script.specs.ca_script_lines.declared.Line.{Line}
use Rattle.ca_script.specs.ca_script_lines.declared.what.What.{What}
use Rattle.ca_script.specs.ca_script_lines.declared.what.What.TheVariants as whats
use Rattle.ca_model_places.specs.Turns.{event_of}
use Rattle.ca_script_order.specs.Visits.{Visit, Consumer, Engine, round_of, timer_pass_of}

-- how far a script is worked: the world, the entries, the latest first, and their number; the lines that are left of each
-- consumer; and whether something happened since the round began
pub record Stage : Type 0 where
  pub world : World
  pub past : List EntryValue
  pub count : ℕ
  pub left : List (List Line)
  pub happened : Bool

-- before the first round
abbrev pub opening_stage : ScriptValue → Stage
opening_stage s = record { world = opening_world zeros; past = []; count = 0; left = s.consumers; happened = false }

-- a round begins
abbrev pub at_round : Stage → Stage
at_round g = record g { happened = false }

-- so many events were made as the script allows
abbrev pub has_no_event_left : ScriptValue → Stage → Bool
has_no_event_left s g = nat_le s.config.events g.count

-- ---- one visit

-- the lines that are left of a consumer
abbrev pub lines_of : ℕ → List (List Line) → List Line
lines_of k left = option_map_or (λ lines. lines) (slice_get left k) []

-- an event was made
abbrev pub after_outcome : Event → Outcome → (Stage → Stage) → Stage → Stage
after_outcome event (NotReady reason) done g = g
after_outcome event (Did w ms) done g = done (record g {
  world = w;
  past = record { stamp = g.count; pass = 0; event = event; marks = ms } ∷ g.past;
  count = suc g.count;
  happened = true;
})

-- an event is made, where it is possible
abbrev pub after_event : ScriptValue → Event → (Stage → Stage) → Stage → Stage
after_event s event done g = after_outcome event (step s.config g.world event) done g

-- the consumer's first line is done
abbrev pub with_lines_left : ℕ → List Line → Stage → Stage
with_lines_left k lines g = record g { left = slice_set g.left k lines; happened = true }

-- a consumer calls its next verb, if that is possible, or passes the clock for which it waits
abbrev pub after_line : ScriptValue → ℕ → List Line → Stage → Stage
after_line s k [] g = g
after_line s k (line ∷ rest) g = by line.what
  where
    by : What → Stage
    by (whats.Verb verb) = after_event s (events.Verb k verb) (with_lines_left k rest) g
    by (whats.At t) = if nat_le t g.count then with_lines_left k rest g else g

abbrev pub after_visit : ScriptValue → Visit → Stage → Stage
after_visit s (Consumer k) g = after_line s k (lines_of k g.left) g
after_visit s (Engine turn) g = option_map_or (λ event. after_event s event (λ h. h) g) (event_of s.weather g.world turn) g

-- ---- rounds

-- all visits, until no more events may be made
abbrev pub after_pass : ScriptValue → List Visit → Stage → Stage
after_pass s [] g = g
after_pass s (v ∷ vs) g = if has_no_event_left s g then g else after_pass s vs (after_visit s v g)

-- a stage, or what comes else where nothing happened in it
abbrev pub or_else : Stage → (Stage → Stage) → Stage
or_else g rest = if g.happened then g else rest g

-- a stage, or what comes then where something happened in it
abbrev pub and_again : Stage → (Stage → Stage) → Stage
and_again g rest = if g.happened then rest g else g

-- the first visit in which something happens
abbrev pub after_first : ScriptValue → List Visit → Stage → Stage
after_first s [] g = g
after_first s (v ∷ vs) g = or_else (after_visit s v g) (λ h. after_first s vs h)

-- a round, and a timer pass where nothing happened in it
abbrev pub after_round : ScriptValue → Stage → Stage
after_round s g = or_else (after_pass s (round_of s) (at_round g)) (λ h. after_first s (timer_pass_of s) h)

-- rounds, until one in which nothing happens, or until no more events may be made
abbrev pub after_rounds : ScriptValue → ℕ → Stage → Stage
after_rounds s zero g = g
after_rounds s (suc n) g = if has_no_event_left s g then g else and_again (after_round s g) (λ h. after_rounds s n h)

-- more rounds than there can be: each makes an event or passes a line, but for the last
abbrev pub most_rounds : ScriptValue → ℕ
most_rounds s = suc (s.config.events + sum_by (λ lines. length lines) s.consumers)

-- no more lines are left than the script has
abbrev pub HasNoMoreLines : ScriptValue → Stage → Type 0
HasNoMoreLines s g = sum_by (λ lines. length lines) g.left ≤ sum_by (λ lines. length lines) s.consumers

-- where rounds from a stage end
abbrev pub ending_from : ScriptValue → Stage → Stage
ending_from s g = after_rounds s (most_rounds s) g

-- how far the script comes
abbrev pub ending : ScriptValue → Stage
ending s = ending_from s (opening_stage s)

-- the order of a script
abbrev pub order : ScriptValue → List EntryValue
order s = reverse (ending s).past

-- from one stage to another the entries stand, and those that are added have the pass 0
pub record AddsEntries (g h : Stage) : Type 0 where
  pub more : List EntryValue
  pub past : h.past ≡ more ++ g.past
  pub pass : AllByRecursion (λ e. e.pass ≡ 0) more
