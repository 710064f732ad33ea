-- A visit on what is kept is the visit of the stage. For proofs only.
use Rattle.std.proofs.Common.{◌≡◌, ◌∙◌, refl, sym, ap, subst, ℕ, ◌+◌, ◌≤◌, arith, Bool, true, false, true≢false, if◌then◌else◌, nat_le, List, [], ◌∷◌, Option, None, Some, Ok, Err, Result, slice_get, slice_index, slice_set, is_some}
use Rattle.std.specs.Global.{Vec}
use Rattle.std.specs.Option.{option_map_or}
use Rattle.std.proofs.lemmas.Bool.Decides.{nat_tests}
use Rattle.ca_engine.specs.declared.outcome.Outcome.{Outcome}
use Rattle.ca_engine.specs.declared.outcome.Outcome.TheVariants as outcomes
use Rattle.ca_engine.specs.Loop.{is_none_left, outcome_of}
use Rattle.ca_keys.specs.declared.memory.Memory.{Memory}
use Rattle.ca_model.specs.declared.event.Event.{Event}
use Rattle.ca_model.specs.declared.event.Event.TheVariants as events
use Rattle.ca_model.specs.declared.verb.Verb.{Verb}
use Rattle.ca_model.specs.machine.Plan as plans
use Rattle.ca_model.specs.machine.Step.{step}
use Rattle.ca_script_order.specs.Order.{Stage, after_event, after_line, after_outcome, at_round, lines_of, with_lines_left}
use Rattle.ca_script_order.specs.Visits as visits
use Rattle.ca_script.specs.Script.{ScriptValue}
use Rattle.ca_script_lines.specs.declared.what.Line.{Line}
use Rattle.ca_script_lines.specs.declared.what.What.{What}
use Rattle.ca_script_lines.specs.declared.what.What.TheVariants as whats
use Rattle.ca_script_run.proofs.LineLemmas.{line_passed}
use Rattle.ca_script_run.specs.Progress.{IsAt, IsTried, IsVisited, lines_behind, told_of}
use Rattle.ca_script_run.specs.declared.progress.Progress.{Progress}
use Rattle.ca_model_places.specs.Turns.{event_of}
use Rattle.ca_base.specs.declared.step.Turn.{Turn}

abbrev did : Outcome → Bool
did outcomes.Did = true
did (outcomes.NotReady now) = false
did outcomes.Busy = false
did outcomes.Ended = false

-- ---- engines

module _ (s : ScriptValue) (g : Stage) (turn : Turn) (p : Progress) where
  abbrev Engine_visited : Outcome → Option Event → Type 0
  Engine_visited outcome o =
      IsAt s (option_map_or (λ event. after_event s event (λ h. h) (at_round g)) o (at_round g)) p
      × (outcome ≡ outcome_of (visits.Engine turn) g (option_map_or (λ event. after_event s event (λ h. h) (at_round g)) o (at_round g)))

  pub engine_tried : (event : Event) (result : Result Outcome Memory) → Some event ≡ event_of s.weather g.world turn → IsTried s event g p result
      → IsVisited s (visits.Engine turn) g p result
  engine_tried event (Ok outcome) is tried = subst (Engine_visited outcome) is tried
  engine_tried event (Err error) is tried = record {}

-- ---- consumers

abbrev Consumer_visited : ScriptValue → ℕ → Stage → Progress → Outcome → List Line → Type 0
Consumer_visited s k g p outcome lines =
    IsAt s (after_line s k lines (at_round g)) p
    × (outcome ≡ (if (after_line s k lines (at_round g)).happened then outcomes.Did else if is_none_left lines then outcomes.Ended else outcomes.NotReady g.count))

-- the lines before which a consumer stands
pub record Stands (s : ScriptValue) (g : Stage) (k : ℕ) (line : Line) : Type 0 where
  pub rest : List Line
  pub is : lines_of k g.left ≡ line ∷ rest

pub stands_before : (s : ScriptValue) (g : Stage) (p : Progress) (k : ℕ) (line : Line) → IsAt s g p
    → slice_get (lines_of k (lines_behind s.consumers p.done.items)) 0 ≡ Some line → Stands s g k line
stands_before s g p k line at some = by (lines_of k g.left) refl (ap (λ left. slice_get (lines_of k left) 0) at.left ∙ some)
  where
    given : Option Line → Line
    given None = line
    given (Some x) = x

    by : (lines : List Line) → lines_of k g.left ≡ lines → slice_get lines 0 ≡ Some line → Stands s g k line
    by [] is some = absurd (true≢false (sym (ap is_some some)))
    by (x ∷ xs) is some = record { rest = xs; is = is ∙ ap (λ y. y ∷ xs) (ap given some) }

module _ (s : ScriptValue) (g : Stage) (k : ℕ) (line : Line) (rest : List Line) (stands : lines_of k g.left ≡ line ∷ rest) where
  -- a line of which this is said
  what-is : (p : Progress) (outcome : Outcome) (what : What) → line.what ≡ what → Consumer_visited s k g p outcome (record { number = line.number; what = what } ∷ rest)
      → IsVisited s (visits.Consumer k) g p (Ok outcome)
  what-is p outcome what is visited =
      subst (Consumer_visited s k g p outcome) (sym stands) (subst (λ w. Consumer_visited s k g p outcome (record { number = line.number; what = w } ∷ rest)) (sym is) visited)

  -- the line is done
  left-behind : (done : List ℕ) (after : List ℕ) → g.left ≡ lines_behind s.consumers done → after ≡ slice_set done k (slice_index done k + 1)
      → slice_set g.left k rest ≡ lines_behind s.consumers after
  left-behind done after left is =
      ap (λ xs. slice_set xs k rest) left ∙ line_passed s.consumers done k line rest (sym (ap (lines_of k) left) ∙ stands) ∙ ap (lines_behind s.consumers) (sym is)

  module _ (verb : Verb) (verb_is : line.what ≡ whats.Verb verb) (p : Progress) where
    -- the event calls a copy of the verb
    as-verb : (copy : Verb) (outcome : Outcome) → copy ≡ verb → IsTried s (events.Verb k copy) g p (Ok outcome) → IsTried s (events.Verb k verb) g p (Ok outcome)
    as-verb copy outcome same tried = subst (λ v. IsTried s (events.Verb k v) g p (Ok outcome)) same tried

    pub verb_called : (copy : Verb) (outcome : Outcome) (after : Vec ℕ) → copy ≡ verb → outcome ≡ outcomes.Did → IsTried s (events.Verb k copy) g p (Ok outcome)
        → after.items ≡ slice_set p.done.items k (slice_index p.done.items k + 1)
        → IsVisited s (visits.Consumer k) g (record p { done = after }) (Ok outcomes.Did)
    verb_called copy outcome after same has tried is =
        what-is (record p { done = after }) outcomes.Did (whats.Verb verb) verb_is (by (step s.config g.world (events.Verb k verb)) (as-verb copy outcome same tried))
      where
        by : (o : plans.Outcome) → IsAt s (after_outcome (events.Verb k verb) o (λ h. h) (at_round g)) p × (outcome ≡ told_of g (after_outcome (events.Verb k verb) o (λ h. h) (at_round g)))
            → IsAt s (after_outcome (events.Verb k verb) o (with_lines_left k rest) (at_round g)) (record p { done = after })
            × (outcomes.Did ≡ (if (after_outcome (events.Verb k verb) o (with_lines_left k rest) (at_round g)).happened then outcomes.Did else outcomes.NotReady g.count))
        by (plans.NotReady reason) tried = absurd (true≢false (ap did (sym has ∙ tried.1)))
        by (plans.Did w ms) tried = (
          record {
            row = tried.0.row;
            count = tried.0.count;
            numbered = tried.0.numbered;
            past = tried.0.past;
            left = left-behind p.done.items after.items tried.0.left is;
          },
          refl,
        )

    pub verb_waits : (copy : Verb) (outcome : Outcome) → copy ≡ verb → (outcome ≡ outcomes.Did → ⊥) → IsTried s (events.Verb k copy) g p (Ok outcome)
        → IsVisited s (visits.Consumer k) g p (Ok outcome)
    verb_waits copy outcome same not_did tried =
        what-is p outcome (whats.Verb verb) verb_is (by (step s.config g.world (events.Verb k verb)) (as-verb copy outcome same tried))
      where
        by : (o : plans.Outcome) → IsAt s (after_outcome (events.Verb k verb) o (λ h. h) (at_round g)) p × (outcome ≡ told_of g (after_outcome (events.Verb k verb) o (λ h. h) (at_round g)))
            → IsAt s (after_outcome (events.Verb k verb) o (with_lines_left k rest) (at_round g)) p
            × (outcome ≡ (if (after_outcome (events.Verb k verb) o (with_lines_left k rest) (at_round g)).happened then outcomes.Did else outcomes.NotReady g.count))
        by (plans.NotReady reason) tried = tried
        by (plans.Did w ms) tried = absurd (not_did tried.1)

  module _ (t : ℕ) (at_is : line.what ≡ whats.At t) (p : Progress) (at : IsAt s g p) where
    pub clock_passed : (after : Vec ℕ) → t ≤ p.row.count → after.items ≡ slice_set p.done.items k (slice_index p.done.items k + 1)
        → IsVisited s (visits.Consumer k) g (record p { done = after }) (Ok outcomes.Did)
    clock_passed after passes is = what-is (record p { done = after }) outcomes.Did (whats.At t) at_is (by (nat_le t g.count) passed)
      where
        passed : nat_le t g.count ≡ true
        passed = let le : t ≤ g.count = omega (arith, passes, at.count) in grind (arith, nat_tests)

        by : (b : Bool) → b ≡ true
            → IsAt s (if b then with_lines_left k rest (at_round g) else at_round g) (record p { done = after })
            × (outcomes.Did ≡ (if (if b then with_lines_left k rest (at_round g) else at_round g).happened then outcomes.Did else outcomes.NotReady g.count))
        by true e = (
          record {
            row = at.row;
            count = at.count;
            numbered = at.numbered;
            past = at.past;
            left = left-behind p.done.items after.items at.left is;
          },
          refl,
        )
        by false e = absurd (true≢false (sym e))
