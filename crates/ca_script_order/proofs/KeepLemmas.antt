-- What every visit keeps, the order of a script keeps. For proofs only.
use Rattle.std.proofs.Common.{ℕ, zero, suc, Bool, true, false, if◌then◌else◌, List, [], ◌∷◌, Option, None, Some, nat_le}
use Rattle.std.specs.Option.{option_map_or}
use Rattle.ca_model.specs.declared.event.Event.{Event}
use Rattle.ca_model.specs.declared.event.Event.TheVariants as events
use Rattle.ca_script.specs.Script.{ScriptValue}
use Rattle.ca_script.specs.ca_script_lines.declared.Line.{Line}
use Rattle.ca_script.specs.ca_script_lines.declared.what.What.{What}
use Rattle.ca_script.specs.ca_script_lines.declared.what.What.TheVariants as whats
use Rattle.ca_model_places.specs.Turns.{event_of}
use Rattle.ca_script_order.specs.Visits.{Visit, Consumer, Engine, round_of, timer_pass_of}
use Rattle.ca_script_order.specs.Order.{Stage, at_round, after_first, has_no_event_left, lines_of, after_event, after_pass, after_rounds, after_visit, after_line, with_lines_left, after_round}

-- what is kept where an event is made, and where a consumer's line is done
pub record IsKept (s : ScriptValue) (P : Stage → Type 0) : Type 0 where
  pub makes : (event : Event) (g : Stage) → P g → P (after_event s event (λ h. h) g)
  pub calls : (event : Event) (k : ℕ) (rest : List Line) (g : Stage) → P g → P (after_event s event (with_lines_left k rest) g)
  pub passes : (k : ℕ) (rest : List Line) (g : Stage) → P g → P (with_lines_left k rest g)

kept-line : (s : ScriptValue) (P : Stage → Type 0) → IsKept s P → (k : ℕ) (lines : List Line) (g : Stage) → P g → P (after_line s k lines g)
kept-line s P kept k [] g holds = holds
kept-line s P kept k (line ∷ rest) g holds = by line.what
  where
    at : (b : Bool) → P (if b then with_lines_left k rest g else g)
    at true = kept.passes k rest g holds
    at false = holds

    done : What → Stage
    done (whats.Verb verb) = after_event s (events.Verb k verb) (with_lines_left k rest) g
    done (whats.At t) = if nat_le t g.count then with_lines_left k rest g else g

    by : (what : What) → P (done what)
    by (whats.Verb verb) = kept.calls (events.Verb k verb) k rest g holds
    by (whats.At t) = at (nat_le t g.count)

pub kept-visit : (s : ScriptValue) (P : Stage → Type 0) → IsKept s P → (v : Visit) (g : Stage) → P g → P (after_visit s v g)
kept-visit s P kept (Consumer k) g holds = kept-line s P kept k (lines_of k g.left) g holds
kept-visit s P kept (Engine turn) g holds = by (event_of s.weather g.world turn)
  where
    by : (o : Option Event) → P (option_map_or (λ event. after_event s event (λ h. h) g) o g)
    by None = holds
    by (Some event) = kept.makes event g holds

-- what each visit keeps
abbrev pub ByVisits : ScriptValue → (Stage → Type 0) → Type 0
ByVisits s P = (v : Visit) (g : Stage) → P g → P (after_visit s v g)

pub kept-pass : (s : ScriptValue) (P : Stage → Type 0) → ByVisits s P → (vs : List Visit) (g : Stage) → P g → P (after_pass s vs g)
kept-pass s P kept [] g holds = holds
kept-pass s P kept (v ∷ vs) g holds = by (kept-pass s P kept vs (after_visit s v g) (kept v g holds)) (has_no_event_left s g)
  where
    by : P (after_pass s vs (after_visit s v g)) → (b : Bool) → P (if b then g else after_pass s vs (after_visit s v g))
    by rest true = holds
    by rest false = rest

kept-first : (s : ScriptValue) (P : Stage → Type 0) → ByVisits s P → (vs : List Visit) (g : Stage) → P g → P (after_first s vs g)
kept-first s P kept [] g holds = holds
kept-first s P kept (v ∷ vs) g holds = by (kept v g holds) (kept-first s P kept vs (after_visit s v g) (kept v g holds)) (after_visit s v g).happened
  where
    by : P (after_visit s v g) → P (after_first s vs (after_visit s v g)) → (b : Bool) → P (if b then after_visit s v g else after_first s vs (after_visit s v g))
    by visited rest true = visited
    by visited rest false = rest

-- what is kept where a round begins too
abbrev pub Begins : (Stage → Type 0) → Type 0
Begins P = (g : Stage) → P g → P (at_round g)

kept-worked : (s : ScriptValue) (P : Stage → Type 0) → Begins P → ByVisits s P → (g : Stage) → P g → P (after_round s g)
kept-worked s P begins kept g holds = by (after_pass s (round_of s) (at_round g)).happened
  where
    passed : P (after_pass s (round_of s) (at_round g))
    passed = kept-pass s P kept (round_of s) (at_round g) (begins g holds)

    by : (b : Bool) → P (if b then after_pass s (round_of s) (at_round g) else after_first s (timer_pass_of s) (after_pass s (round_of s) (at_round g)))
    by true = passed
    by false = kept-first s P kept (timer_pass_of s) (after_pass s (round_of s) (at_round g)) passed

pub kept-rounds : (s : ScriptValue) (P : Stage → Type 0) → Begins P → ByVisits s P → (n : ℕ) (g : Stage) → P g → P (after_rounds s n g)
kept-rounds s P begins kept zero g holds = holds
kept-rounds s P begins kept (suc n) g holds =
    by (kept-worked s P begins kept g holds) (kept-rounds s P begins kept n (after_round s g) (kept-worked s P begins kept g holds))
    (has_no_event_left s g) (after_round s g).happened
  where
    by : P (after_round s g) → P (after_rounds s n (after_round s g)) → (full happened : Bool) → P (if full then g else (if happened then after_rounds s n (after_round s g) else after_round s g))
    by after rest true happened = holds
    by after rest false true = rest
    by after rest false false = after
