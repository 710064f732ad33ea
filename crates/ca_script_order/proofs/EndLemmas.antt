-- Rounds end, and so does the order of a script: as many events as it allows were made, or nothing is possible. For proofs
-- only.
use Rattle.std.proofs.Common.{◌≡◌, ℕ, zero, suc, ◌+◌, ◌-◌, ◌<◌, ◌≤◌, ◌⊎◌, inl, inr, Bool, true, false, if◌then◌else◌, List, [], ◌∷◌, length, sum_by, slice_set, Option, None, Some, nat_le, refl, ap, sym, ◌∙◌, arith, subst, true≢false}
use Rattle.std.specs.Bool.{⊤}
use Rattle.std.proofs.lemmas.Bool.Decides.{nat_tests}
use Rattle.std.proofs.lemmas.List.Sums.{sum_by-cons}
use Rattle.std.specs.Option.{option_map_or}
use Rattle.ca_model.specs.declared.event.Event.{Event}
use Rattle.ca_model.specs.declared.event.Event.TheVariants as events
use Rattle.ca_model.specs.machine.Plan.{Outcome, NotReady, Did}
use Rattle.ca_model.specs.machine.Step.{step}
use Rattle.ca_script.specs.Script.{ScriptValue}
use Rattle.ca_script.specs.ca_script_lines.declared.Line.{Line}
use Rattle.ca_script.specs.ca_script_lines.declared.what.What.{What}
use Rattle.ca_script.specs.ca_script_lines.declared.what.What.TheVariants as whats
use Rattle.ca_model_places.specs.Turns.{event_of}
use Rattle.ca_script_order.proofs.KeepLemmas.{ByVisits, kept-pass}
use Rattle.ca_script_order.specs.Visits.{Visit, Consumer, Engine, round_of, timer_pass_of}
use Rattle.ca_script_order.specs.Order.{HasNoMoreLines, Stage, after_line, at_round, ending, after_first, has_no_event_left, lines_of, after_event, most_rounds, opening_stage, after_pass, after_rounds, after_visit, after_outcome, with_lines_left, after_round}

-- ---- what is left

-- the lines that are left of all consumers
abbrev pub lines_left : List (List Line) → ℕ
lines_left left = sum_by (λ lines. length lines) left

-- how many events and lines there can be still
abbrev pub chances : ScriptValue → Stage → ℕ
chances s g = (s.config.events - g.count) + lines_left g.left

-- a list that begins with a line has one
abbrev pub starts : List Line → Bool
starts [] = false
starts (line ∷ rest) = true

-- one line fewer is left where a consumer's first is done
pub fewer-lines : (k : ℕ) (left : List (List Line)) (line : Line) (rest : List Line) → lines_of k left ≡ line ∷ rest
    → suc (lines_left (slice_set left k rest)) ≡ lines_left left
fewer-lines k [] line rest has = absurd (true≢false (sym (ap starts has)))
fewer-lines zero (x ∷ xs) line rest has = omega (
  arith,
  sum_by-cons (λ (l : List Line). length l) x xs,
  sum_by-cons (λ (l : List Line). length l) rest xs,
  ap (λ (l : List Line). length l) has,
)
fewer-lines (suc k) (x ∷ xs) line rest has = omega (
  arith,
  sum_by-cons (λ (l : List Line). length l) x xs,
  sum_by-cons (λ (l : List Line). length l) x (slice_set xs k rest),
  fewer-lines k xs line rest has,
)

-- ---- a visit does something, or nothing

-- From one stage to another something happened. No more chances are left, and fewer where the first was not full.
pub record Moved (s : ScriptValue) (g h : Stage) : Type 0 where
  pub happened : h.happened ≡ true
  pub no_more : chances s h ≤ chances s g
  pub fewer : has_no_event_left s g ≡ false → chances s h < chances s g

-- a stage is left as it is, or moved
abbrev pub Visited : ScriptValue → Stage → Stage → Type 0
Visited s g h = (h ≡ g) ⊎ Moved s g h

made-visited : (s : ScriptValue) (event : Event) (g : Stage) → Visited s g (after_event s event (λ h. h) g)
made-visited s event g = by (step s.config g.world event)
  where
    by : (o : Outcome) → Visited s g (after_outcome event o (λ h. h) g)
    by (NotReady reason) = inl refl
    by (Did w ms) = inr (record { happened = refl; no_more = omega arith; fewer = λ room. grind (arith, nat_tests) })

called-visited : (s : ScriptValue) (event : Event) (k : ℕ) (line : Line) (rest : List Line) (g : Stage) → lines_of k g.left ≡ line ∷ rest
    → Visited s g (after_event s event (with_lines_left k rest) g)
called-visited s event k line rest g has = by (step s.config g.world event)
  where
    one : suc (lines_left (slice_set g.left k rest)) ≡ lines_left g.left
    one = fewer-lines k g.left line rest has

    by : (o : Outcome) → Visited s g (after_outcome event o (with_lines_left k rest) g)
    by (NotReady reason) = inl refl
    by (Did w ms) = inr (record { happened = refl; no_more = omega (arith, one); fewer = λ room. omega (arith, one) })

passed-visited : (s : ScriptValue) (k : ℕ) (line : Line) (rest : List Line) (g : Stage) → lines_of k g.left ≡ line ∷ rest → Moved s g (with_lines_left k rest g)
passed-visited s k line rest g has = record { happened = refl; no_more = omega (arith, one); fewer = λ room. omega (arith, one) }
  where
    one : suc (lines_left (slice_set g.left k rest)) ≡ lines_left g.left
    one = fewer-lines k g.left line rest has

line-visited : (s : ScriptValue) (k : ℕ) (lines : List Line) (g : Stage) → lines_of k g.left ≡ lines → Visited s g (after_line s k lines g)
line-visited s k [] g has = inl refl
line-visited s k (line ∷ rest) g has = by line.what
  where
    at : (b : Bool) → Visited s g (if b then with_lines_left k rest g else g)
    at true = inr (passed-visited s k line rest g has)
    at false = inl refl

    done : What → Stage
    done (whats.Verb verb) = after_event s (events.Verb k verb) (with_lines_left k rest) g
    done (whats.At t) = if nat_le t g.count then with_lines_left k rest g else g

    by : (what : What) → Visited s g (done what)
    by (whats.Verb verb) = called-visited s (events.Verb k verb) k line rest g has
    by (whats.At t) = at (nat_le t g.count)

pub visit-visited : (s : ScriptValue) (v : Visit) (g : Stage) → Visited s g (after_visit s v g)
visit-visited s (Consumer k) g = line-visited s k (lines_of k g.left) g refl
visit-visited s (Engine turn) g = by (event_of s.weather g.world turn)
  where
    by : (o : Option Event) → Visited s g (option_map_or (λ event. after_event s event (λ h. h) g) o g)
    by None = inl refl
    by (Some event) = made-visited s event g

-- ---- a pass does something, or each visit of it does nothing

-- no visit changes the stage
abbrev pub StillAll : ScriptValue → Stage → List Visit → Type 0
StillAll s g [] = ⊤
StillAll s g (v ∷ vs) = (after_visit s v g ≡ g) × StillAll s g vs

-- a stage is left as it is, since each visit does that, or moved
abbrev pub Passed : ScriptValue → List Visit → Stage → Stage → Type 0
Passed s vs g h = ((h ≡ g) × StillAll s g vs) ⊎ Moved s g h

-- something has happened, and fewer chances than so many are left
abbrev Lower : ScriptValue → ℕ → Stage → Type 0
Lower s bound h = (h.happened ≡ true) × (chances s h < bound)

lower-kept : (s : ScriptValue) (bound : ℕ) → ByVisits s (Lower s bound)
lower-kept s bound v g lower = by (visit-visited s v g)
  where
    by : Visited s g (after_visit s v g) → Lower s bound (after_visit s v g)
    by (inl same) = subst (Lower s bound) (sym same) lower
    by (inr moved) = (moved.happened, omega (arith, moved.no_more, lower.1))

moved-by : (s : ScriptValue) (g h : Stage) → Lower s (chances s g) h → Moved s g h
moved-by s g h lower = record { happened = lower.0; no_more = omega (arith, lower.1); fewer = λ room. lower.1 }

pub pass-passed : (s : ScriptValue) (vs : List Visit) (g : Stage) → has_no_event_left s g ≡ false → Passed s vs g (after_pass s vs g)
pass-passed s [] g room = inl (refl, record {})
pass-passed s (v ∷ vs) g room = subst (λ b. Passed s (v ∷ vs) g (if b then g else after_pass s vs (after_visit s v g))) (sym room)
    (by (pass-passed s vs g room) (visit-visited s v g))
  where
    still : after_visit s v g ≡ g → Passed s vs g (after_pass s vs g) → Passed s (v ∷ vs) g (after_pass s vs (after_visit s v g))
    still same (inl (left, others)) = inl (ap (after_pass s vs) same ∙ left, (same, others))
    still same (inr moved) = inr (subst (λ h. Moved s g (after_pass s vs h)) (sym same) moved)

    by : Passed s vs g (after_pass s vs g) → Visited s g (after_visit s v g) → Passed s (v ∷ vs) g (after_pass s vs (after_visit s v g))
    by rest (inl same) = still same rest
    by rest (inr moved) = inr (moved-by s g (after_pass s vs (after_visit s v g))
        (kept-pass s (Lower s (chances s g)) (lower-kept s (chances s g)) vs (after_visit s v g) (moved.happened, moved.fewer room)))

first-passed : (s : ScriptValue) (vs : List Visit) (g : Stage) → g.happened ≡ false → Passed s vs g (after_first s vs g)
first-passed s [] g none = inl (refl, record {})
first-passed s (v ∷ vs) g none = by (first-passed s vs g none) (visit-visited s v g)
  where
    after : Bool → Stage → Stage
    after b h = if b then h else after_first s vs h

    goes_on : after_visit s v g ≡ g → after (after_visit s v g).happened (after_visit s v g) ≡ after_first s vs g
    goes_on same = ap (λ h. after h.happened h) same ∙ ap (λ b. after b g) none

    still : after_visit s v g ≡ g → Passed s vs g (after_first s vs g) → Passed s (v ∷ vs) g (after (after_visit s v g).happened (after_visit s v g))
    still same (inl (left, others)) = inl (goes_on same ∙ left, (same, others))
    still same (inr moved) = inr (subst (Moved s g) (sym (goes_on same)) moved)

    by : Passed s vs g (after_first s vs g) → Visited s g (after_visit s v g) → Passed s (v ∷ vs) g (after (after_visit s v g).happened (after_visit s v g))
    by rest (inl same) = still same rest
    by rest (inr moved) = inr (subst (λ b. Moved s g (after b (after_visit s v g))) (sym moved.happened) moved)

-- nothing happened in a round and in the timer pass behind it, since nothing could; or the stage moved
abbrev Worked : ScriptValue → Stage → Stage → Type 0
Worked s g h = ((h ≡ at_round g) × (StillAll s (at_round g) (round_of s) × StillAll s (at_round g) (timer_pass_of s))) ⊎ Moved s (at_round g) h

worked-worked : (s : ScriptValue) (g : Stage) → has_no_event_left s g ≡ false → Worked s g (after_round s g)
worked-worked s g room = by (pass-passed s (round_of s) (at_round g) room)
  where
    after : Stage → Stage
    after h = if h.happened then h else after_first s (timer_pass_of s) h

    timers : Passed s (timer_pass_of s) (at_round g) (after_first s (timer_pass_of s) (at_round g))
    timers = first-passed s (timer_pass_of s) (at_round g) refl

    still : after_pass s (round_of s) (at_round g) ≡ at_round g → StillAll s (at_round g) (round_of s)
        → Passed s (timer_pass_of s) (at_round g) (after_first s (timer_pass_of s) (at_round g)) → Worked s g (after (after_pass s (round_of s) (at_round g)))
    still same round (inl (left, others)) = inl (ap after same ∙ left, (round, others))
    still same round (inr moved) = inr (subst (Moved s (at_round g)) (sym (ap after same)) moved)

    by : Passed s (round_of s) (at_round g) (after_pass s (round_of s) (at_round g)) → Worked s g (after (after_pass s (round_of s) (at_round g)))
    by (inl (same, round)) = still same round timers
    by (inr moved) = inr (subst (λ b. Moved s (at_round g) (if b then after_pass s (round_of s) (at_round g) else after_first s (timer_pass_of s) (after_pass s (round_of s) (at_round g))))
        (sym moved.happened) moved)

-- ---- the end

-- as many events as the script allows were made, or no visit changes the stage
abbrev pub Ended : ScriptValue → Stage → Type 0
Ended s g = (has_no_event_left s g ≡ true) ⊎ (StillAll s g (round_of s) × StillAll s g (timer_pass_of s))

rounds-end : (s : ScriptValue) (n : ℕ) (g : Stage) → chances s g < n → Ended s (after_rounds s n g)
rounds-end s zero g few = absurd (omega (arith, few))
rounds-end s (suc n) g few = full (λ fewer. rounds-end s n (after_round s g) fewer) (has_no_event_left s g) refl
  where
    after : Bool → Stage → Stage
    after b h = if b then after_rounds s n h else h

    by : (chances s (after_round s g) < n → Ended s (after_rounds s n (after_round s g))) → Worked s g (after_round s g) → has_no_event_left s g ≡ false
        → Ended s (after (after_round s g).happened (after_round s g))
    by rest (inl (same, still)) room = inr (subst (λ h. StillAll s (after h.happened h) (round_of s) × StillAll s (after h.happened h) (timer_pass_of s)) (sym same) still)
    by rest (inr moved) room = subst (λ b. Ended s (after b (after_round s g))) (sym moved.happened) (rest (omega (arith, moved.fewer room, few)))

    full : (chances s (after_round s g) < n → Ended s (after_rounds s n (after_round s g))) → (b : Bool) → has_no_event_left s g ≡ b
        → Ended s (if b then g else after (after_round s g).happened (after_round s g))
    full rest true is = inl is
    full rest false is = by rest (worked-worked s g is) is

-- no more rounds are made than there can be, where no more lines are left than the script has
pub most-end : (s : ScriptValue) (n : ℕ) (g : Stage) → HasNoMoreLines s g → most_rounds s ≤ n → Ended s (after_rounds s n g)
most-end s n g lines enough = rounds-end s n g (omega (arith, lines, enough))

pub order-ends : (s : ScriptValue) → Ended s (ending s)
order-ends s = most-end s (most_rounds s) (opening_stage s) (omega arith) (omega arith)
