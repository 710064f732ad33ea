-- Where no visit changes a stage all is quiet there, and no consumer can go on. For proofs only.
use Rattle.std.proofs.Common.{◌≡◌, ℕ, suc, inl, inr, Bool, true, false, ◌||◌, ◌≤◌, not, List, [], ◌∷◌, ◌++◌, length, map, Option, None, Some, nat_le, refl, ap, sym, ◌∙◌, arith, true≢false, if◌then◌else◌}
use Rattle.std.specs.List.{flat_map, list_any}
use Rattle.std.specs.Option.{option_map_or}
use Rattle.ca_keys.specs.declared.names.QueueId.{QueueId}
use Rattle.ca_model.specs.declared.event.Event.{Event}
use Rattle.ca_model.specs.declared.event.Event.TheVariants as events
use Rattle.ca_model.specs.machine.Plan.{Outcome, NotReady, Did}
use Rattle.ca_model.specs.machine.Step.{step}
use Rattle.ca_script.specs.Script.{ScriptValue}
use Rattle.ca_script.specs.ca_script_lines.declared.Line.{Line}
use Rattle.ca_script.specs.ca_script_lines.declared.what.What.{What}
use Rattle.ca_script.specs.ca_script_lines.declared.what.What.TheVariants as whats
use Rattle.ca_model_places.specs.Turns.{event_of}
use Rattle.ca_base.specs.declared.step.Turn.{Turn}
use Rattle.ca_base.specs.declared.step.Turn.TheVariants as turns
use Rattle.ca_script_order.specs.Visits.{Visit, Consumer, Engine, all_queues, numbers_below, round_of}
use Rattle.ca_script_order.specs.Order.{HasNoMoreLines, Stage, after_event, after_line, after_outcome, after_rounds, after_visit, ending, lines_of, most_rounds, with_lines_left}
use Rattle.ca_script_order.specs.OfScript.{HasEnded, is_possible, is_passed, lines_at, may_call, may_go_on, may_turn, may_work}
use Rattle.ca_script_order.proofs.EndLemmas.{Ended, StillAll, fewer-lines, lines_left, most-end, order-ends}

-- neither of two is so
or-false : (a b : Bool) → a ≡ false → b ≡ false → (a || b) ≡ false
or-false false false is so = refl
or-false true b is so = absurd (true≢false is)
or-false false true is so = absurd (true≢false so)

no-more : (n : ℕ) → suc n ≡ n → ⊥
no-more n same = omega (arith, same)

-- ---- one visit

made-still : (event : Event) (done : Stage → Stage) (g : Stage) → ((h : Stage) → (done h).count ≡ h.count) → (o : Outcome) → after_outcome event o done g ≡ g → is_possible o ≡ false
made-still event done g counts (NotReady reason) same = refl
made-still event done g counts (Did w ms) same = absurd (no-more g.count (sym (counts _) ∙ ap (λ h. h.count) same))

turn-still : (s : ScriptValue) (turn : Turn) (g : Stage) → after_visit s (Engine turn) g ≡ g → may_turn s g.world turn ≡ false
turn-still s turn g same = by (event_of s.weather g.world turn) same
  where
    by : (o : Option Event) → option_map_or (λ event. after_event s event (λ h. h) g) o g ≡ g → option_map_or (λ event. is_possible (step s.config g.world event)) o false ≡ false
    by None same = refl
    by (Some event) same = made-still event (λ h. h) g (λ h. refl) (step s.config g.world event) same

line-still : (s : ScriptValue) (k : ℕ) (lines : List Line) (g : Stage) → lines_of k g.left ≡ lines → after_line s k lines g ≡ g
    → may_go_on s g.world k (lines_at g.count lines) ≡ false
line-still s k [] g has same = refl
line-still s k (line ∷ rest) g has same = by line.what same
  where
    done : What → Stage
    done (whats.Verb verb) = after_event s (events.Verb k verb) (with_lines_left k rest) g
    done (whats.At t) = if nat_le t g.count then with_lines_left k rest g else g

    goes : What → List Line → Bool
    goes (whats.Verb verb) others = is_possible (step s.config g.world (events.Verb k verb))
    goes (whats.At t) others = false

    -- the line is passed, or stands first
    at : (t : ℕ) (b : Bool) → (if b then with_lines_left k rest g else g) ≡ g → may_go_on s g.world k (if b then lines_at g.count rest else (record line { what = whats.At t }) ∷ rest) ≡ false
    at t true same = absurd (no-more (lines_left g.left) (ap suc (sym (ap (λ h. lines_left h.left) same)) ∙ fewer-lines k g.left line rest has))
    at t false same = refl

    by : (what : What) → done what ≡ g → may_go_on s g.world k (if is_passed g.count what then lines_at g.count rest else (record line { what = what }) ∷ rest) ≡ false
    by (whats.Verb verb) same = made-still (events.Verb k verb) (with_lines_left k rest) g (λ h. refl) (step s.config g.world (events.Verb k verb)) same
    by (whats.At t) same = at t (nat_le t g.count) same

-- ---- all visits

still-append : (s : ScriptValue) (g : Stage) (xs ys : List Visit) → StillAll s g (xs ++ ys) → StillAll s g xs × StillAll s g ys
still-append s g [] ys still = (record {}, still)
still-append s g (x ∷ xs) ys still =
    let others : StillAll s g xs × StillAll s g ys = still-append s g xs ys still.1
    in ((still.0, others.0), others.1)

work-still : (s : ScriptValue) (g : Stage) (qs : List QueueId)
    → StillAll s g (flat_map (λ q. Engine (turns.Due q) ∷ Engine (turns.Respond q) ∷ Engine (turns.Request q) ∷ []) qs)
    → list_any (λ q. may_turn s g.world (turns.Due q) || (may_turn s g.world (turns.Respond q) || may_turn s g.world (turns.Request q))) qs ≡ false
work-still s g [] still = refl
work-still s g (q ∷ qs) still = or-false _ _
    (or-false _ _ (turn-still s (turns.Due q) g still.0)
    (or-false _ _ (turn-still s (turns.Respond q) g still.1.0) (turn-still s (turns.Request q) g still.1.1.0)))
    (work-still s g qs still.1.1.1)

fire-still : (s : ScriptValue) (g : Stage) (qs : List QueueId)
    → StillAll s g (flat_map (λ q. Engine (turns.RnrWake q) ∷ Engine (turns.Timeout q) ∷ []) qs)
    → list_any (λ q. may_turn s g.world (turns.RnrWake q) || may_turn s g.world (turns.Timeout q)) qs ≡ false
fire-still s g [] still = refl
fire-still s g (q ∷ qs) still = or-false _ _
    (or-false _ _ (turn-still s (turns.RnrWake q) g still.0) (turn-still s (turns.Timeout q) g still.1.0))
    (fire-still s g qs still.1.1)

calls-still : (s : ScriptValue) (g : Stage) (ks : List ℕ) → StillAll s g (map Consumer ks)
    → list_any (λ k. may_go_on s g.world k (lines_at g.count (lines_of k g.left))) ks ≡ false
calls-still s g [] still = refl
calls-still s g (k ∷ ks) still = or-false _ _ (line-still s k (lines_of k g.left) g refl still.0) (calls-still s g ks still.1)

-- where no visit of a round changes a stage no engine can work there, and no consumer can go on
pub round-idle : (s : ScriptValue) (g : Stage) → StillAll s g (round_of s) → (may_work s g.world ≡ false) × (may_call s g.world g.count g.left ≡ false)
round-idle s g round =
    let parts : StillAll s g (map Consumer (numbers_below (length s.consumers))) × StillAll s g (flat_map (λ q. Engine (turns.Due q) ∷ Engine (turns.Respond q) ∷ Engine (turns.Request q) ∷ []) (all_queues s.config)) =
    still-append s g (map Consumer (numbers_below (length s.consumers))) _ round
    in (work-still s g (all_queues s.config) parts.1, calls-still s g (numbers_below (length s.consumers)) parts.0)

pub ended-ended : (s : ScriptValue) (g : Stage) → Ended s g → HasEnded s g
ended-ended s g (inl is) = inl is
ended-ended s g (inr (round, timers)) =
    let idle : (may_work s g.world ≡ false) × (may_call s g.world g.count g.left ≡ false) = round-idle s g round
    in inr (ap not (or-false _ _ idle.0 (fire-still s g (all_queues s.config) timers)), idle.1)

pub order-ended : (s : ScriptValue) → HasEnded s (ending s)
order-ended s = ended-ended s (ending s) (order-ends s)

pub rounds-ended : (s : ScriptValue) (n : ℕ) (g : Stage) → HasNoMoreLines s g → most_rounds s ≤ n → HasEnded s (after_rounds s n g)
rounds-ended s n g lines enough = ended-ended s (after_rounds s n g) (most-end s n g lines enough)
