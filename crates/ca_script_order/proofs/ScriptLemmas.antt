-- Rounds go on with a history of a script, and so the order of a script is one of it. For proofs only.
use Rattle.std.proofs.Common.{◌≡◌, ℕ, zero, suc, ◌≤◌, inl, inr, ◌==◌, ◌&&◌, ◌||◌, not, Bool, true, false, if◌then◌else◌, nat_le, List, [], ◌∷◌, ◌++◌, length, take, drop, reverse, map, slice_set, Option, None, Some, refl, ap, sym, ◌∙◌, arith, subst, true≢false}
use Rattle.std.specs.Bool.{⊤}
use Rattle.std.specs.List.{AllByRecursion, flat_map, list_any}
use Rattle.std.specs.Option.{option_eq, option_map, option_map_or}
use Rattle.std.proofs.Math.Seq.{take-append_seam}
use Rattle.std.proofs.lemmas.Bool.{eq-eqb, eqb-true}
use Rattle.std.proofs.lemmas.Bool.Decides.{nat_tests}
use Rattle.std.proofs.lemmas.Grind.{flat_map-append}
use Rattle.std.proofs.lemmas.List.{append-nil, append_assoc, length-reverse, reverse-append, take-append-drop}
use Rattle.ca_base.specs.declared.lot.Lot.{Lot}
use Rattle.ca_base.specs.declared.lot.Lot.TheVariants.{Pass, Lose, Repeat, Hold}
use Rattle.ca_base.specs.objects.Mailbox.{due}
use Rattle.ca_keys.specs.Equal.{bool_eq}
use Rattle.ca_keys.specs.declared.names.QueueId.{QueueId}
use Rattle.ca_model.specs.Entries.{EntryValue}
use Rattle.ca_model.specs.declared.event.Event.{Event}
use Rattle.ca_model.specs.declared.event.Event.TheVariants as events
use Rattle.ca_model.specs.declared.mark.Mark.{Mark}
use Rattle.ca_model.specs.declared.verb.Verb.{Verb}
use Rattle.ca_model.specs.machine.Plan.{Outcome, NotReady, Did}
use Rattle.ca_model.specs.machine.Step.{step}
use Rattle.ca_model.specs.machine.World.{World}
use Rattle.ca_script.specs.Script.{ScriptValue}
use Rattle.ca_script.specs.ca_script_lines.declared.Line.{Line}
use Rattle.ca_script.specs.ca_script_lines.declared.what.What.{What}
use Rattle.ca_script.specs.ca_script_lines.declared.what.What.TheVariants as whats
use Rattle.ca_model_places.specs.Turns.{hasten_at, lot_at}
use Rattle.ca_base.specs.declared.step.Turn.{Turn}
use Rattle.ca_base.specs.declared.step.Turn.TheVariants as turns
use Rattle.ca_script_order.specs.Visits.{Visit, Consumer, Engine, all_queues, numbers_below, round_of, timer_pass_of}
use Rattle.ca_script_order.specs.Order.{Stage, after_event, after_first, after_line, after_outcome, after_pass, after_round, after_rounds, after_visit, and_again, at_round, ending, has_no_event_left, lines_of, most_rounds, opening_stage, order, with_lines_left}
use Rattle.ca_script_order.specs.OfScript.{LeadsTo, Reach, calls_by, is_call, is_idle, is_passed, left_after, lines_at, lot_eq, may_call, may_go_on, may_stand, may_work, opening_reach, reach, reach_by, reach_from, verbs_in}
use Rattle.ca_script_order.proofs.LineLemmas.{call-by, set-other, set-same, starts-before, verbs-at}
use Rattle.ca_script_order.proofs.ReachLemmas.{reach-counts, reach-left}
use Rattle.ca_script_order.proofs.EndLemmas.{Passed, Visited, pass-passed, starts, visit-visited}
use Rattle.ca_script_order.proofs.QuietLemmas.{round-idle}

-- ---- the lines that are left

-- what was passed before is passed later
at-later : (n m : ℕ) → n ≤ m → (lines : List Line) → lines_at m (lines_at n lines) ≡ lines_at m lines
at-later n m later [] = refl
at-later n m later (line ∷ rest) = by (at-later n m later rest) line.what
  where
    passed : (t : ℕ) → lines_at m (lines_at n rest) ≡ lines_at m rest → (b c : Bool) → nat_le t n ≡ b → nat_le t m ≡ c
        → lines_at m (if b then lines_at n rest else (record line { what = whats.At t }) ∷ rest) ≡ (if c then lines_at m rest else (record line { what = whats.At t }) ∷ rest)
    passed t others true true is so = others
    passed t others true false is so = absurd (grind (arith, nat_tests, is, so, later))
    passed t others false c is so = ap (λ p. if p then lines_at m rest else (record line { what = whats.At t }) ∷ rest) so

    by : lines_at m (lines_at n rest) ≡ lines_at m rest → (what : What)
        → lines_at m (if is_passed n what then lines_at n rest else (record line { what = what }) ∷ rest) ≡ lines_at m ((record line { what = what }) ∷ rest)
    by others (whats.Verb verb) = refl
    by others (whats.At t) = passed t others (nat_le t n) (nat_le t m) refl refl

-- ---- what may stand

or-false : (a b : Bool) → a ≡ false → b ≡ false → (a || b) ≡ false
or-false false false is so = refl
or-false true b is so = absurd (true≢false is)
or-false false true is so = absurd (true≢false so)

lot-same : (lot : Lot) → lot_eq lot lot ≡ true
lot-same Pass = refl
lot-same Lose = refl
lot-same (Repeat k) = eq-eqb k k refl
lot-same (Hold k) = eq-eqb k k refl

word-same : (b : Bool) → bool_eq b b ≡ true
word-same true = refl
word-same false = refl

-- the next lines of each consumer are the same, once it passed what it may pass
abbrev SameLeft : ℕ → List (List Line) → List (List Line) → Type 0
SameLeft n left other = (k : ℕ) → lines_at n (lines_of k left) ≡ lines_at n (lines_of k other)

calls-same : (s : ScriptValue) (w : World) (n : ℕ) (left other : List (List Line)) → SameLeft n left other → (ks : List ℕ)
    → list_any (λ k. may_go_on s w k (lines_at n (lines_of k left))) ks ≡ list_any (λ k. may_go_on s w k (lines_at n (lines_of k other))) ks
calls-same s w n left other same [] = refl
calls-same s w n left other same (k ∷ ks) =
    ap (λ lines. may_go_on s w k lines || list_any (λ i. may_go_on s w i (lines_at n (lines_of i left))) ks) (same k)
    ∙ ap (λ b. may_go_on s w k (lines_at n (lines_of k other)) || b) (calls-same s w n left other same ks)

-- no engine can work, and no consumer go on
abbrev Idle : ScriptValue → Stage → Type 0
Idle s g = (may_work s g.world ≡ false) × (may_call s g.world g.count g.left ≡ false)

-- as far as a stage comes, with these lines left
abbrev reach_at : Stage → List (List Line) → Reach
reach_at g left = record { world = g.world; count = g.count; left = left }

idle-reach : (s : ScriptValue) (g : Stage) (left : List (List Line)) → SameLeft g.count left g.left → Idle s g → is_idle s (reach_at g left) ≡ true
idle-reach s g left same idle =
    ap not (or-false _ _ idle.0 (calls-same s g.world g.count left g.left same (numbers_below (length s.consumers)) ∙ idle.1))

-- ---- one more entry

reach-more : (s : ScriptValue) (es : List EntryValue) (g h : Reach) (e : EntryValue) → reach_from s g es ≡ Some h → reach_from s g (es ++ e ∷ []) ≡ reach_from s h (e ∷ [])
reach-more s [] g h e is = ap (λ o. option_map_or (λ x. reach_from s x (e ∷ [])) o None) is
reach-more s (x ∷ xs) g h e is = by (λ f so. reach-more s xs f h e so) (may_stand s g x.event) (step s.config g.world x.event) is
  where
    by : ((f : Reach) → reach_from s f xs ≡ Some h → reach_from s f (xs ++ e ∷ []) ≡ reach_from s h (e ∷ [])) → (b : Bool) (o : Outcome)
        → (if b then reach_by g x.event o (λ f. reach_from s f xs) else None) ≡ Some h
        → (if b then reach_by g x.event o (λ f. reach_from s f (xs ++ e ∷ [])) else None) ≡ reach_from s h (e ∷ [])
    by more true (NotReady reason) is = absurd cc
    by more true (Did w ms) is = more (record { world = w; count = suc g.count; left = left_after g x.event }) is
    by more false o is = absurd cc

-- the entry that an event makes at a stage
abbrev entry_at : Stage → Event → List Mark → EntryValue
entry_at g event ms = record { stamp = g.count; pass = 0; event = event; marks = ms }

reach-entry : (s : ScriptValue) (g : Stage) (left : List (List Line)) (event : Event) (w : World) (ms : List Mark) → step s.config g.world event ≡ Did w ms
    → reach s (reverse g.past) ≡ Some (reach_at g left) → may_stand s (reach_at g left) event ≡ true
    → reach s (reverse (entry_at g event ms ∷ g.past)) ≡ Some (record { world = w; count = suc g.count; left = left_after (reach_at g left) event })
reach-entry s g left event w ms does came stands =
    ap (reach s) (reverse-append (entry_at g event ms ∷ []) g.past)
    ∙ reach-more s (reverse g.past) (opening_reach s) (reach_at g left) (entry_at g event ms) came
    ∙ ap (λ b. if b then reach_by (reach_at g left) event (step s.config g.world event) (λ f. Some f) else None) stands
    ∙ ap (λ o. reach_by (reach_at g left) event o (λ f. Some f)) does

calls-entry : (k : ℕ) (e : EntryValue) (past : List EntryValue) → calls_by k (reverse (e ∷ past)) ≡ calls_by k (reverse past) ++ calls_by k (e ∷ [])
calls-entry k e past = ap (calls_by k) (reverse-append (e ∷ []) past) ∙ flat_map-append _ (reverse past) (e ∷ [])

-- ---- what holds at each stage

-- The entries so far may stand where they stand, and each consumer called the verbs of its lines that are no longer left.
record Told (s : ScriptValue) (g : Stage) : Type 0 where
  left : List (List Line)
  came : reach s (reverse g.past) ≡ Some (reach_at g left)
  same : SameLeft g.count left g.left
  calls : (k : ℕ) → calls_by k (reverse g.past) ++ verbs_in (lines_of k g.left) ≡ verbs_in (lines_of k s.consumers)

-- an engine's event: it leaves the lines, and is nobody's call
record IsOfEngine (event : Event) : Type 0 where
  leaves : (r : Reach) → left_after r event ≡ r.left
  no_call : (k n p : ℕ) (ms : List Mark) → calls_by k (record { stamp = n; pass = p; event = event; marks = ms } ∷ []) ≡ []

same-later : (n : ℕ) (left other : List (List Line)) → SameLeft n left other → SameLeft (suc n) left other
same-later n left other same k =
    sym (at-later n (suc n) (omega arith) (lines_of k left)) ∙ ap (lines_at (suc n)) (same k) ∙ at-later n (suc n) (omega arith) (lines_of k other)

told-turn : (s : ScriptValue) (event : Event) (g : Stage) → IsOfEngine event → ((left : List (List Line)) → SameLeft g.count left g.left → may_stand s (reach_at g left) event ≡ true)
    → Told s g → Told s (after_event s event (λ h. h) g)
told-turn s event g engine stands told = by (step s.config g.world event) refl
  where
    by : (o : Outcome) → step s.config g.world event ≡ o → Told s (after_outcome event o (λ h. h) g)
    by (NotReady reason) does = told
    by (Did w ms) does = record {
      left = told.left;
      came = reach-entry s g told.left event w ms does told.came (stands told.left told.same)
          ∙ ap (λ left. Some (record { world = w; count = suc g.count; left = left })) (engine.leaves (reach_at g told.left));
      same = same-later g.count told.left g.left told.same;
      calls = λ k. ap (λ vs. vs ++ verbs_in (lines_of k g.left)) (calls-entry k (entry_at g event ms) g.past ∙ ap (λ vs. calls_by k (reverse g.past) ++ vs) (engine.no_call k g.count 0 ms) ∙ append-nil (calls_by k (reverse g.past)))
          ∙ told.calls k;
    }

-- lines that are the same stay so, where the same lines are set
same-set : (n k : ℕ) (left other : List (List Line)) (rest more : List Line) → SameLeft n left other → starts (lines_of k left) ≡ true → starts (lines_of k other) ≡ true
    → lines_at n rest ≡ lines_at n more → SameLeft n (slice_set left k rest) (slice_set other k more)
same-set n k left other rest more same some also next j = by (k == j) refl
  where
    by : (b : Bool) → (k == j) ≡ b → lines_at n (lines_of j (slice_set left k rest)) ≡ lines_at n (lines_of j (slice_set other k more))
    by true is = subst (λ i. lines_at n (lines_of i (slice_set left k rest)) ≡ lines_at n (lines_of i (slice_set other k more))) (eqb-true k j is)
        (ap (lines_at n) (set-same k left rest some) ∙ next ∙ ap (lines_at n) (sym (set-same k other more also)))
    by false is =
        let differs : k ≡ j → ⊥ = λ are. true≢false (sym (eq-eqb k j are) ∙ is)
        in ap (lines_at n) (set-other k j left rest differs) ∙ same j ∙ ap (lines_at n) (sym (set-other k j other more differs))

-- a consumer's next call
told-call : (s : ScriptValue) (k : ℕ) (line : Line) (verb : Verb) (rest : List Line) (g : Stage) → lines_of k g.left ≡ (record line { what = whats.Verb verb }) ∷ rest
    → Told s g → Told s (after_event s (events.Verb k verb) (with_lines_left k rest) g)
told-call s k line verb rest g has told = by (step s.config g.world (events.Verb k verb)) refl
  where
    event : Event
    event = events.Verb k verb

    before : (j : ℕ) → List Verb
    before j = calls_by j (reverse g.past)

    -- the lines that are left in the history are these too
    next : lines_at g.count (lines_of k told.left) ≡ (record line { what = whats.Verb verb }) ∷ rest
    next = told.same k ∙ ap (lines_at g.count) has

    some : starts (lines_of k told.left) ≡ true
    some = starts-before g.count (lines_of k told.left) (ap starts next)

    Calls : List Mark → ℕ → Type 0
    Calls ms j = calls_by j (reverse (entry_at g event ms ∷ g.past)) ++ verbs_in (lines_of j (slice_set g.left k rest)) ≡ verbs_in (lines_of j s.consumers)

    own : (ms : List Mark) → Calls ms k
    own ms =
        ap (λ vs. vs ++ verbs_in (lines_of k (slice_set g.left k rest))) (calls-entry k (entry_at g event ms) g.past ∙ ap (λ vs. before k ++ vs) (call-by k k g.count 0 verb ms true (eq-eqb k k refl)))
        ∙ append_assoc (before k) (verb ∷ []) _
        ∙ ap (λ lines. before k ++ verb ∷ verbs_in lines) (set-same k g.left rest (ap starts has))
        ∙ ap (λ lines. before k ++ verbs_in lines) (sym has)
        ∙ told.calls k

    calls : (ms : List Mark) (j : ℕ) (b : Bool) → (k == j) ≡ b → Calls ms j
    calls ms j true is = subst (Calls ms) (eqb-true k j is) (own ms)
    calls ms j false is =
        ap (λ vs. vs ++ verbs_in (lines_of j (slice_set g.left k rest)))
        (calls-entry j (entry_at g event ms) g.past ∙ ap (λ vs. before j ++ vs) (call-by k j g.count 0 verb ms false is) ∙ append-nil (before j))
        ∙ ap (λ lines. before j ++ verbs_in lines) (set-other k j g.left rest (λ are. true≢false (sym (eq-eqb k j are) ∙ is)))
        ∙ told.calls j

    by : (o : Outcome) → step s.config g.world event ≡ o → Told s (after_outcome event o (with_lines_left k rest) g)
    by (NotReady reason) does = told
    by (Did w ms) does = record {
      left = slice_set told.left k rest;
      came = reach-entry s g told.left event w ms does told.came (ap is_call next)
          ∙ ap (λ lines. Some (record { world = w; count = suc g.count; left = slice_set told.left k (drop 1 lines) })) next;
      same = same-set (suc g.count) k told.left g.left rest rest (same-later g.count told.left g.left told.same) some (ap starts has) refl;
      calls = λ j. calls ms j (k == j) refl;
    }

-- a line that waits for no more entries than there are
told-passed : (s : ScriptValue) (k t : ℕ) (line : Line) (rest : List Line) (g : Stage) → lines_of k g.left ≡ (record line { what = whats.At t }) ∷ rest → nat_le t g.count ≡ true
    → Told s g → Told s (with_lines_left k rest g)
told-passed s k t line rest g has passed told = record { left = told.left; came = told.came; same = λ j. same j (k == j) refl; calls = λ j. calls j (k == j) refl }
  where
    Same : ℕ → Type 0
    Same j = lines_at g.count (lines_of j told.left) ≡ lines_at g.count (lines_of j (slice_set g.left k rest))

    Calls : ℕ → Type 0
    Calls j = calls_by j (reverse g.past) ++ verbs_in (lines_of j (slice_set g.left k rest)) ≡ verbs_in (lines_of j s.consumers)

    set : lines_of k (slice_set g.left k rest) ≡ rest
    set = set-same k g.left rest (ap starts has)

    differs : (j : ℕ) → (k == j) ≡ false → k ≡ j → ⊥
    differs j is are = true≢false (sym (eq-eqb k j are) ∙ is)

    same : (j : ℕ) (b : Bool) → (k == j) ≡ b → Same j
    same j true is = subst Same (eqb-true k j is) (
        told.same k ∙ ap (lines_at g.count) has
        ∙ ap (λ p. if p then lines_at g.count rest else (record line { what = whats.At t }) ∷ rest) passed
        ∙ ap (lines_at g.count) (sym set)
        )
    same j false is = told.same j ∙ ap (lines_at g.count) (sym (set-other k j g.left rest (differs j is)))

    calls : (j : ℕ) (b : Bool) → (k == j) ≡ b → Calls j
    calls j true is = subst Calls (eqb-true k j is) (ap (λ lines. calls_by k (reverse g.past) ++ verbs_in lines) set ∙ ap (λ lines. calls_by k (reverse g.past) ++ verbs_in lines) (sym has) ∙ told.calls k)
    calls j false is = ap (λ lines. calls_by j (reverse g.past) ++ verbs_in lines) (set-other k j g.left rest (differs j is)) ∙ told.calls j

-- ---- visits

told-line : (s : ScriptValue) (k : ℕ) (lines : List Line) (g : Stage) → lines_of k g.left ≡ lines → Told s g → Told s (after_line s k lines g)
told-line s k [] g has told = told
told-line s k (line ∷ rest) g has told = by line.what has
  where
    done : What → Stage
    done (whats.Verb verb) = after_event s (events.Verb k verb) (with_lines_left k rest) g
    done (whats.At t) = if nat_le t g.count then with_lines_left k rest g else g

    at : (t : ℕ) → lines_of k g.left ≡ (record line { what = whats.At t }) ∷ rest → (b : Bool) → nat_le t g.count ≡ b → Told s (if b then with_lines_left k rest g else g)
    at t has true is = told-passed s k t line rest g has is told
    at t has false is = told

    by : (what : What) → lines_of k g.left ≡ (record line { what = what }) ∷ rest → Told s (done what)
    by (whats.Verb verb) has = told-call s k line verb rest g has told
    by (whats.At t) has = at t has (nat_le t g.count) refl

-- a turn of a round may come at any stage, and one of a timer pass where all is idle
abbrev FairTurn : ScriptValue → Stage → Turn → Type 0
FairTurn s g (turns.Request q) = ⊤
FairTurn s g (turns.Due q) = ⊤
FairTurn s g (turns.Deliver q index) = ⊥
FairTurn s g (turns.Respond q) = ⊤
FairTurn s g (turns.Timeout q) = Idle s g
FairTurn s g (turns.RnrWake q) = Idle s g

abbrev Fair : ScriptValue → Stage → Visit → Type 0
Fair s g (Consumer k) = ⊤
Fair s g (Engine turn) = FairTurn s g turn

told-due : (s : ScriptValue) (q : QueueId) (g : Stage) → Told s g → Told s (after_visit s (Engine (turns.Due q)) g)
told-due s q g told = by (due (g.world.mailbox q)) refl
  where
    by : (o : Option ℕ) → due (g.world.mailbox q) ≡ o → Told s (option_map_or (λ event. after_event s event (λ h. h) g) (option_map (events.Deliver q) o) g)
    by None is = told
    by (Some index) is = told-turn s (events.Deliver q index) g (record { leaves = λ r. refl; no_call = λ k n p ms. refl })
        (λ left same. ap (λ o. option_eq (λ a b. a == b) o (Some index)) is ∙ eq-eqb index index refl) told

told-engine : (s : ScriptValue) (turn : Turn) (g : Stage) → FairTurn s g turn → Told s g → Told s (after_visit s (Engine turn) g)
told-engine s (turns.Request q) g fair told = told-turn s (events.Request q (lot_at s.weather g.world q)) g (record { leaves = λ r. refl; no_call = λ k n p ms. refl })
    (λ left same. lot-same (lot_at s.weather g.world q)) told
told-engine s (turns.Due q) g fair told = told-due s q g told
told-engine s (turns.Deliver q index) g fair told = absurd fair
told-engine s (turns.Respond q) g fair told = told-turn s (events.Respond q (lot_at s.weather g.world q)) g (record { leaves = λ r. refl; no_call = λ k n p ms. refl })
    (λ left same. lot-same (lot_at s.weather g.world q)) told
told-engine s (turns.Timeout q) g idle told = told-turn s (events.Timeout q (hasten_at s.weather g.world q)) g (record { leaves = λ r. refl; no_call = λ k n p ms. refl })
    (λ left same. ap (λ b. b && is_idle s (reach_at g left)) (word-same (hasten_at s.weather g.world q)) ∙ idle-reach s g left same idle) told
told-engine s (turns.RnrWake q) g idle told = told-turn s (events.RnrWake q) g (record { leaves = λ r. refl; no_call = λ k n p ms. refl })
    (λ left same. idle-reach s g left same idle) told

told-visit : (s : ScriptValue) (v : Visit) (g : Stage) → Fair s g v → Told s g → Told s (after_visit s v g)
told-visit s (Consumer k) g fair told = told-line s k (lines_of k g.left) g refl told
told-visit s (Engine turn) g fair told = told-engine s turn g fair told

-- ---- passes and rounds

told-pass : (s : ScriptValue) (vs : List Visit) → AllByRecursion (λ v. (g : Stage) → Fair s g v) vs → (g : Stage) → Told s g → Told s (after_pass s vs g)
told-pass s [] fair g told = told
told-pass s (v ∷ vs) fair g told = by (has_no_event_left s g) (told-pass s vs fair.1 (after_visit s v g) (told-visit s v g (fair.0 g) told))
  where
    by : (full : Bool) → Told s (after_pass s vs (after_visit s v g)) → Told s (if full then g else after_pass s vs (after_visit s v g))
    by true rest = told
    by false rest = rest

-- the first timer fires where all is idle
told-first : (s : ScriptValue) (vs : List Visit) → AllByRecursion (λ v. (g : Stage) → Idle s g → Fair s g v) vs → (g : Stage) → g.happened ≡ false → Idle s g → Told s g → Told s (after_first s vs g)
told-first s [] fair g none idle told = told
told-first s (v ∷ vs) fair g none idle told = by (visit-visited s v g) (told-first s vs fair.1 g none idle told)
  where
    after : Bool → Stage → Stage
    after b h = if b then h else after_first s vs h

    by : Visited s g (after_visit s v g) → Told s (after_first s vs g) → Told s (after (after_visit s v g).happened (after_visit s v g))
    by (inl same) rest = subst (λ (h : Stage). Told s (after h.happened h)) (sym same) (subst (λ b. Told s (after b g)) (sym none) rest)
    by (inr moved) rest = subst (λ b. Told s (after b (after_visit s v g))) (sym moved.happened) (told-visit s v g (fair.0 g idle) told)

all-append : (P : Visit → Type 0) (xs ys : List Visit) → AllByRecursion P xs → AllByRecursion P ys → AllByRecursion P (xs ++ ys)
all-append P [] ys these those = those
all-append P (x ∷ xs) ys these those = (these.0, all-append P xs ys these.1 those)

fair-consumers : (s : ScriptValue) (ks : List ℕ) → AllByRecursion (λ v. (g : Stage) → Fair s g v) (map Consumer ks)
fair-consumers s [] = record {}
fair-consumers s (k ∷ ks) = (λ g. record {}, fair-consumers s ks)

fair-engines : (s : ScriptValue) (qs : List QueueId)
    → AllByRecursion (λ v. (g : Stage) → Fair s g v) (flat_map (λ q. Engine (turns.Due q) ∷ Engine (turns.Respond q) ∷ Engine (turns.Request q) ∷ []) qs)
fair-engines s [] = record {}
fair-engines s (q ∷ qs) = (λ g. record {}, (λ g. record {}, (λ g. record {}, fair-engines s qs)))

fair-timers : (s : ScriptValue) (qs : List QueueId)
    → AllByRecursion (λ v. (g : Stage) → Idle s g → Fair s g v) (flat_map (λ q. Engine (turns.RnrWake q) ∷ Engine (turns.Timeout q) ∷ []) qs)
fair-timers s [] = record {}
fair-timers s (q ∷ qs) = (λ g idle. idle, (λ g idle. idle, fair-timers s qs))

told-begun : (s : ScriptValue) (g : Stage) → Told s g → Told s (at_round g)
told-begun s g told = record { left = told.left; came = told.came; same = told.same; calls = told.calls }

told-round : (s : ScriptValue) (g : Stage) → has_no_event_left s g ≡ false → Told s g → Told s (after_round s g)
told-round s g room told = by p.happened refl (pass-passed s (round_of s) (at_round g) room)
  where
    p : Stage
    p = after_pass s (round_of s) (at_round g)

    passed : Told s p
    passed = told-pass s (round_of s) (all-append _ _ _ (fair-consumers s (numbers_below (length s.consumers))) (fair-engines s (all_queues s.config))) (at_round g) (told-begun s g told)

    idle : p.happened ≡ false → Passed s (round_of s) (at_round g) p → Idle s p
    idle none (inl (same, still)) = subst (Idle s) (sym same) (round-idle s (at_round g) still)
    idle none (inr moved) = absurd (true≢false (sym moved.happened ∙ none))

    by : (b : Bool) → p.happened ≡ b → Passed s (round_of s) (at_round g) p → Told s (if b then p else after_first s (timer_pass_of s) p)
    by true is came = passed
    by false is came = told-first s (timer_pass_of s) (fair-timers s (all_queues s.config)) p is (idle is came) passed

told-rounds : (s : ScriptValue) (n : ℕ) (g : Stage) → Told s g → Told s (after_rounds s n g)
told-rounds s zero g told = told
told-rounds s (suc n) g told = by (has_no_event_left s g) refl (λ more. told-rounds s n (after_round s g) more)
  where
    again : Told s (after_round s g) → Told s (after_rounds s n (after_round s g)) → (b : Bool) → Told s (if b then after_rounds s n (after_round s g) else after_round s g)
    again one rest true = rest
    again one rest false = one

    by : (full : Bool) → has_no_event_left s g ≡ full → (Told s (after_round s g) → Told s (after_rounds s n (after_round s g)))
        → Told s (if full then g else and_again (after_round s g) (λ h. after_rounds s n h))
    by true is rest = told
    by false is rest = again (told-round s g is told) (rest (told-round s g is told)) (after_round s g).happened

leads-told : (s : ScriptValue) (g : Stage) → Told s g → LeadsTo s (reverse g.past) g
leads-told s g told = record {
  left = told.left;
  of_script = record {
    calls = λ k. sym (take-append_seam (calls_by k (reverse g.past)) (verbs_in (lines_of k g.left))) ∙ ap (take (length (calls_by k (reverse g.past)))) (told.calls k);
    stand = told.came;
  };
  same = told.same;
}

pub order-told : (s : ScriptValue) → LeadsTo s (order s) (ending s)
order-told s = leads-told s (ending s) (told-rounds s (most_rounds s) (opening_stage s) (record { left = s.consumers; came = refl; same = λ k. refl; calls = λ k. refl }))

-- ---- from any stage to which a history leads

told-leads : (s : ScriptValue) (g : Stage) → LeadsTo s (reverse g.past) g → Told s g
told-leads s g leads = record { left = leads.left; came = leads.of_script.stand; same = leads.same; calls = calls }
  where
    before : (k : ℕ) → List Verb
    before k = calls_by k (reverse g.past)

    -- what a consumer called, and what is left behind as many
    left : (k : ℕ) → verbs_in (lines_of k g.left) ≡ drop (length (before k)) (verbs_in (lines_of k s.consumers))
    left k =
        sym (verbs-at g.count (lines_of k g.left))
        ∙ ap verbs_in (sym (leads.same k))
        ∙ verbs-at g.count (lines_of k leads.left)
        ∙ reach-left s (reverse g.past) (opening_reach s) (reach_at g leads.left) leads.of_script.stand k

    calls : (k : ℕ) → before k ++ verbs_in (lines_of k g.left) ≡ verbs_in (lines_of k s.consumers)
    calls k =
        ap (λ vs. before k ++ vs) (left k)
        ∙ ap (λ vs. vs ++ drop (length (before k)) (verbs_in (lines_of k s.consumers))) (leads.of_script.calls k)
        ∙ take-append-drop (length (before k)) (verbs_in (lines_of k s.consumers))

pub rounds-told : (s : ScriptValue) (n : ℕ) (g : Stage) → LeadsTo s (reverse g.past) g → LeadsTo s (reverse (after_rounds s n g).past) (after_rounds s n g)
rounds-told s n g leads = leads-told s (after_rounds s n g) (told-rounds s n g (told-leads s g leads))

-- as many entries lead to a stage as it counts
pub leads-counted : (s : ScriptValue) (g : Stage) → LeadsTo s (reverse g.past) g → length g.past ≡ g.count
leads-counted s g leads = omega (
  arith,
  length-reverse g.past,
  reach-counts s (reverse g.past) (opening_reach s) (reach_at g leads.left) leads.of_script.stand,
)
