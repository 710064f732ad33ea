-- A list of the machine that is the work of a script, entry by entry: each may stand where it stands. For proofs only.
use Rattle.std.proofs.Common.{◌≡◌, ℕ, zero, suc, ◌+◌, ◌≤◌, ◌==◌, Bool, true, false, if◌then◌else◌, nat_le, List, [], ◌∷◌, ◌++◌, length, take, drop, map, slice_set, Option, None, Some, refl, ap, sym, ◌∙◌, arith, subst, true≢false}
use Rattle.std.specs.List.{AllByRecursion}
use Rattle.std.specs.Option.{option_eq, option_map, option_map_or}
use Rattle.std.proofs.lemmas.Bool.{eq-eqb, eqb-true}
use Rattle.std.proofs.lemmas.Bool.Decides.{nat_tests}
use Rattle.ca_base.specs.declared.lot.Lot.{Lot}
use Rattle.ca_base.specs.declared.lot.Lot.TheVariants.{Pass, Lose, Repeat, Hold}
use Rattle.ca_base.specs.objects.Mailbox.{due}
use Rattle.ca_verbs_machine.specs.After.{IsUp, RunsFrom, next_world, world_from}
use Rattle.ca_verbs_machine.specs.Asks.{event_asked}
use Rattle.ca_verbs_machine.specs.declared.asked.Asked.{Asked}
use Rattle.ca_verbs_machine.specs.declared.asked.Asked.TheVariants as asks
use Rattle.ca_verbs_machine.specs.declared.asked.Told.{Told}
use Rattle.ca_model.specs.Entries.{EntryValue}
use Rattle.ca_model.specs.declared.event.Event.{Event}
use Rattle.ca_model.specs.declared.event.Event.TheVariants as events
use Rattle.ca_model.specs.declared.mark.Mark.{Mark}
use Rattle.ca_model.specs.declared.verb.Verb.{Verb}
use Rattle.ca_model.specs.machine.Plan.{Did}
use Rattle.ca_model.specs.machine.Step.{step}
use Rattle.ca_model.specs.machine.World.{World}
use Rattle.ca_script_order.specs.OfScript.{LeadsTo, Reach, calls_by, is_call, is_passed, left_after, lines_at, lot_eq, may_stand, opening_reach, reach_by, reach_from, verbs_in}
use Rattle.ca_script_order.specs.Order.{lines_of}
use Rattle.ca_verbs_scripts.specs.Work.{AreDoneBy, Call, HasCalled, HasWorked, IsAsked, IsDoneBy, IsVerb, IsWorkersTurn, call_by, call_in, calls_of, numbered, stage_after}
use Rattle.ca_script.specs.Script.{ScriptValue}
use Rattle.ca_script_lines.specs.declared.Line.{Line}
use Rattle.ca_script_lines.specs.declared.what.What.{What}
use Rattle.ca_script_lines.specs.declared.what.What.TheVariants as whats
use Rattle.ca_model_places.specs.Turns.{event_of, lot_at}
use Rattle.ca_base.specs.declared.step.Turn.{Turn}
use Rattle.ca_base.specs.declared.step.Turn.TheVariants as turns

-- ---- lines

le-true : (m n : ℕ) → m ≤ n → nat_le m n ≡ true
le-true m n le = grind (arith, nat_tests, le)

-- lines that no call does are none
none-done : (done rest : List Line) → AreDoneBy done [] → done ++ rest ≡ rest
none-done [] rest by = refl
none-done (line ∷ lines) rest by = absurd (of line.what by)
  where
    of : (what : What) → IsDoneBy what [] (AreDoneBy lines) → ⊥
    of (whats.Verb verb) done = done
    of (whats.At t) done = done.0

-- Lines that a call and others do: what may be passed at its stamp is passed, and then its verb is called.
record Calls (n : ℕ) (verb : Verb) (cs : List Call) (lines rest : List Line) : Type 0 where
  line : Line
  behind : List Line
  at : lines_at n (lines ++ rest) ≡ line ∷ (behind ++ rest)
  calls : line.what ≡ whats.Verb verb
  by : AreDoneBy behind cs

next-call : (n : ℕ) (verb : Verb) (cs : List Call) (lines rest : List Line) → AreDoneBy lines ((n, verb) ∷ cs) → Calls n verb cs lines rest
next-call n verb cs [] rest by = absurd by
next-call n verb cs (line ∷ lines) rest by = of line.what refl (λ done. next-call n verb cs lines rest done) by
  where
    of : (what : What) → line.what ≡ what → (AreDoneBy lines ((n, verb) ∷ cs) → Calls n verb cs lines rest) → IsDoneBy what ((n, verb) ∷ cs) (AreDoneBy lines) → Calls n verb cs (line ∷ lines) rest
    of (whats.Verb v) is others done = record {
      line = line;
      behind = lines;
      at = ap (λ w. if is_passed n w then lines_at n (lines ++ rest) else line ∷ (lines ++ rest)) is;
      calls = is ∙ ap whats.Verb (sym done.0);
      by = done.1;
    }
    of (whats.At t) is others done =
        let more : Calls n verb cs lines rest = others done.1 in
        record {
          line = more.line;
          behind = more.behind;
          at = ap (λ w. if is_passed n w then lines_at n (lines ++ rest) else line ∷ (lines ++ rest)) is
              ∙ ap (λ b. if b then lines_at n (lines ++ rest) else line ∷ (lines ++ rest)) (le-true t n done.0)
              ∙ more.at;
          calls = more.calls;
          by = more.by;
        }

-- lines that are there begin with one
abbrev starts : List Line → Bool
starts [] = false
starts (line ∷ lines) = true

starts-before : (n : ℕ) (lines : List Line) → starts (lines_at n lines) ≡ true → starts lines ≡ true
starts-before n [] some = some
starts-before n (line ∷ lines) some = refl

set-same : (k : ℕ) (left : List (List Line)) (lines : List Line) → starts (lines_of k left) ≡ true → lines_of k (slice_set left k lines) ≡ lines
set-same k [] lines some = absurd (true≢false (sym some))
set-same zero (x ∷ xs) lines some = refl
set-same (suc k) (x ∷ xs) lines some = set-same k xs lines some

set-other : (k j : ℕ) (left : List (List Line)) (lines : List Line) → (k ≡ j → ⊥) → lines_of j (slice_set left k lines) ≡ lines_of j left
set-other k j [] lines other = refl
set-other zero zero (x ∷ xs) lines other = absurd (other refl)
set-other zero (suc j) (x ∷ xs) lines other = refl
set-other (suc k) zero (x ∷ xs) lines other = refl
set-other (suc k) (suc j) (x ∷ xs) lines other = set-other k j xs lines (λ same. other (ap suc same))

-- ---- what holds between two entries

-- of a consumer's lines at this point those that are not left at the end are done by the calls to come
record Remains (lines rest : List Line) (calls : List Call) : Type 0 where
  done : List Line
  is : lines ≡ done ++ rest
  by : AreDoneBy done calls

abbrev AllRemain : List (List Line) → List (List Line) → List (ℕ × Told) → Type 0
AllRemain left rest entries = (k : ℕ) → Remains (lines_of k left) (lines_of k rest) (calls_of k entries)

-- entries lead from a reach to a world and a count, and to the same next lines as those that are left
record Came (s : ScriptValue) (g : Reach) (rest : List (List Line)) (es : List EntryValue) (w : World) (n : ℕ) : Type 0 where
  left : List (List Line)
  came : reach_from s g es ≡ Some (record { world = w; count = n; left = left })
  same : (k : ℕ) → lines_at n (lines_of k left) ≡ lines_at n (lines_of k rest)

-- what an event is to the walk: it may stand, and what remains behind it remains of the lines that it leaves
record Goes (s : ScriptValue) (g : Reach) (rest : List (List Line)) (event : Event) (entries : List (ℕ × Told)) : Type 0 where
  stands : may_stand s g event ≡ true
  remain : AllRemain (left_after g event) rest entries

lot-same : (lot : Lot) → lot_eq lot lot ≡ true
lot-same Pass = refl
lot-same Lose = refl
lot-same (Repeat k) = eq-eqb k k refl
lot-same (Hold k) = eq-eqb k k refl

some-is : {A : Type 0} (a b : A) → Some a ≡ Some b → a ≡ b
some-is a b is = ap (λ o. option_map_or (λ x. x) o a) is

-- the verbs that a consumer called by an event
abbrev one_by : ℕ → Event → List Verb
one_by k event = calls_by k (record { stamp = 0; pass = 0; event = event; marks = [] } ∷ [])

calls-first : (k n p : ℕ) (ms : List Mark) (event : Event) (es : List EntryValue) → calls_by k (record { stamp = n; pass = p; event = event; marks = ms } ∷ es) ≡ one_by k event ++ calls_by k es
calls-first k n p ms (events.Verb by verb) es = of (by == k) refl
  where
    of : (b : Bool) → (by == k) ≡ b → calls_by k (record { stamp = n; pass = p; event = events.Verb by verb; marks = ms } ∷ es) ≡ one_by k (events.Verb by verb) ++ calls_by k es
    of true same = rw same refl
    of false same = rw same refl
calls-first k n p ms (events.Request q lot) es = refl
calls-first k n p ms (events.Deliver q index) es = refl
calls-first k n p ms (events.Respond q lot) es = refl
calls-first k n p ms (events.Timeout q hasten) es = refl
calls-first k n p ms (events.RnrWake q) es = refl

-- a turn's event is of an engine: it may stand, leaves all lines, and is nobody's call
record IsEngines (s : ScriptValue) (g : Reach) (event : Event) : Type 0 where
  stands : may_stand s g event ≡ true
  leaves : left_after g event ≡ g.left
  nobodys : (k : ℕ) → one_by k event ≡ []

engines : (s : ScriptValue) (g : Reach) (event : Event) (turn : Turn) → IsWorkersTurn turn → event_of s.weather g.world turn ≡ Some event → IsEngines s g event
engines s g event (turns.Request q) fair so = subst (IsEngines s g) (some-is _ _ so) (record { stands = lot-same (lot_at s.weather g.world q); leaves = refl; nobodys = λ k. refl })
engines s g event (turns.Due q) fair so = by (due (g.world.mailbox q)) refl so
  where
    by : (o : Option ℕ) → due (g.world.mailbox q) ≡ o → option_map (events.Deliver q) o ≡ Some event → IsEngines s g event
    by None at is = absurd cc
    by (Some index) at is = subst (IsEngines s g) (some-is _ _ is) (record {
      stands = ap (λ o. option_eq (λ a b. a == b) o (Some index)) at ∙ eq-eqb index index refl;
      leaves = refl;
      nobodys = λ k. refl;
    })
engines s g event (turns.Deliver q index) fair so = absurd fair
engines s g event (turns.Respond q) fair so = subst (IsEngines s g) (some-is _ _ so) (record { stands = lot-same (lot_at s.weather g.world q); leaves = refl; nobodys = λ k. refl })
engines s g event (turns.Timeout q) fair so = absurd fair
engines s g event (turns.RnrWake q) fair so = absurd fair

-- what an entry is: a turn's event, or a consumer's call
data Is (s : ScriptValue) (g : Reach) (t : Told) : Type 0 where
  A_turn : IsEngines s g t.event → ((k n : ℕ) → call_in k n t.asked ≡ []) → Is s g t
  A_call : (by : ℕ) (verb : Verb) → t.event ≡ events.Verb by verb → ((k n : ℕ) → call_in k n t.asked ≡ call_by k n (events.Verb by verb)) → Is s g t

entry-is : (s : ScriptValue) (g : Reach) (t : Told) (asked : Asked) → t.asked ≡ asked → IsAsked s.weather asked → event_asked g.world asked ≡ Some t.event → Is s g t
entry-is s g t (asks.Turn turn weather) same fair is =
    A_turn (engines s g t.event turn fair.0 (ap (λ w. event_of w g.world turn) (sym fair.1) ∙ is)) (λ k n. ap (call_in k n) same)
entry-is s g t (asks.Event event) same fair is = by event same fair is
  where
    by : (event : Event) → t.asked ≡ asks.Event event → IsVerb event → Some event ≡ Some t.event → Is s g t
    by (events.Verb k verb) as_is fair so = A_call k verb (sym (some-is _ _ so)) (λ j n. ap (call_in j n) as_is)
    by (events.Request q lot) as_is fair so = absurd fair
    by (events.Deliver q index) as_is fair so = absurd fair
    by (events.Respond q lot) as_is fair so = absurd fair
    by (events.Timeout q hasten) as_is fair so = absurd fair
    by (events.RnrWake q) as_is fair so = absurd fair

-- a turn's event leaves what remains
turn-goes : (s : ScriptValue) (g : Reach) (rest : List (List Line)) (t : Told) (entries : List (ℕ × Told)) → IsEngines s g t.event → ((k n : ℕ) → call_in k n t.asked ≡ [])
    → AllRemain g.left rest ((g.count, t) ∷ entries) → Goes s g rest t.event entries
turn-goes s g rest t entries engine none remain = record {
  stands = engine.stands;
  remain = λ k.
      let calls : calls_of k ((g.count, t) ∷ entries) ≡ calls_of k entries = ap (λ l. l ++ calls_of k entries) (none k g.count) in
      let r : Remains (lines_of k g.left) (lines_of k rest) (calls_of k entries) = subst (Remains (lines_of k g.left) (lines_of k rest)) calls (remain k) in
      subst (λ l. Remains (lines_of k l) (lines_of k rest) (calls_of k entries)) (sym engine.leaves) r;
}

-- a consumer's call does its next lines
call-goes : (s : ScriptValue) (g : Reach) (rest : List (List Line)) (t : Told) (entries : List (ℕ × Told)) (by : ℕ) (verb : Verb) → t.event ≡ events.Verb by verb
    → ((k n : ℕ) → call_in k n t.asked ≡ call_by k n (events.Verb by verb)) → AllRemain g.left rest ((g.count, t) ∷ entries) → Goes s g rest t.event entries
call-goes s g rest t entries by verb is call remain = record { stands = ap (may_stand s g) is ∙ stands; remain = λ k. subst (λ e. Remains (lines_of k (left_after g e)) (lines_of k rest) (calls_of k entries)) (sym is) (remains k (by == k) refl) }
  where
    calls : (k : ℕ) (b : Bool) → (by == k) ≡ b → calls_of k ((g.count, t) ∷ entries) ≡ (if b then (g.count, verb) ∷ [] else []) ++ calls_of k entries
    calls k b test = ap (λ l. l ++ calls_of k entries) (call k g.count) ∙ ap (λ c. (if c then (g.count, verb) ∷ [] else []) ++ calls_of k entries) test

    own : Remains (lines_of by g.left) (lines_of by rest) ((g.count, verb) ∷ calls_of by entries)
    own = subst (Remains (lines_of by g.left) (lines_of by rest)) (calls by true (eq-eqb by by refl)) (remain by)

    next : Calls g.count verb (calls_of by entries) own.done (lines_of by rest)
    next = next-call g.count verb (calls_of by entries) own.done (lines_of by rest) own.by

    at : lines_at g.count (lines_of by g.left) ≡ next.line ∷ (next.behind ++ lines_of by rest)
    at = ap (lines_at g.count) own.is ∙ next.at

    kind : What → Bool
    kind (whats.Verb v) = true
    kind (whats.At u) = false

    called-next : is_call (next.line ∷ (next.behind ++ lines_of by rest)) ≡ kind next.line.what
    called-next = of next.line.what refl
      where
        of : (what : What) → next.line.what ≡ what → is_call (next.line ∷ (next.behind ++ lines_of by rest)) ≡ kind next.line.what
        of (whats.Verb v) same = rw same refl
        of (whats.At u) same = rw same refl

    stands : is_call (lines_at g.count (lines_of by g.left)) ≡ true
    stands = ap is_call at ∙ called-next ∙ ap kind next.calls

    after : List (List Line)
    after = slice_set g.left by (drop 1 (lines_at g.count (lines_of by g.left)))

    there : starts (lines_of by g.left) ≡ true
    there = starts-before g.count (lines_of by g.left) (ap starts at)

    remains : (k : ℕ) (b : Bool) → (by == k) ≡ b → Remains (lines_of k after) (lines_of k rest) (calls_of k entries)
    remains k true test =
        let mine : lines_of by after ≡ next.behind ++ lines_of by rest = set-same by g.left (drop 1 (lines_at g.count (lines_of by g.left))) there ∙ ap (drop 1) at in
        let r : Remains (lines_of by after) (lines_of by rest) (calls_of by entries) = record { done = next.behind; is = mine; by = next.by } in
        subst (λ j. Remains (lines_of j after) (lines_of j rest) (calls_of j entries)) (eqb-true by k test) r
    remains k false test =
        let differs : by ≡ k → ⊥ = λ are. true≢false (sym (eq-eqb by k are) ∙ test) in
        let r : Remains (lines_of k g.left) (lines_of k rest) (calls_of k entries) = subst (Remains (lines_of k g.left) (lines_of k rest)) (calls k false test) (remain k) in
        subst (λ l. Remains l (lines_of k rest) (calls_of k entries)) (sym (set-other by k g.left (drop 1 (lines_at g.count (lines_of by g.left))) differs)) r

entry-goes : (s : ScriptValue) (g : Reach) (rest : List (List Line)) (t : Told) (entries : List (ℕ × Told)) → Is s g t
    → AllRemain g.left rest ((g.count, t) ∷ entries) → Goes s g rest t.event entries
entry-goes s g rest t entries (A_turn engine none) remain = turn-goes s g rest t entries engine none remain
entry-goes s g rest t entries (A_call by verb is call) remain = call-goes s g rest t entries by verb is call remain

-- ---- all entries

abbrev SameEvents : List EntryValue → List Told → Type 0
SameEvents es log = map (λ e. e.event) es ≡ map (λ (e : Told). e.event) log

first-event : (e : Event) (x : Event) (es xs : List Event) → (e ∷ es) ≡ (x ∷ xs) → e ≡ x
first-event e x es xs is = ap head is
  where
    head : List Event → Event
    head [] = e
    head (y ∷ ys) = y

other-events : (e : Event) (x : Event) (es xs : List Event) → (e ∷ es) ≡ (x ∷ xs) → es ≡ xs
other-events e x es xs is = ap (drop 1) is

-- as far as an entry leads
abbrev next-reach : ScriptValue → Reach → Told → Reach
next-reach s g t = record { world = next_world s.config g.world t.event; count = suc g.count; left = left_after g t.event }

-- one entry more in front
more-came : (s : ScriptValue) (g : Reach) (rest : List (List Line)) (t : Told) (ts : List Told) (e : EntryValue) (es : List EntryValue) → e.event ≡ t.event → may_stand s g t.event ≡ true
    → step s.config g.world t.event ≡ Did (next_world s.config g.world t.event) t.marks → Came s (next-reach s g t) rest es (world_from s.config (next_world s.config g.world t.event) ts) (suc g.count + length ts)
    → Came s g rest (e ∷ es) (world_from s.config (next_world s.config g.world t.event) ts) (g.count + suc (length ts))
more-came s g rest t ts e es event stands did more =
    subst (Came s g rest (e ∷ es) (world_from s.config (next_world s.config g.world t.event) ts)) (let z : suc g.count + length ts ≡ g.count + suc (length ts) = omega arith in z) (record {
      left = more.left;
      came = ap (λ ev. if may_stand s g ev then reach_by g ev (step s.config g.world ev) (λ h. reach_from s h es) else None) event
          ∙ ap (λ b. if b then reach_by g t.event (step s.config g.world t.event) (λ h. reach_from s h es) else None) stands
          ∙ ap (λ o. reach_by g t.event o (λ h. reach_from s h es)) did
          ∙ more.came;
      same = more.same;
    })

walk : (s : ScriptValue) (rest : List (List Line)) (g : Reach) (log : List Told) (es : List EntryValue) → SameEvents es log → RunsFrom s.config g.world log
    → AllByRecursion (λ e. IsAsked s.weather e.1.asked) (numbered g.count log) → AllRemain g.left rest (numbered g.count log)
    → Came s g rest es (world_from s.config g.world log) (g.count + length log)
walk s rest g [] [] same runs asked remain =
    let here : g.count ≡ g.count + 0 = omega arith in
    record {
      left = g.left;
      came = ap (λ n. Some (record { world = g.world; count = n; left = g.left })) here;
      same = λ k. let r = remain k in ap (lines_at (g.count + 0)) (r.is ∙ none-done r.done (lines_of k rest) r.by);
    }
walk s rest g [] (e ∷ es) same runs asked remain = absurd cc
walk s rest g (t ∷ ts) [] same runs asked remain = absurd cc
walk s rest g (t ∷ ts) (e ∷ es) same runs asked remain =
    let goes : Goes s g rest t.event (numbered (suc g.count) ts) = entry-goes s g rest t (numbered (suc g.count) ts) (entry-is s g t t.asked refl asked.0 runs.0.asked) remain in
    more-came s g rest t ts e es (first-event _ _ _ _ same) goes.stands runs.0.did
    (walk s rest (next-reach s g t) ts es (other-events _ _ _ _ same) runs.1 asked.1 goes.remain)

-- ---- who called what

abbrev verb_of : Call → Verb
verb_of c = c.1

map-append : (xs ys : List Call) → map verb_of (xs ++ ys) ≡ map verb_of xs ++ map verb_of ys
map-append [] ys = refl
map-append (x ∷ xs) ys = ap (λ l. verb_of x ∷ l) (map-append xs ys)

called-one : (s : ScriptValue) (g : Reach) (t : Told) → Is s g t → (k n : ℕ) → one_by k t.event ≡ map verb_of (call_in k n t.asked)
called-one s g t (A_turn engine none) k n = engine.nobodys k ∙ ap (map verb_of) (sym (none k n))
called-one s g t (A_call by verb is call) k n = ap (one_by k) is ∙ of (by == k) refl ∙ ap (map verb_of) (sym (call k n))
  where
    of : (b : Bool) → (by == k) ≡ b → one_by k (events.Verb by verb) ≡ map verb_of (if by == k then (n, verb) ∷ [] else [])
    of true same = rw same refl
    of false same = rw same refl

called : (s : ScriptValue) (k : ℕ) (g : Reach) (log : List Told) (es : List EntryValue) → SameEvents es log → RunsFrom s.config g.world log
    → AllByRecursion (λ e. IsAsked s.weather e.1.asked) (numbered g.count log) → calls_by k es ≡ map verb_of (calls_of k (numbered g.count log))
called s k g [] [] same runs asked = refl
called s k g [] (e ∷ es) same runs asked = absurd cc
called s k g (t ∷ ts) [] same runs asked = absurd cc
called s k g (t ∷ ts) (e ∷ es) same runs asked =
    let next : Reach = record { world = next_world s.config g.world t.event; count = suc g.count; left = g.left } in
    let more : calls_by k es ≡ map verb_of (calls_of k (numbered (suc g.count) ts)) = called s k next ts es (other-events _ _ _ _ same) runs.1 asked.1 in
    calls-first k e.stamp e.pass e.marks e.event es
    ∙ ap (λ ev. one_by k ev ++ calls_by k es) (first-event _ _ _ _ same)
    ∙ ap (λ vs. vs ++ calls_by k es) (called-one s g t (entry-is s g t t.asked refl asked.0 runs.0.asked) k g.count)
    ∙ ap (λ vs. map verb_of (call_in k g.count t.asked) ++ vs) more
    ∙ sym (map-append (call_in k g.count t.asked) (calls_of k (numbered (suc g.count) ts)))

-- the verbs of lines are those of the calls that do them
verbs-done : (done rest : List Line) (calls : List Call) → AreDoneBy done calls → verbs_in (done ++ rest) ≡ map verb_of calls ++ verbs_in rest
verbs-done [] rest [] by = refl
verbs-done [] rest (c ∷ cs) by = absurd by
verbs-done (line ∷ lines) rest calls by = of line.what refl (λ cs done. verbs-done lines rest cs done) calls by
  where
    verbs : What → List Verb
    verbs (whats.Verb verb) = verb ∷ []
    verbs (whats.At t) = []

    first : (what : What) → line.what ≡ what → verbs_in ((line ∷ lines) ++ rest) ≡ verbs what ++ verbs_in (lines ++ rest)
    first (whats.Verb verb) is = rw is refl
    first (whats.At t) is = rw is refl

    of : (what : What) → line.what ≡ what → ((cs : List Call) → AreDoneBy lines cs → verbs_in (lines ++ rest) ≡ map verb_of cs ++ verbs_in rest) → (cs : List Call) → IsDoneBy what cs (AreDoneBy lines)
        → verbs_in ((line ∷ lines) ++ rest) ≡ map verb_of cs ++ verbs_in rest
    of (whats.Verb verb) is others [] done = absurd done
    of (whats.Verb verb) is others (c ∷ cs) done =
        first (whats.Verb verb) is
        ∙ ap (λ v. v ∷ verbs_in (lines ++ rest)) (sym done.0)
        ∙ ap (λ vs. verb_of c ∷ vs) (others cs done.1)
    of (whats.At t) is others cs done = first (whats.At t) is ∙ others cs done.1

take-own : (xs ys : List Verb) → xs ≡ take (length xs) (xs ++ ys)
take-own [] ys = refl
take-own (x ∷ xs) ys = ap (λ l. x ∷ l) (take-own xs ys)

-- ---- a history of the script

pub of-script : (s : ScriptValue) (log : List Told) (left : List (List Line)) (es : List EntryValue) → IsUp s.config log → HasWorked s (numbered 0 log) left
    → SameEvents es log → LeadsTo s es (stage_after s log es left)
of-script s log left es up worked same = record {
  left = came.left;
  of_script = record {
    calls = λ k.
        let c : HasCalled (lines_of k s.consumers) (lines_of k left) (calls_of k (numbered 0 log)) = worked.called k in
        let verbs : verbs_in (lines_of k s.consumers) ≡ calls_by k es ++ verbs_in (lines_of k left) =
        ap verbs_in c.is ∙ verbs-done c.done (lines_of k left) (calls_of k (numbered 0 log)) c.by ∙ ap (λ vs. vs ++ verbs_in (lines_of k left)) (sym (called s k (opening_reach s) log es same up.runs worked.asked)) in
        take-own (calls_by k es) (verbs_in (lines_of k left)) ∙ ap (take (length (calls_by k es))) (sym verbs);
    stand = came.came;
  };
  same = came.same;
}
  where
    came : Came s (opening_reach s) left es (world_from s.config (opening_reach s).world log) (length log)
    came = subst (Came s (opening_reach s) left es (world_from s.config (opening_reach s).world log)) (let z : 0 + length log ≡ length log = omega arith in z)
        (walk s left (opening_reach s) log es same up.runs worked.asked (λ k. let c = worked.called k in record { done = c.done; is = c.is; by = c.by }))
