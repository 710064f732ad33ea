-- The loop makes the order, offer by offer. For proofs only.
use Rattle.std.proofs.Common.{◌≡◌, inl, inr, ℕ, zero, suc, ◌+◌, ◌*◌, ◌<◌, ◌≤◌, ◌||◌, not, Bool, true, false, if◌then◌else◌, List, [], ◌∷◌, length, map, Option, None, Some, refl, sym, ap, ◌∙◌, subst, arith, true≢false}
use Rattle.std.specs.Bool.{⊤}
use Rattle.std.proofs.Math.Nat.{suc-mul}
use Rattle.std.proofs.lemmas.Bool.Decides.{nat_tests}
use Rattle.std.proofs.lemmas.List.{length-map}
use Rattle.std.proofs.lemmas.Nat.{mul-le}
use Rattle.ca_engine.specs.Engine.{EngineValue, at_next, clock_after, engine_after, is_still, offer_of}
use Rattle.ca_engine.specs.Offers.{offers_of_round, offers_of_timers}
use Rattle.ca_engine.specs.declared.offer.Offer.{Offer}
use Rattle.ca_engine.specs.declared.outcome.Outcome.TheVariants as outcomes
use Rattle.ca_engine.specs.declared.pass.Pass.{Pass}
use Rattle.ca_engine.specs.declared.pass.Pass.TheVariants as passes
use Rattle.ca_script_order.specs.Visits.{Visit, Consumer, Engine, round_of, timer_pass_of}
use Rattle.ca_script_order.specs.Order.{HasNoMoreLines, Stage, and_again, at_round, ending, ending_from, after_first, has_no_event_left, most_rounds, opening_stage, or_else, after_pass, after_rounds, after_visit, after_round}
use Rattle.ca_script_order.proofs.EndLemmas.{Ended, StillAll, chances, most-end}
use Rattle.ca_script_order.specs.ca_script.Script.{ScriptValue}
use Rattle.ca_engine.specs.Loop.{Work, has_ended, is_at_end, most_offers, opening_work, outcome_of_nothing, work_after, work_after_all, work_after_visit, work_from, is_quiet_offer}
use Rattle.ca_engine.proofs.OfferedLemmas.{no-timers, offer_for, round-offered, timer-pass-offered}
use Rattle.ca_engine.proofs.VisitLemmas.{Comes, at, comes-visit, fewer-chances}

-- ---- rounds do not look at what happened before

rounds-calm : (s : ScriptValue) (f : ℕ) (b : Bool) (g : Stage) → at_round (after_rounds s f (at b g)) ≡ at_round (after_rounds s f g)
rounds-calm s zero b g = refl
rounds-calm s (suc f) b g = by (has_no_event_left s g)
  where
    by : (full : Bool) → at_round (if full then at b g else and_again (after_round s g) (λ h. after_rounds s f h)) ≡ at_round (if full then g else and_again (after_round s g) (λ h. after_rounds s f h))
    by true = refl
    by false = refl

rounds-full : (s : ScriptValue) (f : ℕ) (g : Stage) → has_no_event_left s g ≡ true → after_rounds s f g ≡ g
rounds-full s zero g full = refl
rounds-full s (suc f) g full = ap (λ b. if b then g else and_again (after_round s g) (λ h. after_rounds s f h)) full

rounds-on : (s : ScriptValue) (f : ℕ) (g : Stage) → has_no_event_left s g ≡ false → after_rounds s (suc f) g ≡ and_again (after_round s g) (λ h. after_rounds s f h)
rounds-on s f g room = ap (λ b. if b then g else and_again (after_round s g) (λ h. after_rounds s f h)) room

-- ---- where an engine stands

-- before a round; in a round, with the visits that are left of it, whether something happened, and the clock; or in a timer
-- pass, with those that are left
data State : Type 0 where
  Begins : State
  In_round : Visit → List Visit → Bool → Option ℕ → State
  In_timers : List Visit → Option ℕ → State

abbrev engine : ScriptValue → Pass → List Offer → Bool → Option ℕ → EngineValue
engine s pass left happened clock = record {
  round = map offer_for (round_of s);
  timers = map offer_for (timer_pass_of s);
  pass = pass;
  left = left;
  happened = happened;
  clock = clock;
}

abbrev engine_at : ScriptValue → State → EngineValue
engine_at s Begins = engine s passes.Round (map offer_for (round_of s)) false None
engine_at s (In_round v vs b clock) = engine s passes.Round (offer_for v ∷ map offer_for vs) b clock
engine_at s (In_timers vs clock) = engine s passes.Timers (map offer_for vs) false clock

-- what comes behind what a round made
abbrev behind : ScriptValue → ℕ → Stage → Stage
behind s f p = and_again (or_else p (λ h. after_first s (timer_pass_of s) h)) (λ h. after_rounds s f h)

-- what comes behind what a timer pass made
abbrev behind_timers : ScriptValue → ℕ → Stage → Stage
behind_timers s f p = and_again p (λ h. after_rounds s f h)

-- how far the script comes from there
abbrev rest_at : ScriptValue → ℕ → State → Stage → Stage
rest_at s f Begins g = after_rounds s f g
rest_at s f (In_round v vs b clock) g = behind s f (after_pass s (v ∷ vs) (at b g))
rest_at s f (In_timers vs clock) g = behind_timers s f (after_first s vs (at false g))

-- the clock is this one, where there is one
abbrev IsClock : Option ℕ → ℕ → Type 0
IsClock None n = ⊤
IsClock (Some clock) n = clock ≡ n

-- nothing happened since the round began: it is not full, and the clock is the latest's that was not ready
abbrev IsCalm : ScriptValue → Option ℕ → Stage → Type 0
IsCalm s clock g = (has_no_event_left s g ≡ false) × IsClock clock g.count

abbrev Fits_at : ScriptValue → State → Stage → Type 0
Fits_at s Begins g = ⊤
Fits_at s (In_round v vs b clock) g = b ≡ false → IsCalm s clock g
Fits_at s (In_timers vs clock) g = IsCalm s clock g

-- ---- how many offers are left at most

-- the offers of a round and of a timer pass
abbrev lap : ScriptValue → ℕ
lap s = length (round_of s) + length (timer_pass_of s)

-- those behind a round in which something happened, or nothing, with so many events and lines that can come still
abbrev left_behind : ScriptValue → Bool → ℕ → ℕ
left_behind s true c = suc c * lap s
left_behind s false c = length (timer_pass_of s) + c * lap s

-- those from where the engine stands
abbrev left_at : ScriptValue → State → Stage → ℕ
left_at s Begins g = suc (chances s g) * lap s
left_at s (In_round v vs b clock) g = suc (length vs) + left_behind s b (chances s g)
left_at s (In_timers vs clock) g = length vs + chances s g * lap s

-- one event or line fewer is one round and timer pass fewer
laps-fewer : (s : ScriptValue) (c d : ℕ) → c < d → suc c * lap s ≤ d * lap s
laps-fewer s c d fewer = mul-le (suc c) (lap s) d (lap s) (omega (arith, fewer)) (omega arith)

behind-fewer : (s : ScriptValue) (b : Bool) (c d : ℕ) → c < d → suc c * lap s ≤ left_behind s b d
behind-fewer s true c d fewer = omega (arith, laps-fewer s c d fewer, suc-mul d (lap s))
behind-fewer s false c d fewer = omega (arith, laps-fewer s c d fewer)

-- The work stands somewhere, with no more than so many offers left, and comes from there as far as this.
record Stands (s : ScriptValue) (f n : ℕ) (target : Stage) (w : Work) : Type 0 where
  state : State
  is : w.engine ≡ engine_at s state
  fits : Fits_at s state w.stage
  few : left_at s state w.stage ≤ n
  same : at_round (rest_at s f state w.stage) ≡ target

-- ---- one offer further

enters-round : (s : ScriptValue) (f n : ℕ) (vs : List Visit) (b : Bool) (clock : Option ℕ) (g : Stage) → (b ≡ false → IsCalm s clock g)
    → length vs + left_behind s b (chances s g) ≤ n
    → Stands s f n (at_round (behind s f (after_pass s vs (at b g)))) (record { engine = at_next (engine s passes.Round (map offer_for vs) b clock); stage = g })
enters-round s f n (v ∷ vs) b clock g fits few = record { state = In_round v vs b clock; is = refl; fits = fits; few = few; same = refl }
enters-round s f n [] true clock g fits few = record { state = Begins; is = refl; fits = record {}; few = omega (arith, few); same = sym (rounds-calm s f true g) }
enters-round s f n [] false clock g fits few = record { state = In_timers (timer_pass_of s) clock; is = refl; fits = fits refl; few = omega (arith, few); same = refl }

still-so : (b still : Bool) → (b ≡ false → still ≡ true) → (b || not still) ≡ b
still-so true still is = refl
still-so false still is = ap not (is refl)

nothing-still : (v : Visit) (g : Stage) (clock : Option ℕ) → IsClock clock g.count → is_still (offer_for v) clock (outcome_of_nothing v g) ≡ true
nothing-still v g clock is = by v (is_at_end v g) refl
  where
    now : (k : Option ℕ) → IsClock k g.count → is_still (offer_for v) k (outcomes.NotReady g.count) ≡ true
    now None is = refl
    now (Some before) is = grind (arith, nat_tests)

    by : (u : Visit) (end : Bool) → is_at_end u g ≡ end → is_still (offer_for u) clock (if end then outcomes.Ended else outcomes.NotReady g.count) ≡ true
    by (Consumer k) true at_end = refl
    by (Consumer k) false at_end = now clock is
    by (Engine turn) true at_end = absurd (true≢false (sym at_end))
    by (Engine turn) false at_end = now clock is

clock-nothing : (v : Visit) (g : Stage) (clock : Option ℕ) → IsClock clock g.count → IsClock (clock_after clock (outcome_of_nothing v g)) g.count
clock-nothing v g clock is = by (is_at_end v g)
  where
    by : (end : Bool) → IsClock (clock_after clock (if end then outcomes.Ended else outcomes.NotReady g.count)) g.count
    by true = is
    by false = refl

or-true : (b : Bool) → (b || true) ≡ true
or-true true = refl
or-true false = refl

pass-on : (s : ScriptValue) (v : Visit) (vs : List Visit) (b : Bool) (g h : Stage) → has_no_event_left s g ≡ false → after_visit s v (at b g) ≡ h → after_pass s (v ∷ vs) (at b g) ≡ after_pass s vs h
pass-on s v vs b g h room is = ap (λ full. if full then at b g else after_pass s vs (after_visit s v (at b g))) room ∙ ap (after_pass s vs) is

at-true : (h : Stage) → h.happened ≡ true → h ≡ at true h
at-true h is = ap (λ b. at b h) is

abbrev work_at : ScriptValue → State → Stage → Work
work_at s state g = record { engine = engine_at s state; stage = g }

-- what stands next is a visit, and is made
work-visit : (s : ScriptValue) (v : Visit) (left : List Offer) (p : Pass) (b : Bool) (clock : Option ℕ) (g : Stage)
    → work_after_visit s v (record { engine = engine s p (offer_for v ∷ left) b clock; stage = g }) ≡ work_after s (record { engine = engine s p (offer_for v ∷ left) b clock; stage = g })
work-visit s (Consumer k) left p b clock g = refl
work-visit s (Engine turn) left p b clock g = refl

round-step : (s : ScriptValue) (f n : ℕ) (v : Visit) (vs : List Visit) (b : Bool) (clock : Option ℕ) (g : Stage) → has_no_event_left s g ≡ false → (b ≡ false → IsCalm s clock g)
    → length vs + left_behind s b (chances s g) ≤ n
    → Stands s f n (at_round (rest_at s f (In_round v vs b clock) g)) (work_after s (work_at s (In_round v vs b clock) g))
round-step s f n v vs b clock g room fits few =
    subst (Stands s f n (at_round (rest_at s f (In_round v vs b clock) g))) (work-visit s v (map offer_for vs) passes.Round b clock g) (by (comes-visit s v g))
  where
    after : Bool → Stage → Work
    after hap h = record { engine = engine_after (engine_at s (In_round v vs b clock)) (if hap then outcomes.Did else outcome_of_nothing v g); stage = h }

    on : Bool → Option ℕ → Stage → Work
    on hap k h = record { engine = at_next (engine s passes.Round (map offer_for vs) hap k); stage = h }

    target : Stage
    target = at_round (rest_at s f (In_round v vs b clock) g)

    moved : (h : Stage) → after_visit s v (at b g) ≡ h → at_round (behind s f (after_pass s vs h)) ≡ target
    moved h is = ap (λ p. at_round (behind s f p)) (sym (pass-on s v vs b g h room is))

    nothing : ((a : Bool) → after_visit s v (at a g) ≡ at a g) → Stands s f n target (after false (at_round g))
    nothing is =
        subst (λ hap. Stands s f n target (on hap (clock_after clock (outcome_of_nothing v g)) (at_round g)))
        (sym (still-so b (is_still (offer_for v) clock (outcome_of_nothing v g)) (λ none. nothing-still v g clock (fits none).1)))
        (subst (λ t. Stands s f n t (on b (clock_after clock (outcome_of_nothing v g)) (at_round g))) (moved (at b g) (is b))
        (enters-round s f n vs b (clock_after clock (outcome_of_nothing v g)) (at_round g) (λ none. (room, clock-nothing v g clock (fits none).1)) few))

    something : (h : Stage) → h.happened ≡ true → after_visit s v (at b g) ≡ h → chances s h < chances s g → Stands s f n target (after true h)
    something h happened is fewer =
        subst (λ hap. Stands s f n target (on hap clock h)) (sym (or-true b))
        (subst (λ t. Stands s f n t (on true clock h)) (ap (λ x. at_round (behind s f (after_pass s vs x))) (sym (at-true h happened)) ∙ moved h is)
        (enters-round s f n vs true clock h (λ none. absurd (true≢false none)) (omega (arith, few, behind-fewer s b (chances s h) (chances s g) fewer))))

    by : Comes (λ a. after_visit s v (at a g)) g → Stands s f n target (after (after_visit s v (at_round g)).happened (after_visit s v (at_round g)))
    by (inl none) = subst (λ (h : Stage). Stands s f n target (after h.happened h)) (sym (none false)) (nothing none)
    by (inr happens) =
        subst (λ (h : Stage). Stands s f n target (after h.happened h)) (sym (happens.same false))
        (subst (λ hap. Stands s f n target (after hap happens.after)) (sym happens.happened) (something happens.after happens.happened (happens.same b) (fewer-chances s v g happens room)))

timers-step : (s : ScriptValue) (f n : ℕ) (v : Visit) (vs : List Visit) (clock : Option ℕ) (g : Stage) → IsCalm s clock g
    → length vs + chances s g * lap s ≤ n
    → Stands s f n (at_round (rest_at s f (In_timers (v ∷ vs) clock) g)) (work_after s (work_at s (In_timers (v ∷ vs) clock) g))
timers-step s f n v vs clock g fits few =
    subst (Stands s f n (at_round (rest_at s f (In_timers (v ∷ vs) clock) g))) (work-visit s v (map offer_for vs) passes.Timers false clock g) (by (comes-visit s v g))
  where
    after : Bool → Stage → Work
    after hap h = record { engine = engine_after (engine_at s (In_timers (v ∷ vs) clock)) (if hap then outcomes.Did else outcome_of_nothing v g); stage = h }

    on : Bool → Option ℕ → Stage → Work
    on hap k h = record { engine = at_next (engine s passes.Timers (map offer_for vs) hap k); stage = h }

    target : Stage
    target = at_round (rest_at s f (In_timers (v ∷ vs) clock) g)

    -- what the visit and those behind it make
    rest : Stage → Stage
    rest h = behind_timers s f (or_else h (λ x. after_first s vs x))

    nothing : ((a : Bool) → after_visit s v (at a g) ≡ at a g) → Stands s f n target (after false (at_round g))
    nothing is =
        subst (λ hap. Stands s f n target (on hap (clock_after clock (outcome_of_nothing v g)) (at_round g)))
        (sym (ap not (nothing-still v g clock fits.1)))
        (record {
          state = In_timers vs (clock_after clock (outcome_of_nothing v g));
          is = refl;
          fits = (fits.0, clock-nothing v g clock fits.1);
          few = few;
          same = ap (λ h. at_round (rest h)) (sym (is false));
        })

    something : (h : Stage) → h.happened ≡ true → after_visit s v (at false g) ≡ h → chances s h < chances s g → Stands s f n target (after true h)
    something h happened is fewer = record {
      state = Begins;
      is = refl;
      fits = record {};
      few = omega (arith, few, laps-fewer s (chances s h) (chances s g) fewer);
      same =
          ap (λ b. at_round (if b then after_rounds s f h else h)) (sym happened)
          ∙ ap (λ b. at_round (behind_timers s f (if b then h else after_first s vs h))) (sym happened)
          ∙ ap (λ x. at_round (rest x)) (sym is);
    }

    by : Comes (λ a. after_visit s v (at a g)) g → Stands s f n target (after (after_visit s v (at_round g)).happened (after_visit s v (at_round g)))
    by (inl none) = subst (λ (h : Stage). Stands s f n target (after h.happened h)) (sym (none false)) (nothing none)
    by (inr happens) =
        subst (λ (h : Stage). Stands s f n target (after h.happened h)) (sym (happens.same false))
        (subst (λ hap. Stands s f n target (after hap happens.after)) (sym happens.happened) (something happens.after happens.happened (happens.same false) (fewer-chances s v g happens fits.0)))

-- ---- the loop's end

or-false : (a b : Bool) → (a || b) ≡ false → (a ≡ false) × (b ≡ false)
or-false false b is = (refl, is)
or-false true b is = absurd (true≢false is)

-- no visit is left where Quiet is offered
quiet-left : (s : ScriptValue) (p : Pass) (vs : List Visit) (b : Bool) (clock : Option ℕ) → is_quiet_offer (offer_of (engine s p (map offer_for vs) b clock)) ≡ true → vs ≡ []
quiet-left s p [] b clock is = refl
quiet-left s p (Consumer k ∷ vs) b clock is = absurd (true≢false (sym is))
quiet-left s p (Engine turn ∷ vs) b clock is = absurd (true≢false (sym is))

-- with nobody to visit, rounds make nothing
none-to-visit : (s : ScriptValue) (f : ℕ) (g : Stage) → has_no_event_left s g ≡ false → round_of s ≡ [] → at_round g ≡ at_round (after_rounds s f g)
none-to-visit s zero g room none = refl
none-to-visit s (suc f) g room none = ap at_round (sym (rounds-on s f g room ∙ ap (λ vs. both vs (timer_pass_of s)) none ∙ ap (λ vs. both [] vs) (no-timers s none)))
  where
    both : List Visit → List Visit → Stage
    both round timers = and_again (or_else (after_pass s round (at_round g)) (λ h. after_first s timers h)) (λ h. after_rounds s f h)

full-end : (s : ScriptValue) (f : ℕ) (state : State) (g : Stage) → Fits_at s state g → has_no_event_left s g ≡ true → at_round g ≡ at_round (rest_at s f state g)
full-end s f Begins g fits full = ap at_round (sym (rounds-full s f g full))
full-end s f (In_round v vs true clock) g fits full =
    ap at_round (sym (ap (λ b. behind s f (if b then at true g else after_pass s vs (after_visit s v (at true g)))) full ∙ rounds-full s f (at true g) full))
full-end s f (In_round v vs false clock) g fits full = absurd (true≢false (sym full ∙ (fits refl).0))
full-end s f (In_timers vs clock) g fits full = absurd (true≢false (sym full ∙ fits.0))

quiet-end : (s : ScriptValue) (f : ℕ) (state : State) (g : Stage) → has_no_event_left s g ≡ false → is_quiet_offer (offer_of (engine_at s state)) ≡ true → at_round g ≡ at_round (rest_at s f state g)
quiet-end s f Begins g room is = none-to-visit s f g room (quiet-left s passes.Round (round_of s) false None is)
quiet-end s f (In_round (Consumer k) vs b clock) g room is = absurd (true≢false (sym is))
quiet-end s f (In_round (Engine turn) vs b clock) g room is = absurd (true≢false (sym is))
quiet-end s f (In_timers vs clock) g room is =
    ap (λ us. at_round (behind_timers s f (after_first s us (at false g)))) (sym (quiet-left s passes.Timers vs false clock is))

at-end : (s : ScriptValue) (f : ℕ) (state : State) (g : Stage) → Fits_at s state g → has_ended s (work_at s state g) ≡ true → at_round g ≡ at_round (rest_at s f state g)
at-end s f state g fits ended = by (has_no_event_left s g) refl ended
  where
    by : (b : Bool) → has_no_event_left s g ≡ b → (b || is_quiet_offer (offer_of (engine_at s state))) ≡ true → at_round g ≡ at_round (rest_at s f state g)
    by true full ended = full-end s f state g fits full
    by false room ended = quiet-end s f state g room ended

-- ---- the whole loop

-- One offer further the work stands somewhere, with fuel for so many offers, and no more than so many are left.
record Goes (s : ScriptValue) (n m : ℕ) (target : Stage) (w : Work) : Type 0 where
  fuel : ℕ
  enough : n ≤ fuel
  stands : Stands s fuel m target w

begins : (s : ScriptValue) (f m : ℕ) (us : List Visit) (g : Stage) → has_no_event_left s g ≡ false → is_quiet_offer (offer_of (engine s passes.Round (map offer_for us) false None)) ≡ false
    → length us + left_behind s false (chances s g) ≤ suc m
    → Stands s f m (at_round (behind s f (after_pass s us (at false g)))) (work_after s (record { engine = engine s passes.Round (map offer_for us) false None; stage = g }))
begins s f m [] g room is few = absurd (true≢false is)
begins s f m (v ∷ vs) g room is few = round-step s f m v vs false None g room (λ none. (room, record {})) (omega (arith, few))

goes : (s : ScriptValue) (n m f : ℕ) (state : State) (g : Stage) → suc n ≤ f → Fits_at s state g → left_at s state g ≤ suc m
    → has_no_event_left s g ≡ false → is_quiet_offer (offer_of (engine_at s state)) ≡ false
    → Goes s n m (at_round (rest_at s f state g)) (work_after s (work_at s state g))
goes s n m zero Begins g enough fits few room is = absurd (omega (arith, enough))
goes s n m (suc f) Begins g enough fits few room is = record {
  fuel = f;
  enough = omega (arith, enough);
  stands = subst (λ t. Stands s f m t (work_after s (work_at s Begins g))) (ap at_round (sym (rounds-on s f g room)))
      (begins s f m (round_of s) g room is (omega (arith, few, suc-mul (chances s g) (lap s))));
}
goes s n m f (In_round v vs b clock) g enough fits few room is =
    record { fuel = f; enough = omega (arith, enough); stands = round-step s f m v vs b clock g room fits (omega (arith, few)) }
goes s n m f (In_timers [] clock) g enough fits few room is = absurd (true≢false is)
goes s n m f (In_timers (v ∷ vs) clock) g enough fits few room is =
    record { fuel = f; enough = omega (arith, enough); stands = timers-step s f m v vs clock g fits (omega (arith, few)) }

-- so many offers make as much as comes from where the engine stands
abbrev Makes : ScriptValue → ℕ → Type 0
Makes s n = (f : ℕ) (state : State) (g : Stage) → n ≤ f → Fits_at s state g → has_ended s (work_after_all s n (work_at s state g)) ≡ true
    → at_round (work_after_all s n (work_at s state g)).stage ≡ at_round (rest_at s f state g)

makes-more : (s : ScriptValue) (n : ℕ) → Makes s n → Makes s (suc n)
makes-more s n makes f state g few fits ended = by (has_ended s (work_at s state g)) refl ended
  where
    w : Work
    w = work_after s (work_at s state g)

    on : (m : ℕ) (v : Work) → Goes s n m (at_round (rest_at s f state g)) v → has_ended s (work_after_all s n v) ≡ true → at_round (work_after_all s n v).stage ≡ at_round (rest_at s f state g)
    on m v one ended =
        let same : v ≡ work_at s one.stands.state v.stage = ap (λ e. record { engine = e; stage = v.stage }) one.stands.is in
        ap (λ (u : Work). at_round (work_after_all s n u).stage) same
        ∙ makes one.fuel one.stands.state v.stage one.enough one.stands.fits (subst (λ u. has_ended s (work_after_all s n u) ≡ true) same ended)
        ∙ one.stands.same

    by : (b : Bool) → has_ended s (work_at s state g) ≡ b → has_ended s (if b then work_at s state g else work_after_all s n w) ≡ true
        → at_round (if b then work_at s state g else work_after_all s n w).stage ≡ at_round (rest_at s f state g)
    by true is ended = at-end s f state g fits is
    by false is ended =
        let both : (has_no_event_left s g ≡ false) × (is_quiet_offer (offer_of (engine_at s state)) ≡ false) = or-false (has_no_event_left s g) (is_quiet_offer (offer_of (engine_at s state))) is
        in on (left_at s state g) w (goes s n (left_at s state g) f state g few fits (omega arith) both.0 both.1) ended

makes : (s : ScriptValue) (n : ℕ) → Makes s n
makes s zero = λ f state g few fits ended. at-end s f state g fits ended
makes s (suc n) = makes-more s n (makes s n)

-- ---- the loop ends

-- the loop has ended, wherever the engine stands with no more than so many offers left
abbrev Ends : ScriptValue → ℕ → Type 0
Ends s n = (state : State) (g : Stage) → left_at s state g ≤ n → Fits_at s state g → has_ended s (work_after_all s n (work_at s state g)) ≡ true

-- with nobody to visit Quiet is offered
none-offered : (s : ScriptValue) (us : List Visit) → length us ≤ 0 → is_quiet_offer (offer_of (engine s passes.Round (map offer_for us) false None)) ≡ true
none-offered s [] none = refl
none-offered s (v ∷ vs) none = absurd (omega (arith, none))

-- with no offer left the loop has ended
ends-none : (s : ScriptValue) → Ends s zero
ends-none s Begins g few fits =
    ap (λ b. has_no_event_left s g || b) (none-offered s (round_of s) (omega (arith, few, suc-mul (chances s g) (lap s))))
    ∙ or-true (has_no_event_left s g)
ends-none s (In_round v vs b clock) g few fits = absurd (omega (arith, few))
ends-none s (In_timers [] clock) g few fits = or-true (has_no_event_left s g)
ends-none s (In_timers (v ∷ vs) clock) g few fits = absurd (omega (arith, few))

ends-more : (s : ScriptValue) (n : ℕ) → Ends s n → Ends s (suc n)
ends-more s n ends state g few fits = by (has_ended s (work_at s state g)) refl
  where
    w : Work
    w = work_after s (work_at s state g)

    on : (v : Work) → Goes s n n (at_round (rest_at s (suc n) state g)) v → has_ended s (work_after_all s n v) ≡ true
    on v one =
        let same : v ≡ work_at s one.stands.state v.stage = ap (λ e. record { engine = e; stage = v.stage }) one.stands.is in
        subst (λ u. has_ended s (work_after_all s n u) ≡ true) (sym same) (ends one.stands.state v.stage one.stands.few one.stands.fits)

    by : (b : Bool) → has_ended s (work_at s state g) ≡ b → has_ended s (if b then work_at s state g else work_after_all s n w) ≡ true
    by true is = is
    by false is =
        let both : (has_no_event_left s g ≡ false) × (is_quiet_offer (offer_of (engine_at s state)) ≡ false) = or-false (has_no_event_left s g) (is_quiet_offer (offer_of (engine_at s state))) is
        in on w (goes s n n (suc n) state g (omega arith) fits few both.0 both.1)

ends : (s : ScriptValue) (n : ℕ) → Ends s n
ends s zero = ends-none s
ends s (suc n) = ends-more s n (ends s n)

-- ---- more rounds make nothing behind the end

still-at : (s : ScriptValue) (v : Visit) (g : Stage) → after_visit s v g ≡ g → (b : Bool) → after_visit s v (at b g) ≡ at b g
still-at s v g same b = by (comes-visit s v g)
  where
    by : Comes (λ a. after_visit s v (at a g)) g → after_visit s v (at b g) ≡ at b g
    by (inl none) = none b
    by (inr happens) = absurd (happens.differs g.happened (sym (happens.same g.happened) ∙ same))

pass-still : (s : ScriptValue) (vs : List Visit) (g : Stage) → StillAll s g vs → after_pass s vs (at false g) ≡ at false g
pass-still s [] g still = refl
pass-still s (v ∷ vs) g still = by (has_no_event_left s g) (ap (after_pass s vs) (still-at s v g still.0 false) ∙ pass-still s vs g still.1)
  where
    by : (full : Bool) → after_pass s vs (after_visit s v (at false g)) ≡ at false g → (if full then at false g else after_pass s vs (after_visit s v (at false g))) ≡ at false g
    by true rest = refl
    by false rest = rest

first-still : (s : ScriptValue) (vs : List Visit) (g : Stage) → StillAll s g vs → after_first s vs (at false g) ≡ at false g
first-still s [] g still = refl
first-still s (v ∷ vs) g still = ap (λ h. or_else h (λ x. after_first s vs x)) (still-at s v g still.0 false) ∙ first-still s vs g still.1

ended-rounds : (s : ScriptValue) (m : ℕ) (g : Stage) → Ended s g → at_round (after_rounds s m g) ≡ at_round g
ended-rounds s m g (inl full) = ap at_round (rounds-full s m g full)
ended-rounds s zero g (inr still) = refl
ended-rounds s (suc m) g (inr still) = by (has_no_event_left s g)
  where
    worked-still : after_round s g ≡ at_round g
    worked-still = ap (λ p. or_else p (λ h. after_first s (timer_pass_of s) h)) (pass-still s (round_of s) g still.0) ∙ first-still s (timer_pass_of s) g still.1

    by : (full : Bool) → at_round (if full then g else and_again (after_round s g) (λ h. after_rounds s m h)) ≡ at_round g
    by true = refl
    by false = ap (λ p. at_round (and_again p (λ h. after_rounds s m h))) worked-still

more-rounds : (s : ScriptValue) (n m : ℕ) (g : Stage) → Ended s (after_rounds s n g) → at_round (after_rounds s (n + m) g) ≡ at_round (after_rounds s n g)
more-rounds s zero m g ended = ap (λ (k : ℕ). at_round (after_rounds s k g)) {y = m} (omega arith) ∙ ended-rounds s m g ended
more-rounds s (suc n) m g ended =
    ap (λ (k : ℕ). at_round (after_rounds s k g)) {y = suc (n + m)} (omega arith)
    ∙ by (more-rounds s n m (after_round s g)) (has_no_event_left s g) (after_round s g).happened ended
  where
    by : (Ended s (after_rounds s n (after_round s g)) → at_round (after_rounds s (n + m) (after_round s g)) ≡ at_round (after_rounds s n (after_round s g))) → (full happened : Bool)
        → Ended s (if full then g else (if happened then after_rounds s n (after_round s g) else after_round s g))
        → at_round (if full then g else (if happened then after_rounds s (n + m) (after_round s g) else after_round s g)) ≡ at_round (if full then g else (if happened then after_rounds s n (after_round s g) else after_round s g))
    by more true happened ended = refl
    by more false true ended = more ended
    by more false false ended = refl

-- the loop begins before a round
loop-opens : (s : ScriptValue) (g : Stage) → work_from s g ≡ work_at s Begins g
loop-opens s g = ap (λ round. lists round (offers_of_timers s.config)) (round-offered s) ∙ ap (lists (map offer_for (round_of s))) (timer-pass-offered s)
  where
    lists : List Offer → List Offer → Work
    lists round timers = record {
      engine = record { round = round; timers = timers; pass = passes.Round; left = round; happened = false; clock = None };
      stage = g;
    }

pub loop-ends-from : (s : ScriptValue) (g : Stage) (n : ℕ) → HasNoMoreLines s g → most_offers s ≤ n → has_ended s (work_after_all s n (work_from s g)) ≡ true
loop-ends-from s g n lines enough = subst (λ w. has_ended s (work_after_all s n w) ≡ true) (sym (loop-opens s g)) (ends s n Begins g few (record {}))
  where
    offered : lap s ≡ length (offers_of_round s.config (length s.consumers)) + length (offers_of_timers s.config)
    offered = omega (
      arith,
      ap (λ (xs : List Offer). length xs) (round-offered s) ∙ length-map (round_of s) offer_for,
      ap (λ (xs : List Offer). length xs) (timer-pass-offered s) ∙ length-map (timer_pass_of s) offer_for,
    )

    all : suc (chances s g) ≤ most_rounds s
    all = omega (arith, lines)

    few : suc (chances s g) * lap s ≤ n
    few = omega (
      arith,
      mul-le (suc (chances s g)) (lap s) (most_rounds s) (lap s) all (omega arith),
      subst (λ (k : ℕ). most_rounds s * k ≤ n) (sym offered) enough,
    )

pub loop-ends : (s : ScriptValue) (n : ℕ) → most_offers s ≤ n → has_ended s (work_after_all s n (opening_work s)) ≡ true
loop-ends s n enough = loop-ends-from s (opening_stage s) n (omega arith) enough

pub loop-made-from : (s : ScriptValue) (g : Stage) (n : ℕ) → HasNoMoreLines s g → has_ended s (work_after_all s n (work_from s g)) ≡ true
    → at_round (work_after_all s n (work_from s g)).stage ≡ at_round (ending_from s g)
loop-made-from s g n lines ended =
    ap (λ (w : Work). at_round (work_after_all s n w).stage) (loop-opens s g)
    ∙ makes s n (most_rounds s + n) Begins g (omega arith) (record {}) (subst (λ w. has_ended s (work_after_all s n w) ≡ true) (loop-opens s g) ended)
    ∙ more-rounds s (most_rounds s) n g (most-end s (most_rounds s) g lines (omega arith))

pub loop-made : (s : ScriptValue) (n : ℕ) → has_ended s (work_after_all s n (opening_work s)) ≡ true → at_round (work_after_all s n (opening_work s)).stage ≡ at_round (ending s)
loop-made s n ended = loop-made-from s (opening_stage s) n (omega arith) ended
