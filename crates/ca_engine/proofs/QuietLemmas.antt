-- What an engine was told since the round began, up to Quiet. For proofs only.
use Rattle.std.proofs.Common.{◌≡◌, inl, inr, ℕ, ◌||◌, not, Bool, true, false, List, [], ◌∷◌, ◌++◌, map, Option, None, Some, refl, sym, ap, ◌∙◌, subst, true≢false, append_assoc, if◌then◌else◌, arith}
use Rattle.std.specs.Bool.{⊤}
use Rattle.std.specs.List.{AllByRecursion, flat_map}
use Rattle.std.proofs.lemmas.List.{append-nil, map-append}
use Rattle.std.proofs.lemmas.List.Elements.{All-from_recursion}
use Rattle.std.proofs.lemmas.Bool.Decides.{nat_tests}
use Rattle.ca_base.specs.Configuration.{Configuration}
use Rattle.ca_keys.specs.declared.names.QueueId.{QueueId}
use Rattle.ca_script_order.specs.Visits.{all_queues, numbers_below}
use Rattle.ca_engine.specs.Offers.{offers_of_round, offers_of_timers, timers_of_queue, turns_of_queue}
use Rattle.ca_engine.specs.Engine.{EngineValue, at_next, at_round, at_timers, clock_after, engine_after, engine_after_all, is_consumer, is_still, offer_of, opening_engine, with_outcome}
use Rattle.ca_engine.specs.Quiet.{AllNotReady, IsNotReadyAt, Telling, tellings}
use Rattle.ca_engine.specs.declared.offer.Offer.{Offer}
use Rattle.ca_engine.specs.declared.offer.Offer.TheVariants as offers
use Rattle.ca_engine.specs.declared.outcome.Outcome.{Outcome}
use Rattle.ca_engine.specs.declared.outcome.Outcome.TheVariants as outcomes
use Rattle.ca_engine.specs.declared.pass.Pass.{Pass}
use Rattle.ca_engine.specs.declared.pass.Pass.TheVariants as passes

-- ---- no list has Quiet

abbrev NoQuiet : List Offer → Type 0
NoQuiet [] = ⊤
NoQuiet (x ∷ xs) = (x ≡ offers.Quiet → ⊥) × NoQuiet xs

no-quiet-append : (xs ys : List Offer) → NoQuiet xs → NoQuiet ys → NoQuiet (xs ++ ys)
no-quiet-append [] ys none others = others
no-quiet-append (x ∷ xs) ys none others = (none.0, no-quiet-append xs ys none.1 others)

no-quiet-flat : (f : QueueId → List Offer) → ((q : QueueId) → NoQuiet (f q)) → (qs : List QueueId) → NoQuiet (flat_map f qs)
no-quiet-flat f none [] = record {}
no-quiet-flat f none (q ∷ qs) = no-quiet-append (f q) (flat_map f qs) (none q) (no-quiet-flat f none qs)

no-quiet-consumers : (ks : List ℕ) → NoQuiet (map offers.Consumer ks)
no-quiet-consumers [] = record {}
no-quiet-consumers (k ∷ ks) = (λ is. cc, no-quiet-consumers ks)

no-quiet-round : (c : Configuration) (consumers : ℕ) → NoQuiet (offers_of_round c consumers)
no-quiet-round c consumers =
    no-quiet-append (map offers.Consumer (numbers_below consumers)) (flat_map turns_of_queue (all_queues c)) (no-quiet-consumers (numbers_below consumers))
    (no-quiet-flat turns_of_queue (λ q. (λ is. cc, (λ is. cc, (λ is. cc, record {})))) (all_queues c))

no-quiet-timers : (c : Configuration) → NoQuiet (offers_of_timers c)
no-quiet-timers c = no-quiet-flat timers_of_queue (λ q. (λ is. cc, (λ is. cc, record {}))) (all_queues c)

-- where a round offers nothing, a timer pass does not either
no-timers : (c : Configuration) (consumers : ℕ) → offers_of_round c consumers ≡ [] → offers_of_timers c ≡ []
no-timers c consumers none = by (map offers.Consumer (numbers_below consumers)) (all_queues c) none
  where
    by : (xs : List Offer) (qs : List QueueId) → xs ++ flat_map turns_of_queue qs ≡ [] → flat_map timers_of_queue qs ≡ []
    by xs [] none = refl
    by [] (q ∷ qs) none = absurd cc
    by (x ∷ xs) (q ∷ qs) none = absurd cc

-- ---- what was told since the round began

-- nothing happened by it, where this is the clock of the latest that was not ready
abbrev StillAt : Option ℕ → Telling → Type 0
StillAt None t = (t.outcome ≡ outcomes.Ended) × (is_consumer t.offer ≡ true)
StillAt (Some clock) t = IsNotReadyAt clock t

abbrev AllStill : Option ℕ → List Telling → Type 0
AllStill clock ts = AllByRecursion (StillAt clock) ts

still-append : (clock : Option ℕ) (ts us : List Telling) → AllStill clock ts → AllStill clock us → AllStill clock (ts ++ us)
still-append clock [] us still others = others
still-append clock (t ∷ ts) us still others = (still.0, still-append clock ts us still.1 others)

-- a first clock changes nothing
still-first : (clock : ℕ) (ts : List Telling) → AllStill None ts → AllStill (Some clock) ts
still-first clock [] still = record {}
still-first clock (t ∷ ts) still = (inr still.0, still-first clock ts still.1)

-- what was still, and what is told now
still-more : (clock : Option ℕ) (ts : List Telling) (offer : Offer) (outcome : Outcome) → is_still offer clock outcome ≡ true → AllStill clock ts
    → AllStill (clock_after clock outcome) (ts ++ record { offer = offer; outcome = outcome } ∷ [])
still-more clock ts offer outcomes.Did is still = absurd (true≢false (sym is))
still-more clock ts offer outcomes.Busy is still = absurd (true≢false (sym is))
still-more None ts offer outcomes.Ended is still = still-append None ts _ still ((refl, is), record {})
still-more (Some before) ts offer outcomes.Ended is still = still-append (Some before) ts _ still (inr (refl, is), record {})
still-more None ts offer (outcomes.NotReady now) is still = still-append (Some now) ts _ (still-first now ts still) (inl refl, record {})
still-more (Some before) ts offer (outcomes.NotReady now) is still =
    let same : before ≡ now = grind (arith, nat_tests, is)
    in still-append (Some now) ts _ (subst (λ (k : ℕ). AllStill (Some k) ts) same still) (inl refl, record {})

-- what the order offers from the round's beginning to the end of a pass
abbrev so_far : Pass → List Offer → List Offer → List Offer
so_far passes.Round round timers = round
so_far passes.Timers round timers = round ++ timers

-- a round at its end offers nothing at all; in a timer pass nothing has happened
abbrev IsWithin : Pass → Bool → List Offer → List Offer → Type 0
IsWithin passes.Round happened [] round = round ≡ []
IsWithin passes.Round happened (x ∷ left) round = ⊤
IsWithin passes.Timers happened left round = happened ≡ false

-- the tellings since the round began
record Told (e : EngineValue) (past : List Telling) : Type 0 where
  before : List Telling
  last : List Telling
  are : past ≡ before ++ last
  offered : map (λ t. t.offer) last ++ e.left ≡ so_far e.pass e.round e.timers
  still : e.happened ≡ false → AllStill e.clock last

record Stands (round timers : List Offer) (e : EngineValue) (past : List Telling) : Type 0 where
  round_is : e.round ≡ round
  timers_are : e.timers ≡ timers
  within : IsWithin e.pass e.happened e.left e.round
  no_quiet : NoQuiet e.left
  told : Told e past

-- lists of offers that an engine has
record IsFixed (round timers : List Offer) : Type 0 where
  round_none : NoQuiet round
  timers_none : NoQuiet timers

within-round : (round : List Offer) → IsWithin passes.Round false round round
within-round [] = refl
within-round (x ∷ xs) = record {}

-- a round begins
restarts : (round timers : List Offer) → IsFixed round timers → (e : EngineValue) (past : List Telling) → e.round ≡ round → e.timers ≡ timers
    → Stands round timers (at_round e) past
restarts round timers fixed e past round_is timers_are = record {
  round_is = round_is;
  timers_are = timers_are;
  within = within-round e.round;
  no_quiet = subst NoQuiet (sym round_is) fixed.round_none;
  told = record { before = past; last = []; are = sym (append-nil past); offered = refl; still = λ none. record {} };
}

or-false : (a b : Bool) → (a || not b) ≡ false → (a ≡ false) × (b ≡ true)
or-false false true is = (refl, refl)
or-false false false is = absurd (true≢false is)
or-false true b is = absurd (true≢false is)

-- one telling more
told-more : (e : EngineValue) (x : Offer) (left : List Offer) (outcome : Outcome) (past : List Telling) → e.left ≡ x ∷ left → Told e past
    → Told (with_outcome x left outcome e) (past ++ record { offer = x; outcome = outcome } ∷ [])
told-more e x left outcome past has told = record {
  before = told.before;
  last = told.last ++ t ∷ [];
  are = ap (λ ts. ts ++ t ∷ []) told.are ∙ append_assoc told.before told.last (t ∷ []);
  offered =
      ap (λ xs. xs ++ left) (map-append (λ (u : Telling). u.offer) told.last (t ∷ []))
      ∙ append_assoc (map (λ (u : Telling). u.offer) told.last) (x ∷ []) left
      ∙ ap (λ xs. map (λ (u : Telling). u.offer) told.last ++ xs) (sym has)
      ∙ told.offered;
  still = λ none. let both : (e.happened ≡ false) × (is_still x e.clock outcome ≡ true) = or-false e.happened (is_still x e.clock outcome) none
      in still-more e.clock told.last x outcome both.1 (told.still both.0);
}
  where
    t : Telling
    t = record { offer = x; outcome = outcome }

-- the timer pass begins, behind a whole round
told-timers : (e : EngineValue) (past : List Telling) → e.pass ≡ passes.Round → e.left ≡ [] → Told e past → Told (at_timers e) past
told-timers e past is none told = record {
  before = told.before;
  last = told.last;
  are = told.are;
  offered = ap (λ xs. xs ++ e.timers) (sym (append-nil _) ∙ ap (λ xs. map (λ (u : Telling). u.offer) told.last ++ xs) (sym none)
      ∙ told.offered ∙ ap (λ p. so_far p e.round e.timers) is);
  still = told.still;
}

abbrev engine : List Offer → List Offer → Pass → List Offer → Bool → Option ℕ → EngineValue
engine round timers pass left happened clock = record { round = round; timers = timers; pass = pass; left = left; happened = happened; clock = clock }

-- where the order goes from here
next : (R T : List Offer) → IsFixed R T → (round timers : List Offer) (pass : Pass) (left : List Offer) (happened : Bool) (clock : Option ℕ) (past : List Telling)
    → round ≡ R → timers ≡ T → NoQuiet left → Told (engine round timers pass left happened clock) past
    → Stands R T (at_next (engine round timers pass left happened clock)) past
next R T fixed round timers passes.Round (x ∷ left) happened clock past round_is timers_are none told =
    record { round_is = round_is; timers_are = timers_are; within = record {}; no_quiet = none; told = told }
next R T fixed round timers passes.Round [] happened clock past round_is timers_are none told = by happened refl
  where
    e : EngineValue
    e = engine round timers passes.Round [] happened clock

    by : (b : Bool) → happened ≡ b → Stands R T (if b then at_round e else at_timers e) past
    by true is = restarts R T fixed e past round_is timers_are
    by false is = record {
      round_is = round_is;
      timers_are = timers_are;
      within = is;
      no_quiet = subst NoQuiet (sym timers_are) fixed.timers_none;
      told = told-timers e past refl refl told;
    }
next R T fixed round timers passes.Timers left happened clock past round_is timers_are none told = by happened refl
  where
    e : EngineValue
    e = engine round timers passes.Timers left happened clock

    by : (b : Bool) → happened ≡ b → Stands R T (if b then at_round e else e) past
    by true is = restarts R T fixed e past round_is timers_are
    by false is = record { round_is = round_is; timers_are = timers_are; within = is; no_quiet = none; told = told }

-- an outcome is told
stands-after : (R T : List Offer) → IsFixed R T → (round timers : List Offer) (pass : Pass) (left : List Offer) (happened : Bool) (clock : Option ℕ) (outcome : Outcome)
    (past : List Telling) → Stands R T (engine round timers pass left happened clock) past
    → Stands R T (engine_after (engine round timers pass left happened clock) outcome)
    (past ++ record { offer = offer_of (engine round timers pass left happened clock); outcome = outcome } ∷ [])
stands-after R T fixed round timers pass [] happened clock outcome past stands =
    restarts R T fixed (engine round timers pass [] happened clock) _ stands.round_is stands.timers_are
stands-after R T fixed round timers pass (x ∷ left) happened clock outcome past stands =
    next R T fixed round timers pass left (happened || not (is_still x clock outcome)) (clock_after clock outcome) _
    stands.round_is stands.timers_are stands.no_quiet.1 (told-more (engine round timers pass (x ∷ left) happened clock) x left outcome past refl stands.told)

-- ---- Quiet

record LastTold (R T : List Offer) (past : List Telling) : Type 0 where
  before : List Telling
  last : List Telling
  clock : ℕ
  are : past ≡ before ++ last
  offered : map (λ t. t.offer) last ≡ R ++ T
  still : AllStill (Some clock) last

some-clock : (R T : List Offer) (before last past : List Telling) (clock : Option ℕ) → past ≡ before ++ last → map (λ (t : Telling). t.offer) last ≡ R ++ T → AllStill clock last
    → LastTold R T past
some-clock R T before last past None are offered still = record { before = before; last = last; clock = 0; are = are; offered = offered; still = still-first 0 last still }
some-clock R T before last past (Some clock) are offered still = record { before = before; last = last; clock = clock; are = are; offered = offered; still = still }

at-quiet : (R T : List Offer) → (R ≡ [] → T ≡ []) → (round timers : List Offer) (pass : Pass) (left : List Offer) (happened : Bool) (clock : Option ℕ) (past : List Telling)
    → Stands R T (engine round timers pass left happened clock) past → offer_of (engine round timers pass left happened clock) ≡ offers.Quiet → LastTold R T past
at-quiet R T none round timers pass (x ∷ left) happened clock past stands is = absurd (stands.no_quiet.0 is)
at-quiet R T none round timers passes.Round [] happened clock past stands is =
    let empty : R ≡ [] = sym stands.round_is ∙ stands.within
    in some-clock R T past [] past None (sym (append-nil past)) (sym (ap (λ xs. xs ++ T) empty ∙ none empty)) (record {})
at-quiet R T none round timers passes.Timers [] happened clock past stands is =
    some-clock R T stands.told.before stands.told.last past clock stands.told.are
    (sym (append-nil _) ∙ stands.told.offered ∙ ap (λ xs. xs ++ timers) stands.round_is ∙ ap (λ xs. R ++ xs) stands.timers_are)
    (stands.told.still stands.within)

quiet-run : (R T : List Offer) → IsFixed R T → (R ≡ [] → T ≡ []) → (told : List Outcome) (e : EngineValue) (past : List Telling) → Stands R T e past
    → offer_of (engine_after_all e told) ≡ offers.Quiet → LastTold R T (past ++ tellings e told)
quiet-run R T fixed none [] e past stands is =
    subst (LastTold R T) (sym (append-nil past)) (at-quiet R T none e.round e.timers e.pass e.left e.happened e.clock past stands is)
quiet-run R T fixed none (outcome ∷ told) e past stands is =
    subst (LastTold R T) (append_assoc past (record { offer = offer_of e; outcome = outcome } ∷ []) (tellings (engine_after e outcome) told))
    (quiet-run R T fixed none told (engine_after e outcome) (past ++ record { offer = offer_of e; outcome = outcome } ∷ [])
    (stands-after R T fixed e.round e.timers e.pass e.left e.happened e.clock outcome past stands) is)

pub quiet-told : (c : Configuration) (consumers : ℕ) (told : List Outcome) → offer_of (engine_after_all (opening_engine c consumers) told) ≡ offers.Quiet → AllNotReady c consumers told
quiet-told c consumers told is =
    let fixed : IsFixed (offers_of_round c consumers) (offers_of_timers c) = record { round_none = no-quiet-round c consumers; timers_none = no-quiet-timers c } in
    let run : LastTold (offers_of_round c consumers) (offers_of_timers c) (tellings (opening_engine c consumers) told) =
    quiet-run (offers_of_round c consumers) (offers_of_timers c) fixed (no-timers c consumers) told (opening_engine c consumers) []
    (restarts (offers_of_round c consumers) (offers_of_timers c) fixed (opening_engine c consumers) [] refl refl) is
    in record { before = run.before; last = run.last; clock = run.clock; are = run.are; offered = run.offered; not_ready = All-from_recursion (IsNotReadyAt run.clock) run.last run.still }
