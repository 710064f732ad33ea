-- Where the order of a script stands, what is offered there, and where an outcome leads. Contracts cite it.
use Rattle.std.specs.Prelude.{ℕ, ◌==◌, ◌||◌, not, Bool, true, false, if◌then◌else◌, List, [], ◌∷◌, slice_get, Option, None, Some, unwrap_or}
use Rattle.std.specs.Option.{option_map_or}
use Rattle.ca_base.specs.Configuration.{Configuration}
use Rattle.ca_engine.specs.Offers.{offers_of_round, offers_of_timers}
use Rattle.ca_engine.specs.declared.offer.Offer.{Offer}
use Rattle.ca_engine.specs.declared.offer.Offer.TheVariants as offers
use Rattle.ca_engine.specs.declared.outcome.Outcome.{Outcome}
use Rattle.ca_engine.specs.declared.outcome.Outcome.TheVariants as outcomes
use Rattle.ca_engine.specs.declared.pass.Pass.{Pass}
use Rattle.ca_engine.specs.declared.pass.Pass.TheVariants as passes

-- what a round and what a timer pass offer; which of the two goes on, and what is left of it; whether something
-- happened since the round began; and the clock of the latest that was not ready since then
pub record EngineValue : Type 0 where
  pub round : List Offer
  pub timers : List Offer
  pub pass : Pass
  pub left : List Offer
  pub happened : Bool
  pub clock : Option ℕ

-- what a pass offers
abbrev pub offers_of_pass : Pass → List Offer → List Offer → List Offer
offers_of_pass passes.Round round timers = round
offers_of_pass passes.Timers round timers = timers

-- before the first round
abbrev pub opening_engine : Configuration → ℕ → EngineValue
opening_engine c consumers = record {
  round = offers_of_round c consumers;
  timers = offers_of_timers c;
  pass = passes.Round;
  left = offers_of_round c consumers;
  happened = false;
  clock = None;
}

-- what stands next, or Quiet where nothing is left
abbrev pub offer_of : EngineValue → Offer
offer_of e = unwrap_or (slice_get e.left 0) offers.Quiet

-- ---- outcomes

abbrev pub is_consumer : Offer → Bool
is_consumer (offers.Consumer k) = true
is_consumer (offers.Turn turn) = false
is_consumer offers.Quiet = false

-- nothing happened: it is not ready, at the clock of those before it; or a consumer is at its end
abbrev pub is_still : Offer → Option ℕ → Outcome → Bool
is_still offer clock outcomes.Did = false
is_still offer clock (outcomes.NotReady now) = option_map_or (λ before. before == now) clock true
is_still offer clock outcomes.Busy = false
is_still offer clock outcomes.Ended = is_consumer offer

-- the clock of the latest that was not ready
abbrev pub clock_after : Option ℕ → Outcome → Option ℕ
clock_after clock outcomes.Did = clock
clock_after clock (outcomes.NotReady now) = Some now
clock_after clock outcomes.Busy = clock
clock_after clock outcomes.Ended = clock

-- ---- where the order goes

-- a round begins
abbrev pub at_round : EngineValue → EngineValue
at_round e = record e { pass = passes.Round; left = e.round; happened = false; clock = None }

-- the timer pass begins
abbrev pub at_timers : EngineValue → EngineValue
at_timers e = record e { pass = passes.Timers; left = e.timers }

-- nothing is left
abbrev pub is_over : List Offer → Bool
is_over [] = true
is_over (offer ∷ left) = false

-- behind a round in which something happened a new one begins, and behind one in which nothing did, the timer pass
abbrev pub behind_round : EngineValue → EngineValue
behind_round e = if e.happened then at_round e else at_timers e

-- Behind a round comes what that says; behind a timer that fired, a new round. Else the pass goes on.
abbrev pub at_next : EngineValue → EngineValue
at_next e = by e.pass
  where
    by : Pass → EngineValue
    by passes.Round = if is_over e.left then behind_round e else e
    by passes.Timers = if e.happened then at_round e else e

-- what stands next has this outcome
abbrev pub with_outcome : Offer → List Offer → Outcome → EngineValue → EngineValue
with_outcome offer left outcome e = record e {
  left = left;
  happened = e.happened || not (is_still offer e.clock outcome);
  clock = clock_after e.clock outcome;
}

-- an outcome is told of what stands next; whatever is told of Quiet, a new round begins
abbrev pub engine_after : EngineValue → Outcome → EngineValue
engine_after e outcome = by e.left
  where
    by : List Offer → EngineValue
    by [] = at_round e
    by (offer ∷ left) = at_next (with_outcome offer left outcome e)

-- outcomes are told, one after another
abbrev pub engine_after_all : EngineValue → List Outcome → EngineValue
engine_after_all e [] = e
engine_after_all e (outcome ∷ more) = engine_after_all (engine_after e outcome) more
