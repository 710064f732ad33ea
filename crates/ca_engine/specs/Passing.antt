-- Offers of a round that are all told to be not ready at one clock. Contracts cite it.
use Rattle.std.specs.Prelude.{ℕ, ◌-◌, ◌==◌, ◌||◌, not, Bool, false, length, drop, min, replicate, Option, Some}
use Rattle.std.specs.Option.{option_map_or}
use Rattle.ca_engine.specs.Engine.{EngineValue, engine_after_all}
use Rattle.ca_engine.specs.declared.outcome.Outcome.TheVariants as outcomes
use Rattle.ca_engine.specs.declared.pass.Pass.{Pass}
use Rattle.ca_engine.specs.declared.pass.Pass.TheVariants as passes

-- how many offers of so many can be gone past at once: none of a timer pass, and not the last of a round
abbrev pub most_passed : EngineValue → ℕ → ℕ
most_passed e count = by e.pass
  where
    by : Pass → ℕ
    by passes.Round = min count (length e.left - 1)
    by passes.Timers = 0

-- so many of them are told to be not ready at this clock
abbrev pub passed_over : EngineValue → ℕ → ℕ → EngineValue
passed_over e count now = engine_after_all e (replicate (most_passed e count) (outcomes.NotReady now))

-- the latest that was not ready was so at another clock
abbrev pub has_other_clock : Option ℕ → ℕ → Bool
has_other_clock clock now = option_map_or (λ before. not (before == now)) clock false

-- so many offers lie behind, and each of them was not ready at this clock
abbrev pub gone_past_all : EngineValue → ℕ → ℕ → EngineValue
gone_past_all e count now = record e {
  left = drop count e.left;
  happened = e.happened || has_other_clock e.clock now;
  clock = Some now;
}
