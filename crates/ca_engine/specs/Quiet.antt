-- What an engine was told before it offers Quiet. Contracts cite it.
use Rattle.std.specs.Prelude.{◌≡◌, ◌⊎◌, ℕ, true, List, [], ◌∷◌, ◌++◌, map, All}
use Rattle.ca_base.specs.Configuration.{Configuration}
use Rattle.ca_engine.specs.Offers.{offers_of_round, offers_of_timers}
use Rattle.ca_engine.specs.Engine.{EngineValue, engine_after, is_consumer, offer_of, opening_engine}
use Rattle.ca_engine.specs.declared.offer.Offer.{Offer}
use Rattle.ca_engine.specs.declared.outcome.Outcome.{Outcome}
use Rattle.ca_engine.specs.declared.outcome.Outcome.TheVariants as outcomes

-- an offer, and what was told of it
pub record Telling : Type 0 where
  pub offer : Offer
  pub outcome : Outcome

-- each outcome that is told from an engine on, with the offer that it is told of
abbrev pub tellings : EngineValue → List Outcome → List Telling
tellings e [] = []
tellings e (outcome ∷ more) = record { offer = offer_of e; outcome = outcome } ∷ tellings (engine_after e outcome) more

-- not ready at this clock, or a consumer at its end
abbrev pub IsNotReadyAt : ℕ → Telling → Type 0
IsNotReadyAt clock t =
    (t.outcome ≡ outcomes.NotReady clock) ⊎ ((t.outcome ≡ outcomes.Ended) × (is_consumer t.offer ≡ true))

-- The last tellings are those of the offers of a round and of the timer pass, and each of them is not ready at one
-- clock, or a consumer at its end.
pub record AllNotReady (c : Configuration) (consumers : ℕ) (told : List Outcome) : Type 0 where
  pub before : List Telling
  pub last : List Telling
  pub clock : ℕ
  pub are : tellings (opening_engine c consumers) told ≡ before ++ last
  pub offered : map (λ t. t.offer) last ≡ offers_of_round c consumers ++ offers_of_timers c
  pub not_ready : All (IsNotReadyAt clock) last
