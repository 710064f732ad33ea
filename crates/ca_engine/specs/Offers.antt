-- What an engine offers in a round, and in a timer pass, in which order. Contracts cite it.
use Rattle.std.specs.Prelude.{ℕ, List, [], ◌∷◌, ◌++◌, map}
use Rattle.std.specs.List.{flat_map}
use Rattle.ca_base.specs.Configuration.{Configuration}
use Rattle.ca_keys.specs.declared.names.QueueId.{QueueId}
use Rattle.ca_script_order.specs.Visits.{all_queues, numbers_below}
use Rattle.ca_base.specs.declared.step.Turn.TheVariants as turns
use Rattle.ca_engine.specs.declared.offer.Offer.{Offer}
use Rattle.ca_engine.specs.declared.offer.Offer.TheVariants as offers

-- what a round tries at a queue pair's slot: what is due is delivered, a response is sent, and a request
abbrev pub turns_of_queue : QueueId → List Offer
turns_of_queue q = offers.Turn (turns.Due q) ∷ offers.Turn (turns.Respond q) ∷ offers.Turn (turns.Request q) ∷ []

-- what a timer pass tries there: the wake after an RNR NAK, and the timer
abbrev pub timers_of_queue : QueueId → List Offer
timers_of_queue q = offers.Turn (turns.RnrWake q) ∷ offers.Turn (turns.Timeout q) ∷ []

-- a round: each consumer by its number, and then each slot
abbrev pub offers_of_round : Configuration → ℕ → List Offer
offers_of_round c consumers = map offers.Consumer (numbers_below consumers) ++ flat_map turns_of_queue (all_queues c)

-- a timer pass: each slot
abbrev pub offers_of_timers : Configuration → List Offer
offers_of_timers c = flat_map timers_of_queue (all_queues c)
