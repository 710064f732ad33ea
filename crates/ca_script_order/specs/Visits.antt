-- Who is visited in a round, and in a timer pass, in which order. Contracts cite it.
use Rattle.std.specs.Prelude.{ℕ, suc, List, [], ◌∷◌, ◌++◌, length, map}
use Rattle.std.specs.List.{flat_map, range_with_len}
use Rattle.ca_base.specs.Configuration.{Adapter, Configuration}
use Rattle.ca_keys.specs.declared.names.QueueId.{QueueId}
use Rattle.ca_keys.specs.Numbers.{queue_of}
use Rattle.ca_script.specs.Script.{ScriptValue}
use Rattle.ca_base.specs.declared.step.Turn.{Turn}
use Rattle.ca_base.specs.declared.step.Turn.TheVariants as turns

-- a visit: of a consumer, or of an engine for a turn
pub data Visit : Type 0 where
  Consumer : ℕ → Visit
  Engine : Turn → Visit

-- the numbers below one, rising
abbrev pub numbers_below : ℕ → List ℕ
numbers_below n = range_with_len 0 n

-- the queue pairs' slots of an adapter, in rising number
abbrev pub queues_of_adapter : ℕ → Adapter → List QueueId
queues_of_adapter a adapter =
    flat_map
    (λ d. map (λ s. queue_of (record { domain = record { adapter = a; domain = d }; slot = s })) (numbers_below adapter.qps))
    (numbers_below adapter.domains)

-- those of adapters of which the first has this number
abbrev pub queues_from : ℕ → List Adapter → List QueueId
queues_from a [] = []
queues_from a (adapter ∷ more) = queues_of_adapter a adapter ++ queues_from (suc a) more

-- all queue pairs' slots, in rising adapter and number
abbrev pub all_queues : Configuration → List QueueId
all_queues c = queues_from 0 c.adapters

-- A round: each consumer by its number; then at each slot what is due is delivered, a response is sent, and a request.
abbrev pub round_of : ScriptValue → List Visit
round_of s =
    map Consumer (numbers_below (length s.consumers))
    ++ flat_map (λ q. Engine (turns.Due q) ∷ Engine (turns.Respond q) ∷ Engine (turns.Request q) ∷ []) (all_queues s.config)

-- A timer pass: at each slot the wake after an RNR NAK, and the timer.
abbrev pub timer_pass_of : ScriptValue → List Visit
timer_pass_of s = flat_map (λ q. Engine (turns.RnrWake q) ∷ Engine (turns.Timeout q) ∷ []) (all_queues s.config)
