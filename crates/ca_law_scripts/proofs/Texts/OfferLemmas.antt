-- How many offers a script of a text can need. For proofs only.
use Rattle.std.proofs.Common.{◌≡◌, ℕ, suc, ◌+◌, ◌*◌, ◌^◌, ◌<◌, ◌≤◌, List, [], ◌∷◌, length, length-append, map, Ok, arith}
use Rattle.std.proofs.lemmas.List.{length-map}
use Rattle.std.proofs.lemmas.List.FromFn.{length-range_with_len}
use Rattle.std.proofs.lemmas.Nat.{mul-le}
use Rattle.std.specs.List.{AllByRecursion, flat_map}
use Rattle.ca_base.specs.Configuration.{Adapter, Configuration}
use Rattle.ca_base.specs.declared.limits.TheConstants.{MAX_CONSUMERS, MAX_DOMAINS, MAX_QPS}
use Rattle.ca_engine.specs.Offers.{offers_of_round, offers_of_timers, timers_of_queue, turns_of_queue}
use Rattle.ca_engine.specs.declared.offer.Offer.TheVariants as offers
use Rattle.ca_engine.specs.Loop.{most_offers}
use Rattle.ca_keys.specs.Numbers.{queue_of}
use Rattle.ca_keys.specs.declared.names.QueueId.{QueueId}
use Rattle.ca_model.specs.machine.Sound.{AreLimited, IsLimitedAdapter}
use Rattle.ca_script_order.specs.Order.{most_rounds}
use Rattle.ca_script_order.specs.Visits.{all_queues, numbers_below, queues_from, queues_of_adapter}
use Rattle.ca_law_scripts.proofs.Rest.TextLemmas.{text-limited}
use Rattle.ca_script.specs.Script.{ScriptValue, script_of}
use Rattle.ca_law_scripts.proofs.Texts.SizeLemmas.{IsSmallScript, text-small}

-- lists that are laid one behind the other, each of at most so many
flat-length : {X Y : Type 0} (f : X → List Y) (n : ℕ) (xs : List X) → ((x : X) → length (f x) ≤ n) → length (flat_map f xs) ≤ length xs * n
flat-length f n [] few = omega arith
flat-length f n (x ∷ xs) few = omega (arith, length-append (f x) (flat_map f xs), few x, flat-length f n xs few)

-- the queue pair of a slot
abbrev slot_in : ℕ → ℕ → ℕ → QueueId
slot_in a d s = queue_of (record { domain = record { adapter = a; domain = d }; slot = s })

adapter-few : (a : ℕ) (adapter : Adapter) → IsLimitedAdapter adapter → length (queues_of_adapter a adapter) ≤ MAX_DOMAINS * MAX_QPS
adapter-few a adapter limited =
    let all = flat-length (λ d. map (slot_in a d) (numbers_below adapter.qps)) adapter.qps (numbers_below adapter.domains)
    (λ d. omega (arith, length-map (numbers_below adapter.qps) (slot_in a d), length-range_with_len 0 adapter.qps)) in
    let most = mul-le (length (numbers_below adapter.domains)) adapter.qps MAX_DOMAINS MAX_QPS (omega (arith, limited.domains, length-range_with_len 0 adapter.domains)) limited.qps in
    omega (arith, all, most)

queues-few : (a : ℕ) (adapters : List Adapter) → AllByRecursion IsLimitedAdapter adapters → length (queues_from a adapters) ≤ length adapters * (MAX_DOMAINS * MAX_QPS)
queues-few a [] all = omega arith
queues-few a (adapter ∷ more) all =
    omega (arith, length-append (queues_of_adapter a adapter) (queues_from (suc a) more), adapter-few a adapter all.0, queues-few (suc a) more all.1)

-- 64 consumers, and five turns at each of 8192 slots
offers-few : (c : Configuration) (consumers : ℕ) → AreLimited c → consumers ≤ MAX_CONSUMERS → length (offers_of_round c consumers) + length (offers_of_timers c) ≤ 41024
offers-few c consumers limited few =
    let queues = queues-few 0 c.adapters limited.adapters in
    let turns = flat-length turns_of_queue 3 (all_queues c) (λ q. omega arith) in
    let timers = flat-length timers_of_queue 2 (all_queues c) (λ q. omega arith) in
    omega (
      arith,
      limited.count,
      queues,
      turns,
      timers,
      few,
      length-append (map offers.Consumer (numbers_below consumers)) (flat_map turns_of_queue (all_queues c)),
      length-map (numbers_below consumers) offers.Consumer,
      length-range_with_len 0 consumers,
    )

rounds-few : (s : ScriptValue) → AreLimited s.config → IsSmallScript s → most_rounds s ≤ 1179651
rounds-few s limited small = omega (arith, limited.events, small.1)

pub text-offers : (text : List ℕ) (s : ScriptValue) → script_of text ≡ Ok s → most_offers s < 2 ^ 64
text-offers text s reads =
    let limited = text-limited text s reads in
    let small = text-small text s reads in
    let most = mul-le (most_rounds s) (length (offers_of_round s.config (length s.consumers)) + length (offers_of_timers s.config)) 1179651 41024
    (rounds-few s limited small) (offers-few s.config (length s.consumers) limited small.0) in
    omega (arith, most)
