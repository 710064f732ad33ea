-- How many offers a script may need, by its lines, its events and its slots of queue pairs. For proofs only.
use Rattle.std.proofs.Common.{◌≡◌, ◌∙◌, ℕ, zero, suc, ◌+◌, ◌*◌, ◌^◌, ◌<◌, ◌≤◌, List, [], ◌∷◌, length, length-append, map, sum_by, ap, sym, refl, arith}
use Rattle.std.proofs.lemmas.List.{length-map}
use Rattle.std.proofs.lemmas.List.FromFn.{length-range_with_len}
use Rattle.std.proofs.lemmas.List.Sums.{sum_by-cons}
use Rattle.std.proofs.lemmas.Nat.{mul-le}
use Rattle.std.specs.List.{flat_map}
use Rattle.ca_base.specs.Configuration.{Adapter, Configuration}
use Rattle.ca_base.specs.declared.limits.TheConstants.{MAX_EVENTS}
use Rattle.ca_engine.specs.Offers.{offers_of_round, offers_of_timers, timers_of_queue, turns_of_queue}
use Rattle.ca_engine.specs.declared.offer.Offer.TheVariants as offers
use Rattle.ca_engine.specs.Loop.{most_offers}
use Rattle.ca_keys.specs.Numbers.{queue_of}
use Rattle.ca_keys.specs.declared.names.QueueId.{QueueId}
use Rattle.ca_script_order.specs.Order.{most_rounds}
use Rattle.ca_script_order.specs.Visits.{all_queues, numbers_below, queues_from, queues_of_adapter}
use Rattle.ca_script.specs.Script.{ScriptValue}
use Rattle.ca_script_lines.specs.declared.what.Line.{Line}

-- lists that are laid one behind the other, each of so many
flat-length : {X Y : Type 0} (f : X → List Y) (n : ℕ) (xs : List X) → ((x : X) → length (f x) ≡ n) → length (flat_map f xs) ≡ length xs * n
flat-length f n [] each = none n
  where
    none : (n : ℕ) → 0 ≡ 0 * n
    none n = omega arith
flat-length f n (x ∷ xs) each = omega (arith, length-append (f x) (flat_map f xs), each x, flat-length f n xs each)

-- the queue pair of a slot
abbrev slot_in : ℕ → ℕ → ℕ → QueueId
slot_in a d s = queue_of (record { domain = record { adapter = a; domain = d }; slot = s })

slots-of-adapter : (a : ℕ) (adapter : Adapter) → length (queues_of_adapter a adapter) ≡ adapter.domains * adapter.qps
slots-of-adapter a adapter =
    flat-length (λ d. map (slot_in a d) (numbers_below adapter.qps)) adapter.qps (numbers_below adapter.domains)
    (λ d. length-map (numbers_below adapter.qps) (slot_in a d) ∙ length-range_with_len 0 adapter.qps)
    ∙ ap (λ n. n * adapter.qps) (length-range_with_len 0 adapter.domains)

slots-from : (a : ℕ) (adapters : List Adapter) → length (queues_from a adapters) ≡ sum_by (λ x. x.domains * x.qps) adapters
slots-from a [] = refl
slots-from a (adapter ∷ more) = length-append (queues_of_adapter a adapter) (queues_from (suc a) more)
    ∙ ap (λ n. n + length (queues_from (suc a) more)) (slots-of-adapter a adapter)
    ∙ ap (λ n. adapter.domains * adapter.qps + n) (slots-from (suc a) more)
    ∙ sym (sum_by-cons (λ (x : Adapter). x.domains * x.qps) adapter more)

-- what a round and a timer pass offer: each consumer, and five turns at each slot
pub offers-count : (c : Configuration) (consumers : ℕ)
    → length (offers_of_round c consumers) + length (offers_of_timers c) ≡ consumers + 5 * sum_by (λ a. a.domains * a.qps) c.adapters
offers-count c consumers = omega (
  arith,
  slots-from 0 c.adapters,
  flat-length turns_of_queue 3 (all_queues c) (λ q. refl),
  flat-length timers_of_queue 2 (all_queues c) (λ q. refl),
  length-append (map offers.Consumer (numbers_below consumers)) (flat_map turns_of_queue (all_queues c)),
  length-map (numbers_below consumers) offers.Consumer,
  length-range_with_len 0 consumers,
)

-- what a script may need
pub most-offers : (s : ScriptValue) → most_offers s
    ≡ suc (s.config.events + sum_by (λ lines. length lines) s.consumers) * (length s.consumers + 5 * sum_by (λ a. a.domains * a.qps) s.config.adapters)
most-offers s = ap (λ n. most_rounds s * n) (offers-count s.config (length s.consumers))

-- the same, reckoned from numbers
pub reckoned : (s : ScriptValue) (lines events consumers slots : ℕ) → lines ≡ sum_by (λ l. length l) s.consumers → events ≡ s.config.events
    → consumers ≡ length s.consumers → slots ≡ sum_by (λ a. a.domains * a.qps) s.config.adapters
    → (lines + events + 1) * (consumers + 5 * slots) ≡ most_offers s
reckoned s lines events consumers slots l e c n =
    let rounds : lines + events + 1 ≡ most_rounds s = omega (arith, l, e) in
    let offers : consumers + 5 * slots ≡ length s.consumers + 5 * sum_by (λ a. a.domains * a.qps) s.config.adapters = omega (arith, c, n) in
    ap (λ m. m * (consumers + 5 * slots)) rounds ∙ ap (λ m. most_rounds s * m) offers ∙ sym (most-offers s)

-- where the offers can be counted, the rounds can: without a consumer there are as few as events, and else an offer in each
pub few-rounds : (s : ScriptValue) → s.config.events ≤ MAX_EVENTS → most_offers s < 2 ^ 64 → most_rounds s < 2 ^ 64
few-rounds s limited few = by s.consumers refl
  where
    by : (cs : List (List Line)) → cs ≡ s.consumers → most_rounds s < 2 ^ 64
    by [] is = omega (arith, limited, ap (λ cs. sum_by (λ l. length l) cs) is)
    by (c ∷ cs) is =
        let some : 1 ≤ length s.consumers + 5 * sum_by (λ a. a.domains * a.qps) s.config.adapters = omega (arith, ap (λ xs. length xs) is) in
        let most = mul-le (most_rounds s) 1 (most_rounds s) (length s.consumers + 5 * sum_by (λ a. a.domains * a.qps) s.config.adapters) (omega arith) some in
        omega (arith, most, most-offers s, few)
