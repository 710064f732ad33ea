-- What an engine offers are the visits of the order. For proofs only.
use Rattle.std.proofs.Common.{◌≡◌, ℕ, List, [], ◌∷◌, ◌++◌, map, length, refl, sym, ap, ◌∙◌}
use Rattle.std.specs.List.{flat_map}
use Rattle.std.proofs.lemmas.List.{map-append}
use Rattle.ca_keys.specs.declared.names.QueueId.{QueueId}
use Rattle.ca_base.specs.declared.step.Turn.TheVariants as turns
use Rattle.ca_script_order.specs.Visits.{Visit, Consumer, Engine, all_queues, numbers_below, round_of, timer_pass_of}
use Rattle.ca_script_order.specs.ca_script.Script.{ScriptValue}
use Rattle.ca_engine.specs.Offers.{offers_of_round, offers_of_timers, timers_of_queue, turns_of_queue}
use Rattle.ca_engine.specs.declared.offer.Offer.{Offer}
use Rattle.ca_engine.specs.declared.offer.Offer.TheVariants as offers

-- the offer of a visit
abbrev pub offer_for : Visit → Offer
offer_for (Consumer k) = offers.Consumer k
offer_for (Engine turn) = offers.Turn turn

consumers-offered : (ks : List ℕ) → map offers.Consumer ks ≡ map offer_for (map Consumer ks)
consumers-offered [] = refl
consumers-offered (k ∷ ks) = ap (λ xs. offers.Consumer k ∷ xs) (consumers-offered ks)

turns-offered : (qs : List QueueId) → flat_map turns_of_queue qs
    ≡ map offer_for (flat_map (λ q. Engine (turns.Due q) ∷ Engine (turns.Respond q) ∷ Engine (turns.Request q) ∷ []) qs)
turns-offered [] = refl
turns-offered (q ∷ qs) = ap (λ xs. offers.Turn (turns.Due q) ∷ offers.Turn (turns.Respond q) ∷ offers.Turn (turns.Request q) ∷ xs) (turns-offered qs)

timers-offered : (qs : List QueueId) → flat_map timers_of_queue qs
    ≡ map offer_for (flat_map (λ q. Engine (turns.RnrWake q) ∷ Engine (turns.Timeout q) ∷ []) qs)
timers-offered [] = refl
timers-offered (q ∷ qs) = ap (λ xs. offers.Turn (turns.RnrWake q) ∷ offers.Turn (turns.Timeout q) ∷ xs) (timers-offered qs)

pub round-offered : (s : ScriptValue) → offers_of_round s.config (length s.consumers) ≡ map offer_for (round_of s)
round-offered s =
    ap (λ xs. xs ++ flat_map turns_of_queue (all_queues s.config)) (consumers-offered (numbers_below (length s.consumers)))
    ∙ ap (λ xs. map offer_for (map Consumer (numbers_below (length s.consumers))) ++ xs) (turns-offered (all_queues s.config))
    ∙ sym (map-append offer_for (map Consumer (numbers_below (length s.consumers))) _)

pub timer-pass-offered : (s : ScriptValue) → offers_of_timers s.config ≡ map offer_for (timer_pass_of s)
timer-pass-offered s = timers-offered (all_queues s.config)

-- where a round visits nobody, a timer pass does not either
pub no-timers : (s : ScriptValue) → round_of s ≡ [] → timer_pass_of s ≡ []
no-timers s none = by (map Consumer (numbers_below (length s.consumers))) (all_queues s.config) none
  where
    by : (xs : List Visit) (qs : List QueueId) → xs ++ flat_map (λ q. Engine (turns.Due q) ∷ Engine (turns.Respond q) ∷ Engine (turns.Request q) ∷ []) qs ≡ []
        → flat_map (λ q. Engine (turns.RnrWake q) ∷ Engine (turns.Timeout q) ∷ []) qs ≡ []
    by xs [] none = refl
    by [] (q ∷ qs) none = absurd cc
    by (x ∷ xs) (q ∷ qs) none = absurd cc
