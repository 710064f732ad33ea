-- In a quiet world no turn of a configured queue pair is possible. For proofs only.
use Rattle.std.proofs.Common.{◌≡◌, ◌⊎◌, inl, inr, ℕ, zero, suc, ◌+◌, ◌-◌, ◌*◌, ◌/◌, ◌%◌, ◌<◌, ◌≤◌, ◌||◌, Bool, true, false, not, nat_le, nat_lt, List, [], ◌∷◌, ◌++◌, map, Option, None, Some, slice_get, refl, ap, sym, ◌∙◌, subst, arith, true≢false}
use Rattle.std.proofs.lemmas.Bool.{and_parts, leb-true, ltb-true}
use Rattle.std.proofs.lemmas.List.Concat.{flat_map-cons}
use Rattle.std.proofs.lemmas.Option.{none-some, same_Some}
use Rattle.std.specs.List.{flat_map, list_any, range_with_len}
use Rattle.std.specs.Option.{option_map, option_map_or}
use Rattle.ca_base.specs.Configuration.{Adapter, Configuration}
use Rattle.ca_base.specs.objects.QueuePair.{QueuePair, Present, vacant_queue}
use Rattle.ca_base.specs.objects.Slices.{adapter_at, has_domain, has_queue, has_slot, slot_of_queue}
use Rattle.ca_keys.specs.Numbers.{queue_of}
use Rattle.ca_keys.specs.declared.names.QueueId.{QueueId}
use Rattle.ca_keys.specs.declared.names.Slot.{Slot}
use Rattle.ca_law_parts.specs.Placed.{IsPlacedWorld}
use Rattle.ca_model.specs.declared.event.Event.{Event}
use Rattle.ca_model.specs.declared.event.Event.TheVariants as events
use Rattle.ca_model.specs.machine.Sound.{IsSoundWorld}
use Rattle.ca_model.specs.machine.Step.{step}
use Rattle.ca_model.specs.machine.World.{Queue_of, World}
use Rattle.ca_script_order.specs.OfScript.{is_possible, is_quiet, may_fire, may_turn, may_work}
use Rattle.ca_script_order.specs.Visits.{all_queues, numbers_below, queues_from, queues_of_adapter}
use Rattle.ca_law_scripts.proofs.Rest.RestLemmas.{IsStill, rests}
use Rattle.ca_law_world.specs.Steady.{IsSteadyWorld}
use Rattle.ca_law_scripts.specs.Rest.{AcceptsPeers, IsAtRest}
use Rattle.ca_script.specs.Script.{ScriptValue}
use Rattle.ca_model_places.specs.Turns.{hasten_at, lot_at}
use Rattle.ca_base.specs.declared.step.Turn.TheVariants as turns

-- ---- a configured queue pair is among all

abbrev IsIn : List QueueId → QueueId → Type 0
IsIn [] q = ⊥
IsIn (x ∷ xs) q = (x ≡ q) ⊎ IsIn xs q

in-left : (xs ys : List QueueId) (q : QueueId) → IsIn xs q → IsIn (xs ++ ys) q
in-left [] ys q is = absurd is
in-left (x ∷ xs) ys q (inl e) = inl e
in-left (x ∷ xs) ys q (inr is) = inr (in-left xs ys q is)

in-right : (xs ys : List QueueId) (q : QueueId) → IsIn ys q → IsIn (xs ++ ys) q
in-right [] ys q is = is
in-right (x ∷ xs) ys q is = inr (in-right xs ys q is)

in-range : (f : ℕ → QueueId) (from n k j : ℕ) → k < n → from + k ≡ j → IsIn (map f (range_with_len from n)) (f j)
in-range f from zero k j within at = absurd (omega (arith, within))
in-range f from (suc n) zero j within at = inl (ap f (omega (arith, at)))
in-range f from (suc n) (suc k) j within at = inr (in-range f (from + 1) n k j (omega (arith, within)) (omega (arith, at)))

in-flat : (f : ℕ → List QueueId) (q : QueueId) (from n k j : ℕ) → k < n → from + k ≡ j → IsIn (f j) q → IsIn (flat_map f (range_with_len from n)) q
in-flat f q from zero k j within at is = absurd (omega (arith, within))
in-flat f q from (suc n) zero j within at is = subst (λ xs. IsIn xs q) (sym (flat_map-cons f from (range_with_len (from + 1) n)))
    (in-left (f from) (flat_map f (range_with_len (from + 1) n)) q (subst (λ i. IsIn (f i) q) (omega (arith, at)) is))
in-flat f q from (suc n) (suc k) j within at is = subst (λ xs. IsIn xs q) (sym (flat_map-cons f from (range_with_len (from + 1) n)))
    (in-right (f from) (flat_map f (range_with_len (from + 1) n)) q (in-flat f q (from + 1) n k j (omega (arith, within)) (omega (arith, at)) is))

in-from : (i : ℕ) (more : List Adapter) (j k : ℕ) (a : Adapter) (q : QueueId) → slice_get more j ≡ Some a → i + j ≡ k → IsIn (queues_of_adapter k a) q → IsIn (queues_from i more) q
in-from i [] j k a q here at is = absurd (none-some a here)
in-from i (y ∷ ys) zero k a q here at is = in-left (queues_of_adapter i y) (queues_from (suc i) ys) q
    (subst (λ n. IsIn (queues_of_adapter n y) q) (omega (arith, at)) (subst (λ z. IsIn (queues_of_adapter k z) q) (sym (same_Some y a here)) is))
in-from i (y ∷ ys) (suc j) k a q here at is = in-right (queues_of_adapter i y) (queues_from (suc i) ys) q (in-from (suc i) ys j k a q here (omega (arith, at)) is)

in-slot : (c : Configuration) (s : Slot) (a : Adapter) → adapter_at c s.domain.adapter ≡ Some a → s.domain.domain < a.domains → s.slot < a.qps → IsIn (all_queues c) (queue_of s)
in-slot c s a here domain slot = in-from 0 c.adapters s.domain.adapter s.domain.adapter a (queue_of s) here (omega arith)
    (in-flat queues (queue_of s) 0 a.domains s.domain.domain s.domain.domain domain (omega arith) (in-range (queue s.domain.domain) 0 a.qps s.slot s.slot slot (omega arith)))
  where
    queue : ℕ → ℕ → QueueId
    queue d k = queue_of (record { domain = record { adapter = s.domain.adapter; domain = d }; slot = k })

    queues : ℕ → List QueueId
    queues d = map (queue d) (numbers_below a.qps)

queue-back : (q : QueueId) → 256 ≤ q.number → queue_of (slot_of_queue q) ≡ q
queue-back q some = λ i. record { adapter = q.adapter; number = number i }
  where
    number : (q.number / 256 - 1 + 1) * 256 + q.number % 256 ≡ q.number
    number = omega (arith, some)

in-all : (c : Configuration) (q : QueueId) → has_queue c q ≡ true → IsIn (all_queues c) q
in-all c q has = by (and_parts (nat_le 256 q.number) (has_slot c (λ a. a.qps) (slot_of_queue q)) has)
  where
    s : Slot
    s = slot_of_queue q

    of_adapter : (o : Option Adapter) → adapter_at c s.domain.adapter ≡ o → option_map_or (λ a. nat_lt s.domain.domain a.domains) o false ≡ true → option_map_or (λ a. nat_lt s.slot a.qps) o false ≡ true
        → IsIn (all_queues c) (queue_of s)
    of_adapter None here domain slot = absurd (true≢false (sym domain))
    of_adapter (Some a) here domain slot = in-slot c s a here (ltb-true s.domain.domain a.domains domain) (ltb-true s.slot a.qps slot)

    of_slot : (has_domain c s.domain ≡ true) × (option_map_or (λ a. nat_lt s.slot a.qps) (adapter_at c s.domain.adapter) false ≡ true) → IsIn (all_queues c) (queue_of s)
    of_slot parts = of_adapter (adapter_at c s.domain.adapter) refl parts.0 parts.1

    by : (nat_le 256 q.number ≡ true) × (has_slot c (λ a. a.qps) s ≡ true) → IsIn (all_queues c) q
    by parts = subst (IsIn (all_queues c)) (queue-back q (leb-true 256 q.number parts.0)) (of_slot (and_parts (has_domain c s.domain) _ parts.1))

or-first : (a b : Bool) → (a || b) ≡ false → a ≡ false
or-first false b is = refl
or-first true b is = is

or-second : (a b : Bool) → (a || b) ≡ false → b ≡ false
or-second false b is = is
or-second true b is = absurd (true≢false is)

none-any : (f : QueueId → Bool) (xs : List QueueId) (q : QueueId) → list_any f xs ≡ false → IsIn xs q → f q ≡ false
none-any f [] q none is = absurd is
none-any f (x ∷ xs) q none (inl e) = ap f (sym e) ∙ or-first (f x) (list_any f xs) none
none-any f (x ∷ xs) q none (inr is) = none-any f xs q (or-second (f x) (list_any f xs) none) is

-- ---- no turn is possible

not-true : (b : Bool) → not b ≡ true → b ≡ false
not-true false is = refl
not-true true is = absurd (true≢false (sym is))

module _ (s : ScriptValue) (w : World) (sound : IsSoundWorld s.config w) (placed : IsPlacedWorld s.config w) (steady : IsSteadyWorld w) (accepted : AcceptsPeers w) (quiet : is_quiet s w ≡ true) where
  none : (may_work s w || may_fire s w) ≡ false
  none = not-true (may_work s w || may_fire s w) quiet

  still : (q : QueueId) → has_queue s.config q ≡ true → IsStill s.config w (lot_at s.weather w q) (hasten_at s.weather w q) q
  still q has = record {
    arrives = λ index is happens. true≢false (sym happens ∙ sym (ap (λ o. option_map_or possible (option_map (events.Deliver q) o) false) is) ∙ due_not);
    responds = λ happens. true≢false (sym happens ∙ or-first _ _ rest);
    requests = λ happens. true≢false (sym happens ∙ or-second (may_turn s w (turns.Respond q)) _ rest);
    fires = λ happens. true≢false (sym happens ∙ or-second (may_turn s w (turns.RnrWake q)) _ timers);
    wakes = λ happens. true≢false (sym happens ∙ or-first _ _ timers);
  }
    where
      possible : Event → Bool
      possible event = is_possible (step s.config w event)

      work : (may_turn s w (turns.Due q) || (may_turn s w (turns.Respond q) || may_turn s w (turns.Request q))) ≡ false
      work = none-any (λ k. may_turn s w (turns.Due k) || (may_turn s w (turns.Respond k) || may_turn s w (turns.Request k))) (all_queues s.config) q
          (or-first (may_work s w) (may_fire s w) none) (in-all s.config q has)

      timers : (may_turn s w (turns.RnrWake q) || may_turn s w (turns.Timeout q)) ≡ false
      timers = none-any (λ k. may_turn s w (turns.RnrWake k) || may_turn s w (turns.Timeout k)) (all_queues s.config) q
          (or-second (may_work s w) (may_fire s w) none) (in-all s.config q has)

      due_not : may_turn s w (turns.Due q) ≡ false
      due_not = or-first _ (may_turn s w (turns.Respond q) || may_turn s w (turns.Request q)) work

      rest : (may_turn s w (turns.Respond q) || may_turn s w (turns.Request q)) ≡ false
      rest = or-second (may_turn s w (turns.Due q)) _ work

  configured : (name : QueueId) (q : QueuePair) → w.queue name ≡ Present q → has_queue s.config name ≡ true
  configured name q there = by (has_queue s.config name) refl
    where
      clash : Present q ≡ vacant_queue → ⊥
      clash e = cc

      by : (b : Bool) → has_queue s.config name ≡ b → b ≡ true
      by true is = refl
      by false is = absurd (clash (sym there ∙ placed.vacant (Queue_of name) is))

  pub quiet-rests : (name : QueueId) (q : QueuePair) → w.queue name ≡ Present q → IsAtRest w q
  quiet-rests = rests s.config w (lot_at s.weather w) (hasten_at s.weather w) (record { sound = sound; steady = steady; accepted = accepted; placed = configured; still = still })
