-- The shared receives of a queue pair on a shelf. For proofs only.
use Rattle.std.proofs.Common.{◌≡◌, ◌∙◌, refl, sym, subst, ap, ℕ, if◌then◌else◌, Option, None, Some, Result, is_some}
use Rattle.std.specs.Option.{option_and_then, option_map_or}
use Rattle.ca_adapter_arrivals.specs.Arrived.{shared_on, with_shared}
use Rattle.ca_base.specs.objects.QueuePair.{QueuePair, srq_of}
use Rattle.ca_base.specs.objects.SharedReceives.{SharedReceives, SrqSlot}
use Rattle.ca_adapter_reach.specs.Changed.{after_end_of, after_write_by}
use Rattle.ca_adapter_reach.specs.declared.reached.Reached.{Reached}
use Rattle.ca_adapter_reach.specs.Laws.{same_thing, thing-with}
use Rattle.ca_keys.specs.declared.memory.Memory.{Memory}
use Rattle.ca_keys.specs.declared.names.Slot.{Slot}
use Rattle.ca_keys.specs.Equal.{slot_eq}
use Rattle.ca_model.proofs.ThingLemmas.{slot-path, slot-refl}
use Rattle.ca_model.specs.Marks.{MarkList}
use Rattle.ca_responder.specs.ca_responder_operations.Taking.{IsArrival, Outcome}
use Rattle.ca_adapter_reach.specs.Shelved.{Shelved, thing_under, with_thing}

-- a shelf with another slot under a name
abbrev pub with_slot : Shelved Slot SrqSlot → Slot → SrqSlot → Shelved Slot SrqSlot
with_slot s name x = record s { things = with_thing slot_eq name x s.things }

-- what stands in the slot, and what the shelf is with other receives, by the number of the shared receive queue
abbrev on_by : Shelved Slot SrqSlot → QueuePair → Option ℕ → Option SharedReceives
on_by s q o = option_and_then (λ x. x.srq) (option_and_then (λ srq. thing_under slot_eq (srq_of q srq) s.things) o)

abbrev with_by : QueuePair → Option SharedReceives → Shelved Slot SrqSlot → Option ℕ → Shelved Slot SrqSlot
with_by q receives s None = s
with_by q receives s (Some srq) =
    option_map_or (λ x. with_slot s (srq_of q srq) (record x { srq = receives })) (thing_under slot_eq (srq_of q srq) s.things) s

-- the same receives change nothing
pub shelf_same : (s : Shelved Slot SrqSlot) (q : QueuePair) → s ≡ with_shared q (shared_on s q) s
shelf_same s q = by q.srq
  where
    slot : (name : Slot) (o : Option SrqSlot) → thing_under slot_eq name s.things ≡ o
        → s ≡ option_map_or (λ x. with_slot s name (record x { srq = option_and_then (λ x. x.srq) o })) o s
    slot name None is = refl
    slot name (Some x) is = ap (λ xs. record s { things = xs }) (sym (same_thing slot_eq slot-path s.things name x (sym is)))

    by : (o : Option ℕ) → s ≡ with_by q (on_by s q o) s o
    by None = refl
    by (Some srq) = slot (srq_of q srq) (thing_under slot_eq (srq_of q srq) s.things) refl

-- other receives in the slot
module _ (s : Shelved Slot SrqSlot) (q : QueuePair) (srq : ℕ) (name : Slot) (x : SrqSlot) (y : Option SharedReceives) (has : q.srq ≡ Some srq) (at : name ≡ srq_of q srq)
    (there : Some x ≡ thing_under slot_eq name s.things) where
  abbrev put : Shelved Slot SrqSlot
  put = with_slot s name (record x { srq = y })

  on_before : shared_on s q ≡ x.srq
  on_before = ap (on_by s q) has ∙ ap (λ n. option_and_then (λ (x : SrqSlot). x.srq) (thing_under slot_eq n s.things)) (sym at) ∙ ap (option_and_then (λ (x : SrqSlot). x.srq)) (sym there)

  found : thing_under slot_eq name put.things ≡ Some (record x { srq = y })
  found = thing-with slot_eq slot-path s.things name name (record x { srq = y }) (sym (ap is_some there))
      ∙ ap (λ b. if b then Some (record x { srq = y }) else thing_under slot_eq name s.things) (slot-refl name)

  on_after : shared_on put q ≡ y
  on_after = ap (on_by put q) has ∙ ap (λ n. option_and_then (λ (x : SrqSlot). x.srq) (thing_under slot_eq n put.things)) (sym at) ∙ ap (option_and_then (λ (x : SrqSlot). x.srq)) found

  pub shelf_put : put ≡ with_shared q (shared_on put q) s
  shelf_put = ap (λ o. option_map_or (λ x. with_slot s name (record x { srq = y })) o s) there
      ∙ ap (λ n. with_at n y) at ∙ ap (λ r. with_by q r s (Some srq)) (sym on_after) ∙ ap (with_by q (shared_on put q) s) (sym has)
    where
      with_at : Slot → Option SharedReceives → Shelved Slot SrqSlot
      with_at n r = option_map_or (λ x. with_slot s n (record x { srq = r })) (thing_under slot_eq n s.things) s

  -- what was made of the receives there was made of the shelf
  pub shelf_arrived : (result : Result (Unit {0}) Memory) (out : Option SharedReceives → Outcome) (after : QueuePair) (ms made : MarkList) (r now : Reached) (a b : Option SharedReceives) → x.srq ≡ a → y ≡ b
      → IsArrival after_write_by after_end_of result (out a) q after ms made r now a b
      → IsArrival after_write_by after_end_of result (out (shared_on s q)) q after ms made r now (shared_on s q) (shared_on put q)
  shelf_arrived result out after ms made r now a b is left arrival =
      subst (λ o. IsArrival after_write_by after_end_of result (out o) q after ms made r now o (shared_on put q)) (sym (on_before ∙ is))
      (subst (λ o. IsArrival after_write_by after_end_of result (out a) q after ms made r now a o) (sym (on_after ∙ left)) arrival)
