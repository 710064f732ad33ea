-- Bytes may meet the queue pair that is held: what its row asks for and ends is at hand. For proofs only.
use Rattle.std.proofs.Common.{◌≡◌, ◌∙◌, refl, sym, subst, ap, ℕ, Bool, true, false, if◌then◌else◌, List, Option, None, Some, IfSome}
use Rattle.std.specs.Option.{option_and_then, option_map}
use Rattle.ca_adapter_arrivals.specs.Arrived.{CanArrive}
use Rattle.ca_adapter_arrivals.proofs.RowLemmas.{IsOwn, arrival-fills}
use Rattle.ca_adapter_turns.specs.Shown.{AreShown}
use Rattle.ca_base.specs.Configuration.{Configuration}
use Rattle.ca_base.specs.declared.refusals.OpRefusal.{OpRefusal}
use Rattle.ca_base.specs.Sight.{Invalidation}
use Rattle.ca_base.specs.objects.LocalRequest.{region_refusal, unnamed_refusal, window_refusal}
use Rattle.ca_base.specs.objects.QueuePair.{Present, QueuePair, srq_of}
use Rattle.ca_base.specs.objects.SharedReceives.{SrqSlot}
use Rattle.ca_base.specs.objects.Slices.{names_region, names_window, slot_of_key}
use Rattle.ca_grant.specs.Reaching.{AreAtHand}
use Rattle.ca_adapter_parts.specs.declared.held.Held.{Held}
use Rattle.ca_adapter_parts.specs.HeldView.{holding}
use Rattle.ca_adapter_reach.specs.AtHand.{CanEnd, CanJudge, HasBytesAtHand}
use Rattle.ca_adapter_reach.specs.Seen.{sight_of}
use Rattle.ca_keys.specs.declared.names.QueueId.{QueueId}
use Rattle.ca_keys.specs.declared.names.Slot.{Slot}
use Rattle.ca_keys.specs.Numbers.{domain_of}
use Rattle.ca_model.specs.declared.part_name.PartName.TheVariants as names
use Rattle.ca_law_parts.proofs.Parts.HeldLemmas.{row-end-held}
use Rattle.ca_adapter_parts.proofs.of_ca_law_world.Windows.EndedLemmas.{ended-counted}
use Rattle.ca_model.specs.machine.CanStep.{CanStep}
use Rattle.ca_model.specs.machine.Delivery.{arrival_row}
use Rattle.ca_model.specs.machine.Held.{IsEndHeld}
use Rattle.ca_model.specs.machine.Invariants.{IsSharedReceives}
use Rattle.ca_model.specs.machine.Parts.{next_part, row_needs}
use Rattle.ca_model.specs.machine.Row.{Row}
use Rattle.ca_model.specs.machine.Seen.{refusal_in, shared_receives}
use Rattle.ca_model.specs.machine.Sound.{IsQueueOf}
use Rattle.ca_model.specs.machine.World.{Queue_of, Region_of, Srq_of, Window_of, World}
use Rattle.ca_responder.specs.ca_responder_operations.Taking.{MayEnd}
use Rattle.ca_adapter_turns.specs.ca_adapter_reach_laws.Ties.{IsVacantOutside}
use Rattle.ca_adapter_turns.proofs.of_ca_adapter_reach_laws.FitLemmas.{ends-at-hand}
use Rattle.ca_adapter_turns.proofs.of_ca_adapter_reach_laws.SightLemmas.{sights-agree, vacant-outside}

module _ (c : Configuration) (h : Held) (shown : AreShown c h) (name : QueueId) (q : QueuePair) (has : (holding h).has (Queue_of name) ≡ true) (there : (holding h).world.queue name ≡ Present q) where
  abbrev w : World
  w = shown.world

  in-world : w.queue name ≡ Present q
  unfolding holding
  in-world = sym (shown.shows (Queue_of name) has) ∙ there

  sound : IsQueueOf name (Present q)
  sound = subst (IsQueueOf name) in-world (shown.sound.things (Queue_of name))

  pub is-named : q.queue ≡ name
  is-named = sound.0

  -- the shared receive queue that is held can come up
  shared-sound : IfSome q.srq (λ srq. (holding h).has (Srq_of (srq_of q srq)) ≡ true) → IfSome (shared_receives (holding h).world q) IsSharedReceives
  unfolding holding
  shared-sound held = by q.srq held
    where
      by : (o : Option ℕ) → IfSome o (λ srq. (holding h).has (Srq_of (srq_of q srq)) ≡ true)
          → IfSome (option_and_then (λ (x : SrqSlot). x.srq) (option_map (λ srq. (holding h).world.srq (srq_of q srq)) o)) IsSharedReceives
      by None held = record {}
      by (Some srq) held = subst (λ x. IfSome x.srq IsSharedReceives) (sym (shown.shows (Srq_of (srq_of q srq)) held)) (shown.sound.things (Srq_of (srq_of q srq)))

  -- why the end of a key is refused, by its parts that are held
  refusal-same : (i : Invalidation) → IsEndHeld c (holding h).parts (holding h).world i → refusal_in c w i ≡ refusal_in c (holding h).world i
  refusal-same i end = by (names_region c i.domain i.key) (names_window c i.domain i.key) end.region end.window
    where
      slot : Slot
      slot = slot_of_key i.domain i.key

      refusal : World → Bool → Bool → Option OpRefusal
      refusal v b z =
          if b then region_refusal i.key (v.region slot)
          else if z then window_refusal i.key i.queue (v.window slot)
          else Some (unnamed_refusal i.key)

      by : (b z : Bool) → (b ≡ true → (holding h).parts (names.Region slot) ≡ true) → (z ≡ true → (holding h).parts (names.Window slot) ≡ true)
          → refusal w b z ≡ refusal (holding h).world b z
      by true z region window = ap (region_refusal i.key) (sym (shown.shows (Region_of slot) (region refl)))
      by false true region window = ap (window_refusal i.key i.queue) (sym (shown.shows (Window_of slot) (window refl)))
      by false false region window = refl

  may-end : (i : Invalidation) → IsOwn q i → IsEndHeld c (holding h).parts (holding h).world i → MayEnd sight_of CanEnd h.reached q i
  may-end i own end = record {
    own = λ k. record { queue = i.queue; domain = domain k; key = i.key };
    at_hand = ends-at-hand c h w i shown.sound shown.bound shown.outside shown.shows end;
    counted = λ window none. ended-counted c w i q shown.bound window
        (refusal-same i end ∙ ap (λ s. s.refusal i) (sights-agree c h outside) ∙ none) (ap w.queue (own.0 ∙ sound.0) ∙ in-world);
  }
    where
      outside : IsVacantOutside c (holding h).world
      outside = vacant-outside c h w shown.outside shown.shows

      domain : i.domain ≡ domain_of i.queue
      domain = own.1 ∙ sound.1 ∙ ap domain_of (sym (own.0 ∙ sound.0))

  pub can-arrive : (bytes : List ℕ) (envelope : Option ℕ) → CanStep q → IfSome q.srq (λ srq. (holding h).has (Srq_of (srq_of q srq)) ≡ true)
      → next_part (holding h).parts (holding h).world (row_needs c (arrival_row bytes envelope (shared_receives (holding h).world q) q)) ≡ None
      → AreAtHand sight_of CanJudge HasBytesAtHand h.reached (arrival_row bytes envelope (shared_receives (holding h).world q) q).asks
      → CanArrive h bytes envelope q
  can-arrive bytes envelope step held next asks = record {
    step = step;
    there = held;
    shared = shared-sound held;
    at_hand = record { asks = asks; ended = by row.invalidation (arrival-fills bytes envelope (shared_receives (holding h).world q) q).own (row-end-held c (holding h).parts (holding h).world row next) };
  }
    where
      row : Row
      row = arrival_row bytes envelope (shared_receives (holding h).world q) q

      by : (o : Option Invalidation) → IfSome o (IsOwn q) → IfSome o (IsEndHeld c (holding h).parts (holding h).world) → IfSome o (MayEnd sight_of CanEnd h.reached q)
      by None own end = record {}
      by (Some i) own end = may-end i own end
