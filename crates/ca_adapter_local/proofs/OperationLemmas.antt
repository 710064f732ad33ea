-- A fast registration and an invalidation over the parts in hand make what they come to. For proofs only.
use Rattle.std.proofs.Common.{◌≡◌, ◌∙◌, refl, sym, ap, subst, ℕ, ◌-◌, Bool, true, false, if◌then◌else◌, List, Option, None, Some, is_some}
use Rattle.std.specs.Option.{option_map_or, unwrap_or}
use Rattle.ca_adapter_turns.specs.ca_adapter_acts.Binders.{changed_by}
use Rattle.ca_adapter_local.proofs.BindLemmas.{put-one}
use Rattle.ca_adapter_local.specs.Local.{invalidation_end, invalidation_of, local_end}
use Rattle.ca_adapter_local.specs.Made.{IsMadeBy}
use Rattle.ca_adapter_local.specs.Parts.{AreEndParts}
use Rattle.ca_base.specs.Configuration.{Configuration}
use Rattle.ca_base.specs.Sight.{Invalidation}
use Rattle.ca_base.specs.declared.queue_numbers.WindowCount.{WindowCount}
use Rattle.ca_base.specs.declared.refusals.OpRefusal.{OpRefusal}
use Rattle.ca_base.specs.declared.request.SendOp.{SendOp}
use Rattle.ca_base.specs.declared.request.SendOp.TheVariants as ops
use Rattle.ca_base.specs.objects.LocalRequest.{fast_request_refusals, of_region}
use Rattle.ca_base.specs.objects.QueuePair.{QueuePair}
use Rattle.ca_base.specs.objects.Region.{Region, after_fast_registration, fast_registration_refusals, vacant_region}
use Rattle.ca_base.specs.objects.Slices.{buffer_length}
use Rattle.ca_base.specs.objects.Window.{count_without}
use Rattle.ca_adapter_parts.specs.HeldView.{hold, holding}
use Rattle.ca_adapter_parts.specs.declared.held.Held.{Held}
use Rattle.ca_adapter_reach.specs.AtHand.{CanEnd}
use Rattle.ca_adapter_reach.specs.Changed.{after_end_of, put_region}
use Rattle.ca_adapter_reach.specs.Seen.{or_vacant, region_in, sight_of}
use Rattle.ca_adapter_reach.specs.declared.reached.Reached.{Reached}
use Rattle.ca_grant.specs.Reaching.{invalidation_by}
use Rattle.ca_keys.specs.declared.key.Key.{Key}
use Rattle.ca_keys.specs.declared.names.QueueId.{QueueId}
use Rattle.ca_keys.specs.declared.names.Slot.{Slot}
use Rattle.ca_keys.specs.declared.rights.Rights.{Rights}
use Rattle.ca_keys.specs.Equal.{slot_eq}
use Rattle.ca_keys.specs.Numbers.{is_window_key}
use Rattle.ca_keys.specs.Refusals.{first_of}
use Rattle.ca_localops.specs.Errors.{FailsBy}
use Rattle.ca_localops.specs.Operations.{fast_refusals, grant_of_fast, region_after_fast}
use Rattle.ca_localops.specs.declared.marks.Marks2.{Marks2}
use Rattle.ca_localops.specs.declared.marks.OpError.{OpError}
use Rattle.ca_model.specs.machine.LocalOperations.{region_slot}
use Rattle.ca_model.specs.machine.Seen.{refusal_in}
use Rattle.ca_model.specs.machine.World.{Region_of}
use Rattle.ca_adapter_turns.proofs.of_ca_adapter_reach_laws.LeftLemmas.{end-held}
use Rattle.ca_adapter_turns.proofs.of_ca_adapter_reach_laws.SightLemmas.{sights-agree}
use Rattle.ca_adapter_turns.specs.ca_adapter_reach_laws.Ties.{IsVacantOutside, with_reached}
use Rattle.ca_adapter_reach.specs.Shelved.{thing_under}

or-zero : (o : Option ℕ) → unwrap_or o 0 ≡ option_map_or (λ n. n) o 0
or-zero None = refl
or-zero (Some n) = refl

-- a fast registration, with the length of its buffer
module _ (c : Configuration) (h : Held) (q : QueuePair) (drawn : Option ℕ) (region low buffer address count : ℕ) (rights : Rights) (pages : List ℕ) (op : SendOp)
    (is : op ≡ ops.FastReg region low buffer address count rights pages) (r : Reached) (same : h.reached ≡ r) (slot : Slot) (at : slot ≡ region_slot q region)
    (old : Region) (here : Some old ≡ thing_under slot_eq slot r.regions.things) (bytes : ℕ) (long : bytes ≡ unwrap_or (buffer_length c q.domain.adapter buffer) 0) where
  abbrev pub rs : Slot
  rs = region_slot q region

  seen : old ≡ region_in h.reached rs
  seen = ap (or_vacant vacant_region) here ∙ ap (region_in r) at ∙ ap (λ r. region_in r rs) (sym same)

  refusal-so : first_of (fast_refusals op slot bytes old) ≡ (local_end c (holding h).world q drawn op).refusal
  unfolding holding
  refusal-so = ap (λ o. first_of (fast_refusals o slot bytes old)) is
      ∙ ap (λ s. first_of (fast_request_refusals s buffer (Some bytes) address count rights pages old)) at
      ∙ ap (λ v. first_of (fast_request_refusals rs buffer (Some bytes) address count rights pages v)) seen
      ∙ ap (λ n. first_of (of_region (fast_registration_refusals rs buffer n address count rights pages (region_in h.reached rs)))) (long ∙ or-zero (buffer_length c q.domain.adapter buffer))
      ∙ ap (λ o. (local_end c (holding h).world q drawn o).refusal) (sym is)

  pub fast-failed : (error : OpError) (left : Reached) → FailsBy (first_of (fast_refusals op slot bytes old)) error → left ≡ r
      → FailsBy (local_end c (holding h).world q drawn op).refusal error × (left ≡ h.reached)
  fast-failed error left fails so = (subst (λ o. FailsBy o error) refusal-so fails, so ∙ sym same)

  pub fast-made : (m : Marks2) (windows : WindowCount) (v : Region) → windows.count ≡ q.windows → first_of (fast_refusals op slot bytes old) ≡ None → m.revoked ≡ None
      → m.granted ≡ grant_of_fast op slot → v ≡ region_after_fast op slot old
      → IsMadeBy (record { marks = m; windows = windows }) (local_end c (holding h).world q drawn op) h (put_region r slot v)
  unfolding holding
  fast-made m windows v counted accepted revoked granted after = record {
    accepted = sym refusal-so ∙ accepted;
    revoked = revoked ∙ ap (λ o. (local_end c (holding h).world q drawn o).marks.revoked) (sym is);
    granted = granted ∙ ap (λ o. grant_of_fast o slot) is ∙ ap (grant_of_fast (ops.FastReg region low buffer address count rights pages)) at
        ∙ ap (λ o. (local_end c (holding h).world q drawn o).marks.granted) (sym is);
    windows = counted ∙ ap (λ o. (local_end c (holding h).world q drawn o).windows) (sym is);
    changed = ap (λ r. holding (with_reached h (put_region r slot v))) (sym same)
        ∙ put-one h slot v (ap (λ r. is_some (thing_under slot_eq slot r.regions.things)) same ∙ sym (ap is_some here))
        ∙ ap (λ s. hold (holding h) (Region_of s) v) at
        ∙ ap (hold (holding h) (Region_of rs)) (after ∙ ap (λ o. region_after_fast o slot old) is
        ∙ ap (λ s. after_fast_registration s low buffer address count rights pages old) at
        ∙ ap (after_fast_registration rs low buffer address count rights pages) seen)
        ∙ ap (λ o. changed_by (local_end c (holding h).world q drawn o).changes (holding h)) (sym is);
  }

-- the count of bound windows without a key
without-key : (key : Key) (windows : WindowCount) (n : ℕ) → windows.count ≡ n → (count_without key windows).count ≡ (if is_window_key key then n - 1 else n)
without-key key windows n counted = by (is_window_key key)
  where
    by : (b : Bool) → (if b then record { count = windows.count - 1 } else windows).count ≡ (if b then n - 1 else n)
    by true = ap (λ k. k - 1) counted
    by false = counted

-- an invalidation
module _ (c : Configuration) (h : Held) (q : QueuePair) (key : Key) (outside : IsVacantOutside c (holding h).world) (r : Reached) (same : h.reached ≡ r)
    (parts : AreEndParts r q key) (queue : QueueId) (named : queue ≡ q.queue) where
  abbrev pub i : Invalidation
  i = invalidation_of q key

  same-key : invalidation_by key queue ≡ i
  same-key = ap (invalidation_by key) named ∙ ap (λ d. record { queue = q.queue; domain = d; key = key }) (sym parts.domain)

  refusal-is : (sight_of r).refusal (invalidation_by key queue) ≡ refusal_in c (holding h).world i
  refusal-is = ap (sight_of r).refusal same-key ∙ ap (λ r. (sight_of r).refusal i) (sym same) ∙ sym (ap (λ s. s.refusal i) (sights-agree c h outside))

  pub end-failed : (cause : OpRefusal) (left : Reached) → (sight_of r).refusal (invalidation_by key queue) ≡ Some cause → left ≡ r
      → (refusal_in c (holding h).world (invalidation_of q key) ≡ Some cause) × (left ≡ h.reached)
  end-failed cause left fails so = (sym refusal-is ∙ fails, so ∙ sym same)

  pub end-made : (before after : WindowCount) (left : Reached) → before.count ≡ q.windows → (sight_of r).refusal (invalidation_by key queue) ≡ None
      → left ≡ after_end_of r (invalidation_by key queue) → after ≡ count_without key before
      → IsMadeBy (record { marks = record { revoked = Some key; granted = None }; windows = after }) (invalidation_end c (holding h).world q key) h left
  end-made before after left counted accepted so count = record {
    accepted = sym refusal-is ∙ accepted;
    revoked = refl;
    granted = refl;
    windows = ap (λ w. w.count) count ∙ without-key key before q.windows counted;
    changed = ap (λ p. holding (with_reached h p)) (so ∙ ap (after_end_of r) same-key ∙ ap (λ r. after_end_of r i) (sym same))
        ∙ end-held c h i outside (subst (λ r. CanEnd r i) (sym same) parts.ends)
        (ap (λ r. (sight_of r).refusal i) same ∙ ap (sight_of r).refusal (sym same-key) ∙ accepted);
  }
