-- What CreateQp comes to, by what is held. For proofs only.
use Rattle.std.proofs.Common.{◌≡◌, ◌∙◌, refl, sym, ap, ℕ, ◌==◌, ◌||◌, ◌&&◌, Bool, true, false, not, [], ◌∷◌, Option, None, Some, if◌then◌else◌, true≢false}
use Rattle.std.specs.Option.{option_map_or}
use Rattle.ca_base.specs.Configuration.{Configuration}
use Rattle.ca_base.specs.declared.change.Field.TheVariants as fields
use Rattle.ca_base.specs.objects.CompletionQueue.{CompletionQueue}
use Rattle.ca_base.specs.objects.QueuePair.{is_present}
use Rattle.ca_base.specs.objects.SharedReceives.{SharedReceives}
use Rattle.ca_adapter_parts.specs.HeldView.{Holding}
use Rattle.ca_keys.specs.Numbers.{queue_of}
use Rattle.ca_model.proofs.ThingLemmas.{domain-refl}
use Rattle.ca_model.specs.declared.answer.Answer.TheVariants as answers
use Rattle.ca_model.specs.declared.answer.Refusal.{Refusal}
use Rattle.ca_model.specs.declared.answer.Refusal.TheVariants as refusals
use Rattle.ca_model.specs.machine.Frame.{AllPass}
use Rattle.ca_model.specs.machine.Plan.{Did, Outcome, perform, touches}
use Rattle.ca_model.specs.machine.QueuePairVerbs.{Creation, before_receives, beside, create_qp_plan, has_bad_depth, has_queues, send_reserved}
use Rattle.ca_model.specs.machine.VerbAnswers.{Call, answer_mark}
use Rattle.ca_model.specs.machine.World.{Cq_of, World}
use Rattle.ca_adapter_creation.specs.Made.{is_shared_held, outcome_of_creation, room_found}
use Rattle.ca_adapter_creation.specs.Reservations.{has_room_for, has_too_little, with_sends_reserved}

-- what comes of a verb that is refused
abbrev refused : World → Call → Refusal → Outcome
refused w call r = Did w (answer_mark call (answers.Refused r) ∷ [])

-- the completion queue of the receives once the sends have reserved
pub before-receives : (w : World) (x : Creation) (send recv : CompletionQueue)
    → w.cq (beside x.slot x.send_cq) ≡ Some send → w.cq (beside x.slot x.recv_cq) ≡ Some recv
    → (with_sends_reserved x w).cq (beside x.slot x.recv_cq) ≡ Some (before_receives x send recv)
before-receives w x send recv s r = rw (domain-refl x.slot.domain, s, r) (by (x.send_cq == x.recv_cq))
  where
    by : (b : Bool) → (if b then Some (send_reserved x send) else Some recv) ≡ Some (if b then send_reserved x send else recv)
    by true = refl
    by false = refl

neither : (a b : Bool) → (a || b) ≡ false → (not a && not b) ≡ true
neither false false e = refl
neither false true e = absurd (true≢false e)
neither true b e = absurd (true≢false e)

-- a refusal that does not come
skip : (b : Bool) (refusal rest : Outcome) → b ≡ true → (if not b then refusal else rest) ≡ rest
skip true refusal rest e = refl
skip false refusal rest e = absurd (true≢false (sym e))

-- there is room for both reservations
pub has_room : (w : World) (x : Creation) (room : ℕ) (send recv : CompletionQueue)
    → w.cq (beside x.slot x.send_cq) ≡ Some send → w.cq (beside x.slot x.recv_cq) ≡ Some recv
    → has_too_little x room send recv ≡ false → has_room_for x room w ≡ true
has_room w x room send recv s r e = rw (before-receives w x send recv s r, s) (neither _ _ e)

-- where the domain is allocated, the slot vacant, and the queues configured
module _ (c : Configuration) (call : Call) (w : World) where
  abbrev is_refused : Creation → Refusal → Type 0
  is_refused x r = perform w (create_qp_plan c call x) ≡ refused w call r

  pub no_send : (x : Creation) → (w.domain x.slot.domain).allocated ≡ true → is_present (w.queue (queue_of x.slot)) ≡ false
      → has_queues c x ≡ true → w.cq (beside x.slot x.send_cq) ≡ None → perform w (create_qp_plan c call x) ≡ refused w call refusals.NoSuch
  no_send x = by x.srq
    where
      by : (o : Option ℕ) → (w.domain x.slot.domain).allocated ≡ true → is_present (w.queue (queue_of x.slot)) ≡ false
          → has_queues c (record x { srq = o }) ≡ true → w.cq (beside x.slot x.send_cq) ≡ None → is_refused (record x { srq = o }) refusals.NoSuch
      by None allocated vacant queues s = skip _ _ _ allocated ∙ rw (vacant, queues, s) refl
      by (Some srq) allocated vacant queues s = skip _ _ _ allocated ∙ rw (vacant, queues, s) refl

  pub no_recv : (x : Creation) (send : CompletionQueue) → (w.domain x.slot.domain).allocated ≡ true → is_present (w.queue (queue_of x.slot)) ≡ false
      → has_queues c x ≡ true → w.cq (beside x.slot x.send_cq) ≡ Some send → w.cq (beside x.slot x.recv_cq) ≡ None
      → perform w (create_qp_plan c call x) ≡ refused w call refusals.NoSuch
  no_recv x send = by x.srq
    where
      by : (o : Option ℕ) → (w.domain x.slot.domain).allocated ≡ true → is_present (w.queue (queue_of x.slot)) ≡ false
          → has_queues c (record x { srq = o }) ≡ true → w.cq (beside x.slot x.send_cq) ≡ Some send → w.cq (beside x.slot x.recv_cq) ≡ None
          → is_refused (record x { srq = o }) refusals.NoSuch
      by None allocated vacant queues s r = skip _ _ _ allocated ∙ rw (vacant, queues, s, r) refl
      by (Some srq) allocated vacant queues s r = skip _ _ _ allocated ∙ rw (vacant, queues, s, r) refl

  module _ (send recv : CompletionQueue) where
    -- what is left to refuse, and the making
    abbrev pub sized_outcome : Creation → ℕ → Outcome
    sized_outcome x room =
        if has_bad_depth x then refused w call (refusals.OutOfRange fields.Depth)
        else if has_too_little x room send recv then refused w call refusals.CqTooSmall
        else outcome_of_creation call x room w

    abbrev found_outcome : Creation → Option ℕ → Outcome
    found_outcome x found = option_map_or (sized_outcome x) found (refused w call refusals.NoSuch)

    rest : (x : Creation) → (w.domain x.slot.domain).allocated ≡ true → is_present (w.queue (queue_of x.slot)) ≡ false
        → has_queues c x ≡ true → w.cq (beside x.slot x.send_cq) ≡ Some send → w.cq (beside x.slot x.recv_cq) ≡ Some recv
        → perform w (create_qp_plan c call x) ≡ found_outcome x (room_found x w)
    rest x = by x.srq
      where
        by : (o : Option ℕ) → (w.domain x.slot.domain).allocated ≡ true → is_present (w.queue (queue_of x.slot)) ≡ false
            → has_queues c (record x { srq = o }) ≡ true → w.cq (beside x.slot x.send_cq) ≡ Some send → w.cq (beside x.slot x.recv_cq) ≡ Some recv
            → perform w (create_qp_plan c call (record x { srq = o })) ≡ found_outcome (record x { srq = o }) (room_found (record x { srq = o }) w)
        by None allocated vacant queues s r = skip _ _ _ allocated ∙ rw (vacant, queues, before-receives w (record x { srq = None }) send recv s r, s, r) refl
        by (Some srq) allocated vacant queues s r = shared (w.srq (beside x.slot srq)).srq refl
          where
            there : Creation
            there = record x { srq = Some srq }

            shared : (z : Option SharedReceives) → (w.srq (beside x.slot srq)).srq ≡ z
                → perform w (create_qp_plan c call there) ≡ found_outcome there (room_found there w)
            shared None is = skip _ _ _ allocated ∙ rw (vacant, queues, s, r, is) refl
            shared (Some z) is = skip _ _ _ allocated ∙ rw (vacant, queues, is, before-receives w there send recv s r, s, r) refl

  pub no_shared : (x : Creation) (send recv : CompletionQueue) → (w.domain x.slot.domain).allocated ≡ true
      → is_present (w.queue (queue_of x.slot)) ≡ false → has_queues c x ≡ true
      → w.cq (beside x.slot x.send_cq) ≡ Some send → w.cq (beside x.slot x.recv_cq) ≡ Some recv → room_found x w ≡ None
      → perform w (create_qp_plan c call x) ≡ refused w call refusals.NoSuch
  no_shared x send recv allocated vacant queues s r found = rest send recv x allocated vacant queues s r ∙ ap (found_outcome send recv x) found

  pub sized : (x : Creation) (send recv : CompletionQueue) (room : ℕ) → (w.domain x.slot.domain).allocated ≡ true
      → is_present (w.queue (queue_of x.slot)) ≡ false → has_queues c x ≡ true
      → w.cq (beside x.slot x.send_cq) ≡ Some send → w.cq (beside x.slot x.recv_cq) ≡ Some recv → room_found x w ≡ Some room
      → perform w (create_qp_plan c call x) ≡ sized_outcome send recv x room
  sized x send recv room allocated vacant queues s r found = rest send recv x allocated vacant queues s r ∙ ap (found_outcome send recv x) found

  pub made_outcome : (x : Creation) (send recv : CompletionQueue) (room : ℕ) → (w.domain x.slot.domain).allocated ≡ true
      → is_present (w.queue (queue_of x.slot)) ≡ false → has_queues c x ≡ true
      → w.cq (beside x.slot x.send_cq) ≡ Some send → w.cq (beside x.slot x.recv_cq) ≡ Some recv → room_found x w ≡ Some room
      → has_bad_depth x ≡ false → has_too_little x room send recv ≡ false
      → perform w (create_qp_plan c call x) ≡ outcome_of_creation call x room w
  made_outcome x send recv room allocated vacant queues s r found depth little =
      sized x send recv room allocated vacant queues s r found ∙ rw (depth, little) refl

-- what is held of the queues
pub record AreQueuesHeld (x : Creation) (h : Holding) : Type 0 where
  pub send : h.has (Cq_of (beside x.slot x.send_cq)) ≡ true
  pub recv : h.has (Cq_of (beside x.slot x.recv_cq)) ≡ true
  pub shared : is_shared_held x h ≡ true

pub queues_held : (c : Configuration) (call : Call) (h : Holding) (x : Creation) → AllPass h.has (touches h.world (create_qp_plan c call x))
    → (h.world.domain x.slot.domain).allocated ≡ true → is_present (h.world.queue (queue_of x.slot)) ≡ false
    → has_queues c x ≡ true → AreQueuesHeld x h
queues_held c call h x = by x.srq
  where
    by : (o : Option ℕ) → AllPass h.has (touches h.world (create_qp_plan c call (record x { srq = o })))
        → (h.world.domain x.slot.domain).allocated ≡ true → is_present (h.world.queue (queue_of x.slot)) ≡ false
        → has_queues c (record x { srq = o }) ≡ true → AreQueuesHeld (record x { srq = o }) h
    by None all allocated vacant queues = let t = rw (allocated, vacant, queues) at all in record { send = t.1.1.1.0; recv = t.1.1.1.1.0; shared = refl }
    by (Some srq) all allocated vacant queues = let t = rw (allocated, vacant, queues) at all in record { send = t.1.1.1.0; recv = t.1.1.1.1.0; shared = t.1.1.1.1.1.0 }
