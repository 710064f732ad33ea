-- A reservation that is taken back leaves all as it was. For proofs only.
use Rattle.std.proofs.Common.{◌≡◌, ◌∙◌, refl, ap, ℕ, Bool, true, false, Option, None, Some, IfSome, if◌then◌else◌}
use Rattle.std.proofs.Math.Path.{fun_ext}
use Rattle.std.specs.Option.{option_map}
use Rattle.ca_adapter_acts.proofs.DoneLemmas.{cq-twice}
use Rattle.ca_base.specs.declared.reserve.Reserve.{Reserve}
use Rattle.ca_base.specs.objects.CompletionQueue.{CompletionQueue, after_release, after_reserve}
use Rattle.ca_cq.proofs.KeptRooms.{release-undoes}
use Rattle.ca_cq.specs.Room.{is_new_side}
use Rattle.ca_adapter_parts.proofs.HoldLemmas.{put_cq}
use Rattle.ca_adapter_parts.specs.declared.held.Held.{Held}
use Rattle.ca_adapter_parts.specs.HeldView.{Holding, hold, holding, with_cq}
use Rattle.ca_keys.specs.declared.names.Slot.{Slot}
use Rattle.ca_keys.specs.Equal.{slot_eq}
use Rattle.ca_keys.specs.Numbers.{queue_of}
use Rattle.ca_base.specs.declared.reserve.Reserve.TheVariants.{Sends}
use Rattle.ca_model.specs.machine.QueuePairVerbs.{Creation, beside, receive_reserve}
use Rattle.ca_adapter_creation.specs.Reservations.{after_reservations}
use Rattle.ca_model.proofs.ThingLemmas.{slot-path, slot-refl}
use Rattle.ca_model.specs.machine.World.{Cq_of}

-- a completion queue that is put where it stands changes nothing
pub same-cq : (h : Holding) (s : Slot) (v : Option CompletionQueue) → v ≡ h.world.cq s → hold h (Cq_of s) v ≡ h
same-cq h s v is = λ i. record h { world = record h.world { cq = fun_ext (λ t. by t (slot_eq s t) refl) i } }
  where
    by : (t : Slot) (b : Bool) → slot_eq s t ≡ b → (if b then v else h.world.cq t) ≡ h.world.cq t
    by t true same = is ∙ ap h.world.cq (slot-path s t same)
    by t false same = refl

pub kept_cq : (h : Held) (s : Slot) (v : Option CompletionQueue) → (holding h).has (Cq_of s) ≡ true → v ≡ (holding h).world.cq s
    → holding (with_cq h s v) ≡ holding h
kept_cq h s v has is = put_cq h s v has ∙ same-cq (holding h) s v is

-- what a slot has once a completion queue was put there
pub cq-there : (h : Holding) (s : Slot) (v : Option CompletionQueue) → (hold h (Cq_of s) v).world.cq s ≡ v
cq-there h s v = ap (λ b. if b then v else h.world.cq s) (slot-refl s)

undone : (who : Reserve) (room : ℕ) (o : Option CompletionQueue) → IfSome o (λ q. is_new_side who q ≡ true)
    → option_map (after_release who) (option_map (after_reserve who room) o) ≡ o
undone who room None new = refl
undone who room (Some q) new = ap Some (release-undoes who room q new)

pub released : (h : Holding) (s : Slot) (who : Reserve) (room : ℕ) → IfSome (h.world.cq s) (λ q. is_new_side who q ≡ true)
    → hold (hold h (Cq_of s) (option_map (after_reserve who room) (h.world.cq s))) (Cq_of s)
    (option_map (after_release who) ((hold h (Cq_of s) (option_map (after_reserve who room) (h.world.cq s))).world.cq s))
    ≡ h
released h s who room new = cq-twice h s (option_map (after_reserve who room) (h.world.cq s)) _
    ∙ same-cq h s _ (ap (option_map (after_release who)) (cq-there h s (option_map (after_reserve who room) (h.world.cq s))) ∙ undone who room (h.world.cq s) new)

-- the two reservations, one after the other
pub both-reserved : (x : Creation) (room depth : ℕ) (h mid new : Holding) (s r : Slot) (sends receives : Reserve)
    → depth ≡ x.send_depth → s ≡ beside x.slot x.send_cq → r ≡ beside x.slot x.recv_cq → sends ≡ Sends (queue_of x.slot) → receives ≡ receive_reserve x
    → mid ≡ hold h (Cq_of s) (option_map (after_reserve sends depth) (h.world.cq s))
    → new ≡ hold mid (Cq_of r) (option_map (after_reserve receives room) (mid.world.cq r))
    → new ≡ after_reservations x room h
both-reserved x room depth h mid new s r sends receives is-depth is-s is-r is-sends is-receives first second =
    second ∙ ap (λ m. hold m (Cq_of r) (option_map (after_reserve receives room) (m.world.cq r))) first
    ∙ ap (λ d. two d s r sends receives) is-depth
    ∙ ap (λ t. two x.send_depth t r sends receives) is-s ∙ ap (λ t. two x.send_depth (beside x.slot x.send_cq) t sends receives) is-r
    ∙ ap (λ a. two x.send_depth (beside x.slot x.send_cq) (beside x.slot x.recv_cq) a receives) is-sends
    ∙ ap (λ b. two x.send_depth (beside x.slot x.send_cq) (beside x.slot x.recv_cq) (Sends (queue_of x.slot)) b) is-receives
  where
    one : ℕ → Slot → Reserve → Holding
    one d t a = hold h (Cq_of t) (option_map (after_reserve a d) (h.world.cq t))

    two : ℕ → Slot → Slot → Reserve → Reserve → Holding
    two d t u a b = hold (one d t a) (Cq_of u) (option_map (after_reserve b room) ((one d t a).world.cq u))

-- the first is taken back, where there is no memory for the second
pub given-back : (h mid again new : Holding) (s : Slot) (who : Reserve) (room : ℕ)
    → mid ≡ hold h (Cq_of s) (option_map (after_reserve who room) (h.world.cq s)) → again ≡ mid
    → new ≡ hold again (Cq_of s) (option_map (after_release who) (again.world.cq s))
    → IfSome (h.world.cq s) (λ q. is_new_side who q ≡ true) → new ≡ h
given-back h mid again new s who room first same last fresh =
    last ∙ ap (λ m. hold m (Cq_of s) (option_map (after_release who) (m.world.cq s))) (same ∙ first) ∙ released h s who room fresh
