-- What the parts in hand bring with them. For proofs only.
use Rattle.std.proofs.Common.{◌≡◌, ◌∙◌, refl, sym, ap, ℕ, ◌<◌, ◌&&◌, arith, Bool, true, false, Option, None, Some, IfSome, if◌then◌else◌}
use Rattle.std.proofs.lemmas.Bool.{and_parts}
use Rattle.std.proofs.lemmas.Option.{none-some}
use Rattle.std.specs.Option.{option_and_then, option_map}
use Rattle.ca_keys.specs.declared.names.Slot.{Slot}
use Rattle.ca_base.specs.Configuration.{Configuration}
use Rattle.ca_base.specs.objects.QueuePair.{QueuePair, recv_cq_of, send_cq_of, srq_of}
use Rattle.ca_base.specs.objects.Slices.{has_slot}
use Rattle.ca_qpstate.proofs.of_ca_law_world.Sound.VerbLemmas.{queue-slot}
use Rattle.ca_adapter_parts.specs.declared.held.Held.{Held}
use Rattle.ca_adapter_parts.specs.HeldView.{holding}
use Rattle.ca_model.specs.declared.part_name.PartName.{PartName}
use Rattle.ca_model.specs.declared.part_name.PartName.TheVariants as names
use Rattle.ca_model.specs.machine.Invariants.{IsSharedReceives}
use Rattle.ca_model.specs.machine.Parts.{By, Enough, Needs, Part}
use Rattle.ca_model.specs.machine.Seen.{shared_receives}
use Rattle.ca_model.specs.machine.Sound.{AreLimited}
use Rattle.ca_model.specs.machine.World.{Srq_of, World}
use Rattle.ca_adapter_footprint.specs.Next.{IsNextAround, next_of}

-- the shared receives of a queue pair are those of a slot
pub shared_up : (w : World) (q : QueuePair) → ((s : Slot) → IfSome (w.srq s).srq IsSharedReceives) → IfSome (shared_receives w q) IsSharedReceives
shared_up w q all = by q.srq
  where
    by : (o : Option ℕ) → IfSome (option_and_then (λ slot. slot.srq) (option_map (λ srq. w.srq (srq_of q srq)) o)) IsSharedReceives
    by None = record {}
    by (Some srq) = all (srq_of q srq)

-- where nothing around a queue pair is missing, its shared receive queue is held
pub around_srq : (h : Held) (q : QueuePair) (srq : ℕ) → IsNextAround h q None → q.srq ≡ Some srq → (holding h).parts (names.Srq (srq_of q srq)) ≡ true
around_srq h q srq all there = by (held (names.Cq (send_cq_of q))) (held (names.Cq (recv_cq_of q))) (held (names.Srq (srq_of q srq))) (ap next (sym there) ∙ all (λ shared. Enough))
  where
    held : PartName → Bool
    held = (holding h).parts

    rest : Option ℕ → Needs
    rest None = Enough
    rest (Some srq) = By (Srq_of (srq_of q srq)) (λ slot. Enough)

    next : Option ℕ → Option PartName
    next o = next_of h (Part (names.Cq (send_cq_of q)) (Part (names.Cq (recv_cq_of q)) (rest o)))

    by : (a b c : Bool)
        → (if a then (if b then (if c then None else Some (names.Srq (srq_of q srq))) else Some (names.Cq (recv_cq_of q))) else Some (names.Cq (send_cq_of q))) ≡ None
        → c ≡ true
    by true true true is = refl
    by true true false is = absurd (none-some _ (sym is))
    by true false c is = absurd (none-some _ (sym is))
    by false b c is = absurd (none-some _ (sym is))

-- the slot of a queue pair is one of few
pub small_slot : (c : Configuration) (s : Slot) → AreLimited c → has_slot c (λ a. a.qps) s ≡ true → s.slot < 256
small_slot c s limited has = omega (arith, queue-slot c s limited has)

pub small_and : (c : Configuration) (s : Slot) (b : Bool) → AreLimited c → (has_slot c (λ a. a.qps) s && b) ≡ true → s.slot < 256
small_and c s b limited has = small_slot c s limited (and_parts (has_slot c (λ a. a.qps) s) b has).0
