-- The plans of a delivery and of an injection, where bytes arrive, and where none do. For proofs only.
use Rattle.std.proofs.Common.{◌≡◌, ◌∙◌, subst, ap, ℕ, true, false, if◌then◌else◌, List, [], ◌∷◌, Option, None, Some}
use Rattle.ca_adapter_arrivals.proofs.ArriveLemmas.{mail_put}
use Rattle.ca_base.specs.Configuration.{Configuration}
use Rattle.ca_base.specs.declared.step.Reason.TheVariants as reasons
use Rattle.ca_base.specs.objects.Mailbox.{Mailbox, after_delivery, bytes_lent}
use Rattle.ca_base.specs.objects.QueuePair.{NoQueue, Present, QueuePair, QueueSlot}
use Rattle.ca_base.specs.objects.Slices.{has_queue}
use Rattle.ca_adapter_parts.specs.HeldView.{Holding}
use Rattle.ca_keys.specs.declared.names.QueueId.{QueueId}
use Rattle.ca_model.specs.declared.answer.Answer.TheVariants as answers
use Rattle.ca_model.specs.declared.answer.Refusal.TheVariants.{NoSuch}
use Rattle.ca_model.specs.machine.Delivery.{Arrive, deliver_plan}
use Rattle.ca_model.specs.machine.Frame.{AllPass}
use Rattle.ca_model.specs.machine.HostVerbs.{inject_plan}
use Rattle.ca_model.specs.machine.Plan.{Did, Look, NotReady, Plan, Stuck, perform, touches}
use Rattle.ca_model.specs.machine.VerbAnswers.{Call, Refuse_plan, answer_mark}
use Rattle.ca_model.specs.machine.World.{Mailbox_of, Queue_of, World}

module _ (c : Configuration) (h : Holding) (name : QueueId) (index : ℕ) where
  abbrev w : World
  w = h.world

  abbrev m : Mailbox
  m = w.mailbox name

  abbrev at : List ℕ → QueueSlot → Plan
  at bytes (NoQueue incarnation timers) = Stuck reasons.NotKept
  at bytes (Present q) = Arrive c q bytes (Some index) (mail_put name (Some (after_delivery index m))) []

  abbrev lent : Option (List ℕ) → Plan
  lent None = Stuck reasons.NotKept
  lent (Some bytes) = Look (Queue_of name) (at bytes)

  -- a queue pair outside the slices has no mailbox
  pub deliver_unnamed : has_queue c name ≡ false → perform w (deliver_plan c name index) ≡ NotReady reasons.NotKept
  deliver_unnamed unnamed = ap (λ b. if b then perform w (lent (bytes_lent index m)) else NotReady reasons.NotKept) unnamed

  module _ (has : has_queue c name ≡ true) where
    to-lent : perform w (deliver_plan c name index) ≡ perform w (lent (bytes_lent index m))
    to-lent = ap (λ b. if b then perform w (lent (bytes_lent index m)) else NotReady reasons.NotKept) has

    held-lent : AllPass h.has (touches w (deliver_plan c name index)) → (h.has (Mailbox_of name) ≡ true) × AllPass h.has (touches w (lent (bytes_lent index m)))
    held-lent all = subst (λ b. AllPass h.has (if b then Mailbox_of name ∷ touches w (lent (bytes_lent index m)) else [])) has all

    pub deliver_mailbox : AllPass h.has (touches w (deliver_plan c name index)) → h.has (Mailbox_of name) ≡ true
    deliver_mailbox all = (held-lent all).0

    pub deliver_lost : bytes_lent index m ≡ None → perform w (deliver_plan c name index) ≡ NotReady reasons.NotKept
    deliver_lost none = to-lent ∙ ap (λ o. perform w (lent o)) none

    module _ (bytes : List ℕ) (is : bytes_lent index m ≡ Some bytes) where
      to-bytes : perform w (deliver_plan c name index) ≡ perform w (at bytes (w.queue name))
      to-bytes = to-lent ∙ ap (λ o. perform w (lent o)) is

      held-bytes : AllPass h.has (touches w (deliver_plan c name index)) → (h.has (Queue_of name) ≡ true) × AllPass h.has (touches w (at bytes (w.queue name)))
      held-bytes all = subst (λ o. AllPass h.has (touches w (lent o))) is (held-lent all).1

      pub deliver_queue : AllPass h.has (touches w (deliver_plan c name index)) → h.has (Queue_of name) ≡ true
      deliver_queue all = (held-bytes all).0

      pub deliver_vacant : (incarnation timers : ℕ) → w.queue name ≡ NoQueue incarnation timers → perform w (deliver_plan c name index) ≡ NotReady reasons.NotKept
      deliver_vacant incarnation timers none = to-bytes ∙ ap (λ s. perform w (at bytes s)) none

      pub deliver-arrives : (q : QueuePair) → w.queue name ≡ Present q
          → perform w (deliver_plan c name index) ≡ perform w (Arrive c q bytes (Some index) (mail_put name (Some (after_delivery index m))) [])
      deliver-arrives q there = to-bytes ∙ ap (λ s. perform w (at bytes s)) there

      pub deliver-touches : (q : QueuePair) → w.queue name ≡ Present q → AllPass h.has (touches w (deliver_plan c name index))
          → AllPass h.has (touches w (Arrive c q bytes (Some index) (mail_put name (Some (after_delivery index m))) []))
      deliver-touches q there all = subst (λ s. AllPass h.has (touches w (at bytes s))) there (held-bytes all).1

module _ (c : Configuration) (h : Holding) (call : Call) (name : QueueId) (bytes : List ℕ) where
  abbrev v : World
  v = h.world

  abbrev injected : QueueSlot → Plan
  injected (NoQueue incarnation timers) = Refuse_plan call NoSuch
  injected (Present q) = Arrive c q bytes None (mail_put name None) (answer_mark call answers.Fine ∷ [])

  pub inject_queue : AllPass h.has (touches v (inject_plan c call name bytes)) → h.has (Queue_of name) ≡ true
  inject_queue all = all.0

  pub inject_vacant : (incarnation timers : ℕ) → v.queue name ≡ NoQueue incarnation timers
      → perform v (inject_plan c call name bytes) ≡ Did v (answer_mark call (answers.Refused NoSuch) ∷ [])
  inject_vacant incarnation timers none = ap (λ s. perform v (injected s)) none

  pub inject-arrives : (q : QueuePair) → v.queue name ≡ Present q
      → perform v (inject_plan c call name bytes) ≡ perform v (Arrive c q bytes None (mail_put name None) (answer_mark call answers.Fine ∷ []))
  inject-arrives q there = ap (λ s. perform v (injected s)) there

  pub inject-touches : (q : QueuePair) → v.queue name ≡ Present q → AllPass h.has (touches v (inject_plan c call name bytes))
      → AllPass h.has (touches v (Arrive c q bytes None (mail_put name None) (answer_mark call answers.Fine ∷ [])))
  inject-touches q there all = subst (λ s. AllPass h.has (touches v (injected s))) there all.1
