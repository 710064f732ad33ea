-- CreateQp keeps a world tied to a link.
use Rattle.std.proofs.Common.{◌≡◌, ℕ, suc, ◌&&◌, not, nat_lt, is_none, Bool, true, false, List, [], ◌∷◌, Option, None, Some, refl, sym, ap, ◌∙◌, ◌<◌, ◌⊎◌, inl, arith, true≢false}
use Rattle.ca_base.specs.Configuration.{Configuration}
use Rattle.ca_base.specs.declared.change.Field.TheVariants as fields
use Rattle.ca_base.specs.objects.CompletionQueue.{CompletionQueue, after_reserve}
use Rattle.ca_base.specs.objects.Domain.{with_object}
use Rattle.ca_base.specs.objects.Mailbox.{Mailbox, with_peer}
use Rattle.ca_base.specs.objects.QueuePair.{QueuePair, QueueSlot, Present, incarnation_of, is_present}
use Rattle.ca_base.specs.objects.SharedReceives.{SharedReceives, SrqSlot}
use Rattle.ca_keys.specs.Equal.{queue_eq}
use Rattle.ca_keys.specs.Numbers.{queue_of}
use Rattle.ca_keys.specs.declared.names.QueueId.{QueueId}
use Rattle.ca_keys.specs.declared.names.Slot.{Slot}
use Rattle.ca_model.specs.Past.{with_at}
use Rattle.ca_model.specs.declared.answer.Answer.TheVariants as answers
use Rattle.ca_model.specs.declared.answer.Refusal.TheVariants.{NoSuch, OutOfRange, CqTooSmall}
use Rattle.ca_model.specs.declared.event.Event.TheVariants as events
use Rattle.ca_model.specs.declared.mark.Mark.{Mark}
use Rattle.ca_model.specs.declared.verb.Verb.TheVariants as verbs
use Rattle.ca_model.specs.machine.Plan.{Plan, If, Look, Update, ◌:=◌, put_all}
use Rattle.ca_model.specs.machine.QueuePairVerbs.{Creation, before_receives, beside, create_qp_plan, has_bad_depth, has_no_room, new_queue, receive_reserve, receive_room, send_reserved, user_updates}
use Rattle.ca_model.specs.machine.Step.{plan, step}
use Rattle.ca_model.specs.machine.VerbAnswers.{Answer_plan, Call, Refuse_plan, Unless_plan}
use Rattle.ca_model.specs.machine.World.{Cq_of, Domain_of, Mailbox_of, Queue_of, Srq_of, World}
use Rattle.std.proofs.lemmas.Bool.{ltb-false, ltb-true}
use Rattle.ca_connection.specs.Layout.{Direction}
use Rattle.ca_connection.specs.Link.{Link}
use Rattle.ca_base.specs.declared.correspondent.Correspondent.{Correspondent}
use Rattle.ca_law_endings.specs.Runs.{Comes, Leads}
use Rattle.ca_law_endings.proofs.LeadsLemmas.{comes}
use Rattle.ca_law_once.proofs.Ties.DeliverWalk.{Has}
use Rattle.ca_law_once.proofs.Ties.EndLemmas.{IsEnd, end-ties}
use Rattle.ca_law_once.proofs.Ties.QuietLemmas.{joined-neither}
use Rattle.ca_law_once.specs.Ties.{IsBefore, IsOver, IsTied, TiedAfter}
use Rattle.ca_law_once.specs.Ties.IsBefore.{sooner, unnamed}
use Rattle.ca_law_once.specs.Ties.IsOver.{later, vacant}

-- a vacant slot gets a queue pair: no life stands there that is not to come
create-ends : (slot : QueueSlot) (q : QueuePair) → is_present slot ≡ false → q.incarnation ≡ suc (incarnation_of slot) → q.peer ≡ None → IsEnd slot (Present q)
create-ends slot q vacant_is next nobody = record {
  before = λ life is. early life is;
  over = λ life is. late life is;
  there = λ life t is same. absurd (true≢false (sym (ap is_present is) ∙ vacant_is));
}
  where
    by : (life : Correspondent) → incarnation_of slot < life.incarnation → (b : Bool) → nat_lt q.incarnation life.incarnation ≡ b → IsBefore life (Present q) ⊎ IsOver life (Present q)
    by life less true e = inl (sooner (ltb-true q.incarnation life.incarnation e))
    by life less false e = inl (unnamed q refl (omega (arith, less, next, ltb-false q.incarnation life.incarnation e)) nobody)

    early : (life : Correspondent) → IsBefore life slot → IsBefore life (Present q) ⊎ IsOver life (Present q)
    early life (sooner less) = by life less (nat_lt q.incarnation life.incarnation) refl
    early life (unnamed t is same none) = absurd (true≢false (sym (ap is_present is) ∙ vacant_is))

    late : (life : Correspondent) → IsOver life slot → IsOver life (Present q)
    late life (later more) = later (omega (arith, more, next))
    late life (vacant none same) = later (omega (arith, next, same))

has-user : (queues : QueueId → QueueSlot) (boxes : QueueId → Mailbox) (x : Creation) (slot : Option SrqSlot) (v : World) → Has queues boxes v → Has queues boxes (put_all (user_updates x slot) v)
has-user queues boxes x slot v has = by x.srq slot
  where
    updates : Option ℕ → Option SrqSlot → List Update
    updates (Some srq) (Some slot) = (Srq_of (beside x.slot srq) := record slot { users = suc slot.users }) ∷ []
    updates srq slot = []

    by : (o : Option ℕ) (t : Option SrqSlot) → Has queues boxes (put_all (updates o t) v)
    by None t = has
    by (Some srq) None = has
    by (Some srq) (Some slot) = record { queue = has.queue; mailbox = has.mailbox }

create-leads : (d : Direction) (s r : Correspondent) (c : Configuration) (w : World) (l : Link) (by : ℕ) (x : Creation) → IsTied d s r w l
    → Leads w (λ v ms. TiedAfter d s r w l (λ place. []) (λ place. []) v) (create_qp_plan c (record { by = by; verb = verbs.CreateQp x.slot x.send_cq x.recv_cq x.send_depth x.recv_depth x.srq }) x)
create-leads d s r c w l by x tied = (λ none. same, λ allocated. (λ taken. same, λ free. (λ has. sharing free x.srq, λ none. same)))
  where
    call : Call
    call = record { by = by; verb = verbs.CreateQp x.slot x.send_cq x.recv_cq x.send_depth x.recv_depth x.srq }

    P : World → List Mark → Type 0
    P v ms = TiedAfter d s r w l (λ place. []) (λ place. []) v

    same : TiedAfter d s r w l (λ place. []) (λ place. []) w
    same = joined-neither d s r w w l tied refl refl refl refl

    place : QueueId
    place = queue_of x.slot

    q : QueuePair
    q = new_queue x (w.queue place)

    box : Mailbox
    box = with_peer q.incarnation None (w.mailbox place)

    start : CompletionQueue → CompletionQueue → Option SharedReceives → List Update
    start send recv shared = (Domain_of x.slot.domain := with_object (w.domain x.slot.domain))
        ∷ (Queue_of place := Present q)
        ∷ (Mailbox_of place := box)
        ∷ (Cq_of (beside x.slot x.send_cq) := Some (send_reserved x send))
        ∷ (Cq_of (beside x.slot x.recv_cq) := Some (after_reserve (receive_reserve x) (receive_room x shared) (before_receives x send recv)))
        ∷ []

    made : CompletionQueue → CompletionQueue → Option SrqSlot → Option SharedReceives → Plan
    made send recv slot shared = Answer_plan call (answers.Queue place.number q.incarnation)
        ((Domain_of x.slot.domain := with_object (w.domain x.slot.domain))
        ∷ (Queue_of place := Present q)
        ∷ (Mailbox_of place := box)
        ∷ (Cq_of (beside x.slot x.send_cq) := Some (send_reserved x send))
        ∷ (Cq_of (beside x.slot x.recv_cq) := Some (after_reserve (receive_reserve x) (receive_room x shared) (before_receives x send recv)))
        ∷ user_updates x slot)
        []

    there : Option CompletionQueue → Option CompletionQueue → Option SrqSlot → Option SharedReceives → Plan
    there (Some send) (Some recv) slot shared = If (is_none shared && not (is_none x.srq)) (Refuse_plan call NoSuch)
        (Unless_plan call ((has_bad_depth x, OutOfRange fields.Depth) ∷ (has_no_room x shared send recv, CqTooSmall) ∷ []) (made send recv slot shared))
    there send recv slot shared = Refuse_plan call NoSuch

    done : is_present (w.queue place) ≡ false → (send recv : CompletionQueue) (slot : Option SrqSlot) (shared : Option SharedReceives) → Leads w P (made send recv slot shared)
    done free send recv slot shared = end-ties d s r w (put_all (user_updates x slot) (put_all (start send recv shared) w)) l place (Present q) box
        (has-user (with_at queue_eq w.queue place (Present q)) (with_at queue_eq w.mailbox place box) x slot (put_all (start send recv shared) w) (record { queue = refl; mailbox = refl }))
        (create-ends (w.queue place) q free refl refl) tied

    both : is_present (w.queue place) ≡ false → (send recv : Option CompletionQueue) (slot : Option SrqSlot) (shared : Option SharedReceives) → Leads w P (there send recv slot shared)
    both free None recv slot shared = same
    both free (Some send) None slot shared = same
    both free (Some send) (Some recv) slot shared = (λ missing. same, λ has. (λ bad. same, λ good. (λ small. same, λ room. done free send recv slot shared)))

    looking : Option ℕ → Plan
    looking None = there (w.cq (beside x.slot x.send_cq)) (w.cq (beside x.slot x.recv_cq)) None None
    looking (Some srq) = Look (Srq_of (beside x.slot srq)) (λ slot. there (w.cq (beside x.slot x.send_cq)) (w.cq (beside x.slot x.recv_cq)) (Some slot) slot.srq)

    sharing : is_present (w.queue place) ≡ false → (o : Option ℕ) → Leads w P (looking o)
    sharing free None = both free (w.cq (beside x.slot x.send_cq)) (w.cq (beside x.slot x.recv_cq)) None None
    sharing free (Some srq) = both free (w.cq (beside x.slot x.send_cq)) (w.cq (beside x.slot x.recv_cq)) (Some (w.srq (beside x.slot srq))) (w.srq (beside x.slot srq)).srq

pub create-ties : (d : Direction) (s r : Correspondent) (c : Configuration) (w : World) (l : Link) (by : ℕ) (slot : Slot) (send_cq recv_cq send_depth recv_depth : ℕ) (srq : Option ℕ) → IsTied d s r w l
    → Comes (λ v ms. TiedAfter d s r w l (λ place. []) (λ place. []) v) (step c w (events.Verb by (verbs.CreateQp slot send_cq recv_cq send_depth recv_depth srq)))
create-ties d s r c w l by slot send_cq recv_cq send_depth recv_depth srq tied = comes w (λ v ms. TiedAfter d s r w l (λ place. []) (λ place. []) v) (plan c (events.Verb by (verbs.CreateQp slot send_cq recv_cq send_depth recv_depth srq))) (
  (λ named. create-leads d s r c w l by (record { slot = slot; send_cq = send_cq; recv_cq = recv_cq; send_depth = send_depth; recv_depth = recv_depth; srq = srq }) tied),
  λ none. joined-neither d s r w w l tied refl refl refl refl,
)
