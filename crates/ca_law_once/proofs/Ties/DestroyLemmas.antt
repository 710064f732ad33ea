-- DestroyQp keeps a world tied to a link.
use Rattle.std.proofs.Common.{◌≡◌, ℕ, ◌⊎◌, ◌-◌, inl, inr, nat_lt, List, [], ◌∷◌, Option, None, Some, refl, ap, sym, subst, ◌∙◌, true≢false}
use Rattle.std.specs.Option.{option_map}
use Rattle.ca_law_endings.proofs.LeadsLemmas.{comes, leads-around, leads-unless}
use Rattle.ca_law_endings.specs.Runs.{Comes, Leads}
use Rattle.ca_base.specs.Configuration.{Configuration}
use Rattle.ca_base.specs.declared.correspondent.Correspondent.{Correspondent}
use Rattle.ca_base.specs.objects.Mailbox.{Mailbox}
use Rattle.ca_base.specs.objects.QueuePair.{QueuePair, QueueSlot, NoQueue, Present, recv_cq_of, send_cq_of}
use Rattle.ca_base.specs.objects.SharedReceives.{SrqSlot, after_receives_retire}
use Rattle.ca_connection.specs.Layout.{Direction}
use Rattle.ca_connection.specs.Link.{Link}
use Rattle.ca_keys.specs.Equal.{queue_eq}
use Rattle.ca_keys.specs.Numbers.{queue_of}
use Rattle.ca_keys.specs.declared.names.QueueId.{QueueId}
use Rattle.ca_keys.specs.declared.names.Slot.{Slot}
use Rattle.ca_law_world.proofs.Sound.WorldLemmas.{around_in, shared_of}
use Rattle.ca_base.specs.objects.Domain.{without_object}
use Rattle.ca_model.specs.Past.{with_at}
use Rattle.ca_model.specs.declared.answer.Answer.TheVariants as answers
use Rattle.ca_model.specs.declared.answer.Refusal.TheVariants.{NoSuch, WindowsBound}
use Rattle.ca_model.specs.declared.event.Event.TheVariants as events
use Rattle.ca_model.specs.declared.mark.Mark.{Mark}
use Rattle.ca_model.specs.declared.verb.Verb.TheVariants as verbs
use Rattle.ca_model.specs.machine.Around.{Around, With_around}
use Rattle.ca_model.specs.machine.Plan.{Look, Plan, Update, ◌:=◌, put_all}
use Rattle.ca_model.specs.machine.QueuePairVerbs.{emptied_mailbox, left_updates, places_held, without_queue}
use Rattle.ca_model.specs.machine.Sound.{IsSoundWorld}
use Rattle.ca_model.specs.machine.Step.{plan, step}
use Rattle.ca_model.specs.machine.VerbAnswers.{Answer_plan, Call, Refuse_plan, Unless_plan}
use Rattle.ca_model.specs.machine.World.{Cq_of, Domain_of, Mailbox_of, Queue_of, Srq_of, World}
use Rattle.ca_law_once.proofs.Ties.DeliverLemmas.{present-same}
use Rattle.ca_law_once.proofs.Ties.DeliverWalk.{Has}
use Rattle.ca_law_once.proofs.Ties.EndLemmas.{IsEnd, end-ties}
use Rattle.ca_law_once.proofs.Ties.QuietLemmas.{joined-neither}
use Rattle.ca_law_once.proofs.Ties.TimerLemmas.{IsFoundAt, found-at}
use Rattle.ca_law_once.specs.Ties.{IsBefore, IsOver, IsTied, TiedAfter}
use Rattle.ca_law_once.specs.Ties.IsBefore.{sooner, unnamed}
use Rattle.ca_law_once.specs.Ties.IsOver.{later, vacant}

destroy-ends : (q : QueuePair) (timers : ℕ) → IsEnd (Present q) (NoQueue q.incarnation timers)
destroy-ends q timers = record {
  before = λ life is. early life is;
  over = λ life is. late life is;
  there = λ life t is same. vacant refl (ap (λ (x : QueuePair). x.incarnation) (present-same q t is) ∙ same);
}
  where
    early : (life : Correspondent) → IsBefore life (Present q) → IsBefore life (NoQueue q.incarnation timers) ⊎ IsOver life (NoQueue q.incarnation timers)
    early life (sooner less) = inl (sooner less)
    early life (unnamed t is same none) = inr (vacant refl (ap (λ (x : QueuePair). x.incarnation) (present-same q t is) ∙ same))

    late : (life : Correspondent) → IsOver life (Present q) → IsOver life (NoQueue q.incarnation timers)
    late life (later more) = later more
    late life (vacant none same) = absurd (true≢false none)

has-left : (queues : QueueId → QueueSlot) (boxes : QueueId → Mailbox) (q : QueuePair) (a : Around) (v : World) → Has queues boxes v → Has queues boxes (put_all (left_updates q a) v)
has-left queues boxes q a v has = by q.srq a.shared
  where
    updates : Option ℕ → Option SrqSlot → List Update
    updates (Some srq) (Some slot) = (Srq_of (record { domain = q.domain; slot = srq }) := record {
      srq = option_map (after_receives_retire (places_held q a)) slot.srq;
      users = slot.users - 1;
    }) ∷ []
    updates srq slot = []

    by : (o : Option ℕ) (t : Option SrqSlot) → Has queues boxes (put_all (updates o t) v)
    by None t = has
    by (Some srq) None = has
    by (Some srq) (Some slot) = record { queue = has.queue; mailbox = has.mailbox }

pub destroy-ties : (d : Direction) (s r : Correspondent) (c : Configuration) (w : World) (l : Link) (by : ℕ) (slot : Slot) → IsSoundWorld c w → IsTied d s r w l
    → Comes (λ v ms. TiedAfter d s r w l (λ place. []) (λ place. []) v) (step c w (events.Verb by (verbs.DestroyQp slot)))
destroy-ties d s r c w l by slot sound tied = comes w P (plan c (events.Verb by (verbs.DestroyQp slot))) ((λ named. at (w.queue (queue_of slot)) refl), λ none. same)
  where
    P : World → List Mark → Type 0
    P v ms = TiedAfter d s r w l (λ place. []) (λ place. []) v

    same : TiedAfter d s r w l (λ place. []) (λ place. []) w
    same = joined-neither d s r w w l tied refl refl refl refl

    call : Call
    call = record { by = by; verb = verbs.DestroyQp slot }

    done : QueuePair → Mailbox → Around → Plan
    done q m a = Answer_plan call answers.Fine
        ((Domain_of slot.domain := without_object (w.domain slot.domain))
        ∷ (Queue_of q.queue := NoQueue q.incarnation q.requester.timers)
        ∷ (Mailbox_of q.queue := emptied_mailbox q.incarnation m)
        ∷ (Cq_of (send_cq_of q) := option_map (without_queue q) a.send)
        ∷ (Cq_of (recv_cq_of q) := option_map (without_queue q) a.recv)
        ∷ left_updates q a)
        []

    there_plan : QueueSlot → Plan
    there_plan (NoQueue incarnation timers) = Refuse_plan call NoSuch
    there_plan (Present q) = Look (Mailbox_of q.queue) (λ m. With_around q (λ a. Unless_plan call ((nat_lt 0 q.windows, WindowsBound) ∷ []) (done q m a)))

    at : (x : QueueSlot) → w.queue (queue_of slot) ≡ x → Leads w P (there_plan x)
    at (NoQueue incarnation timers) is = same
    at (Present q) is = leads-around w P q (λ a. Unless_plan call ((nat_lt 0 q.windows, WindowsBound) ∷ []) (done q (w.mailbox q.queue) a))
        (leads-unless w P ((nat_lt 0 q.windows, WindowsBound) ∷ []) (Refuse_plan call) (done q (w.mailbox q.queue) a) (λ x. same)
        (end-ties d s r w v l (queue_of slot) (NoQueue q.incarnation q.requester.timers) box
        (subst (λ n. Has (with_at queue_eq w.queue n (NoQueue q.incarnation q.requester.timers)) (with_at queue_eq w.mailbox n box) v) there.named
        (has-left (with_at queue_eq w.queue q.queue (NoQueue q.incarnation q.requester.timers)) (with_at queue_eq w.mailbox q.queue box) q a v0 (record { queue = refl; mailbox = refl })))
        (subst (λ z. IsEnd z (NoQueue q.incarnation q.requester.timers)) (sym is) (destroy-ends q q.requester.timers)) tied))
      where
        a : Around
        a = around_in w q (shared_of w q)

        box : Mailbox
        box = emptied_mailbox q.incarnation (w.mailbox q.queue)

        there : IsFoundAt w (queue_of slot) q
        there = found-at c w (queue_of slot) q sound is

        v0 : World
        v0 = put_all ((Domain_of slot.domain := without_object (w.domain slot.domain))
            ∷ (Queue_of q.queue := NoQueue q.incarnation q.requester.timers)
            ∷ (Mailbox_of q.queue := box)
            ∷ (Cq_of (send_cq_of q) := option_map (without_queue q) a.send)
            ∷ (Cq_of (recv_cq_of q) := option_map (without_queue q) a.recv)
            ∷ []) w

        v : World
        v = put_all (left_updates q a) v0
