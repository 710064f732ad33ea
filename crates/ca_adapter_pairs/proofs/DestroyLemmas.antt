-- What DestroyQp comes to, by what is held. For proofs only.
use Rattle.std.proofs.Common.{◌≡◌, ◌∙◌, refl, sym, subst, ap, ℕ, nat_lt, true, false, [], ◌∷◌, Ok, Option, None, Some, if◌then◌else◌}
use Rattle.ca_base.specs.objects.Domain.{without_object}
use Rattle.ca_base.specs.objects.QueuePair.{NoQueue, Present, QueuePair}
use Rattle.ca_adapter_acts.specs.Act.{IsAct}
use Rattle.ca_adapter_acts.specs.Binders.{changed_by}
use Rattle.ca_adapter_parts.specs.HeldView.{Holding, hold}
use Rattle.ca_model.specs.Marks.{MarkList}
use Rattle.ca_keys.specs.declared.names.QueueId.{QueueId}
use Rattle.ca_keys.specs.declared.names.Slot.{Slot}
use Rattle.ca_keys.specs.Numbers.{queue_of}
use Rattle.ca_model.specs.declared.answer.Answer.TheVariants as answers
use Rattle.ca_model.specs.declared.answer.Refusal.{Refusal}
use Rattle.ca_model.specs.declared.answer.Refusal.TheVariants as refusals
use Rattle.ca_model.specs.machine.Frame.{AllPass}
use Rattle.ca_model.specs.machine.Plan.{Did, Outcome, ◌:=◌, perform, put_all, touches}
use Rattle.ca_model.specs.machine.QueuePairVerbs.{destroy_qp_plan, emptied_mailbox}
use Rattle.ca_model.specs.machine.VerbAnswers.{Call, answer_mark}
use Rattle.ca_model.specs.machine.World.{Domain_of, Mailbox_of, Queue_of, World}
use Rattle.ca_adapter_pairs.specs.declared.departure.Departure.TheVariants.{Destruction}
use Rattle.ca_adapter_pairs.specs.Departures.{departure_updates, is_around_held}
use Rattle.ca_adapter_pairs.specs.Destroyed.{destroyed_updates}
use Rattle.ca_adapter_pairs.specs.Names.{names_around}

abbrev refused : World → Call → Refusal → Outcome
refused w call r = Did w (answer_mark call (answers.Refused r) ∷ [])

module _ (call : Call) (w : World) (s : Slot) where
  pub none_there : (incarnation timers : ℕ) → w.queue (queue_of s) ≡ NoQueue incarnation timers
      → perform w (destroy_qp_plan call s) ≡ refused w call refusals.NoSuch
  none_there incarnation timers there = rw (there, perform) refl

  abbrev out : QueuePair → QueueId → Outcome
  out q n =
      if nat_lt 0 q.windows then refused w call refusals.WindowsBound
      else Did (put_all ((Domain_of s.domain := without_object (w.domain s.domain))
      ∷ (Queue_of n := NoQueue q.incarnation q.requester.timers)
      ∷ (Mailbox_of n := emptied_mailbox q.incarnation (w.mailbox n))
      ∷ departure_updates Destruction (names_around q) w) w) (answer_mark call answers.Fine ∷ [])

  outcome : (q : QueuePair) → w.queue (queue_of s) ≡ Present q → perform w (destroy_qp_plan call s) ≡ out q q.queue
  outcome q = by q.srq
    where
      by : (o : Option ℕ) → w.queue (queue_of s) ≡ Present (record q { srq = o })
          → perform w (destroy_qp_plan call s) ≡ out (record q { srq = o }) q.queue
      by None there = rw (there, perform) refl
      by (Some srq) there = rw (there, perform) refl

  pub destroy_refused : (q : QueuePair) → w.queue (queue_of s) ≡ Present q → nat_lt 0 q.windows ≡ true
      → perform w (destroy_qp_plan call s) ≡ refused w call refusals.WindowsBound
  destroy_refused q there bound = outcome q there ∙ rw bound refl

  destroy_done : (q : QueuePair) → w.queue (queue_of s) ≡ Present q → q.queue ≡ queue_of s → nat_lt 0 q.windows ≡ false
      → perform w (destroy_qp_plan call s) ≡ Did (put_all (destroyed_updates w s q) w) (answer_mark call answers.Fine ∷ [])
  destroy_done q there named bound = outcome q there ∙ ap (out q) named ∙ rw bound refl

-- what is held
pub record IsPairHeld (s : Slot) (q : QueuePair) (h : Holding) : Type 0 where
  pub mailbox : h.has (Mailbox_of (queue_of s)) ≡ true
  pub around : is_around_held (names_around q) h ≡ true

pub destroy_held : (call : Call) (h : Holding) (s : Slot) (q : QueuePair) → AllPass h.has (touches h.world (destroy_qp_plan call s))
    → h.world.queue (queue_of s) ≡ Present q → q.queue ≡ queue_of s → IsPairHeld s q h
destroy_held call h s q = by q.srq
  where
    by : (o : Option ℕ) → AllPass h.has (touches h.world (destroy_qp_plan call s)) → h.world.queue (queue_of s) ≡ Present (record q { srq = o })
        → q.queue ≡ queue_of s → IsPairHeld s (record q { srq = o }) h
    by None all there named = let t = rw there at all in
        record { mailbox = subst (λ n. h.has (Mailbox_of n) ≡ true) named t.1.1.0; around = rw (t.1.1.1.0, t.1.1.1.1.0) refl }
    by (Some srq) all there named = let t = rw there at all in
        record { mailbox = subst (λ n. h.has (Mailbox_of n) ≡ true) named t.1.1.0; around = rw (t.1.1.1.0, t.1.1.1.1.0, t.1.1.1.1.1.0) refl }

-- the changes, one after another
module _ (call : Call) (s : Slot) (h left counted vacant new : Holding) (m : MarkList) where
  chain : (q : QueuePair) → left ≡ changed_by (departure_updates Destruction (names_around q) h.world) h
      → counted ≡ hold left (Domain_of s.domain) (without_object (left.world.domain s.domain))
      → vacant ≡ hold counted (Queue_of (queue_of s)) (NoQueue q.incarnation q.requester.timers)
      → new ≡ hold vacant (Mailbox_of (queue_of s)) (emptied_mailbox q.incarnation (vacant.world.mailbox (queue_of s)))
      → new ≡ record h { world = put_all (destroyed_updates h.world s q) h.world }
  chain q = by q.srq
    where
      by : (o : Option ℕ) → left ≡ changed_by (departure_updates Destruction (names_around (record q { srq = o })) h.world) h
          → counted ≡ hold left (Domain_of s.domain) (without_object (left.world.domain s.domain))
          → vacant ≡ hold counted (Queue_of (queue_of s)) (NoQueue q.incarnation q.requester.timers)
          → new ≡ hold vacant (Mailbox_of (queue_of s)) (emptied_mailbox q.incarnation (vacant.world.mailbox (queue_of s)))
          → new ≡ record h { world = put_all (destroyed_updates h.world s (record q { srq = o })) h.world }
      by None a b c d = d ∙ ap (λ v. hold v (Mailbox_of (queue_of s)) (emptied_mailbox q.incarnation (v.world.mailbox (queue_of s))))
          (c ∙ ap (λ v. hold v (Queue_of (queue_of s)) (NoQueue q.incarnation q.requester.timers))
          (b ∙ ap (λ v. hold v (Domain_of s.domain) (without_object (v.world.domain s.domain))) a))
      by (Some srq) a b c d = d ∙ ap (λ v. hold v (Mailbox_of (queue_of s)) (emptied_mailbox q.incarnation (v.world.mailbox (queue_of s))))
          (c ∙ ap (λ v. hold v (Queue_of (queue_of s)) (NoQueue q.incarnation q.requester.timers))
          (b ∙ ap (λ v. hold v (Domain_of s.domain) (without_object (v.world.domain s.domain))) a))

  pub destroy_acts : (q : QueuePair) → h.world.queue (queue_of s) ≡ Present q → q.queue ≡ queue_of s → nat_lt 0 q.windows ≡ false
      → left ≡ changed_by (departure_updates Destruction (names_around q) h.world) h
      → counted ≡ hold left (Domain_of s.domain) (without_object (left.world.domain s.domain))
      → vacant ≡ hold counted (Queue_of (queue_of s)) (NoQueue q.incarnation q.requester.timers)
      → new ≡ hold vacant (Mailbox_of (queue_of s)) (emptied_mailbox q.incarnation (vacant.world.mailbox (queue_of s)))
      → m.marks ≡ answer_mark call answers.Fine ∷ [] → IsAct (Ok m) (perform h.world (destroy_qp_plan call s)) h new
  destroy_acts q there named bound a b c d marks =
      subst (λ o. IsAct (Ok m) o h new) (sym (destroy_done call h.world s q there named bound)) (marks, chain q a b c d)
