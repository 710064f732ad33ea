-- A vacant slot stays vacant, or a later life comes there. For proofs only.
use Rattle.std.proofs.Common.{◌≡◌, ℕ, ◌<◌, arith, Bool, true, false, if◌then◌else◌, List, take, length, Option, None, Some, refl, ap, sym, ◌∙◌, true≢false}
use Rattle.ca_law_endings.proofs.LeadsLemmas.{comes, leads-weaker}
use Rattle.ca_law_endings.specs.Runs.{Comes, Leads}
use Rattle.ca_law_order.proofs.Polls.PlanLemmas.{created, leads-create, leads-poll}
use Rattle.ca_base.specs.Configuration.{Configuration}
use Rattle.ca_base.specs.objects.CompletionQueue.{CompletionQueue, after_polls}
use Rattle.ca_base.specs.objects.Mailbox.{Mailbox}
use Rattle.ca_base.specs.objects.QueuePair.{QueuePair, QueueSlot, Present, incarnation_of, is_present}
use Rattle.ca_base.specs.objects.SharedReceives.{SharedReceives}
use Rattle.ca_keys.specs.Equal.{queue_eq}
use Rattle.ca_keys.specs.Numbers.{queue_of}
use Rattle.ca_keys.specs.declared.names.QueueId.{QueueId}
use Rattle.ca_law_world.proofs.Sound.SettledLemmas.{queue-path}
use Rattle.ca_model.specs.Past.{with_at}
use Rattle.ca_model.specs.declared.event.Event.{Event}
use Rattle.ca_model.specs.declared.event.Event.TheVariants as events
use Rattle.ca_model.specs.declared.mark.Mark.{Mark}
use Rattle.ca_model.specs.declared.verb.Verb.{Verb}
use Rattle.ca_model.specs.declared.verb.Verb.TheVariants as verbs
use Rattle.ca_model.specs.machine.Plan.{put_all}
use Rattle.ca_model.specs.machine.QueuePairVerbs.{Creation, new_queue}
use Rattle.ca_model.specs.machine.Sound.{IsSoundWorld}
use Rattle.ca_model.specs.machine.Step.{plan, step, verb_plan}
use Rattle.ca_model.specs.machine.VerbAnswers.{Call}
use Rattle.ca_model.specs.machine.World.{Cq_of, World, put}
use Rattle.ca_law_once.proofs.Ties.DeliverWalk.{leads-deliver}
use Rattle.ca_law_once.specs.Ties.{LeavesPairs}
use Rattle.ca_law_once.proofs.Verbs.PairLemmas.{Replaces, replaces-changed}
use Rattle.ca_law_once.proofs.Verbs.PollLemmas.{AreFreer, IsFreerSlot, poll-freers}
use Rattle.ca_law_once.proofs.Verbs.PollLemmas.IsFreerSlot.{freer, untouched}
use Rattle.ca_law_once.proofs.Verbs.TurnWalks.{leads-request, leads-respond, leads-timeout, leads-wake}
use Rattle.ca_law_once.proofs.Verbs.WalkLemmas.{SamePairs, leads-aside, leads-change, leads-dealloc, leads-destroy, leads-inject, leads-post, leads-receive}

-- a vacant slot stays vacant, or a later life comes there
abbrev pub Lasting : World → World → Type 0
Lasting w v = (n : QueueId) → is_present (w.queue n) ≡ false → is_present (v.queue n) ≡ true → incarnation_of (w.queue n) < incarnation_of (v.queue n)

same-slots : (w v : World) → v.queue ≡ w.queue → Lasting w v
same-slots w v same n none some = absurd (true≢false (sym some ∙ ap (λ (f : QueueId → QueueSlot). is_present (f n)) same ∙ none))

-- a queue pair that was there gives way to another slot
found-slot : (w v : World) (name : QueueId) (q : QueuePair) (slot : QueueSlot) (box : Mailbox) → w.queue name ≡ Present q → Replaces w name slot box v → Lasting w v
found-slot w v name q slot box is replaces n none some = by (queue_eq name n) refl
  where
    by : (b : Bool) → queue_eq name n ≡ b → incarnation_of (w.queue n) < incarnation_of (v.queue n)
    by true e = absurd (true≢false (sym (ap is_present is) ∙ ap (λ k. is_present (w.queue k)) (queue-path name n e) ∙ none))
    by false e = absurd (true≢false (sym some ∙ ap is_present (replaces.elsewhere n e).0 ∙ none))

-- the same where one slot is put
put-slot : (w v : World) (name : QueueId) (q : QueuePair) (slot : QueueSlot) → w.queue name ≡ Present q → v.queue ≡ with_at queue_eq w.queue name slot → Lasting w v
put-slot w v name q slot is puts n none some = by (queue_eq name n) refl
  where
    by : (b : Bool) → queue_eq name n ≡ b → incarnation_of (w.queue n) < incarnation_of (v.queue n)
    by true e = absurd (true≢false (sym (ap is_present is) ∙ ap (λ k. is_present (w.queue k)) (queue-path name n e) ∙ none))
    by false e = absurd (true≢false (sym some ∙ ap (λ (f : QueueId → QueueSlot). is_present (f n)) puts ∙ ap (λ b. is_present (if b then slot else w.queue n)) e ∙ none))

-- a queue pair that is made
made-slot : (w v : World) (name : QueueId) (slot : QueueSlot) → v.queue ≡ with_at queue_eq w.queue name slot → incarnation_of (w.queue name) < incarnation_of slot → Lasting w v
made-slot w v name slot puts more n none some = by (queue_eq name n) refl
  where
    by : (b : Bool) → queue_eq name n ≡ b → incarnation_of (w.queue n) < incarnation_of (v.queue n)
    by true e = omega (arith, more, ap (λ k. incarnation_of (w.queue k)) (queue-path name n e), ap (λ (f : QueueId → QueueSlot). incarnation_of (f n)) puts, ap (λ b. incarnation_of (if b then slot else w.queue n)) e)
    by false e = absurd (true≢false (sym some ∙ ap (λ (f : QueueId → QueueSlot). is_present (f n)) puts ∙ ap (λ b. is_present (if b then slot else w.queue n)) e ∙ none))

freer-slots : (w v : World) → AreFreer w v → Lasting w v
freer-slots w v freers n none some = by (freers.queues n)
  where
    by : IsFreerSlot (w.queue n) (v.queue n) → incarnation_of (w.queue n) < incarnation_of (v.queue n)
    by (untouched same) = absurd (true≢false (sym some ∙ ap is_present same ∙ none))
    by (freer q p one other f) = absurd (true≢false (sym (ap is_present one) ∙ none))

created-queue : (w : World) (x : Creation) (send recv : CompletionQueue) (shared : Option SharedReceives)
    → (put_all (created w x send recv shared) w).queue ≡ with_at queue_eq w.queue (queue_of x.slot) (Present (new_queue x (w.queue (queue_of x.slot))))
created-queue w x send recv shared = by x.srq
  where
    by : (o : Option ℕ) → (put_all (created w (record x { srq = o }) send recv shared) w).queue ≡ with_at queue_eq w.queue (queue_of x.slot) (Present (new_queue (record x { srq = o }) (w.queue (queue_of x.slot))))
    by None = refl
    by (Some srq) = refl

module _ (c : Configuration) (w : World) (sound : IsSoundWorld c w) where
  abbrev P : World → List Mark → Type 0
  P v ms = Lasting w v

  unmoved : Lasting w w
  unmoved = same-slots w w refl

  aside-lasts : (call : Call) (verb : Verb) → LeavesPairs verb → Leads w P (verb_plan c call verb)
  aside-lasts call verb leaves = leads-weaker w (SamePairs w) P (verb_plan c call verb) (λ v ms same. same-slots w v same.0) (leads-aside c w call verb leaves (refl, refl))

  verb-lasts : (call : Call) (verb : Verb) → Leads w P (verb_plan c call verb)
  verb-lasts call (verbs.ModifyQp slot change) = leads-change c w P call slot change sound (λ r. unmoved) (λ q v there among replaces. found-slot w v (queue_of slot) q _ _ there.is replaces)
  verb-lasts call (verbs.CreateQp slot send_cq recv_cq send_depth recv_depth srq) = leads-create c w P call x (λ r. unmoved) (λ send recv shared sends receives.
      made-slot w (put_all (created w x send recv shared) w) (queue_of slot) (Present (new_queue x (w.queue (queue_of slot)))) (created-queue w x send recv shared) (omega arith))
    where
      x : Creation
      x = record { slot = slot; send_cq = send_cq; recv_cq = recv_cq; send_depth = send_depth; recv_depth = recv_depth; srq = srq }
  verb-lasts call (verbs.DestroyQp slot) = leads-destroy c w P call slot sound (λ r. unmoved) (λ q v there replaces. found-slot w v (queue_of slot) q _ _ there.is replaces)
  verb-lasts call (verbs.PostSend slot request) = leads-post c w P call slot request sound (λ r. unmoved) (λ q v drawn key there fails replaces. found-slot w v (queue_of slot) q _ _ there.is replaces)
  verb-lasts call (verbs.PostRecv slot request) = leads-receive c w P call slot request sound (λ r. unmoved) (λ q v there replaces. found-slot w v (queue_of slot) q _ _ there.is replaces)
  verb-lasts call (verbs.Poll slot n least) = leads-poll w P call slot n least (λ r. unmoved)
      (λ cq us is freed. freer-slots w (put_all us (put w (Cq_of slot) (Some (after_polls (length (take n cq.waiting)) cq))))
      (poll-freers c w slot cq n us (put w (Cq_of slot) (Some (after_polls (length (take n cq.waiting)) cq))) sound is freed refl refl))
  verb-lasts call (verbs.DeallocMw slot) = leads-dealloc w P call slot (λ r. unmoved) (λ v o queue mail. same-slots w v queue) (λ name p v o is queue mail. put-slot w v name p _ is queue)
  verb-lasts call (verbs.Inject name bytes) = leads-inject c w P call name bytes sound (λ r. unmoved) (λ q shared e v there same ends replaces. found-slot w v name q _ _ there.is replaces)
  verb-lasts call (verbs.AllocPd domain) = aside-lasts call (verbs.AllocPd domain) (record {})
  verb-lasts call (verbs.DeallocPd domain) = aside-lasts call (verbs.DeallocPd domain) (record {})
  verb-lasts call (verbs.RegMr slot buffer offset count rights) = aside-lasts call (verbs.RegMr slot buffer offset count rights) (record {})
  verb-lasts call (verbs.AllocMr slot pages) = aside-lasts call (verbs.AllocMr slot pages) (record {})
  verb-lasts call (verbs.DeregMr slot) = aside-lasts call (verbs.DeregMr slot) (record {})
  verb-lasts call (verbs.AllocMw slot kind) = aside-lasts call (verbs.AllocMw slot kind) (record {})
  verb-lasts call (verbs.CreateCq slot capacity) = aside-lasts call (verbs.CreateCq slot capacity) (record {})
  verb-lasts call (verbs.DestroyCq slot) = aside-lasts call (verbs.DestroyCq slot) (record {})
  verb-lasts call (verbs.CreateSrq slot depth) = aside-lasts call (verbs.CreateSrq slot depth) (record {})
  verb-lasts call (verbs.DestroySrq slot) = aside-lasts call (verbs.DestroySrq slot) (record {})
  verb-lasts call (verbs.QueryQp slot) = aside-lasts call (verbs.QueryQp slot) (record {})
  verb-lasts call (verbs.PostSrq slot request) = aside-lasts call (verbs.PostSrq slot request) (record {})
  verb-lasts call (verbs.Store adapter buffer offset bytes) = aside-lasts call (verbs.Store adapter buffer offset bytes) (record {})
  verb-lasts call (verbs.Load adapter buffer offset count) = aside-lasts call (verbs.Load adapter buffer offset count) (record {})

  leads-lasting : (event : Event) → Leads w P (plan c event)
  leads-lasting (events.Verb by verb) = (λ named. verb-lasts (record { by = by; verb = verb }) verb, λ none. unmoved)
  leads-lasting (events.Request name lot) = leads-request c w P name lot sound
      (λ q p room n e v ms there names turn ends goes. put-slot w v q.queue q (Present e.queue) (ap w.queue there.named ∙ there.is) goes.queue)
      (λ q n e v there turn quiet replaces. found-slot w v name q _ _ there.is replaces)
  leads-lasting (events.Respond name lot) = leads-respond c w P name lot sound (λ q p room e v ms there names ends goes. put-slot w v q.queue q (Present e.queue) (ap w.queue there.named ∙ there.is) goes.queue)
  leads-lasting (events.Timeout name hasten) = leads-timeout c w P name hasten sound (λ q silent v there sends replaces. found-slot w v name q _ _ there.is replaces)
  leads-lasting (events.RnrWake name) = leads-wake c w P name sound (λ q v there sends replaces. found-slot w v name q _ _ there.is replaces)
  leads-lasting (events.Deliver name index) = leads-deliver c w P name index sound (λ q bytes shared e v ms is good lent ends changes told told_writes.
      found-slot w v name q _ _ is (replaces-changed w v name _ _ changes))

pub event-lasts : (c : Configuration) (w : World) (event : Event) → IsSoundWorld c w → Comes (λ v ms. Lasting w v) (step c w event)
event-lasts c w event sound = comes w (λ v ms. Lasting w v) (plan c event) (leads-lasting c w sound event)
