-- Every event keeps a world tied, where its marks agree with the direction. For proofs only.
use Rattle.std.proofs.Common.{◌≡◌, ℕ, Bool, true, false, if◌then◌else◌, List, [], take, length, Option, None, Some, refl, ap, sym, subst, ◌∙◌}
use Rattle.ca_law_endings.proofs.InnerLemmas.{IsInner, arrival-inner}
use Rattle.ca_law_endings.proofs.LeadsLemmas.{comes}
use Rattle.ca_law_endings.specs.Runs.{Comes, Leads}
use Rattle.ca_law_order.proofs.Polls.PlanLemmas.{leads-poll}
use Rattle.ca_law_order.proofs.Polls.PostingLemmas.{Refuses}
use Rattle.ca_base.specs.Configuration.{Configuration}
use Rattle.ca_base.specs.declared.change.Change as state_change
use Rattle.ca_base.specs.declared.change.Change.TheVariants as changes
use Rattle.ca_base.specs.declared.correspondent.Correspondent.{Correspondent}
use Rattle.ca_base.specs.objects.QueuePair.{QueuePair, QueueSlot, Present}
use Rattle.ca_base.specs.objects.SharedReceives.{SharedReceives}
use Rattle.ca_connection.specs.Layout.{Direction}
use Rattle.ca_connection.specs.Link.{Link}
use Rattle.ca_keys.specs.Equal.{queue_eq}
use Rattle.ca_keys.specs.Numbers.{queue_of}
use Rattle.ca_base.specs.declared.request.RecvRequest.{RecvRequest}
use Rattle.ca_base.specs.declared.request.SendRequest.{SendRequest}
use Rattle.ca_base.specs.objects.CompletionQueue.{CompletionQueue, after_polls}
use Rattle.ca_keys.specs.declared.names.QueueId.{QueueId}
use Rattle.ca_keys.specs.declared.names.Slot.{Slot}
use Rattle.ca_law_world.proofs.Sound.SettledLemmas.{queue-path}
use Rattle.ca_model.specs.declared.answer.Refusal.TheVariants.{NoSuch}
use Rattle.ca_model.specs.declared.event.Event.{Event}
use Rattle.ca_model.specs.declared.event.Event.TheVariants as events
use Rattle.ca_model.specs.declared.mark.Mark.{Mark}
use Rattle.ca_model.specs.declared.verb.Verb.{Verb}
use Rattle.ca_model.specs.declared.verb.Verb.TheVariants as verbs
use Rattle.ca_model.specs.machine.Delivery.{arrival_row}
use Rattle.ca_model.specs.machine.Plan.{Outcome, NotReady, Did, Update, put_all}
use Rattle.ca_model.specs.machine.Row.{Effects}
use Rattle.ca_model.specs.machine.Sound.{IsSoundWorld}
use Rattle.ca_model.specs.machine.Step.{plan, step, verb_plan}
use Rattle.ca_model.specs.machine.VerbAnswers.{Call}
use Rattle.ca_model.specs.machine.World.{Cq_of, World, put}
use Rattle.ca_law_once.proofs.Ties.AsideLemmas.{aside-ties}
use Rattle.ca_law_once.proofs.Ties.CreateLemmas.{create-ties}
use Rattle.ca_law_once.proofs.Ties.DeliverTies.{deliver-ties}
use Rattle.ca_law_once.proofs.Ties.DeliverWalk.{Ends, ends-as, ends-do}
use Rattle.ca_law_once.proofs.Ties.DestroyLemmas.{destroy-ties}
use Rattle.ca_law_once.proofs.Ties.EndLemmas.{modify-ties}
use Rattle.ca_law_once.proofs.Ties.TimerLemmas.{timeout-ties, wake-ties}
use Rattle.ca_law_once.proofs.Ties.TurnTies.{request-plan-ties, respond-ties}
use Rattle.ca_law_once.specs.Ties.{IsTied, LeavesPairs, MailFollows, TiedAfter}
use Rattle.ca_law_once.specs.Sides.{responder_in}
use Rattle.ca_law_once.proofs.Verbs.PairLemmas.{IsStill, IsStillSlot, same-requester, tied-replaced, tied-slots, unchanged}
use Rattle.ca_law_once.proofs.Verbs.PairLemmas.IsStillSlot.{touched, untouched as still_untouched}
use Rattle.ca_law_once.proofs.Verbs.PollLemmas.{AreFreer, IsFreer, IsFreerSlot, poll-freers}
use Rattle.ca_law_once.proofs.Verbs.PollLemmas.IsFreerSlot.{freer, untouched as freer_untouched}
use Rattle.ca_law_once.proofs.Verbs.VerbTies.{IsGoingOn, TiedIfAgreed, change-ties, post-ties, receive-ties}
use Rattle.ca_law_once.proofs.Verbs.WalkLemmas.{leads-change, leads-dealloc, leads-inject, leads-post, leads-receive, window_fewer}
use Rattle.ca_law_once.specs.Agrees.{AgreesWith, acted_by, written_by}
use Rattle.ca_law_once.specs.Beginnings.{AllBeginEmpty}

pub comes-weaker : (P Q : World → List Mark → Type 0) (o : Outcome) → ((v : World) (ms : List Mark) → P v ms → Q v ms) → Comes P o → Comes Q o
comes-weaker P Q (NotReady reason) follows came = record {}
comes-weaker P Q (Did v ms) follows came = follows v ms came

-- a queue pair of which only places are freed stays so to a link
freer-still : (d : Direction) (q p : QueuePair) → IsFreer q p → IsStill d q p
freer-still d q p f = record {
  end = record {
    incarnation = f.incarnation;
    peer = f.peer;
    mtu = ap (λ r. r.mtu) f.responder;
    responder = λ i. responder_in (record q { responder = f.responder i; saved = f.saved i });
  };
  requester = same-requester d q p f.state f.requester f.items (ap (λ r. r.mtu) f.responder);
}

freer-slot : (d : Direction) (a b : QueueSlot) → IsFreerSlot a b → IsStillSlot d a b
freer-slot d a b (freer_untouched same) = still_untouched same
freer-slot d a b (freer q p one other is) = touched q p one other (freer-still d q p is)

module _ (d : Direction) (s r : Correspondent) (c : Configuration) (w : World) (l : Link) (sound : IsSoundWorld c w) (empty : AllBeginEmpty w) (tied : IsTied d s r w l) where
  refused : (call : Call) → Refuses w (TiedIfAgreed d s r w l) call
  refused call x agrees = unchanged d s r w l tied

  -- a verb that is refused where a name of it is not configured
  leads-verb : (by : ℕ) (verb : Verb) → Leads w (TiedIfAgreed d s r w l) (verb_plan c (record { by = by; verb = verb }) verb) → Comes (TiedIfAgreed d s r w l) (step c w (events.Verb by verb))
  leads-verb by verb leads = comes w (TiedIfAgreed d s r w l) (plan c (events.Verb by verb)) (λ named. leads, λ none. refused (record { by = by; verb = verb }) NoSuch)

  pub change-keeps : (by : ℕ) (slot : Slot) (change : state_change.Change) → IsGoingOn change → Comes (TiedIfAgreed d s r w l) (step c w (events.Verb by (verbs.ModifyQp slot change)))
  change-keeps by slot change goes = leads-verb by (verbs.ModifyQp slot change)
      (leads-change c w (TiedIfAgreed d s r w l) (record { by = by; verb = verbs.ModifyQp slot change }) slot change sound (refused (record { by = by; verb = verbs.ModifyQp slot change }))
      (λ q v there among replaces agrees. change-ties d s r w v l (queue_of slot) q change goes there empty among replaces agrees tied))

  pub post-keeps : (by : ℕ) (slot : Slot) (request : SendRequest) → Comes (TiedIfAgreed d s r w l) (step c w (events.Verb by (verbs.PostSend slot request)))
  post-keeps by slot request = leads-verb by (verbs.PostSend slot request)
      (leads-post c w (TiedIfAgreed d s r w l) (record { by = by; verb = verbs.PostSend slot request }) slot request sound (refused (record { by = by; verb = verbs.PostSend slot request }))
      (λ q v drawn key there fails replaces agrees. post-ties d s r w v l (queue_of slot) q request drawn there replaces agrees tied))

  pub receive-keeps : (by : ℕ) (slot : Slot) (request : RecvRequest) → Comes (TiedIfAgreed d s r w l) (step c w (events.Verb by (verbs.PostRecv slot request)))
  receive-keeps by slot request = leads-verb by (verbs.PostRecv slot request)
      (leads-receive c w (TiedIfAgreed d s r w l) (record { by = by; verb = verbs.PostRecv slot request }) slot request sound (refused (record { by = by; verb = verbs.PostRecv slot request }))
      (λ q v there replaces agrees. receive-ties d s r w v l (queue_of slot) q request there replaces tied))

  pub poll-keeps : (by : ℕ) (slot : Slot) (n least : ℕ) → Comes (TiedIfAgreed d s r w l) (step c w (events.Verb by (verbs.Poll slot n least)))
  poll-keeps by slot n least = leads-verb by (verbs.Poll slot n least)
      (leads-poll w (TiedIfAgreed d s r w l) (record { by = by; verb = verbs.Poll slot n least }) slot n least (refused (record { by = by; verb = verbs.Poll slot n least }))
      (λ cq us is freed agrees. polled cq us (poll-freers c w slot cq n us (put w (Cq_of slot) (Some (after_polls (length (take n cq.waiting)) cq))) sound is freed refl refl)))
    where
      polled : (cq : CompletionQueue) (us : List Update) → AreFreer w (put_all us (put w (Cq_of slot) (Some (after_polls (length (take n cq.waiting)) cq))))
          → TiedAfter d s r w l (λ place. []) (λ place. []) (put_all us (put w (Cq_of slot) (Some (after_polls (length (take n cq.waiting)) cq))))
      polled cq us freers = tied-slots d s r w (put_all us (put w (Cq_of slot) (Some (after_polls (length (take n cq.waiting)) cq)))) l (λ m. freer-slot d _ _ (freers.queues m)) freers.mail tied

  pub dealloc-keeps : (by : ℕ) (slot : Slot) → Comes (TiedIfAgreed d s r w l) (step c w (events.Verb by (verbs.DeallocMw slot)))
  dealloc-keeps by slot = leads-verb by (verbs.DeallocMw slot)
      (leads-dealloc w (TiedIfAgreed d s r w l) (record { by = by; verb = verbs.DeallocMw slot }) slot (refused (record { by = by; verb = verbs.DeallocMw slot }))
      (λ v o queue mail agrees. tied-slots d s r w v l (λ n. still_untouched (ap (λ (f : QueueId → QueueSlot). f n) queue)) mail tied)
      (λ name p v o is queue mail agrees. tied-slots d s r w v l (λ n. subst (λ (f : QueueId → QueueSlot). IsStillSlot d (w.queue n) (f n)) (sym queue) (at name p is n (queue_eq name n) refl)) mail tied))
    where
      at : (name : QueueId) (p : QueuePair) → w.queue name ≡ Present p → (n : QueueId) (b : Bool) → queue_eq name n ≡ b → IsStillSlot d (w.queue n) (if b then Present (window_fewer p) else w.queue n)
      at name p is n true e = touched p (window_fewer p) (ap w.queue (sym (queue-path name n e)) ∙ is) refl (record {
        end = record { incarnation = refl; peer = refl; mtu = refl; responder = refl };
        requester = same-requester d p (window_fewer p) refl refl refl refl;
      })
      at name p is n false e = still_untouched refl

  pub inject-keeps : (by : ℕ) (name : QueueId) (bytes : List ℕ) → Comes (TiedIfAgreed d s r w l) (step c w (events.Verb by (verbs.Inject name bytes)))
  inject-keeps by name bytes = leads-verb by (verbs.Inject name bytes)
      (leads-inject c w (TiedIfAgreed d s r w l) (record { by = by; verb = verbs.Inject name bytes }) name bytes sound (refused (record { by = by; verb = verbs.Inject name bytes }))
      (λ q shared e v there same ends replaces agrees. tied-replaced d s r w v l name q e.queue (w.mailbox name) there.is (inner q shared e ends).incarnation replaces
      (λ life. absurd (agrees.sender life)) (λ life. absurd (agrees.receiver life)) tied))
    where
      inner : (q : QueuePair) (shared : Option SharedReceives) (e : Effects) → Ends (arrival_row bytes None shared q) e → IsInner q e
      inner q shared e ends = ends-do (IsInner q) (arrival_row bytes None shared q) e ends (ends-as (IsInner q) (arrival_row bytes None shared q) (arrival-inner bytes None shared q))

  -- a verb of which it is known without any agreement
  anyway : (o : Outcome) → Comes (λ v ms. TiedAfter d s r w l (λ place. []) (λ place. []) v) o → Comes (TiedIfAgreed d s r w l) o
  anyway o came = comes-weaker (λ v ms. TiedAfter d s r w l (λ place. []) (λ place. []) v) (TiedIfAgreed d s r w l) o (λ v ms after agrees. after) came

  aside : (by : ℕ) (verb : Verb) → LeavesPairs verb → Comes (TiedIfAgreed d s r w l) (step c w (events.Verb by verb))
  aside by verb leaves = anyway (step c w (events.Verb by verb)) (aside-ties d s r c w l by verb leaves tied)

  verb-keeps : (by : ℕ) (verb : Verb) → Comes (TiedIfAgreed d s r w l) (step c w (events.Verb by verb))
  verb-keeps by (verbs.ModifyQp slot changes.Error) = anyway _ (modify-ties d s r c w l by slot sound tied).0
  verb-keeps by (verbs.ModifyQp slot changes.Reset) = anyway _ (modify-ties d s r c w l by slot sound tied).1
  verb-keeps by (verbs.ModifyQp slot changes.Init) = change-keeps by slot changes.Init (record {})
  verb-keeps by (verbs.ModifyQp slot (changes.Rtr peer incarnation psn mtu rnr_code)) = change-keeps by slot (changes.Rtr peer incarnation psn mtu rnr_code) (record {})
  verb-keeps by (verbs.ModifyQp slot (changes.Rts psn retry rnr_retry reads)) = change-keeps by slot (changes.Rts psn retry rnr_retry reads) (record {})
  verb-keeps by (verbs.ModifyQp slot changes.Sqd) = change-keeps by slot changes.Sqd (record {})
  verb-keeps by (verbs.ModifyQp slot changes.Resume) = change-keeps by slot changes.Resume (record {})
  verb-keeps by (verbs.CreateQp slot send_cq recv_cq send_depth recv_depth srq) = anyway _ (create-ties d s r c w l by slot send_cq recv_cq send_depth recv_depth srq tied)
  verb-keeps by (verbs.DestroyQp slot) = anyway _ (destroy-ties d s r c w l by slot sound tied)
  verb-keeps by (verbs.PostSend slot request) = post-keeps by slot request
  verb-keeps by (verbs.PostRecv slot request) = receive-keeps by slot request
  verb-keeps by (verbs.Poll slot n least) = poll-keeps by slot n least
  verb-keeps by (verbs.DeallocMw slot) = dealloc-keeps by slot
  verb-keeps by (verbs.Inject name bytes) = inject-keeps by name bytes
  verb-keeps by (verbs.AllocPd domain) = aside by (verbs.AllocPd domain) (record {})
  verb-keeps by (verbs.DeallocPd domain) = aside by (verbs.DeallocPd domain) (record {})
  verb-keeps by (verbs.RegMr slot buffer offset count rights) = aside by (verbs.RegMr slot buffer offset count rights) (record {})
  verb-keeps by (verbs.AllocMr slot pages) = aside by (verbs.AllocMr slot pages) (record {})
  verb-keeps by (verbs.DeregMr slot) = aside by (verbs.DeregMr slot) (record {})
  verb-keeps by (verbs.AllocMw slot kind) = aside by (verbs.AllocMw slot kind) (record {})
  verb-keeps by (verbs.CreateCq slot capacity) = aside by (verbs.CreateCq slot capacity) (record {})
  verb-keeps by (verbs.DestroyCq slot) = aside by (verbs.DestroyCq slot) (record {})
  verb-keeps by (verbs.CreateSrq slot depth) = aside by (verbs.CreateSrq slot depth) (record {})
  verb-keeps by (verbs.DestroySrq slot) = aside by (verbs.DestroySrq slot) (record {})
  verb-keeps by (verbs.QueryQp slot) = aside by (verbs.QueryQp slot) (record {})
  verb-keeps by (verbs.PostSrq slot request) = aside by (verbs.PostSrq slot request) (record {})
  verb-keeps by (verbs.Store adapter buffer offset bytes) = aside by (verbs.Store adapter buffer offset bytes) (record {})
  verb-keeps by (verbs.Load adapter buffer offset count) = aside by (verbs.Load adapter buffer offset count) (record {})

pub event-ties : (d : Direction) (s r : Correspondent) (c : Configuration) (w : World) (l : Link) (event : Event) → IsSoundWorld c w → MailFollows w → AllBeginEmpty w → IsTied d s r w l
    → Comes (λ v ms. AgreesWith d s r w ms → TiedAfter d s r w l (acted_by r w l event ms) (written_by r w l event ms) v) (step c w event)
event-ties d s r c w l (events.Verb by verb) sound follows empty tied = verb-keeps d s r c w l sound empty tied by verb
event-ties d s r c w l (events.Request name lot) sound follows empty tied = anyway d s r c w l sound empty tied _ (request-plan-ties d s r c w l name lot sound follows tied)
event-ties d s r c w l (events.Respond name lot) sound follows empty tied = anyway d s r c w l sound empty tied _ (respond-ties d s r c w l name lot sound follows tied)
event-ties d s r c w l (events.Timeout name hasten) sound follows empty tied = anyway d s r c w l sound empty tied _ (timeout-ties d s r c w l name hasten sound tied)
event-ties d s r c w l (events.RnrWake name) sound follows empty tied = anyway d s r c w l sound empty tied _ (wake-ties d s r c w l name sound tied)
event-ties d s r c w l (events.Deliver name index) sound follows empty tied = comes-weaker _ _ (step c w (events.Deliver name index)) (λ v ms after agrees. after) (deliver-ties d s r c w l name index sound tied)
