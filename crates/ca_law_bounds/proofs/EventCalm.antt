-- Each event that injects nothing, and sends packets that are no RNR NAK, keeps a world calm. For proofs only.
use Rattle.std.proofs.Common.{◌≡◌, ℕ, ◌&&◌, Bool, true, false, if◌then◌else◌, List, [], ◌∷◌, ◌++◌, length, take, Option, None, Some, refl, ap, sym, subst, ◌∙◌, true≢false, rules}
use Rattle.std.proofs.lemmas.Bool.{not-false}
use Rattle.std.specs.List.{AllByRecursion}
use Rattle.std.specs.Option.{option_map_or}
use Rattle.ca_law_endings.proofs.LeadsLemmas.{AreAside, comes, leads-around, leads-queue, leads-unless, leads-weaker}
use Rattle.ca_law_endings.specs.Runs.{Comes, Leads}
use Rattle.ca_law_order.proofs.Polls.OperationLemmas.{leads-operation}
use Rattle.ca_law_order.proofs.Polls.PlanLemmas.{created, leads-create, leads-poll}
use Rattle.ca_law_order.proofs.Polls.PostingLemmas.{Refuses}
use Rattle.ca_law_order.proofs.Polls.TurnLemmas.{leads-tests}
use Rattle.ca_base.specs.Configuration.{Configuration}
use Rattle.ca_base.specs.declared.change.Change as state_change
use Rattle.ca_base.specs.declared.change.Change.TheVariants as changes
use Rattle.ca_base.specs.declared.change.State.TheVariants as states
use Rattle.ca_base.specs.declared.correspondent.Correspondent.{Correspondent}
use Rattle.ca_base.specs.declared.lot.Lot.{Lot}
use Rattle.ca_base.specs.declared.queue_numbers.RequesterNumbers.{RequesterNumbers}
use Rattle.ca_base.specs.declared.step.Reason.TheVariants as reasons
use Rattle.ca_base.specs.objects.CompletionQueue.{after_polls}
use Rattle.ca_base.specs.objects.Mailbox.{Mailbox, after_delivery, later_than, with_peer}
use Rattle.ca_base.specs.objects.QueuePair.{QueuePair, QueueSlot, NoQueue, Present, with_all_flushed}
use Rattle.ca_base.specs.objects.SharedReceives.{SharedReceives}
use Rattle.ca_base.specs.objects.StateTable.{queue_after_change, state_eq}
use Rattle.ca_law_bounds.proofs.MailLemmas.{addressed-delivered, addressed-lent, replaced-calm, sent-calm, sent-whole, turn-addressed}
use Rattle.ca_law_bounds.specs.CalmMail.{AreAddressed, IsAddressed, IsCalmWorld, IsWithoutInjection, IsNotWaiting, SendsNoRnrNak, SendsPacket}
use Rattle.ca_keys.specs.Equal.{queue_eq}
use Rattle.ca_keys.specs.Memory.{ByteMap}
use Rattle.ca_keys.specs.Numbers.{queue_of}
use Rattle.ca_keys.specs.declared.key.Key.{Key}
use Rattle.ca_keys.specs.declared.names.QueueId.{QueueId}
use Rattle.ca_law_world.proofs.Sound.WorldLemmas.{around_in, shared_of}
use Rattle.ca_model.specs.Past.{with_at}
use Rattle.ca_model.specs.declared.answer.Refusal.TheVariants.{NoSuch}
use Rattle.ca_model.specs.declared.event.Event.{Event}
use Rattle.ca_model.specs.declared.event.Event.TheVariants as events
use Rattle.ca_model.specs.declared.mark.Mark.{Mark}
use Rattle.ca_model.specs.declared.mark.Mark.TheVariants as marks
use Rattle.ca_model.specs.declared.verb.Verb.{Verb}
use Rattle.ca_model.specs.declared.verb.Verb.TheVariants as verbs
use Rattle.ca_model.specs.machine.Around.{With_around, updates_of}
use Rattle.ca_model.specs.machine.Completions.{flush_marks}
use Rattle.ca_model.specs.machine.Delivery.{arrival_row, deliver_plan}
use Rattle.ca_model.specs.machine.Plan.{Finish, Look, Plan, Stuck, Update, ◌:=◌, Write, put_all, unless_refused, write_all}
use Rattle.ca_model.specs.machine.PostingVerbs.{after_flush, marks_of_flush, with_send}
use Rattle.ca_model.specs.machine.QueuePairVerbs.{Creation, emptied_mailbox, new_queue}
use Rattle.ca_model.specs.machine.Requester.{Performs, RequestTurn, Sends, Waits, packet_row, turn_of}
use Rattle.ca_model.specs.machine.Respond.{respond_refusals, respond_row}
use Rattle.ca_model.specs.machine.Row.{Effects, Row}
use Rattle.ca_model.specs.machine.Sound.{IsSoundWorld}
use Rattle.ca_model.specs.machine.Step.{plan, step, verb_plan}
use Rattle.ca_model.specs.machine.Timers.{after_timeout, after_wake, wake_refusals}
use Rattle.ca_model.specs.machine.Turns.{Request_around, Respond_around, With_receives, has_room_for, packet_sent, reaches_peer, request_plan, respond_plan, sent_marks, timeout_plan, wake_plan}
use Rattle.ca_model.specs.machine.VerbAnswers.{Call}
use Rattle.ca_model.specs.machine.World.{Cq_of, Mailbox_of, Queue_of, World, opening_world, put}
use Rattle.ca_law_lossless.proofs.AddressLemmas.{packet-for, respond-for}
use Rattle.ca_law_lossless.proofs.RowCalm.{arrival-calm, flush-whole, operation-calm, packet-calm, respond-calm, timeout-calm, whole-append}
use Rattle.ca_law_lossless.specs.RowMail.{AreWholeDrops, IsFor, KeepsCalm, SendsFor}
use Rattle.ca_law_once.proofs.Ties.DeliverWalk.{Changes, Ends, Has, ends-do, has-aside, has-turn, has-writes, puts-append}
use Rattle.ca_law_once.proofs.Ties.SendLemmas.{boxes_after, leads-left}
use Rattle.ca_law_once.proofs.Ties.TellLemmas.{leads-both}
use Rattle.ca_law_once.proofs.Ties.TimerLemmas.{IsFoundAt, found-at}
use Rattle.ca_law_once.specs.Ties.{LeavesPairs}
use Rattle.ca_law_lossless.proofs.DeliverCalm.{leads-arrival}
use Rattle.ca_law_once.specs.Moves.{RowLeads}
use Rattle.ca_law_once.proofs.Verbs.BeginLemmas.{created-has}
use Rattle.ca_law_once.proofs.Verbs.PairLemmas.{Replaces, replaces-changed, replaces-turned}
use Rattle.ca_law_once.proofs.Verbs.PollLemmas.{AreFreer, IsFreerSlot, poll-freers}
use Rattle.ca_law_once.proofs.Verbs.PollLemmas.IsFreerSlot.{freer, untouched}
use Rattle.ca_law_once.proofs.Verbs.TurnWalks.{leads-timeout}
use Rattle.ca_law_once.proofs.Verbs.WalkLemmas.{SamePairs, box_after, leads-aside, leads-change, leads-dealloc, leads-destroy, leads-post, leads-receive, revocation, told_by, window_fewer, with_receive}

pub opening-calm : (bytes : ByteMap) → IsCalmWorld (opening_world bytes)
opening-calm bytes = record { mail = λ n. tt; wakes = λ n. tt }

-- ---- marks of verbs

drops-aside : (c : Configuration) (w : World) (call : Call) (verb : Verb) → LeavesPairs verb → Leads w (λ v ms. AreWholeDrops ms) (verb_plan c call verb)
drops-aside c w call (verbs.AllocPd domain) aside = search rules
drops-aside c w call (verbs.DeallocPd domain) aside = search rules
drops-aside c w call (verbs.RegMr slot buffer offset count rights) aside = search rules depth 14
drops-aside c w call (verbs.AllocMr slot pages) aside = search rules
drops-aside c w call (verbs.DeregMr slot) aside = search rules
drops-aside c w call (verbs.AllocMw slot kind) aside = search rules
drops-aside c w call (verbs.CreateCq slot capacity) aside = search rules
drops-aside c w call (verbs.DestroyCq slot) aside = search rules
drops-aside c w call (verbs.CreateSrq slot depth) aside = search rules
drops-aside c w call (verbs.DestroySrq slot) aside = search rules
drops-aside c w call (verbs.QueryQp slot) aside = search rules
drops-aside c w call (verbs.PostSrq slot request) aside = search rules
drops-aside c w call (verbs.Store adapter buffer offset bytes) aside = search rules
drops-aside c w call (verbs.Load adapter buffer offset count) aside = search rules
drops-aside c w call (verbs.DeallocMw slot) aside = absurd aside
drops-aside c w call (verbs.CreateQp slot send_cq recv_cq send_depth recv_depth srq) aside = absurd aside
drops-aside c w call (verbs.ModifyQp slot change) aside = absurd aside
drops-aside c w call (verbs.DestroyQp slot) aside = absurd aside
drops-aside c w call (verbs.PostSend slot request) aside = absurd aside
drops-aside c w call (verbs.PostRecv slot request) aside = absurd aside
drops-aside c w call (verbs.Poll slot n least) aside = absurd aside
drops-aside c w call (verbs.Inject queue bytes) aside = absurd aside

change-whole : (q : QueuePair) (change : state_change.Change) → AreWholeDrops (told_by q change)
change-whole q changes.Error = flush-whole q
change-whole q changes.Init = tt
change-whole q (changes.Rtr peer incarnation psn mtu rnr_code) = tt
change-whole q (changes.Rts psn retry rnr_retry reads) = tt
change-whole q changes.Sqd = tt
change-whole q changes.Resume = tt
change-whole q changes.Reset = tt

flushed-whole : (q : QueuePair) → AreWholeDrops (marks_of_flush q)
flushed-whole q = by (state_eq q.state states.Error)
  where
    by : (b : Bool) → AreWholeDrops (if b then flush_marks q else [])
    by true = flush-whole q
    by false = tt

revocation-whole : (adapter : ℕ) (o : Option Key) → AreWholeDrops (revocation adapter o)
revocation-whole adapter None = tt
revocation-whole adapter (Some key) = (tt, tt)

-- ---- queue pairs after verbs

change-awake : (q : QueuePair) (change : state_change.Change) → q.requester.waiting ≡ false → (queue_after_change change q).requester.waiting ≡ false
change-awake q changes.Error awake = refl
change-awake q changes.Init awake = awake
change-awake q (changes.Rtr peer incarnation psn mtu rnr_code) awake = awake
change-awake q (changes.Rts psn retry rnr_retry reads) awake = awake
change-awake q changes.Sqd awake = awake
change-awake q changes.Resume awake = awake
change-awake q changes.Reset awake = refl

change-mail : (number : ℕ) (q : QueuePair) (m : Mailbox) (change : state_change.Change) → AreAddressed number m.envelopes → AreAddressed number (box_after change q m).envelopes
change-mail number q m changes.Error mail = mail
change-mail number q m changes.Init mail = mail
change-mail number q m (changes.Rtr peer incarnation psn mtu rnr_code) mail = mail
change-mail number q m (changes.Rts psn retry rnr_retry reads) mail = mail
change-mail number q m changes.Sqd mail = mail
change-mail number q m changes.Resume mail = mail
change-mail number q m changes.Reset mail = tt

flush-awake : (q : QueuePair) → q.requester.waiting ≡ false → (after_flush q).requester.waiting ≡ false
flush-awake q awake = by (state_eq q.state states.Error)
  where
    by : (b : Bool) → (if b then with_all_flushed q else q).requester.waiting ≡ false
    by true = refl
    by false = awake

module _ (c : Configuration) (w : World) (sound : IsSoundWorld c w) (calm : IsCalmWorld w) where
  -- what comes of an event
  abbrev P : World → List Mark → Type 0
  P v ms = AllByRecursion SendsPacket ms → AllByRecursion SendsNoRnrNak ms → IsCalmWorld v × AreWholeDrops ms

  found-awake : (name : QueueId) (q : QueuePair) → w.queue name ≡ Present q → q.requester.waiting ≡ false
  found-awake name q is = subst IsNotWaiting is (calm.wakes name)

  -- another queue pair in a slot, and the same envelopes
  goes-on : (v : World) (name : QueueId) (p : QueuePair) → p.requester.waiting ≡ false → Replaces w name (Present p) (w.mailbox name) v → IsCalmWorld v
  goes-on v name p awake replaces = replaced-calm w v name (Present p) (w.mailbox name) replaces awake (calm.mail name) calm

  same-calm : (v : World) → v.queue ≡ w.queue → v.mailbox ≡ w.mailbox → IsCalmWorld v
  same-calm v queue mail = record {
    mail = λ n. subst (λ (f : QueueId → Mailbox). AreAddressed n.number (f n).envelopes) (sym mail) (calm.mail n);
    wakes = λ n. subst (λ (f : QueueId → QueueSlot). IsNotWaiting (f n)) (sym queue) (calm.wakes n);
  }

  freers-calm : (v : World) → AreFreer w v → IsCalmWorld v
  freers-calm v freers = record {
    mail = λ n. subst (λ (f : QueueId → Mailbox). AreAddressed n.number (f n).envelopes) (sym freers.mail) (calm.mail n);
    wakes = λ n. slot n (w.queue n) refl (freers.queues n);
  }
    where
      slot : (n : QueueId) (a : QueueSlot) → w.queue n ≡ a → IsFreerSlot a (v.queue n) → IsNotWaiting (v.queue n)
      slot n a is (untouched same) = subst IsNotWaiting (sym same) (subst IsNotWaiting is (calm.wakes n))
      slot n a is (freer q p one other f) = subst IsNotWaiting (sym other) (ap (λ (x : RequesterNumbers). x.waiting) f.requester ∙ subst IsNotWaiting (is ∙ one) (calm.wakes n))

  -- ---- verbs

  refused : (call : Call) → Refuses w P call
  refused call x packets ready = (calm, (tt, tt))

  aside : (by : ℕ) (verb : Verb) → LeavesPairs verb → Leads w P (verb_plan c (record { by = by; verb = verb }) verb)
  aside by verb leaves = leads-weaker w (λ v ms. SamePairs w v ms × AreWholeDrops ms) P (verb_plan c call verb) (λ v ms same packets ready. (same-calm v same.0.0 same.0.1, same.1))
      (leads-both w (SamePairs w) (λ v ms. AreWholeDrops ms) (verb_plan c call verb) (leads-aside c w call verb leaves (refl, refl)) (drops-aside c w call verb leaves))
    where
      call : Call
      call = record { by = by; verb = verb }

  of_verb : (by : ℕ) (verb : Verb) → IsWithoutInjection (events.Verb by verb) → Leads w P (verb_plan c (record { by = by; verb = verb }) verb)
  of_verb by (verbs.ModifyQp slot change) none = leads-change c w P (record { by = by; verb = verbs.ModifyQp slot change }) slot change sound (refused (record { by = by; verb = verbs.ModifyQp slot change }))
      (λ q v there among replaces packets ready. (
        replaced-calm w v (queue_of slot) (Present (queue_after_change change q)) (box_after change q (w.mailbox (queue_of slot))) replaces
            (change-awake q change (found-awake (queue_of slot) q there.is)) (change-mail (queue_of slot).number q (w.mailbox (queue_of slot)) change (calm.mail (queue_of slot))) calm,
        (tt, change-whole q change),
      ))
  of_verb by (verbs.CreateQp slot send_cq recv_cq send_depth recv_depth srq) none = leads-create c w P (record { by = by; verb = verbs.CreateQp slot send_cq recv_cq send_depth recv_depth srq }) x
      (refused (record { by = by; verb = verbs.CreateQp slot send_cq recv_cq send_depth recv_depth srq }))
      (λ send recv shared sends receives packets ready. (
        replaced-calm w (put_all (created w x send recv shared) w) (queue_of slot) (Present (new_queue x (w.queue (queue_of slot))))
            (with_peer (new_queue x (w.queue (queue_of slot))).incarnation None (w.mailbox (queue_of slot)))
            (replaces-changed w (put_all (created w x send recv shared) w) (queue_of slot) (Present (new_queue x (w.queue (queue_of slot)))) (with_peer (new_queue x (w.queue (queue_of slot))).incarnation None (w.mailbox (queue_of slot)))
            (created-has w x send recv shared)) refl (calm.mail (queue_of slot)) calm,
        (tt, tt),
      ))
    where
      x : Creation
      x = record { slot = slot; send_cq = send_cq; recv_cq = recv_cq; send_depth = send_depth; recv_depth = recv_depth; srq = srq }
  of_verb by (verbs.DestroyQp slot) none = leads-destroy c w P (record { by = by; verb = verbs.DestroyQp slot }) slot sound (refused (record { by = by; verb = verbs.DestroyQp slot }))
      (λ q v there replaces packets ready. (replaced-calm w v (queue_of slot) (NoQueue q.incarnation q.requester.timers) (emptied_mailbox q.incarnation (w.mailbox (queue_of slot))) replaces tt tt calm, (tt, tt)))
  of_verb by (verbs.PostSend slot request) none = leads-post c w P (record { by = by; verb = verbs.PostSend slot request }) slot request sound (refused (record { by = by; verb = verbs.PostSend slot request }))
      (λ q v drawn key there fails replaces packets ready. (
        goes-on v (queue_of slot) (after_flush (with_send request drawn q)) (flush-awake (with_send request drawn q) (found-awake (queue_of slot) q there.is)) replaces,
        (tt, flushed-whole (with_send request drawn q)),
      ))
  of_verb by (verbs.PostRecv slot request) none = leads-receive c w P (record { by = by; verb = verbs.PostRecv slot request }) slot request sound (refused (record { by = by; verb = verbs.PostRecv slot request }))
      (λ q v there replaces packets ready. (
        goes-on v (queue_of slot) (after_flush (with_receive request q)) (flush-awake (with_receive request q) (found-awake (queue_of slot) q there.is)) replaces,
        (tt, flushed-whole (with_receive request q)),
      ))
  of_verb by (verbs.Poll slot n least) none = leads-poll w P (record { by = by; verb = verbs.Poll slot n least }) slot n least (refused (record { by = by; verb = verbs.Poll slot n least }))
      (λ cq us is freed packets ready. (
        freers-calm (put_all us (put w (Cq_of slot) (Some (after_polls (length (take n cq.waiting)) cq))))
            (poll-freers c w slot cq n us (put w (Cq_of slot) (Some (after_polls (length (take n cq.waiting)) cq))) sound is freed refl refl),
        (tt, tt),
      ))
  of_verb by (verbs.DeallocMw slot) none = leads-dealloc w P (record { by = by; verb = verbs.DeallocMw slot }) slot (refused (record { by = by; verb = verbs.DeallocMw slot }))
      (λ v o queue mail packets ready. (same-calm v queue mail, (tt, revocation-whole slot.domain.adapter o)))
      (λ name p v o is queue mail packets ready. (
        goes-on v name (window_fewer p) (found-awake name p is) (replaces-turned w v name (Present (window_fewer p)) (record { queue = queue; mailbox = mail })),
        (tt, revocation-whole slot.domain.adapter o),
      ))
  of_verb by (verbs.Inject queue bytes) none = absurd none
  of_verb by (verbs.AllocPd domain) none = aside by (verbs.AllocPd domain) (record {})
  of_verb by (verbs.DeallocPd domain) none = aside by (verbs.DeallocPd domain) (record {})
  of_verb by (verbs.RegMr slot buffer offset count rights) none = aside by (verbs.RegMr slot buffer offset count rights) (record {})
  of_verb by (verbs.AllocMr slot pages) none = aside by (verbs.AllocMr slot pages) (record {})
  of_verb by (verbs.DeregMr slot) none = aside by (verbs.DeregMr slot) (record {})
  of_verb by (verbs.AllocMw slot kind) none = aside by (verbs.AllocMw slot kind) (record {})
  of_verb by (verbs.CreateCq slot capacity) none = aside by (verbs.CreateCq slot capacity) (record {})
  of_verb by (verbs.DestroyCq slot) none = aside by (verbs.DestroyCq slot) (record {})
  of_verb by (verbs.CreateSrq slot depth) none = aside by (verbs.CreateSrq slot depth) (record {})
  of_verb by (verbs.DestroySrq slot) none = aside by (verbs.DestroySrq slot) (record {})
  of_verb by (verbs.QueryQp slot) none = aside by (verbs.QueryQp slot) (record {})
  of_verb by (verbs.PostSrq slot request) none = aside by (verbs.PostSrq slot request) (record {})
  of_verb by (verbs.Store adapter buffer offset bytes) none = aside by (verbs.Store adapter buffer offset bytes) (record {})
  of_verb by (verbs.Load adapter buffer offset count) none = aside by (verbs.Load adapter buffer offset count) (record {})

  -- ---- turns

  -- what a turn sends is addressed to its peer
  turned : (name : QueueId) (q : QueuePair) (p : Correspondent) (lot : Lot) (row : Row) (e : Effects) (v : World) (ms : List Mark) → q.peer ≡ Some p → Ends row e → RowLeads KeepsCalm row → RowLeads (SendsFor q) row
      → Has (with_at queue_eq w.queue q.queue (Present e.queue)) (boxes_after w q p lot (packet_sent e)) v → ms ≡ e.marks ++ option_map_or (sent_marks q p (w.mailbox p.queue) lot) (packet_sent e) [] → P v ms
  turned name q p lot row e v ms names ends keeps own has are packets ready = (
    sent-calm w v q p lot e (ends-do KeepsCalm row e ends keeps).awake (turn-addressed w q p lot e ms names (ends-do (SendsFor q) row e ends own) are packets ready) has calm,
    subst AreWholeDrops (sym are) (whole-append e.marks (option_map_or (sent_marks q p (w.mailbox p.queue) lot) (packet_sent e) []) (ends-do KeepsCalm row e ends keeps).marks (sent-whole q p (w.mailbox p.queue) lot e)),
  )

  of_respond : (name : QueueId) (lot : Lot) → Leads w P (respond_plan c name lot)
  of_respond name lot = leads-queue c w P name reasons.State (λ q. With_around q (λ a. Respond_around c lot q a q.peer))
      (λ q is. leads-around w P q (λ a. Respond_around c lot q a q.peer) (by q (found-at c w name q sound is) q.peer refl))
    where
      by : (q : QueuePair) → IsFoundAt w name q → (peer : Option Correspondent) → q.peer ≡ peer → Leads w P (Respond_around c lot q (around_in w q (shared_of w q)) peer)
      by q there None is = leads-unless w P (respond_refusals true q) Stuck (Stuck reasons.Empty) (λ x. record {}) (record {})
      by q there (Some p) is = leads-left c w P q p lot row (λ e v ms ends has are. turned name q p lot row e v ms is ends
          (respond-calm (has_room_for q p (w.mailbox p.queue)) q (found-awake name q there.is)) (respond-for q (has_room_for q p (w.mailbox p.queue)) there.sound) has are)
        where
          row : Row
          row = respond_row (has_room_for q p (w.mailbox p.queue)) q

  of_request : (name : QueueId) (lot : Lot) → Leads w P (request_plan c name lot)
  of_request name lot = leads-queue c w P name reasons.State (λ q. With_around q (λ a. Request_around c lot q a q.peer (turn_of q)))
      (λ q is. leads-around w P q (λ a. Request_around c lot q a q.peer (turn_of q)) (by q (found-at c w name q sound is) q.peer refl (turn_of q) refl))
    where
      performed : (q : QueuePair) → IsFoundAt w name q → (e : Effects) (cs : List Update) (ws : List Write) → KeepsCalm e → AreAside cs
          → P (write_all ws (put_all (updates_of q (around_in w q (shared_of w q)) e ++ cs) w)) e.marks
      performed q there e cs ws keeps aside packets ready = (
        goes-on (write_all ws (put_all us w)) name e.queue keeps.awake (replaces-turned w (write_all ws (put_all us w)) name (Present e.queue)
            (has-writes (with_at queue_eq w.queue name (Present e.queue)) w.mailbox ws (put_all us w)
            (subst (λ n. Has (with_at queue_eq w.queue n (Present e.queue)) w.mailbox (put_all us w)) there.named
            (subst (Has (with_at queue_eq w.queue q.queue (Present e.queue)) w.mailbox) (sym (puts-append (updates_of q (around_in w q (shared_of w q)) e) cs w))
            (has-aside (with_at queue_eq w.queue q.queue (Present e.queue)) w.mailbox cs (put_all (updates_of q (around_in w q (shared_of w q)) e) w) aside (has-turn w q (around_in w q (shared_of w q)) e)))))),
        keeps.marks,
      )
        where
          us : List Update
          us = updates_of q (around_in w q (shared_of w q)) e ++ cs

      by : (q : QueuePair) → IsFoundAt w name q → (peer : Option Correspondent) → q.peer ≡ peer → (turn : RequestTurn) → turn_of q ≡ turn → Leads w P (Request_around c lot q (around_in w q (shared_of w q)) peer turn)
      by q there peer is (Waits reason) turn = record {}
      by q there peer is (Performs n) turn = leads-operation c w P KeepsCalm q n (λ e changes writes. Finish (updates_of q (around_in w q (shared_of w q)) e ++ changes) writes e.marks) n.request.op
          (record { awake = found-awake name q there.is; marks = tt }) (λ windows m refusal. operation-calm q n windows m refusal (found-awake name q there.is))
          (λ e cs ws keeps aside. performed q there e cs ws keeps aside)
      by q there None is (Sends n) turn = record {}
      by q there (Some p) is (Sends n) turn = leads-left c w P q p lot row (λ e v ms ends has are. turned name q p lot row e v ms is ends
          (packet-calm q (has_room_for q p (w.mailbox p.queue)) n (found-awake name q there.is)) (packet-for q (has_room_for q p (w.mailbox p.queue)) n there.sound turn) has are)
        where
          row : Row
          row = packet_row q (has_room_for q p (w.mailbox p.queue)) n

  of_deliver : (name : QueueId) (index : ℕ) → Leads w P (deliver_plan c name index)
  of_deliver name index = leads-arrival c w P name index sound (λ q bytes shared e v there lent ends changed packets ready.
      arrived q bytes shared e v there (addressed-lent name.number index (w.mailbox name) bytes (calm.mail name) lent) ends changed)
    where
      arrived : (q : QueuePair) (bytes : List ℕ) (shared : Option SharedReceives) (e : Effects) (v : World) → IsFoundAt w name q → IsAddressed name.number bytes → Ends (arrival_row bytes (Some index) shared q) e
          → Changes w name (Present e.queue) (after_delivery index (w.mailbox name)) v → IsCalmWorld v × AreWholeDrops (marks.Arrived q.queue (Some index) ∷ e.marks)
      arrived q bytes shared e v there one ends changed = (
        replaced-calm w v name (Present e.queue) (after_delivery index (w.mailbox name)) (replaces-changed w v name (Present e.queue) (after_delivery index (w.mailbox name)) changed) keeps.awake
            (addressed-delivered name.number (later_than index (w.mailbox name)) (w.mailbox name).envelopes (calm.mail name)) calm,
        (tt, keeps.marks),
      )
        where
          row : Row
          row = arrival_row bytes (Some index) shared q

          keeps : KeepsCalm e
          keeps = ends-do KeepsCalm row e ends (arrival-calm bytes (Some index) shared q one.packet one.decodes
              (subst (λ (n : QueueId). IsFor n.number one.packet) (sym there.named) one.own) one.ready (found-awake name q there.is))

  of_timeout : (name : QueueId) (hasten : Bool) → Leads w P (timeout_plan c name hasten)
  of_timeout name hasten = leads-timeout c w P name hasten sound (λ q silent v there sends replaces packets ready.
      (goes-on v name (after_timeout silent q).queue (timeout-calm silent q (found-awake name q there.is)).awake replaces, (timeout-calm silent q (found-awake name q there.is)).marks))

-- ---- wakes

-- no wake is possible where no requester waits
pub wake-never : (c : Configuration) (w : World) (P : World → List Mark → Type 0) (name : QueueId) → IsCalmWorld w → Leads w P (wake_plan c name)
wake-never c w P name calm = leads-queue c w P name reasons.State (λ q. waking q q.peer) (λ q is. by q (subst IsNotWaiting is (calm.wakes name)) q.peer)
  where
    wakes : QueuePair → Bool → Plan
    wakes q empty = unless_refused (wake_refusals empty q) Stuck (Finish ((Queue_of q.queue := Present (after_wake q).queue) ∷ []) [] (after_wake q).marks)

    waking : QueuePair → Option Correspondent → Plan
    waking q None = unless_refused (wake_refusals false q) Stuck (Stuck reasons.Empty)
    waking q (Some peer) = Look (Queue_of peer.queue) (λ slot. Look (Mailbox_of peer.queue) (λ m.
        With_receives slot (λ empty. wakes q (reaches_peer q peer m && empty))))

    wake : (q : QueuePair) → q.requester.waiting ≡ false → (empty : Bool) → Leads w P (wakes q empty)
    wake q awake empty = leads-tests w P (wake_refusals empty q) Stuck (Finish ((Queue_of q.queue := Present (after_wake q).queue) ∷ []) [] (after_wake q).marks)
        (λ x. record {}) (λ fails. absurd (true≢false (sym (not-false q.requester.waiting fails.1.0) ∙ awake)))

    receives : (slot : QueueSlot) (k : Bool → Plan) → ((b : Bool) → Leads w P (k b)) → Leads w P (With_receives slot k)
    receives slot k more = search rules

    by : (q : QueuePair) → q.requester.waiting ≡ false → (peer : Option Correspondent) → Leads w P (waking q peer)
    by q awake None = leads-unless w P (wake_refusals false q) Stuck (Stuck reasons.Empty) (λ x. record {}) (record {})
    by q awake (Some peer) = receives (w.queue peer.queue) (λ empty. wakes q (reaches_peer q peer (w.mailbox peer.queue) && empty)) (λ empty. wake q awake _)

pub never-woken : (c : Configuration) (w : World) (name : QueueId) → IsCalmWorld w → Comes (λ v ms. ⊥) (step c w (events.RnrWake name))
never-woken c w name calm = comes w (λ v ms. ⊥) (wake_plan c name) (wake-never c w (λ v ms. ⊥) name calm)

-- ---- all events

pub event-calm : (c : Configuration) (w : World) (event : Event) → IsSoundWorld c w → IsCalmWorld w → IsWithoutInjection event
    → Comes (λ v ms. AllByRecursion SendsPacket ms → AllByRecursion SendsNoRnrNak ms → IsCalmWorld v × AreWholeDrops ms) (step c w event)
event-calm c w event sound calm none = comes w (P c w sound calm) (plan c event) (by event none)
  where
    by : (event : Event) → IsWithoutInjection event → Leads w (P c w sound calm) (plan c event)
    by (events.Verb k verb) none = (λ named. of_verb c w sound calm k verb none, λ unnamed. refused c w sound calm (record { by = k; verb = verb }) NoSuch)
    by (events.Request name lot) none = of_request c w sound calm name lot
    by (events.Respond name lot) none = of_respond c w sound calm name lot
    by (events.Deliver name index) none = of_deliver c w sound calm name index
    by (events.Timeout name hasten) none = of_timeout c w sound calm name hasten
    by (events.RnrWake name) none = wake-never c w (P c w sound calm) name calm
