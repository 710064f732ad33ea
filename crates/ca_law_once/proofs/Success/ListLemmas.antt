-- Every event leaves posted atomics with lists of eight bytes. For proofs only.
use Rattle.std.proofs.Common.{◌≡◌, ℕ, ◌==◌, ◌&&◌, not, Bool, true, false, if◌then◌else◌, List, [], ◌∷◌, ◌++◌, take, length, Option, None, Some, refl, ap, sym, subst, ◌∙◌}
use Rattle.std.proofs.lemmas.Bool.{eqb-true, not-false}
use Rattle.std.specs.List.{AllByRecursion}
use Rattle.ca_law_endings.proofs.LeadsLemmas.{AreAside, comes, leads-around, leads-queue, leads-weaker}
use Rattle.ca_law_endings.specs.Runs.{Comes, Leads}
use Rattle.ca_law_order.proofs.Polls.OperationLemmas.{leads-operation}
use Rattle.ca_law_order.proofs.Polls.PlanLemmas.{created, leads-create, leads-poll}
use Rattle.ca_law_order.proofs.Polls.PostingLemmas.{Refuses}
use Rattle.ca_law_carried.proofs.Starts.MoveLemmas.{Moves, arrival-moved, packet-moved, respond-moved, timeout-moved}
use Rattle.ca_base.specs.Configuration.{Configuration}
use Rattle.ca_base.specs.declared.change.Change as state_change
use Rattle.ca_base.specs.declared.change.Change.TheVariants as changes
use Rattle.ca_base.specs.declared.change.State.TheVariants as states
use Rattle.ca_base.specs.declared.correspondent.Correspondent.{Correspondent}
use Rattle.ca_base.specs.declared.limits.TheConstants.{ATOMIC_BYTES}
use Rattle.ca_base.specs.declared.lot.Lot.{Lot}
use Rattle.ca_base.specs.declared.refusals.OpRefusal.{OpRefusal}
use Rattle.ca_base.specs.declared.request.PostedSend.{PostedSend}
use Rattle.ca_base.specs.declared.request.SendRequest.{SendRequest}
use Rattle.ca_base.specs.declared.step.Reason.TheVariants as reasons
use Rattle.ca_base.specs.objects.CompletionQueue.{CompletionQueue, after_polls}
use Rattle.ca_base.specs.objects.LocalRequest.{LocalMarks}
use Rattle.ca_base.specs.objects.Mailbox.{Mailbox, after_delivery}
use Rattle.ca_base.specs.objects.QueuePair.{QueuePair, QueueSlot, NoQueue, Present, with_all_flushed}
use Rattle.ca_base.specs.objects.StateTable.{queue_after_change, state_eq}
use Rattle.ca_base.specs.objects.WorkQueue.{WorkQueue}
use Rattle.ca_keys.specs.Equal.{queue_eq}
use Rattle.ca_keys.specs.Memory.{ByteMap}
use Rattle.ca_keys.specs.Numbers.{queue_of}
use Rattle.ca_keys.specs.declared.names.QueueId.{QueueId}
use Rattle.ca_keys.specs.declared.names.Slot.{Slot}
use Rattle.ca_law_world.proofs.Sound.SettledLemmas.{append-all}
use Rattle.ca_law_world.proofs.Sound.WorldLemmas.{around_in, shared_of}
use Rattle.ca_model.specs.Past.{with_at}
use Rattle.ca_model.specs.Requests.{list_length, list_of}
use Rattle.ca_model.specs.declared.event.Event.{Event}
use Rattle.ca_model.specs.declared.event.Event.TheVariants as events
use Rattle.ca_model.specs.declared.mark.Mark.{Mark}
use Rattle.ca_model.specs.declared.verb.Verb.{Verb}
use Rattle.ca_model.specs.declared.verb.Verb.TheVariants as verbs
use Rattle.ca_model.specs.machine.Around.{With_around, updates_of}
use Rattle.ca_model.specs.machine.Delivery.{arrival_row}
use Rattle.ca_model.specs.machine.LocalOperations.{operation_effects}
use Rattle.ca_model.specs.machine.Numbering.{Numbered, is_atomic_op}
use Rattle.ca_model.specs.machine.Plan.{Finish, Update, Write, put_all, write_all}
use Rattle.ca_model.specs.machine.PostingVerbs.{after_flush, with_send}
use Rattle.ca_model.specs.machine.QueuePairVerbs.{Creation, create_qp_plan, new_queue}
use Rattle.ca_model.specs.machine.WindowVerbs.{dealloc_mw_plan}
use Rattle.ca_model.specs.machine.Requester.{Performs, RequestTurn, Sends, Waits, packet_row, turn_of}
use Rattle.ca_model.specs.machine.Respond.{respond_row}
use Rattle.ca_model.specs.machine.Row.{Effects}
use Rattle.ca_model.specs.machine.Sound.{IsSoundWorld}
use Rattle.ca_model.specs.machine.Step.{plan, step, verb_plan}
use Rattle.ca_model.specs.machine.Timers.{after_timeout, after_wake}
use Rattle.ca_model.specs.machine.Turns.{Request_around, has_room_for, request_plan}
use Rattle.ca_model.specs.machine.VerbAnswers.{Call}
use Rattle.ca_model.specs.machine.World.{Cq_of, World, opening_world, put}
use Rattle.ca_law_once.proofs.Ties.DeliverWalk.{Has, ends-as, ends-do, has-aside, has-turn, has-writes, leads-deliver, puts-append}
use Rattle.ca_law_once.proofs.Ties.SendLemmas.{leads-left}
use Rattle.ca_law_once.proofs.Ties.TimerLemmas.{IsFoundAt, found-at}
use Rattle.ca_law_once.specs.Ties.{LeavesPairs}
use Rattle.ca_law_once.proofs.Success.PutLemmas.{all-dropped}
use Rattle.ca_law_once.specs.Lists.{AtomicListsFit, ListFits, SlotListsFit}
use Rattle.ca_law_once.proofs.Verbs.BeginLemmas.{created-has}
use Rattle.ca_law_once.proofs.Verbs.PairLemmas.{Replaces, replaces-changed}
use Rattle.ca_law_once.proofs.Verbs.PollLemmas.{AreFreer, IsFreerSlot, poll-freers}
use Rattle.ca_law_once.proofs.Verbs.PollLemmas.IsFreerSlot.{freer, untouched}
use Rattle.ca_law_once.proofs.Verbs.TurnWalks.{leads-respond, leads-timeout, leads-wake}
use Rattle.ca_law_once.proofs.Verbs.WalkLemmas.{SamePairs, leads-aside, leads-change, leads-dealloc, leads-destroy, leads-inject, leads-post, leads-receive, window_fewer, with_receive}

-- one slot is another
replaced-fit : (w v : World) (name : QueueId) (slot : QueueSlot) (box : Mailbox) → AtomicListsFit w → Replaces w name slot box v → SlotListsFit slot → AtomicListsFit v
replaced-fit w v name slot box all replaces fits = λ n. by n (queue_eq name n) refl
  where
    by : (n : QueueId) (b : Bool) → queue_eq name n ≡ b → SlotListsFit (v.queue n)
    by n true is = subst SlotListsFit (sym (replaces.here n is).0) fits
    by n false is = subst SlotListsFit (sym (replaces.elsewhere n is).0) (all n)

found-fits : (w : World) (name : QueueId) (q : QueuePair) → AtomicListsFit w → w.queue name ≡ Present q → AllByRecursion ListFits q.sends.items
found-fits w name q all is = subst SlotListsFit is (all name)

same-fits : (q p : QueuePair) → p.sends ≡ q.sends → AllByRecursion ListFits q.sends.items → AllByRecursion ListFits p.sends.items
same-fits q p same fits = subst (λ (s : WorkQueue PostedSend). AllByRecursion ListFits s.items) (sym same) fits

-- a queue pair with the same sends
turned-fit : (w v : World) (name : QueueId) (q p : QueuePair) (box : Mailbox) → AtomicListsFit w → w.queue name ≡ Present q → Replaces w name (Present p) box v → p.sends ≡ q.sends → AtomicListsFit v
turned-fit w v name q p box all is replaces same = replaced-fit w v name (Present p) box all replaces (same-fits q p same (found-fits w name q all is))

-- what stands in each slot is another
slots-fit : (w v : World) (f : QueueId → QueueSlot) → v.queue ≡ f → ((n : QueueId) → SlotListsFit (f n)) → AtomicListsFit v
slots-fit w v f is fits = λ n. subst (λ (g : QueueId → QueueSlot). SlotListsFit (g n)) (sym is) (fits n)

changed-fits : (change : state_change.Change) (q : QueuePair) → AllByRecursion ListFits q.sends.items → AllByRecursion ListFits (queue_after_change change q).sends.items
changed-fits changes.Init q fits = fits
changed-fits (changes.Rtr peer incarnation psn mtu rnr_code) q fits = fits
changed-fits (changes.Rts psn retry rnr_retry reads) q fits = fits
changed-fits changes.Sqd q fits = fits
changed-fits changes.Resume q fits = fits
changed-fits changes.Error q fits = fits
changed-fits changes.Reset q fits = record {}

flush-sends : (p : QueuePair) → (after_flush p).sends ≡ p.sends
flush-sends p = by (state_eq p.state states.Error)
  where
    by : (b : Bool) → (if b then with_all_flushed p else p).sends ≡ p.sends
    by true = refl
    by false = refl

-- a posted atomic has such a list
request-fits-list : (request : SendRequest) (drawn : Option ℕ) → (is_atomic_op request.op && not (list_length (list_of request.op) == ATOMIC_BYTES)) ≡ false → ListFits (record { request = request; drawn = drawn })
request-fits-list request drawn fails is = eqb-true (list_length (list_of request.op)) ATOMIC_BYTES (not-false (list_length (list_of request.op) == ATOMIC_BYTES)
    (sym (ap (λ b. b && not (list_length (list_of request.op) == ATOMIC_BYTES)) is) ∙ fails))

freer-fits : (a b : QueueSlot) → IsFreerSlot a b → SlotListsFit a → SlotListsFit b
freer-fits a b (untouched same) fits = subst SlotListsFit (sym same) fits
freer-fits a b (freer q p one other f) fits = subst SlotListsFit (sym other) (subst (AllByRecursion ListFits) (sym f.left) (all-dropped ListFits f.gone q.sends.items (subst SlotListsFit one fits)))

module _ (c : Configuration) (w : World) (sound : IsSoundWorld c w) (all : AtomicListsFit w) where
  abbrev P : World → List Mark → Type 0
  P v ms = AtomicListsFit v

  refused : (call : Call) → Refuses w P call
  refused call x = all

  aside-lists : (call : Call) (verb : Verb) → LeavesPairs verb → Leads w P (verb_plan c call verb)
  aside-lists call verb leaves = leads-weaker w (SamePairs w) P (verb_plan c call verb) (λ v ms same. slots-fit w v w.queue same.0 all) (leads-aside c w call verb leaves (refl, refl))

  create-lists : (call : Call) (x : Creation) → Leads w P (create_qp_plan c call x)
  create-lists call x = leads-create c w P call x (refused call) (λ send recv shared sends receives.
      slots-fit w (put_all (created w x send recv shared) w) (with_at queue_eq w.queue (queue_of x.slot) (Present (new_queue x (w.queue (queue_of x.slot))))) (created-has w x send recv shared).queue (λ n. by n (queue_eq (queue_of x.slot) n)))
    where
      by : (n : QueueId) (b : Bool) → SlotListsFit (if b then Present (new_queue x (w.queue (queue_of x.slot))) else w.queue n)
      by n true = record {}
      by n false = all n

  dealloc-lists : (call : Call) (slot : Slot) → Leads w P (dealloc_mw_plan call slot)
  dealloc-lists call slot = leads-dealloc w P call slot (refused call) (λ v o queue mail. slots-fit w v w.queue queue all)
      (λ name p v o is queue mail. slots-fit w v (with_at queue_eq w.queue name (Present (window_fewer p))) queue (λ n. by name p is n (queue_eq name n)))
    where
      by : (name : QueueId) (p : QueuePair) → w.queue name ≡ Present p → (n : QueueId) (b : Bool) → SlotListsFit (if b then Present (window_fewer p) else w.queue n)
      by name p is n true = found-fits w name p all is
      by name p is n false = all n

  verb-lists : (call : Call) (verb : Verb) → Leads w P (verb_plan c call verb)
  verb-lists call (verbs.ModifyQp slot change) = leads-change c w P call slot change sound (refused call)
      (λ q v there among replaces. replaced-fit w v (queue_of slot) (Present (queue_after_change change q)) _ all replaces (changed-fits change q (found-fits w (queue_of slot) q all there.is)))
  verb-lists call (verbs.CreateQp slot send_cq recv_cq send_depth recv_depth srq) = create-lists call (record { slot = slot; send_cq = send_cq; recv_cq = recv_cq; send_depth = send_depth; recv_depth = recv_depth; srq = srq })
  verb-lists call (verbs.DestroyQp slot) = leads-destroy c w P call slot sound (refused call)
      (λ q v there replaces. replaced-fit w v (queue_of slot) (NoQueue q.incarnation q.requester.timers) _ all replaces (record {}))
  verb-lists call (verbs.PostSend slot request) = leads-post c w P call slot request sound (refused call)
      (λ q v drawn key there fails replaces. replaced-fit w v (queue_of slot) (Present (after_flush (with_send request drawn q))) _ all replaces
      (same-fits (with_send request drawn q) (after_flush (with_send request drawn q)) (flush-sends (with_send request drawn q))
      (append-all ListFits q.sends.items (record { request = request; drawn = drawn } ∷ []) (found-fits w (queue_of slot) q all there.is) (request-fits-list request drawn fails.0, record {}))))
  verb-lists call (verbs.PostRecv slot request) = leads-receive c w P call slot request sound (refused call)
      (λ q v there replaces. turned-fit w v (queue_of slot) q (after_flush (with_receive request q)) _ all there.is replaces (flush-sends (with_receive request q)))
  verb-lists call (verbs.Poll slot n least) = leads-poll w P call slot n least (refused call)
      (λ cq us is freed. polled cq us (poll-freers c w slot cq n us (put w (Cq_of slot) (Some (after_polls (length (take n cq.waiting)) cq))) sound is freed refl refl))
    where
      polled : (cq : CompletionQueue) (us : List Update) → AreFreer w (put_all us (put w (Cq_of slot) (Some (after_polls (length (take n cq.waiting)) cq))))
          → AtomicListsFit (put_all us (put w (Cq_of slot) (Some (after_polls (length (take n cq.waiting)) cq))))
      polled cq us freers = λ m. freer-fits _ _ (freers.queues m) (all m)
  verb-lists call (verbs.DeallocMw slot) = dealloc-lists call slot
  verb-lists call (verbs.Inject name bytes) = leads-inject c w P call name bytes sound (refused call)
      (λ q shared e v there same ends replaces. turned-fit w v name q e.queue _ all there.is replaces
      (ends-do (Moves 0 [] q) (arrival_row bytes None shared q) e ends (ends-as (Moves 0 [] q) (arrival_row bytes None shared q) (arrival-moved 0 [] bytes None shared q))).sends)
  verb-lists call (verbs.AllocPd domain) = aside-lists call (verbs.AllocPd domain) (record {})
  verb-lists call (verbs.DeallocPd domain) = aside-lists call (verbs.DeallocPd domain) (record {})
  verb-lists call (verbs.RegMr slot buffer offset count rights) = aside-lists call (verbs.RegMr slot buffer offset count rights) (record {})
  verb-lists call (verbs.AllocMr slot pages) = aside-lists call (verbs.AllocMr slot pages) (record {})
  verb-lists call (verbs.DeregMr slot) = aside-lists call (verbs.DeregMr slot) (record {})
  verb-lists call (verbs.AllocMw slot kind) = aside-lists call (verbs.AllocMw slot kind) (record {})
  verb-lists call (verbs.CreateCq slot capacity) = aside-lists call (verbs.CreateCq slot capacity) (record {})
  verb-lists call (verbs.DestroyCq slot) = aside-lists call (verbs.DestroyCq slot) (record {})
  verb-lists call (verbs.CreateSrq slot depth) = aside-lists call (verbs.CreateSrq slot depth) (record {})
  verb-lists call (verbs.DestroySrq slot) = aside-lists call (verbs.DestroySrq slot) (record {})
  verb-lists call (verbs.QueryQp slot) = aside-lists call (verbs.QueryQp slot) (record {})
  verb-lists call (verbs.PostSrq slot request) = aside-lists call (verbs.PostSrq slot request) (record {})
  verb-lists call (verbs.Store adapter buffer offset bytes) = aside-lists call (verbs.Store adapter buffer offset bytes) (record {})
  verb-lists call (verbs.Load adapter buffer offset count) = aside-lists call (verbs.Load adapter buffer offset count) (record {})

  -- ---- turns

  -- a queue pair goes on with its sends
  goes-fit : (v : World) (name : QueueId) (q : QueuePair) (e : Effects) → IsFoundAt w name q → v.queue ≡ with_at queue_eq w.queue q.queue (Present e.queue) → e.queue.sends ≡ q.sends → AtomicListsFit v
  goes-fit v name q e there queue same = slots-fit w v (with_at queue_eq w.queue q.queue (Present e.queue)) queue (λ n. by n (queue_eq q.queue n))
    where
      by : (n : QueueId) (b : Bool) → SlotListsFit (if b then Present e.queue else w.queue n)
      by n true = same-fits q e.queue same (found-fits w name q all there.is)
      by n false = all n

  request-lists : (name : QueueId) (lot : Lot) → Leads w P (request_plan c name lot)
  request-lists name lot = leads-queue c w P name reasons.State (λ q. With_around q (λ a. Request_around c lot q a q.peer (turn_of q)))
      (λ q is. leads-around w P q (λ a. Request_around c lot q a q.peer (turn_of q)) (by q (found-at c w name q sound is) q.peer (turn_of q)))
    where
      operation : (q : QueuePair) (n : Numbered) (windows : ℕ) (m : LocalMarks) (refusal : Option OpRefusal) → (operation_effects q n (record q { windows = windows }) m refusal).queue.sends ≡ q.sends
      operation q n windows m (Some cause) = refl
      operation q n windows m None = refl

      performed : (q : QueuePair) → IsFoundAt w name q → (e : Effects) (cs : List Update) (ws : List Write) → e.queue.sends ≡ q.sends → AreAside cs → AtomicListsFit (write_all ws (put_all (updates_of q (around_in w q (shared_of w q)) e ++ cs) w))
      performed q there e cs ws same aside = goes-fit (write_all ws (put_all us w)) name q e there (has-writes (with_at queue_eq w.queue q.queue (Present e.queue)) w.mailbox ws (put_all us w)
          (subst (Has (with_at queue_eq w.queue q.queue (Present e.queue)) w.mailbox) (sym (puts-append (updates_of q (around_in w q (shared_of w q)) e) cs w))
          (has-aside (with_at queue_eq w.queue q.queue (Present e.queue)) w.mailbox cs (put_all (updates_of q (around_in w q (shared_of w q)) e) w) aside (has-turn w q (around_in w q (shared_of w q)) e)))).queue same
        where
          us : List Update
          us = updates_of q (around_in w q (shared_of w q)) e ++ cs

      by : (q : QueuePair) → IsFoundAt w name q → (peer : Option Correspondent) (turn : RequestTurn) → Leads w P (Request_around c lot q (around_in w q (shared_of w q)) peer turn)
      by q there peer (Waits reason) = record {}
      by q there peer (Performs n) = leads-operation c w P (λ e. e.queue.sends ≡ q.sends) q n (λ e changes writes. Finish (updates_of q (around_in w q (shared_of w q)) e ++ changes) writes e.marks) n.request.op refl
          (operation q n) (λ e cs ws same aside. performed q there e cs ws same aside)
      by q there None (Sends n) = record {}
      by q there (Some p) (Sends n) = leads-left c w P q p lot (packet_row q (has_room_for q p (w.mailbox p.queue)) n) (λ e v ms ends has told. goes-fit v name q e there has.queue
          (ends-do (Moves 0 [] q) (packet_row q (has_room_for q p (w.mailbox p.queue)) n) e ends (ends-as (Moves 0 [] q) (packet_row q (has_room_for q p (w.mailbox p.queue)) n) (packet-moved 0 [] q (has_room_for q p (w.mailbox p.queue)) n))).sends)

  leads-lists : (event : Event) → Leads w P (plan c event)
  leads-lists (events.Verb by verb) = (λ named. verb-lists (record { by = by; verb = verb }) verb, λ none. all)
  leads-lists (events.Request name lot) = request-lists name lot
  leads-lists (events.Respond name lot) = leads-respond c w P name lot sound (λ q p room e v ms there names ends goes. goes-fit v name q e there goes.queue
      (ends-do (Moves 0 [] q) (respond_row room q) e ends (ends-as (Moves 0 [] q) (respond_row room q) (respond-moved 0 [] room q))).sends)
  leads-lists (events.Timeout name hasten) = leads-timeout c w P name hasten sound (λ q silent v there sends replaces. turned-fit w v name q (after_timeout silent q).queue _ all there.is replaces (timeout-moved 0 [] q silent).sends)
  leads-lists (events.RnrWake name) = leads-wake c w P name sound (λ q v there sends replaces. turned-fit w v name q (after_wake q).queue _ all there.is replaces refl)
  leads-lists (events.Deliver name index) = leads-deliver c w P name index sound (λ q bytes shared e v ms is good lent ends changes told told_writes.
      turned-fit w v name q e.queue (after_delivery index (w.mailbox name)) all is (replaces-changed w v name (Present e.queue) (after_delivery index (w.mailbox name)) changes)
      (ends-do (Moves 0 [] q) (arrival_row bytes (Some index) shared q) e ends (ends-as (Moves 0 [] q) (arrival_row bytes (Some index) shared q) (arrival-moved 0 [] bytes (Some index) shared q))).sends)

pub event-lists : (c : Configuration) (w : World) (event : Event) → IsSoundWorld c w → AtomicListsFit w → Comes (λ v ms. AtomicListsFit v) (step c w event)
event-lists c w event sound all = comes w (λ v ms. AtomicListsFit v) (plan c event) (leads-lists c w sound all event)

pub opening-lists : (bytes : ByteMap) → AtomicListsFit (opening_world bytes)
opening-lists bytes = λ n. record {}
