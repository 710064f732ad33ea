-- Every event leaves queue pairs that begin empty. For proofs only.
use Rattle.std.proofs.Common.{◌≡◌, ℕ, suc, Bool, true, false, if◌then◌else◌, List, [], ◌∷◌, drop, take, length, Option, None, Some, is_some, refl, ap, sym, subst, ◌∙◌, true≢false}
use Rattle.std.specs.Option.{option_map}
use Rattle.std.proofs.Math.Seq.{drop-nil}
use Rattle.std.proofs.lemmas.Bool.{not-false}
use Rattle.ca_law_endings.proofs.InnerLemmas.{IsInner, arrival-inner}
use Rattle.ca_law_endings.proofs.LeadsLemmas.{leads-weaker}
use Rattle.ca_law_endings.specs.Agreement.{peer_in}
use Rattle.ca_law_endings.specs.Runs.{Leads}
use Rattle.ca_law_order.proofs.Polls.PlanLemmas.{created, leads-create, leads-poll}
use Rattle.ca_law_order.proofs.Polls.PostingLemmas.{Refuses}
use Rattle.ca_base.specs.Configuration.{Configuration}
use Rattle.ca_base.specs.declared.change.Change as state_change
use Rattle.ca_base.specs.declared.change.Change.TheVariants as changes
use Rattle.ca_base.specs.declared.change.State.{State}
use Rattle.ca_base.specs.declared.change.State.TheVariants as states
use Rattle.ca_base.specs.declared.queue_numbers.RequesterNumbers.{RequesterNumbers}
use Rattle.ca_base.specs.objects.CompletionQueue.{CompletionQueue, after_polls, after_reserve}
use Rattle.ca_base.specs.objects.Mailbox.{Mailbox, with_peer}
use Rattle.ca_base.specs.objects.Domain.{with_object}
use Rattle.ca_model.specs.machine.CompletionVerbs.{poll_plan}
use Rattle.ca_model.specs.machine.WindowVerbs.{dealloc_mw_plan}
use Rattle.ca_model.specs.machine.HostVerbs.{inject_plan}
use Rattle.ca_base.specs.objects.QueuePair.{QueuePair, QueueSlot, NoQueue, Present, is_present, with_all_flushed}
use Rattle.ca_base.specs.objects.SharedReceives.{SharedReceives, SrqSlot}
use Rattle.ca_base.specs.objects.StateTable.{allowed_from, is_among, queue_after_change, state_eq}
use Rattle.ca_keys.specs.Equal.{queue_eq}
use Rattle.ca_keys.specs.Numbers.{queue_of}
use Rattle.ca_keys.specs.declared.names.QueueId.{QueueId}
use Rattle.ca_keys.specs.declared.names.Slot.{Slot}
use Rattle.ca_law_world.proofs.Sound.SettledLemmas.{queue-path}
use Rattle.ca_model.specs.Past.{with_at}
use Rattle.ca_model.specs.declared.mark.Mark.{Mark}
use Rattle.ca_model.specs.declared.verb.Verb.{Verb}
use Rattle.ca_model.specs.declared.verb.Verb.TheVariants as verbs
use Rattle.ca_model.specs.machine.Delivery.{arrival_row}
use Rattle.ca_model.specs.machine.Invariants.{is_fresh, is_idle}
use Rattle.ca_model.specs.machine.Plan.{Update, ◌:=◌, put_all}
use Rattle.ca_model.specs.machine.PostingVerbs.{after_flush, with_send}
use Rattle.ca_model.specs.machine.QueuePairVerbs.{Creation, before_receives, beside, create_qp_plan, emptied_mailbox, new_queue, receive_reserve, receive_room, send_reserved}
use Rattle.ca_model.specs.machine.Sound.{IsSoundWorld}
use Rattle.ca_model.specs.machine.Step.{verb_plan}
use Rattle.ca_model.specs.machine.VerbAnswers.{Call}
use Rattle.ca_model.specs.machine.World.{Cq_of, Domain_of, Mailbox_of, Queue_of, Srq_of, World, put}
use Rattle.ca_law_once.proofs.Ties.DeliverWalk.{Has, ends-as, ends-do}
use Rattle.ca_law_once.specs.Ties.{LeavesPairs}
use Rattle.ca_law_once.proofs.Verbs.BeginRows.{arrival-begins, begun-begins}
use Rattle.ca_law_once.proofs.Verbs.PairLemmas.{Replaces, replaces-changed}
use Rattle.ca_law_once.proofs.Verbs.PollLemmas.{AreFreer, IsFreer, IsFreerSlot, poll-freers}
use Rattle.ca_law_once.proofs.Verbs.PollLemmas.IsFreerSlot.{freer, untouched}
use Rattle.ca_law_once.proofs.Verbs.WalkLemmas.{SamePairs, box_after, leads-aside, leads-change, leads-dealloc, leads-destroy, leads-inject, leads-post, leads-receive, window_fewer, with_receive}
use Rattle.ca_law_once.specs.Beginnings.{AllBeginEmpty, BeginsEmpty, SlotBeginsEmpty}

-- ---- worlds

-- one slot and its mailbox are others
pub begins-replaced : (w v : World) (name : QueueId) (slot : QueueSlot) (box : Mailbox) → AllBeginEmpty w → Replaces w name slot box v → SlotBeginsEmpty slot → (peer_in slot ≡ None → box.envelopes ≡ []) → AllBeginEmpty v
begins-replaced w v name slot box all replaces begins mail = record { queues = λ n. queue n (queue_eq name n) refl; mail = λ n none. envelopes n none (queue_eq name n) refl }
  where
    queue : (n : QueueId) (b : Bool) → queue_eq name n ≡ b → SlotBeginsEmpty (v.queue n)
    queue n true is = subst SlotBeginsEmpty (sym (replaces.here n is).0) begins
    queue n false is = subst SlotBeginsEmpty (sym (replaces.elsewhere n is).0) (all.queues n)

    envelopes : (n : QueueId) → peer_in (v.queue n) ≡ None → (b : Bool) → queue_eq name n ≡ b → (v.mailbox n).envelopes ≡ []
    envelopes n none true is = ap (λ (m : Mailbox). m.envelopes) (replaces.here n is).1 ∙ mail (ap peer_in (sym (replaces.here n is).0) ∙ none)
    envelopes n none false is = ap (λ (m : Mailbox). m.envelopes) (replaces.elsewhere n is).1 ∙ all.mail n (ap peer_in (sym (replaces.elsewhere n is).0) ∙ none)

-- the same of a queue pair with the same peer
pub begins-turned : (w v : World) (name : QueueId) (q p : QueuePair) (box : Mailbox) → AllBeginEmpty w → w.queue name ≡ Present q → Replaces w name (Present p) box v → p.peer ≡ q.peer → BeginsEmpty p
    → ((w.mailbox name).envelopes ≡ [] → box.envelopes ≡ []) → AllBeginEmpty v
begins-turned w v name q p box all is replaces peer begins mail = begins-replaced w v name (Present p) box all replaces begins (λ none. mail (all.mail name (ap peer_in is ∙ sym peer ∙ none)))

-- what is in each slot begins empty and has the peer that was there
pub begins-slots : (w v : World) → AllBeginEmpty w → ((n : QueueId) → SlotBeginsEmpty (v.queue n)) → ((n : QueueId) → peer_in (v.queue n) ≡ peer_in (w.queue n)) → v.mailbox ≡ w.mailbox → AllBeginEmpty v
begins-slots w v all begins peers mail = record { queues = begins; mail = λ n none. ap (λ (f : QueueId → Mailbox). (f n).envelopes) mail ∙ all.mail n (sym (peers n) ∙ none) }

begins-same : (w v : World) → AllBeginEmpty w → v.queue ≡ w.queue → v.mailbox ≡ w.mailbox → AllBeginEmpty v
begins-same w v all queue mail = begins-slots w v all (λ n. subst (λ (f : QueueId → QueueSlot). SlotBeginsEmpty (f n)) (sym queue) (all.queues n)) (λ n. ap (λ (f : QueueId → QueueSlot). peer_in (f n)) queue) mail

pub found-begins : (w : World) (name : QueueId) (q : QueuePair) → AllBeginEmpty w → w.queue name ≡ Present q → BeginsEmpty q
found-begins w name q all is = subst SlotBeginsEmpty is (all.queues name)

-- ---- changes of state

idle-fresh : (t : State) → is_idle t ≡ true → is_fresh t ≡ true
idle-fresh states.Reset is = refl
idle-fresh states.Init is = refl
idle-fresh states.Rtr is = absurd (true≢false (sym is))
idle-fresh states.Rts is = absurd (true≢false (sym is))
idle-fresh states.Sqd is = absurd (true≢false (sym is))
idle-fresh states.Error is = absurd (true≢false (sym is))

reset-idle : (t : State) → is_among (states.Reset ∷ []) t ≡ true → is_idle t ≡ true
reset-idle states.Reset is = refl
reset-idle states.Init is = absurd (true≢false (sym is))
reset-idle states.Rtr is = absurd (true≢false (sym is))
reset-idle states.Rts is = absurd (true≢false (sym is))
reset-idle states.Sqd is = absurd (true≢false (sym is))
reset-idle states.Error is = absurd (true≢false (sym is))

pub init-idle : (t : State) → is_among (states.Init ∷ []) t ≡ true → is_idle t ≡ true
init-idle states.Init is = refl
init-idle states.Reset is = absurd (true≢false (sym is))
init-idle states.Rtr is = absurd (true≢false (sym is))
init-idle states.Rts is = absurd (true≢false (sym is))
init-idle states.Sqd is = absurd (true≢false (sym is))
init-idle states.Error is = absurd (true≢false (sym is))

change-begins : (change : state_change.Change) (q : QueuePair) → BeginsEmpty q → is_among (allowed_from change) q.state ≡ true → BeginsEmpty (queue_after_change change q)
change-begins changes.Init q begins among = record {
  posted = λ is. begins.posted (idle-fresh q.state (reset-idle q.state among));
  oldest = λ is. begins.oldest (idle-fresh q.state (reset-idle q.state among));
  peer = λ is. begins.peer (reset-idle q.state among);
  saved = λ is. begins.saved (reset-idle q.state among);
}
change-begins (changes.Rtr peer incarnation psn mtu rnr_code) q begins among = record {
  posted = λ is. begins.posted (idle-fresh q.state (init-idle q.state among));
  oldest = λ is. begins.oldest (idle-fresh q.state (init-idle q.state among));
  peer = λ is. absurd (true≢false (sym is));
  saved = λ is. absurd (true≢false (sym is));
}
change-begins (changes.Rts psn retry rnr_retry reads) q begins among = begun-begins (queue_after_change (changes.Rts psn retry rnr_retry reads) q) refl
change-begins changes.Sqd q begins among = begun-begins (queue_after_change changes.Sqd q) refl
change-begins changes.Resume q begins among = begun-begins (queue_after_change changes.Resume q) refl
change-begins changes.Error q begins among = begun-begins (queue_after_change changes.Error q) refl
change-begins changes.Reset q begins among = record { posted = λ is. refl; oldest = λ is. refl; peer = λ is. refl; saved = λ is. refl }

change-mail : (change : state_change.Change) (w : World) (name : QueueId) (q : QueuePair) → AllBeginEmpty w → w.queue name ≡ Present q → peer_in (Present (queue_after_change change q)) ≡ None → (box_after change q (w.mailbox name)).envelopes ≡ []
change-mail changes.Init w name q all is none = all.mail name (ap peer_in is ∙ none)
change-mail (changes.Rtr peer incarnation psn mtu rnr_code) w name q all is none = absurd (true≢false (ap is_some none))
change-mail (changes.Rts psn retry rnr_retry reads) w name q all is none = all.mail name (ap peer_in is ∙ none)
change-mail changes.Sqd w name q all is none = all.mail name (ap peer_in is ∙ none)
change-mail changes.Resume w name q all is none = all.mail name (ap peer_in is ∙ none)
change-mail changes.Error w name q all is none = all.mail name (ap peer_in is ∙ none)
change-mail changes.Reset w name q all is none = refl

-- ---- postings

-- a queue pair that is flushed at once in Error, or as it was
flush-begins : (q p : QueuePair) → p.state ≡ q.state → (state_eq p.state states.Error ≡ false → BeginsEmpty p) → BeginsEmpty (after_flush p)
flush-begins q p same begins = by (state_eq p.state states.Error) refl
  where
    error : (t : State) → state_eq t states.Error ≡ true → is_fresh t ≡ false
    error states.Error is = refl
    error states.Reset is = absurd (true≢false (sym is))
    error states.Init is = absurd (true≢false (sym is))
    error states.Rtr is = absurd (true≢false (sym is))
    error states.Rts is = refl
    error states.Sqd is = refl

    by : (b : Bool) → state_eq p.state states.Error ≡ b → BeginsEmpty (if b then with_all_flushed p else p)
    by true is = begun-begins (with_all_flushed p) (error p.state is)
    by false is = begins is

flush-peer : (p : QueuePair) → (after_flush p).peer ≡ p.peer
flush-peer p = by (state_eq p.state states.Error)
  where
    by : (b : Bool) → (if b then with_all_flushed p else p).peer ≡ p.peer
    by true = refl
    by false = refl

posted-begun : (t : State) → is_among (states.Rts ∷ states.Sqd ∷ states.Error ∷ []) t ≡ true → is_fresh t ≡ false
posted-begun states.Rts is = refl
posted-begun states.Sqd is = refl
posted-begun states.Error is = refl
posted-begun states.Reset is = absurd (true≢false (sym is))
posted-begun states.Init is = absurd (true≢false (sym is))
posted-begun states.Rtr is = absurd (true≢false (sym is))

-- ---- polls

freer-begins : (q p : QueuePair) → IsFreer q p → BeginsEmpty q → BeginsEmpty p
freer-begins q p f begins = record {
  posted = λ is. f.left ∙ ap (drop f.gone) (begins.posted (sym (ap is_fresh f.state) ∙ is)) ∙ drop-nil f.gone;
  oldest = λ is. ap (λ (r : RequesterNumbers). r.oldest) f.requester ∙ begins.oldest (sym (ap is_fresh f.state) ∙ is);
  peer = λ is. f.peer ∙ begins.peer (sym (ap is_idle f.state) ∙ is);
  saved = λ is. f.saved ∙ begins.saved (sym (ap is_idle f.state) ∙ is);
}

freer-slot-begins : (a b : QueueSlot) → IsFreerSlot a b → SlotBeginsEmpty a → SlotBeginsEmpty b
freer-slot-begins a b (untouched same) begins = subst SlotBeginsEmpty (sym same) begins
freer-slot-begins a b (freer q p one other f) begins = subst SlotBeginsEmpty (sym other) (freer-begins q p f (subst SlotBeginsEmpty one begins))

freer-slot-peer : (a b : QueueSlot) → IsFreerSlot a b → peer_in b ≡ peer_in a
freer-slot-peer a b (untouched same) = ap peer_in same
freer-slot-peer a b (freer q p one other f) = ap peer_in other ∙ f.peer ∙ sym (ap peer_in one)

pub freers-begin : (w v : World) → AllBeginEmpty w → AreFreer w v → AllBeginEmpty v
freers-begin w v all freers = begins-slots w v all (λ n. freer-slot-begins (w.queue n) (v.queue n) (freers.queues n) (all.queues n)) (λ n. freer-slot-peer (w.queue n) (v.queue n) (freers.queues n)) freers.mail

-- ---- CreateQp

pub created-has : (w : World) (x : Creation) (send recv : CompletionQueue) (shared : Option SharedReceives)
    → Has (with_at queue_eq w.queue (queue_of x.slot) (Present (new_queue x (w.queue (queue_of x.slot)))))
    (with_at queue_eq w.mailbox (queue_of x.slot) (with_peer (new_queue x (w.queue (queue_of x.slot))).incarnation None (w.mailbox (queue_of x.slot)))) (put_all (created w x send recv shared) w)
created-has w x send recv shared = by x.srq (option_map (λ srq. w.srq (beside x.slot srq)) x.srq)
  where
    place : QueueId
    place = queue_of x.slot

    v : World
    v = put_all ((Domain_of x.slot.domain := with_object (w.domain x.slot.domain)) ∷ (Queue_of place := Present (new_queue x (w.queue place)))
        ∷ (Mailbox_of place := with_peer (new_queue x (w.queue place)).incarnation None (w.mailbox place))
        ∷ (Cq_of (beside x.slot x.send_cq) := Some (send_reserved x send))
        ∷ (Cq_of (beside x.slot x.recv_cq) := Some (after_reserve (receive_reserve x) (receive_room x shared) (before_receives x send recv))) ∷ []) w

    updates : Option ℕ → Option SrqSlot → List Update
    updates (Some srq) (Some slot) = (Srq_of (beside x.slot srq) := record slot { users = suc slot.users }) ∷ []
    updates srq slot = []

    by : (o : Option ℕ) (t : Option SrqSlot) → Has (with_at queue_eq w.queue place (Present (new_queue x (w.queue place)))) (with_at queue_eq w.mailbox place (with_peer (new_queue x (w.queue place)).incarnation None (w.mailbox place))) (put_all (updates o t) v)
    by None t = record { queue = refl; mailbox = refl }
    by (Some srq) None = record { queue = refl; mailbox = refl }
    by (Some srq) (Some slot) = record { queue = refl; mailbox = refl }

absent-peer : (slot : QueueSlot) → is_present slot ≡ false → peer_in slot ≡ None
absent-peer (NoQueue incarnation timers) none = refl
absent-peer (Present q) none = absurd (true≢false none)

create-begins : (c : Configuration) (w : World) (call : Call) (x : Creation) → AllBeginEmpty w → Leads w (λ v ms. AllBeginEmpty v) (create_qp_plan c call x)
create-begins c w call x all = by (is_present (w.queue place)) refl
  where
    place : QueueId
    place = queue_of x.slot

    by : (b : Bool) → is_present (w.queue place) ≡ b → Leads w (λ v ms. AllBeginEmpty v) (create_qp_plan c call x)
    by true is = (λ none. all, λ allocated. (λ taken. all, λ free. absurd (true≢false (sym is ∙ free))))
    by false free = leads-create c w (λ v ms. AllBeginEmpty v) call x (λ r. all) (λ send recv shared sends receives.
        begins-replaced w (put_all (created w x send recv shared) w) place (Present (new_queue x (w.queue place))) (with_peer (new_queue x (w.queue place)).incarnation None (w.mailbox place)) all
        (replaces-changed w (put_all (created w x send recv shared) w) place (Present (new_queue x (w.queue place))) (with_peer (new_queue x (w.queue place)).incarnation None (w.mailbox place)) (created-has w x send recv shared))
        (record { posted = λ is. refl; oldest = λ is. refl; peer = λ is. refl; saved = λ is. refl })
        (λ none. all.mail place (absent-peer (w.queue place) free)))

-- ---- verbs

module _ (c : Configuration) (w : World) (sound : IsSoundWorld c w) (all : AllBeginEmpty w) where
  abbrev P : World → List Mark → Type 0
  P v ms = AllBeginEmpty v

  pub refused : (call : Call) → Refuses w P call
  refused call x = all

  poll-begins : (call : Call) (slot : Slot) (n least : ℕ) → Leads w P (poll_plan call slot n least)
  poll-begins call slot n least = leads-poll w P call slot n least (refused call)
      (λ cq us is freed. freers-begin w (put_all us (put w (Cq_of slot) (Some (after_polls (length (take n cq.waiting)) cq)))) all
      (poll-freers c w slot cq n us (put w (Cq_of slot) (Some (after_polls (length (take n cq.waiting)) cq))) sound is freed refl refl))

  dealloc-begins : (call : Call) (slot : Slot) → Leads w P (dealloc_mw_plan call slot)
  dealloc-begins call slot = leads-dealloc w P call slot (refused call) (λ v o queue mail. begins-same w v all queue mail)
      (λ name p v o is queue mail. begins-slots w v all (λ n. subst (λ (f : QueueId → QueueSlot). SlotBeginsEmpty (f n)) (sym queue) (at name p is n (queue_eq name n) refl))
      (λ n. ap (λ (f : QueueId → QueueSlot). peer_in (f n)) queue ∙ peers name p is n (queue_eq name n) refl) mail)
    where
      fewer : (p : QueuePair) → BeginsEmpty p → BeginsEmpty (window_fewer p)
      fewer p begins = record { posted = begins.posted; oldest = begins.oldest; peer = begins.peer; saved = begins.saved }

      at : (name : QueueId) (p : QueuePair) → w.queue name ≡ Present p → (n : QueueId) (b : Bool) → queue_eq name n ≡ b → SlotBeginsEmpty (if b then Present (window_fewer p) else w.queue n)
      at name p is n true e = fewer p (found-begins w name p all is)
      at name p is n false e = all.queues n

      peers : (name : QueueId) (p : QueuePair) → w.queue name ≡ Present p → (n : QueueId) (b : Bool) → queue_eq name n ≡ b → peer_in (if b then Present (window_fewer p) else w.queue n) ≡ peer_in (w.queue n)
      peers name p is n true e = ap peer_in (sym is) ∙ ap (λ k. peer_in (w.queue k)) (queue-path name n e)
      peers name p is n false e = refl

  inject-begins : (call : Call) (name : QueueId) (bytes : List ℕ) → Leads w P (inject_plan c call name bytes)
  inject-begins call name bytes = leads-inject c w P call name bytes sound (refused call)
      (λ q shared e v there same ends replaces. begins-turned w v name q e.queue (w.mailbox name) all there.is replaces
      (ends-do (IsInner q) (arrival_row bytes None shared q) e ends (ends-as (IsInner q) (arrival_row bytes None shared q) (arrival-inner bytes None shared q))).peer
      (ends-do (λ e. BeginsEmpty e.queue) (arrival_row bytes None shared q) e ends (arrival-begins bytes None shared q (found-begins w name q all there.is))) (λ none. none))

  aside-begins : (call : Call) (verb : Verb) → LeavesPairs verb → Leads w P (verb_plan c call verb)
  aside-begins call verb leaves = leads-weaker w (SamePairs w) P (verb_plan c call verb) (λ v ms same. begins-same w v all same.0 same.1) (leads-aside c w call verb leaves (refl, refl))

  pub verb-begins : (call : Call) (verb : Verb) → Leads w P (verb_plan c call verb)
  verb-begins call (verbs.ModifyQp slot change) = leads-change c w P call slot change sound (refused call)
      (λ q v there among replaces. begins-replaced w v (queue_of slot) (Present (queue_after_change change q)) (box_after change q (w.mailbox (queue_of slot))) all replaces
      (change-begins change q (found-begins w (queue_of slot) q all there.is) among) (change-mail change w (queue_of slot) q all there.is))
  verb-begins call (verbs.CreateQp slot send_cq recv_cq send_depth recv_depth srq) =
      create-begins c w call (record { slot = slot; send_cq = send_cq; recv_cq = recv_cq; send_depth = send_depth; recv_depth = recv_depth; srq = srq }) all
  verb-begins call (verbs.DestroyQp slot) = leads-destroy c w P call slot sound (refused call)
      (λ q v there replaces. begins-replaced w v (queue_of slot) (NoQueue q.incarnation q.requester.timers) (emptied_mailbox q.incarnation (w.mailbox (queue_of slot))) all replaces (record {}) (λ none. refl))
  verb-begins call (verbs.PostSend slot request) = leads-post c w P call slot request sound (refused call)
      (λ q v drawn key there fails replaces. begins-turned w v (queue_of slot) q (after_flush (with_send request drawn q)) (w.mailbox (queue_of slot)) all there.is replaces (flush-peer (with_send request drawn q))
      (flush-begins q (with_send request drawn q) refl (λ none. begun-begins (with_send request drawn q) (posted-begun q.state (not-false (is_among (states.Rts ∷ states.Sqd ∷ states.Error ∷ []) q.state) fails.1.1.0)))) (λ none. none))
  verb-begins call (verbs.PostRecv slot request) = leads-receive c w P call slot request sound (refused call)
      (λ q v there replaces. begins-turned w v (queue_of slot) q (after_flush (with_receive request q)) (w.mailbox (queue_of slot)) all there.is replaces (flush-peer (with_receive request q))
      (flush-begins q (with_receive request q) refl (λ none. received q (found-begins w (queue_of slot) q all there.is))) (λ none. none))
    where
      received : (q : QueuePair) → BeginsEmpty q → BeginsEmpty (with_receive request q)
      received q begins = record { posted = begins.posted; oldest = begins.oldest; peer = begins.peer; saved = begins.saved }
  verb-begins call (verbs.Poll slot n least) = poll-begins call slot n least
  verb-begins call (verbs.DeallocMw slot) = dealloc-begins call slot
  verb-begins call (verbs.Inject name bytes) = inject-begins call name bytes
  verb-begins call (verbs.AllocPd domain) = aside-begins call (verbs.AllocPd domain) (record {})
  verb-begins call (verbs.DeallocPd domain) = aside-begins call (verbs.DeallocPd domain) (record {})
  verb-begins call (verbs.RegMr slot buffer offset count rights) = aside-begins call (verbs.RegMr slot buffer offset count rights) (record {})
  verb-begins call (verbs.AllocMr slot pages) = aside-begins call (verbs.AllocMr slot pages) (record {})
  verb-begins call (verbs.DeregMr slot) = aside-begins call (verbs.DeregMr slot) (record {})
  verb-begins call (verbs.AllocMw slot kind) = aside-begins call (verbs.AllocMw slot kind) (record {})
  verb-begins call (verbs.CreateCq slot capacity) = aside-begins call (verbs.CreateCq slot capacity) (record {})
  verb-begins call (verbs.DestroyCq slot) = aside-begins call (verbs.DestroyCq slot) (record {})
  verb-begins call (verbs.CreateSrq slot depth) = aside-begins call (verbs.CreateSrq slot depth) (record {})
  verb-begins call (verbs.DestroySrq slot) = aside-begins call (verbs.DestroySrq slot) (record {})
  verb-begins call (verbs.QueryQp slot) = aside-begins call (verbs.QueryQp slot) (record {})
  verb-begins call (verbs.PostSrq slot request) = aside-begins call (verbs.PostSrq slot request) (record {})
  verb-begins call (verbs.Store adapter buffer offset bytes) = aside-begins call (verbs.Store adapter buffer offset bytes) (record {})
  verb-begins call (verbs.Load adapter buffer offset count) = aside-begins call (verbs.Load adapter buffer offset count) (record {})
