-- Each verb but an injection raises the weight by no more than what it posts weighs.
use Rattle.std.proofs.Common.{◌≡◌, ℕ, ◌+◌, ◌*◌, ◌≤◌, Bool, true, false, List, length, take, None, Some, refl, ap, sym, ◌∙◌, arith, true≢false}
use Rattle.ca_law_endings.proofs.LeadsLemmas.{comes, leads-weaker}
use Rattle.ca_law_endings.specs.Agreement.{peer_in}
use Rattle.ca_law_endings.specs.Runs.{Comes, Leads}
use Rattle.ca_law_order.proofs.Polls.PlanLemmas.{created, leads-create, leads-poll}
use Rattle.ca_law_order.proofs.Polls.PostingLemmas.{Refuses}
use Rattle.ca_base.specs.Configuration.{Configuration}
use Rattle.ca_base.specs.declared.limits.TheConstants.{MIN_PATH_MTU}
use Rattle.ca_base.specs.objects.CompletionQueue.{after_polls}
use Rattle.ca_base.specs.objects.Mailbox.{Mailbox, with_peer}
use Rattle.ca_base.specs.objects.QueuePair.{QueuePair, QueueSlot, NoQueue, Present, is_present}
use Rattle.ca_base.specs.objects.StateTable.{queue_after_change}
use Rattle.ca_keys.specs.Numbers.{queue_of}
use Rattle.ca_keys.specs.declared.names.QueueId.{QueueId}
use Rattle.ca_keys.specs.declared.names.Slot.{Slot}
use Rattle.ca_model.specs.declared.answer.Refusal.TheVariants.{NoSuch}
use Rattle.ca_model.specs.declared.event.Event.TheVariants as events
use Rattle.ca_model.specs.declared.mark.Mark.{Mark}
use Rattle.ca_model.specs.declared.verb.Verb.{Verb}
use Rattle.ca_model.specs.declared.verb.Verb.TheVariants as verbs
use Rattle.ca_model.specs.machine.CompletionVerbs.{poll_plan}
use Rattle.ca_model.specs.machine.Plan.{put_all}
use Rattle.ca_model.specs.machine.PostingVerbs.{after_flush, with_send}
use Rattle.ca_model.specs.machine.QueuePairVerbs.{Creation, create_qp_plan, emptied_mailbox, new_queue}
use Rattle.ca_model.specs.machine.Sound.{IsSoundWorld}
use Rattle.ca_model.specs.machine.Step.{plan, step, verb_plan}
use Rattle.ca_model.specs.machine.VerbAnswers.{Call}
use Rattle.ca_model.specs.machine.WindowVerbs.{dealloc_mw_plan}
use Rattle.ca_model.specs.machine.World.{Cq_of, World, put}
use Rattle.ca_law_once.specs.Ties.{LeavesPairs}
use Rattle.ca_law_once.proofs.Verbs.BeginLemmas.{created-has, found-begins}
use Rattle.ca_law_once.proofs.Verbs.PairLemmas.{replaces-changed, replaces-turned}
use Rattle.ca_law_once.proofs.Verbs.PollLemmas.{AreFreer, poll-freers}
use Rattle.ca_law_once.proofs.Verbs.WalkLemmas.{SamePairs, box_after, leads-aside, leads-change, leads-dealloc, leads-destroy, leads-post, leads-receive, window_fewer, with_receive}
use Rattle.ca_law_once.specs.Beginnings.{AllBeginEmpty}
use Rattle.ca_law_bounds.specs.WorldWeights.{AreApart, mail_weight, pair_weight, pairs_weight, world_weight}
use Rattle.ca_law_bounds.proofs.NameLemmas.{replaced-raises, slots-raise}
use Rattle.ca_law_bounds.proofs.PostLemmas.{change-raises, freer-slot-weighs, post-raises, receive-raises}
use Rattle.ca_law_bounds.specs.PostWeights.{InjectsNothing, packets_posted}

absent-peer : (slot : QueueSlot) → is_present slot ≡ false → peer_in slot ≡ None
absent-peer (NoQueue incarnation timers) none = refl
absent-peer (Present q) none = absurd (true≢false none)

-- the weight grows by so much at most
abbrev Raises : List QueueId → World → ℕ → World → List Mark → Type 0
Raises names w k v ms = world_weight names v ≤ world_weight names w + k

module _ (c : Configuration) (w : World) (names : List QueueId) (sound : IsSoundWorld c w) (begins : AllBeginEmpty w) (apart : AreApart names) where
  refused : (k : ℕ) (call : Call) → Refuses w (Raises names w k) call
  refused k call x = omega arith

  created-raises : (call : Call) (x : Creation) → Leads w (Raises names w 0) (create_qp_plan c call x)
  created-raises call x = by (is_present (w.queue place)) refl
    where
      place : QueueId
      place = queue_of x.slot

      q : QueuePair
      q = new_queue x (w.queue place)

      box : Mailbox
      box = with_peer q.incarnation None (w.mailbox place)

      -- nothing is posted to it, and nothing under way
      empty : is_present (w.queue place) ≡ false → pair_weight (Present q) box ≡ 0
      empty free = let mail : mail_weight MIN_PATH_MTU (w.mailbox place).envelopes ≡ 0 = ap (mail_weight MIN_PATH_MTU) (begins.mail place (absent-peer (w.queue place) free)) in omega (arith, mail)

      by : (b : Bool) → is_present (w.queue place) ≡ b → Leads w (Raises names w 0) (create_qp_plan c call x)
      by true is = (λ none. refused 0 call NoSuch, λ allocated. (λ taken. refused 0 call NoSuch, λ free. absurd (true≢false (sym is ∙ free))))
      by false free = leads-create c w (Raises names w 0) call x (refused 0 call) (λ send recv shared sends receives.
          replaced-raises w (put_all (created w x send recv shared) w) names place (Present q) box 0 apart
          (replaces-changed w (put_all (created w x send recv shared) w) place (Present q) box (created-has w x send recv shared))
          (omega (arith, empty free)))

  poll-raises : (call : Call) (slot : Slot) (n least : ℕ) → Leads w (Raises names w 0) (poll_plan call slot n least)
  poll-raises call slot n least = leads-poll w (Raises names w 0) call slot n least (refused 0 call)
      (λ cq us is freed. polled (put_all us (put w (Cq_of slot) (Some (after_polls (length (take n cq.waiting)) cq))))
      (poll-freers c w slot cq n us (put w (Cq_of slot) (Some (after_polls (length (take n cq.waiting)) cq))) sound is freed refl refl))
    where
      polled : (v : World) → AreFreer w v → world_weight names v ≤ world_weight names w + 0
      polled v freers = omega (
        arith,
        slots-raise w v names (λ n.
            let mail : pair_weight (v.queue n) (v.mailbox n) ≡ pair_weight (v.queue n) (w.mailbox n) = ap (λ (f : QueueId → Mailbox). pair_weight (v.queue n) (f n)) freers.mail in
            let same : pair_weight (v.queue n) (w.mailbox n) ≡ pair_weight (w.queue n) (w.mailbox n) = freer-slot-weighs (w.queue n) (v.queue n) (w.mailbox n) (freers.queues n) in
            omega (arith, mail, same)),
      )

  dealloc-raises : (call : Call) (slot : Slot) → Leads w (Raises names w 0) (dealloc_mw_plan call slot)
  dealloc-raises call slot = leads-dealloc w (Raises names w 0) call slot (refused 0 call) (λ v o queue mail. same v queue mail)
      (λ name p v o is queue mail. replaced-raises w v names name (Present (window_fewer p)) (w.mailbox name) 0 apart
      (replaces-turned w v name (Present (window_fewer p)) (record { queue = queue; mailbox = mail }))
      (let fewer : pair_weight (Present (window_fewer p)) (w.mailbox name) ≡ pair_weight (Present p) (w.mailbox name) = refl in
      omega (arith, fewer, ap (λ t. pair_weight t (w.mailbox name)) is)))
    where
      same : (v : World) → v.queue ≡ w.queue → v.mailbox ≡ w.mailbox → world_weight names v ≤ world_weight names w + 0
      same v queue mail = omega (arith, ap (λ f. pairs_weight names f v.mailbox) queue, ap (λ g. pairs_weight names w.queue g) mail)

  aside-raises : (call : Call) (verb : Verb) → LeavesPairs verb → Leads w (Raises names w 0) (verb_plan c call verb)
  aside-raises call verb leaves = leads-weaker w (SamePairs w) (Raises names w 0) (verb_plan c call verb)
      (λ v ms same. omega (arith, ap (λ f. pairs_weight names f v.mailbox) same.0, ap (λ g. pairs_weight names w.queue g) same.1)) (leads-aside c w call verb leaves (refl, refl))

  leads-verb : (call : Call) (verb : Verb) → InjectsNothing verb → Leads w (Raises names w (4 * packets_posted verb)) (verb_plan c call verb)
  leads-verb call (verbs.ModifyQp slot change) none = leads-change c w (Raises names w 0) call slot change sound (refused 0 call)
      (λ q v there among replaces. replaced-raises w v names (queue_of slot) (Present (queue_after_change change q)) (box_after change q (w.mailbox (queue_of slot))) 0 apart replaces
      (omega (
        arith,
        change-raises change q (w.mailbox (queue_of slot)) there.sound (found-begins w (queue_of slot) q begins there.is) (λ nobody. begins.mail (queue_of slot) (ap peer_in there.is ∙ nobody)) among,
        ap (λ t. pair_weight t (w.mailbox (queue_of slot))) there.is,
      )))
  leads-verb call (verbs.PostSend slot request) none = leads-post c w (Raises names w (4 * packets_posted (verbs.PostSend slot request))) call slot request sound (refused (4 * packets_posted (verbs.PostSend slot request)) call)
      (λ q v drawn key there fails replaces. replaced-raises w v names (queue_of slot) (Present (after_flush (with_send request drawn q))) (w.mailbox (queue_of slot)) (4 * packets_posted (verbs.PostSend slot request)) apart replaces
      (omega (arith, post-raises q request drawn (w.mailbox (queue_of slot)) there.sound, ap (λ t. pair_weight t (w.mailbox (queue_of slot))) there.is)))
  leads-verb call (verbs.PostRecv slot request) none = leads-receive c w (Raises names w 0) call slot request sound (refused 0 call)
      (λ q v there replaces. replaced-raises w v names (queue_of slot) (Present (after_flush (with_receive request q))) (w.mailbox (queue_of slot)) 0 apart replaces
      (omega (arith, receive-raises q request (w.mailbox (queue_of slot)), ap (λ t. pair_weight t (w.mailbox (queue_of slot))) there.is)))
  leads-verb call (verbs.CreateQp slot send_cq recv_cq send_depth recv_depth srq) none =
      created-raises call (record { slot = slot; send_cq = send_cq; recv_cq = recv_cq; send_depth = send_depth; recv_depth = recv_depth; srq = srq })
  leads-verb call (verbs.DestroyQp slot) none = leads-destroy c w (Raises names w 0) call slot sound (refused 0 call)
      (λ q v there replaces. replaced-raises w v names (queue_of slot) (NoQueue q.incarnation q.requester.timers) (emptied_mailbox q.incarnation (w.mailbox (queue_of slot))) 0 apart replaces (omega arith))
  leads-verb call (verbs.Poll slot n least) none = poll-raises call slot n least
  leads-verb call (verbs.DeallocMw slot) none = dealloc-raises call slot
  leads-verb call (verbs.Inject name bytes) none = absurd none
  leads-verb call (verbs.AllocPd domain) none = aside-raises call (verbs.AllocPd domain) (record {})
  leads-verb call (verbs.DeallocPd domain) none = aside-raises call (verbs.DeallocPd domain) (record {})
  leads-verb call (verbs.RegMr slot buffer offset count rights) none = aside-raises call (verbs.RegMr slot buffer offset count rights) (record {})
  leads-verb call (verbs.AllocMr slot pages) none = aside-raises call (verbs.AllocMr slot pages) (record {})
  leads-verb call (verbs.DeregMr slot) none = aside-raises call (verbs.DeregMr slot) (record {})
  leads-verb call (verbs.AllocMw slot kind) none = aside-raises call (verbs.AllocMw slot kind) (record {})
  leads-verb call (verbs.CreateCq slot capacity) none = aside-raises call (verbs.CreateCq slot capacity) (record {})
  leads-verb call (verbs.DestroyCq slot) none = aside-raises call (verbs.DestroyCq slot) (record {})
  leads-verb call (verbs.CreateSrq slot depth) none = aside-raises call (verbs.CreateSrq slot depth) (record {})
  leads-verb call (verbs.DestroySrq slot) none = aside-raises call (verbs.DestroySrq slot) (record {})
  leads-verb call (verbs.QueryQp slot) none = aside-raises call (verbs.QueryQp slot) (record {})
  leads-verb call (verbs.PostSrq slot request) none = aside-raises call (verbs.PostSrq slot request) (record {})
  leads-verb call (verbs.Store adapter buffer offset bytes) none = aside-raises call (verbs.Store adapter buffer offset bytes) (record {})
  leads-verb call (verbs.Load adapter buffer offset count) none = aside-raises call (verbs.Load adapter buffer offset count) (record {})

pub verb-raises : (c : Configuration) (w : World) (names : List QueueId) (by : ℕ) (verb : Verb) → IsSoundWorld c w → AllBeginEmpty w → AreApart names → InjectsNothing verb
    → Comes (λ v ms. world_weight names v ≤ world_weight names w + 4 * packets_posted verb) (step c w (events.Verb by verb))
verb-raises c w names by verb sound begins apart none = comes w (Raises names w (4 * packets_posted verb)) (plan c (events.Verb by verb))
    (λ named. leads-verb c w names sound begins apart (record { by = by; verb = verb }) verb none, λ unnamed. refused c w names sound begins apart (4 * packets_posted verb) (record { by = by; verb = verb }) NoSuch)
