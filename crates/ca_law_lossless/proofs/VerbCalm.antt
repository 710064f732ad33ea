-- Each verb but Inject keeps a world tied to a calm link, where its answer agrees. For proofs only.
use Rattle.std.proofs.Common.{◌≡◌, ℕ, suc, ◌+◌, ◌^◌, inr, Bool, true, false, if◌then◌else◌, List, [], ◌∷◌, take, length, map, Option, None, Some, is_some, refl, ap, sym, subst, ◌∙◌, arith, true≢false}
use Rattle.ca_law_endings.proofs.LeadsLemmas.{comes, leads-weaker}
use Rattle.ca_law_endings.specs.Agreement.{peer_in}
use Rattle.ca_law_endings.specs.Runs.{Comes, Leads}
use Rattle.ca_law_order.proofs.Polls.PlanLemmas.{created, leads-create, leads-poll}
use Rattle.ca_law_order.proofs.Polls.PostingLemmas.{Refuses}
use Rattle.ca_base.specs.Configuration.{Configuration}
use Rattle.ca_base.specs.declared.change.Change as state_change
use Rattle.ca_base.specs.declared.change.Change.TheVariants as changes
use Rattle.ca_base.specs.declared.change.State.{State}
use Rattle.ca_base.specs.declared.change.State.TheVariants as states
use Rattle.ca_base.specs.declared.correspondent.Correspondent.{Correspondent}
use Rattle.ca_base.specs.declared.queue_numbers.RequesterNumbers.{RequesterNumbers}
use Rattle.ca_base.specs.objects.CompletionQueue.{CompletionQueue, after_polls}
use Rattle.ca_base.specs.objects.Mailbox.{Mailbox, with_peer}
use Rattle.ca_base.specs.objects.QueuePair.{QueuePair, QueueSlot, NoQueue, Present, after_reset, incarnation_of, is_present, with_all_flushed}
use Rattle.ca_base.specs.objects.SharedReceives.{SharedReceives}
use Rattle.ca_base.specs.objects.StateTable.{allowed_from, is_among, queue_after_change, state_eq}
use Rattle.ca_connection.specs.Layout.{Direction}
use Rattle.ca_connection.specs.Link.{Link, RequestPacket, Requester, Responder, Response, opening}
use Rattle.ca_connection.specs.Calm.{CalmLink, Standing}
use Rattle.ca_connection.specs.Calm.Standing.{Accepting}
use Rattle.ca_keys.specs.Equal.{queue_eq}
use Rattle.ca_keys.specs.Numbers.{queue_of}
use Rattle.ca_keys.specs.declared.names.QueueId.{QueueId}
use Rattle.ca_law_world.proofs.Sound.SettledLemmas.{queue-path}
use Rattle.ca_model.specs.Past.{with_at}
use Rattle.ca_model.specs.declared.answer.Refusal.TheVariants.{NoSuch}
use Rattle.ca_model.specs.declared.event.Event.TheVariants as events
use Rattle.ca_model.specs.declared.mark.Mark.{Mark}
use Rattle.ca_model.specs.declared.verb.Verb.{Verb}
use Rattle.ca_model.specs.declared.verb.Verb.TheVariants as verbs
use Rattle.ca_model.specs.machine.Invariants.{is_connected, is_fresh, is_idle, is_sending}
use Rattle.ca_model.specs.machine.Plan.{put_all}
use Rattle.ca_model.specs.machine.PostingVerbs.{after_flush, with_send}
use Rattle.ca_model.specs.machine.QueuePairVerbs.{Creation, emptied_mailbox, new_queue}
use Rattle.ca_model.specs.machine.Row.{queue_and_marks}
use Rattle.ca_model.specs.machine.Sound.{IsSoundWorld}
use Rattle.ca_model.specs.machine.Step.{plan, step, verb_plan}
use Rattle.ca_model.specs.machine.VerbAnswers.{Call}
use Rattle.ca_model.specs.machine.World.{Cq_of, World, put}
use Rattle.ca_law_lossless.specs.Standing.{SpellsPlainly, StandsIn}
use Rattle.ca_law_once.proofs.Ties.DeliverLemmas.{present-same}
use Rattle.ca_law_once.proofs.Ties.DeliverWalk.{Has}
use Rattle.ca_law_once.proofs.Ties.TimerLemmas.{IsFoundAt}
use Rattle.ca_law_once.specs.Ties.{AreEntries, IsBefore, IsTied, LeavesPairs}
use Rattle.ca_law_once.specs.Ties.IsBefore.{sooner, unnamed}
use Rattle.ca_law_lossless.proofs.EndLemmas.{KeepsReceiver, KeepsSender, SameLife, cursor-from, cursor-still, joined-neither, sender-of, sending-connected, still-receiver, still-sender, receiver-at, sender-at}
use Rattle.ca_law_lossless.proofs.MailLemmas.{fresh-none}
use Rattle.ca_law_lossless.proofs.QuietCalm.{IsCalmTurn, keeps-calm, receiver-here, replaced-calm, replaced-cursor, sender-here, turn-calm}
use Rattle.ca_law_lossless.specs.CalmEvents.{AreCalm, IsCalmEvent}
use Rattle.ca_law_lossless.specs.CalmTies.{CalmAfter, CursorGoesOn, HasReceiver, HasSender, IsCalmlyTied, ReceiverCalm, SenderCalm}
use Rattle.ca_law_once.proofs.Rows.ForgetLemmas.Forgets.{emptied}
use Rattle.ca_law_once.specs.Entries.{SpellsRequest, SpellsSomeRequest, SpellsSomeResponse}
use Rattle.ca_law_once.specs.Sides.{kept_result, requester_in, responder_in, said}
use Rattle.ca_law_once.proofs.Verbs.BeginLemmas.{found-begins, init-idle}
use Rattle.ca_law_once.proofs.Verbs.PairLemmas.{Replaces, replaces-changed, replaces-turned}
use Rattle.ca_law_once.proofs.Verbs.PollLemmas.{AreFreer, IsFreer, IsFreerSlot, poll-freers}
use Rattle.ca_law_once.proofs.Verbs.PollLemmas.IsFreerSlot.{freer, untouched}
use Rattle.ca_law_once.proofs.Verbs.WalkLemmas.{SamePairs, box_after, leads-aside, leads-change, leads-dealloc, leads-destroy, leads-post, leads-receive, window_fewer, with_receive}
use Rattle.ca_law_once.specs.Agrees.{AgreesWith, ChangeAgrees, ReceiverNames}
use Rattle.ca_law_once.specs.Beginnings.{AllBeginEmpty, BeginsEmpty}

-- ---- states

among-reset : (t : State) → is_among (states.Reset ∷ []) t ≡ true → is_connected t ≡ false
among-reset states.Reset among = refl
among-reset states.Init among = absurd (true≢false (sym among))
among-reset states.Rtr among = absurd (true≢false (sym among))
among-reset states.Rts among = absurd (true≢false (sym among))
among-reset states.Sqd among = absurd (true≢false (sym among))
among-reset states.Error among = absurd (true≢false (sym among))

among-rtr : (t : State) → is_among (states.Rtr ∷ []) t ≡ true → t ≡ states.Rtr
among-rtr states.Rtr among = refl
among-rtr states.Reset among = absurd (true≢false (sym among))
among-rtr states.Init among = absurd (true≢false (sym among))
among-rtr states.Rts among = absurd (true≢false (sym among))
among-rtr states.Sqd among = absurd (true≢false (sym among))
among-rtr states.Error among = absurd (true≢false (sym among))

among-rts : (t : State) → is_among (states.Rts ∷ []) t ≡ true → is_sending t ≡ true
among-rts states.Rts among = refl
among-rts states.Reset among = absurd (true≢false (sym among))
among-rts states.Init among = absurd (true≢false (sym among))
among-rts states.Rtr among = absurd (true≢false (sym among))
among-rts states.Sqd among = absurd (true≢false (sym among))
among-rts states.Error among = absurd (true≢false (sym among))

among-sqd : (t : State) → is_among (states.Sqd ∷ []) t ≡ true → is_sending t ≡ true
among-sqd states.Sqd among = refl
among-sqd states.Reset among = absurd (true≢false (sym among))
among-sqd states.Init among = absurd (true≢false (sym among))
among-sqd states.Rtr among = absurd (true≢false (sym among))
among-sqd states.Rts among = absurd (true≢false (sym among))
among-sqd states.Error among = absurd (true≢false (sym among))

-- ---- a life that comes, or is over

-- what stands in a slot afterwards: a life that was to come before, without a peer, or none
record IsNewSlot (old slot : QueueSlot) : Type 0 where
  before : (life : Correspondent) → IsBefore life slot → IsBefore life old
  fresh : (t : QueuePair) → slot ≡ Present t → (t.peer ≡ None) × (t.responder.nak_sent ≡ false)
  later : (q t : QueuePair) → old ≡ Present q → slot ≡ Present t → t.incarnation ≡ suc q.incarnation

new-sender : (d : Direction) (s r : Correspondent) (old slot : QueueSlot) (m box : Mailbox) (requester : Requester) (responses : List (Option Response)) (k : ℕ) → IsNewSlot old slot → SenderCalm d s r old m requester responses k
    → SenderCalm d s r slot box requester responses k
new-sender d s r old slot m box requester responses k new tie = record {
  before = λ is. tie.before (new.before s is);
  paired = λ t paired connected. absurd (true≢false (sym (ap is_some (sym (new.fresh t paired.present).0 ∙ paired.names))));
}

new-receiver : (d : Direction) (s r : Correspondent) (old slot : QueueSlot) (m box : Mailbox) (responder : Responder) (requests : List (Option RequestPacket)) (k : ℕ) (standing : Standing) → IsNewSlot old slot
    → ReceiverCalm d s r old m responder requests k standing → ReceiverCalm d s r slot box responder requests k standing
new-receiver d s r old slot m box responder requests k standing new tie = record {
  before = λ is. tie.before (new.before r is);
  unnamed = λ t is none. (new.fresh t is).1;
  paired = λ t paired. absurd (true≢false (sym (ap is_some (sym (new.fresh t paired.present).0 ∙ paired.names))));
}

new-calm : (d : Direction) (s r : Correspondent) (w v : World) (k : CalmLink) (name : QueueId) (slot : QueueSlot) (box : Mailbox) → IsNewSlot (w.queue name) slot → Replaces w name slot box v → IsCalmlyTied d s r w k → CalmAfter d s r w v
new-calm d s r w v k name slot box new replaces tied = replaced-calm d s r w v k name slot box replaces
    (λ here. new-sender d s r (w.queue name) slot (w.mailbox name) box k.link.requester k.link.responses k.responses new
    (subst (λ n. SenderCalm d s r (w.queue n) (w.mailbox n) k.link.requester k.link.responses k.responses) (sym (queue-path name s.queue here)) tied.sender))
    (λ here. new-receiver d s r (w.queue name) slot (w.mailbox name) box k.link.responder k.link.requests k.requests k.standing new
    (subst (λ n. ReceiverCalm d s r (w.queue n) (w.mailbox n) k.link.responder k.link.requests k.requests k.standing) (sym (queue-path name r.queue here)) tied.receiver))
    (by (queue_eq name s.queue) refl) tied
  where
    by : (b : Bool) → queue_eq name s.queue ≡ b → CursorGoesOn s w v
    by true here = λ q p at after_is own other begun. absurd (omega (arith, own, other, new.later q p (ap w.queue (queue-path name s.queue here) ∙ at) (sym (replaces.here s.queue here).0 ∙ after_is)))
    by false none = cursor-still s w v (replaces.elsewhere s.queue none).0

reset-new : (q : QueuePair) → IsNewSlot (Present q) (Present (after_reset q))
reset-new q = record {
  before = λ life is. by life is;
  fresh = λ t is. let same = present-same (after_reset q) t is in (ap (λ (x : QueuePair). x.peer) (sym same), ap (λ (x : QueuePair). x.responder.nak_sent) (sym same));
  later = λ x t at after_is. sym (ap (λ (x : QueuePair). x.incarnation) (present-same (after_reset q) t after_is)) ∙ ap (λ (x : QueuePair). suc x.incarnation) (present-same q x at);
}
  where
    by : (life : Correspondent) → IsBefore life (Present (after_reset q)) → IsBefore life (Present q)
    by life (sooner less) = sooner (omega (arith, less))
    by life (unnamed t is own none) = sooner (omega (arith, own, ap (λ (x : QueuePair). x.incarnation) (present-same (after_reset q) t is)))

destroy-new : (q : QueuePair) (timers : ℕ) → IsNewSlot (Present q) (NoQueue q.incarnation timers)
destroy-new q timers = record {
  before = λ life is. by life is;
  fresh = λ t is. absurd (true≢false (sym (ap is_present is)));
  later = λ x t at after_is. absurd (true≢false (sym (ap is_present after_is)));
}
  where
    by : (life : Correspondent) → IsBefore life (NoQueue q.incarnation timers) → IsBefore life (Present q)
    by life (sooner less) = sooner less
    by life (unnamed t is own none) = absurd (true≢false (sym (ap is_present is)))

create-new : (x : Creation) (old : QueueSlot) → IsNewSlot old (Present (new_queue x old))
create-new x old = record {
  before = λ life is. by life is;
  fresh = λ t is. let same = present-same (new_queue x old) t is in (ap (λ (x : QueuePair). x.peer) (sym same), ap (λ (x : QueuePair). x.responder.nak_sent) (sym same));
  later = λ q t at after_is. sym (ap (λ (x : QueuePair). x.incarnation) (present-same (new_queue x old) t after_is)) ∙ ap (λ z. suc (incarnation_of z)) at;
}
  where
    by : (life : Correspondent) → IsBefore life (Present (new_queue x old)) → IsBefore life old
    by life (sooner less) = sooner (omega (arith, less))
    by life (unnamed t is own none) = sooner (omega (arith, own, ap (λ (x : QueuePair). x.incarnation) (present-same (new_queue x old) t is)))

-- ---- Rtr and Rts

no-entries : {X : Type 0} (Own : X → List ℕ → Type 0) (Other : List ℕ → Type 0) (m : Mailbox) (xs : List (Option X)) → m.envelopes ≡ [] → AreEntries Own Other m.envelopes xs
no-entries Own Other m xs none = subst (λ es. AreEntries Own Other es xs) (sym none) (record {})

rtr-receiver : (d : Direction) (s r : Correspondent) (name peer : QueueId) (q : QueuePair) (m : Mailbox) (incarnation psn mtu rnr_code : ℕ) (responder : Responder) (requests : List (Option RequestPacket)) (k : ℕ) (standing : Standing)
    → (q.incarnation ≡ r.incarnation → ReceiverNames d s peer incarnation psn mtu) → q.peer ≡ None → q.saved ≡ [] → q.responder.answers ≡ [] → m.envelopes ≡ [] → ReceiverCalm d s r (Present q) m responder requests k standing
    → ReceiverCalm d s r (Present (queue_after_change (changes.Rtr peer incarnation psn mtu rnr_code) q)) (box_after (changes.Rtr peer incarnation psn mtu rnr_code) q m) responder requests k standing
rtr-receiver d s r name peer q m incarnation psn mtu rnr_code responder requests k standing names nobody unsaved unanswered none tie = record {
  before = λ is. tie.before (by is);
  unnamed = λ t is nobody. absurd (true≢false (ap is_some (ap (λ (x : QueuePair). x.peer) (present-same p t is) ∙ nobody)));
  paired = λ t paired. subst (λ x. HasReceiver d x box responder requests k standing) (present-same p t paired.present)
      (has (ap (λ (x : QueuePair). x.incarnation) (present-same p t paired.present) ∙ paired.incarnation));
}
  where
    p : QueuePair
    p = queue_after_change (changes.Rtr peer incarnation psn mtu rnr_code) q

    box : Mailbox
    box = box_after (changes.Rtr peer incarnation psn mtu rnr_code) q m

    by : IsBefore r (Present p) → IsBefore r (Present q)
    by (sooner less) = sooner less
    by (unnamed t is own none) = absurd (true≢false (ap is_some (ap (λ (x : QueuePair). x.peer) (present-same p t is) ∙ none)))

    has : q.incarnation ≡ r.incarnation → HasReceiver d p box responder requests k standing
    has own = record {
      same = was.0 ∙ start_is;
      entries = no-entries (SpellsRequest d) SpellsSomeResponse box requests none;
      fresh = fresh-none k box.envelopes none was.2;
      stands = subst (λ z. StandsIn z p) (sym was.3) (refl, tie.unnamed q refl nobody);
    }
      where
        was : (responder ≡ (opening d).responder) × (requests ≡ []) × (k ≡ 0) × (standing ≡ Accepting)
        was = tie.before (unnamed q refl own nobody)

        start_is : (opening d).responder ≡ responder_in p
        start_is = (λ i. record {
          expected = 2 ^ 24 + sym (names own).same_psn i;
          queue = map said (sym unanswered i);
          results = map kept_result (sym unsaved i);
        })

rtr-sender : (d : Direction) (s r : Correspondent) (peer : QueueId) (q : QueuePair) (m : Mailbox) (incarnation psn mtu rnr_code : ℕ) (requester : Requester) (responses : List (Option Response)) (k : ℕ) → q.peer ≡ None → m.envelopes ≡ []
    → SenderCalm d s r (Present q) m requester responses k
    → SenderCalm d s r (Present (queue_after_change (changes.Rtr peer incarnation psn mtu rnr_code) q)) (box_after (changes.Rtr peer incarnation psn mtu rnr_code) q m) requester responses k
rtr-sender d s r peer q m incarnation psn mtu rnr_code requester responses k nobody none tie = record {
  before = λ is. tie.before (by is);
  paired = λ t paired connected. subst (λ x. HasSender d x box requester responses k) (present-same p t paired.present)
      (has (ap (λ (x : QueuePair). x.incarnation) (present-same p t paired.present) ∙ paired.incarnation));
}
  where
    p : QueuePair
    p = queue_after_change (changes.Rtr peer incarnation psn mtu rnr_code) q

    box : Mailbox
    box = box_after (changes.Rtr peer incarnation psn mtu rnr_code) q m

    by : IsBefore s (Present p) → IsBefore s (Present q)
    by (sooner less) = sooner less
    by (unnamed t is own none) = absurd (true≢false (ap is_some (ap (λ (x : QueuePair). x.peer) (present-same p t is) ∙ none)))

    has : q.incarnation ≡ s.incarnation → HasSender d p box requester responses k
    has own = record {
      opens = λ e. was.0;
      sending = λ e. absurd (true≢false (sym e));
      entries = no-entries SpellsPlainly SpellsSomeRequest box responses none;
      fresh = fresh-none k box.envelopes none was.2;
    }
      where
        was : (requester ≡ (opening d).requester) × (responses ≡ []) × (k ≡ 0)
        was = tie.before (unnamed q refl own nobody)

rts-sender : (d : Direction) (s r : Correspondent) (q : QueuePair) (m : Mailbox) (psn retry rnr_retry reads : ℕ) (requester : Requester) (responses : List (Option Response)) (k : ℕ) → (q.incarnation ≡ s.incarnation → psn ≡ d.psn) → q.state ≡ states.Rtr
    → SenderCalm d s r (Present q) m requester responses k → SenderCalm d s r (Present (queue_after_change (changes.Rts psn retry rnr_retry reads) q)) m requester responses k
rts-sender d s r q m psn retry rnr_retry reads requester responses k same rtr tie = sender-of d s r q p m m requester requester responses responses k k (record { incarnation = refl; peer = refl; mtu = refl }) tie (λ is. (refl, refl, refl))
    (λ paired connected. has paired.incarnation (tie.paired q paired (ap is_connected rtr)))
  where
    p : QueuePair
    p = queue_after_change (changes.Rts psn retry rnr_retry reads) q

    has : q.incarnation ≡ s.incarnation → HasSender d q m requester responses k → HasSender d p m requester responses k
    has own was = record {
      opens = λ e. absurd (true≢false (sym (ap is_fresh e)));
      sending = λ e. was.opens rtr ∙ (λ i. record { una = 2 ^ 24 + sym (same own) i; cursor = 2 ^ 24 + sym (same own) i });
      entries = was.entries;
      fresh = was.fresh;
    }

-- ---- changes of state

error-turn : (q : QueuePair) → IsCalmTurn q (queue_and_marks (queue_after_change changes.Error q) [])
error-turn q = record {
  life = record { incarnation = refl; peer = refl; mtu = refl };
  state = (inr refl, refl);
  numbers = refl;
  forgets = emptied refl refl refl refl refl;
  flag = λ none. refl;
}

-- a queue pair of which the state alone is another
other-state : (q : QueuePair) (t : State) → is_connected t ≡ is_connected q.state → KeepsReceiver q (record q { state = t })
other-state q t same = record { life = record { incarnation = refl; peer = refl; mtu = refl }; responder = refl; connected = same; flag = refl }

sending-state : (q : QueuePair) (t : State) → (t ≡ states.Rtr → ⊥) → is_sending q.state ≡ true → KeepsSender q (record q { state = t })
sending-state q t other sends = record {
  life = record { incarnation = refl; peer = refl; mtu = refl };
  numbers = refl;
  rtr = λ is. absurd (other is);
  sends = λ is. sends;
  connected = λ is. sending-connected q.state sends;
}

module _ (d : Direction) (s r : Correspondent) (c : Configuration) (w : World) (l : Link) (k : CalmLink) (sound : IsSoundWorld c w) (empty : AllBeginEmpty w) (tied : IsTied d s r w l) (calmly : IsCalmlyTied d s r w k) where
  change-calm : (v : World) (name : QueueId) (q : QueuePair) (change : state_change.Change) → IsFoundAt w name q → is_among (allowed_from change) q.state ≡ true
      → Replaces w name (Present (queue_after_change change q)) (box_after change q (w.mailbox name)) v → ChangeAgrees d s r w name change → CalmAfter d s r w v
  change-calm v name q changes.Init there among replaces agrees = keeps-calm d s r w v k name q (queue_after_change changes.Init q) there.is (other-state q states.Init (sym (among-reset q.state among))) (record {
    life = record { incarnation = refl; peer = refl; mtu = refl };
    numbers = refl;
    rtr = λ is. absurd (true≢false (ap is_idle is));
    sends = λ is. absurd (true≢false (sym is));
    connected = λ is. absurd (true≢false (sym is));
  }) replaces calmly
  change-calm v name q (changes.Rtr peer incarnation psn mtu rnr_code) there among replaces agrees = replaced-calm d s r w v k name (Present p) (box_after (changes.Rtr peer incarnation psn mtu rnr_code) q (w.mailbox name)) replaces
      (λ here. rtr-sender d s r peer q (w.mailbox name) incarnation psn mtu rnr_code k.link.requester k.link.responses k.responses nobody none (sender-here d s r w k name q here there.is calmly))
      (λ here. rtr-receiver d s r name peer q (w.mailbox name) incarnation psn mtu rnr_code k.link.responder k.link.requests k.requests k.standing
      (λ own. agrees.receiver (record { named = here; incarnation = ap incarnation_of there.is ∙ own })) nobody (begins.saved idle) (there.sound.responder.silent idle) none (receiver-here d s r w k name q here there.is calmly))
      (replaced-cursor s w v name q p (box_after (changes.Rtr peer incarnation psn mtu rnr_code) q (w.mailbox name)) there.is replaces (λ own begun. omega arith)) calmly
    where
      p : QueuePair
      p = queue_after_change (changes.Rtr peer incarnation psn mtu rnr_code) q

      begins : BeginsEmpty q
      begins = found-begins w name q empty there.is

      idle : is_idle q.state ≡ true
      idle = init-idle q.state among

      nobody : q.peer ≡ None
      nobody = begins.peer idle

      none : (w.mailbox name).envelopes ≡ []
      none = empty.mail name (ap peer_in there.is ∙ nobody)
  change-calm v name q (changes.Rts psn retry rnr_retry reads) there among replaces agrees = replaced-calm d s r w v k name (Present p) (w.mailbox name) replaces
      (λ here. rts-sender d s r q (w.mailbox name) psn retry rnr_retry reads k.link.requester k.link.responses k.responses (λ own. agrees (record { named = here; incarnation = ap incarnation_of there.is ∙ own })) rtr
      (sender-here d s r w k name q here there.is calmly))
      (λ here. still-receiver d s r q p (w.mailbox name) (w.mailbox name) k.link.responder k.link.requests k.requests k.standing
      (record { life = record { incarnation = refl; peer = refl; mtu = refl }; responder = refl; connected = sym (ap is_connected rtr); flag = refl }) refl (receiver-here d s r w k name q here there.is calmly))
      (replaced-cursor s w v name q p (w.mailbox name) there.is replaces (λ own begun. absurd (true≢false (sym (ap is_fresh rtr) ∙ begun)))) calmly
    where
      p : QueuePair
      p = queue_after_change (changes.Rts psn retry rnr_retry reads) q

      rtr : q.state ≡ states.Rtr
      rtr = among-rtr q.state among
  change-calm v name q changes.Sqd there among replaces agrees = keeps-calm d s r w v k name q (queue_after_change changes.Sqd q) there.is (other-state q states.Sqd (sym (sending-connected q.state (among-rts q.state among))))
      (sending-state q states.Sqd (λ e. true≢false (ap is_fresh (sym e))) (among-rts q.state among)) replaces calmly
  change-calm v name q changes.Resume there among replaces agrees = keeps-calm d s r w v k name q (queue_after_change changes.Resume q) there.is (other-state q states.Rts (sym (sending-connected q.state (among-sqd q.state among))))
      (sending-state q states.Rts (λ e. true≢false (ap is_fresh (sym e))) (among-sqd q.state among)) replaces calmly
  change-calm v name q changes.Error there among replaces agrees = turn-calm d s r w v l k name q (queue_and_marks (queue_after_change changes.Error q) []) there.is (error-turn q) replaces tied calmly
  change-calm v name q changes.Reset there among replaces agrees = new-calm d s r w v k name (Present (after_reset q)) (box_after changes.Reset q (w.mailbox name))
      (subst (λ z. IsNewSlot z (Present (after_reset q))) (sym there.is) (reset-new q)) replaces calmly

  -- what is posted leaves all numbers
  posted-calm : (v : World) (name : QueueId) (q p : QueuePair) → IsFoundAt w name q → p.incarnation ≡ q.incarnation → p.peer ≡ q.peer → p.state ≡ q.state → p.responder ≡ q.responder → p.saved ≡ q.saved → p.requester ≡ q.requester
      → Replaces w name (Present (after_flush p)) (w.mailbox name) v → CalmAfter d s r w v
  posted-calm v name q p there incarnation peer state responder saved requester replaces = keeps-calm d s r w v k name q (after_flush p) there.is (receives (state_eq p.state states.Error)) (sends (state_eq p.state states.Error)) replaces calmly
    where
      flushed : Bool → QueuePair
      flushed b = if b then with_all_flushed p else p

      numbers : requester_in p ≡ requester_in q
      numbers = ap (λ (x : RequesterNumbers). record { una = x.una; cursor = x.cursor }) requester

      side : responder_in p ≡ responder_in q
      side = (λ i. responder_in (record q { responder = responder i; saved = saved i }))

      life : (b : Bool) → SameLife q (flushed b)
      life true = record { incarnation = incarnation; peer = peer; mtu = ap (λ x. x.mtu) responder }
      life false = record { incarnation = incarnation; peer = peer; mtu = ap (λ x. x.mtu) responder }

      receives : (b : Bool) → KeepsReceiver q (flushed b)
      receives true = record { life = life true; responder = side; connected = ap is_connected state; flag = ap (λ x. x.nak_sent) responder }
      receives false = record { life = life false; responder = side; connected = ap is_connected state; flag = ap (λ x. x.nak_sent) responder }

      sends : (b : Bool) → KeepsSender q (flushed b)
      sends true = record { life = life true; numbers = numbers; rtr = λ is. sym state ∙ is; sends = λ is. ap is_sending (sym state) ∙ is; connected = λ is. ap is_connected (sym state) ∙ is }
      sends false = record { life = life false; numbers = numbers; rtr = λ is. sym state ∙ is; sends = λ is. ap is_sending (sym state) ∙ is; connected = λ is. ap is_connected (sym state) ∙ is }

  -- queue pairs of which places are freed
  freer-receiver : (q p : QueuePair) → IsFreer q p → KeepsReceiver q p
  freer-receiver q p f = record {
    life = record { incarnation = f.incarnation; peer = f.peer; mtu = ap (λ x. x.mtu) f.responder };
    responder = (λ i. responder_in (record q { responder = f.responder i; saved = f.saved i }));
    connected = ap is_connected f.state;
    flag = ap (λ x. x.nak_sent) f.responder;
  }

  freer-sender : (q p : QueuePair) → IsFreer q p → KeepsSender q p
  freer-sender q p f = record {
    life = record { incarnation = f.incarnation; peer = f.peer; mtu = ap (λ x. x.mtu) f.responder };
    numbers = ap (λ (x : RequesterNumbers). record { una = x.una; cursor = x.cursor }) f.requester;
    rtr = λ is. sym f.state ∙ is;
    sends = λ is. ap is_sending (sym f.state) ∙ is;
    connected = λ is. ap is_connected (sym f.state) ∙ is;
  }

  freers-calm : (v : World) → AreFreer w v → CalmAfter d s r w v
  freers-calm v freers = record {
    link = k;
    tied = record { reached = calmly.reached; calm = calmly.calm; sender = sender (freers.queues s.queue); receiver = receiver (freers.queues r.queue) };
    cursor = cursor (freers.queues s.queue);
  }
    where
      box : (n : QueueId) → v.mailbox n ≡ w.mailbox n
      box n = ap (λ (f : QueueId → Mailbox). f n) freers.mail

      sender : IsFreerSlot (w.queue s.queue) (v.queue s.queue) → SenderCalm d s r (v.queue s.queue) (v.mailbox s.queue) k.link.requester k.link.responses k.responses
      sender (untouched same) = sender-at d s r (w.queue s.queue) (v.queue s.queue) (w.mailbox s.queue) (v.mailbox s.queue) k.link.requester k.link.responses k.responses same (box s.queue) calmly.sender
      sender (freer q p one other f) = sender-at d s r (Present p) (v.queue s.queue) (w.mailbox s.queue) (v.mailbox s.queue) k.link.requester k.link.responses k.responses other (box s.queue)
          (still-sender d s r q p (w.mailbox s.queue) (w.mailbox s.queue) k.link.requester k.link.responses k.responses (freer-sender q p f) refl
          (subst (λ z. SenderCalm d s r z (w.mailbox s.queue) k.link.requester k.link.responses k.responses) one calmly.sender))

      receiver : IsFreerSlot (w.queue r.queue) (v.queue r.queue) → ReceiverCalm d s r (v.queue r.queue) (v.mailbox r.queue) k.link.responder k.link.requests k.requests k.standing
      receiver (untouched same) = receiver-at d s r (w.queue r.queue) (v.queue r.queue) (w.mailbox r.queue) (v.mailbox r.queue) k.link.responder k.link.requests k.requests k.standing same (box r.queue) calmly.receiver
      receiver (freer q p one other f) = receiver-at d s r (Present p) (v.queue r.queue) (w.mailbox r.queue) (v.mailbox r.queue) k.link.responder k.link.requests k.requests k.standing other (box r.queue)
          (still-receiver d s r q p (w.mailbox r.queue) (w.mailbox r.queue) k.link.responder k.link.requests k.requests k.standing (freer-receiver q p f) refl
          (subst (λ z. ReceiverCalm d s r z (w.mailbox r.queue) k.link.responder k.link.requests k.requests k.standing) one calmly.receiver))

      cursor : IsFreerSlot (w.queue s.queue) (v.queue s.queue) → CursorGoesOn s w v
      cursor (untouched same) = cursor-still s w v same
      cursor (freer q p one other f) = cursor-from s w v q p one other (λ own begun. omega (arith, ap (λ (x : RequesterNumbers). x.cursor) f.requester))

  -- nothing of queue pairs and mailboxes changes
  same-calm : (v : World) → v.queue ≡ w.queue → v.mailbox ≡ w.mailbox → CalmAfter d s r w v
  same-calm v queue mail = joined-neither d s r w v k calmly (ap (λ (f : QueueId → QueueSlot). f r.queue) queue) (ap (λ (f : QueueId → Mailbox). f r.queue) mail) (ap (λ (f : QueueId → QueueSlot). f s.queue) queue)
      (ap (λ (f : QueueId → Mailbox). f s.queue) mail)

  created-queue : (x : Creation) (send recv : CompletionQueue) (shared : Option SharedReceives)
      → Has (with_at queue_eq w.queue (queue_of x.slot) (Present (new_queue x (w.queue (queue_of x.slot)))))
      (with_at queue_eq w.mailbox (queue_of x.slot) (with_peer (new_queue x (w.queue (queue_of x.slot))).incarnation None (w.mailbox (queue_of x.slot)))) (put_all (created w x send recv shared) w)
  created-queue x send recv shared = by x.srq
    where
      by : (o : Option ℕ) → Has (with_at queue_eq w.queue (queue_of x.slot) (Present (new_queue (record x { srq = o }) (w.queue (queue_of x.slot)))))
          (with_at queue_eq w.mailbox (queue_of x.slot) (with_peer (new_queue (record x { srq = o }) (w.queue (queue_of x.slot))).incarnation None (w.mailbox (queue_of x.slot)))) (put_all (created w (record x { srq = o }) send recv shared) w)
      by None = record { queue = refl; mailbox = refl }
      by (Some srq) = record { queue = refl; mailbox = refl }

  -- ---- all verbs

  abbrev P : World → List Mark → Type 0
  P v ms = AreCalm ms → AgreesWith d s r w ms → CalmAfter d s r w v

  refused : (call : Call) → Refuses w P call
  refused call x calm agrees = same-calm w refl refl

  aside : (by : ℕ) (verb : Verb) → LeavesPairs verb → Leads w P (verb_plan c (record { by = by; verb = verb }) verb)
  aside by verb leaves = leads-weaker w (SamePairs w) P (verb_plan c (record { by = by; verb = verb }) verb) (λ v ms same calm agrees. same-calm v same.0 same.1) (leads-aside c w (record { by = by; verb = verb }) verb leaves (refl, refl))

  of_verb : (by : ℕ) (verb : Verb) → IsCalmEvent w (events.Verb by verb) → Leads w P (verb_plan c (record { by = by; verb = verb }) verb)
  of_verb by (verbs.ModifyQp slot change) weather = leads-change c w P (record { by = by; verb = verbs.ModifyQp slot change }) slot change sound (refused (record { by = by; verb = verbs.ModifyQp slot change }))
      (λ q v there among replaces calm agrees. change-calm v (queue_of slot) q change there among replaces agrees)
  of_verb by (verbs.CreateQp slot send_cq recv_cq send_depth recv_depth srq) weather = leads-create c w P (record { by = by; verb = verbs.CreateQp slot send_cq recv_cq send_depth recv_depth srq }) x
      (refused (record { by = by; verb = verbs.CreateQp slot send_cq recv_cq send_depth recv_depth srq }))
      (λ send recv shared sends receives calm agrees. new-calm d s r w (put_all (created w x send recv shared) w) k (queue_of slot) (Present (new_queue x (w.queue (queue_of slot))))
      (with_peer (new_queue x (w.queue (queue_of slot))).incarnation None (w.mailbox (queue_of slot))) (create-new x (w.queue (queue_of slot)))
      (replaces-changed w (put_all (created w x send recv shared) w) (queue_of slot) (Present (new_queue x (w.queue (queue_of slot)))) (with_peer (new_queue x (w.queue (queue_of slot))).incarnation None (w.mailbox (queue_of slot)))
      (created-queue x send recv shared)) calmly)
    where
      x : Creation
      x = record { slot = slot; send_cq = send_cq; recv_cq = recv_cq; send_depth = send_depth; recv_depth = recv_depth; srq = srq }
  of_verb by (verbs.DestroyQp slot) weather = leads-destroy c w P (record { by = by; verb = verbs.DestroyQp slot }) slot sound (refused (record { by = by; verb = verbs.DestroyQp slot }))
      (λ q v there replaces calm agrees. new-calm d s r w v k (queue_of slot) (NoQueue q.incarnation q.requester.timers) (emptied_mailbox q.incarnation (w.mailbox (queue_of slot)))
      (subst (λ z. IsNewSlot z (NoQueue q.incarnation q.requester.timers)) (sym there.is) (destroy-new q q.requester.timers)) replaces calmly)
  of_verb by (verbs.PostSend slot request) weather = leads-post c w P (record { by = by; verb = verbs.PostSend slot request }) slot request sound (refused (record { by = by; verb = verbs.PostSend slot request }))
      (λ q v drawn key there fails replaces calm agrees. posted-calm v (queue_of slot) q (with_send request drawn q) there refl refl refl refl refl refl replaces)
  of_verb by (verbs.PostRecv slot request) weather = leads-receive c w P (record { by = by; verb = verbs.PostRecv slot request }) slot request sound (refused (record { by = by; verb = verbs.PostRecv slot request }))
      (λ q v there replaces calm agrees. posted-calm v (queue_of slot) q (with_receive request q) there refl refl refl refl refl refl replaces)
  of_verb by (verbs.Poll slot n least) weather = leads-poll w P (record { by = by; verb = verbs.Poll slot n least }) slot n least (refused (record { by = by; verb = verbs.Poll slot n least }))
      (λ cq us is freed calm agrees. freers-calm (put_all us (put w (Cq_of slot) (Some (after_polls (length (take n cq.waiting)) cq))))
      (poll-freers c w slot cq n us (put w (Cq_of slot) (Some (after_polls (length (take n cq.waiting)) cq))) sound is freed refl refl))
  of_verb by (verbs.DeallocMw slot) weather = leads-dealloc w P (record { by = by; verb = verbs.DeallocMw slot }) slot (refused (record { by = by; verb = verbs.DeallocMw slot }))
      (λ v o queue mail calm agrees. same-calm v queue mail)
      (λ name p v o is queue mail calm agrees. keeps-calm d s r w v k name p (window_fewer p) is (record { life = record { incarnation = refl; peer = refl; mtu = refl }; responder = refl; connected = refl; flag = refl })
      (record { life = record { incarnation = refl; peer = refl; mtu = refl }; numbers = refl; rtr = λ is. is; sends = λ is. is; connected = λ is. is })
      (replaces-turned w v name (Present (window_fewer p)) (record { queue = queue; mailbox = mail })) calmly)
  of_verb by (verbs.Inject queue bytes) weather = absurd weather
  of_verb by (verbs.AllocPd domain) weather = aside by (verbs.AllocPd domain) (record {})
  of_verb by (verbs.DeallocPd domain) weather = aside by (verbs.DeallocPd domain) (record {})
  of_verb by (verbs.RegMr slot buffer offset count rights) weather = aside by (verbs.RegMr slot buffer offset count rights) (record {})
  of_verb by (verbs.AllocMr slot pages) weather = aside by (verbs.AllocMr slot pages) (record {})
  of_verb by (verbs.DeregMr slot) weather = aside by (verbs.DeregMr slot) (record {})
  of_verb by (verbs.AllocMw slot kind) weather = aside by (verbs.AllocMw slot kind) (record {})
  of_verb by (verbs.CreateCq slot capacity) weather = aside by (verbs.CreateCq slot capacity) (record {})
  of_verb by (verbs.DestroyCq slot) weather = aside by (verbs.DestroyCq slot) (record {})
  of_verb by (verbs.CreateSrq slot depth) weather = aside by (verbs.CreateSrq slot depth) (record {})
  of_verb by (verbs.DestroySrq slot) weather = aside by (verbs.DestroySrq slot) (record {})
  of_verb by (verbs.QueryQp slot) weather = aside by (verbs.QueryQp slot) (record {})
  of_verb by (verbs.PostSrq slot request) weather = aside by (verbs.PostSrq slot request) (record {})
  of_verb by (verbs.Store adapter buffer offset bytes) weather = aside by (verbs.Store adapter buffer offset bytes) (record {})
  of_verb by (verbs.Load adapter buffer offset count) weather = aside by (verbs.Load adapter buffer offset count) (record {})

  pub verb-calm : (by : ℕ) (verb : Verb) → IsCalmEvent w (events.Verb by verb) → Comes P (step c w (events.Verb by verb))
  verb-calm by verb weather = comes w P (plan c (events.Verb by verb)) (λ named. of_verb by verb weather, λ none. refused (record { by = by; verb = verb }) NoSuch)
