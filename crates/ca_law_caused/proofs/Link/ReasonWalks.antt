-- Every event keeps it that each NAK that waits and each that is under way has its reason. For proofs only.
use Rattle.std.proofs.Common.{◌≡◌, ℕ, inr, ◌++◌, Bool, true, false, if◌then◌else◌, List, [], ◌∷◌, take, length, Option, None, Some, is_some, refl, ap, ap₂, sym, subst, ◌∙◌, true≢false}
use Rattle.std.proofs.lemmas.Option.{same_Some}
use Rattle.std.specs.List.{AllByRecursion, list_any}
use Rattle.std.specs.Option.{option_map, option_map_or}
use Rattle.ca_law_endings.proofs.InnerLemmas.{IsInner, arrival-inner, own-inner, packet-inner, respond-inner, timeout-inner}
use Rattle.ca_law_endings.proofs.LeadsLemmas.{comes, leads-weaker}
use Rattle.ca_law_endings.proofs.MailSentLemmas.{lent-sent}
use Rattle.ca_law_endings.specs.Agreement.{PathsAgree, peer_in}
use Rattle.ca_law_endings.specs.Runs.{Comes, Leads}
use Rattle.ca_law_order.proofs.Polls.PlanLemmas.{created, leads-create, leads-poll}
use Rattle.ca_law_keys.specs.Posts.{life}
use Rattle.ca_base.specs.Configuration.{Configuration}
use Rattle.ca_base.specs.declared.change.Change.{Change}
use Rattle.ca_base.specs.declared.change.Change.TheVariants as changes
use Rattle.ca_base.specs.declared.change.State.{State}
use Rattle.ca_base.specs.declared.change.State.TheVariants as states
use Rattle.ca_base.specs.declared.correspondent.Correspondent.{Correspondent}
use Rattle.ca_base.specs.declared.lot.Lot.{Lot}
use Rattle.ca_base.specs.declared.mail_envelope.MailEnvelope.{MailEnvelope}
use Rattle.ca_base.specs.declared.queue_numbers.ResponderNumbers.{ResponderNumbers}
use Rattle.ca_base.specs.declared.step.Sent.{Sent}
use Rattle.ca_base.specs.declared.step.Sent.TheVariants.{Silent, Spelt}
use Rattle.ca_base.specs.objects.CompletionQueue.{CompletionQueue, after_polls}
use Rattle.ca_base.specs.objects.Mailbox.{Mailbox, after_delivery, bytes_lent, is_lost, with_peer}
use Rattle.ca_base.specs.objects.QueuePair.{QueuePair, Present, correspondent_of, incarnation_of, with_all_flushed}
use Rattle.ca_base.specs.objects.SharedReceives.{SharedReceives}
use Rattle.ca_base.specs.objects.StateTable.{allowed_from, is_among, queue_after_change, state_eq}
use Rattle.ca_law_caused.proofs.Caused.PassLemmas.{IsArrival, IsOccasion, unmarked-arrival}
use Rattle.ca_law_caused.proofs.Caused.RequestStoryLemmas.{occasion_of}
use Rattle.ca_law_caused.proofs.Caused.SuchLemmas.{leads-such}
use Rattle.ca_law_caused.proofs.Caused.TurnLemmas.{arrival-met}
use Rattle.ca_law_caused.proofs.Link.ArriveLemmas.{leads-delivery, leads-injection, leads-response}
use Rattle.ca_law_caused.proofs.Link.FaultLemmas.{AreNoAnswers, Flushes, TellFault, end-befall, event-befall, flushed-past, inner-no-answers, left_by, no-answers-append, tell-before, told-fault, unmarked-end}
use Rattle.ca_law_caused.proofs.Link.ReasonLemmas.{box-delivered, boxes-have, forgets-all, keeps-all, reasons-found, reasons-more, reasons-put, reasons-replaced, reasons-same, slot-of}
use Rattle.ca_law_caused.proofs.Link.RowLemmas.{All, Answers, IsOf, arrival-answers, invalid, leaves, such-and, tells}
use Rattle.ca_law_caused.proofs.Link.SpeltLemmas.{Responds, denies, gives, respond-responds}
use Rattle.ca_law_caused.specs.Refused.{BoxHasReasons, HaveReasons, ReasonsAgree, SlotHasReasons, SpellReason}
use Rattle.ca_connection.specs.Layout.Work.{Local}
use Rattle.ca_keys.specs.Equal.{queue_eq}
use Rattle.ca_keys.specs.Memory.{ByteMap}
use Rattle.ca_keys.specs.Numbers.{queue_of}
use Rattle.ca_keys.specs.declared.key.Key.{Key}
use Rattle.ca_keys.specs.declared.names.QueueId.{QueueId}
use Rattle.ca_model.specs.Caused.{makes_invalid}
use Rattle.ca_model.specs.Past.{DeniedAccess, Envelope, Fault, Past, opening_past, after_mark, after_marks, at_begin, at_end, envelope_sent, packet_bytes_at, present_incarnation, with_at}
use Rattle.ca_model.specs.declared.answer.Answer.TheVariants as answers
use Rattle.ca_model.specs.declared.answer.Refusal.TheVariants.{NoSuch}
use Rattle.ca_model.specs.declared.event.Event.{Event}
use Rattle.ca_model.specs.declared.event.Event.TheVariants as events
use Rattle.ca_model.specs.declared.mark.Mark.{Mark}
use Rattle.ca_model.specs.declared.mark.Mark.TheVariants as marks
use Rattle.ca_model.specs.declared.verb.Verb.{Verb}
use Rattle.ca_model.specs.declared.verb.Verb.TheVariants as verbs
use Rattle.ca_model.specs.machine.Invariants.{is_idle}
use Rattle.ca_model.specs.machine.Plan.{put_all}
use Rattle.ca_model.specs.machine.PostingVerbs.{after_flush, marks_of_flush, with_send}
use Rattle.ca_model.specs.machine.QueuePairVerbs.{Creation, emptied_mailbox, new_queue}
use Rattle.ca_model.specs.machine.Row.{Effects}
use Rattle.ca_model.specs.machine.Sound.{IsSoundWorld}
use Rattle.ca_model.specs.machine.Step.{plan, step, verb_plan}
use Rattle.ca_model.specs.machine.Timers.{after_timeout, after_wake}
use Rattle.ca_model.specs.machine.Turns.{Packet, packet_sent, reaches_peer, sent_marks}
use Rattle.ca_model.specs.machine.Requester.{packet_row}
use Rattle.ca_model.specs.machine.Respond.{respond_row}
use Rattle.ca_model.specs.machine.VerbAnswers.{Call, answer_mark}
use Rattle.ca_model.specs.machine.World.{Cq_of, World, opening_world, put}
use Rattle.ca_law_once.proofs.Ties.DeliverWalk.{Has, ends-as, ends-do}
use Rattle.ca_law_once.proofs.Ties.SendLemmas.{boxes_after}
use Rattle.ca_law_once.proofs.Ties.TimerLemmas.{IsFoundAt}
use Rattle.ca_law_once.specs.Ties.{LeavesPairs}
use Rattle.ca_law_once.proofs.Rows.ForgetLemmas.{Forgets, packet-forgets, timeout-forgets, wake-forgets}
use Rattle.ca_law_once.proofs.Rows.TurnLemmas.{packet-requests}
use Rattle.ca_law_once.specs.Moves.{SendsRequests, SendsRequestsBy}
use Rattle.ca_law_once.proofs.Verbs.PairLemmas.{Replaces, replaces-changed}
use Rattle.ca_law_once.proofs.Verbs.PollLemmas.{AreFreer, IsFreerSlot, poll-freers}
use Rattle.ca_law_once.proofs.Verbs.PollLemmas.IsFreerSlot.{freer, untouched}
use Rattle.ca_law_once.proofs.Verbs.TurnWalks.{leads-request, leads-timeout, leads-wake}
use Rattle.ca_law_once.proofs.Verbs.WalkLemmas.{SamePairs, box_after, leads-aside, leads-change, leads-dealloc, leads-destroy, leads-post, leads-receive, revocation, told_by, window_fewer, with_receive}
use Rattle.ca_law_once.specs.Beginnings.{AllBeginEmpty, SlotBeginsEmpty}

-- ---- what befell a queue pair by the marks of an event

-- its life, by the past and by the world
same-life : (past r : Past) (w : World) (name : QueueId) (q : QueuePair) → PathsAgree past w → r.incarnation ≡ past.incarnation → w.queue name ≡ Present q → q.queue ≡ name → present_incarnation r q.queue ≡ life name q.incarnation
same-life past r w name q paths same is named = ap₂ (λ n i. record { queue = n; incarnation = i }) named (ap (λ f. f q.queue) same ∙ ap past.incarnation named ∙ sym (paths.incarnations name) ∙ ap incarnation_of is)

-- among its faults is one that a mark tells of
of-told : (r : Past) (n : QueueId) (l : Correspondent) (f : Fault) (ms : List Mark) → AreNoAnswers ms → TellFault n f ms → present_incarnation r n ≡ l → IsOf f ((at_end (after_marks ms r)).faults l)
of-told r n l f ms none told is test passes = subst (λ x. list_any test ((at_end (after_marks ms r)).faults x) ≡ true) is
    (end-befall (after_marks ms r) (present_incarnation r n) test (told-fault n f test ms r passes none told))

-- ---- what an arrival leaves

-- a past as a packet arrives
pub record IsStart (r : Past) : Type 0 where
  pub dropped : r.at_hand.dropped ≡ false
  pub remotely : r.at_hand.used_remotely ≡ false
  pub list : r.at_hand.used_list ≡ false
  pub completed : r.at_hand.completed ≡ []
  pub fired : r.at_hand.fired ≡ None

slot-arrived : (r : Past) (name : QueueId) (q : QueuePair) (envelope : Option ℕ) (bytes : List ℕ) (e : Effects) → IsStart r → packet_bytes_at r q.queue envelope ≡ Some bytes → present_incarnation r q.queue ≡ life name q.incarnation → IsInner q e
    → All ((at_end (after_marks (marks.Arrived q.queue envelope ∷ e.marks) r)).faults (life name q.incarnation)) q.responder.answers → Answers bytes q e
    → SlotHasReasons (at_end (after_marks (marks.Arrived q.queue envelope ∷ e.marks) r)).faults name (Present e.queue)
slot-arrived r name q envelope bytes e start sent own inner all does = subst (λ i. All ((at_end s).faults (life name i)) e.queue.responder.answers) (sym inner.incarnation) (by does)
  where
    ms : List Mark
    ms = marks.Arrived q.queue envelope ∷ e.marks

    s : Past
    s = after_marks ms r

    t : Past
    t = after_mark (marks.Arrived q.queue envelope) r

    none : AreNoAnswers ms
    none = (record {}, inner-no-answers e.marks (own-inner e.marks inner.marks))

    by : Answers bytes q e → All ((at_end s).faults (life name q.incarnation)) e.queue.responder.answers
    by (leaves does) = does ((at_end s).faults (life name q.incarnation)) all
    by (tells f told does) = does ((at_end s).faults (life name q.incarnation)) (of-told r q.queue (life name q.incarnation) f ms none (inr told) own) all
    by (invalid p is request flushes does) = does ((at_end s).faults (life name q.incarnation)) befell all
      where
        flushed : Flushes q.queue t s
        flushed = flushed-past q.queue e.marks t flushes

        arrives : IsArrival t q.queue p
        arrives = subst (λ x. IsOccasion t q.queue (occasion_of x)) is (arrival-met t q envelope bytes refl start.dropped sent start.remotely start.list start.completed start.fired)

        befell : list_any makes_invalid ((at_end s).faults (life name q.incarnation)) ≡ true
        befell = subst (λ l. list_any makes_invalid ((at_end s).faults l) ≡ true) (ap (λ (f : QueueId → ℕ). record { queue = q.queue; incarnation = f q.queue }) flushed.incarnation ∙ own)
            (unmarked-end s q.queue envelope flushed.arrival (flushed.unmarked (unmarked-arrival t q.queue p arrives request)))

-- ---- changes of queue pairs

idle-init : (t : State) → is_among (states.Init ∷ []) t ≡ true → is_idle t ≡ true
idle-init states.Reset is = absurd (true≢false (sym is))
idle-init states.Init is = refl
idle-init states.Rtr is = absurd (true≢false (sym is))
idle-init states.Rts is = absurd (true≢false (sym is))
idle-init states.Sqd is = absurd (true≢false (sym is))
idle-init states.Error is = absurd (true≢false (sym is))

change-slot : (F : Correspondent → List Fault) (n : QueueId) (q : QueuePair) (change : Change) → SlotHasReasons F n (Present q) → SlotHasReasons F n (Present (queue_after_change change q))
change-slot F n q changes.Reset has = record {}
change-slot F n q changes.Init has = has
change-slot F n q (changes.Rtr peer incarnation psn mtu rnr_code) has = has
change-slot F n q (changes.Rts psn retry rnr_retry reads) has = has
change-slot F n q changes.Sqd has = has
change-slot F n q changes.Resume has = has
change-slot F n q changes.Error has = record {}

change-box : (F : Correspondent → List Fault) (q : QueuePair) (change : Change) (m : Mailbox) → is_among (allowed_from change) q.state ≡ true → (is_idle q.state ≡ true → m.envelopes ≡ []) → BoxHasReasons F m → BoxHasReasons F (box_after change q m)
change-box F q changes.Reset m among empty has = λ peer is. record {}
change-box F q changes.Init m among empty has = has
change-box F q (changes.Rtr peer incarnation psn mtu rnr_code) m among empty has = λ other is. subst (λ es. AllByRecursion (λ (e : MailEnvelope). SpellReason (F other) e.bytes) es) (sym (empty (idle-init q.state among))) (record {})
change-box F q (changes.Rts psn retry rnr_retry reads) m among empty has = has
change-box F q changes.Sqd m among empty has = has
change-box F q changes.Resume m among empty has = has
change-box F q changes.Error m among empty has = has

flush-slot : (F : Correspondent → List Fault) (n : QueueId) (p : QueuePair) → SlotHasReasons F n (Present p) → SlotHasReasons F n (Present (after_flush p))
flush-slot F n p has = by (state_eq p.state states.Error)
  where
    by : (b : Bool) → SlotHasReasons F n (Present (if b then with_all_flushed p else p))
    by true = has
    by false = has

freer-slots : (F : Correspondent → List Fault) (w v : World) → AreFreer w v → HaveReasons F w → HaveReasons F v
freer-slots F w v freers have = record { queues = λ n. slot n (freers.queues n) (have.queues n); mail = λ n. subst (λ (f : QueueId → Mailbox). BoxHasReasons F (f n)) (sym freers.mail) (have.mail n) }
  where
    slot : (n : QueueId) → IsFreerSlot (w.queue n) (v.queue n) → SlotHasReasons F n (w.queue n) → SlotHasReasons F n (v.queue n)
    slot n (untouched same) has = subst (SlotHasReasons F n) (sym same) has
    slot n (freer q p one other f) has = subst (SlotHasReasons F n) (sym other)
        (slot-of F n q p f.incarnation (λ fs all. subst (λ (r : ResponderNumbers). All fs r.answers) (sym f.responder) all) (subst (SlotHasReasons F n) one has))

created-has : (w : World) (x : Creation) (send recv : CompletionQueue) (shared : Option SharedReceives)
    → Has (with_at queue_eq w.queue (queue_of x.slot) (Present (new_queue x (w.queue (queue_of x.slot))))) (with_at queue_eq w.mailbox (queue_of x.slot) (with_peer (new_queue x (w.queue (queue_of x.slot))).incarnation None (w.mailbox (queue_of x.slot))))
    (put_all (created w x send recv shared) w)
created-has w x send recv shared = by x.srq
  where
    by : (o : Option ℕ) → Has (with_at queue_eq w.queue (queue_of x.slot) (Present (new_queue (record x { srq = o }) (w.queue (queue_of x.slot)))))
        (with_at queue_eq w.mailbox (queue_of x.slot) (with_peer (new_queue (record x { srq = o }) (w.queue (queue_of x.slot))).incarnation None (w.mailbox (queue_of x.slot))))
        (put_all (created w (record x { srq = o }) send recv shared) w)
    by None = record { queue = refl; mailbox = refl }
    by (Some srq) = record { queue = refl; mailbox = refl }

no-peer : (F : Correspondent → List Fault) (m : Mailbox) → m.peer ≡ None → BoxHasReasons F m
no-peer F m none peer is = absurd (true≢false (sym (ap is_some (sym none ∙ is))))

-- ---- packets that are sent

-- a packet of a request refuses nothing
request-spells : (fs : List Fault) (e : Effects) (x : Packet) → SendsRequests e → packet_sent e ≡ Some x → SpellReason fs x.bytes
request-spells fs e x sends is = by e.sent sends is
  where
    packet : Sent → Option Packet
    packet Silent = None
    packet (Spelt request) = Some (record { request = request; bytes = e.spelt })

    by : (s : Sent) → SendsRequestsBy e s → packet s ≡ Some x → SpellReason fs x.bytes
    by Silent sends is = absurd (true≢false (sym (ap is_some is)))
    by (Spelt None) sends is = absurd sends
    by (Spelt (Some place)) sends is = subst (λ (y : Packet). SpellReason fs y.bytes) (same_Some (record { request = Some place; bytes = e.spelt }) x is) (λ p decodes response. absurd (true≢false (sym response ∙ sends p decodes)))

response-spells : (fs : List Fault) (e : Effects) (x : Packet) → SpellReason fs e.spelt → packet_sent e ≡ Some x → SpellReason fs x.bytes
response-spells fs e x spells is = by e.sent is
  where
    packet : Sent → Option Packet
    packet Silent = None
    packet (Spelt request) = Some (record { request = request; bytes = e.spelt })

    by : (s : Sent) → packet s ≡ Some x → SpellReason fs x.bytes
    by Silent is = absurd (true≢false (sym (ap is_some is)))
    by (Spelt request) is = subst (λ (y : Packet). SpellReason fs y.bytes) (same_Some (record { request = request; bytes = e.spelt }) x is) spells

sent-no-answers : (q : QueuePair) (peer : Correspondent) (m : Mailbox) (lot : Lot) (o : Option Packet) → AreNoAnswers (option_map_or (sent_marks q peer m lot) o [])
sent-no-answers q peer m lot None = record {}
sent-no-answers q peer m lot (Some x) = by (reaches_peer q peer m) (is_lost lot)
  where
    by : (b z : Bool) → AreNoAnswers (if b
        then marks.Sent q.queue peer.queue (Some m.next) x.request x.bytes ∷ (if z then marks.Lost peer.queue (Some m.next) ∷ [] else [])
        else marks.Sent q.queue peer.queue None x.request x.bytes ∷ marks.Lost peer.queue None ∷ [])
    by true true = (record {}, (record {}, record {}))
    by true false = (record {}, record {})
    by false z = (record {}, (record {}, record {}))

-- ---- events

module _ (c : Configuration) (past : Past) (w : World) (sound : IsSoundWorld c w) (paths : PathsAgree past w) (empty : AllBeginEmpty w) (agree : ReasonsAgree past w) where
  abbrev Leaves : Event → World → List Mark → Type 0
  Leaves event v ms = HaveReasons (left_by past event ms).faults v

  kept : (event : Event) (ms : List Mark) → HaveReasons (left_by past event ms).faults w
  kept event ms = reasons-more past.faults (left_by past event ms).faults w (λ l. event-befall past event ms l) agree

  found : (event : Event) (ms : List Mark) (name : QueueId) (q : QueuePair) → w.queue name ≡ Present q → SlotHasReasons (left_by past event ms).faults name (Present q)
  found event ms name q is = reasons-found (left_by past event ms).faults w name q is (kept event ms)

  idle-empty : (name : QueueId) (q : QueuePair) → w.queue name ≡ Present q → is_idle q.state ≡ true → (w.mailbox name).envelopes ≡ []
  idle-empty name q is idle = empty.mail name (ap peer_in is ∙ (subst SlotBeginsEmpty is (empty.queues name)).peer idle)

  -- one queue pair is replaced, and no mailbox
  turned : (event : Event) (v : World) (ms : List Mark) (name : QueueId) (q p : QueuePair) → w.queue name ≡ Present q → p.incarnation ≡ q.incarnation → ((fs : List Fault) → All fs q.responder.answers → All fs p.responder.answers)
      → Replaces w name (Present p) (w.mailbox name) v → Leaves event v ms
  turned event v ms name q p is same all replaces = reasons-replaced (left_by past event ms).faults w v name (Present p) (w.mailbox name) (kept event ms)
      (slot-of (left_by past event ms).faults name q p same all (found event ms name q is)) ((kept event ms).mail name) replaces

  aside-leaves : (by : ℕ) (verb : Verb) → LeavesPairs verb → Leads w (Leaves (events.Verb by verb)) (verb_plan c (record { by = by; verb = verb }) verb)
  aside-leaves by verb aside = leads-weaker w (SamePairs w) (Leaves (events.Verb by verb)) (verb_plan c (record { by = by; verb = verb }) verb)
      (λ v ms same. reasons-same (left_by past (events.Verb by verb) ms).faults w v same.0 same.1 (kept (events.Verb by verb) ms)) (leads-aside c w (record { by = by; verb = verb }) verb aside (refl, refl))

  inject-leaves : (by : ℕ) (name : QueueId) (bytes : List ℕ) → Leads w (Leaves (events.Verb by (verbs.Inject name bytes))) (verb_plan c (record { by = by; verb = verbs.Inject name bytes }) (verbs.Inject name bytes))
  inject-leaves by name bytes = leads-injection c w (Leaves event) (λ bytes q e. Answers bytes q e × IsInner q e) call name bytes sound (kept event (answer_mark call (answers.Refused NoSuch) ∷ []))
      (λ q shared there. such-and (Answers bytes q) (IsInner q) _ (arrival-answers bytes None shared q) (arrival-inner bytes None shared q))
      (λ q e v there does has. reasons-put (left_by past event (told q e)).faults w v name (Present e.queue) w.mailbox (kept event (told q e))
      (slot-arrived start name q None bytes e (record { dropped = refl; remotely = refl; list = refl; completed = refl; fired = refl }) refl (same-life past start w name q paths refl there.is there.named) does.1
      (found event (told q e) name q there.is) does.0) (λ n. (kept event (told q e)).mail n) has.queue has.mailbox)
    where
      event : Event
      event = events.Verb by (verbs.Inject name bytes)

      call : Call
      call = record { by = by; verb = verbs.Inject name bytes }

      told : QueuePair → Effects → List Mark
      told q e = answer_mark call answers.Fine ∷ (marks.Arrived q.queue None ∷ e.marks)

      start : Past
      start = after_mark (answer_mark call answers.Fine) (at_begin event past)

  verb-leaves : (by : ℕ) (verb : Verb) → Leads w (Leaves (events.Verb by verb)) (verb_plan c (record { by = by; verb = verb }) verb)
  verb-leaves by (verbs.ModifyQp slot change) = leads-change c w (Leaves event) call slot change sound (λ r. kept event (answer_mark call (answers.Refused r) ∷ []))
      (λ q v there among replaces. reasons-replaced (left_by past event (told q)).faults w v (queue_of slot) (Present (queue_after_change change q)) (box_after change q (w.mailbox (queue_of slot))) (kept event (told q))
      (change-slot (left_by past event (told q)).faults (queue_of slot) q change (found event (told q) (queue_of slot) q there.is))
      (change-box (left_by past event (told q)).faults q change (w.mailbox (queue_of slot)) among (idle-empty (queue_of slot) q there.is) ((kept event (told q)).mail (queue_of slot))) replaces)
    where
      event : Event
      event = events.Verb by (verbs.ModifyQp slot change)

      call : Call
      call = record { by = by; verb = verbs.ModifyQp slot change }

      told : QueuePair → List Mark
      told q = answer_mark call answers.Fine ∷ told_by q change
  verb-leaves by (verbs.CreateQp slot send_cq recv_cq send_depth recv_depth srq) = leads-create c w (Leaves event) call x (λ r. kept event (answer_mark call (answers.Refused r) ∷ []))
      (λ send recv shared sends receives. reasons-replaced (left_by past event told).faults w (put_all (created w x send recv shared) w) (queue_of slot) (Present q) (with_peer q.incarnation None (w.mailbox (queue_of slot))) (kept event told)
      (record {}) (no-peer (left_by past event told).faults (with_peer q.incarnation None (w.mailbox (queue_of slot))) refl)
      (replaces-changed w (put_all (created w x send recv shared) w) (queue_of slot) (Present q) (with_peer q.incarnation None (w.mailbox (queue_of slot))) (created-has w x send recv shared)))
    where
      event : Event
      event = events.Verb by (verbs.CreateQp slot send_cq recv_cq send_depth recv_depth srq)

      call : Call
      call = record { by = by; verb = verbs.CreateQp slot send_cq recv_cq send_depth recv_depth srq }

      x : Creation
      x = record { slot = slot; send_cq = send_cq; recv_cq = recv_cq; send_depth = send_depth; recv_depth = recv_depth; srq = srq }

      q : QueuePair
      q = new_queue x (w.queue (queue_of slot))

      told : List Mark
      told = answer_mark call (answers.Queue (queue_of slot).number q.incarnation) ∷ []
  verb-leaves by (verbs.DestroyQp slot) = leads-destroy c w (Leaves event) call slot sound (λ r. kept event (answer_mark call (answers.Refused r) ∷ []))
      (λ q v there replaces. reasons-replaced (left_by past event (answer_mark call answers.Fine ∷ [])).faults w v (queue_of slot) _ _ (kept event (answer_mark call answers.Fine ∷ []))
      (record {}) (no-peer (left_by past event (answer_mark call answers.Fine ∷ [])).faults (emptied_mailbox q.incarnation (w.mailbox (queue_of slot))) refl) replaces)
    where
      event : Event
      event = events.Verb by (verbs.DestroyQp slot)

      call : Call
      call = record { by = by; verb = verbs.DestroyQp slot }
  verb-leaves by (verbs.PostSend slot request) = leads-post c w (Leaves event) call slot request sound (λ r. kept event (answer_mark call (answers.Refused r) ∷ []))
      (λ q v drawn key there fails replaces. posted q v (answer_mark call (answers.Posted key) ∷ marks_of_flush (with_send request drawn q)) (with_send request drawn q) there
      (λ has. has) replaces)
    where
      event : Event
      event = events.Verb by (verbs.PostSend slot request)

      call : Call
      call = record { by = by; verb = verbs.PostSend slot request }

      posted : (q : QueuePair) (v : World) (ms : List Mark) (p : QueuePair) → IsFoundAt w (queue_of slot) q → (SlotHasReasons (left_by past event ms).faults (queue_of slot) (Present q) → SlotHasReasons (left_by past event ms).faults (queue_of slot) (Present p))
          → Replaces w (queue_of slot) (Present (after_flush p)) (w.mailbox (queue_of slot)) v → Leaves event v ms
      posted q v ms p there same replaces = reasons-replaced (left_by past event ms).faults w v (queue_of slot) (Present (after_flush p)) (w.mailbox (queue_of slot)) (kept event ms)
          (flush-slot (left_by past event ms).faults (queue_of slot) p (same (found event ms (queue_of slot) q there.is))) ((kept event ms).mail (queue_of slot)) replaces
  verb-leaves by (verbs.PostRecv slot request) = leads-receive c w (Leaves event) call slot request sound (λ r. kept event (answer_mark call (answers.Refused r) ∷ []))
      (λ q v there replaces. reasons-replaced (left_by past event (told q)).faults w v (queue_of slot) (Present (after_flush (with_receive request q))) (w.mailbox (queue_of slot)) (kept event (told q))
      (flush-slot (left_by past event (told q)).faults (queue_of slot) (with_receive request q) (found event (told q) (queue_of slot) q there.is)) ((kept event (told q)).mail (queue_of slot)) replaces)
    where
      event : Event
      event = events.Verb by (verbs.PostRecv slot request)

      call : Call
      call = record { by = by; verb = verbs.PostRecv slot request }

      told : QueuePair → List Mark
      told q = answer_mark call (answers.Posted None) ∷ marks_of_flush (with_receive request q)
  verb-leaves by (verbs.Poll slot n least) = leads-poll w (Leaves event) call slot n least (λ r. kept event (answer_mark call (answers.Refused r) ∷ []))
      (λ cq us is freed. freer-slots (left_by past event (answer_mark call (answers.Polled (take n cq.waiting)) ∷ [])).faults w (put_all us (put w (Cq_of slot) (Some (after_polls (length (take n cq.waiting)) cq))))
      (poll-freers c w slot cq n us (put w (Cq_of slot) (Some (after_polls (length (take n cq.waiting)) cq))) sound is freed refl refl) (kept event (answer_mark call (answers.Polled (take n cq.waiting)) ∷ [])))
    where
      event : Event
      event = events.Verb by (verbs.Poll slot n least)

      call : Call
      call = record { by = by; verb = verbs.Poll slot n least }
  verb-leaves by (verbs.DeallocMw slot) = leads-dealloc w (Leaves event) call slot (λ r. kept event (answer_mark call (answers.Refused r) ∷ []))
      (λ v o queue mail. reasons-same (left_by past event (told o)).faults w v queue mail (kept event (told o)))
      (λ name p v o is queue mail. reasons-put (left_by past event (told o)).faults w v name (Present (window_fewer p)) w.mailbox (kept event (told o)) (found event (told o) name p is) (λ n. (kept event (told o)).mail n) queue mail)
    where
      event : Event
      event = events.Verb by (verbs.DeallocMw slot)

      call : Call
      call = record { by = by; verb = verbs.DeallocMw slot }

      told : Option Key → List Mark
      told o = answer_mark call answers.Fine ∷ revocation slot.domain.adapter o
  verb-leaves by (verbs.Inject name bytes) = inject-leaves by name bytes
  verb-leaves by (verbs.AllocPd domain) = aside-leaves by (verbs.AllocPd domain) (record {})
  verb-leaves by (verbs.DeallocPd domain) = aside-leaves by (verbs.DeallocPd domain) (record {})
  verb-leaves by (verbs.RegMr slot buffer offset count rights) = aside-leaves by (verbs.RegMr slot buffer offset count rights) (record {})
  verb-leaves by (verbs.AllocMr slot pages) = aside-leaves by (verbs.AllocMr slot pages) (record {})
  verb-leaves by (verbs.DeregMr slot) = aside-leaves by (verbs.DeregMr slot) (record {})
  verb-leaves by (verbs.AllocMw slot kind) = aside-leaves by (verbs.AllocMw slot kind) (record {})
  verb-leaves by (verbs.CreateCq slot capacity) = aside-leaves by (verbs.CreateCq slot capacity) (record {})
  verb-leaves by (verbs.DestroyCq slot) = aside-leaves by (verbs.DestroyCq slot) (record {})
  verb-leaves by (verbs.CreateSrq slot depth) = aside-leaves by (verbs.CreateSrq slot depth) (record {})
  verb-leaves by (verbs.DestroySrq slot) = aside-leaves by (verbs.DestroySrq slot) (record {})
  verb-leaves by (verbs.QueryQp slot) = aside-leaves by (verbs.QueryQp slot) (record {})
  verb-leaves by (verbs.PostSrq slot request) = aside-leaves by (verbs.PostSrq slot request) (record {})
  verb-leaves by (verbs.Store adapter buffer offset bytes) = aside-leaves by (verbs.Store adapter buffer offset bytes) (record {})
  verb-leaves by (verbs.Load adapter buffer offset count) = aside-leaves by (verbs.Load adapter buffer offset count) (record {})

  deliver-leaves : (name : QueueId) (index : ℕ) → Leads w (Leaves (events.Deliver name index)) (plan c (events.Deliver name index))
  deliver-leaves name index = leads-delivery c w (Leaves event) (λ bytes q e. Answers bytes q e × IsInner q e) name index sound
      (λ q bytes shared there lent. such-and (Answers bytes q) (IsInner q) _ (arrival-answers bytes (Some index) shared q) (arrival-inner bytes (Some index) shared q))
      (λ q bytes e v there lent does has. reasons-replaced (left_by past event (told q e)).faults w v name (Present e.queue) (after_delivery index (w.mailbox name)) (kept event (told q e))
      (slot-arrived (at_begin event past) name q (Some index) bytes e (record { dropped = refl; remotely = refl; list = refl; completed = refl; fired = refl }) (sent q bytes there lent)
      (same-life past (at_begin event past) w name q paths refl there.is there.named) does.1 (found event (told q e) name q there.is) does.0)
      (box-delivered (left_by past event (told q e)).faults index (w.mailbox name) ((kept event (told q e)).mail name)) (replaces-changed w v name (Present e.queue) (after_delivery index (w.mailbox name)) has))
    where
      event : Event
      event = events.Deliver name index

      told : QueuePair → Effects → List Mark
      told q e = marks.Arrived q.queue (Some index) ∷ e.marks

      sent : (q : QueuePair) (bytes : List ℕ) → IsFoundAt w name q → bytes_lent index (w.mailbox name) ≡ Some bytes → packet_bytes_at (at_begin event past) q.queue (Some index) ≡ Some bytes
      sent q bytes there lent = let were = lent-sent c past w name index bytes sound paths lent in
          ap (λ n. option_map (λ (e : Envelope). e.bytes) (envelope_sent past n index)) there.named ∙ ap (option_map (λ (e : Envelope). e.bytes)) were.sent ∙ ap (λ x. Some x) were.bytes

  request-leaves : (name : QueueId) (lot : Lot) → Leads w (Leaves (events.Request name lot)) (plan c (events.Request name lot))
  request-leaves name lot = leads-request c w (Leaves event) name lot sound
      (λ q p room n e v ms there names turn ends goes. reasons-put (left_by past event ms).faults w v q.queue (Present e.queue) (boxes_after w q p lot (packet_sent e)) (kept event ms)
      (slot-of (left_by past event ms).faults q.queue q e.queue (ends-do (IsInner q) (packet_row q room n) e ends (ends-as (IsInner q) (packet_row q room n) (packet-inner q room n))).incarnation
      (λ fs. forgets-all fs q e.queue (ends-do (λ e. Forgets q e.queue) (packet_row q room n) e ends (packet-forgets q room n))) (found event ms q.queue q (ap w.queue there.named ∙ there.is)))
      (boxes-have (left_by past event ms).faults w q p lot (packet_sent e) (λ x is. request-spells ((left_by past event ms).faults (correspondent_of q)) e x (ends-do SendsRequests (packet_row q room n) e ends (packet-requests q room n there.sound turn)) is) (kept event ms))
      goes.queue goes.mailbox)
      (λ q n e v there turn quiet replaces. turned event v e.marks name q e.queue there.is quiet.incarnation
      (λ fs. keeps-all fs q.responder.answers e.queue.responder.answers (quiet.responder (record { psn = 0; mtu = q.responder.mtu; work = λ place. Local }) refl).queue) replaces)
    where
      event : Event
      event = events.Request name lot

  respond-leaves : (name : QueueId) (lot : Lot) → Leads w (Leaves (events.Respond name lot)) (plan c (events.Respond name lot))
  respond-leaves name lot = leads-response c w (Leaves event) (λ q e. Responds q e × IsInner q e) name lot sound
      (λ q room there finish more. leads-such c w (Leaves event) (λ e. Responds q e × IsInner q e) (respond_row room q) finish
      (such-and (Responds q) (IsInner q) (respond_row room q) (respond-responds room q there.sound) (respond-inner room q)) more)
      (λ q p e v there names does has. left q p e v there does.0 does.1 has)
    where
      event : Event
      event = events.Respond name lot

      left : (q : QueuePair) (p : Correspondent) (e : Effects) (v : World) → IsFoundAt w name q → Responds q e → IsInner q e
          → Has (with_at queue_eq w.queue q.queue (Present e.queue)) (boxes_after w q p lot (packet_sent e)) v
          → Leaves event v (e.marks ++ option_map_or (sent_marks q p (w.mailbox p.queue) lot) (packet_sent e) [])
      left q p e v there does inner has = by does
        where
          ms : List Mark
          ms = e.marks ++ option_map_or (sent_marks q p (w.mailbox p.queue) lot) (packet_sent e) []

          F : Correspondent → List Fault
          F = (left_by past event ms).faults

          here : w.queue q.queue ≡ Present q
          here = ap w.queue there.named ∙ there.is

          was : SlotHasReasons F q.queue (Present q)
          was = found event ms q.queue q here

          none : AreNoAnswers ms
          none = no-answers-append e.marks (option_map_or (sent_marks q p (w.mailbox p.queue) lot) (packet_sent e) []) (inner-no-answers e.marks (own-inner e.marks inner.marks)) (sent-no-answers q p (w.mailbox p.queue) lot (packet_sent e))

          put-so : SlotHasReasons F q.queue (Present e.queue) → SpellReason (F (correspondent_of q)) e.spelt → HaveReasons F v
          put-so own spells = reasons-put F w v q.queue (Present e.queue) (boxes_after w q p lot (packet_sent e)) (kept event ms) own
              (boxes-have F w q p lot (packet_sent e) (λ x is. response-spells (F (correspondent_of q)) e x spells is) (kept event ms)) has.queue has.mailbox

          by : Responds q e → HaveReasons F v
          by (gives all spells) = put-so (slot-of F q.queue q e.queue inner.incarnation all was) (spells (F (correspondent_of q)) was)
          by (denies nothing told spells) = put-so (slot-of F q.queue q e.queue inner.incarnation (λ fs all. subst (All fs) (sym nothing) (record {})) was)
              (spells (F (correspondent_of q)) (of-told (at_begin event past) q.queue (correspondent_of q) DeniedAccess ms none (tell-before q.queue DeniedAccess e.marks _ told) (same-life past (at_begin event past) w q.queue q paths refl here refl)))

  event-leaves : (event : Event) → Leads w (Leaves event) (plan c event)
  event-leaves (events.Verb by verb) = (λ named. verb-leaves by verb, λ none. kept (events.Verb by verb) (answer_mark (record { by = by; verb = verb }) (answers.Refused NoSuch) ∷ []))
  event-leaves (events.Request name lot) = request-leaves name lot
  event-leaves (events.Respond name lot) = respond-leaves name lot
  event-leaves (events.Deliver name index) = deliver-leaves name index
  event-leaves (events.Timeout name hasten) = leads-timeout c w (Leaves (events.Timeout name hasten)) name hasten sound
      (λ q silent v there sends replaces. turned (events.Timeout name hasten) v (after_timeout silent q).marks name q (after_timeout silent q).queue there.is (timeout-inner q silent).incarnation (λ fs. forgets-all fs q (after_timeout silent q).queue (timeout-forgets silent q)) replaces)
  event-leaves (events.RnrWake name) = leads-wake c w (Leaves (events.RnrWake name)) name sound
      (λ q v there sends replaces. turned (events.RnrWake name) v (after_wake q).marks name q (after_wake q).queue there.is refl (λ fs. forgets-all fs q (after_wake q).queue (wake-forgets q)) replaces)

pub event-reasons-agree : (c : Configuration) (past : Past) (w : World) (event : Event) → IsSoundWorld c w → PathsAgree past w → AllBeginEmpty w → ReasonsAgree past w
    → Comes (λ v ms. ReasonsAgree (left_by past event ms) v) (step c w event)
event-reasons-agree c past w event sound paths empty agree = comes w (λ v ms. ReasonsAgree (left_by past event ms) v) (plan c event) (event-leaves c past w sound paths empty agree event)

pub opening-reasons-agree : (bytes : ByteMap) → ReasonsAgree (opening_past bytes) (opening_world bytes)
opening-reasons-agree bytes = record { queues = λ n. record {}; mail = λ n peer is. record {} }
