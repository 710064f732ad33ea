-- What the marks of events are: which packets arrive, and what an answered verb found. For proofs only.
use Rattle.std.proofs.Common.{◌≡◌, ℕ, Bool, true, false, if◌then◌else◌, List, [], ◌∷◌, ◌++◌, Option, None, Some, refl, ap}
use Rattle.std.specs.Option.{option_map_or}
use Rattle.ca_law_endings.proofs.EventFitLemmas.{verb-answered}
use Rattle.ca_law_endings.proofs.FitLemmas.{Turns, fits-arrive, fits-request, fits-respond, fits-timeout, fits-wake}
use Rattle.ca_law_endings.proofs.InnerLemmas.{AreOwn, IsInner, IsOwnMark, packet-inner, respond-inner}
use Rattle.ca_law_endings.proofs.LeadsLemmas.{comes, leads-around, leads-queue, leads-row, leads-unless, leads-weaker}
use Rattle.ca_law_endings.proofs.PerformLemmas.{leads-perform}
use Rattle.ca_law_endings.proofs.VerbFitLemmas.{Answers, AreAnswered, AreOwnAnswered, IsNoInjection, OwnAnswers, own-verb}
use Rattle.ca_law_endings.specs.Runs.{Comes, Leads}
use Rattle.ca_base.specs.Configuration.{Configuration}
use Rattle.ca_base.specs.declared.correspondent.Correspondent.{Correspondent}
use Rattle.ca_base.specs.declared.lot.Lot.{Lot}
use Rattle.ca_base.specs.declared.step.Reason.TheVariants as reasons
use Rattle.ca_base.specs.declared.step.Sent.{Sent}
use Rattle.ca_base.specs.declared.step.Sent.TheVariants.{Silent, Spelt}
use Rattle.ca_base.specs.objects.Mailbox.{Mailbox, after_delivery, bytes_lent, is_lost}
use Rattle.ca_base.specs.objects.QueuePair.{QueuePair, QueueSlot, NoQueue, Present}
use Rattle.ca_keys.specs.declared.names.QueueId.{QueueId}
use Rattle.ca_law_world.proofs.Sound.WorldLemmas.{RowDoes, around_in, shared_of}
use Rattle.ca_model.specs.History.{ArePlain, IsAnswerTo}
use Rattle.ca_model.specs.declared.answer.Answer.TheVariants as answers
use Rattle.ca_model.specs.declared.answer.Refusal.TheVariants.{NoSuch}
use Rattle.ca_model.specs.declared.event.Event.{Event}
use Rattle.ca_model.specs.declared.event.Event.TheVariants as events
use Rattle.ca_model.specs.declared.mark.Mark.{Mark}
use Rattle.ca_model.specs.declared.mark.Mark.TheVariants as marks
use Rattle.ca_model.specs.declared.verb.Verb.{Verb}
use Rattle.ca_model.specs.declared.verb.Verb.TheVariants as verbs
use Rattle.ca_model.specs.machine.Around.{With_around, updates_of}
use Rattle.ca_model.specs.machine.Delivery.{Arrive, deliver_plan}
use Rattle.ca_model.specs.machine.HostVerbs.{inject_plan}
use Rattle.ca_model.specs.machine.Plan.{Plan, Stuck, Look, Finish, ◌:=◌}
use Rattle.ca_model.specs.machine.Requester.{Performs, RequestTurn, Sends, Waits, packet_row, turn_of}
use Rattle.ca_model.specs.machine.Respond.{respond_refusals, respond_row}
use Rattle.ca_model.specs.machine.Row.{Effects, Row, Row_plan}
use Rattle.ca_model.specs.machine.Sound.{IsQueueOf, IsSoundWorld}
use Rattle.ca_model.specs.machine.Step.{plan, step, verb_plan}
use Rattle.ca_model.specs.machine.Turns.{Leave_plan, Packet, Request_around, Respond_around, has_room_for, packet_sent, reaches_peer, request_plan, respond_plan, sent_marks}
use Rattle.ca_model.specs.machine.VerbAnswers.{Call, Refuse_plan, answer_mark}
use Rattle.ca_model.specs.machine.World.{Mailbox_of, Queue_of, World}
use Rattle.ca_law_once.proofs.Once.ActedLemmas.{AreUnmet, IsUnmetMark}
use Rattle.ca_law_once.proofs.Ties.TellLemmas.{leads-both}

-- ---- which packets arrive

unmet-one : (m : Mark) → IsOwnMark m → IsUnmetMark m
unmet-one (marks.Verb by verb answer) own = absurd own
unmet-one (marks.Granted g) own = record {}
unmet-one (marks.Revoked adapter key) own = record {}
unmet-one (marks.Remote queue domain envelope key kind address count verdict) own = record {}
unmet-one (marks.Local queue domain key kind address count verdict) own = record {}
unmet-one (marks.Stored place bytes) own = record {}
unmet-one (marks.Sent source target index request bytes) own = record {}
unmet-one (marks.Lost target index) own = record {}
unmet-one (marks.Arrived target index) own = absurd own
unmet-one (marks.Dropped target cause) own = record {}
unmet-one (marks.Timer queue silent) own = record {}
unmet-one (marks.Done queue x cause) own = record {}

pub own-unmet : (ms : List Mark) → AreOwn ms → AreUnmet ms
own-unmet [] own = record {}
own-unmet (m ∷ ms) own = (unmet-one m own.0, own-unmet ms own.1)

unmet-append : (ms ns : List Mark) → AreUnmet ms → AreUnmet ns → AreUnmet (ms ++ ns)
unmet-append [] ns one other = other
unmet-append (m ∷ ms) ns one other = (one.0, unmet-append ms ns one.1 other)

abbrev Unmet : World → List Mark → Type 0
Unmet v ms = AreUnmet ms

sent-unmet : (q : QueuePair) (peer : Correspondent) (m : Mailbox) (lot : Lot) (e : Effects) → AreUnmet (option_map_or (sent_marks q peer m lot) (packet_sent e) [])
sent-unmet q peer m lot e = by e.sent
  where
    packet : Sent → Option Packet
    packet Silent = None
    packet (Spelt request) = Some (record { request = request; bytes = e.spelt })

    lost : (b : Bool) → AreUnmet (if b then marks.Lost peer.queue (Some m.next) ∷ [] else [])
    lost true = (record {}, record {})
    lost false = record {}

    reach : (p : Packet) (b : Bool) → AreUnmet (
        if b then marks.Sent q.queue peer.queue (Some m.next) p.request p.bytes ∷ (if is_lost lot then marks.Lost peer.queue (Some m.next) ∷ [] else [])
        else marks.Sent q.queue peer.queue None p.request p.bytes ∷ marks.Lost peer.queue None ∷ [])
    reach p true = (record {}, lost (is_lost lot))
    reach p false = (record {}, (record {}, record {}))

    by : (s : Sent) → AreUnmet (option_map_or (sent_marks q peer m lot) (packet s) [])
    by Silent = record {}
    by (Spelt request) = reach (record { request = request; bytes = e.spelt }) (reaches_peer q peer m)

left-unmet : (c : Configuration) (w : World) (q : QueuePair) (peer : Correspondent) (lot : Lot) (row : Row) → RowDoes (IsInner q) row
    → Leads w Unmet (Row_plan c row (Leave_plan q (around_in w q (shared_of w q)) peer (w.mailbox peer.queue) lot))
left-unmet c w q peer lot row does =
    leads-row c w Unmet (IsInner q) row (Leave_plan q (around_in w q (shared_of w q)) peer (w.mailbox peer.queue) lot) does
    (λ e cs ws inner aside. unmet-append e.marks (option_map_or (sent_marks q peer (w.mailbox peer.queue) lot) (packet_sent e) []) (own-unmet e.marks inner.marks) (sent-unmet q peer (w.mailbox peer.queue) lot e))

request-unmet : (c : Configuration) (w : World) (name : QueueId) (lot : Lot) → Leads w Unmet (request_plan c name lot)
request-unmet c w name lot = leads-queue c w Unmet name reasons.State (λ q. With_around q (λ a. Request_around c lot q a q.peer (turn_of q)))
    (λ q is. leads-around w Unmet q (λ a. Request_around c lot q a q.peer (turn_of q)) (by q q.peer (turn_of q)))
  where
    by : (q : QueuePair) (peer : Option Correspondent) (turn : RequestTurn) → Leads w Unmet (Request_around c lot q (around_in w q (shared_of w q)) peer turn)
    by q peer (Waits reason) = record {}
    by q peer (Performs n) = leads-perform c w Unmet q n (λ e changes writes. Finish (updates_of q (around_in w q (shared_of w q)) e ++ changes) writes e.marks) n.request.op
        (λ e cs ws inner aside. own-unmet e.marks inner.marks)
    by q None (Sends n) = record {}
    by q (Some peer) (Sends n) = left-unmet c w q peer lot (packet_row q (has_room_for q peer (w.mailbox peer.queue)) n) (packet-inner q (has_room_for q peer (w.mailbox peer.queue)) n)

respond-unmet : (c : Configuration) (w : World) (name : QueueId) (lot : Lot) → Leads w Unmet (respond_plan c name lot)
respond-unmet c w name lot = leads-queue c w Unmet name reasons.State (λ q. With_around q (λ a. Respond_around c lot q a q.peer))
    (λ q is. leads-around w Unmet q (λ a. Respond_around c lot q a q.peer) (by q q.peer))
  where
    by : (q : QueuePair) (peer : Option Correspondent) → Leads w Unmet (Respond_around c lot q (around_in w q (shared_of w q)) peer)
    by q None = leads-unless w Unmet (respond_refusals true q) Stuck (Stuck reasons.Empty) (λ r. record {}) (record {})
    by q (Some peer) = left-unmet c w q peer lot (respond_row (has_room_for q peer (w.mailbox peer.queue)) q) (respond-inner (has_room_for q peer (w.mailbox peer.queue)) q)

answered-unmet : (call : Call) (ms : List Mark) → AreOwnAnswered call ms → AreUnmet ms
answered-unmet call [] own = absurd own
answered-unmet call (m ∷ ms) own = (head m own.0, own-unmet ms own.1)
  where
    head : (m : Mark) → IsAnswerTo call.by call.verb m → IsUnmetMark m
    head (marks.Verb by verb answer) is = record {}
    head (marks.Granted g) is = record {}
    head (marks.Revoked adapter key) is = record {}
    head (marks.Remote queue domain envelope key kind address count verdict) is = record {}
    head (marks.Local queue domain key kind address count verdict) is = record {}
    head (marks.Stored place bytes) is = record {}
    head (marks.Sent source target index request bytes) is = record {}
    head (marks.Lost target index) is = record {}
    head (marks.Arrived target index) is = absurd is
    head (marks.Dropped target cause) is = record {}
    head (marks.Timer queue silent) is = record {}
    head (marks.Done queue x cause) is = record {}

inject-unmet : (c : Configuration) (w : World) (call : Call) (q : QueueId) (bytes : List ℕ) → Leads w Unmet (inject_plan c call q bytes)
inject-unmet c w call q bytes = by (w.queue q)
  where
    arrives : QueueSlot → Plan
    arrives (NoQueue incarnation timers) = Refuse_plan call NoSuch
    arrives (Present p) = Arrive c p bytes None [] (answer_mark call answers.Fine ∷ [])

    by : (s : QueueSlot) → Leads w Unmet (arrives s)
    by (NoQueue incarnation timers) = (record {}, record {})
    by (Present p) = fits-arrive c w Unmet p bytes None [] (answer_mark call answers.Fine ∷ []) (λ v ns own. (record {}, (record {}, own-unmet ns own)))

own-verb-unmet : (c : Configuration) (w : World) (call : Call) (verb : Verb) → IsNoInjection verb → Leads w Unmet (verb_plan c call verb)
own-verb-unmet c w call verb none = leads-weaker w (OwnAnswers call) Unmet (verb_plan c call verb) (λ v ms. answered-unmet call ms) (own-verb c w call verb none)

verb-unmet : (c : Configuration) (w : World) (call : Call) (verb : Verb) → Leads w Unmet (verb_plan c call verb)
verb-unmet c w call (verbs.AllocPd domain) = own-verb-unmet c w call (verbs.AllocPd domain) (record {})
verb-unmet c w call (verbs.DeallocPd domain) = own-verb-unmet c w call (verbs.DeallocPd domain) (record {})
verb-unmet c w call (verbs.RegMr slot buffer offset count rights) = own-verb-unmet c w call (verbs.RegMr slot buffer offset count rights) (record {})
verb-unmet c w call (verbs.AllocMr slot pages) = own-verb-unmet c w call (verbs.AllocMr slot pages) (record {})
verb-unmet c w call (verbs.DeregMr slot) = own-verb-unmet c w call (verbs.DeregMr slot) (record {})
verb-unmet c w call (verbs.AllocMw slot kind) = own-verb-unmet c w call (verbs.AllocMw slot kind) (record {})
verb-unmet c w call (verbs.DeallocMw slot) = own-verb-unmet c w call (verbs.DeallocMw slot) (record {})
verb-unmet c w call (verbs.CreateCq slot capacity) = own-verb-unmet c w call (verbs.CreateCq slot capacity) (record {})
verb-unmet c w call (verbs.DestroyCq slot) = own-verb-unmet c w call (verbs.DestroyCq slot) (record {})
verb-unmet c w call (verbs.CreateSrq slot depth) = own-verb-unmet c w call (verbs.CreateSrq slot depth) (record {})
verb-unmet c w call (verbs.DestroySrq slot) = own-verb-unmet c w call (verbs.DestroySrq slot) (record {})
verb-unmet c w call (verbs.CreateQp slot send_cq recv_cq send_depth recv_depth srq) = own-verb-unmet c w call (verbs.CreateQp slot send_cq recv_cq send_depth recv_depth srq) (record {})
verb-unmet c w call (verbs.ModifyQp slot change) = own-verb-unmet c w call (verbs.ModifyQp slot change) (record {})
verb-unmet c w call (verbs.QueryQp slot) = own-verb-unmet c w call (verbs.QueryQp slot) (record {})
verb-unmet c w call (verbs.DestroyQp slot) = own-verb-unmet c w call (verbs.DestroyQp slot) (record {})
verb-unmet c w call (verbs.PostSend slot request) = own-verb-unmet c w call (verbs.PostSend slot request) (record {})
verb-unmet c w call (verbs.PostRecv slot request) = own-verb-unmet c w call (verbs.PostRecv slot request) (record {})
verb-unmet c w call (verbs.PostSrq slot request) = own-verb-unmet c w call (verbs.PostSrq slot request) (record {})
verb-unmet c w call (verbs.Poll slot n least) = own-verb-unmet c w call (verbs.Poll slot n least) (record {})
verb-unmet c w call (verbs.Store adapter buffer offset bytes) = own-verb-unmet c w call (verbs.Store adapter buffer offset bytes) (record {})
verb-unmet c w call (verbs.Load adapter buffer offset count) = own-verb-unmet c w call (verbs.Load adapter buffer offset count) (record {})
verb-unmet c w call (verbs.Inject queue bytes) = inject-unmet c w call queue bytes

-- An event lets the packet that it delivers arrive, and none else by an index: what a delivery lends lies in the mailbox.
pub record Delivers (w : World) (name : QueueId) (index : ℕ) (ms : List Mark) : Type 0 where
  pub bytes : List ℕ
  pub lent : bytes_lent index (w.mailbox name) ≡ Some bytes
  pub rest : List Mark
  pub are : ms ≡ marks.Arrived name (Some index) ∷ rest
  pub own : AreOwn rest

-- what the marks of each event are
abbrev pub Meets : World → Event → List Mark → Type 0
Meets w (events.Verb by verb) ms = AreUnmet ms × AreAnswered (record { by = by; verb = verb }) ms
Meets w (events.Request queue lot) ms = AreUnmet ms × ArePlain ms
Meets w (events.Deliver name index) ms = Delivers w name index ms
Meets w (events.Respond queue lot) ms = AreUnmet ms × ArePlain ms
Meets w (events.Timeout queue hasten) ms = AreOwn ms
Meets w (events.RnrWake queue) ms = AreOwn ms

deliver-meets : (c : Configuration) (w : World) (name : QueueId) (index : ℕ) → IsSoundWorld c w → Leads w (λ v ms. Delivers w name index ms) (deliver_plan c name index)
deliver-meets c w name index sound = (λ has. lent (bytes_lent index m) refl, λ none. record {})
  where
    m : Mailbox
    m = w.mailbox name

    P : World → List Mark → Type 0
    P v ms = Delivers w name index ms

    at : List ℕ → QueueSlot → Plan
    at bytes (NoQueue incarnation timers) = Stuck reasons.NotKept
    at bytes (Present q) = Arrive c q bytes (Some index) ((Mailbox_of name := after_delivery index m) ∷ []) []

    under_way : Option (List ℕ) → Plan
    under_way None = Stuck reasons.NotKept
    under_way (Some bytes) = Look (Queue_of name) (at bytes)

    there : (bytes : List ℕ) → bytes_lent index m ≡ Some bytes → (s : QueueSlot) → IsQueueOf name s → Leads w P (at bytes s)
    there bytes is (NoQueue incarnation timers) of = record {}
    there bytes is (Present q) of = fits-arrive c w P q bytes (Some index) ((Mailbox_of name := after_delivery index m) ∷ []) []
        (λ v ns own. record { bytes = bytes; lent = is; rest = ns; are = ap (λ n. marks.Arrived n (Some index) ∷ ns) of.0; own = own })

    lent : (o : Option (List ℕ)) → bytes_lent index m ≡ o → Leads w P (under_way o)
    lent None is = record {}
    lent (Some bytes) is = there bytes is (w.queue name) (sound.things (Queue_of name))

meets-plan : (c : Configuration) (w : World) (event : Event) → IsSoundWorld c w → Leads w (λ v ms. Meets w event ms) (plan c event)
meets-plan c w (events.Verb by verb) sound = leads-both w Unmet (Answers call) (plan c (events.Verb by verb)) (λ named. verb-unmet c w call verb, λ none. (record {}, record {})) (verb-answered c w by verb)
  where
    call : Call
    call = record { by = by; verb = verb }
meets-plan c w (events.Request queue lot) sound = leads-both w Unmet Turns (request_plan c queue lot) (request-unmet c w queue lot) (fits-request c w queue lot)
meets-plan c w (events.Deliver queue index) sound = deliver-meets c w queue index sound
meets-plan c w (events.Respond queue lot) sound = leads-both w Unmet Turns (respond_plan c queue lot) (respond-unmet c w queue lot) (fits-respond c w queue lot)
meets-plan c w (events.Timeout queue hasten) sound = fits-timeout c w queue hasten
meets-plan c w (events.RnrWake queue) sound = fits-wake c w queue

pub event-meets : (c : Configuration) (w : World) (event : Event) → IsSoundWorld c w → Comes (λ v ms. Meets w event ms) (step c w event)
event-meets c w event sound = comes w (λ v ms. Meets w event ms) (plan c event) (meets-plan c w event sound)
