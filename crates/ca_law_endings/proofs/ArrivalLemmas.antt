-- Each packet that arrives was sent, and can be delivered, or is injected by its event. For proofs only.
use Rattle.std.proofs.Common.{◌≡◌, ℕ, suc, ◌&&◌, ◌==◌, Bool, true, false, if◌then◌else◌, List, [], ◌∷◌, ◌++◌, map, length, Ok, Err, Option, None, Some, refl, sym, ap, subst, arith, is_some, true≢false, ◌∙◌, zero, ◌+◌, ◌≤◌, ◌<◌, not, take, find}
use Rattle.std.specs.Option.{option_map_or}
use Rattle.ca_law_endings.specs.Agreement.{PathsAgree, AreNumbered, WereSent}
use Rattle.ca_law_endings.specs.Runs.{Comes, Leads}
use Rattle.std.proofs.lemmas.Bool.Decides.{nat_tests}
use Rattle.ca_law_endings.proofs.InnerLemmas.{IsInner, packet-inner, respond-inner, AreOwn, IsOwnMark}
use Rattle.ca_law_endings.proofs.LeadsLemmas.{comes, leads-weaker, leads-around, leads-queue, leads-row, leads-unless}
use Rattle.ca_law_endings.proofs.PerformLemmas.{leads-perform}
use Rattle.ca_law_endings.proofs.PathEventLemmas.{event-agrees, opening-agrees}
use Rattle.ca_law_endings.proofs.EventFitLemmas.{first-marks}
use Rattle.ca_law_endings.proofs.FitLemmas.{fits-timeout, fits-wake, fits-arrive}
use Rattle.ca_law_world.proofs.Sound.SoundLemmas.{event-sound, opening-sound}
use Rattle.ca_keys.specs.Memory.{ByteMap}
use Rattle.ca_model.specs.Entries.{EntryValue}
use Rattle.ca_model.specs.declared.event.Event.TheVariants as events
use Rattle.ca_model.specs.machine.Frame.{Afterwards}
use Rattle.ca_model.specs.machine.Run.{Follows, Ran, go_on, run_from}
use Rattle.ca_model.specs.machine.Step.{plan, step, verb_plan}
use Rattle.ca_model.specs.machine.VerbAnswers.{Call, Refuse_plan, answer_mark}
use Rattle.std.specs.List.{AllByRecursion}
use Rattle.ca_base.specs.Configuration.{Configuration}
use Rattle.ca_base.specs.declared.correspondent.Correspondent.{Correspondent}
use Rattle.ca_base.specs.declared.lot.Lot.{Lot}
use Rattle.ca_base.specs.declared.step.Reason.TheVariants as reasons
use Rattle.ca_base.specs.objects.Mailbox.{Mailbox, is_lost, after_delivery, bytes_lent}
use Rattle.ca_base.specs.objects.QueuePair.{QueuePair, Present, QueueSlot, NoQueue}
use Rattle.ca_keys.specs.Equal.{queue_eq}
use Rattle.ca_keys.specs.declared.names.QueueId.{QueueId}
use Rattle.ca_model.specs.Past.{Past, after_mark, after_marks, at_begin, after_entry, each_entry, each_mark, opening_past, Envelope}
use Rattle.ca_model.specs.declared.event.Event.{Event}
use Rattle.ca_model.specs.declared.mark.Mark.{Mark}
use Rattle.ca_model.specs.declared.mark.Mark.TheVariants as marks
use Rattle.ca_model.specs.machine.Around.{With_around, updates_of}
use Rattle.ca_model.specs.machine.Delivery.{deliver_plan, Arrive}
use Rattle.ca_model.specs.machine.Plan.{Did, NotReady, Outcome, Plan, Stuck, Finish, Look, ◌:=◌}
use Rattle.ca_model.specs.machine.Requester.{Performs, RequestTurn, Sends, Waits, packet_row, turn_of}
use Rattle.ca_model.specs.machine.Respond.{respond_refusals, respond_row}
use Rattle.ca_model.specs.machine.Row.{Row, Row_plan}
use Rattle.ca_model.specs.machine.Sound.{AreLimited, CanBeMade, IsSoundWorld, IsQueueOf}
use Rattle.ca_model.specs.machine.Turns.{Leave_plan, Packet, Request_around, Respond_around, has_room_for, packet_sent, reaches_peer, request_plan, respond_plan, sent_marks, timeout_plan, wake_plan}
use Rattle.ca_model.specs.machine.World.{World, opening_world, Mailbox_of, Queue_of}
use Rattle.ca_law_world.proofs.Sound.SettledLemmas.{queue-refl}
use Rattle.ca_law_world.proofs.Sound.WorldLemmas.{RowDoes, around_in, shared_of}
use Rattle.ca_law_endings.proofs.MailSentLemmas.{lent-sent}
use Rattle.ca_law_endings.proofs.PathChangeLemmas.{Behind}
use Rattle.ca_law_endings.proofs.PathVerbLemmas.{call_of}
use Rattle.ca_law_endings.proofs.VerbFitLemmas.{AreOwnAnswered, IsNoInjection, OwnAnswers, own-verb}
use Rattle.ca_law_endings.specs.Arrivals.{DoArriveAsSent, arrives_as_sent}
use Rattle.ca_base.specs.declared.limits.TheConstants.{KEPT_ENVELOPES}
use Rattle.ca_model.specs.Carried.{has_arrived, is_under_way}
use Rattle.ca_model.specs.declared.answer.Answer.TheVariants as answers
use Rattle.ca_model.specs.declared.answer.Refusal.TheVariants.{NoSuch}
use Rattle.ca_model.specs.declared.verb.Verb.{Verb}
use Rattle.ca_model.specs.declared.verb.Verb.TheVariants as verbs
use Rattle.ca_model.specs.machine.HostVerbs.{inject_plan}

-- what an event that ends so leaves of the test, whatever the world
abbrev Right : Past → Event → World → List Mark → Type 0
Right past event v ms = each_mark arrives_as_sent (at_begin event past) ms ≡ true

both-true : (a b : Bool) → a ≡ true → b ≡ true → (a && b) ≡ true
both-true true b one other = other
both-true false b one other = one

own-one : (p : Past) (m : Mark) → IsOwnMark m → arrives_as_sent p m ≡ true
own-one p (marks.Verb by verb answer) own = refl
own-one p (marks.Sent source target index request bytes) own = refl
own-one p (marks.Granted g) own = refl
own-one p (marks.Revoked adapter key) own = refl
own-one p (marks.Remote queue domain envelope key kind address count verdict) own = refl
own-one p (marks.Local queue domain key kind address count verdict) own = refl
own-one p (marks.Stored place bytes) own = refl
own-one p (marks.Lost target index) own = refl
own-one p (marks.Arrived target index) own = absurd own
own-one p (marks.Dropped target cause) own = refl
own-one p (marks.Timer queue silent) own = refl
own-one p (marks.Done queue x cause) own = refl

own-right : (ms : List Mark) (p : Past) → AreOwn ms → each_mark arrives_as_sent p ms ≡ true
own-right [] p own = refl
own-right (m ∷ ms) p own = both-true (arrives_as_sent p m) _ (own-one p m own.0) (own-right ms (after_mark m p) own.1)

behind-own : (ms ns : List Mark) (p : Past) → AreOwn ms → each_mark arrives_as_sent (after_marks ms p) ns ≡ true → each_mark arrives_as_sent p (ms ++ ns) ≡ true
behind-own [] ns p own more = more
behind-own (m ∷ ms) ns p own more = both-true (arrives_as_sent p m) _ (own-one p m own.0) (behind-own ms ns (after_mark m p) own.1 more)

answered-right : (call : Call) (p : Past) (ms : List Mark) → AreOwnAnswered call ms → each_mark arrives_as_sent p ms ≡ true
answered-right call p [] answered = absurd answered
answered-right call p (marks.Verb by verb answer ∷ ms) answered = own-right ms (after_mark (marks.Verb by verb answer) p) answered.1
answered-right call p (marks.Sent source target index request bytes ∷ ms) answered = absurd answered.0
answered-right call p (marks.Granted g ∷ ms) answered = absurd answered.0
answered-right call p (marks.Revoked adapter key ∷ ms) answered = absurd answered.0
answered-right call p (marks.Remote queue domain envelope key kind address count verdict ∷ ms) answered = absurd answered.0
answered-right call p (marks.Local queue domain key kind address count verdict ∷ ms) answered = absurd answered.0
answered-right call p (marks.Stored place bytes ∷ ms) answered = absurd answered.0
answered-right call p (marks.Lost target index ∷ ms) answered = absurd answered.0
answered-right call p (marks.Arrived target index ∷ ms) answered = absurd answered.0
answered-right call p (marks.Dropped target cause ∷ ms) answered = absurd answered.0
answered-right call p (marks.Timer queue silent ∷ ms) answered = absurd answered.0
answered-right call p (marks.Done queue x cause ∷ ms) answered = absurd answered.0

smaller : (m n : ℕ) → m < n → (m == n) ≡ false
smaller m n less = grind (arith, nat_tests)

-- an envelope that is found is found among the latest, where few came later
found-late : (es : List Envelope) (k index : ℕ) (e : Envelope) → AreNumbered es → length es ≤ index + k → find (λ e. e.index == index) es ≡ Some e → find (λ e. e.index == index) (take k es) ≡ Some e
found-late [] k index e numbered few is = absurd (true≢false (sym (ap is_some is)))
found-late (x ∷ es) zero index e numbered few is = by (x.index == index) refl is (found-late es zero index e numbered.1 (omega (arith, few)))
  where
    by : (b : Bool) → (x.index == index) ≡ b → (if b then Some x else find (λ e. e.index == index) es) ≡ Some e
        → (find (λ e. e.index == index) es ≡ Some e → find (λ e. e.index == index) (take zero es) ≡ Some e) → find (λ e. e.index == index) (take zero (x ∷ es)) ≡ Some e
    by true f is rest = absurd (true≢false (sym f ∙ smaller x.index index (omega (arith, numbered.0, few))))
    by false f is rest = rest is
found-late (x ∷ es) (suc k) index e numbered few is = by (x.index == index) is (found-late es k index e numbered.1 (omega (arith, few)))
  where
    by : (b : Bool) → (if b then Some x else find (λ e. e.index == index) es) ≡ Some e
        → (find (λ e. e.index == index) es ≡ Some e → find (λ e. e.index == index) (take k es) ≡ Some e) → (if b then Some x else find (λ e. e.index == index) (take k es)) ≡ Some e
    by true is rest = is
    by false is rest = rest is

-- what was sent, and is lent, arrives
sent-arrives : (past : Past) (w : World) (q : QueueId) (index : ℕ) (bytes : List ℕ) → PathsAgree past w → WereSent past q index bytes → has_arrived past q (Some index) ≡ true
sent-arrives past w q index bytes agree was = ap (λ o. option_map_or is_under_way o false) (found-late (past.envelopes q) KEPT_ENVELOPES index was.envelope (agree.numbered q) was.recent was.sent)
    ∙ (λ i. not (was.whole i) && not (was.uncut i))

right-left : (c : Configuration) (past : Past) (event : Event) (w : World) (q : QueuePair) (peer : Correspondent) (lot : Lot) (row : Row) → RowDoes (IsInner q) row
    → Leads w (Right past event) (Row_plan c row (Leave_plan q (around_in w q (shared_of w q)) peer (w.mailbox peer.queue) lot))
right-left c past event w q peer lot row does = leads-row c w (Right past event) (IsInner q) row (Leave_plan q (around_in w q (shared_of w q)) peer (w.mailbox peer.queue) lot) does
    (λ e cs ws inner aside. behind-own e.marks (option_map_or (sent_marks q peer (w.mailbox peer.queue) lot) (packet_sent e) []) (at_begin event past) inner.marks
    (sent (after_marks e.marks (at_begin event past)) (packet_sent e)))
  where
    m : Mailbox
    m = w.mailbox peer.queue

    reach : (p : Past) (x : Packet) (b z : Bool) → each_mark arrives_as_sent p (if b
        then marks.Sent q.queue peer.queue (Some m.next) x.request x.bytes ∷ (if z then marks.Lost peer.queue (Some m.next) ∷ [] else [])
        else marks.Sent q.queue peer.queue None x.request x.bytes ∷ marks.Lost peer.queue None ∷ []) ≡ true
    reach p x true true = refl
    reach p x true false = refl
    reach p x false z = refl

    sent : (p : Past) (o : Option Packet) → each_mark arrives_as_sent p (option_map_or (sent_marks q peer m lot) o []) ≡ true
    sent p None = refl
    sent p (Some x) = reach p x (reaches_peer q peer m) (is_lost lot)

right-request : (c : Configuration) (past : Past) (event : Event) (w : World) (name : QueueId) (lot : Lot) → Leads w (Right past event) (request_plan c name lot)
right-request c past event w name lot = leads-queue c w (Right past event) name reasons.State (λ q. With_around q (λ a. Request_around c lot q a q.peer (turn_of q)))
    (λ q is. leads-around w (Right past event) q (λ a. Request_around c lot q a q.peer (turn_of q)) (by q q.peer (turn_of q)))
  where
    by : (q : QueuePair) (peer : Option Correspondent) (turn : RequestTurn) → Leads w (Right past event) (Request_around c lot q (around_in w q (shared_of w q)) peer turn)
    by q peer (Waits reason) = record {}
    by q peer (Performs n) = leads-perform c w (Right past event) q n (λ e changes writes. Finish (updates_of q (around_in w q (shared_of w q)) e ++ changes) writes e.marks) n.request.op
        (λ e cs ws inner aside. own-right e.marks (at_begin event past) inner.marks)
    by q None (Sends n) = record {}
    by q (Some peer) (Sends n) = right-left c past event w q peer lot (packet_row q (has_room_for q peer (w.mailbox peer.queue)) n) (packet-inner q (has_room_for q peer (w.mailbox peer.queue)) n)

right-respond : (c : Configuration) (past : Past) (event : Event) (w : World) (name : QueueId) (lot : Lot) → Leads w (Right past event) (respond_plan c name lot)
right-respond c past event w name lot = leads-queue c w (Right past event) name reasons.State (λ q. With_around q (λ a. Respond_around c lot q a q.peer))
    (λ q is. leads-around w (Right past event) q (λ a. Respond_around c lot q a q.peer) (by q q.peer))
  where
    by : (q : QueuePair) (peer : Option Correspondent) → Leads w (Right past event) (Respond_around c lot q (around_in w q (shared_of w q)) peer)
    by q None = leads-unless w (Right past event) (respond_refusals true q) Stuck (Stuck reasons.Empty) (λ r. record {}) (record {})
    by q (Some peer) = right-left c past event w q peer lot (respond_row (has_room_for q peer (w.mailbox peer.queue)) q) (respond-inner (has_room_for q peer (w.mailbox peer.queue)) q)

-- a queue pair that is found has its name
named : (c : Configuration) (w : World) (name : QueueId) (q : QueuePair) → IsSoundWorld c w → w.queue name ≡ Present q → q.queue ≡ name
named c w name q sound is = (subst (IsQueueOf name) is (sound.things (Queue_of name))).0

right-deliver : (c : Configuration) (past : Past) (event : Event) (w : World) (name : QueueId) (index : ℕ) → IsSoundWorld c w → PathsAgree past w → Leads w (Right past event) (deliver_plan c name index)
right-deliver c past event w name index sound agree = (λ has. lent (bytes_lent index (w.mailbox name)) refl, λ none. record {})
  where
    m : Mailbox
    m = w.mailbox name

    at : List ℕ → QueueSlot → Plan
    at bytes (NoQueue incarnation timers) = Stuck reasons.NotKept
    at bytes (Present q) = Arrive c q bytes (Some index) ((Mailbox_of name := after_delivery index m) ∷ []) []

    under_way : Option (List ℕ) → Plan
    under_way None = Stuck reasons.NotKept
    under_way (Some bytes) = Look (Queue_of name) (at bytes)

    there : (bytes : List ℕ) → WereSent past name index bytes → (s : QueueSlot) → w.queue name ≡ s → Leads w (Right past event) (at bytes s)
    there bytes was (NoQueue incarnation timers) is = record {}
    there bytes was (Present q) is = fits-arrive c w (Right past event) q bytes (Some index) ((Mailbox_of name := after_delivery index m) ∷ []) []
        (λ v ns own. both-true (has_arrived past q.queue (Some index)) _ (ap (λ k. has_arrived past k (Some index)) (named c w name q sound is) ∙ sent-arrives past w name index bytes agree was)
        (own-right ns (after_mark (marks.Arrived q.queue (Some index)) (at_begin event past)) own))

    lent : (o : Option (List ℕ)) → bytes_lent index m ≡ o → Leads w (Right past event) (under_way o)
    lent None is = record {}
    lent (Some bytes) is = there bytes (lent-sent c past w name index bytes sound agree is) (w.queue name) refl

right-inject : (c : Configuration) (past : Past) (w : World) (by : ℕ) (q : QueueId) (bytes : List ℕ) → IsSoundWorld c w
    → Leads w (Right past (events.Verb by (verbs.Inject q bytes))) (inject_plan c (call_of by (verbs.Inject q bytes)) q bytes)
right-inject c past w by q bytes sound = at (w.queue q) refl
  where
    call : Call
    call = call_of by (verbs.Inject q bytes)

    P : World → List Mark → Type 0
    P = Right past (events.Verb by (verbs.Inject q bytes))

    arrives : QueueSlot → Plan
    arrives (NoQueue incarnation timers) = Refuse_plan call NoSuch
    arrives (Present p) = Arrive c p bytes None [] (answer_mark call answers.Fine ∷ [])

    at : (s : QueueSlot) → w.queue q ≡ s → Leads w P (arrives s)
    at (NoQueue incarnation timers) is = refl
    at (Present p) is = fits-arrive c w P p bytes None [] (answer_mark call answers.Fine ∷ [])
        (λ v ns own. both-true (queue_eq q p.queue) _ (ap (λ k. queue_eq q k) (named c w q p sound is) ∙ queue-refl q)
        (own-right ns (after_mark (marks.Arrived p.queue None) (Behind past by (verbs.Inject q bytes) answers.Fine)) own))

right-verb : (c : Configuration) (past : Past) (w : World) (by : ℕ) (verb : Verb) → IsNoInjection verb → Leads w (Right past (events.Verb by verb)) (verb_plan c (call_of by verb) verb)
right-verb c past w by verb none = leads-weaker w (OwnAnswers (call_of by verb)) (Right past (events.Verb by verb)) (verb_plan c (call_of by verb) verb)
    (λ v ms answered. answered-right (call_of by verb) (at_begin (events.Verb by verb) past) ms answered) (own-verb c w (call_of by verb) verb none)

right-call : (c : Configuration) (past : Past) (w : World) (by : ℕ) (verb : Verb) → IsSoundWorld c w → Leads w (Right past (events.Verb by verb)) (verb_plan c (call_of by verb) verb)
right-call c past w by (verbs.Inject queue bytes) sound = right-inject c past w by queue bytes sound
right-call c past w by (verbs.AllocPd domain) sound = right-verb c past w by (verbs.AllocPd domain) (record {})
right-call c past w by (verbs.DeallocPd domain) sound = right-verb c past w by (verbs.DeallocPd domain) (record {})
right-call c past w by (verbs.RegMr slot buffer offset count rights) sound = right-verb c past w by (verbs.RegMr slot buffer offset count rights) (record {})
right-call c past w by (verbs.AllocMr slot pages) sound = right-verb c past w by (verbs.AllocMr slot pages) (record {})
right-call c past w by (verbs.DeregMr slot) sound = right-verb c past w by (verbs.DeregMr slot) (record {})
right-call c past w by (verbs.AllocMw slot kind) sound = right-verb c past w by (verbs.AllocMw slot kind) (record {})
right-call c past w by (verbs.DeallocMw slot) sound = right-verb c past w by (verbs.DeallocMw slot) (record {})
right-call c past w by (verbs.CreateCq slot capacity) sound = right-verb c past w by (verbs.CreateCq slot capacity) (record {})
right-call c past w by (verbs.DestroyCq slot) sound = right-verb c past w by (verbs.DestroyCq slot) (record {})
right-call c past w by (verbs.CreateSrq slot depth) sound = right-verb c past w by (verbs.CreateSrq slot depth) (record {})
right-call c past w by (verbs.DestroySrq slot) sound = right-verb c past w by (verbs.DestroySrq slot) (record {})
right-call c past w by (verbs.CreateQp slot send_cq recv_cq send_depth recv_depth srq) sound = right-verb c past w by (verbs.CreateQp slot send_cq recv_cq send_depth recv_depth srq) (record {})
right-call c past w by (verbs.ModifyQp slot change) sound = right-verb c past w by (verbs.ModifyQp slot change) (record {})
right-call c past w by (verbs.QueryQp slot) sound = right-verb c past w by (verbs.QueryQp slot) (record {})
right-call c past w by (verbs.DestroyQp slot) sound = right-verb c past w by (verbs.DestroyQp slot) (record {})
right-call c past w by (verbs.PostSend slot request) sound = right-verb c past w by (verbs.PostSend slot request) (record {})
right-call c past w by (verbs.PostRecv slot request) sound = right-verb c past w by (verbs.PostRecv slot request) (record {})
right-call c past w by (verbs.PostSrq slot request) sound = right-verb c past w by (verbs.PostSrq slot request) (record {})
right-call c past w by (verbs.Poll slot n least) sound = right-verb c past w by (verbs.Poll slot n least) (record {})
right-call c past w by (verbs.Store adapter buffer offset bytes) sound = right-verb c past w by (verbs.Store adapter buffer offset bytes) (record {})
right-call c past w by (verbs.Load adapter buffer offset count) sound = right-verb c past w by (verbs.Load adapter buffer offset count) (record {})

own-turn : (past : Past) (event : Event) (w : World) (p : Plan) → Leads w (λ v ms. AreOwn ms) p → Leads w (Right past event) p
own-turn past event w p leads = leads-weaker w (λ v ms. AreOwn ms) (Right past event) p (λ v ms own. own-right ms (at_begin event past) own) leads

right-event : (c : Configuration) (past : Past) (w : World) (event : Event) → IsSoundWorld c w → PathsAgree past w → Leads w (Right past event) (plan c event)
right-event c past w (events.Verb by verb) sound agree = (λ named. right-call c past w by verb sound, λ none. refl)
right-event c past w (events.Request queue lot) sound agree = right-request c past (events.Request queue lot) w queue lot
right-event c past w (events.Respond queue lot) sound agree = right-respond c past (events.Respond queue lot) w queue lot
right-event c past w (events.Deliver queue index) sound agree = right-deliver c past (events.Deliver queue index) w queue index sound agree
right-event c past w (events.Timeout queue hasten) sound agree = own-turn past (events.Timeout queue hasten) w (timeout_plan c queue hasten) (fits-timeout c w queue hasten)
right-event c past w (events.RnrWake queue) sound agree = own-turn past (events.RnrWake queue) w (wake_plan c queue) (fits-wake c w queue)

event-right : (c : Configuration) (past : Past) (w : World) (event : Event) → IsSoundWorld c w → PathsAgree past w → Comes (λ v ms. each_mark arrives_as_sent (at_begin event past) ms ≡ true) (step c w event)
event-right c past w event sound agree = comes w (Right past event) (plan c event) (right-event c past w event sound agree)

-- a mark test along a history, by the agreement along it
along : (c : Configuration) (n : ℕ) (es : List EntryValue) (past : Past) (w : World) → AreLimited c → AllByRecursion (λ e. CanBeMade e.event) es → IsSoundWorld c w → PathsAgree past w
    → run_from c n w (map (λ e. e.event) es) ≡ Ok (map (λ e. e.marks) es) → each_entry arrives_as_sent (λ p. true) past es ≡ true
along c n [] past w limited made sound agree follows = refl
along c n (e ∷ es) past w limited made sound agree follows =
    by (step c w e.event) (event-right c past w e.event sound agree) (event-agrees c past w e.event sound agree) (event-sound c e.event w limited sound made.0) follows
    (λ v whole next told. along c (suc n) es (after_entry e past) v limited made.1 whole next told)
  where
    Rest : Type 0
    Rest = (v : World) → IsSoundWorld c v → PathsAgree (after_entry e past) v → run_from c (suc n) v (map (λ e. e.event) es) ≡ Ok (map (λ e. e.marks) es)
        → each_entry arrives_as_sent (λ p. true) (after_entry e past) es ≡ true

    stopped : Ran → Bool
    stopped (Ok told) = false
    stopped (Err stop) = true

    by : (o : Outcome) → Comes (λ v ms. each_mark arrives_as_sent (at_begin e.event past) ms ≡ true) o → Comes (λ v ms. PathsAgree (after_marks ms (at_begin e.event past)) v) o
        → Afterwards (IsSoundWorld c) o → go_on n o (λ v. run_from c (suc n) v (map (λ e. e.event) es)) ≡ Ok (e.marks ∷ map (λ e. e.marks) es) → Rest
        → each_entry arrives_as_sent (λ p. true) past (e ∷ es) ≡ true
    by (NotReady reason) right agrees whole follows rest = absurd (true≢false (ap stopped follows))
    by (Did v ms) right agrees whole follows rest = at (first-marks ms e.marks (run_from c (suc n) v (map (λ e. e.event) es)) (map (λ e. e.marks) es) follows)
      where
        at : (ms ≡ e.marks) × (run_from c (suc n) v (map (λ e. e.event) es) ≡ Ok (map (λ e. e.marks) es)) → each_entry arrives_as_sent (λ p. true) past (e ∷ es) ≡ true
        at told = both-true _ _ (both-true _ true (subst (λ xs. each_mark arrives_as_sent (at_begin e.event past) xs ≡ true) told.0 right) refl)
            (rest v whole (subst (λ xs. PathsAgree (after_marks xs (at_begin e.event past)) v) told.0 agrees) told.1)

pub arrivals-along : (c : Configuration) (bytes : ByteMap) (es : List EntryValue) → AreLimited c → AllByRecursion (λ e. CanBeMade e.event) es → Follows c bytes es
    → DoArriveAsSent bytes es
arrivals-along c bytes es limited made follows = along c 0 es (opening_past bytes) (opening_world bytes) limited made (opening-sound c bytes) (opening-agrees bytes) follows
