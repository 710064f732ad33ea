-- Each packet that is sent has the next index of its target exactly where a path leads there. For proofs only.
use Rattle.std.proofs.Common.{◌≡◌, ℕ, suc, ◌&&◌, ◌==◌, Bool, true, false, if◌then◌else◌, List, [], ◌∷◌, ◌++◌, map, length, Ok, Err, Option, None, Some, refl, sym, ap, ap₂, subst, arith, is_some, true≢false, ◌∙◌}
use Rattle.std.specs.Option.{option_eq, option_map_or}
use Rattle.ca_law_endings.specs.Agreement.{PathsAgree, peer_in, peer_named}
use Rattle.ca_law_endings.specs.Runs.{Comes, Leads}
use Rattle.ca_law_endings.specs.Indices.{HaveTheirIndices, has_its_index}
use Rattle.ca_model.specs.Carried.{has_path, index_to}
use Rattle.std.proofs.lemmas.Bool.Decides.{nat_tests}
use Rattle.ca_law_endings.proofs.InnerLemmas.{own-inner, AreInner, IsInner, IsInnerMark, packet-inner, respond-inner}
use Rattle.ca_law_endings.proofs.LeadsLemmas.{comes, leads-weaker, leads-around, leads-queue, leads-row, leads-unless}
use Rattle.ca_law_endings.proofs.PathLemmas.{agree-kept, begin-same, inner-past, same-world}
use Rattle.ca_law_endings.proofs.PerformLemmas.{leads-perform}
use Rattle.ca_law_endings.proofs.PathTurnLemmas.{found}
use Rattle.ca_law_endings.proofs.PathEventLemmas.{event-agrees, opening-agrees}
use Rattle.ca_law_endings.proofs.EventFitLemmas.{first-marks, verb-answered}
use Rattle.ca_law_endings.proofs.FitLemmas.{Own_turns, Silent_turns, fits-deliver, fits-timeout, fits-wake}
use Rattle.ca_law_endings.proofs.VerbFitLemmas.{Answers, AreAnswered}
use Rattle.ca_law_world.proofs.Sound.SoundLemmas.{event-sound, opening-sound}
use Rattle.ca_keys.specs.Memory.{ByteMap}
use Rattle.ca_model.specs.Entries.{EntryValue}
use Rattle.ca_model.specs.declared.event.Event.TheVariants as events
use Rattle.ca_model.specs.machine.Frame.{Afterwards}
use Rattle.ca_model.specs.machine.Run.{Follows, Ran, go_on, run_from}
use Rattle.ca_model.specs.machine.Step.{plan, step}
use Rattle.ca_model.specs.machine.VerbAnswers.{Call}
use Rattle.std.specs.List.{AllByRecursion}
use Rattle.ca_base.specs.Configuration.{Configuration}
use Rattle.ca_base.specs.declared.correspondent.Correspondent.{Correspondent}
use Rattle.ca_base.specs.declared.lot.Lot.{Lot}
use Rattle.ca_base.specs.declared.step.Reason.TheVariants as reasons
use Rattle.ca_base.specs.declared.step.Sent.{Sent}
use Rattle.ca_base.specs.declared.step.Sent.TheVariants.{Silent, Spelt}
use Rattle.ca_base.specs.objects.Mailbox.{Mailbox, is_lost}
use Rattle.ca_base.specs.objects.QueuePair.{QueuePair, Present, incarnation_of}
use Rattle.ca_keys.specs.Equal.{queue_eq}
use Rattle.ca_keys.specs.declared.names.QueueId.{QueueId}
use Rattle.ca_model.specs.Past.{Naming, Past, after_mark, after_marks, at_begin, after_entry, correspondent_eq, each_entry, each_mark, opening_past, present_incarnation}
use Rattle.ca_model.specs.declared.event.Event.{Event}
use Rattle.ca_model.specs.declared.mark.Mark.{Mark}
use Rattle.ca_model.specs.declared.mark.Mark.TheVariants as marks
use Rattle.ca_model.specs.machine.Around.{With_around, updates_of}
use Rattle.ca_model.specs.machine.Delivery.{deliver_plan}
use Rattle.ca_model.specs.machine.Plan.{Did, NotReady, Outcome, Plan, Stuck, Finish}
use Rattle.ca_model.specs.machine.Requester.{Performs, RequestTurn, Sends, Waits, packet_row, turn_of}
use Rattle.ca_model.specs.machine.Respond.{respond_refusals, respond_row}
use Rattle.ca_model.specs.machine.Row.{Effects, Row, Row_plan}
use Rattle.ca_model.specs.machine.Sound.{AreLimited, CanBeMade, IsSoundWorld}
use Rattle.ca_model.specs.machine.Turns.{Leave_plan, Packet, Request_around, Respond_around, has_room_for, packet_sent, reaches_peer, request_plan, respond_plan, sent_marks, timeout_plan, wake_plan}
use Rattle.ca_model.specs.machine.World.{World, opening_world}
use Rattle.ca_law_world.proofs.Sound.SettledLemmas.{queue-refl}
use Rattle.ca_law_world.proofs.Sound.WorldLemmas.{RowDoes, around_in, shared_of}

-- what an event that ends so leaves of the test, whatever the world
abbrev pub Indexed : Past → Event → World → List Mark → Type 0
Indexed past event v ms = each_mark has_its_index (at_begin event past) ms ≡ true

inner-one : (p : Past) (m : Mark) → IsInnerMark m → has_its_index p m ≡ true
inner-one p (marks.Verb by verb answer) inner = refl
inner-one p (marks.Sent source target index request bytes) inner = absurd inner
inner-one p (marks.Granted g) inner = refl
inner-one p (marks.Revoked adapter key) inner = refl
inner-one p (marks.Remote queue domain envelope key kind address count verdict) inner = refl
inner-one p (marks.Local queue domain key kind address count verdict) inner = refl
inner-one p (marks.Stored place bytes) inner = refl
inner-one p (marks.Lost target index) inner = refl
inner-one p (marks.Arrived target index) inner = refl
inner-one p (marks.Dropped target cause) inner = refl
inner-one p (marks.Timer queue silent) inner = refl
inner-one p (marks.Done queue x cause) inner = refl

both-true : (a b : Bool) → a ≡ true → b ≡ true → (a && b) ≡ true
both-true true b one other = other
both-true false b one other = one

pub inner-indexed : (ms : List Mark) (p : Past) → AreInner ms → each_mark has_its_index p ms ≡ true
inner-indexed [] p inner = refl
inner-indexed (m ∷ ms) p inner = both-true (has_its_index p m) _ (inner-one p m inner.0) (inner-indexed ms (after_mark m p) inner.1)

-- marks of a row, and others behind
behind-inner : (ms ns : List Mark) (p : Past) → AreInner ms → each_mark has_its_index (after_marks ms p) ns ≡ true → each_mark has_its_index p (ms ++ ns) ≡ true
behind-inner [] ns p inner more = more
behind-inner (m ∷ ms) ns p inner more = both-true (has_its_index p m) _ (inner-one p m inner.0) (behind-inner ms ns (after_mark m p) inner.1 more)

same-number : (a b : ℕ) → (a == b) ≡ (b == a)
same-number a b = grind (arith, nat_tests)

same-queue : (a b : QueueId) → queue_eq a b ≡ queue_eq b a
same-queue a b = ap₂ (λ x y. x && y) (same-number a.adapter b.adapter) (same-number a.number b.number)

-- a path leads from a queue pair to its peer where the peer's mailbox accepts it
path-reaches : (p : Past) (w : World) (q : QueuePair) (peer : Correspondent) → PathsAgree p w → w.queue q.queue ≡ Present q → q.peer ≡ Some peer
    → has_path p q.queue peer.queue ≡ reaches_peer q peer (w.mailbox peer.queue)
path-reaches p w q peer agree is names = ap₂ (λ x y. x && y) (own (p.naming q.queue) (sym (agree.peers q.queue) ∙ ap peer_in is ∙ names)) (others (p.naming peer.queue) (w.mailbox peer.queue).peer (agree.accepted peer.queue))
  where
    own : (o : Option Naming) → peer_named o ≡ Some peer → option_map_or (λ n. correspondent_eq n.peer (present_incarnation p peer.queue)) o false ≡ ((w.mailbox peer.queue).incarnation == peer.incarnation)
    own None e = absurd (true≢false (sym (ap is_some e)))
    own (Some n) e = ap (λ o. option_map_or (λ x. correspondent_eq x (present_incarnation p peer.queue)) o false) e
        ∙ ap₂ (λ x y. x && y) (queue-refl peer.queue) (same-number peer.incarnation (p.incarnation peer.queue)) ∙ ap (λ k. k == peer.incarnation) (sym (agree.owners peer.queue))

    counted : p.incarnation q.queue ≡ q.incarnation
    counted = sym (agree.incarnations q.queue) ∙ ap incarnation_of is

    others : (o : Option Naming) (named : Option Correspondent) → named ≡ peer_named o
        → option_map_or (λ n. correspondent_eq n.peer (present_incarnation p q.queue)) o false ≡ option_map_or (λ x. queue_eq x.queue q.queue && (x.incarnation == q.incarnation)) named false
    others None named e = ap (λ o. option_map_or (λ x. queue_eq x.queue q.queue && (x.incarnation == q.incarnation)) o false) (sym e)
    others (Some n) named e = ap (λ k. queue_eq n.peer.queue q.queue && (n.peer.incarnation == k)) counted
        ∙ ap (λ o. option_map_or (λ x. queue_eq x.queue q.queue && (x.incarnation == q.incarnation)) o false) (sym e)

-- a packet that is sent to the peer has the index that the past gives
sent-indexed : (p : Past) (w : World) (q : QueuePair) (peer : Correspondent) (lot : Lot) (e : Effects) → PathsAgree p w → w.queue q.queue ≡ Present q → q.peer ≡ Some peer
    → each_mark has_its_index p (option_map_or (sent_marks q peer (w.mailbox peer.queue) lot) (packet_sent e) []) ≡ true
sent-indexed p w q peer lot e agree is names = by e.sent
  where
    m : Mailbox
    m = w.mailbox peer.queue

    packet : Sent → Option Packet
    packet Silent = None
    packet (Spelt request) = Some (record { request = request; bytes = e.spelt })

    told : Packet → Bool → List Mark
    told x b =
        if b then marks.Sent q.queue peer.queue (Some m.next) x.request x.bytes ∷ (if is_lost lot then marks.Lost peer.queue (Some m.next) ∷ [] else [])
        else marks.Sent q.queue peer.queue None x.request x.bytes ∷ marks.Lost peer.queue None ∷ []

    next : (index : Option ℕ) (b : Bool) → has_path p q.queue peer.queue ≡ b → index ≡ (if b then Some (length (p.envelopes peer.queue)) else None) → option_eq (λ x y. x == y) index (index_to p q.queue peer.queue) ≡ true
    next index b path same = ap₂ (λ i o. option_eq (λ x y. x == y) i o) same (ap (λ z. if z then Some (length (p.envelopes peer.queue)) else None) path) ∙ itself b
      where
        itself : (b : Bool) → option_eq (λ x y. x == y) (if b then Some (length (p.envelopes peer.queue)) else None) (if b then Some (length (p.envelopes peer.queue)) else None) ≡ true
        itself true = grind (arith, nat_tests)
        itself false = refl

    lost : (past : Past) (b : Bool) → each_mark has_its_index past (if b then marks.Lost peer.queue (Some m.next) ∷ [] else []) ≡ true
    lost past true = refl
    lost past false = refl

    reach : (x : Packet) (b : Bool) → reaches_peer q peer m ≡ b → each_mark has_its_index p (told x b) ≡ true
    reach x true e = both-true _ _ (next (Some m.next) true (path-reaches p w q peer agree is names ∙ e) (ap Some (agree.counts peer.queue))) (lost _ (is_lost lot))
    reach x false e = both-true _ _ (next None false (path-reaches p w q peer agree is names ∙ e) refl) refl

    by : (s : Sent) → each_mark has_its_index p (option_map_or (sent_marks q peer m lot) (packet s) []) ≡ true
    by Silent = refl
    by (Spelt request) = reach (record { request = request; bytes = e.spelt }) (reaches_peer q peer m) refl

-- a turn's row, and what it sends
indexed-left : (c : Configuration) (past : Past) (event : Event) (w : World) (q : QueuePair) (peer : Correspondent) (lot : Lot) (row : Row) → PathsAgree past w → w.queue q.queue ≡ Present q
    → q.peer ≡ Some peer → RowDoes (IsInner q) row → Leads w (Indexed past event) (Row_plan c row (Leave_plan q (around_in w q (shared_of w q)) peer (w.mailbox peer.queue) lot))
indexed-left c past event w q peer lot row agree is names does =
    leads-row c w (Indexed past event) (IsInner q) row (Leave_plan q (around_in w q (shared_of w q)) peer (w.mailbox peer.queue) lot) does
    (λ e cs ws inner aside. behind-inner e.marks (option_map_or (sent_marks q peer (w.mailbox peer.queue) lot) (packet_sent e) []) (at_begin event past) (own-inner e.marks inner.marks)
    (sent-indexed (after_marks e.marks (at_begin event past)) w q peer lot e
    (agree-kept past (after_marks e.marks (at_begin event past)) w w (inner-past e.marks (own-inner e.marks inner.marks) past (at_begin event past) (begin-same past event)) (same-world w) agree) is names))

indexed-request : (c : Configuration) (past : Past) (event : Event) (w : World) (name : QueueId) (lot : Lot) → IsSoundWorld c w → PathsAgree past w → Leads w (Indexed past event) (request_plan c name lot)
indexed-request c past event w name lot sound agree = leads-queue c w (Indexed past event) name reasons.State (λ q. With_around q (λ a. Request_around c lot q a q.peer (turn_of q)))
    (λ q is. leads-around w (Indexed past event) q (λ a. Request_around c lot q a q.peer (turn_of q)) (by q (found c w name q sound is) q.peer refl (turn_of q)))
  where
    by : (q : QueuePair) → w.queue q.queue ≡ Present q → (peer : Option Correspondent) → q.peer ≡ peer → (turn : RequestTurn)
        → Leads w (Indexed past event) (Request_around c lot q (around_in w q (shared_of w q)) peer turn)
    by q is peer names (Waits reason) = record {}
    by q is peer names (Performs n) = leads-perform c w (Indexed past event) q n (λ e changes writes. Finish (updates_of q (around_in w q (shared_of w q)) e ++ changes) writes e.marks) n.request.op
        (λ e cs ws inner aside. inner-indexed e.marks (at_begin event past) (own-inner e.marks inner.marks))
    by q is None names (Sends n) = record {}
    by q is (Some peer) names (Sends n) = indexed-left c past event w q peer lot (packet_row q (has_room_for q peer (w.mailbox peer.queue)) n) agree is names
        (packet-inner q (has_room_for q peer (w.mailbox peer.queue)) n)

indexed-respond : (c : Configuration) (past : Past) (event : Event) (w : World) (name : QueueId) (lot : Lot) → IsSoundWorld c w → PathsAgree past w → Leads w (Indexed past event) (respond_plan c name lot)
indexed-respond c past event w name lot sound agree = leads-queue c w (Indexed past event) name reasons.State (λ q. With_around q (λ a. Respond_around c lot q a q.peer))
    (λ q is. leads-around w (Indexed past event) q (λ a. Respond_around c lot q a q.peer) (by q (found c w name q sound is) q.peer refl))
  where
    by : (q : QueuePair) → w.queue q.queue ≡ Present q → (peer : Option Correspondent) → q.peer ≡ peer → Leads w (Indexed past event) (Respond_around c lot q (around_in w q (shared_of w q)) peer)
    by q is None names = leads-unless w (Indexed past event) (respond_refusals true q) Stuck (Stuck reasons.Empty) (λ r. record {}) (record {})
    by q is (Some peer) names = indexed-left c past event w q peer lot (respond_row (has_room_for q peer (w.mailbox peer.queue)) q) agree is names
        (respond-inner (has_room_for q peer (w.mailbox peer.queue)) q)

-- the marks of a verb's event, and of a turn that sends nothing
answered-indexed : (call : Call) (p : Past) (ms : List Mark) → AreAnswered call ms → each_mark has_its_index p ms ≡ true
answered-indexed call p [] answered = absurd answered
answered-indexed call p (marks.Verb by verb answer ∷ ms) answered = inner-indexed ms (after_mark (marks.Verb by verb answer) p) answered.1
answered-indexed call p (marks.Sent source target index request bytes ∷ ms) answered = absurd answered.0
answered-indexed call p (marks.Granted g ∷ ms) answered = absurd answered.0
answered-indexed call p (marks.Revoked adapter key ∷ ms) answered = absurd answered.0
answered-indexed call p (marks.Remote queue domain envelope key kind address count verdict ∷ ms) answered = absurd answered.0
answered-indexed call p (marks.Local queue domain key kind address count verdict ∷ ms) answered = absurd answered.0
answered-indexed call p (marks.Stored place bytes ∷ ms) answered = absurd answered.0
answered-indexed call p (marks.Lost target index ∷ ms) answered = absurd answered.0
answered-indexed call p (marks.Arrived target index ∷ ms) answered = absurd answered.0
answered-indexed call p (marks.Dropped target cause ∷ ms) answered = absurd answered.0
answered-indexed call p (marks.Timer queue silent ∷ ms) answered = absurd answered.0
answered-indexed call p (marks.Done queue x cause ∷ ms) answered = absurd answered.0

silent-indexed : (past : Past) (event : Event) (w : World) (p : Plan) → Leads w Silent_turns p → Leads w (Indexed past event) p
silent-indexed past event w p leads = leads-weaker w Silent_turns (Indexed past event) p (λ v ms inner. inner-indexed ms (at_begin event past) inner) leads

-- marks of rows are silent
own-silent : (w : World) (p : Plan) → Leads w Own_turns p → Leads w Silent_turns p
own-silent w p leads = leads-weaker w Own_turns Silent_turns p (λ v ms. own-inner ms) leads

indexed-event : (c : Configuration) (past : Past) (w : World) (event : Event) → IsSoundWorld c w → PathsAgree past w → Leads w (Indexed past event) (plan c event)
indexed-event c past w (events.Verb by verb) sound agree = leads-weaker w (Answers call) (Indexed past (events.Verb by verb)) (plan c (events.Verb by verb))
    (λ v ms answered. answered-indexed call (at_begin (events.Verb by verb) past) ms answered) (verb-answered c w by verb)
  where
    call : Call
    call = record { by = by; verb = verb }
indexed-event c past w (events.Request queue lot) sound agree = indexed-request c past (events.Request queue lot) w queue lot sound agree
indexed-event c past w (events.Respond queue lot) sound agree = indexed-respond c past (events.Respond queue lot) w queue lot sound agree
indexed-event c past w (events.Deliver queue index) sound agree = silent-indexed past (events.Deliver queue index) w (deliver_plan c queue index) (fits-deliver c w queue index)
indexed-event c past w (events.Timeout queue hasten) sound agree = silent-indexed past (events.Timeout queue hasten) w (timeout_plan c queue hasten) (own-silent w (timeout_plan c queue hasten) (fits-timeout c w queue hasten))
indexed-event c past w (events.RnrWake queue) sound agree = silent-indexed past (events.RnrWake queue) w (wake_plan c queue) (own-silent w (wake_plan c queue) (fits-wake c w queue))

event-indexed : (c : Configuration) (past : Past) (w : World) (event : Event) → IsSoundWorld c w → PathsAgree past w → Comes (λ v ms. each_mark has_its_index (at_begin event past) ms ≡ true) (step c w event)
event-indexed c past w event sound agree = comes w (Indexed past event) (plan c event) (indexed-event c past w event sound agree)

-- a mark test along a history, by the agreement along it
along : (c : Configuration) (n : ℕ) (es : List EntryValue) (past : Past) (w : World) → AreLimited c → AllByRecursion (λ e. CanBeMade e.event) es → IsSoundWorld c w → PathsAgree past w
    → run_from c n w (map (λ e. e.event) es) ≡ Ok (map (λ e. e.marks) es) → each_entry has_its_index (λ p. true) past es ≡ true
along c n [] past w limited made sound agree follows = refl
along c n (e ∷ es) past w limited made sound agree follows =
    by (step c w e.event) (event-indexed c past w e.event sound agree) (event-agrees c past w e.event sound agree) (event-sound c e.event w limited sound made.0) follows
    (λ v whole next told. along c (suc n) es (after_entry e past) v limited made.1 whole next told)
  where
    Rest : Type 0
    Rest = (v : World) → IsSoundWorld c v → PathsAgree (after_entry e past) v → run_from c (suc n) v (map (λ e. e.event) es) ≡ Ok (map (λ e. e.marks) es)
        → each_entry has_its_index (λ p. true) (after_entry e past) es ≡ true

    stopped : Ran → Bool
    stopped (Ok told) = false
    stopped (Err stop) = true

    by : (o : Outcome) → Comes (λ v ms. each_mark has_its_index (at_begin e.event past) ms ≡ true) o → Comes (λ v ms. PathsAgree (after_marks ms (at_begin e.event past)) v) o
        → Afterwards (IsSoundWorld c) o → go_on n o (λ v. run_from c (suc n) v (map (λ e. e.event) es)) ≡ Ok (e.marks ∷ map (λ e. e.marks) es) → Rest
        → each_entry has_its_index (λ p. true) past (e ∷ es) ≡ true
    by (NotReady reason) indexed agrees whole follows rest = absurd (true≢false (ap stopped follows))
    by (Did v ms) indexed agrees whole follows rest = at (first-marks ms e.marks (run_from c (suc n) v (map (λ e. e.event) es)) (map (λ e. e.marks) es) follows)
      where
        at : (ms ≡ e.marks) × (run_from c (suc n) v (map (λ e. e.event) es) ≡ Ok (map (λ e. e.marks) es)) → each_entry has_its_index (λ p. true) past (e ∷ es) ≡ true
        at told = both-true _ _ (both-true _ true (subst (λ xs. each_mark has_its_index (at_begin e.event past) xs ≡ true) told.0 indexed) refl)
            (rest v whole (subst (λ xs. PathsAgree (after_marks xs (at_begin e.event past)) v) told.0 agrees) told.1)

pub indices-along : (c : Configuration) (bytes : ByteMap) (es : List EntryValue) → AreLimited c → AllByRecursion (λ e. CanBeMade e.event) es → Follows c bytes es
    → HaveTheirIndices bytes es
indices-along c bytes es limited made follows = along c 0 es (opening_past bytes) (opening_world bytes) limited made (opening-sound c bytes) (opening-agrees bytes) follows
