-- Completions have the causes that speak of lists, in every history that follows the machine. For proofs only.
use Rattle.std.proofs.Common.{◌≡◌, ℕ, ◌==◌, Bool, true, false, if◌then◌else◌, List, [], ◌∷◌, ◌++◌, length, Option, None, Some, refl, ap, subst, rules, ◌∙◌, true≢false, suc, map, Ok, Err, slice_get}
use Rattle.std.specs.List.{AllByRecursion}
use Rattle.std.specs.Option.{option_and_then, option_map, option_map_or}
use Rattle.std.specs.Result.{result_ok}
use Rattle.ca_law_endings.proofs.EventFitLemmas.{first-marks}
use Rattle.ca_law_endings.proofs.LeadsLemmas.{leads-around, leads-queue, leads-row, comes, leads-unless, leads-weaker}
use Rattle.ca_law_endings.proofs.MailSentLemmas.{lent-sent}
use Rattle.ca_law_endings.proofs.PathEventLemmas.{event-agrees, opening-agrees}
use Rattle.ca_law_endings.proofs.PathVerbLemmas.{call_of}
use Rattle.ca_law_endings.specs.Agreement.{PathsAgree, WereSent}
use Rattle.ca_law_endings.specs.Runs.{Leads, Comes}
use Rattle.ca_law_order.proofs.Lists.EventLemmas.{event-lists-agree, opening-lists-agree}
use Rattle.ca_law_order.specs.Lists.{ListsAgree}
use Rattle.ca_law_order.proofs.Polls.OperationLemmas.{leads-operation}
use Rattle.ca_law_order.proofs.Polls.PlanLemmas.{leads-poll}
use Rattle.ca_law_keys.proofs.Posts.GrantLemmas.{both-true}
use Rattle.ca_base.specs.Configuration.{Configuration}
use Rattle.ca_base.specs.declared.change.Change as state_change
use Rattle.ca_base.specs.declared.change.Change.TheVariants as changes
use Rattle.ca_base.specs.declared.change.State.TheVariants as states
use Rattle.ca_base.specs.declared.correspondent.Correspondent.{Correspondent}
use Rattle.ca_base.specs.declared.lot.Lot.{Lot}
use Rattle.ca_base.specs.declared.queue_numbers.Queued.TheVariants as queued
use Rattle.ca_base.specs.declared.queue_numbers.Queued.{Queued}
use Rattle.ca_base.specs.declared.request.RecvRequest.{RecvRequest}
use Rattle.ca_base.specs.declared.request.SendOp.TheVariants as ops
use Rattle.ca_base.specs.declared.request.SendOp.{SendOp}
use Rattle.ca_base.specs.declared.request.SendRequest.{SendRequest}
use Rattle.ca_base.specs.declared.step.Reason.TheVariants as reasons
use Rattle.ca_base.specs.declared.step.Reason.{Reason}
use Rattle.ca_base.specs.objects.CompletionQueue.{after_puts}
use Rattle.ca_base.specs.objects.Mailbox.{with_peer, Mailbox, after_delivery, bytes_lent, is_lost}
use Rattle.ca_base.specs.objects.QueuePair.{recv_cq_of, send_cq_of, QueuePair, QueueSlot, NoQueue, Present}
use Rattle.ca_base.specs.objects.StateTable.{modify_refusals, queue_after_change, state_eq}
use Rattle.ca_base.specs.objects.Window.{Window, after_draw, byte_drawn}
use Rattle.ca_base.specs.objects.WorkQueue.{with_item}
use Rattle.ca_law_caused.proofs.Caused.SuchLemmas.{leads-such}
use Rattle.ca_law_caused.proofs.Lists.ListedLemmas.{arrival-listed, Listed}
use Rattle.ca_law_caused.proofs.Lists.UsualLemmas.{AreUsual, Usual, usual-append, usual-passes, packet-usual, operation-usual, timeout-usual, flush-usual, plainly-usual}
use Rattle.ca_law_caused.specs.Listed.{completes_by_list, DoCompleteByLists}
use Rattle.ca_keys.specs.Memory.{ByteMap}
use Rattle.ca_keys.specs.Numbers.{key_at, queue_of, window_index}
use Rattle.ca_keys.specs.Refusals.{first_of}
use Rattle.ca_keys.specs.declared.names.QueueId.{QueueId}
use Rattle.ca_keys.specs.declared.names.Slot.{Slot}
use Rattle.ca_law_parts.proofs.Room.EventRoomLemmas.{event-room}
use Rattle.ca_law_parts.proofs.Room.RoomLemmas.{opening-room}
use Rattle.ca_law_parts.specs.Room.{HasRoom}
use Rattle.ca_law_world.proofs.Sound.SettledLemmas.{queue-refl}
use Rattle.ca_law_world.proofs.Sound.SoundLemmas.{event-sound, opening-sound}
use Rattle.ca_law_world.proofs.Sound.WorldLemmas.{IsThere, RowDoes, around_in, is-there, shared_of}
use Rattle.ca_model.specs.Entries.{EntryValue}
use Rattle.ca_model.specs.Packets.{packet_of}
use Rattle.ca_model.specs.Past.{Past, after_mark, after_marks, at_begin, at_end, envelope_sent, packet_at, after_entry, opening_past, each_mark, each_entry, arrived_at_hand}
use Rattle.ca_model.specs.declared.answer.Answer.TheVariants as answers
use Rattle.ca_model.specs.declared.answer.Answer.{Answer}
use Rattle.ca_model.specs.declared.answer.Refusal.TheVariants.{NoSuch}
use Rattle.ca_model.specs.declared.answer.Refusal.{Refusal}
use Rattle.ca_model.specs.declared.event.Event.TheVariants as events
use Rattle.ca_model.specs.declared.event.Event.{Event}
use Rattle.ca_model.specs.declared.mark.Mark.TheVariants as marks
use Rattle.ca_model.specs.declared.mark.Mark.{Mark}
use Rattle.ca_model.specs.declared.verb.Verb.TheVariants as verbs
use Rattle.ca_model.specs.declared.verb.Verb.{Verb}
use Rattle.ca_model.specs.machine.Around.{completions_to, cq_updates, Around, With_around, shared_in, updates_of}
use Rattle.ca_model.specs.machine.Completions.{flush_marks}
use Rattle.ca_model.specs.machine.Delivery.{Arrive, arrival_row, deliver_plan}
use Rattle.ca_model.specs.machine.Frame.{Afterwards}
use Rattle.ca_model.specs.machine.HostVerbs.{inject_plan}
use Rattle.ca_model.specs.machine.Plan.{Plan, Stuck, Look, Finish, Update, ◌:=◌, Write, Did, NotReady, Outcome}
use Rattle.ca_model.specs.machine.PostingVerbs.{Posted_send, after_flush, post_recv_plan, post_recv_refusals, post_send_plan, post_send_refusals, with_send, marks_of_flush}
use Rattle.ca_model.specs.machine.QueuePairVerbs.{With_present, beside, emptied_mailbox, emptied_updates, modify_qp_plan}
use Rattle.ca_model.specs.machine.Requester.{Performs, RequestTurn, Sends, Waits, packet_row, turn_of}
use Rattle.ca_model.specs.machine.Respond.{respond_refusals, respond_row, answer_turn}
use Rattle.ca_model.specs.machine.Row.{NotPossible, Effects, Row, Row_plan, plain_row}
use Rattle.ca_model.specs.machine.Run.{Follows, Ran, go_on, run_from}
use Rattle.ca_model.specs.machine.Sound.{IsQueueOf, IsSoundWorld, AreLimited, CanBeMade}
use Rattle.ca_model.specs.machine.Step.{plan, step, verb_plan}
use Rattle.ca_model.specs.machine.Timers.{after_timeout, timeout_refusals}
use Rattle.ca_model.specs.machine.Turns.{Fire, Leave_plan, Packet, Request_around, Respond_around, Timeout_around, has_room_for, packet_sent, reaches_peer, request_plan, respond_plan, sent_marks, timeout_plan, wake_plan}
use Rattle.ca_model.specs.machine.VerbAnswers.{Answer_plan, Unless_plan, of_change_refusals, Call, answer_mark, Refuse_plan}
use Rattle.ca_model.specs.machine.World.{Cq_of, Window_of, World, Queue_of, Mailbox_of, opening_world}
use Rattle.ca_wire.specs.Decoding.{packet_in}

abbrev U : World → List Mark → Type 0
U v ms = AreUsual ms

sent-usual : (q : QueuePair) (peer : Correspondent) (m : Mailbox) (lot : Lot) (o : Option Packet) → AreUsual (option_map_or (sent_marks q peer m lot) o [])
sent-usual q peer m lot None = record {}
sent-usual q peer m lot (Some x) = by (reaches_peer q peer m) (is_lost lot)
  where
    by : (b z : Bool) → AreUsual (if b
        then marks.Sent q.queue peer.queue (Some m.next) x.request x.bytes ∷ (if z then marks.Lost peer.queue (Some m.next) ∷ [] else [])
        else marks.Sent q.queue peer.queue None x.request x.bytes ∷ marks.Lost peer.queue None ∷ [])
    by true true = (record {}, (record {}, record {}))
    by true false = (record {}, record {})
    by false z = (record {}, (record {}, record {}))

leaves-usual : (c : Configuration) (w : World) (q : QueuePair) (peer : Correspondent) (lot : Lot) (row : Row) → RowDoes Usual row → Leads w U (Row_plan c row (Leave_plan q (around_in w q (shared_of w q)) peer (w.mailbox peer.queue) lot))
leaves-usual c w q peer lot row does = leads-row c w U Usual row (Leave_plan q (around_in w q (shared_of w q)) peer (w.mailbox peer.queue) lot) does
    (λ e cs ws usual aside. usual-append e.marks _ usual (sent-usual q peer (w.mailbox peer.queue) lot (packet_sent e)))

usual-request : (c : Configuration) (w : World) (name : QueueId) (lot : Lot) → Leads w U (request_plan c name lot)
usual-request c w name lot = leads-queue c w U name reasons.State (λ q. With_around q (λ a. Request_around c lot q a q.peer (turn_of q))) (λ q is. leads-around w U q (λ a. Request_around c lot q a q.peer (turn_of q)) (by q q.peer (turn_of q)))
  where
    by : (q : QueuePair) (peer : Option Correspondent) (turn : RequestTurn) → Leads w U (Request_around c lot q (around_in w q (shared_of w q)) peer turn)
    by q peer (Waits reason) = record {}
    by q peer (Performs n) = leads-operation c w U Usual q n (λ e changes writes. Finish (updates_of q (around_in w q (shared_of w q)) e ++ changes) writes e.marks) n.request.op (record {})
        (λ windows m refusal. operation-usual q (record q { windows = windows }) n m refusal) (λ e cs ws usual aside. usual)
    by q None (Sends n) = record {}
    by q (Some peer) (Sends n) = leaves-usual c w q peer lot (packet_row q (has_room_for q peer (w.mailbox peer.queue)) n) (packet-usual q (has_room_for q peer (w.mailbox peer.queue)) n)

turn-usual : (q : QueuePair) (a : Queued) → RowDoes Usual (answer_turn q a)
turn-usual q (queued.Ack psn) = plainly-usual _ (record {})
turn-usual q (queued.Rnr psn) = plainly-usual _ (record {})
turn-usual q (queued.Nak psn code) = plainly-usual _ (record {})
turn-usual q (queued.Read psn key address left first envelope duplicate) = record { denied = λ d. (record {}, flush-usual q); allowed = λ bytes refusal. (record {}, record {}) }
turn-usual q (queued.Atomic psn found duplicate) = plainly-usual _ (record {})

respond-usual : (room : Bool) (q : QueuePair) → RowDoes Usual (respond_row room q)
respond-usual room q = by (first_of (respond_refusals room q)) (slice_get q.responder.answers 0)
  where
    row : Option Reason → Option Queued → Row
    row (Some reason) answer = plain_row (NotPossible reason)
    row None None = plain_row (NotPossible reasons.Empty)
    row None (Some answer) = answer_turn q answer

    by : (r : Option Reason) (a : Option Queued) → RowDoes Usual (row r a)
    by (Some reason) answer = record { denied = λ d. record {}; allowed = λ bytes refusal. record {} }
    by None None = record { denied = λ d. record {}; allowed = λ bytes refusal. record {} }
    by None (Some answer) = turn-usual q answer

usual-respond : (c : Configuration) (w : World) (name : QueueId) (lot : Lot) → Leads w U (respond_plan c name lot)
usual-respond c w name lot = leads-queue c w U name reasons.State (λ q. With_around q (λ a. Respond_around c lot q a q.peer)) (λ q is. leads-around w U q (λ a. Respond_around c lot q a q.peer) (by q q.peer))
  where
    by : (q : QueuePair) (peer : Option Correspondent) → Leads w U (Respond_around c lot q (around_in w q (shared_of w q)) peer)
    by q None = leads-unless w U (respond_refusals true q) Stuck (Stuck reasons.Empty) (λ r. record {}) (record {})
    by q (Some peer) = leaves-usual c w q peer lot (respond_row (has_room_for q peer (w.mailbox peer.queue)) q) (respond-usual (has_room_for q peer (w.mailbox peer.queue)) q)

usual-timeout : (c : Configuration) (w : World) (name : QueueId) (hasten : Bool) → Leads w U (timeout_plan c name hasten)
usual-timeout c w name hasten = leads-queue c w U name reasons.State (λ q. Look (Mailbox_of name) (λ own. With_around q (λ a. Timeout_around hasten q own a q.peer))) (λ q is. leads-around w U q (λ a. Timeout_around hasten q (w.mailbox name) a q.peer) (by q q.peer))
  where
    fire : (q : QueuePair) (silent : Bool) → Leads w U (Fire hasten q (around_in w q (shared_of w q)) silent)
    fire q silent = leads-unless w U (timeout_refusals silent hasten q) Stuck
        (Finish (updates_of q (around_in w q (shared_of w q)) (after_timeout silent q)) [] (after_timeout silent q).marks) (λ r. record {}) (timeout-usual q silent)

    by : (q : QueuePair) (peer : Option Correspondent) → Leads w U (Timeout_around hasten q (w.mailbox name) (around_in w q (shared_of w q)) peer)
    by q None = leads-unless w U (timeout_refusals false hasten q) Stuck (Stuck reasons.Empty) (λ r. record {}) (record {})
    by q (Some peer) = fire q _

usual-wake : (c : Configuration) (w : World) (name : QueueId) → Leads w U (wake_plan c name)
usual-wake c w name = search rules

marks-usual : (q : QueuePair) → AreUsual (marks_of_flush q)
marks-usual q = by (state_eq q.state states.Error)
  where
    by : (b : Bool) → AreUsual (if b then flush_marks q else [])
    by true = flush-usual q
    by false = record {}

-- ---- verbs that flush

present-usual : (w : World) (call : Call) (s : Slot) (k : QueuePair → Plan) → ((q : QueuePair) → Leads w U (k q)) → Leads w U (With_present call s k)
present-usual w call s k more = by (w.queue (queue_of s))
  where
    plan : QueueSlot → Plan
    plan (NoQueue incarnation timers) = Refuse_plan call NoSuch
    plan (Present q) = k q

    by : (slot : QueueSlot) → Leads w U (plan slot)
    by (NoQueue incarnation timers) = (record {}, record {})
    by (Present q) = more q

answers-usual : (w : World) (call : Call) (tests : List (Bool × Refusal)) (answer : Answer) (changes : List Update) (ms : List Mark) → AreUsual ms → Leads w U (Unless_plan call tests (Answer_plan call answer changes ms))
answers-usual w call tests answer changes ms usual = leads-unless w U tests (Refuse_plan call) (Answer_plan call answer changes ms) (λ r. (record {}, record {})) (record {}, usual)

usual-post_send : (w : World) (call : Call) (s : Slot) (request : SendRequest) → Leads w U (post_send_plan call s request)
usual-post_send w call s request = present-usual w call s (λ q. posting q request.op) (λ q. on q request.op)
  where
    draws : QueuePair → Slot → Window → Plan
    draws q window x = Unless_plan call ((x.kind == 0, NoSuch) ∷ []) (Posted_send call q request (byte_drawn x) window ((Window_of window := after_draw x) ∷ []))

    posting : QueuePair → SendOp → Plan
    posting q (ops.Bind1 window region address count rights) = Look (Window_of (beside s window)) (draws q (beside s window))
    posting q op = Posted_send call q request None s []

    posts : (q : QueuePair) (drawn : Option ℕ) (window : Slot) (changes : List Update) → Leads w U (Posted_send call q request drawn window changes)
    posts q drawn window changes = answers-usual w call (post_send_refusals request q) (answers.Posted (option_map (key_at (window_index window)) drawn))
        ((Queue_of q.queue := Present (after_flush posted))
        ∷ (Cq_of (send_cq_of q) := option_map (after_puts (completions_to q q.send_cq (marks_of_flush posted))) (w.cq (send_cq_of q)))
        ∷ changes)
        (marks_of_flush posted) (marks-usual posted)
      where
        posted : QueuePair
        posted = with_send request drawn q

    on : (q : QueuePair) (op : SendOp) → Leads w U (posting q op)
    on q (ops.Bind1 window region address count rights) = leads-unless w U ((x.kind == 0, NoSuch) ∷ []) (Refuse_plan call)
        (Posted_send call q request (byte_drawn x) (beside s window) ((Window_of (beside s window) := after_draw x) ∷ [])) (λ r. (record {}, record {}))
        (posts q (byte_drawn x) (beside s window) ((Window_of (beside s window) := after_draw x) ∷ []))
      where
        x : Window
        x = w.window (beside s window)
    on q (ops.Bind2 window region low address count rights) = posts q None s []
    on q (ops.FastReg region low buffer address length rights pages) = posts q None s []
    on q (ops.LocalInv key) = posts q None s []
    on q (ops.Send list) = posts q None s []
    on q (ops.SendImm imm list) = posts q None s []
    on q (ops.SendInv key list) = posts q None s []
    on q (ops.Write address key list) = posts q None s []
    on q (ops.WriteImm address key imm list) = posts q None s []
    on q (ops.Read address key list) = posts q None s []
    on q (ops.CmpSwap address key compare swap list) = posts q None s []
    on q (ops.FetchAdd address key add list) = posts q None s []

usual-post_recv : (w : World) (call : Call) (s : Slot) (request : RecvRequest) → Leads w U (post_recv_plan call s request)
usual-post_recv w call s request = present-usual w call s _ (λ q. answers-usual w call (post_recv_refusals request q) (answers.Posted None)
    ((Queue_of q.queue := Present (after_flush (after q))) ∷ (Cq_of (recv_cq_of q) := option_map (after_puts (completions_to q q.recv_cq (marks_of_flush (after q)))) (w.cq (recv_cq_of q))) ∷ [])
    (marks_of_flush (after q)) (marks-usual (after q)))
  where
    after : QueuePair → QueuePair
    after q = record q { receives = option_map (with_item request) q.receives }

usual-modify : (c : Configuration) (w : World) (call : Call) (s : Slot) (change : state_change.Change) → Leads w U (modify_qp_plan c call s change)
usual-modify c w call s change = present-usual w call s _ (λ q. leads-around w U q (λ a. Unless_plan call (of_change_refusals (modify_refusals c q change)) (plan q a change))
    (answers-usual w call (of_change_refusals (modify_refusals c q change)) answers.Fine ((Queue_of q.queue := Present (queue_after_change change q)) ∷ updates q (around_in w q (shared_of w q)) change)
    (told q change) (tells q change)))
  where
    updates : QueuePair → Around → state_change.Change → List Update
    updates q a changes.Error = cq_updates q a (flush_marks q)
    updates q a changes.Reset =
        (Mailbox_of q.queue := emptied_mailbox (queue_after_change changes.Reset q).incarnation (w.mailbox q.queue)) ∷ emptied_updates q a
    updates q a (changes.Rtr peer incarnation psn mtu rnr_code) =
        (Mailbox_of q.queue := with_peer q.incarnation (Some (record { queue = peer; incarnation = incarnation })) (w.mailbox q.queue)) ∷ []
    updates q a change = []

    told : QueuePair → state_change.Change → List Mark
    told q changes.Error = flush_marks q
    told q change = []

    plan : QueuePair → Around → state_change.Change → Plan
    plan q a change = Answer_plan call answers.Fine ((Queue_of q.queue := Present (queue_after_change change q)) ∷ updates q a change) (told q change)

    tells : (q : QueuePair) (change : state_change.Change) → AreUsual (told q change)
    tells q changes.Error = flush-usual q
    tells q changes.Reset = record {}
    tells q changes.Init = record {}
    tells q (changes.Rtr peer incarnation psn mtu rnr_code) = record {}
    tells q (changes.Rts psn retry rnr_retry reads) = record {}
    tells q changes.Sqd = record {}
    tells q changes.Resume = record {}

-- usual marks pass in any past
usually : (w : World) (r : Past) (p : Plan) → Leads w U p → Leads w (λ v ms. each_mark completes_by_list r ms ≡ true) p
usually w r p leads = leads-weaker w U (λ v ms. each_mark completes_by_list r ms ≡ true) p (λ v ms usual. usual-passes ms usual r) leads

-- ---- packets that arrive

-- behind changes and marks that come first
listed-arrive : (c : Configuration) (r : Past) (w : World) (P : World → List Mark → Type 0) (q : QueuePair) (bytes : List ℕ) (envelope : Option ℕ) (pre : List Update) (ms : List Mark) → ListsAgree r w → IsThere w q
    → arrived_at_hand r q.queue ≡ result_ok (packet_in bytes) → ((v : World) (ns : List Mark) → each_mark completes_by_list r ns ≡ true → P v (ms ++ marks.Arrived q.queue envelope ∷ ns)) → Leads w P (Arrive c q bytes envelope pre ms)
listed-arrive c r w P q bytes envelope pre ms agree there arrived more = leads-around w P q (λ a. Row_plan c (arrival_row bytes envelope (shared_in a) q) (finish a))
    (leads-such c w P (Listed r) (arrival_row bytes envelope (shared_in a) q) (finish a) (arrival-listed r w q bytes envelope agree there arrived) (λ e cs ws listed aside. more _ e.marks listed))
  where
    a : Around
    a = around_in w q (shared_of w q)

    finish : Around → Effects → List Update → List Write → Plan
    finish a e more writes = Finish (pre ++ (updates_of q a e ++ more)) writes (ms ++ marks.Arrived q.queue envelope ∷ e.marks)

-- the marks of an event pass
abbrev Passes : Past → Event → World → List Mark → Type 0
Passes past event v ms = each_mark completes_by_list (at_begin event past) ms ≡ true

listed-deliver : (c : Configuration) (past : Past) (w : World) (name : QueueId) (index : ℕ) → IsSoundWorld c w → PathsAgree past w → ListsAgree past w → Leads w (Passes past (events.Deliver name index)) (deliver_plan c name index)
listed-deliver c past w name index sound paths agree = (λ has. lent (bytes_lent index (w.mailbox name)) refl, λ none. record {})
  where
    P : World → List Mark → Type 0
    P = Passes past (events.Deliver name index)

    m : Mailbox
    m = w.mailbox name

    at : List ℕ → QueueSlot → Plan
    at bytes (NoQueue incarnation timers) = Stuck reasons.NotKept
    at bytes (Present q) = Arrive c q bytes (Some index) ((Mailbox_of name := after_delivery index m) ∷ []) []

    under_way : Option (List ℕ) → Plan
    under_way None = Stuck reasons.NotKept
    under_way (Some bytes) = Look (Queue_of name) (at bytes)

    there : (bytes : List ℕ) → WereSent past name index bytes → (s : QueueSlot) → w.queue name ≡ s → IsQueueOf name s → Leads w P (at bytes s)
    there bytes sent (NoQueue incarnation timers) is one = record {}
    there bytes sent (Present q) is one = listed-arrive c r w P q bytes (Some index) ((Mailbox_of name := after_delivery index m) ∷ []) [] agree (is-there w name q is one)
        (ap (λ b. if b then packet_at r q.queue (Some index) else None) (queue-refl q.queue) ∙ packet) (λ v ns passes. passes)
      where
        r : Past
        r = after_mark (marks.Arrived q.queue (Some index)) (at_begin (events.Deliver name index) past)

        packet : packet_at r q.queue (Some index) ≡ result_ok (packet_in bytes)
        packet = ap (option_and_then packet_of) (ap (λ n. option_map (λ e. e.bytes) (envelope_sent past n index)) one.0 ∙ ap (option_map (λ e. e.bytes)) sent.sent ∙ ap Some sent.bytes)

    lent : (o : Option (List ℕ)) → bytes_lent index m ≡ o → Leads w P (under_way o)
    lent None is = record {}
    lent (Some bytes) is = there bytes (lent-sent c past w name index bytes sound paths is) (w.queue name) refl (sound.things (Queue_of name))

listed-inject : (c : Configuration) (past : Past) (w : World) (by : ℕ) (q : QueueId) (bytes : List ℕ) → IsSoundWorld c w → ListsAgree past w
    → Leads w (Passes past (events.Verb by (verbs.Inject q bytes))) (inject_plan c (call_of by (verbs.Inject q bytes)) q bytes)
listed-inject c past w by q bytes sound agree = at (w.queue q) refl (sound.things (Queue_of q))
  where
    call : Call
    call = call_of by (verbs.Inject q bytes)

    P : World → List Mark → Type 0
    P = Passes past (events.Verb by (verbs.Inject q bytes))

    arrives : QueueSlot → Plan
    arrives (NoQueue incarnation timers) = Refuse_plan call NoSuch
    arrives (Present p) = Arrive c p bytes None [] (answer_mark call answers.Fine ∷ [])

    at : (slot : QueueSlot) → w.queue q ≡ slot → IsQueueOf q slot → Leads w P (arrives slot)
    at (NoQueue incarnation timers) is one = refl
    at (Present p) is one = listed-arrive c r w P p bytes None [] (answer_mark call answers.Fine ∷ []) agree (is-there w q p is one)
        (ap (λ b. if b then packet_at r p.queue None else None) (queue-refl p.queue)) (λ v ns passes. passes)
      where
        r : Past
        r = after_mark (marks.Arrived p.queue None) (after_mark (answer_mark call answers.Fine) (at_begin (events.Verb by (verbs.Inject q bytes)) past))

-- ---- events

listed-verb : (c : Configuration) (past : Past) (w : World) (by : ℕ) (verb : Verb) → IsSoundWorld c w → ListsAgree past w → Leads w (Passes past (events.Verb by verb)) (verb_plan c (call_of by verb) verb)
listed-verb c past w by (verbs.AllocPd domain) sound agree = search rules
listed-verb c past w by (verbs.DeallocPd domain) sound agree = search rules
listed-verb c past w by (verbs.RegMr slot buffer offset count rights) sound agree = search rules
listed-verb c past w by (verbs.AllocMr slot pages) sound agree = search rules
listed-verb c past w by (verbs.DeregMr slot) sound agree = search rules
listed-verb c past w by (verbs.AllocMw slot kind) sound agree = search rules
listed-verb c past w by (verbs.DeallocMw slot) sound agree = search rules
listed-verb c past w by (verbs.CreateCq slot capacity) sound agree = search rules
listed-verb c past w by (verbs.DestroyCq slot) sound agree = search rules
listed-verb c past w by (verbs.CreateSrq slot depth) sound agree = search rules
listed-verb c past w by (verbs.DestroySrq slot) sound agree = search rules
listed-verb c past w by (verbs.CreateQp slot send_cq recv_cq send_depth recv_depth srq) sound agree = search rules
listed-verb c past w by (verbs.ModifyQp slot change) sound agree = usually w _ (verb_plan c (call_of by (verbs.ModifyQp slot change)) (verbs.ModifyQp slot change)) (usual-modify c w (call_of by (verbs.ModifyQp slot change)) slot change)
listed-verb c past w by (verbs.QueryQp slot) sound agree = search rules
listed-verb c past w by (verbs.DestroyQp slot) sound agree = search rules
listed-verb c past w by (verbs.PostSend slot request) sound agree = usually w _ (verb_plan c (call_of by (verbs.PostSend slot request)) (verbs.PostSend slot request)) (usual-post_send w (call_of by (verbs.PostSend slot request)) slot request)
listed-verb c past w by (verbs.PostRecv slot request) sound agree = usually w _ (verb_plan c (call_of by (verbs.PostRecv slot request)) (verbs.PostRecv slot request)) (usual-post_recv w (call_of by (verbs.PostRecv slot request)) slot request)
listed-verb c past w by (verbs.PostSrq slot request) sound agree = search rules
listed-verb c past w by (verbs.Poll slot n least) sound agree = leads-poll w (Passes past (events.Verb by (verbs.Poll slot n least))) (call_of by (verbs.Poll slot n least)) slot n least (λ r. refl) (λ cq us is freed. refl)
listed-verb c past w by (verbs.Store adapter buffer offset bytes) sound agree = search rules
listed-verb c past w by (verbs.Load adapter buffer offset count) sound agree = search rules
listed-verb c past w by (verbs.Inject queue bytes) sound agree = listed-inject c past w by queue bytes sound agree

listed-event : (c : Configuration) (past : Past) (w : World) (event : Event) → IsSoundWorld c w → PathsAgree past w → ListsAgree past w → Leads w (Passes past event) (plan c event)
listed-event c past w (events.Verb by verb) sound paths agree = (λ named. listed-verb c past w by verb sound agree, λ none. refl)
listed-event c past w (events.Request queue lot) sound paths agree = usually w _ (request_plan c queue lot) (usual-request c w queue lot)
listed-event c past w (events.Deliver queue index) sound paths agree = listed-deliver c past w queue index sound paths agree
listed-event c past w (events.Respond queue lot) sound paths agree = usually w _ (respond_plan c queue lot) (usual-respond c w queue lot)
listed-event c past w (events.Timeout queue hasten) sound paths agree = usually w _ (timeout_plan c queue hasten) (usual-timeout c w queue hasten)
listed-event c past w (events.RnrWake queue) sound paths agree = usually w _ (wake_plan c queue) (usual-wake c w queue)

event-listed : (c : Configuration) (past : Past) (w : World) (event : Event) → IsSoundWorld c w → PathsAgree past w → ListsAgree past w → Comes (Passes past event) (step c w event)
event-listed c past w event sound paths agree = comes w (Passes past event) (plan c event) (listed-event c past w event sound paths agree)

-- ---- histories

listed-along : (c : Configuration) (n : ℕ) (es : List EntryValue) (past : Past) (w : World) → AreLimited c → AllByRecursion (λ e. CanBeMade e.event) es → IsSoundWorld c w → HasRoom w → PathsAgree past w → ListsAgree past w
    → run_from c n w (map (λ e. e.event) es) ≡ Ok (map (λ e. e.marks) es) → each_entry completes_by_list (λ p. true) past es ≡ true
listed-along c n [] past w limited made sound room paths agree follows = refl
listed-along c n (e ∷ es) past w limited made sound room paths agree follows = whole (step c w e.event) (event-listed c past w e.event sound paths agree) (event-lists-agree c past w e.event sound room paths agree)
    (event-agrees c past w e.event sound paths) (event-sound c e.event w limited sound made.0) (event-room c e.event w sound room made.0) follows
    (λ v sound room paths agree told. listed-along c (suc n) es (after_entry e past) v limited made.1 sound room paths agree told)
  where
    Rest : Type 0
    Rest = (v : World) → IsSoundWorld c v → HasRoom v → PathsAgree (after_entry e past) v → ListsAgree (after_entry e past) v → run_from c (suc n) v (map (λ e. e.event) es) ≡ Ok (map (λ e. e.marks) es)
        → each_entry completes_by_list (λ p. true) (after_entry e past) es ≡ true

    stopped : Ran → Bool
    stopped (Ok told) = false
    stopped (Err stop) = true

    whole : (o : Outcome) → Comes (Passes past e.event) o → Comes (λ v ms. ListsAgree (at_end (after_marks ms (at_begin e.event past))) v) o → Comes (λ v ms. PathsAgree (after_marks ms (at_begin e.event past)) v) o
        → Afterwards (IsSoundWorld c) o → Afterwards HasRoom o → go_on n o (λ v. run_from c (suc n) v (map (λ e. e.event) es)) ≡ Ok (e.marks ∷ map (λ e. e.marks) es) → Rest
        → each_entry completes_by_list (λ p. true) past (e ∷ es) ≡ true
    whole (NotReady reason) passes lists paths sound room follows rest = absurd (true≢false (ap stopped follows))
    whole (Did v ms) passes lists paths sound room follows rest = at (first-marks ms e.marks (run_from c (suc n) v (map (λ e. e.event) es)) (map (λ e. e.marks) es) follows)
      where
        at : (ms ≡ e.marks) × (run_from c (suc n) v (map (λ e. e.event) es) ≡ Ok (map (λ e. e.marks) es)) → each_entry completes_by_list (λ p. true) past (e ∷ es) ≡ true
        at told = both-true _ _ (both-true _ true (subst (λ xs. each_mark completes_by_list (at_begin e.event past) xs ≡ true) told.0 passes) refl)
            (rest v sound room (subst (λ xs. PathsAgree (after_marks xs (at_begin e.event past)) v) told.0 paths) (subst (λ xs. ListsAgree (at_end (after_marks xs (at_begin e.event past))) v) told.0 lists) told.1)

pub complete-by-lists : (c : Configuration) (bytes : ByteMap) (es : List EntryValue) → AreLimited c → AllByRecursion (λ e. CanBeMade e.event) es → Follows c bytes es → DoCompleteByLists bytes es
complete-by-lists c bytes es limited made follows = listed-along c 0 es (opening_past bytes) (opening_world bytes) limited made (opening-sound c bytes) (opening-room bytes) (opening-agrees bytes) (opening-lists-agree bytes) follows
