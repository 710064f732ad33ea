-- Every event tells of the success of an atomic only where the link had accepted it. For proofs only.
use Rattle.std.proofs.Common.{◌≡◌, ℕ, zero, suc, ◌-◌, Bool, true, false, not, if◌then◌else◌, List, [], ◌∷◌, ◌++◌, take, length, Option, None, Some, IfSome, is_some, slice_get, refl, ap, sym, subst, ◌∙◌, arith, rules, true≢false}
use Rattle.std.proofs.lemmas.Option.{same_Some}
use Rattle.std.specs.List.{AllByRecursion}
use Rattle.std.specs.Option.{option_map_or, option_or}
use Rattle.ca_law_endings.proofs.LeadsLemmas.{comes, leads-around, leads-queue, leads-row, leads-unless, leads-weaker}
use Rattle.ca_law_endings.specs.Runs.{Comes, Leads}
use Rattle.ca_law_order.proofs.Polls.OperationLemmas.{leads-operation}
use Rattle.ca_law_order.proofs.Polls.PlanLemmas.{created, leads-create, leads-poll}
use Rattle.ca_law_order.proofs.Polls.PostingLemmas.{Refuses}
use Rattle.ca_base.specs.Configuration.{Configuration}
use Rattle.ca_base.specs.declared.change.Change as state_change
use Rattle.ca_base.specs.declared.change.Change.TheVariants as changes
use Rattle.ca_base.specs.declared.change.State.TheVariants as states
use Rattle.ca_base.specs.declared.completion.WcStatus.TheVariants.{LocalProtection, MemoryManagement}
use Rattle.ca_base.specs.declared.correspondent.Correspondent.{Correspondent}
use Rattle.ca_base.specs.declared.denied_ask.DeniedAsk.{DeniedAsk}
use Rattle.ca_base.specs.declared.lot.Lot.{Lot}
use Rattle.ca_base.specs.declared.refusals.OpRefusal.{OpRefusal}
use Rattle.ca_base.specs.declared.request.SendOp.{SendOp}
use Rattle.ca_base.specs.declared.request.SendOp.TheVariants as ops
use Rattle.ca_base.specs.declared.step.Reason.{Reason}
use Rattle.ca_base.specs.declared.step.Reason.TheVariants as reasons
use Rattle.ca_base.specs.objects.LocalRequest.{LocalMarks}
use Rattle.ca_base.specs.objects.Mailbox.{Mailbox, is_lost}
use Rattle.ca_base.specs.objects.QueuePair.{QueuePair, Present, incarnation_of}
use Rattle.ca_base.specs.objects.SharedReceives.{SharedReceives}
use Rattle.ca_base.specs.objects.StateTable.{state_eq}
use Rattle.ca_connection.specs.Layout.{Direction, is_atomic, is_data}
use Rattle.ca_connection.specs.Link.{Link}
use Rattle.ca_keys.specs.Refusals.{first_of}
use Rattle.ca_keys.specs.declared.access.Ask.{Ask}
use Rattle.ca_keys.specs.declared.grant.Grant.{Grant}
use Rattle.ca_keys.specs.declared.key.Key.{Key}
use Rattle.ca_keys.specs.declared.names.QueueId.{QueueId}
use Rattle.ca_law_world.proofs.Sound.GoodLemmas.{IsGood}
use Rattle.ca_law_world.proofs.Sound.PollLemmas.{all-taken}
use Rattle.ca_law_world.proofs.Sound.RespondLemmas.{arrival-good}
use Rattle.ca_law_world.proofs.Sound.SettledLemmas.{queue-path}
use Rattle.ca_law_world.proofs.Sound.TurnLemmas.{sending-parts, turn_from}
use Rattle.ca_law_world.proofs.Sound.WorldLemmas.{around_in, row-does, shared_of, sound-shared}
use Rattle.ca_law_world.specs.Steady.{IsSteadyWorld}
use Rattle.ca_model.specs.Requests.{is_local}
use Rattle.ca_model.specs.declared.answer.Refusal.TheVariants.{NoSuch}
use Rattle.ca_model.specs.declared.event.Event.{Event}
use Rattle.ca_model.specs.declared.event.Event.TheVariants as events
use Rattle.ca_model.specs.declared.mark.Mark.{Mark}
use Rattle.ca_model.specs.declared.mark.Mark.TheVariants as marks
use Rattle.ca_model.specs.declared.verb.Verb.{Verb}
use Rattle.ca_model.specs.declared.verb.Verb.TheVariants as verbs
use Rattle.ca_model.specs.machine.Acknowledgements.{with_requester}
use Rattle.ca_model.specs.machine.Around.{Around, With_around, shared_in, updates_of}
use Rattle.ca_model.specs.machine.Completions.{flush_marks, success_marks}
use Rattle.ca_model.specs.machine.Delivery.{arrival_row}
use Rattle.ca_model.specs.machine.Invariants.{IsSharedReceives, is_sending}
use Rattle.ca_model.specs.machine.LocalOperations.{local_marks, operation_effects}
use Rattle.ca_model.specs.machine.Numbering.{Numbered, begun_requests, has_psn, is_atomic_op, next_to_begin, request_at, unfinished_requests}
use Rattle.ca_model.specs.machine.Plan.{Finish, Stuck, Update, ◌:=◌, put_all, write_all}
use Rattle.ca_model.specs.machine.PostingVerbs.{marks_of_flush, with_send}
use Rattle.ca_model.specs.machine.QueuePairVerbs.{Creation, new_queue}
use Rattle.ca_base.specs.objects.CompletionQueue.{after_polls}
use Rattle.ca_keys.specs.Numbers.{queue_of}
use Rattle.ca_model.specs.declared.answer.Answer.{Answer}
use Rattle.ca_model.specs.machine.Requester.{Performs, RequestTurn, Sends, Waits, denied_list_effects, is_outstanding, is_too_much, local_reads, next_request, packet_asks, packet_row, sent_packet, turn_of, turn_refusals}
use Rattle.ca_model.specs.machine.Respond.{respond_refusals, respond_row}
use Rattle.ca_model.specs.machine.Row.{Does, Effects, NotPossible, Row, Row_plan}
use Rattle.ca_model.specs.machine.Sound.{IsSoundWorld}
use Rattle.ca_model.specs.machine.Step.{plan, step, verb_plan}
use Rattle.ca_model.specs.machine.Timers.{after_timeout, after_wake}
use Rattle.ca_model.specs.machine.Turns.{Leave_plan, Packet, Request_around, Respond_around, has_room_for, packet_sent, reaches_peer, request_plan, respond_plan, sent_marks, sent_updates, timeout_plan, wake_plan}
use Rattle.ca_model.specs.machine.VerbAnswers.{Call, answer_mark}
use Rattle.ca_model.specs.machine.World.{Cq_of, World}
use Rattle.ca_law_once.proofs.Ties.DeliverLemmas.{present-same}
use Rattle.ca_law_once.proofs.Ties.DeliverWalk.{Ends, ends-as, ends-do, row-ends}
use Rattle.ca_law_once.proofs.Ties.TimerLemmas.{IsFoundAt, found-at}
use Rattle.ca_law_once.specs.Ties.{IsTied, LeavesPairs, RequesterTie, SenderTie}
use Rattle.ca_law_once.specs.Ties.IsBefore.{sooner, unnamed}
use Rattle.ca_law_once.specs.Ties.IsOver.{later, vacant}
use Rattle.ca_law_once.specs.Ties.SenderTie.{before as sender_before, standing as sender_standing, gone as sender_gone}
use Rattle.ca_law_once.proofs.Rows.LayLemmas.{LiesAt, all-lie, atomic-of-work, unfinished-lie}
use Rattle.ca_law_once.proofs.Rows.RequestRowLemmas.{cond-row}
use Rattle.ca_law_once.specs.Moves.{EndingLeads}
use Rattle.ca_law_once.specs.Sides.{IsLaid, work_of}
use Rattle.ca_law_once.proofs.Success.ArrivalTells.{own-tell}
use Rattle.ca_law_once.proofs.Success.DeliverFound.{deliver-leads, sending-connected, shares}
use Rattle.ca_law_once.proofs.Success.FoundLemmas.{all-found, silent-found}
use Rattle.ca_law_once.proofs.Success.PutLemmas.{find-all}
use Rattle.ca_law_once.proofs.Success.ResponseTells.{retry-silent, success-tells}
use Rattle.ca_law_once.proofs.Success.SilentRows.{Silent, respond-silent}
use Rattle.ca_law_once.proofs.Success.TellLemmas.{AllTell, AreSilent, failure-silent, flush-silent, silent-append, silent-tell, tell-append}
use Rattle.ca_law_once.specs.Lists.{AtomicListsFit}
use Rattle.ca_law_once.specs.Success.{AreFound}
use Rattle.ca_law_once.proofs.Verbs.TurnWalks.{leads-timeout, leads-wake}
use Rattle.ca_law_once.proofs.Verbs.WalkLemmas.{leads-change, leads-dealloc, leads-destroy, leads-inject, leads-post, leads-receive, revocation, told_by, with_receive}
use Rattle.ca_law_once.specs.Agrees.{AgreesWith, AnswerAgrees, InjectAgrees, IsInLife}
use Rattle.ca_model.specs.machine.HostVerbs.{inject_plan}
use Rattle.ca_model.specs.declared.answer.Answer.TheVariants as answers

-- ---- what sends, and what it tells

sent-silent : (q : QueuePair) (peer : Correspondent) (m : Mailbox) (lot : Lot) (o : Option Packet) → AreSilent (option_map_or (sent_marks q peer m lot) o [])
sent-silent q peer m lot None = record {}
sent-silent q peer m lot (Some x) = by (reaches_peer q peer m)
  where
    lost : (b : Bool) → AreSilent (if b then marks.Lost peer.queue (Some m.next) ∷ [] else [])
    lost true = (refl, record {})
    lost false = record {}

    by : (b : Bool) → AreSilent (if b then marks.Sent q.queue peer.queue (Some m.next) x.request x.bytes ∷ (if is_lost lot then marks.Lost peer.queue (Some m.next) ∷ [] else [])
        else marks.Sent q.queue peer.queue None x.request x.bytes ∷ marks.Lost peer.queue None ∷ [])
    by true = (refl, lost (is_lost lot))
    by false = (refl, (refl, record {}))

reads-silent : (asks : List Ask) (bytes : List (List ℕ)) → AreSilent (local_reads asks bytes)
reads-silent [] bytes = record {}
reads-silent (ask ∷ asks) [] = record {}
reads-silent (ask ∷ asks) (b ∷ bytes) = (refl, reads-silent asks bytes)

packet-silent : (q : QueuePair) (room : Bool) (n : Numbered) → Silent (packet_row q room n)
packet-silent q room n = cond-row (λ e. AreSilent e.marks) (is_too_much q n) _ _ (record { denied = λ d. record {}; allowed = λ bytes refusal. record {} })
    (record { denied = λ d. denied d (is_outstanding q) room; allowed = λ bytes refusal. allowed bytes room })
  where
    denied : (d : DeniedAsk) (b z : Bool) → EndingLeads (λ e. AreSilent e.marks) (if b then NotPossible reasons.Outstanding else if not z then NotPossible reasons.NoRoom else Does (denied_list_effects q d))
    denied d true z = record {}
    denied d false true = (refl, failure-silent LocalProtection None q refl)
    denied d false false = record {}

    allowed : (bytes : List (List ℕ)) (z : Bool) → EndingLeads (λ e. AreSilent e.marks) (if not z then NotPossible reasons.NoRoom else Does (sent_packet q n bytes))
    allowed bytes true = reads-silent (packet_asks q n) bytes
    allowed bytes false = record {}

-- a silent row that may send
leads-silent : (c : Configuration) (w : World) (P : World → List Mark → Type 0) (q : QueuePair) (p : Correspondent) (lot : Lot) (row : Row) → Silent row → ((v : World) (ms : List Mark) → AreSilent ms → P v ms)
    → Leads w P (Row_plan c row (Leave_plan q (around_in w q (shared_of w q)) p (w.mailbox p.queue) lot))
leads-silent c w P q p lot row silent more = leads-row c w P (Ends row) row (Leave_plan q a p m lot) (row-ends row)
    (λ e cs ws ends aside. more (write_all ws (put_all (updates_of q a e ++ (cs ++ sends e)) w)) (e.marks ++ tells e)
    (silent-append e.marks (tells e) (ends-do (λ e. AreSilent e.marks) row e ends silent) (sent-silent q p m lot (packet_sent e))))
  where
    a : Around
    a = around_in w q (shared_of w q)

    m : Mailbox
    m = w.mailbox p.queue

    sends : Effects → List Update
    sends e = option_map_or (sent_updates q p m lot) (packet_sent e) []

    tells : Effects → List Mark
    tells e = option_map_or (sent_marks q p m lot) (packet_sent e) []

-- ---- local operations

local-silent : (q : QueuePair) (m : LocalMarks) → AreSilent (local_marks q m)
local-silent q m = by m.revoked m.granted
  where
    revoked : (o : Option Key) → AreSilent (option_map_or (λ key. marks.Revoked q.queue.adapter key ∷ []) o [])
    revoked None = record {}
    revoked (Some key) = (refl, record {})

    granted : (o : Option Grant) → AreSilent (option_map_or (λ g. marks.Granted g ∷ []) o [])
    granted None = record {}
    granted (Some g) = (refl, record {})

    by : (a : Option Key) (b : Option Grant) → AreSilent (option_map_or (λ key. marks.Revoked q.queue.adapter key ∷ []) a [] ++ option_map_or (λ g. marks.Granted g ∷ []) b [])
    by a b = silent-append (option_map_or (λ key. marks.Revoked q.queue.adapter key ∷ []) a []) (option_map_or (λ g. marks.Granted g ∷ []) b []) (revoked a) (granted b)

operation-tells : (q : QueuePair) (n : Numbered) (windows : ℕ) (m : LocalMarks) (refusal : Option OpRefusal) → AllTell q.queue (λ place. place ≡ n.place) (operation_effects q n (record q { windows = windows }) m refusal).marks
operation-tells q n windows m (Some cause) = silent-tell q.queue (λ place. place ≡ n.place) _ (failure-silent MemoryManagement (Some cause) q refl)
operation-tells q n windows m None = tell-append q.queue (λ place. place ≡ n.place) (local_marks q m) (success_marks q.queue n.place n.request) (silent-tell q.queue (λ place. place ≡ n.place) (local_marks q m) (local-silent q m))
    (success-tells q.queue (λ place. place ≡ n.place) n refl)

-- what is performed is local, and the next request
record IsNextLocal (q : QueuePair) (n : Numbered) : Type 0 where
  next : next_request q ≡ Some n
  local : is_local n.request.op ≡ true
  sending : is_sending q.state ≡ true

abbrev performed_by : RequestTurn → Option Numbered
performed_by (Performs n) = Some n
performed_by (Sends n) = None
performed_by (Waits reason) = None

next-local : (q : QueuePair) (n : Numbered) → turn_of q ≡ Performs n → IsNextLocal q n
next-local q n turn = by (first_of (turn_refusals q)) refl (next_request q) refl turn
  where
    by : (o : Option Reason) → first_of (turn_refusals q) ≡ o → (m : Option Numbered) → next_request q ≡ m → turn_from o m ≡ Performs n → IsNextLocal q n
    by (Some reason) is m next e = absurd (true≢false (sym (ap (λ t. is_some (performed_by t)) e)))
    by None is None next e = absurd (true≢false (sym (ap (λ t. is_some (performed_by t)) e)))
    by None is (Some m) next e = at (is_local m.request.op) refl e
      where
        at : (b : Bool) → is_local m.request.op ≡ b → (if b then Performs m else Sends m) ≡ Performs n → IsNextLocal q n
        at true local e = let same : m ≡ n = same_Some m n (ap performed_by e) in record {
          next = next ∙ ap (λ x. Some x) same;
          local = subst (λ (x : Numbered). is_local x.request.op ≡ true) same local;
          sending = (sending-parts q is).0;
        }
        at false local e = absurd (true≢false (sym (ap (λ t. is_some (performed_by t)) e)))

local-no-data : (op : SendOp) → is_local op ≡ true → is_data (work_of op) ≡ false
local-no-data (ops.Bind1 window region address length rights) is = refl
local-no-data (ops.Bind2 window region low address length rights) is = refl
local-no-data (ops.FastReg region low buffer address length rights pages) is = refl
local-no-data (ops.LocalInv key) is = refl
local-no-data (ops.Send list) is = absurd (true≢false (sym is))
local-no-data (ops.SendImm imm list) is = absurd (true≢false (sym is))
local-no-data (ops.SendInv key list) is = absurd (true≢false (sym is))
local-no-data (ops.Write address key list) is = absurd (true≢false (sym is))
local-no-data (ops.WriteImm address key imm list) is = absurd (true≢false (sym is))
local-no-data (ops.Read address key list) is = refl
local-no-data (ops.CmpSwap address key compare swap list) is = refl
local-no-data (ops.FetchAdd address key add list) is = refl

local-no-atomic : (op : SendOp) → is_local op ≡ true → is_atomic_op op ≡ false
local-no-atomic (ops.Bind1 window region address length rights) is = refl
local-no-atomic (ops.Bind2 window region low address length rights) is = refl
local-no-atomic (ops.FastReg region low buffer address length rights pages) is = refl
local-no-atomic (ops.LocalInv key) is = refl
local-no-atomic (ops.Send list) is = refl
local-no-atomic (ops.SendImm imm list) is = refl
local-no-atomic (ops.SendInv key list) is = refl
local-no-atomic (ops.Write address key list) is = refl
local-no-atomic (ops.WriteImm address key imm list) is = refl
local-no-atomic (ops.Read address key list) is = refl
local-no-atomic (ops.CmpSwap address key compare swap list) is = absurd (true≢false (sym is))
local-no-atomic (ops.FetchAdd address key add list) is = absurd (true≢false (sym is))

got-each : (P : Numbered → Type 0) (i : ℕ) (xs : List Numbered) → AllByRecursion P xs → IfSome (slice_get xs i) P
got-each P i [] all = record {}
got-each P zero (x ∷ xs) all = all.0
got-each P (suc i) (x ∷ xs) all = got-each P i xs all.1

next-lies : (d : Direction) (q : QueuePair) → IsLaid d q → IfSome (next_request q) (LiesAt d)
next-lies d q laid = by (request_at q.requester.cursor q) (find-all (LiesAt d) (has_psn q.requester.cursor) (begun_requests q) (all-taken (LiesAt d) (q.requester.next - q.requester.oldest) (unfinished_requests q) each))
  where
    each : AllByRecursion (LiesAt d) (unfinished_requests q)
    each = all-lie d q.requester.oldest (unfinished_requests q) (unfinished-lie d q laid)

    by : (o : Option Numbered) → IfSome o (LiesAt d) → IfSome (option_or o (next_to_begin q)) (LiesAt d)
    by None none = got-each (LiesAt d) (q.requester.next - q.requester.oldest) (unfinished_requests q) each
    by (Some n) at = at

-- ---- events

module _ (d : Direction) (s r : Correspondent) (c : Configuration) (w : World) (l : Link) (sound : IsSoundWorld c w) (steady : IsSteadyWorld w) (lists : AtomicListsFit w) (tied : IsTied d s r w l) where
  abbrev P : World → List Mark → Type 0
  P v ms = AgreesWith d s r w ms → AreFound d s w l ms ms

  quiet : (v : World) (ms : List Mark) → AreSilent ms → P v ms
  quiet v ms silent agrees = silent-found d s w l ms ms silent

  refused : (call : Call) → Refuses w P call
  refused call x = quiet w (answer_mark call (answers.Refused x) ∷ []) (refl, record {})

  -- an answer, and silent marks behind it
  answered : (call : Call) (answer : Answer) (v : World) (ms : List Mark) → AreSilent ms → P v (answer_mark call answer ∷ ms)
  answered call answer v ms silent = quiet v (answer_mark call answer ∷ ms) (refl, silent)

  -- in the life that sends, the requests of one that sends lie
  life-laid : (name : QueueId) (q : QueuePair) → IsFoundAt w name q → is_sending q.state ≡ true → IsInLife w s q.queue → IsLaid d q
  life-laid name q there sending life = by (subst (λ z. SenderTie d s r z (w.mailbox s.queue) l.requester l.responses) (ap w.queue (sym (queue-path q.queue s.queue life.named)) ∙ ap w.queue there.named ∙ there.is) tied.sender)
    where
      here : q.incarnation ≡ s.incarnation
      here = ap incarnation_of (sym there.is) ∙ ap (λ n. incarnation_of (w.queue n)) (sym there.named) ∙ life.incarnation

      by : SenderTie d s r (Present q) (w.mailbox s.queue) l.requester l.responses → IsLaid d q
      by (sender_before (sooner less) opens none) = absurd (omega (arith, less, here))
      by (sender_before (unnamed t is same nobody) opens none) =
          absurd (true≢false (sym (there.sound.connected (sending-connected q.state sending)) ∙ ap (λ (x : QueuePair). is_some x.peer) (present-same q t is) ∙ ap is_some nobody))
      by (sender_gone (later more) none) = absurd (omega (arith, more, here))
      by (sender_gone (vacant gone same) none) = absurd (true≢false gone)
      by (sender_standing t paired stood entries) = (subst (λ t. RequesterTie d t l.requester) (sym (present-same q t paired.present)) stood).laid sending

  performed : (name : QueueId) (q : QueuePair) (n : Numbered) (e : Effects) (v : World) → IsFoundAt w name q → turn_of q ≡ Performs n → AllTell q.queue (λ place. place ≡ n.place) e.marks → P v e.marks
  performed name q n e v there turn tell agrees = all-found d s w l e.marks q.queue (λ place. place ≡ n.place) (λ place is life. record { atomic = λ atomic. absurd (no-atomic place is life atomic); passed = λ bears. absurd (no-data place is life bears) }) e.marks tell
    where
      own : IsNextLocal q n
      own = next-local q n turn

      no-data : (place : ℕ) → place ≡ n.place → IsInLife w s q.queue → is_data (d.work place) ≡ true → ⊥
      no-data place is life bears = true≢false (sym bears ∙ ap (λ k. is_data (d.work k)) is ∙ ap is_data lies.work ∙ local-no-data n.request.op own.local)
        where
          lies : LiesAt d n
          lies = subst (λ o. IfSome o (LiesAt d)) own.next (next-lies d q (life-laid name q there own.sending life))

      no-atomic : (place : ℕ) → place ≡ n.place → IsInLife w s q.queue → is_atomic (d.work place) ≡ true → ⊥
      no-atomic place is life atomic = true≢false (sym atomic ∙ ap (λ k. is_atomic (d.work k)) is ∙ ap is_atomic lies.work ∙ sym (atomic-of-work n.request.op) ∙ local-no-atomic n.request.op own.local)
        where
          lies : LiesAt d n
          lies = subst (λ o. IfSome o (LiesAt d)) own.next (next-lies d q (life-laid name q there own.sending life))

  request-found-all : (name : QueueId) (lot : Lot) → Leads w P (request_plan c name lot)
  request-found-all name lot = leads-queue c w P name reasons.State (λ q. With_around q (λ a. Request_around c lot q a q.peer (turn_of q)))
      (λ q is. leads-around w P q (λ a. Request_around c lot q a q.peer (turn_of q)) (by q (found-at c w name q sound is) q.peer (turn_of q) refl))
    where
      by : (q : QueuePair) → IsFoundAt w name q → (peer : Option Correspondent) (turn : RequestTurn) → turn_of q ≡ turn → Leads w P (Request_around c lot q (around_in w q (shared_of w q)) peer turn)
      by q there peer (Waits reason) turn = record {}
      by q there peer (Performs n) turn = leads-operation c w P (λ e. AllTell q.queue (λ place. place ≡ n.place) e.marks) q n (λ e changes writes. Finish (updates_of q (around_in w q (shared_of w q)) e ++ changes) writes e.marks) n.request.op
          (record {}) (operation-tells q n) (λ e cs ws tell aside. performed name q n e (write_all ws (put_all (updates_of q (around_in w q (shared_of w q)) e ++ cs) w)) there turn tell)
      by q there None (Sends n) turn = record {}
      by q there (Some p) (Sends n) turn = leads-silent c w P q p lot (packet_row q (has_room_for q p (w.mailbox p.queue)) n) (packet-silent q (has_room_for q p (w.mailbox p.queue)) n) quiet

  respond-found-all : (name : QueueId) (lot : Lot) → Leads w P (respond_plan c name lot)
  respond-found-all name lot = leads-queue c w P name reasons.State (λ q. With_around q (λ a. Respond_around c lot q a q.peer))
      (λ q is. leads-around w P q (λ a. Respond_around c lot q a q.peer) (by q q.peer))
    where
      by : (q : QueuePair) (peer : Option Correspondent) → Leads w P (Respond_around c lot q (around_in w q (shared_of w q)) peer)
      by q None = leads-unless w P (respond_refusals true q) Stuck (Stuck reasons.Empty) (λ x. record {}) (record {})
      by q (Some p) = leads-silent c w P q p lot (respond_row (has_room_for q p (w.mailbox p.queue)) q) (respond-silent (has_room_for q p (w.mailbox p.queue)) q) quiet

  timeout-found-all : (name : QueueId) (hasten : Bool) → Leads w P (timeout_plan c name hasten)
  timeout-found-all name hasten = leads-timeout c w P name hasten sound (λ q silent v there sends replaces. quiet v (after_timeout silent q).marks
      (refl, retry-silent q.requester.una (with_requester (record q.requester { timers = suc q.requester.timers }) q)))

  wake-found-all : (name : QueueId) → Leads w P (wake_plan c name)
  wake-found-all name = leads-wake c w P name sound (λ q v there sends replaces. quiet v (after_wake q).marks (record {}))

  -- ---- verbs

  told-silent : (change : state_change.Change) (q : QueuePair) → AreSilent (told_by q change)
  told-silent changes.Error q = flush-silent q
  told-silent changes.Reset q = record {}
  told-silent changes.Init q = record {}
  told-silent (changes.Rtr peer incarnation psn mtu rnr_code) q = record {}
  told-silent (changes.Rts psn retry rnr_retry reads) q = record {}
  told-silent changes.Sqd q = record {}
  told-silent changes.Resume q = record {}

  flushed-silent : (q : QueuePair) → AreSilent (marks_of_flush q)
  flushed-silent q = by (state_eq q.state states.Error)
    where
      by : (b : Bool) → AreSilent (if b then flush_marks q else [])
      by true = flush-silent q
      by false = record {}

  revocation-silent : (adapter : ℕ) (o : Option Key) → AreSilent (revocation adapter o)
  revocation-silent adapter None = record {}
  revocation-silent adapter (Some key) = (refl, record {})

  -- verbs that change no queue pair tell of none
  aside-silent : (call : Call) (verb : Verb) → LeavesPairs verb → Leads w (λ v ms. AreSilent ms) (verb_plan c call verb)
  aside-silent call (verbs.AllocPd domain) aside = search rules
  aside-silent call (verbs.DeallocPd domain) aside = search rules
  aside-silent call (verbs.RegMr slot buffer offset count rights) aside = search rules
  aside-silent call (verbs.AllocMr slot pages) aside = search rules
  aside-silent call (verbs.DeregMr slot) aside = search rules
  aside-silent call (verbs.AllocMw slot kind) aside = search rules
  aside-silent call (verbs.CreateCq slot capacity) aside = search rules
  aside-silent call (verbs.DestroyCq slot) aside = search rules
  aside-silent call (verbs.CreateSrq slot depth) aside = search rules
  aside-silent call (verbs.DestroySrq slot) aside = search rules
  aside-silent call (verbs.QueryQp slot) aside = search rules
  aside-silent call (verbs.PostSrq slot request) aside = search rules
  aside-silent call (verbs.Store adapter buffer offset bytes) aside = search rules
  aside-silent call (verbs.Load adapter buffer offset count) aside = search rules
  aside-silent call (verbs.DeallocMw slot) aside = absurd aside
  aside-silent call (verbs.CreateQp slot send_cq recv_cq send_depth recv_depth srq) aside = absurd aside
  aside-silent call (verbs.ModifyQp slot change) aside = absurd aside
  aside-silent call (verbs.DestroyQp slot) aside = absurd aside
  aside-silent call (verbs.PostSend slot request) aside = absurd aside
  aside-silent call (verbs.PostRecv slot request) aside = absurd aside
  aside-silent call (verbs.Poll slot n least) aside = absurd aside
  aside-silent call (verbs.Inject queue bytes) aside = absurd aside

  aside-found : (call : Call) (verb : Verb) → LeavesPairs verb → Leads w P (verb_plan c call verb)
  aside-found call verb leaves = leads-weaker w (λ v ms. AreSilent ms) P (verb_plan c call verb) quiet (aside-silent call verb leaves)

  -- an injection at another queue pair tells of that one
  inject-found : (call : Call) (name : QueueId) (bytes : List ℕ) → call.verb ≡ verbs.Inject name bytes → Leads w P (inject_plan c call name bytes)
  inject-found call name bytes is = leads-inject c w P call name bytes sound (refused call) (λ q shared e v there same ends replaces agrees. (
    record {},
    (
      record {},
      all-found d s w l (answer_mark call answers.Fine ∷ marks.Arrived q.queue None ∷ e.marks) q.queue (λ place. Unit {0})
          (λ place one life. absurd (other q agrees there life)) e.marks (own q shared e there same ends),
    ),
  ))
    where
      other : (q : QueuePair) → AnswerAgrees d s r w call.verb answers.Fine → IsFoundAt w name q → IsInLife w s q.queue → ⊥
      other q agrees there life = let own : InjectAgrees s r w name = subst (λ verb. AnswerAgrees d s r w verb answers.Fine) is agrees in own.sender (subst (IsInLife w s) there.named life)

      own : (q : QueuePair) (shared : Option SharedReceives) (e : Effects) → IsFoundAt w name q → shared ≡ shared_in (around_in w q (shared_of w q)) → Ends (arrival_row bytes None shared q) e → AllTell q.queue (λ place. Unit {0}) e.marks
      own q shared e there same ends =
          let good : IsGood q e = ends-do (IsGood q) (arrival_row bytes None shared q) e ends (ends-as (IsGood q) (arrival_row bytes None shared q) (row-does q (arrival_row bytes None shared q)
          (arrival-good bytes None shared q there.sound (subst (λ o. IfSome o IsSharedReceives) (sym same) (shares (shared_of w q) (sound-shared c w q sound)))))) in
          own-tell q e.queue e.marks good.later.queue good.settled

  verb-found : (call : Call) (verb : Verb) → call.verb ≡ verb → Leads w P (verb_plan c call verb)
  verb-found call (verbs.ModifyQp slot change) own = leads-change c w P call slot change sound (refused call) (λ q v there among replaces. answered call answers.Fine v (told_by q change) (told-silent change q))
  verb-found call (verbs.CreateQp slot send_cq recv_cq send_depth recv_depth srq) own = leads-create c w P call x (refused call)
      (λ send recv shared sends receives. answered call (answers.Queue (queue_of x.slot).number (new_queue x (w.queue (queue_of x.slot))).incarnation) (put_all (created w x send recv shared) w) [] (record {}))
    where
      x : Creation
      x = record { slot = slot; send_cq = send_cq; recv_cq = recv_cq; send_depth = send_depth; recv_depth = recv_depth; srq = srq }
  verb-found call (verbs.DestroyQp slot) own = leads-destroy c w P call slot sound (refused call) (λ q v there replaces. answered call answers.Fine v [] (record {}))
  verb-found call (verbs.PostSend slot request) own = leads-post c w P call slot request sound (refused call)
      (λ q v drawn key there fails replaces. answered call (answers.Posted key) v (marks_of_flush (with_send request drawn q)) (flushed-silent (with_send request drawn q)))
  verb-found call (verbs.PostRecv slot request) own = leads-receive c w P call slot request sound (refused call)
      (λ q v there replaces. answered call (answers.Posted None) v (marks_of_flush (with_receive request q)) (flushed-silent (with_receive request q)))
  verb-found call (verbs.Poll slot n least) own = leads-poll w P call slot n least (refused call) (λ cq us is freed.
      answered call (answers.Polled (take n cq.waiting)) (put_all ((Cq_of slot := Some (after_polls (length (take n cq.waiting)) cq)) ∷ us) w) [] (record {}))
  verb-found call (verbs.DeallocMw slot) own = leads-dealloc w P call slot (refused call) (λ v o queue mail. answered call answers.Fine v (revocation slot.domain.adapter o) (revocation-silent slot.domain.adapter o))
      (λ name p v o is queue mail. answered call answers.Fine v (revocation slot.domain.adapter o) (revocation-silent slot.domain.adapter o))
  verb-found call (verbs.Inject name bytes) own = inject-found call name bytes own
  verb-found call (verbs.AllocPd domain) own = aside-found call (verbs.AllocPd domain) (record {})
  verb-found call (verbs.DeallocPd domain) own = aside-found call (verbs.DeallocPd domain) (record {})
  verb-found call (verbs.RegMr slot buffer offset count rights) own = aside-found call (verbs.RegMr slot buffer offset count rights) (record {})
  verb-found call (verbs.AllocMr slot pages) own = aside-found call (verbs.AllocMr slot pages) (record {})
  verb-found call (verbs.DeregMr slot) own = aside-found call (verbs.DeregMr slot) (record {})
  verb-found call (verbs.AllocMw slot kind) own = aside-found call (verbs.AllocMw slot kind) (record {})
  verb-found call (verbs.CreateCq slot capacity) own = aside-found call (verbs.CreateCq slot capacity) (record {})
  verb-found call (verbs.DestroyCq slot) own = aside-found call (verbs.DestroyCq slot) (record {})
  verb-found call (verbs.CreateSrq slot depth) own = aside-found call (verbs.CreateSrq slot depth) (record {})
  verb-found call (verbs.DestroySrq slot) own = aside-found call (verbs.DestroySrq slot) (record {})
  verb-found call (verbs.QueryQp slot) own = aside-found call (verbs.QueryQp slot) (record {})
  verb-found call (verbs.PostSrq slot request) own = aside-found call (verbs.PostSrq slot request) (record {})
  verb-found call (verbs.Store adapter buffer offset bytes) own = aside-found call (verbs.Store adapter buffer offset bytes) (record {})
  verb-found call (verbs.Load adapter buffer offset count) own = aside-found call (verbs.Load adapter buffer offset count) (record {})

  leads-found : (event : Event) → Leads w P (plan c event)
  leads-found (events.Verb by verb) = (λ named. verb-found (record { by = by; verb = verb }) verb refl, λ none. refused (record { by = by; verb = verb }) NoSuch)
  leads-found (events.Request name lot) = request-found-all name lot
  leads-found (events.Respond name lot) = respond-found-all name lot
  leads-found (events.Timeout name hasten) = timeout-found-all name hasten
  leads-found (events.RnrWake name) = wake-found-all name
  leads-found (events.Deliver name index) = leads-weaker w (λ v ms. AreFound d s w l ms ms) P (plan c (events.Deliver name index)) (λ v ms found agrees. found) (deliver-leads d s r c w l name index sound steady lists tied)

pub event-found : (d : Direction) (s r : Correspondent) (c : Configuration) (w : World) (l : Link) (event : Event) → IsSoundWorld c w → IsSteadyWorld w → AtomicListsFit w → IsTied d s r w l
    → Comes (λ v ms. AgreesWith d s r w ms → AreFound d s w l ms ms) (step c w event)
event-found d s r c w l event sound steady lists tied = comes w (λ v ms. AgreesWith d s r w ms → AreFound d s w l ms ms) (plan c event) (leads-found d s r c w l sound steady lists tied event)
