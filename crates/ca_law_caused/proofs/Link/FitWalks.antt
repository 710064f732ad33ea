-- Every event keeps it that READ responses under way fit. For proofs only.
use Rattle.std.proofs.Common.{◌≡◌, ℕ, inl, inr, ◌+◌, ◌%◌, ◌^◌, ◌≤◌, min, max, nat_le, Bool, true, false, not, if◌then◌else◌, List, [], ◌∷◌, length, map, take, Option, None, Some, is_some, slice_get, refl, ap, ap₂, sym, subst, ◌∙◌, arith, true≢false}
use Rattle.std.proofs.lemmas.Option.{same_Some}
use Rattle.ca_law_endings.proofs.InnerLemmas.{IsInner, arrival-inner, packet-inner, respond-inner, timeout-inner}
use Rattle.ca_law_endings.proofs.LeadsLemmas.{comes, leads-weaker}
use Rattle.ca_law_endings.specs.Agreement.{peer_in}
use Rattle.ca_law_endings.specs.Runs.{Comes, Leads}
use Rattle.ca_law_carried.proofs.Accesses.EndLemmas.{RowSees}
use Rattle.ca_law_order.proofs.Polls.PlanLemmas.{created, leads-create, leads-poll}
use Rattle.ca_base.specs.Configuration.{Configuration}
use Rattle.ca_base.specs.declared.change.Change.{Change}
use Rattle.ca_base.specs.declared.change.Change.TheVariants as changes
use Rattle.ca_base.specs.declared.change.State.{State}
use Rattle.ca_base.specs.declared.change.State.TheVariants as states
use Rattle.ca_base.specs.declared.correspondent.Correspondent.{Correspondent}
use Rattle.ca_base.specs.declared.lot.Lot.{Lot}
use Rattle.ca_base.specs.declared.queue_numbers.Queued.{Queued}
use Rattle.ca_base.specs.declared.queue_numbers.RequesterNumbers.{RequesterNumbers}
use Rattle.ca_base.specs.declared.queue_numbers.ResponderNumbers.{ResponderNumbers}
use Rattle.ca_base.specs.declared.step.Reason.TheVariants as reasons
use Rattle.ca_base.specs.declared.step.Sent.{Sent}
use Rattle.ca_base.specs.declared.step.Sent.TheVariants.{Silent, Spelt}
use Rattle.ca_base.specs.objects.CompletionQueue.{CompletionQueue, after_polls}
use Rattle.ca_base.specs.objects.Mailbox.{Mailbox, after_delivery, after_send, bytes_lent, later_than, with_peer}
use Rattle.ca_base.specs.objects.QueuePair.{QueuePair, QueueSlot, NoQueue, Present, correspondent_of, incarnation_of, is_present, with_all_flushed}
use Rattle.ca_base.specs.objects.SharedReceives.{SharedReceives}
use Rattle.ca_base.specs.objects.StateTable.{allowed_from, is_among, queue_after_change, state_eq}
use Rattle.ca_law_caused.proofs.Caused.SuchLemmas.{such-does}
use Rattle.ca_law_caused.proofs.Link.ArriveLemmas.{leads-delivery, leads-injection, leads-response}
use Rattle.ca_law_caused.proofs.Link.FaultLemmas.{none-at}
use Rattle.ca_law_caused.proofs.Link.FitLemmas.{FitsBytes, FitsRead, IsSender, IsUp, ReadsFit, SameMail, delivered-mail, fit-goes, fit-grown, fit-nobody, fit-same, named-up, request-fits, same-mail, tied-sender, una-is, una_of}
use Rattle.ca_law_caused.proofs.Link.RowLemmas.{such-leads, such-and}
use Rattle.ca_law_caused.proofs.Link.SightLemmas.{Reads, SaysRead, at_front, leads-sighted, respond-ends-none, respond-sees, unread}
use Rattle.ca_connection.proofs.LayoutLemmas.{names-one}
use Rattle.ca_connection.proofs.MoveLemmas.{reached-sound}
use Rattle.ca_connection.proofs.NumberLemmas.{widened-exact}
use Rattle.ca_connection.proofs.OnceLemmas.{law-numbers}
use Rattle.ca_connection.proofs.QueueLemmas.{queue-low}
use Rattle.ca_connection.specs.Invariant.{NumberFact, QueueFact, ReadsFrom}
use Rattle.ca_connection.specs.Layout.{Direction, HasNumber, bytes_left, segments, start}
use Rattle.ca_connection.specs.Limits.{most_outstanding}
use Rattle.ca_connection.specs.Link.{AtomicCompletion, Link, Requester, Responder, Response, number_of}
use Rattle.ca_connection.specs.Link.Response.{Data}
use Rattle.ca_connection.specs.Moves.{Reached, Takes}
use Rattle.ca_connection.specs.Moves.Takes.{drop as take_nothing, acknowledge as take_acknowledge, read as take_read, atomic as take_atomic}
use Rattle.ca_keys.specs.Equal.{queue_eq}
use Rattle.ca_keys.specs.Numbers.{queue_of}
use Rattle.ca_keys.specs.declared.names.QueueId.{QueueId}
use Rattle.ca_keys.specs.declared.names.Slot.{Slot}
use Rattle.ca_law_world.proofs.Sound.SettledLemmas.{queue-path, queue-refl}
use Rattle.ca_law_world.proofs.Sound.WorldLemmas.{EndingDoes}
use Rattle.ca_law_world.specs.Bindings.{IsBoundWorld}
use Rattle.ca_model.specs.Past.{with_at}
use Rattle.ca_model.specs.declared.answer.Answer.TheVariants as answers
use Rattle.ca_model.specs.declared.event.Event.{Event}
use Rattle.ca_model.specs.declared.event.Event.TheVariants as events
use Rattle.ca_model.specs.declared.mark.Mark.{Mark}
use Rattle.ca_model.specs.declared.mark.Mark.TheVariants as marks
use Rattle.ca_model.specs.declared.verb.Verb.{Verb}
use Rattle.ca_model.specs.declared.verb.Verb.TheVariants as verbs
use Rattle.ca_model.specs.machine.Delivery.{arrival_row}
use Rattle.ca_model.specs.machine.Invariants.{is_idle, is_sending}
use Rattle.ca_model.specs.machine.Numbering.{Numbered}
use Rattle.ca_model.specs.machine.Plan.{put_all}
use Rattle.ca_model.specs.machine.PostingVerbs.{after_flush, with_send}
use Rattle.ca_model.specs.machine.QueuePairVerbs.{Creation, new_queue}
use Rattle.ca_model.specs.machine.Requester.{denied_list_effects, is_outstanding, is_too_much, Sends, packet_row, sent_packet, turn_of}
use Rattle.ca_model.specs.machine.Respond.{respond_row}
use Rattle.ca_model.specs.machine.Row.{Does, Effects, Ending, NotPossible, Row}
use Rattle.ca_model.specs.machine.Seen.{sight_in}
use Rattle.ca_model.specs.machine.Sound.{IsSoundWorld}
use Rattle.ca_model.specs.machine.Step.{plan, step, verb_plan}
use Rattle.ca_model.specs.machine.Timers.{after_timeout, after_wake}
use Rattle.ca_model.specs.machine.Turns.{Packet, packet_sent, reaches_peer}
use Rattle.ca_model.specs.machine.VerbAnswers.{Call, answer_mark}
use Rattle.ca_model.specs.machine.World.{Cq_of, World, put}
use Rattle.ca_psn.specs.Psn.{widened}
use Rattle.ca_law_once.proofs.Ties.DeliverLemmas.{present-same}
use Rattle.ca_law_once.proofs.Ties.DeliverWalk.{Ends, Has, ends-as, ends-do}
use Rattle.ca_law_once.proofs.Ties.EntryLemmas.{EntryIs, IsLent, entry-at, lent-envelope}
use Rattle.ca_law_once.proofs.Ties.SendLemmas.{boxes_after, reaches-parts}
use Rattle.ca_law_once.proofs.Ties.TimerLemmas.{IsFoundAt}
use Rattle.ca_law_once.specs.Ties.{IsPaired, IsTied, LeavesPairs, MailFollows, ReceiverTie}
use Rattle.ca_law_once.specs.Ties.IsBefore.{sooner, unnamed}
use Rattle.ca_law_once.specs.Ties.IsOver.{later, vacant}
use Rattle.ca_law_once.specs.Ties.ReceiverTie.{before as receiver_before, standing as receiver_standing, gone as receiver_gone}
use Rattle.ca_law_once.proofs.Rows.ArrivalLemmas.{arrival-state, other-request-stays, response-taken}
use Rattle.ca_law_once.proofs.Rows.ForgetLemmas.{cond-ending}
use Rattle.ca_law_once.proofs.Rows.RequestRowLemmas.{cond-row}
use Rattle.ca_law_once.proofs.Rows.StayLemmas.{Stays, respond-stays}
use Rattle.ca_law_once.proofs.Rows.TurnLemmas.{packet-requests, packet-state, respond-state, timeout-requester, timeout-state}
use Rattle.ca_law_once.specs.Entries.{IfPacket, SpellsResponse, SpellsSomeRequest}
use Rattle.ca_law_once.specs.Moves.{EndingLeads, LeavesState, RowLeads, SendsRequests, SendsRequestsBy, StaysIn, TakesIn}
use Rattle.ca_law_once.specs.Sides.{IsLaid, requester_in, responder_in, said}
use Rattle.ca_law_once.proofs.Verbs.PairLemmas.{Replaces, replaces-changed, replaces-turned}
use Rattle.ca_law_once.proofs.Verbs.PollLemmas.{AreFreer, IsFreerSlot, poll-freers}
use Rattle.ca_law_once.proofs.Verbs.PollLemmas.IsFreerSlot.{freer, untouched}
use Rattle.ca_law_once.proofs.Verbs.TurnWalks.{leads-request, leads-timeout, leads-wake}
use Rattle.ca_law_once.proofs.Verbs.WalkLemmas.{SamePairs, box_after, leads-aside, leads-change, leads-dealloc, leads-destroy, leads-post, leads-receive, told_by, window_fewer, with_receive}
use Rattle.ca_law_once.specs.Agrees.{AgreesWith}
use Rattle.ca_law_once.specs.Beginnings.{AllBeginEmpty, SlotBeginsEmpty}

-- ---- numbers

-- what a requester takes leaves `una` where it was, or brings it on among what it sent
takes-una : (d : Direction) (a : Response) (w : ℕ) (r x : Requester) (c : Option AtomicCompletion) → Takes d a w r x c → r.una ≤ r.cursor → (r.una ≤ x.una) × (x.una ≤ r.cursor)
takes-una d a w r x c take_nothing low = (omega arith, low)
takes-una d a w r x c (take_acknowledge next cursor from upto passes below within) low = (from, omega (arith, below, within))
takes-una d a w r x c (take_read n left place is number read from below passes) low = (omega (arith, from), omega (arith, below))
takes-una d a w r x c (take_atomic n found place is number atomic from below passes) low = (omega (arith, from), omega (arith, below))

-- the bounds within which `una` goes on
abbrev Bounds : Direction → QueuePair → QueuePair → Type 0
Bounds d q p = (una_of d q ≤ una_of d p) × (una_of d p ≤ una_of d q + most_outstanding)

bounds-by : (d : Direction) (q p : QueuePair) → p.state ≡ q.state → (is_sending q.state ≡ true → (q.requester.una ≤ p.requester.una) × (p.requester.una ≤ q.requester.una + most_outstanding)) → Bounds d q p
bounds-by d q p same goes = subst (λ t. (una_of d q ≤ (if is_sending t then p.requester.una else start d)) × ((if is_sending t then p.requester.una else start d) ≤ una_of d q + most_outstanding)) (sym same) (by (is_sending q.state) refl)
  where
    by : (b : Bool) → is_sending q.state ≡ b → ((if b then q.requester.una else start d) ≤ (if b then p.requester.una else start d)) × ((if b then p.requester.una else start d) ≤ (if b then q.requester.una else start d) + most_outstanding)
    by true e = goes e
    by false e = (omega arith, omega arith)

-- a queue pair that is up was so before, in the same state and with `una` gone on
abbrev WasUp : Direction → Correspondent → Correspondent → QueuePair → QueuePair → Type 0
WasUp d s r q p = IsUp d s r (Present q) q × Bounds d q p

was-paired : (d : Direction) (s r : Correspondent) (q p : QueuePair) → p.incarnation ≡ q.incarnation → p.peer ≡ q.peer → p.responder.mtu ≡ q.responder.mtu → IsUp d s r (Present p) p → IsPaired d s r (Present q) q
was-paired d s r q p incarnation peer mtu up = record { present = refl; incarnation = sym incarnation ∙ up.paired.incarnation; names = sym peer ∙ up.paired.names; mtu = sym mtu ∙ up.paired.mtu }

was-up : (d : Direction) (s r : Correspondent) (q p : QueuePair) → p.incarnation ≡ q.incarnation → p.peer ≡ q.peer → p.responder.mtu ≡ q.responder.mtu → p.state ≡ q.state
    → (is_sending q.state ≡ true → (q.requester.una ≤ p.requester.una) × (p.requester.una ≤ q.requester.una + most_outstanding)) → IsUp d s r (Present p) p → WasUp d s r q p
was-up d s r q p incarnation peer mtu state goes up = (
  record { paired = was-paired d s r q p incarnation peer mtu up; well = ap (λ t. state_eq t states.Error) (sym state) ∙ up.well },
  bounds-by d q p state goes,
)

same-una : (m n : ℕ) → n ≡ m → (m ≤ n) × (n ≤ m + most_outstanding)
same-una m n e = (omega (arith, e), omega (arith, e))

-- it is in no Error, so it stays in its state
state-kept : (q : QueuePair) (e : Effects) → LeavesState q e → state_eq e.queue.state states.Error ≡ false → e.queue.state ≡ q.state
state-kept q e (inl same, mtu) well = same
state-kept q e (inr error, mtu) well = absurd (true≢false (sym (ap (λ t. state_eq t states.Error) error) ∙ well))

-- ---- rows that leave `una`

abbrev KeepsUna : QueuePair → Effects → Type 0
KeepsUna q e = state_eq e.queue.state states.Error ≡ false → e.queue.requester.una ≡ q.requester.una

packet-una : (q : QueuePair) (room : Bool) (n : Numbered) → RowLeads (KeepsUna q) (packet_row q room n)
packet-una q room n = cond-row P (is_too_much q n) _ _ (record { denied = λ d. record {}; allowed = λ bytes refusal. record {} }) (record {
  denied = λ d. cond-ending P (is_outstanding q) (NotPossible reasons.Outstanding) _ (record {}) (cond-ending P (not room) (NotPossible reasons.NoRoom) (Does (denied_list_effects q d)) (record {}) (λ well. absurd (true≢false well)));
  allowed = λ bytes refusal. cond-ending P (not room) (NotPossible reasons.NoRoom) (Does (sent_packet q n bytes)) (record {}) (λ well. refl);
})
  where
    P : Effects → Type 0
    P = KeepsUna q

stays-una : (q p : QueuePair) → Stays q p → p.requester.una ≡ q.requester.una
stays-una q p (Stays.still requester sends state mtu) = ap (λ (r : RequesterNumbers). r.una) requester
stays-una q p (Stays.ended una cursor error mtu) = una

-- ---- rows that are seen

sees-and : (c : Configuration) (w : World) (E F : Effects → Type 0) (row : Row) → RowSees (sight_in c w) E row → RowLeads F row → RowSees (sight_in c w) (λ e. E e × F e) row
sees-and c w E F row sees leads = record { denied = λ d is. by (row.denied d) (sees.denied d is) (leads.denied d); allowed = λ is refusal. by (row.allowed _ refusal) (sees.allowed is refusal) (leads.allowed _ refusal) }
  where
    by : (e : Ending) → EndingDoes E e → EndingLeads F e → EndingDoes (λ e. E e × F e) e
    by (NotPossible reason) one other = record {}
    by (Does e) one other = (one, other)

leads-and : (E F : Effects → Type 0) (row : Row) → RowLeads E row → RowLeads F row → RowLeads (λ e. E e × F e) row
leads-and E F row one other = record { denied = λ d. by (row.denied d) (one.denied d) (other.denied d); allowed = λ bytes refusal. by (row.allowed bytes refusal) (one.allowed bytes refusal) (other.allowed bytes refusal) }
  where
    by : (e : Ending) → EndingLeads E e → EndingLeads F e → EndingLeads (λ e. E e × F e) e
    by (NotPossible reason) one other = record {}
    by (Does e) one other = (one, other)

-- ---- the life that receives

record IsReceiving (d : Direction) (q : QueuePair) (l : Link) : Type 0 where
  responder : l.responder ≡ responder_in q
  mtu : q.responder.mtu ≡ d.mtu

receiver-so : (d : Direction) (s r : Correspondent) (slot : QueueSlot) (m : Mailbox) (l : Link) (q : QueuePair) → slot ≡ Present q → q.incarnation ≡ r.incarnation → q.peer ≡ Some s → ReceiverTie d s r slot m l.responder l.requests → IsReceiving d q l
receiver-so d s r slot m l q is same names (receiver_before (sooner less) opens none) = absurd (omega (arith, less, same, ap incarnation_of is))
receiver-so d s r slot m l q is same names (receiver_before (unnamed t at own none) opens empty) = absurd (true≢false (ap is_some (sym names ∙ ap (λ (x : QueuePair). x.peer) (present-same q t (sym is ∙ at)) ∙ none)))
receiver-so d s r slot m l q is same names (receiver_gone (later more) none) = absurd (omega (arith, more, same, ap incarnation_of is))
receiver-so d s r slot m l q is same names (receiver_gone (vacant none own) empty) = absurd (true≢false (sym (ap is_present is) ∙ none))
receiver-so d s r slot m l q is same names (receiver_standing t own responder entries) = record { responder = responder ∙ ap responder_in e; mtu = ap (λ (x : QueuePair). x.responder.mtu) (sym e) ∙ own.mtu }
  where
    e : t ≡ q
    e = present-same t q (sym own.present ∙ is)

-- the front of a response queue
record IsFront (xs : List Queued) (a : Queued) : Type 0 where
  rest : List Queued
  is : xs ≡ a ∷ rest

front-is : (xs : List Queued) (a : Queued) → slice_get xs 0 ≡ Some a → IsFront xs a
front-is [] a is = absurd (true≢false (sym (ap is_some is)))
front-is (x ∷ xs) a is = record { rest = xs; is = ap (λ y. y ∷ xs) (same_Some x a is) }

-- a READ response that it sends fits
response-fits : (d : Direction) (l : Link) (q : QueuePair) (una psn left : ℕ) (a : Queued) (bytes : List ℕ) → Reached d l → IsReceiving d q l → l.requester.una ≡ una → slice_get q.responder.answers 0 ≡ Some a → said a ≡ Data psn left
    → IfPacket bytes (SaysRead psn left q.responder.mtu) → FitsBytes d una bytes
response-fits d l q una psn left a bytes reached receiving same at is spells p decodes reads place number = subst (λ n. FitsRead d place n p) (sym exact) (record { count = says.count ∙ ap₂ (λ m b. min m b) receiving.mtu bytes_same; last = says.last ∙ ap₂ (λ b m. nat_le b m) bytes_same receiving.mtu })
  where
    first : IsFront q.responder.answers a
    first = front-is q.responder.answers a at

    queue : l.responder.queue ≡ Data psn left ∷ map said first.rest
    queue = ap (λ (x : Responder). x.queue) receiving.responder ∙ ap (map said) first.is ∙ ap (λ x. x ∷ map said first.rest) is

    fact : QueueFact d l.acceptances l.rejections l.responder.expected l.response_top (Data psn left ∷ map said first.rest)
    fact = subst (QueueFact d l.acceptances l.rejections l.responder.expected l.response_top) queue (reached-sound d l reached).queue

    held : ReadsFrom d psn left
    held = fact.1

    numbers : NumberFact (start d) l.requester.una l.requester.cursor l.response_top l.responder.expected l.request_top
    numbers = law-numbers d l reached

    says : SaysRead psn left q.responder.mtu p
    says = spells p decodes

    upto : max l.response_top (psn + segments d.mtu left) ≤ l.responder.expected
    upto = queue-low d l.acceptances l.rejections l.responder.expected (max l.response_top (psn + segments d.mtu left)) (map said first.rest) fact.2

    exact : widened una p.psn ≡ psn
    exact = ap (widened una) says.psn_is ∙ widened-exact una psn (omega (arith, numbers.low, same)) (omega (arith, fact.0, numbers.una_response_top, same)) (omega (arith, upto, numbers.expected_request_top, numbers.request_top_una, same))

    bytes_same : left ≡ bytes_left d place psn
    bytes_same = held.rest ∙ ap (λ p. bytes_left d p psn) (names-one d held.place place psn held.number (subst (HasNumber d place) exact number))

-- ---- events

is-rtr : (t : State) → is_among (states.Rtr ∷ []) t ≡ true → t ≡ states.Rtr
is-rtr states.Rtr is = refl
is-rtr states.Reset is = absurd (true≢false (sym is))
is-rtr states.Init is = absurd (true≢false (sym is))
is-rtr states.Rts is = absurd (true≢false (sym is))
is-rtr states.Sqd is = absurd (true≢false (sym is))
is-rtr states.Error is = absurd (true≢false (sym is))

is-rts : (t : State) → is_among (states.Rts ∷ []) t ≡ true → t ≡ states.Rts
is-rts states.Rts is = refl
is-rts states.Rtr is = absurd (true≢false (sym is))
is-rts states.Reset is = absurd (true≢false (sym is))
is-rts states.Init is = absurd (true≢false (sym is))
is-rts states.Sqd is = absurd (true≢false (sym is))
is-rts states.Error is = absurd (true≢false (sym is))

is-sqd : (t : State) → is_among (states.Sqd ∷ []) t ≡ true → t ≡ states.Sqd
is-sqd states.Sqd is = refl
is-sqd states.Rtr is = absurd (true≢false (sym is))
is-sqd states.Reset is = absurd (true≢false (sym is))
is-sqd states.Init is = absurd (true≢false (sym is))
is-sqd states.Rts is = absurd (true≢false (sym is))
is-sqd states.Error is = absurd (true≢false (sym is))

is-reset : (t : State) → is_among (states.Reset ∷ []) t ≡ true → is_idle t ≡ true
is-reset states.Reset is = refl
is-reset states.Init is = refl
is-reset states.Rtr is = absurd (true≢false (sym is))
is-reset states.Rts is = absurd (true≢false (sym is))
is-reset states.Sqd is = absurd (true≢false (sym is))
is-reset states.Error is = absurd (true≢false (sym is))

is-init : (t : State) → is_among (states.Init ∷ []) t ≡ true → is_idle t ≡ true
is-init states.Init is = refl
is-init states.Reset is = refl
is-init states.Rtr is = absurd (true≢false (sym is))
is-init states.Rts is = absurd (true≢false (sym is))
is-init states.Sqd is = absurd (true≢false (sym is))
is-init states.Error is = absurd (true≢false (sym is))

created-has : (w : World) (x : Creation) (send recv : CompletionQueue) (shared : Option SharedReceives)
    → Has (with_at queue_eq w.queue (queue_of x.slot) (Present (new_queue x (w.queue (queue_of x.slot))))) (with_at queue_eq w.mailbox (queue_of x.slot) (with_peer (new_queue x (w.queue (queue_of x.slot))).incarnation None (w.mailbox (queue_of x.slot))))
    (put_all (created w x send recv shared) w)
created-has w x send recv shared = by x.srq
  where
    by : (o : Option ℕ) → Has (with_at queue_eq w.queue (queue_of x.slot) (Present (new_queue (record x { srq = o }) (w.queue (queue_of x.slot)))))
        (with_at queue_eq w.mailbox (queue_of x.slot) (with_peer (new_queue (record x { srq = o }) (w.queue (queue_of x.slot))).incarnation None (w.mailbox (queue_of x.slot))))
        (put_all (created w (record x { srq = o }) send recv shared) w)
    by None = record { queue = refl; mailbox = refl }
    by (Some srq) = record { queue = refl; mailbox = refl }

module _ (c : Configuration) (d : Direction) (s r : Correspondent) (w : World) (l : Link) (sound : IsSoundWorld c w) (follow : MailFollows w) (empty : AllBeginEmpty w) (bound : IsBoundWorld w) (tied : IsTied d s r w l) (fits : ReadsFit d s r w) where
  abbrev P : World → List Mark → Type 0
  P v ms = AgreesWith d s r w ms → ReadsFit d s r v

  -- one slot and its mailbox are replaced; only those of the life that sends matter
  replaced : (v : World) (name : QueueId) (slot : QueueSlot) (box : Mailbox) → Replaces w name slot box v → (name ≡ s.queue → ReadsFit d s r v) → ReadsFit d s r v
  replaced v name slot box replaces here = by (queue_eq name s.queue) refl
    where
      by : (b : Bool) → queue_eq name s.queue ≡ b → ReadsFit d s r v
      by true e = here (queue-path name s.queue e)
      by false e = fit-same d s r w v (replaces.elsewhere s.queue e).0 (replaces.elsewhere s.queue e).1 fits

  -- the queue pair of the life that sends goes on
  goes : (v : World) (name : QueueId) (q p : QueuePair) (box : Mailbox) → w.queue name ≡ Present q → Replaces w name (Present p) box v → SameMail (w.mailbox name).envelopes box.envelopes → (name ≡ s.queue → IsUp d s r (Present p) p → WasUp d s r q p)
      → ReadsFit d s r v
  goes v name q p box is replaces mail more = replaced v name (Present p) box replaces (λ own. fit-goes c d s r w v l q p sound empty tied (ap w.queue (sym own) ∙ is) (replaces.here s.queue (at own)).0
      (subst (λ (b : Mailbox). SameMail (w.mailbox s.queue).envelopes b.envelopes) (sym (replaces.here s.queue (at own)).1) (subst (λ n. SameMail (w.mailbox n).envelopes box.envelopes) own mail)) (more own) fits)
    where
      at : name ≡ s.queue → queue_eq name s.queue ≡ true
      at own = ap (λ n. queue_eq n s.queue) own ∙ queue-refl s.queue

  -- nobody is there who has named a peer
  nobody : (v : World) (name : QueueId) (slot : QueueSlot) (box : Mailbox) → Replaces w name slot box v → ((t : QueuePair) → slot ≡ Present t → t.peer ≡ None) → ReadsFit d s r v
  nobody v name slot box replaces none = replaced v name slot box replaces (λ own. fit-nobody d s r v (λ q up. true≢false (ap is_some (sym up.paired.names ∙ none q (sym (replaces.here s.queue (ap (λ n. queue_eq n s.queue) own ∙ queue-refl s.queue)).0 ∙ up.paired.present)))))

  idle-none : (name : QueueId) (q : QueuePair) → w.queue name ≡ Present q → is_idle q.state ≡ true → q.peer ≡ None
  idle-none name q is idle = (subst SlotBeginsEmpty is (empty.queues name)).peer idle

  idle-empty : (name : QueueId) (q : QueuePair) → w.queue name ≡ Present q → is_idle q.state ≡ true → (w.mailbox name).envelopes ≡ []
  idle-empty name q is idle = empty.mail name (ap peer_in is ∙ idle-none name q is idle)

  paired-at : (name : QueueId) (q : QueuePair) → name ≡ s.queue → w.queue name ≡ Present q → IsPaired d s r (Present q) q → IsPaired d s r (w.queue s.queue) q
  paired-at name q own is paired = subst (λ x. IsPaired d s r x q) (sym (ap w.queue (sym own) ∙ is)) paired

  laid-at : (name : QueueId) (q : QueuePair) → name ≡ s.queue → w.queue name ≡ Present q → IsPaired d s r (Present q) q → is_sending q.state ≡ true → IsLaid d q
  laid-at name q own is paired = (tied-sender d s r w l q tied (paired-at name q own is paired)).requester.laid

  aside-fits : (call : Call) (verb : Verb) → LeavesPairs verb → Leads w P (verb_plan c call verb)
  aside-fits call verb aside = leads-weaker w (SamePairs w) P (verb_plan c call verb) (λ v ms same agrees. fit-same d s r w v (ap (λ (f : QueueId → QueueSlot). f s.queue) same.0) (ap (λ (f : QueueId → Mailbox). f s.queue) same.1) fits) (leads-aside c w call verb aside (refl, refl))

  change-fits : (call : Call) (slot : Slot) (change : Change) → call.verb ≡ verbs.ModifyQp slot change → Leads w P (verb_plan c call (verbs.ModifyQp slot change))
  change-fits call slot change verb = leads-change c w P call slot change sound (λ x agrees. fits) (λ q v there among replaces agrees. by change verb q v there among replaces agrees)
    where
      by : (change : Change) → call.verb ≡ verbs.ModifyQp slot change → (q : QueuePair) (v : World) → IsFoundAt w (queue_of slot) q → is_among (allowed_from change) q.state ≡ true
          → Replaces w (queue_of slot) (Present (queue_after_change change q)) (box_after change q (w.mailbox (queue_of slot))) v → AgreesWith d s r w (answer_mark call answers.Fine ∷ told_by q change) → ReadsFit d s r v
      by changes.Reset verb q v there among replaces agrees = nobody v (queue_of slot) _ _ replaces (λ t is. ap (λ (x : QueuePair). x.peer) (present-same t _ (sym is)))
      by changes.Init verb q v there among replaces agrees = nobody v (queue_of slot) _ _ replaces (λ t is. ap (λ (x : QueuePair). x.peer) (present-same t _ (sym is)) ∙ idle-none (queue_of slot) q there.is (is-reset q.state among))
      by (changes.Rtr peer incarnation psn mtu rnr_code) verb q v there among replaces agrees = replaced v (queue_of slot) _ _ replaces (λ own t up k m at. absurd (none-at (v.mailbox s.queue).envelopes k m
          (ap (λ (b : Mailbox). b.envelopes) (replaces.here s.queue (ap (λ n. queue_eq n s.queue) own ∙ queue-refl s.queue)).1 ∙ idle-empty (queue_of slot) q there.is (is-init q.state among)) at))
      by (changes.Rts psn retry rnr_retry reads) verb q v there among replaces agrees = goes v (queue_of slot) q _ _ there.is replaces (same-mail (w.mailbox (queue_of slot)).envelopes)
          (λ own up. (
            record { paired = was-paired d s r q _ refl refl refl up; well = ap (λ t. state_eq t states.Error) rtr },
            begins (ap (λ t. if is_sending t then q.requester.una else start d) rtr) (subst (λ x. AgreesWith d s r w (marks.Verb call.by x answers.Fine ∷ [])) verb agrees
                (record { named = ap (λ n. queue_eq n s.queue) own ∙ queue-refl s.queue; incarnation = ap incarnation_of there.is ∙ up.paired.incarnation })),
          ))
        where
          rtr : q.state ≡ states.Rtr
          rtr = is-rtr q.state among

          begins : una_of d q ≡ start d → psn ≡ d.psn → (una_of d q ≤ una_of d (queue_after_change (changes.Rts psn retry rnr_retry reads) q)) × (una_of d (queue_after_change (changes.Rts psn retry rnr_retry reads) q) ≤ una_of d q + most_outstanding)
          begins was same = (omega (arith, was, same), omega (arith, was, same))
      by changes.Sqd verb q v there among replaces agrees = goes v (queue_of slot) q _ _ there.is replaces (same-mail (w.mailbox (queue_of slot)).envelopes)
          (λ own up. (record { paired = was-paired d s r q _ refl refl refl up; well = ap (λ t. state_eq t states.Error) rts }, same-una (una_of d q) q.requester.una (sym (ap (λ t. if is_sending t then q.requester.una else start d) rts))))
        where
          rts : q.state ≡ states.Rts
          rts = is-rts q.state among
      by changes.Resume verb q v there among replaces agrees = goes v (queue_of slot) q _ _ there.is replaces (same-mail (w.mailbox (queue_of slot)).envelopes)
          (λ own up. (record { paired = was-paired d s r q _ refl refl refl up; well = ap (λ t. state_eq t states.Error) sqd }, same-una (una_of d q) q.requester.una (sym (ap (λ t. if is_sending t then q.requester.una else start d) sqd))))
        where
          sqd : q.state ≡ states.Sqd
          sqd = is-sqd q.state among
      by changes.Error verb q v there among replaces agrees = goes v (queue_of slot) q _ _ there.is replaces (same-mail (w.mailbox (queue_of slot)).envelopes) (λ own up. absurd (true≢false up.well))

  -- a queue pair that is flushed where it is in Error
  flushed-up : (q p : QueuePair) → p.incarnation ≡ q.incarnation → p.peer ≡ q.peer → p.responder ≡ q.responder → p.state ≡ q.state → p.requester ≡ q.requester → IsUp d s r (Present (after_flush p)) (after_flush p) → WasUp d s r q (after_flush p)
  flushed-up q p incarnation peer responder state requester = by (state_eq p.state states.Error)
    where
      by : (b : Bool) → IsUp d s r (Present (if b then with_all_flushed p else p)) (if b then with_all_flushed p else p) → WasUp d s r q (if b then with_all_flushed p else p)
      by true up = was-up d s r q (with_all_flushed p) incarnation peer (ap (λ (x : ResponderNumbers). x.mtu) responder) state (λ sending. same-una q.requester.una _ (ap (λ (x : RequesterNumbers). x.una) requester)) up
      by false up = was-up d s r q p incarnation peer (ap (λ (x : ResponderNumbers). x.mtu) responder) state (λ sending. same-una q.requester.una _ (ap (λ (x : RequesterNumbers). x.una) requester)) up

  freer-fits : (v : World) → AreFreer w v → ReadsFit d s r v
  freer-fits v freers = by (freers.queues s.queue)
    where
      mail : v.mailbox s.queue ≡ w.mailbox s.queue
      mail = ap (λ (f : QueueId → Mailbox). f s.queue) freers.mail

      by : IsFreerSlot (w.queue s.queue) (v.queue s.queue) → ReadsFit d s r v
      by (untouched same) = fit-same d s r w v same mail fits
      by (freer q p one other f) = fit-goes c d s r w v l q p sound empty tied one other (subst (λ (b : Mailbox). SameMail (w.mailbox s.queue).envelopes b.envelopes) (sym mail) (same-mail (w.mailbox s.queue).envelopes))
          (was-up d s r q p f.incarnation f.peer (ap (λ (x : ResponderNumbers). x.mtu) f.responder) f.state (λ sending. same-una q.requester.una p.requester.una (ap (λ (x : RequesterNumbers). x.una) f.requester))) fits

  inject-fits : (by : ℕ) (name : QueueId) (bytes : List ℕ) → Leads w P (verb_plan c (record { by = by; verb = verbs.Inject name bytes }) (verbs.Inject name bytes))
  inject-fits by name bytes = leads-injection c w P (λ bytes q e. IsInner q e) (record { by = by; verb = verbs.Inject name bytes }) name bytes sound (λ agrees. fits)
      (λ q shared there. such-does (IsInner q) _ (arrival-inner bytes None shared q))
      (λ q e v there inner has agrees. replaced v name (Present e.queue) (w.mailbox name) (replaces-turned w v name (Present e.queue) has)
      (λ own. fit-nobody d s r v (λ t up. agrees.sender (record {
        named = ap (λ n. queue_eq n s.queue) own ∙ queue-refl s.queue;
        incarnation = ap incarnation_of there.is ∙ sym inner.incarnation
            ∙ ap (λ (x : QueuePair). x.incarnation) (present-same e.queue t (sym ((replaces-turned w v name (Present e.queue) has).here s.queue (ap (λ n. queue_eq n s.queue) own ∙ queue-refl s.queue)).0 ∙ up.paired.present))
            ∙ up.paired.incarnation;
      }))))

  verb-fits : (by : ℕ) (verb : Verb) → Leads w P (verb_plan c (record { by = by; verb = verb }) verb)
  verb-fits by (verbs.ModifyQp slot change) = change-fits (record { by = by; verb = verbs.ModifyQp slot change }) slot change refl
  verb-fits by (verbs.CreateQp slot send_cq recv_cq send_depth recv_depth srq) = leads-create c w P (record { by = by; verb = verbs.CreateQp slot send_cq recv_cq send_depth recv_depth srq }) x (λ a agrees. fits)
      (λ send recv shared sends receives agrees. nobody (put_all (created w x send recv shared) w) (queue_of slot) (Present q) (with_peer q.incarnation None (w.mailbox (queue_of slot)))
      (replaces-changed w (put_all (created w x send recv shared) w) (queue_of slot) (Present q) (with_peer q.incarnation None (w.mailbox (queue_of slot))) (created-has w x send recv shared))
      (λ t is. ap (λ (y : QueuePair). y.peer) (present-same t q (sym is))))
    where
      x : Creation
      x = record { slot = slot; send_cq = send_cq; recv_cq = recv_cq; send_depth = send_depth; recv_depth = recv_depth; srq = srq }

      q : QueuePair
      q = new_queue x (w.queue (queue_of slot))
  verb-fits by (verbs.DestroyQp slot) = leads-destroy c w P (record { by = by; verb = verbs.DestroyQp slot }) slot sound (λ a agrees. fits)
      (λ q v there replaces agrees. nobody v (queue_of slot) (NoQueue q.incarnation q.requester.timers) _ replaces (λ t is. absurd (true≢false (sym (ap is_present is)))))
  verb-fits by (verbs.PostSend slot request) = leads-post c w P (record { by = by; verb = verbs.PostSend slot request }) slot request sound (λ a agrees. fits)
      (λ q v drawn key there fails replaces agrees. goes v (queue_of slot) q (after_flush (with_send request drawn q)) (w.mailbox (queue_of slot)) there.is replaces (same-mail (w.mailbox (queue_of slot)).envelopes) (λ own. flushed-up q (with_send request drawn q) refl refl refl refl refl))
  verb-fits by (verbs.PostRecv slot request) = leads-receive c w P (record { by = by; verb = verbs.PostRecv slot request }) slot request sound (λ a agrees. fits)
      (λ q v there replaces agrees. goes v (queue_of slot) q (after_flush (with_receive request q)) (w.mailbox (queue_of slot)) there.is replaces (same-mail (w.mailbox (queue_of slot)).envelopes) (λ own. flushed-up q (with_receive request q) refl refl refl refl refl))
  verb-fits by (verbs.Poll slot n least) = leads-poll w P (record { by = by; verb = verbs.Poll slot n least }) slot n least (λ a agrees. fits)
      (λ cq us is freed agrees. freer-fits (put_all us (put w (Cq_of slot) (Some (after_polls (length (take n cq.waiting)) cq)))) (poll-freers c w slot cq n us (put w (Cq_of slot) (Some (after_polls (length (take n cq.waiting)) cq))) sound is freed refl refl))
  verb-fits by (verbs.DeallocMw slot) = leads-dealloc w P (record { by = by; verb = verbs.DeallocMw slot }) slot (λ a agrees. fits)
      (λ v o queue mail agrees. fit-same d s r w v (ap (λ (f : QueueId → QueueSlot). f s.queue) queue) (ap (λ (f : QueueId → Mailbox). f s.queue) mail) fits)
      (λ name p v o is queue mail agrees. goes v name p (window_fewer p) (w.mailbox name) is (replaces-turned w v name (Present (window_fewer p)) (record { queue = queue; mailbox = mail })) (same-mail (w.mailbox name).envelopes)
      (λ own. was-up d s r p (window_fewer p) refl refl refl refl (λ sending. same-una p.requester.una p.requester.una refl)))
  verb-fits by (verbs.Inject name bytes) = inject-fits by name bytes
  verb-fits by (verbs.AllocPd domain) = aside-fits (record { by = by; verb = verbs.AllocPd domain }) (verbs.AllocPd domain) (record {})
  verb-fits by (verbs.DeallocPd domain) = aside-fits (record { by = by; verb = verbs.DeallocPd domain }) (verbs.DeallocPd domain) (record {})
  verb-fits by (verbs.RegMr slot buffer offset count rights) = aside-fits (record { by = by; verb = verbs.RegMr slot buffer offset count rights }) (verbs.RegMr slot buffer offset count rights) (record {})
  verb-fits by (verbs.AllocMr slot pages) = aside-fits (record { by = by; verb = verbs.AllocMr slot pages }) (verbs.AllocMr slot pages) (record {})
  verb-fits by (verbs.DeregMr slot) = aside-fits (record { by = by; verb = verbs.DeregMr slot }) (verbs.DeregMr slot) (record {})
  verb-fits by (verbs.AllocMw slot kind) = aside-fits (record { by = by; verb = verbs.AllocMw slot kind }) (verbs.AllocMw slot kind) (record {})
  verb-fits by (verbs.CreateCq slot capacity) = aside-fits (record { by = by; verb = verbs.CreateCq slot capacity }) (verbs.CreateCq slot capacity) (record {})
  verb-fits by (verbs.DestroyCq slot) = aside-fits (record { by = by; verb = verbs.DestroyCq slot }) (verbs.DestroyCq slot) (record {})
  verb-fits by (verbs.CreateSrq slot depth) = aside-fits (record { by = by; verb = verbs.CreateSrq slot depth }) (verbs.CreateSrq slot depth) (record {})
  verb-fits by (verbs.DestroySrq slot) = aside-fits (record { by = by; verb = verbs.DestroySrq slot }) (verbs.DestroySrq slot) (record {})
  verb-fits by (verbs.QueryQp slot) = aside-fits (record { by = by; verb = verbs.QueryQp slot }) (verbs.QueryQp slot) (record {})
  verb-fits by (verbs.PostSrq slot request) = aside-fits (record { by = by; verb = verbs.PostSrq slot request }) (verbs.PostSrq slot request) (record {})
  verb-fits by (verbs.Store adapter buffer offset bytes) = aside-fits (record { by = by; verb = verbs.Store adapter buffer offset bytes }) (verbs.Store adapter buffer offset bytes) (record {})
  verb-fits by (verbs.Load adapter buffer offset count) = aside-fits (record { by = by; verb = verbs.Load adapter buffer offset count }) (verbs.Load adapter buffer offset count) (record {})

  -- ---- deliveries

  -- how `una` goes on where the packet arrives at the life that sends
  abbrev Moves : QueueId → QueuePair → Effects → Type 0
  Moves name q e = name ≡ s.queue → IsPaired d s r (Present q) q → is_sending q.state ≡ true → (q.requester.una ≤ e.queue.requester.una) × (e.queue.requester.una ≤ q.requester.una + most_outstanding)

  arrival-moves : (name : QueueId) (index : ℕ) (bytes : List ℕ) (shared : Option SharedReceives) (q : QueuePair) → IsFoundAt w name q → bytes_lent index (w.mailbox name) ≡ Some bytes → RowLeads (Moves name q) (arrival_row bytes (Some index) shared q)
  arrival-moves name index bytes shared q there lends = record { denied = λ a. at (λ row. row.denied a) (λ E leads. leads.denied a); allowed = λ read refusal. at (λ row. row.allowed read refusal) (λ E leads. leads.allowed read refusal) }
    where
      row : Row
      row = arrival_row bytes (Some index) shared q

      low : q.requester.una ≤ q.requester.cursor
      low = there.sound.requester.outstanding

      at : (f : Row → Ending) → ((E : Effects → Type 0) → RowLeads E row → EndingLeads E (f row)) → EndingLeads (Moves name q) (f row)
      at f through = by (f row) (λ E leads. through E leads)
        where
          does : (e : Effects) → ((E : Effects → Type 0) → RowLeads E row → EndingLeads E (Does e)) → Moves name q e
          does e all own paired sending = entries (slice_get l.responses k) (subst (EntryIs SpellsResponse SpellsSomeRequest (slice_get l.responses k)) lent.brings (entry-at SpellsResponse SpellsSomeRequest box.envelopes l.responses k lent.envelope sender.entries lent.at))
            where
              box : Mailbox
              box = w.mailbox s.queue

              k : ℕ
              k = later_than index box

              lent : IsLent index box bytes
              lent = lent-envelope index box bytes (ap (λ n. bytes_lent index (w.mailbox n)) (sym own) ∙ lends)

              sender : IsSender d q box l
              sender = tied-sender d s r w l q tied (paired-at name q own there.is paired)

              requester : l.requester ≡ requester_in q
              requester = sender.requester.sending sending

              numbers : NumberFact (start d) l.requester.una l.requester.cursor l.response_top l.responder.expected l.request_top
              numbers = law-numbers d l tied.reached

              upto : q.requester.cursor ≤ q.requester.una + most_outstanding
              upto = omega (arith, numbers.cursor_request_top, numbers.request_top_una, ap (λ (x : Requester). x.una) requester, ap (λ (x : Requester). x.cursor) requester)

              stayed : StaysIn d (requester_in q) e → (q.requester.una ≤ e.queue.requester.una) × (e.queue.requester.una ≤ q.requester.una + most_outstanding)
              stayed does = same-una q.requester.una e.queue.requester.una (ap (λ (x : Requester). x.una) does.requester)

              taken : (a : Response) → TakesIn d a (widened q.requester.una (number_of a % 2 ^ 24)) (requester_in q) e → (q.requester.una ≤ e.queue.requester.una) × (e.queue.requester.una ≤ q.requester.una + most_outstanding)
              taken a does = let una = takes-una d a (widened q.requester.una (number_of a % 2 ^ 24)) (requester_in q) (requester_in e.queue) does.completion does.takes low in (una.0, omega (arith, una.1, upto))

              entries : (o : Option (Option Response)) → EntryIs SpellsResponse SpellsSomeRequest o bytes → (q.requester.una ≤ e.queue.requester.una) × (e.queue.requester.una ≤ q.requester.una + most_outstanding)
              entries None entry = absurd entry
              entries (Some None) entry = stayed (all (StaysIn d (requester_in q)) (other-request-stays d bytes (Some index) shared q sender.requester.laid entry))
              entries (Some (Some a)) entry = taken a (all (TakesIn d a (widened q.requester.una (number_of a % 2 ^ 24)) (requester_in q)) (response-taken d a bytes (Some index) shared q there.sound sender.requester.laid entry))

          by : (e : Ending) → ((E : Effects → Type 0) → RowLeads E row → EndingLeads E e) → EndingLeads (Moves name q) e
          by (NotPossible reason) all = record {}
          by (Does e) all = does e all

  deliver-fits : (name : QueueId) (index : ℕ) → Leads w P (plan c (events.Deliver name index))
  deliver-fits name index = leads-delivery c w P (λ bytes q e. (Moves name q e × LeavesState q e) × IsInner q e) name index sound
      (λ q bytes shared there lends. such-and (λ e. Moves name q e × LeavesState q e) (IsInner q) _
      (such-leads (λ e. Moves name q e × LeavesState q e) (λ e. Moves name q e × LeavesState q e) _ (λ e does. does)
      (leads-and (Moves name q) (LeavesState q) _ (arrival-moves name index bytes shared q there lends) (arrival-state bytes (Some index) shared q))) (arrival-inner bytes (Some index) shared q))
      (λ q bytes e v there lends does has agrees. goes v name q e.queue (after_delivery index (w.mailbox name)) there.is (replaces-changed w v name (Present e.queue) (after_delivery index (w.mailbox name)) has) (delivered-mail (later_than index (w.mailbox name)) (w.mailbox name).envelopes)
      (λ own up. was-up d s r q e.queue does.1.incarnation does.1.peer does.0.1.1 (state-kept q e does.0.1 up.well)
      (does.0.0 own (was-paired d s r q e.queue does.1.incarnation does.1.peer does.0.1.1 up)) up))

  -- ---- turns

  -- the peer of the life that sends is no queue pair of its own
  other-peer : queue_eq r.queue s.queue ≡ false
  other-peer = by (queue_eq r.queue s.queue) refl
    where
      by : (b : Bool) → queue_eq r.queue s.queue ≡ b → b ≡ false
      by true e = absurd (true≢false (sym (ap (λ n. queue_eq n r.queue) (sym (queue-path r.queue s.queue e)) ∙ queue-refl r.queue) ∙ tied.apart))
      by false e = refl

  own-box : (q : QueuePair) (p : Correspondent) (lot : Lot) (o : Option Packet) → queue_eq p.queue s.queue ≡ false → boxes_after w q p lot o s.queue ≡ w.mailbox s.queue
  own-box q p lot None other = refl
  own-box q p lot (Some x) other = by (reaches_peer q p (w.mailbox p.queue))
    where
      by : (b : Bool) → (if b then with_at queue_eq w.mailbox p.queue (after_send lot x.bytes (w.mailbox p.queue)) else w.mailbox) s.queue ≡ w.mailbox s.queue
      by true = ap (λ b. if b then after_send lot x.bytes (w.mailbox p.queue) else w.mailbox s.queue) other
      by false = refl

  turn-fits : (q : QueuePair) (p : Correspondent) (lot : Lot) (e : Effects) (v : World) → w.queue q.queue ≡ Present q → q.peer ≡ Some p → Has (with_at queue_eq w.queue q.queue (Present e.queue)) (boxes_after w q p lot (packet_sent e)) v
      → (q.queue ≡ s.queue → IsUp d s r (Present e.queue) e.queue → WasUp d s r q e.queue)
      → ((x : Packet) → packet_sent e ≡ Some x → reaches_peer q p (w.mailbox p.queue) ≡ true → p.queue ≡ s.queue → (t : QueuePair) → IsUp d s r (w.queue s.queue) t → FitsBytes d (una_of d t) x.bytes) → e.queue.peer ≡ q.peer → ReadsFit d s r v
  turn-fits q p lot e v is names has more new peer = by (queue_eq q.queue s.queue) refl
    where
      queue : (b : Bool) → queue_eq q.queue s.queue ≡ b → v.queue s.queue ≡ (if b then Present e.queue else w.queue s.queue)
      queue b at = ap (λ (f : QueueId → QueueSlot). f s.queue) has.queue ∙ ap (λ b. if b then Present e.queue else w.queue s.queue) at

      mailbox : v.mailbox s.queue ≡ boxes_after w q p lot (packet_sent e) s.queue
      mailbox = ap (λ (f : QueueId → Mailbox). f s.queue) has.mailbox

      others : queue_eq q.queue s.queue ≡ false → (o : Option Packet) → packet_sent e ≡ o → ReadsFit d s r v
      others at None none = fit-same d s r w v (queue false at) (mailbox ∙ ap (λ o. boxes_after w q p lot o s.queue) none) fits
      others at (Some x) some = reach (reaches_peer q p (w.mailbox p.queue)) refl (queue_eq p.queue s.queue) refl
        where
          boxes : Bool → QueueId → Mailbox
          boxes b = if b then with_at queue_eq w.mailbox p.queue (after_send lot x.bytes (w.mailbox p.queue)) else w.mailbox

          box : v.mailbox s.queue ≡ boxes (reaches_peer q p (w.mailbox p.queue)) s.queue
          box = mailbox ∙ ap (λ o. boxes_after w q p lot o s.queue) some

          reach : (b : Bool) → reaches_peer q p (w.mailbox p.queue) ≡ b → (z : Bool) → queue_eq p.queue s.queue ≡ z → ReadsFit d s r v
          reach false none z there = fit-same d s r w v (queue false at) (box ∙ ap (λ b. boxes b s.queue) none) fits
          reach true reaches false there = fit-same d s r w v (queue false at) (box ∙ ap (λ b. boxes b s.queue) reaches ∙ ap (λ b. if b then after_send lot x.bytes (w.mailbox p.queue) else w.mailbox s.queue) there) fits
          reach true reaches true there = fit-grown d s r w v lot x.bytes (queue false at)
              (box ∙ ap (λ b. boxes b s.queue) reaches ∙ ap (λ b. if b then after_send lot x.bytes (w.mailbox p.queue) else w.mailbox s.queue) there ∙ ap (λ n. after_send lot x.bytes (w.mailbox n)) (queue-path p.queue s.queue there))
              (λ t up. new x some reaches (queue-path p.queue s.queue there) t up) fits

      goes_on : queue_eq q.queue s.queue ≡ true → ReadsFit d s r v
      goes_on at t up k m there = fit-goes c d s r w v l q e.queue sound empty tied (ap w.queue (sym own) ∙ is) (queue true at)
          (subst (λ (b : Mailbox). SameMail (w.mailbox s.queue).envelopes b.envelopes) (sym (mailbox ∙ own-box q p lot (packet_sent e) away)) (same-mail (w.mailbox s.queue).envelopes)) (more own) fits t up k m there
        where
          own : q.queue ≡ s.queue
          own = queue-path q.queue s.queue at

          away : queue_eq p.queue s.queue ≡ false
          away = ap (λ (x : Correspondent). queue_eq x.queue s.queue) (same_Some p r (sym names ∙ sym peer ∙ ap (λ (x : QueuePair). x.peer) (present-same e.queue t (sym (queue true at) ∙ up.paired.present)) ∙ up.paired.names)) ∙ other-peer

      by : (b : Bool) → queue_eq q.queue s.queue ≡ b → ReadsFit d s r v
      by false at = others at (packet_sent e) refl
      by true at = goes_on at

  request-spelt : (e : Effects) (x : Packet) → SendsRequests e → packet_sent e ≡ Some x → SpellsSomeRequest x.bytes
  request-spelt e x sends is = by e.sent sends is
    where
      packet : Sent → Option Packet
      packet Silent = None
      packet (Spelt request) = Some (record { request = request; bytes = e.spelt })

      by : (t : Sent) → SendsRequestsBy e t → packet t ≡ Some x → SpellsSomeRequest x.bytes
      by Silent sends is = absurd (true≢false (sym (ap is_some is)))
      by (Spelt None) sends is = absurd sends
      by (Spelt (Some place)) sends is = subst (λ (y : Packet). SpellsSomeRequest y.bytes) (same_Some (record { request = Some place; bytes = e.spelt }) x is) sends

  request-fits-so : (name : QueueId) (lot : Lot) → Leads w P (plan c (events.Request name lot))
  request-fits-so name lot = leads-request c w P name lot sound
      (λ q p room n e v ms there names turn ends has agrees. sends q p room n e v there names turn ends has (ends-do (IsInner q) (packet_row q room n) e ends (ends-as (IsInner q) (packet_row q room n) (packet-inner q room n)))
      (ends-do (LeavesState q) (packet_row q room n) e ends (packet-state q room n)) (ends-do (KeepsUna q) (packet_row q room n) e ends (packet-una q room n)) (ends-do SendsRequests (packet_row q room n) e ends (packet-requests q room n there.sound turn)))
      (λ q n e v there turn quiet replaces agrees. goes v name q e.queue (w.mailbox name) there.is replaces (same-mail (w.mailbox name).envelopes)
      (λ own up. was-up d s r q e.queue quiet.incarnation quiet.peer quiet.state.1 (state-kept q e quiet.state up.well)
      (λ sending. same-una q.requester.una e.queue.requester.una (quiet.requester d (laid-at name q own there.is (was-paired d s r q e.queue quiet.incarnation quiet.peer quiet.state.1 up))).una) up))
    where
      sends : (q : QueuePair) (p : Correspondent) (room : Bool) (n : Numbered) (e : Effects) (v : World) → IsFoundAt w name q → q.peer ≡ Some p → turn_of q ≡ Sends n → Ends (packet_row q room n) e
          → Has (with_at queue_eq w.queue q.queue (Present e.queue)) (boxes_after w q p lot (packet_sent e)) v → IsInner q e → LeavesState q e → KeepsUna q e → SendsRequests e → ReadsFit d s r v
      sends q p room n e v there names turn ends has inner state una requests = turn-fits q p lot e v (ap w.queue there.named ∙ there.is) names has
          (λ own up. was-up d s r q e.queue inner.incarnation inner.peer state.1 (state-kept q e state up.well) (λ sending. same-una q.requester.una e.queue.requester.una (una up.well)) up)
          (λ x is reaches at t up. request-fits d (una_of d t) x.bytes (request-spelt e x requests is)) inner.peer

  -- a response that the life that receives sends to the one that sends
  responded : (q : QueuePair) (p : Correspondent) (e : Effects) (bytes : List ℕ) → IsFoundAt w q.queue q → q.peer ≡ Some p → reaches_peer q p (w.mailbox p.queue) ≡ true → p.queue ≡ s.queue → (t : QueuePair) → IsUp d s r (w.queue s.queue) t → Reads q e → bytes ≡ e.spelt
      → FitsBytes d (una_of d t) bytes
  responded q p e bytes there names reaches at t up reads is = subst (FitsBytes d (una_of d t)) (sym is) (by reads)
    where
      parts : ((w.mailbox s.queue).incarnation ≡ p.incarnation) × ((w.mailbox s.queue).peer ≡ Some (correspondent_of q))
      parts = subst (λ n. ((w.mailbox n).incarnation ≡ p.incarnation) × ((w.mailbox n).peer ≡ Some (correspondent_of q))) at (reaches-parts q p (w.mailbox p.queue) reaches)

      is_r : correspondent_of q ≡ r
      is_r = same_Some (correspondent_of q) r (sym parts.1 ∙ follow.peers s.queue ∙ ap peer_in up.paired.present ∙ up.paired.names)

      is_s : p ≡ s
      is_s = ap₂ (λ n i. record { queue = n; incarnation = i }) at (sym parts.0 ∙ follow.owners s.queue ∙ ap incarnation_of up.paired.present ∙ up.paired.incarnation)

      receiving : IsReceiving d q l
      receiving = receiver-so d s r (w.queue r.queue) (w.mailbox r.queue) l q (ap (λ (x : Correspondent). w.queue x.queue) (sym is_r) ∙ there.is) (ap (λ (x : Correspondent). x.incarnation) is_r) (names ∙ ap (λ x. Some x) is_s) tied.receiver

      una : l.requester.una ≡ una_of d t
      una = una-is d t l.requester (tied-sender d s r w l t tied up.paired).requester up.well (named-up d s r w t empty up.paired)

      by : Reads q e → FitsBytes d (una_of d t) e.spelt
      by (unread not_read) = λ f decodes reads. absurd (true≢false (sym reads ∙ not_read f decodes))
      by (at_front psn left a first says spells) = response-fits d l q (una_of d t) psn left a e.spelt tied.reached receiving una first says spells

  response-spelt : (e : Effects) (x : Packet) → packet_sent e ≡ Some x → x.bytes ≡ e.spelt
  response-spelt e x is = by e.sent is
    where
      packet : Sent → Option Packet
      packet Silent = None
      packet (Spelt request) = Some (record { request = request; bytes = e.spelt })

      by : (t : Sent) → packet t ≡ Some x → x.bytes ≡ e.spelt
      by Silent is = absurd (true≢false (sym (ap is_some is)))
      by (Spelt request) is = ap (λ (y : Packet). y.bytes) (sym (same_Some (record { request = request; bytes = e.spelt }) x is))

  respond-fits : (name : QueueId) (lot : Lot) → Leads w P (plan c (events.Respond name lot))
  respond-fits name lot = leads-response c w P (λ q e. Reads q e × (Stays q e.queue × (LeavesState q e × IsInner q e))) name lot sound
      (λ q room there finish more. leads-sighted c w P (λ e. Reads q e × (Stays q e.queue × (LeavesState q e × IsInner q e))) (respond_row room q) finish (respond-ends-none room q)
      (sees-and c w (Reads q) (λ e. Stays q e.queue × (LeavesState q e × IsInner q e)) (respond_row room q) (respond-sees c w q sound bound there.sound room)
      (leads-and (λ e. Stays q e.queue) (λ e. LeavesState q e × IsInner q e) (respond_row room q) (respond-stays room q) (leads-and (LeavesState q) (IsInner q) (respond_row room q) (respond-state q room) (ends-as (IsInner q) (respond_row room q) (respond-inner room q)))))
      (λ e ws does. more e [] ws does (record {})))
      (λ q p e v there names does has agrees. turn-fits q p lot e v (ap w.queue there.named ∙ there.is) names has
      (λ own up. was-up d s r q e.queue does.1.1.1.incarnation does.1.1.1.peer does.1.1.0.1 (state-kept q e does.1.1.0 up.well) (λ sending. same-una q.requester.una e.queue.requester.una (stays-una q e.queue does.1.0)) up)
      (λ x is reaches at t up. responded q p e x.bytes (record { is = ap w.queue there.named ∙ there.is; named = refl; sound = there.sound }) names reaches at t up does.0 (response-spelt e x is)) does.1.1.1.peer)

  event-fits : (event : Event) → Leads w P (plan c event)
  event-fits (events.Verb by verb) = (λ named. verb-fits by verb, λ none agrees. fits)
  event-fits (events.Request name lot) = request-fits-so name lot
  event-fits (events.Respond name lot) = respond-fits name lot
  event-fits (events.Deliver name index) = deliver-fits name index
  event-fits (events.Timeout name hasten) = leads-timeout c w P name hasten sound (λ q silent v there sends replaces agrees. goes v name q (after_timeout silent q).queue (w.mailbox name) there.is replaces (same-mail (w.mailbox name).envelopes)
      (λ own up. was-up d s r q (after_timeout silent q).queue (timeout-inner q silent).incarnation (timeout-inner q silent).peer (timeout-state silent q).1 (state-kept q (after_timeout silent q) (timeout-state silent q) up.well)
      (λ sending. same-una q.requester.una (after_timeout silent q).queue.requester.una (timeout-requester d silent q there.sound (laid-at name q own there.is
      (was-paired d s r q (after_timeout silent q).queue (timeout-inner q silent).incarnation (timeout-inner q silent).peer (timeout-state silent q).1 up))).una) up))
  event-fits (events.RnrWake name) = leads-wake c w P name sound (λ q v there sends replaces agrees. goes v name q (after_wake q).queue (w.mailbox name) there.is replaces (same-mail (w.mailbox name).envelopes)
      (λ own. was-up d s r q (after_wake q).queue refl refl refl refl (λ sending. same-una q.requester.una q.requester.una refl)))

pub event-reads-fit : (c : Configuration) (d : Direction) (s r : Correspondent) (w : World) (l : Link) (event : Event) → IsSoundWorld c w → MailFollows w → AllBeginEmpty w → IsBoundWorld w → IsTied d s r w l → ReadsFit d s r w
    → Comes (λ v ms. AgreesWith d s r w ms → ReadsFit d s r v) (step c w event)
event-reads-fit c d s r w l event sound follow empty bound tied fits = comes w (λ v ms. AgreesWith d s r w ms → ReadsFit d s r v) (plan c event) (event-fits c d s r w l sound follow empty bound tied fits event)
