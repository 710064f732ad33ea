-- The turns of requester and responder keep a world tied to a calm link. For proofs only.
use Rattle.std.proofs.Common.{◌≡◌, ℕ, Bool, true, false, if◌then◌else◌, not, List, [], ◌∷◌, ◌++◌, Option, None, Some, is_some, inl, refl, ap, sym, subst, ◌∙◌, true≢false}
use Rattle.std.specs.Option.{option_map_or}
use Rattle.ca_law_endings.proofs.InnerLemmas.{IsInner, packet-inner, respond-inner}
use Rattle.ca_law_endings.proofs.LeadsLemmas.{AreAside, comes, leads-around, leads-queue, leads-unless}
use Rattle.ca_law_endings.specs.Runs.{Comes, Leads}
use Rattle.ca_law_order.proofs.Polls.OperationLemmas.{leads-operation}
use Rattle.ca_base.specs.Configuration.{Configuration}
use Rattle.ca_base.specs.declared.correspondent.Correspondent.{Correspondent}
use Rattle.ca_base.specs.declared.lot.Lot.{Lot}
use Rattle.ca_base.specs.declared.lot.Lot.TheVariants.{Pass}
use Rattle.ca_base.specs.declared.refusals.OpRefusal.{OpRefusal}
use Rattle.ca_base.specs.declared.step.Reason.TheVariants as reasons
use Rattle.ca_base.specs.declared.step.Sent.{Sent}
use Rattle.ca_base.specs.declared.step.Sent.TheVariants.{Silent, Spelt}
use Rattle.ca_base.specs.objects.LocalRequest.{LocalMarks}
use Rattle.ca_base.specs.objects.Mailbox.{Mailbox}
use Rattle.ca_base.specs.objects.QueuePair.{QueuePair, Present}
use Rattle.ca_connection.specs.Layout.{Direction}
use Rattle.ca_connection.specs.Link.{Link}
use Rattle.ca_connection.specs.Calm.{CalmLink}
use Rattle.ca_keys.specs.Equal.{queue_eq}
use Rattle.ca_keys.specs.Refusals.{first_of}
use Rattle.ca_keys.specs.declared.names.QueueId.{QueueId}
use Rattle.ca_law_world.proofs.Sound.SettledLemmas.{queue-path}
use Rattle.ca_law_world.proofs.Sound.TurnLemmas.{sending-parts, sends-parts}
use Rattle.ca_law_world.proofs.Sound.WorldLemmas.{around_in, shared_of}
use Rattle.ca_model.specs.Past.{with_at}
use Rattle.ca_model.specs.declared.event.Event.TheVariants as events
use Rattle.ca_model.specs.declared.mark.Mark.{Mark}
use Rattle.ca_model.specs.declared.mark.Mark.TheVariants as marks
use Rattle.ca_model.specs.machine.Around.{With_around, updates_of}
use Rattle.ca_model.specs.machine.Invariants.{is_sending}
use Rattle.ca_model.specs.machine.LocalOperations.{operation_effects}
use Rattle.ca_model.specs.machine.Numbering.{Numbered}
use Rattle.ca_model.specs.machine.Plan.{Finish, Stuck, Update, Write, put_all, write_all}
use Rattle.ca_model.specs.machine.Requester.{Performs, RequestTurn, Sends, Waits, denied_list_effects, is_outstanding, is_too_much, next_request, packet_row, sent_packet, turn_of, turn_refusals}
use Rattle.ca_model.specs.machine.Respond.{respond_refusals, respond_row}
use Rattle.ca_model.specs.machine.Row.{Does, Effects, NotPossible, Row, queue_and_marks}
use Rattle.ca_model.specs.machine.Sound.{IsSoundWorld}
use Rattle.ca_model.specs.machine.Step.{step}
use Rattle.ca_model.specs.machine.Turns.{Packet, Request_around, Respond_around, has_room_for, packet_sent, reaches_peer, request_plan, respond_plan, sent_marks}
use Rattle.ca_model.specs.machine.World.{Mailbox_of, World}
use Rattle.ca_law_lossless.proofs.AnswerRows.{respond-calmly}
use Rattle.ca_law_lossless.specs.Standing.{IsNoRnrNak, RespondsCalmly}
use Rattle.ca_law_once.proofs.Ties.DeliverLemmas.{present-same}
use Rattle.ca_law_once.proofs.Ties.DeliverTies.{other-name}
use Rattle.ca_law_once.proofs.Ties.DeliverWalk.{Ends, Has, ends-as, ends-do, has-aside, has-turn, has-writes, puts-append}
use Rattle.ca_law_once.proofs.Ties.SendLemmas.{boxes_after, leads-left}
use Rattle.ca_law_once.proofs.Ties.SentTies.{not-before, not-over}
use Rattle.ca_law_once.proofs.Ties.TimerLemmas.{IsFoundAt, found-at}
use Rattle.ca_law_once.specs.Ties.{IsTied, MailFollows, ReceiverTie, SenderTie}
use Rattle.ca_law_once.specs.Ties.ReceiverTie.{before as receiver_before, standing as receiver_standing, gone as receiver_gone}
use Rattle.ca_law_once.specs.Ties.SenderTie.{before as sender_before, standing as sender_standing, gone as sender_gone}
use Rattle.ca_law_lossless.proofs.EndLemmas.{SameLife, unpaired-before, unpaired-over}
use Rattle.ca_law_lossless.proofs.QuietCalm.{IsCalmTurn, turn-calm}
use Rattle.ca_law_lossless.proofs.SentCalm.{IsCalmlySent, has_r, mtu_r, receiver-requests, receiver-responds, receiver-unpaired, sender-requests, sender-responds, sender-unpaired, third}
use Rattle.ca_law_lossless.specs.CalmEvents.{AreCalm}
use Rattle.ca_law_lossless.specs.CalmTies.{CalmAfter, IsCalmlyTied}
use Rattle.ca_law_once.proofs.Rows.ForgetLemmas.{Forgets, cond-ending, packet-forgets}
use Rattle.ca_law_once.proofs.Rows.ForgetLemmas.Forgets.{stays}
use Rattle.ca_law_once.proofs.Rows.OperationLemmas.{operation-forgets}
use Rattle.ca_law_once.proofs.Rows.PacketRowLemmas.{packet-row}
use Rattle.ca_law_once.proofs.Rows.RequestRowLemmas.{cond-row}
use Rattle.ca_law_once.proofs.Rows.StayLemmas.{Stays, respond-stays}
use Rattle.ca_law_once.proofs.Rows.StayLemmas.Stays.{still, ended}
use Rattle.ca_law_once.proofs.Rows.TurnLemmas.{operation-state, packet-requests, packet-state, respond-responses, respond-state}
use Rattle.ca_law_once.specs.Moves.{IsRequestTurn, LeavesState, RequestTurnBy, RowLeads, SendsRequests, SendsRequestsBy, SendsResponses}
use Rattle.ca_law_once.specs.Sides.{IsLaid, requester_in}
use Rattle.ca_law_once.proofs.Verbs.PairLemmas.{replaces-turned}

-- ---- what is sent in calm weather

calm-tail : (ms ns : List Mark) → AreCalm (ms ++ ns) → AreCalm ns
calm-tail [] ns calm = calm
calm-tail (m ∷ ms) ns calm = calm-tail ms ns calm.1

-- a packet that is sent has a path, and is no RNR NAK
sent-calmly : (q : QueuePair) (p : Correspondent) (m : Mailbox) (x : Packet) → AreCalm (sent_marks q p m Pass x) → (reaches_peer q p m ≡ true) × IsNoRnrNak x.bytes
sent-calmly q p m x calm = by (reaches_peer q p m) calm
  where
    by : (b : Bool) → AreCalm (if b then marks.Sent q.queue p.queue (Some m.next) x.request x.bytes ∷ [] else marks.Sent q.queue p.queue None x.request x.bytes ∷ marks.Lost p.queue None ∷ []) → (b ≡ true) × IsNoRnrNak x.bytes
    by true calm = (refl, calm.0)
    by false calm = absurd calm.1.0

turn-sent : (w : World) (q : QueuePair) (p : Correspondent) (e : Effects) (request : Option ℕ) (ms : List Mark) → e.sent ≡ Spelt request → ms ≡ e.marks ++ option_map_or (sent_marks q p (w.mailbox p.queue) Pass) (packet_sent e) [] → AreCalm ms
    → (reaches_peer q p (w.mailbox p.queue) ≡ true) × IsNoRnrNak e.spelt
turn-sent w q p e request ms is are calm = sent-calmly q p (w.mailbox p.queue) (record { request = request; bytes = e.spelt })
    (subst (λ o. AreCalm (option_map_or (sent_marks q p (w.mailbox p.queue) Pass) (packet o) [])) is
    (calm-tail e.marks (option_map_or (sent_marks q p (w.mailbox p.queue) Pass) (packet_sent e) []) (subst AreCalm are calm)))
  where
    packet : Sent → Option Packet
    packet Silent = None
    packet (Spelt request) = Some (record { request = request; bytes = e.spelt })

-- the mailboxes after a turn, by what it sent
silent-boxes : (w : World) (q : QueuePair) (p : Correspondent) (lot : Lot) (e : Effects) → e.sent ≡ Silent → boxes_after w q p lot (packet_sent e) ≡ w.mailbox
silent-boxes w q p lot e is = ap (λ o. boxes_after w q p lot (packet o)) is
  where
    packet : Sent → Option Packet
    packet Silent = None
    packet (Spelt request) = Some (record { request = request; bytes = e.spelt })

spelt-boxes : (w : World) (q : QueuePair) (p : Correspondent) (lot : Lot) (e : Effects) (request : Option ℕ) → e.sent ≡ Spelt request
    → boxes_after w q p lot (packet_sent e) ≡ boxes_after w q p lot (Some (record { request = request; bytes = e.spelt }))
spelt-boxes w q p lot e request is = ap (λ o. boxes_after w q p lot (packet o)) is
  where
    packet : Sent → Option Packet
    packet Silent = None
    packet (Spelt request) = Some (record { request = request; bytes = e.spelt })

-- ---- turns that send nothing

abbrev is_spelt : Sent → Bool
is_spelt Silent = false
is_spelt (Spelt request) = true

-- a turn of the requester that sends nothing leaves its numbers
packet-numbers : (q : QueuePair) (room : Bool) (n : Numbered) → RowLeads (λ e. e.sent ≡ Silent → requester_in e.queue ≡ requester_in q) (packet_row q room n)
packet-numbers q room n = cond-row P (is_too_much q n) _ _ (record { denied = λ d. record {}; allowed = λ bytes refusal. record {} }) (record {
  denied = λ d. cond-ending P (is_outstanding q) (NotPossible reasons.Outstanding) _ (record {}) (cond-ending P (not room) (NotPossible reasons.NoRoom) (Does (denied_list_effects q d)) (record {}) (λ none. refl));
  allowed = λ bytes refusal. cond-ending P (not room) (NotPossible reasons.NoRoom) (Does (sent_packet q n bytes)) (record {}) (λ none. absurd (true≢false (ap is_spelt none)));
})
  where
    P : Effects → Type 0
    P e = e.sent ≡ Silent → requester_in e.queue ≡ requester_in q

operation-turn : (q : QueuePair) (n : Numbered) (windows : ℕ) (m : LocalMarks) (refusal : Option OpRefusal) → IsCalmTurn q (operation_effects q n (record q { windows = windows }) m refusal)
operation-turn q n windows m refusal = record {
  life = life refusal;
  state = operation-state q n windows m refusal;
  numbers = numbers refusal;
  forgets = operation-forgets q n windows m refusal;
  flag = λ none. flag refusal;
}
  where
    life : (refusal : Option OpRefusal) → SameLife q (operation_effects q n (record q { windows = windows }) m refusal).queue
    life None = record { incarnation = refl; peer = refl; mtu = refl }
    life (Some cause) = record { incarnation = refl; peer = refl; mtu = refl }

    numbers : (refusal : Option OpRefusal) → requester_in (operation_effects q n (record q { windows = windows }) m refusal).queue ≡ requester_in q
    numbers None = refl
    numbers (Some cause) = refl

    flag : (refusal : Option OpRefusal) → (operation_effects q n (record q { windows = windows }) m refusal).queue.responder.nak_sent ≡ q.responder.nak_sent
    flag None = refl
    flag (Some cause) = refl

nothing-turn : (q : QueuePair) → IsCalmTurn q (queue_and_marks q [])
nothing-turn q = record {
  life = record { incarnation = refl; peer = refl; mtu = refl };
  state = (inl refl, refl);
  numbers = refl;
  forgets = stays (record { responder = refl; saved = refl; state = refl });
  flag = λ none. refl;
}

-- ---- the two lives by name

module _ (d : Direction) (s r : Correspondent) (c : Configuration) (w : World) (l : Link) (k : CalmLink) (name : QueueId) (sound : IsSoundWorld c w) (follows : MailFollows w) (tied : IsTied d s r w l) (calmly : IsCalmlyTied d s r w k) where
  receiver-tie : (q : QueuePair) → IsFoundAt w name q → queue_eq name r.queue ≡ true → ReceiverTie d s r (Present q) (w.mailbox r.queue) l.responder l.requests
  receiver-tie q there here = subst (λ z. ReceiverTie d s r z (w.mailbox r.queue) l.responder l.requests) (ap w.queue (sym (queue-path name r.queue here)) ∙ there.is) tied.receiver

  sender-tie : (q : QueuePair) → IsFoundAt w name q → queue_eq name s.queue ≡ true → SenderTie d s r (Present q) (w.mailbox s.queue) l.requester l.responses
  sender-tie q there here = subst (λ z. SenderTie d s r z (w.mailbox s.queue) l.requester l.responses) (ap w.queue (sym (queue-path name s.queue here)) ∙ there.is) tied.sender

  -- ---- the requester's turn

  request-one : (q : QueuePair) (p : Correspondent) (room : Bool) (n : Numbered) (e : Effects) (v : World) (ms : List Mark) → IsFoundAt w name q → q.peer ≡ Some p → turn_of q ≡ Sends n → Ends (packet_row q room n) e
      → Has (with_at queue_eq w.queue q.queue (Present e.queue)) (boxes_after w q p Pass (packet_sent e)) v → ms ≡ e.marks ++ option_map_or (sent_marks q p (w.mailbox p.queue) Pass) (packet_sent e) [] → AreCalm ms → CalmAfter d s r w v
  request-one q p room n e v ms there names turn ends has are calm = by e.sent refl other
    where
      row : Row
      row = packet_row q room n

      inner : IsInner q e
      inner = ends-do (IsInner q) row e ends (ends-as (IsInner q) row (packet-inner q room n))

      other : SendsRequests e
      other = ends-do SendsRequests row e ends (packet-requests q room n there.sound turn)

      state : LeavesState q e
      state = ends-do (LeavesState q) row e ends (packet-state q room n)

      life : SameLife q e.queue
      life = record { incarnation = inner.incarnation; peer = inner.peer; mtu = state.1 }

      forgets : Forgets q e.queue
      forgets = ends-do (λ e. Forgets q e.queue) row e ends (packet-forgets q room n)

      sending : is_sending q.state ≡ true
      sending = (sending-parts q (sends-parts (first_of (turn_refusals q)) (next_request q) n turn).0).0

      queue_is : v.queue ≡ with_at queue_eq w.queue name (Present e.queue)
      queue_is = has.queue ∙ ap (λ n. with_at queue_eq w.queue n (Present e.queue)) there.named

      by : (o : Sent) → e.sent ≡ o → SendsRequestsBy e o → CalmAfter d s r w v
      by Silent is sends = turn-calm d s r w v l k name q e there.is (record {
        life = life;
        state = state;
        numbers = ends-do (λ e. e.sent ≡ Silent → requester_in e.queue ≡ requester_in q) row e ends (packet-numbers q room n) is;
        forgets = forgets;
        flag = λ none. absurd (true≢false (sym (ap is_some (sym none ∙ names))));
      }) (replaces-turned w v name (Present e.queue) (record { queue = queue_is; mailbox = has.mailbox ∙ silent-boxes w q p Pass e is })) tied calmly
      by (Spelt None) is sends = absurd sends
      by (Spelt (Some place)) is sends = at (queue_eq name r.queue) refl (queue_eq name s.queue) refl
        where
          x : IsCalmlySent w v name q p e
          x = record {
            sent = record {
              there = there;
              names = names;
              follows = follows;
              incarnation = inner.incarnation;
              peer = inner.peer;
              state = state;
              request = Some place;
              queue = queue_is;
              mailbox = has.mailbox ∙ spelt-boxes w q p Pass e (Some place) is;
            };
            life = life;
            box = λ n. sound.things (Mailbox_of n);
            path = (turn-sent w q p e (Some place) ms is are calm).0;
          }

          at-receiver : (here : queue_eq name r.queue ≡ true) → (there : queue_eq name s.queue ≡ false) → ReceiverTie d s r (Present q) (w.mailbox r.queue) l.responder l.requests → CalmAfter d s r w v
          at-receiver here elsewhere (receiver_standing t paired same entries) = receiver-requests d s r w v l k name q p e x tied calmly here elsewhere t paired forgets sends
          at-receiver here elsewhere (receiver_before before same none) = receiver-unpaired d s r w v l k name q p e x tied calmly here elsewhere (not-before w name q p r names before) (λ t paired. unpaired-before d r s (Present q) t before paired)
          at-receiver here elsewhere (receiver_gone over none) = receiver-unpaired d s r w v l k name q p e x tied calmly here elsewhere (not-over w name q r over) (λ t paired. unpaired-over d r s (Present q) t over paired)

          at-sender : (here : queue_eq name s.queue ≡ true) → (there : queue_eq name r.queue ≡ false) → SenderTie d s r (Present q) (w.mailbox s.queue) l.requester l.responses → CalmAfter d s r w v
          at-sender here elsewhere (sender_standing t paired own entries) = sender-requests d s r w v l k name q p e x tied calmly here elsewhere t paired place sending
              (subst (RequestTurnBy d (requester_in q) e) is (ends-do (IsRequestTurn d (requester_in q)) row e ends (packet-row d q room n there.sound
              (λ is. subst (IsLaid d) (sym (present-same q t paired.present)) (own.laid (ap (λ (z : QueuePair). is_sending z.state) (sym (present-same q t paired.present)) ∙ is))) turn)))
          at-sender here elsewhere (sender_before before same none) = sender-unpaired d s r w v l k name q p e x tied calmly here elsewhere (not-before w name q p s names before) (λ t paired. unpaired-before d s r (Present q) t before paired)
          at-sender here elsewhere (sender_gone over none) = sender-unpaired d s r w v l k name q p e x tied calmly here elsewhere (not-over w name q s over) (λ t paired. unpaired-over d s r (Present q) t over paired)

          at : (b : Bool) → queue_eq name r.queue ≡ b → (a : Bool) → queue_eq name s.queue ≡ a → CalmAfter d s r w v
          at true here a e = at-receiver here (other-name name s.queue r.queue tied.apart here) (receiver-tie q there here)
          at false elsewhere true here = at-sender here elsewhere (sender-tie q there here)
          at false elsewhere false nowhere = third d s r w v l k name q p e x tied calmly elsewhere nowhere

  request-leads : Leads w (λ v ms. AreCalm ms → CalmAfter d s r w v) (request_plan c name Pass)
  request-leads = leads-queue c w P name reasons.State (λ q. With_around q (λ a. Request_around c Pass q a q.peer (turn_of q)))
      (λ q is. leads-around w P q (λ a. Request_around c Pass q a q.peer (turn_of q)) (by q (found-at c w name q sound is) q.peer refl (turn_of q) refl))
    where
      P : World → List Mark → Type 0
      P v ms = AreCalm ms → CalmAfter d s r w v

      performed : (q : QueuePair) → IsFoundAt w name q → (e : Effects) (cs : List Update) (ws : List Write) → IsCalmTurn q e → AreAside cs
          → P (write_all ws (put_all (updates_of q (around_in w q (shared_of w q)) e ++ cs) w)) e.marks
      performed q there e cs ws turn aside calm = turn-calm d s r w (write_all ws (put_all us w)) l k name q e there.is turn (replaces-turned w (write_all ws (put_all us w)) name (Present e.queue)
          (has-writes (with_at queue_eq w.queue name (Present e.queue)) w.mailbox ws (put_all us w)
          (subst (λ n. Has (with_at queue_eq w.queue n (Present e.queue)) w.mailbox (put_all us w)) there.named
          (subst (Has (with_at queue_eq w.queue q.queue (Present e.queue)) w.mailbox) (sym (puts-append (updates_of q (around_in w q (shared_of w q)) e) cs w))
          (has-aside (with_at queue_eq w.queue q.queue (Present e.queue)) w.mailbox cs (put_all (updates_of q (around_in w q (shared_of w q)) e) w) aside (has-turn w q (around_in w q (shared_of w q)) e)))))) tied calmly
        where
          us : List Update
          us = updates_of q (around_in w q (shared_of w q)) e ++ cs

      by : (q : QueuePair) → IsFoundAt w name q → (peer : Option Correspondent) → q.peer ≡ peer → (turn : RequestTurn) → turn_of q ≡ turn → Leads w P (Request_around c Pass q (around_in w q (shared_of w q)) peer turn)
      by q there peer is (Waits reason) turn = record {}
      by q there peer is (Performs n) turn = leads-operation c w P (IsCalmTurn q) q n (λ e changes writes. Finish (updates_of q (around_in w q (shared_of w q)) e ++ changes) writes e.marks) n.request.op (nothing-turn q)
          (λ windows m refusal. operation-turn q n windows m refusal) (λ e cs ws turn aside. performed q there e cs ws turn aside)
      by q there None is (Sends n) turn = record {}
      by q there (Some p) is (Sends n) turn = leads-left c w P q p Pass (packet_row q (has_room_for q p (w.mailbox p.queue)) n)
          (λ e v ms ends has are calm. request-one q p (has_room_for q p (w.mailbox p.queue)) n e v ms there is turn ends has are calm)

  -- ---- the responder's turn

  stays-numbers : (q p : QueuePair) → Stays q p → requester_in p ≡ requester_in q
  stays-numbers q p (still requester sends state mtu) = ap (λ x. record { una = x.una; cursor = x.cursor }) requester
  stays-numbers q p (ended una cursor error mtu) = (λ i. record { una = una i; cursor = cursor i })

  respond-one : (q : QueuePair) (p : Correspondent) (room : Bool) (e : Effects) (v : World) (ms : List Mark) → IsFoundAt w name q → q.peer ≡ Some p → Ends (respond_row room q) e
      → Has (with_at queue_eq w.queue q.queue (Present e.queue)) (boxes_after w q p Pass (packet_sent e)) v → ms ≡ e.marks ++ option_map_or (sent_marks q p (w.mailbox p.queue) Pass) (packet_sent e) [] → AreCalm ms → CalmAfter d s r w v
  respond-one q p room e v ms there names ends has are calm = at (queue_eq name r.queue) refl (queue_eq name s.queue) refl
    where
      row : Row
      row = respond_row room q

      inner : IsInner q e
      inner = ends-do (IsInner q) row e ends (ends-as (IsInner q) row (respond-inner room q))

      other : SendsResponses e
      other = ends-do SendsResponses row e ends (respond-responses q room there.sound)

      state : LeavesState q e
      state = ends-do (LeavesState q) row e ends (respond-state q room)

      went : (reaches_peer q p (w.mailbox p.queue) ≡ true) × IsNoRnrNak e.spelt
      went = turn-sent w q p e None ms other.sent are calm

      x : IsCalmlySent w v name q p e
      x = record {
        sent = record {
          there = there;
          names = names;
          follows = follows;
          incarnation = inner.incarnation;
          peer = inner.peer;
          state = state;
          request = None;
          queue = has.queue ∙ ap (λ n. with_at queue_eq w.queue n (Present e.queue)) there.named;
          mailbox = has.mailbox ∙ spelt-boxes w q p Pass e None other.sent;
        };
        life = record { incarnation = inner.incarnation; peer = inner.peer; mtu = state.1 };
        box = λ n. sound.things (Mailbox_of n);
        path = went.0;
      }

      at-receiver : (here : queue_eq name r.queue ≡ true) → (there : queue_eq name s.queue ≡ false) → ReceiverTie d s r (Present q) (w.mailbox r.queue) l.responder l.requests → CalmAfter d s r w v
      at-receiver here elsewhere (receiver_standing t paired same entries) = receiver-responds d s r w v l k name q p e x tied calmly here elsewhere t paired
          (ends-do (RespondsCalmly d q) row e ends (respond-calmly d k.link room q there.sound calmly.reached (has_r d s r w v l k name q p e x tied calmly here elsewhere t paired).same
          (mtu_r d s r w v l k name q p e x tied calmly here elsewhere t paired))) went.1
      at-receiver here elsewhere (receiver_before before same none) = receiver-unpaired d s r w v l k name q p e x tied calmly here elsewhere (not-before w name q p r names before) (λ t paired. unpaired-before d r s (Present q) t before paired)
      at-receiver here elsewhere (receiver_gone over none) = receiver-unpaired d s r w v l k name q p e x tied calmly here elsewhere (not-over w name q r over) (λ t paired. unpaired-over d r s (Present q) t over paired)

      at-sender : (here : queue_eq name s.queue ≡ true) → (there : queue_eq name r.queue ≡ false) → SenderTie d s r (Present q) (w.mailbox s.queue) l.requester l.responses → CalmAfter d s r w v
      at-sender here elsewhere (sender_standing t paired own entries) = sender-responds d s r w v l k name q p e x tied calmly here elsewhere t paired
          (stays-numbers q e.queue (ends-do (λ e. Stays q e.queue) row e ends (respond-stays room q))) other.spells
      at-sender here elsewhere (sender_before before same none) = sender-unpaired d s r w v l k name q p e x tied calmly here elsewhere (not-before w name q p s names before) (λ t paired. unpaired-before d s r (Present q) t before paired)
      at-sender here elsewhere (sender_gone over none) = sender-unpaired d s r w v l k name q p e x tied calmly here elsewhere (not-over w name q s over) (λ t paired. unpaired-over d s r (Present q) t over paired)

      at : (b : Bool) → queue_eq name r.queue ≡ b → (a : Bool) → queue_eq name s.queue ≡ a → CalmAfter d s r w v
      at true here a e = at-receiver here (other-name name s.queue r.queue tied.apart here) (receiver-tie q there here)
      at false elsewhere true here = at-sender here elsewhere (sender-tie q there here)
      at false elsewhere false nowhere = third d s r w v l k name q p e x tied calmly elsewhere nowhere

  respond-leads : Leads w (λ v ms. AreCalm ms → CalmAfter d s r w v) (respond_plan c name Pass)
  respond-leads = leads-queue c w P name reasons.State (λ q. With_around q (λ a. Respond_around c Pass q a q.peer))
      (λ q is. leads-around w P q (λ a. Respond_around c Pass q a q.peer) (by q (found-at c w name q sound is) q.peer refl))
    where
      P : World → List Mark → Type 0
      P v ms = AreCalm ms → CalmAfter d s r w v

      by : (q : QueuePair) → IsFoundAt w name q → (peer : Option Correspondent) → q.peer ≡ peer → Leads w P (Respond_around c Pass q (around_in w q (shared_of w q)) peer)
      by q there None is = leads-unless w P (respond_refusals true q) Stuck (Stuck reasons.Empty) (λ x. record {}) (record {})
      by q there (Some p) is = leads-left c w P q p Pass (respond_row (has_room_for q p (w.mailbox p.queue)) q)
          (λ e v ms ends has are calm. respond-one q p (has_room_for q p (w.mailbox p.queue)) e v ms there is ends has are calm)

  pub request-calm : (lot : Lot) → lot ≡ Pass → Comes (λ v ms. AreCalm ms → CalmAfter d s r w v) (step c w (events.Request name lot))
  request-calm lot pass = subst (λ z. Comes (λ v ms. AreCalm ms → CalmAfter d s r w v) (step c w (events.Request name z))) (sym pass) (comes w (λ v ms. AreCalm ms → CalmAfter d s r w v) (request_plan c name Pass) request-leads)

  pub respond-calm : (lot : Lot) → lot ≡ Pass → Comes (λ v ms. AreCalm ms → CalmAfter d s r w v) (step c w (events.Respond name lot))
  respond-calm lot pass = subst (λ z. Comes (λ v ms. AreCalm ms → CalmAfter d s r w v) (step c w (events.Respond name z))) (sym pass) (comes w (λ v ms. AreCalm ms → CalmAfter d s r w v) (respond_plan c name Pass) respond-leads)
