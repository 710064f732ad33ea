-- The turns of requester and responder keep a world tied to a link.
use Rattle.std.proofs.Common.{◌≡◌, ℕ, Bool, true, List, [], ◌++◌, Option, None, Some, refl, ap, sym, subst, ◌∙◌, arith}
use Rattle.std.specs.Option.{option_map_or}
use Rattle.ca_law_endings.proofs.InnerLemmas.{AreOwn, IsInner, packet-inner, respond-inner}
use Rattle.ca_law_endings.proofs.LeadsLemmas.{AreAside, comes, leads-around, leads-queue, leads-unless, leads-weaker}
use Rattle.ca_law_endings.proofs.PerformLemmas.{leads-perform as inner-perform}
use Rattle.ca_law_endings.specs.Runs.{Comes, Leads}
use Rattle.ca_base.specs.Configuration.{Configuration}
use Rattle.ca_base.specs.declared.correspondent.Correspondent.{Correspondent}
use Rattle.ca_base.specs.declared.lot.Lot.{Lot}
use Rattle.ca_base.specs.declared.step.Reason.TheVariants as reasons
use Rattle.ca_base.specs.declared.step.Sent.{Sent}
use Rattle.ca_base.specs.declared.step.Sent.TheVariants.{Silent, Spelt}
use Rattle.ca_base.specs.objects.QueuePair.{QueuePair, Present}
use Rattle.ca_connection.specs.Layout.{Direction}
use Rattle.ca_connection.specs.Link.{Link}
use Rattle.ca_keys.specs.Equal.{queue_eq}
use Rattle.ca_keys.specs.Refusals.{first_of}
use Rattle.ca_keys.specs.declared.names.QueueId.{QueueId}
use Rattle.ca_law_world.proofs.Sound.TurnLemmas.{sending-parts, sends-parts}
use Rattle.ca_law_world.proofs.Sound.WorldLemmas.{around_in, shared_of}
use Rattle.ca_model.specs.Past.{with_at}
use Rattle.ca_model.specs.declared.event.Event.TheVariants as events
use Rattle.ca_model.specs.declared.mark.Mark.{Mark}
use Rattle.ca_model.specs.machine.Around.{With_around, updates_of}
use Rattle.ca_model.specs.machine.Invariants.{is_sending}
use Rattle.ca_model.specs.machine.LocalOperations.{Finishing, Perform_plan}
use Rattle.ca_model.specs.machine.Numbering.{Numbered}
use Rattle.ca_model.specs.machine.Plan.{Did, Finish, NotReady, Outcome, Stuck, Update, Write, put_all, write_all}
use Rattle.ca_model.specs.machine.Requester.{Performs, RequestTurn, Sends, Waits, next_request, packet_row, turn_of, turn_refusals}
use Rattle.ca_model.specs.machine.Respond.{respond_refusals, respond_row}
use Rattle.ca_model.specs.machine.Row.{Effects, Row}
use Rattle.ca_model.specs.machine.Sound.{IsSoundWorld}
use Rattle.ca_model.specs.machine.Step.{step}
use Rattle.ca_model.specs.machine.Turns.{Packet, Request_around, Respond_around, has_room_for, packet_sent, request_plan, respond_plan, sent_marks}
use Rattle.ca_model.specs.machine.World.{World}
use Rattle.ca_law_once.proofs.Ties.DeliverWalk.{Ends, Has, ends-as, ends-do, has-aside, has-turn, has-writes, puts-append}
use Rattle.ca_law_once.proofs.Ties.PerformTies.{leads-perform}
use Rattle.ca_law_once.proofs.Ties.QuietLemmas.{IsQuiet, quiet-ties}
use Rattle.ca_law_once.proofs.Ties.RespondTies.{response-ties}
use Rattle.ca_law_once.proofs.Ties.SendLemmas.{boxes_after, leads-left}
use Rattle.ca_law_once.proofs.Ties.SentTies.{request-ties}
use Rattle.ca_law_once.proofs.Ties.TimerLemmas.{IsFoundAt, found-at}
use Rattle.ca_law_once.proofs.Ties.TellLemmas.{leads-both, own-unsent, silent-tells, spelt-tells}
use Rattle.ca_law_once.specs.Ties.{IsTied, MailFollows, TiedAfter, TurnAfter, sent_to}
use Rattle.ca_law_once.specs.Ties.RequestsTold.{silent}
use Rattle.ca_law_once.proofs.Rows.PacketRowLemmas.{packet-row}
use Rattle.ca_law_once.proofs.Rows.RespondRowLemmas.{respond-leads}
use Rattle.ca_law_once.proofs.Rows.TurnLemmas.{packet-requests, packet-row-forgets, packet-state, respond-responses, respond-row-stays, respond-state}
use Rattle.ca_law_once.specs.Moves.{IsRequestTurn, LeavesState, RequestTurnBy, SendsRequests, SendsRequestsBy, SendsResponses}
use Rattle.ca_law_once.specs.Sides.{IsLaid, requester_in}

-- the mailboxes after a turn, by what it sent
silent-boxes : (w : World) (q : QueuePair) (p : Correspondent) (lot : Lot) (e : Effects) → e.sent ≡ Silent → boxes_after w q p lot (packet_sent e) ≡ w.mailbox
silent-boxes w q p lot e is = ap (λ o. boxes_after w q p lot (packet o)) is
  where
    packet : Sent → Option Packet
    packet Silent = None
    packet (Spelt request) = Some (record { request = request; bytes = e.spelt })

spelt-boxes : (w : World) (q : QueuePair) (p : Correspondent) (lot : Lot) (e : Effects) (request : Option ℕ) → e.sent ≡ Spelt request
    → boxes_after w q p lot (packet_sent e) ≡ boxes_after w q p lot (Some (record { request = request; bytes = e.spelt }))
spelt-boxes w q p lot e request is = ap (λ o. boxes_after w q p lot (packet o)) is
  where
    packet : Sent → Option Packet
    packet Silent = None
    packet (Spelt request) = Some (record { request = request; bytes = e.spelt })

-- a turn that sends nothing
untold : {d : Direction} {s r : Correspondent} {w v : World} {l : Link} {ms : List Mark} → ((n : QueueId) → sent_to n ms ≡ []) → TiedAfter d s r w l (λ place. []) (λ place. []) v → TurnAfter d s r w l ms v
untold none after = record { after = after; told = silent none }

respond-one : (d : Direction) (s r : Correspondent) (w v : World) (l : Link) (name : QueueId) (q : QueuePair) (p : Correspondent) (lot : Lot) (room : Bool) (e : Effects) → IsFoundAt w name q → q.peer ≡ Some p → MailFollows w
    → IsTied d s r w l → Ends (respond_row room q) e → Has (with_at queue_eq w.queue q.queue (Present e.queue)) (boxes_after w q p lot (packet_sent e)) v
    → (ms : List Mark) → ms ≡ e.marks ++ option_map_or (sent_marks q p (w.mailbox p.queue) lot) (packet_sent e) [] → TurnAfter d s r w l ms v
respond-one d s r w v l name q p lot room e there names follows tied ends has ms are = response-ties d s r w v l name q p lot e ms (record {
  sent = record {
    there = there;
    names = names;
    follows = follows;
    incarnation = inner.incarnation;
    peer = inner.peer;
    state = ends-do (LeavesState q) row e ends (respond-state q room);
    request = None;
    queue = has.queue ∙ ap (λ n. with_at queue_eq w.queue n (Present e.queue)) there.named;
    mailbox = has.mailbox ∙ spelt-boxes w q p lot e None other.sent;
  };
  responds = λ d l reached same mtu. ends-do _ row e ends (respond-leads d l room q there.sound reached same mtu);
  stays = λ d laid. ends-do _ row e ends (respond-row-stays d q room laid);
  other = other.spells;
  tells = spelt-tells w q p lot e None ms other.sent inner.marks are;
}) tied
  where
    row : Row
    row = respond_row room q

    inner : IsInner q e
    inner = ends-do (IsInner q) row e ends (ends-as (IsInner q) row (respond-inner room q))

    other : SendsResponses e
    other = ends-do SendsResponses row e ends (respond-responses q room there.sound)

pub respond-turn : (d : Direction) (s r : Correspondent) (c : Configuration) (w : World) (l : Link) (name : QueueId) (lot : Lot) → IsSoundWorld c w → MailFollows w → IsTied d s r w l
    → Comes (λ v ms. TurnAfter d s r w l ms v) (step c w (events.Respond name lot))
respond-turn d s r c w l name lot sound follows tied = comes w P (respond_plan c name lot)
    (leads-queue c w P name reasons.State (λ q. With_around q (λ a. Respond_around c lot q a q.peer))
    (λ q is. leads-around w P q (λ a. Respond_around c lot q a q.peer) (by q (found-at c w name q sound is) q.peer refl)))
  where
    P : World → List Mark → Type 0
    P v ms = TurnAfter d s r w l ms v

    by : (q : QueuePair) → IsFoundAt w name q → (peer : Option Correspondent) → q.peer ≡ peer → Leads w P (Respond_around c lot q (around_in w q (shared_of w q)) peer)
    by q there None is = leads-unless w P (respond_refusals true q) Stuck (Stuck reasons.Empty) (λ x. record {}) (record {})
    by q there (Some p) is = leads-left c w P q p lot (respond_row (has_room_for q p (w.mailbox p.queue)) q)
        (λ e v ms ends has are. respond-one d s r w v l name q p lot (has_room_for q p (w.mailbox p.queue)) e there is follows tied ends has ms are)

request-one : (d : Direction) (s r : Correspondent) (w v : World) (l : Link) (name : QueueId) (q : QueuePair) (p : Correspondent) (lot : Lot) (room : Bool) (n : Numbered) (e : Effects) → IsFoundAt w name q → q.peer ≡ Some p
    → turn_of q ≡ Sends n → MailFollows w → IsTied d s r w l → Ends (packet_row q room n) e → Has (with_at queue_eq w.queue q.queue (Present e.queue)) (boxes_after w q p lot (packet_sent e)) v
    → (ms : List Mark) → ms ≡ e.marks ++ option_map_or (sent_marks q p (w.mailbox p.queue) lot) (packet_sent e) [] → TurnAfter d s r w l ms v
request-one d s r w v l name q p lot room n e there names turn follows tied ends has ms are = by e.sent refl other
  where
    row : Row
    row = packet_row q room n

    inner : IsInner q e
    inner = ends-do (IsInner q) row e ends (ends-as (IsInner q) row (packet-inner q room n))

    other : SendsRequests e
    other = ends-do SendsRequests row e ends (packet-requests q room n there.sound turn)

    sending : is_sending q.state ≡ true
    sending = (sending-parts q (sends-parts (first_of (turn_refusals q)) (next_request q) n turn).0).0

    does : (d : Direction) → (is_sending q.state ≡ true → IsLaid d q) → IsRequestTurn d (requester_in q) e
    does d laid = ends-do (IsRequestTurn d (requester_in q)) row e ends (packet-row d q room n there.sound laid turn)

    queue_is : v.queue ≡ with_at queue_eq w.queue name (Present e.queue)
    queue_is = has.queue ∙ ap (λ n. with_at queue_eq w.queue n (Present e.queue)) there.named

    by : (o : Sent) → e.sent ≡ o → SendsRequestsBy e o → TurnAfter d s r w l ms v
    by Silent is sends = untold (silent-tells w q p lot e ms is inner.marks are) (quiet-ties d s r w v l name q e there.is (record {
      incarnation = inner.incarnation;
      peer = inner.peer;
      state = ends-do (LeavesState q) row e ends (packet-state q room n);
      requester = λ d laid. let own = subst (RequestTurnBy d (requester_in q) e) is (does d laid) in record {
        una = ap (λ x. x.una) own.requester;
        low = omega (arith, there.sound.requester.outstanding, ap (λ x. x.cursor) own.requester);
        high = omega (arith, ap (λ x. x.cursor) own.requester);
        laid = own.laid;
      };
      responder = λ d mtu. ends-do _ row e ends (packet-row-forgets d q room n mtu);
    }) (record { queue = queue_is; mailbox = has.mailbox ∙ silent-boxes w q p lot e is }) tied)
    by (Spelt None) is sends = absurd sends
    by (Spelt (Some place)) is sends = request-ties d s r w v l name q p lot place e ms (record {
      sent = record {
        there = there;
        names = names;
        follows = follows;
        incarnation = inner.incarnation;
        peer = inner.peer;
        state = ends-do (LeavesState q) row e ends (packet-state q room n);
        request = Some place;
        queue = queue_is;
        mailbox = has.mailbox ∙ spelt-boxes w q p lot e (Some place) is;
      };
      sending = sending;
      sends = λ d laid. subst (RequestTurnBy d (requester_in q) e) is (does d (λ e. laid));
      forgets = λ d mtu. ends-do _ row e ends (packet-row-forgets d q room n mtu);
      other = sends;
      tells = spelt-tells w q p lot e (Some place) ms is inner.marks are;
    }) tied

pub request-turn : (d : Direction) (s r : Correspondent) (c : Configuration) (w : World) (l : Link) (name : QueueId) (lot : Lot) → IsSoundWorld c w → MailFollows w → IsTied d s r w l
    → Comes (λ v ms. TurnAfter d s r w l ms v) (step c w (events.Request name lot))
request-turn d s r c w l name lot sound follows tied = comes w P (request_plan c name lot)
    (leads-queue c w P name reasons.State (λ q. With_around q (λ a. Request_around c lot q a q.peer (turn_of q)))
    (λ q is. leads-around w P q (λ a. Request_around c lot q a q.peer (turn_of q)) (by q (found-at c w name q sound is) q.peer refl (turn_of q) refl)))
  where
    P : World → List Mark → Type 0
    P v ms = TurnAfter d s r w l ms v

    Tied : World → List Mark → Type 0
    Tied v ms = TiedAfter d s r w l (λ place. []) (λ place. []) v

    Own : World → List Mark → Type 0
    Own v ms = AreOwn ms

    Both : World → List Mark → Type 0
    Both v ms = TiedAfter d s r w l (λ place. []) (λ place. []) v × AreOwn ms

    performed : (q : QueuePair) → IsFoundAt w name q → (e : Effects) (cs : List Update) (ws : List Write) → IsQuiet q e → AreAside cs
        → TiedAfter d s r w l (λ place. []) (λ place. []) (write_all ws (put_all (updates_of q (around_in w q (shared_of w q)) e ++ cs) w))
    performed q there e cs ws quiet aside = quiet-ties d s r w (write_all ws (put_all us w)) l name q e there.is quiet
        (has-writes (with_at queue_eq w.queue name (Present e.queue)) w.mailbox ws (put_all us w)
        (subst (λ n. Has (with_at queue_eq w.queue n (Present e.queue)) w.mailbox (put_all us w)) there.named
        (subst (Has (with_at queue_eq w.queue q.queue (Present e.queue)) w.mailbox) (sym (puts-append (updates_of q (around_in w q (shared_of w q)) e) cs w))
        (has-aside (with_at queue_eq w.queue q.queue (Present e.queue)) w.mailbox cs (put_all (updates_of q (around_in w q (shared_of w q)) e) w) aside (has-turn w q (around_in w q (shared_of w q)) e))))) tied
      where
        us : List Update
        us = updates_of q (around_in w q (shared_of w q)) e ++ cs

    by : (q : QueuePair) → IsFoundAt w name q → (peer : Option Correspondent) → q.peer ≡ peer → (turn : RequestTurn) → turn_of q ≡ turn → Leads w P (Request_around c lot q (around_in w q (shared_of w q)) peer turn)
    by q there peer is (Waits reason) turn = record {}
    by q there peer is (Performs n) turn = leads-weaker w Both P (Perform_plan c q n finish) (λ v ms both. untold (λ k. own-unsent k ms both.1) both.0)
        (leads-both w Tied Own (Perform_plan c q n finish)
        (leads-perform c w Tied q n finish n.request.op there.sound turn (λ e cs ws quiet aside. performed q there e cs ws quiet aside))
        (inner-perform c w Own q n finish n.request.op (λ e cs ws inner aside. inner.marks)))
      where
        finish : Finishing
        finish e changes writes = Finish (updates_of q (around_in w q (shared_of w q)) e ++ changes) writes e.marks
    by q there None is (Sends n) turn = record {}
    by q there (Some p) is (Sends n) turn = leads-left c w P q p lot (packet_row q (has_room_for q p (w.mailbox p.queue)) n)
        (λ e v ms ends has are. request-one d s r w v l name q p lot (has_room_for q p (w.mailbox p.queue)) n e there is turn follows tied ends has ms are)

-- the same of the ties alone
turn-ties : (d : Direction) (s r : Correspondent) (w : World) (l : Link) (o : Outcome) → Comes (λ v ms. TurnAfter d s r w l ms v) o → Comes (λ v ms. TiedAfter d s r w l (λ place. []) (λ place. []) v) o
turn-ties d s r w l (NotReady reason) turn = turn
turn-ties d s r w l (Did v ms) turn = turn.after

pub respond-ties : (d : Direction) (s r : Correspondent) (c : Configuration) (w : World) (l : Link) (name : QueueId) (lot : Lot) → IsSoundWorld c w → MailFollows w → IsTied d s r w l
    → Comes (λ v ms. TiedAfter d s r w l (λ place. []) (λ place. []) v) (step c w (events.Respond name lot))
respond-ties d s r c w l name lot sound follows tied = turn-ties d s r w l (step c w (events.Respond name lot)) (respond-turn d s r c w l name lot sound follows tied)

pub request-plan-ties : (d : Direction) (s r : Correspondent) (c : Configuration) (w : World) (l : Link) (name : QueueId) (lot : Lot) → IsSoundWorld c w → MailFollows w → IsTied d s r w l
    → Comes (λ v ms. TiedAfter d s r w l (λ place. []) (λ place. []) v) (step c w (events.Request name lot))
request-plan-ties d s r c w l name lot sound follows tied = turn-ties d s r w l (step c w (events.Request name lot)) (request-turn d s r c w l name lot sound follows tied)
