-- Deliveries and turns lower the weight of a world.
use Rattle.std.proofs.Common.{◌≡◌, ℕ, ◌+◌, ◌<◌, ◌≤◌, Bool, true, false, if◌then◌else◌, List, Option, None, Some, refl, ap, sym, subst, ◌∙◌, arith, true≢false}
use Rattle.std.proofs.lemmas.Option.{same_Some}
use Rattle.std.specs.Prelude.{is_some}
use Rattle.ca_law_endings.proofs.LeadsLemmas.{comes, leads-around, leads-queue, leads-unless}
use Rattle.ca_law_endings.specs.Runs.{Comes, Leads}
use Rattle.ca_base.specs.Configuration.{Configuration}
use Rattle.ca_base.specs.declared.correspondent.Correspondent.{Correspondent}
use Rattle.ca_base.specs.declared.lot.Lot.{Lot}
use Rattle.ca_base.specs.declared.mail_envelope.MailEnvelope.{MailEnvelope}
use Rattle.ca_base.specs.declared.step.Reason.TheVariants as reasons
use Rattle.ca_base.specs.declared.step.Sent.{Sent}
use Rattle.ca_base.specs.declared.step.Sent.TheVariants.{Silent, Spelt}
use Rattle.ca_base.specs.objects.Mailbox.{Mailbox, after_delivery, after_send, bytes_lent, later_than}
use Rattle.ca_base.specs.objects.QueuePair.{QueuePair, QueueSlot, Present}
use Rattle.ca_base.specs.objects.SharedReceives.{SharedReceives}
use Rattle.ca_connection.specs.Layout.{Direction}
use Rattle.ca_keys.specs.Equal.{queue_eq}
use Rattle.ca_keys.specs.declared.names.QueueId.{QueueId}
use Rattle.ca_law_world.proofs.Sound.SettledLemmas.{queue-refl}
use Rattle.ca_law_world.proofs.Sound.WorldLemmas.{around_in, shared_of}
use Rattle.ca_model.specs.Past.{with_at}
use Rattle.ca_model.specs.declared.event.Event.TheVariants as events
use Rattle.ca_model.specs.declared.mark.Mark.{Mark}
use Rattle.ca_model.specs.machine.Around.{With_around}
use Rattle.ca_model.specs.machine.Delivery.{arrival_row, deliver_plan}
use Rattle.ca_model.specs.machine.Invariants.{IsQueue, is_sending}
use Rattle.ca_model.specs.machine.Numbering.{Numbered}
use Rattle.ca_model.specs.machine.Plan.{Stuck}
use Rattle.ca_model.specs.machine.Requester.{Sends, packet_row, turn_of}
use Rattle.ca_model.specs.machine.Respond.{respond_refusals, respond_row}
use Rattle.ca_model.specs.machine.Row.{Effects}
use Rattle.ca_model.specs.machine.Sound.{IsSoundWorld}
use Rattle.ca_model.specs.machine.Step.{step}
use Rattle.ca_model.specs.machine.Turns.{Packet, Request_around, Respond_around, has_room_for, packet_sent, reaches_peer, request_plan, respond_plan}
use Rattle.ca_model.specs.machine.World.{World}
use Rattle.ca_law_once.proofs.Ties.DeliverLemmas.{present-same}
use Rattle.ca_law_once.proofs.Ties.DeliverWalk.{Changes, Ends, Has, ends-do, leads-deliver}
use Rattle.ca_law_once.proofs.Ties.EntryLemmas.{IsLent, lent-envelope}
use Rattle.ca_law_once.proofs.Ties.SendLemmas.{boxes_after, leads-left}
use Rattle.ca_law_once.proofs.Ties.TimerLemmas.{IsFoundAt, found-at}
use Rattle.ca_law_once.proofs.Rows.ArrivalLemmas.{arrival-state}
use Rattle.ca_law_once.proofs.Rows.PacketRowLemmas.{packet-row}
use Rattle.ca_law_once.proofs.Rows.TurnLemmas.{packet-state, respond-responses, respond-state}
use Rattle.ca_law_once.specs.Moves.{IsRequestTurn, LeavesState, RequestTurnBy, SendsResponses}
use Rattle.ca_law_once.specs.Sides.{IsLaid, requester_in}
use Rattle.ca_law_bounds.proofs.ArrivalWeights.{arrival-lowers, respond-falls, response-weighs}
use Rattle.ca_law_bounds.proofs.SentWeights.{packet-lowers}
use Rattle.ca_law_bounds.specs.Weights.{Lowers, packet_weight, queue_weight, sent_weight}
use Rattle.ca_law_bounds.proofs.PairLemmas.{box-changes, box-raises, mail-falls, pair-more, slot-changes}
use Rattle.ca_law_bounds.specs.WorldWeights.{AreApart, IsFreshAt, SharesWidth, cursor_of, is_among_names, mail_weight, pair_weight, pairs_weight, world_weight}

-- the weight of a world by its slots and mailboxes
weighs-as : (names : List QueueId) (v : World) (queues : QueueId → QueueSlot) (boxes : QueueId → Mailbox) → Has queues boxes v → world_weight names v ≡ pairs_weight names queues boxes
weighs-as names v queues boxes has = ap (λ f. pairs_weight names f v.mailbox) has.queue ∙ ap (λ g. pairs_weight names queues g) has.mailbox

-- what stands at a name after its slot was put
put-there : (queues : QueueId → QueueSlot) (name : QueueId) (slot : QueueSlot) → with_at queue_eq queues name slot name ≡ slot
put-there queues name slot = ap (λ b. if b then slot else queues name) (queue-refl name)

-- ---- deliveries

delivered-lowers : (c : Configuration) (w v : World) (names : List QueueId) (name : QueueId) (index : ℕ) (q : QueuePair) (bytes : List ℕ) (shared : Option SharedReceives) (e : Effects)
    → AreApart names → is_among_names name names ≡ true → IsFreshAt index (w.mailbox name) → w.queue name ≡ Present q → IsQueue q → bytes_lent index (w.mailbox name) ≡ Some bytes
    → Ends (arrival_row bytes (Some index) shared q) e → Changes w name (Present e.queue) (after_delivery index (w.mailbox name)) v
    → cursor_of (w.queue name) ≤ cursor_of (v.queue name) → world_weight names v < world_weight names w
delivered-lowers c w v names name index q bytes shared e apart among fresh is s lent ends has up = omega (
  arith,
  weighs-as names v queues boxes has,
  box-changes names queues w.mailbox name after apart among,
  slot-changes names w.queue w.mailbox name (Present e.queue) apart among,
  ap (λ t. pair_weight t (w.mailbox name)) here,
  ap (λ t. pair_weight t after) here,
  ap (λ t. pair_weight t (w.mailbox name)) is,
  ap (λ m. mail_weight m (w.mailbox name).envelopes) width,
  ap (λ m. mail_weight m after.envelopes) width,
  falls,
  lowers,
)
  where
    after : Mailbox
    after = after_delivery index (w.mailbox name)

    queues : QueueId → QueueSlot
    queues = with_at queue_eq w.queue name (Present e.queue)

    boxes : QueueId → Mailbox
    boxes = with_at queue_eq w.mailbox name after

    here : queues name ≡ Present e.queue
    here = put-there w.queue name (Present e.queue)

    width : e.queue.responder.mtu ≡ q.responder.mtu
    width = (ends-do (LeavesState q) (arrival_row bytes (Some index) shared q) e ends (arrival-state bytes (Some index) shared q)).1

    own : IsLent index (w.mailbox name) bytes
    own = lent-envelope index (w.mailbox name) bytes lent

    same : own.envelope ≡ fresh.envelope
    same = same_Some own.envelope fresh.envelope (sym own.at ∙ fresh.at)

    brings : fresh.envelope.bytes ≡ bytes
    brings = ap (λ (x : MailEnvelope). x.bytes) (sym same) ∙ own.brings

    falls : mail_weight q.responder.mtu after.envelopes + packet_weight q.responder.mtu bytes ≡ mail_weight q.responder.mtu (w.mailbox name).envelopes
    falls = subst (λ bs. mail_weight q.responder.mtu after.envelopes + packet_weight q.responder.mtu bs ≡ mail_weight q.responder.mtu (w.mailbox name).envelopes) brings
        (mail-falls q.responder.mtu (later_than index (w.mailbox name)) (w.mailbox name).envelopes fresh.envelope fresh.at fresh.pass fresh.fresh)

    on : q.requester.cursor ≤ e.queue.requester.cursor
    on = omega (arith, up, ap cursor_of is, ap (λ f. cursor_of (f name)) has.queue, ap cursor_of here)

    lowers : queue_weight e.queue + sent_weight q.responder.mtu e.sent e.spelt < queue_weight q + packet_weight q.responder.mtu bytes
    lowers = ends-do (Lowers q (packet_weight q.responder.mtu bytes)) (arrival_row bytes (Some index) shared q) e ends (arrival-lowers q bytes (Some index) shared s) on

pub delivery-lowers : (c : Configuration) (w : World) (names : List QueueId) (name : QueueId) (index : ℕ) → IsSoundWorld c w → AreApart names → is_among_names name names ≡ true → IsFreshAt index (w.mailbox name)
    → Comes (λ v ms. cursor_of (w.queue name) ≤ cursor_of (v.queue name) → world_weight names v < world_weight names w) (step c w (events.Deliver name index))
delivery-lowers c w names name index sound apart among fresh = comes w P (deliver_plan c name index)
    (leads-deliver c w P name index sound (λ q bytes shared e v ms is s lent ends has found told_writes up.
    delivered-lowers c w v names name index q bytes shared e apart among fresh is s lent ends has up))
  where
    P : World → List Mark → Type 0
    P v ms = cursor_of (w.queue name) ≤ cursor_of (v.queue name) → world_weight names v < world_weight names w

-- ---- turns

-- The queue pair has fallen by more than what it sent weighs at its peer.
turn-lowers : (w v : World) (names : List QueueId) (name : QueueId) (q : QueuePair) (p : Correspondent) (lot : Lot) (e : Effects) (k : ℕ) → AreApart names → is_among_names name names ≡ true
    → IsFoundAt w name q → e.queue.responder.mtu ≡ q.responder.mtu → Has (with_at queue_eq w.queue q.queue (Present e.queue)) (boxes_after w q p lot (packet_sent e)) v
    → queue_weight e.queue + k < queue_weight q
    → ((x : Packet) → packet_sent e ≡ Some x → (t : QueuePair) → with_at queue_eq w.queue name (Present e.queue) p.queue ≡ Present t → packet_weight t.responder.mtu x.bytes ≤ k)
    → world_weight names v < world_weight names w
turn-lowers w v names name q p lot e k apart among there width has falls light = omega (
  arith,
  weighs-as names v queues (boxes_after w q p lot (packet_sent e)) (record { queue = has.queue ∙ ap (λ n. with_at queue_eq w.queue n (Present e.queue)) there.named; mailbox = has.mailbox }),
  sent (packet_sent e) refl,
  slot-changes names w.queue w.mailbox name (Present e.queue) apart among,
  ap (λ t. pair_weight t (w.mailbox name)) there.is,
  ap (λ m. mail_weight m (w.mailbox name).envelopes) width,
  falls,
)
  where
    queues : QueueId → QueueSlot
    queues = with_at queue_eq w.queue name (Present e.queue)

    reaches : (x : Packet) → packet_sent e ≡ Some x → (b : Bool)
        → pairs_weight names queues (if b then with_at queue_eq w.mailbox p.queue (after_send lot x.bytes (w.mailbox p.queue)) else w.mailbox) ≤ pairs_weight names queues w.mailbox + k
    reaches x is true = box-raises names queues w.mailbox p.queue (after_send lot x.bytes (w.mailbox p.queue)) k apart
        (pair-more (queues p.queue) lot x.bytes (w.mailbox p.queue) k (λ t at. light x is t at))
    reaches x is false = omega arith

    sent : (o : Option Packet) → packet_sent e ≡ o → pairs_weight names queues (boxes_after w q p lot o) ≤ pairs_weight names queues w.mailbox + k
    sent None is = omega arith
    sent (Some x) is = reaches x is (reaches_peer q p (w.mailbox p.queue))

-- the packet of effects that spell one has their bytes
packet-bytes : (e : Effects) (request : Option ℕ) (x : Packet) → e.sent ≡ Spelt request → packet_sent e ≡ Some x → x.bytes ≡ e.spelt
packet-bytes e request x spelt is = sym (ap (λ (y : Packet). y.bytes) (same_Some _ x (sym (ap packet spelt) ∙ is)))
  where
    packet : Sent → Option Packet
    packet Silent = None
    packet (Spelt request) = Some (record { request = request; bytes = e.spelt })

pub respond-turn-lowers : (c : Configuration) (w : World) (names : List QueueId) (name : QueueId) (lot : Lot) → IsSoundWorld c w → AreApart names → is_among_names name names ≡ true
    → Comes (λ v ms. world_weight names v < world_weight names w) (step c w (events.Respond name lot))
respond-turn-lowers c w names name lot sound apart among = comes w P (respond_plan c name lot)
    (leads-queue c w P name reasons.State (λ q. With_around q (λ a. Respond_around c lot q a q.peer))
    (λ q is. leads-around w P q (λ a. Respond_around c lot q a q.peer) (by q (found-at c w name q sound is) q.peer)))
  where
    P : World → List Mark → Type 0
    P v ms = world_weight names v < world_weight names w

    by : (q : QueuePair) → IsFoundAt w name q → (peer : Option Correspondent) → Leads w P (Respond_around c lot q (around_in w q (shared_of w q)) peer)
    by q there None = leads-unless w P (respond_refusals true q) Stuck (Stuck reasons.Empty) (λ x. record {}) (record {})
    by q there (Some p) = leads-left c w P q p lot (respond_row room q) (λ e v ms ends has are.
        turn-lowers w v names name q p lot e 1 apart among there
        (ends-do (LeavesState q) (respond_row room q) e ends (respond-state q room)).1 has
        (omega (arith, ends-do (λ e. queue_weight e.queue + 2 ≤ queue_weight q) (respond_row room q) e ends (respond-falls q room there.sound)))
        (λ x is t at. let other = ends-do SendsResponses (respond_row room q) e ends (respond-responses q room there.sound) in
        omega (arith, ap (packet_weight t.responder.mtu) (packet-bytes e None x other.sent is), response-weighs t.responder.mtu e.spelt other.spells)))
      where
        room : Bool
        room = has_room_for q p (w.mailbox p.queue)

pub request-turn-lowers : (d : Direction) (c : Configuration) (w : World) (names : List QueueId) (name : QueueId) (lot : Lot) (q : QueuePair) (n : Numbered) → IsSoundWorld c w → AreApart names → is_among_names name names ≡ true
    → w.queue name ≡ Present q → turn_of q ≡ Sends n → (is_sending q.state ≡ true → IsLaid d q) → SharesWidth w q
    → Comes (λ v ms. world_weight names v < world_weight names w) (step c w (events.Request name lot))
request-turn-lowers d c w names name lot q n sound apart among stands turn laid shares = comes w P (request_plan c name lot)
    (leads-queue c w P name reasons.State (λ q. With_around q (λ a. Request_around c lot q a q.peer (turn_of q)))
    (λ t is. leads-around w P t (λ a. Request_around c lot t a t.peer (turn_of t))
    (subst (λ x. Leads w P (Request_around c lot x (around_in w x (shared_of w x)) x.peer (turn_of x))) (present-same q t (sym stands ∙ is))
    (subst (λ r. Leads w P (Request_around c lot q (around_in w q (shared_of w q)) q.peer r)) (sym turn) (by (found-at c w name q sound stands) q.peer refl)))))
  where
    P : World → List Mark → Type 0
    P v ms = world_weight names v < world_weight names w

    -- the cursor goes on, or stays where the request fails
    on : (room : Bool) (e : Effects) → (o : Sent) → RequestTurnBy d (requester_in q) e o → q.requester.cursor ≤ e.queue.requester.cursor
    on room e Silent own = omega (arith, ap (λ x. x.cursor) own.requester)
    on room e (Spelt None) own = absurd own
    on room e (Spelt (Some place)) own = omega (arith, own.cursor)

    -- the peer's path MTU
    width-there : (e : Effects) → e.queue.responder.mtu ≡ q.responder.mtu → (p : Correspondent) → q.peer ≡ Some p → (t : QueuePair) → with_at queue_eq w.queue name (Present e.queue) p.queue ≡ Present t
        → t.responder.mtu ≡ q.responder.mtu
    width-there e width p names t at = of (queue_eq name p.queue) at
      where
        of : (b : Bool) → (if b then Present e.queue else w.queue p.queue) ≡ Present t → t.responder.mtu ≡ q.responder.mtu
        of true is = ap (λ (x : QueuePair). x.responder.mtu) (sym (present-same e.queue t is)) ∙ width
        of false is = shares p t names is

    by : IsFoundAt w name q → (peer : Option Correspondent) → q.peer ≡ peer → Leads w P (Request_around c lot q (around_in w q (shared_of w q)) peer (Sends n))
    by there None is = record {}
    by there (Some p) is = leads-left c w P q p lot (packet_row q room n) (λ e v ms ends has are. one e v ends has (turned e ends) (e.sent) refl)
      where
        room : Bool
        room = has_room_for q p (w.mailbox p.queue)

        turned : (e : Effects) → Ends (packet_row q room n) e → IsRequestTurn d (requester_in q) e
        turned e ends = ends-do (IsRequestTurn d (requester_in q)) (packet_row q room n) e ends (packet-row d q room n there.sound laid turn)

        one : (e : Effects) (v : World) → Ends (packet_row q room n) e → Has (with_at queue_eq w.queue q.queue (Present e.queue)) (boxes_after w q p lot (packet_sent e)) v
            → IsRequestTurn d (requester_in q) e → (o : Sent) → e.sent ≡ o → world_weight names v < world_weight names w
        one e v ends has own o sent = turn-lowers w v names name q p lot e (sent_weight q.responder.mtu e.sent e.spelt) apart among there width has (omega (arith, lowers)) light
          where
            width : e.queue.responder.mtu ≡ q.responder.mtu
            width = (ends-do (LeavesState q) (packet_row q room n) e ends (packet-state q room n)).1

            lowers : queue_weight e.queue + sent_weight q.responder.mtu e.sent e.spelt < queue_weight q + 0
            lowers = ends-do (Lowers q 0) (packet_row q room n) e ends (packet-lowers d q room n there.sound laid turn) (on room e e.sent own)

            light : (x : Packet) → packet_sent e ≡ Some x → (t : QueuePair) → with_at queue_eq w.queue name (Present e.queue) p.queue ≡ Present t
                → packet_weight t.responder.mtu x.bytes ≤ sent_weight q.responder.mtu e.sent e.spelt
            light x given t at = sending o sent
              where
                packet : Sent → Option Packet
                packet Silent = None
                packet (Spelt request) = Some (record { request = request; bytes = e.spelt })

                sending : (o : Sent) → e.sent ≡ o → packet_weight t.responder.mtu x.bytes ≤ sent_weight q.responder.mtu e.sent e.spelt
                sending Silent is_sent = absurd (true≢false (sym (ap is_some (sym (ap packet is_sent) ∙ given))))
                sending (Spelt request) is_sent = omega (
                  arith,
                  ap (packet_weight t.responder.mtu) (packet-bytes e request x is_sent given),
                  ap (λ m. packet_weight m e.spelt) (width-there e width p is t at),
                  ap (λ s. sent_weight q.responder.mtu s e.spelt) is_sent,
                )
