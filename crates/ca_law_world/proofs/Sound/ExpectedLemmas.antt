-- What an arriving request makes of a queue pair that can come up.
use Rattle.std.proofs.Common.{◌≡◌, ℕ, ◌+◌, ◌-◌, ◌*◌, ◌≤◌, ◌<◌, nat_lt, arith, Bool, true, false, List, [], ◌∷◌, length, Option, None, Some, IfSome, subst, ◌∙◌, ◌||◌, ◌==◌, not, ap, sym, true≢false, if◌then◌else◌, refl}
use Rattle.std.proofs.lemmas.Bool.{ltb-false, not-false, or_parts}
use Rattle.std.proofs.lemmas.List.{length-take}
use Rattle.std.specs.List.{flat_map}
use Rattle.std.specs.Option.{option_map, option_map_or}
use Rattle.ca_keys.specs.Memory.{little_endian, little_endian_bytes}
use Rattle.ca_base.specs.Sight.{Invalidation}
use Rattle.ca_keys.specs.declared.access.Ask.{Ask}
use Rattle.ca_keys.specs.declared.access.Kind.{Kind}
use Rattle.ca_keys.specs.declared.access.Kind.TheVariants as kinds
use Rattle.ca_base.specs.declared.completion.WcOp.TheVariants as operations
use Rattle.ca_base.specs.declared.completion.WcStatus.TheVariants.{Success, LocalLength, LocalProtection, MemoryManagement}
use Rattle.ca_base.specs.declared.limits.TheConstants.{ATOMIC_BYTES, MAX_MESSAGE_BYTES, MAX_PIECES, SAVED_RESULTS}
use Rattle.ca_base.specs.declared.queue_numbers.Message.{Message}
use Rattle.ca_base.specs.declared.queue_numbers.Message.TheVariants as messages
use Rattle.ca_base.specs.declared.queue_numbers.Queued.TheVariants as queued
use Rattle.ca_base.specs.declared.refusals.OpRefusal.{OpRefusal}
use Rattle.ca_base.specs.declared.request.RecvRequest.{RecvRequest}
use Rattle.ca_keys.specs.declared.verdict.Verdict.TheVariants as verdicts
use Rattle.ca_base.specs.objects.QueuePair.{QueuePair, receive_in_use}
use Rattle.ca_base.specs.declared.saved_result.SavedResult.{SavedResult}
use Rattle.ca_base.specs.objects.Saved.{after_save}
use Rattle.ca_base.specs.declared.request.PlacedReceive.{PlacedReceive}
use Rattle.ca_base.specs.objects.SharedReceives.{SharedReceives}
use Rattle.ca_base.specs.objects.WorkQueue.{WorkQueue}
use Rattle.ca_model.specs.ca_wire.declared.atomic_eth.AtomicEth.{AtomicEth}
use Rattle.ca_model.specs.ca_wire.declared.reth.Reth.{Reth}
use Rattle.ca_model.specs.ca_wire.declared.shape.Position.{Position}
use Rattle.ca_model.specs.ca_wire.declared.syndrome.NakCode.{NakCode}
use Rattle.ca_model.specs.ca_wire.declared.syndrome.NakCode.TheVariants.{InvalidRequest, RemoteAccessError, RemoteOperationalError}
use Rattle.ca_model.specs.ca_wire.Packet.{Fields}
use Rattle.ca_model.specs.ca_wire.Shapes.{ends}
use Rattle.ca_model.specs.Packets.{number_put}
use Rattle.ca_model.specs.Requests.{list_length, segments}
use Rattle.ca_model.specs.machine.Arrivals.{next_receive, packet_ask, refusal_effects, remote_mark, with_answer, with_flag, with_message, with_receive_taken}
use Rattle.ca_model.specs.machine.Completions.{receive_mark}
use Rattle.ca_model.specs.declared.receiving.Receiving.{Receiving}
use Rattle.ca_model.specs.declared.write_reach.WriteReach.{WriteReach}
use Rattle.ca_model.specs.machine.Expected.{after_send_packet, after_write_packet, atomic_row, behind_marks, continues, expected_row, fits_payload, fits_write, has_no_place, invalidation_of, is_invalid, is_misaligned, message_left, queue_after_packet, read_queued, receive_asks, receive_failure_effects, revoked_marks, rnr_effects, send_row, valid_row, with_shared_receive, with_window_gone, write_row, write_reach}
use Rattle.ca_model.specs.machine.Places.{IsInOrder, completions_in}
use Rattle.ca_model.specs.machine.Requester.{local_denial}
use Rattle.ca_model.specs.machine.Responses.{local_writes, writes_by}
use Rattle.ca_model.specs.machine.Row as rows
use Rattle.ca_model.specs.machine.Row.{Ending, Does, Effects, Row, plain_row, queue_and_marks}
use Rattle.ca_model.specs.ca_wire.declared.shape.Shape.{Shape}
use Rattle.ca_model.specs.ca_wire.declared.shape.Shape.TheVariants as shapes
use Rattle.ca_model.specs.machine.Invariants.{IsMessage, IsQueue, IsSharedReceives, IsTaken, is_idle}
use Rattle.ca_law_world.proofs.Sound.ArrivalLemmas.{IsHeld, IsTaking, answer-queue, flag-queue, message-queue, no-message-queue, packet-answer-queue, packet-queue, receive-failure-good, refusal-good, responder-later, segments-enough, taking}
use Rattle.ca_law_world.proofs.Sound.GoodLemmas.{IsGood, IsLater, later-on, later-same, taken-same}
use Rattle.ca_law_world.proofs.Sound.NumberingLemmas.{list-asks}
use Rattle.ca_law_world.proofs.Sound.OrderLemmas.{IsSameWork, holding, order-from, order-still, receive-order, taking-order}
use Rattle.ca_law_world.proofs.Sound.RequesterLemmas.{good-from}
use Rattle.ca_law_world.proofs.Sound.ResponseLemmas.{IsGoodEnding, IsGoodRow, local-writes-quiet, more-marks, more-writes, plain-good}
use Rattle.ca_law_world.proofs.Sound.TurnLemmas.{windows-queue}
use Rattle.ca_law_world.proofs.Sound.RowWalks.{walk-expected, walk-valid}

-- effects that only change the responder's numbers
pub responder-good : (q p : QueuePair) → IsQueue p → IsLater q p → IsSameWork q p → IsGood q (queue_and_marks p [])
responder-good q p s later same = record { sound = s; later = later; settled = record {}; order = order-still q (queue_and_marks p []) same refl }

windows-later : (q : QueuePair) (windows : ℕ) → IsLater q (record q { windows = windows })
windows-later q windows = record { queue = refl; domain = refl; send_cq = refl; recv_cq = refl; srq = refl; finished = omega arith; taken = taken-same q.receives }

held-later : (q p : QueuePair) (r : PlacedReceive) → p.receives ≡ q.receives → IsHeld q r → IsHeld p r
held-later q p r same held = record { receive = held.receive; taken = subst (λ o. IfSome o (λ x. r.place < x.next_taken)) (sym same) held.taken }

held-message : (q : QueuePair) (r : PlacedReceive) (bytes : ℕ) (o : Option (WorkQueue RecvRequest)) → IfSome o (λ x. r.place < x.next_taken)
    → IsTaken o (Some (messages.Send r.place r.receive bytes))
held-message q r bytes None taken = record {}
held-message q r bytes (Some x) taken = taken

send-packet-good : (q : QueuePair) (p : Fields) (place : Position) (r : Receiving) → IsQueue q → is_idle q.state ≡ false → IsHeld q r.receive
    → r.before + length p.payload ≤ list_length r.receive.receive.list.items → IsGood (holding r.receive q) (after_send_packet q p place r)
send-packet-good q p place r s busy held room = by (ends place)
  where
    after : Bool → QueuePair
    after at_end = queue_after_packet p 1 at_end true q

    message : Message
    message = messages.Send r.receive.place r.receive.receive (r.before + length p.payload)

    sound : (at_end : Bool) → IsQueue (after at_end)
    sound at_end = packet-queue p 1 at_end true q s busy

    held-later : (at_end : Bool) (m : Option Message) → IsLater (holding r.receive q) (with_message m (after at_end))
    held-later at_end m = responder-later (holding r.receive q) (with_message m (after at_end)).responder

    by : (b : Bool) → IsGood (holding r.receive q) (
        if b
        then queue_and_marks (with_message None (after true))
        (receive_mark q.queue r.receive.place r.receive.receive Success operations.Recv (r.before + length p.payload) p.imm (option_map (λ key. record { 0 = key }) p.ieth) ∷ [])
        else queue_and_marks (with_message (Some message) (after false)) [])
    by true = record {
      sound = no-message-queue (after true) (sound true) busy;
      later = held-later true None;
      settled = ((refl, held.taken), record {});
      order = receive-order r.receive q (with_message None (after true)) r.receive.receive.id Success operations.Recv (r.before + length p.payload) p.imm
          (option_map (λ key. record { 0 = key }) p.ieth) None (record { sends = refl; receives = refl; oldest = refl; in_use = refl }) held.taken;
    }
    by false = responder-good (holding r.receive q) (with_message (Some message) (after false))
        (message-queue (Some message) (after false) (sound false) busy (held.receive, room) (held-message q r.receive (r.before + length p.payload) q.receives held.taken))
        (held-later false (Some message)) (record { sends = refl; receives = refl; oldest = refl; in_use = refl })

pub revoked-quiet : (q : QueuePair) (i : Option Invalidation) → completions_in (revoked_marks q i) ≡ []
revoked-quiet q None = refl
revoked-quiet q (Some i) = refl

-- A SEND packet with its receive; `before` is the queue pair, and `q` is it without the receive that the message takes.
-- What stands in order with that receive in use does so before.
send-good : (before : QueuePair) (p : Fields) (place : Position) (r : Receiving) (q : QueuePair) → (if r.taken then with_receive_taken before else before) ≡ q
    → IsLater before q → IsQueue q → is_idle q.state ≡ false → IsHeld q r.receive
    → ((e : Effects) → IsInOrder (holding r.receive q) e → IsInOrder before (if r.taken then with_shared_receive q e else e)) → IsGoodRow before (send_row before p place r)
send-good before p place r q is later s busy held order = subst (λ x. IsGoodRow before (row x)) (sym is) (too_long (nat_lt (list_length r.receive.receive.list.items) (r.before + length p.payload)) refl)
  where
    took : QueuePair → Effects → Effects
    took q e = if r.taken then with_shared_receive q e else e

    by : QueuePair → Option OpRefusal → Effects
    by q (Some cause) = receive_failure_effects q r.receive MemoryManagement (Some cause) RemoteOperationalError
    by q None = behind_marks (revoked_marks q (invalidation_of q p)) (after_send_packet (with_window_gone (invalidation_of q p) q) p place r)

    row_of : QueuePair → Bool → Row
    row_of q b =
        if b then plain_row (Does (took q (receive_failure_effects q r.receive LocalLength None InvalidRequest)))
        else record {
          asks = receive_asks q p r;
          invalidation = invalidation_of q p;
          denied = λ d. Does (took q (behind_marks (local_denial d ∷ []) (receive_failure_effects q r.receive LocalProtection None RemoteOperationalError)));
          allowed = λ bytes refusal. Does (took q (record (behind_marks (local_writes (writes_by (receive_asks q p r) p.payload)) (by q refusal)) { writes = writes_by (receive_asks q p r) p.payload }));
        }

    row : QueuePair → Row
    row q = row_of q (nat_lt (list_length r.receive.receive.list.items) (r.before + length p.payload))

    there : QueuePair
    there = holding r.receive q

    there-later : IsLater before there
    there-later = later-on before q there later (responder-later q there.responder)

    took-good : (e : Effects) → IsGood there e → IsGood before (took q e)
    took-good e good = on r.taken (order e good.order)
      where
        on : (b : Bool) → IsInOrder before (if b then with_shared_receive q e else e) → IsGood before (if b then with_shared_receive q e else e)
        on true in-order = record { sound = good.sound; later = later-on before there e.queue there-later good.later; settled = good.settled; order = in-order }
        on false in-order = record { sound = good.sound; later = later-on before there e.queue there-later good.later; settled = good.settled; order = in-order }

    gone : QueuePair
    gone = with_window_gone (invalidation_of q p) q

    by-good : nat_lt (list_length r.receive.receive.list.items) (r.before + length p.payload) ≡ false → (refusal : Option OpRefusal) → IsGood there (by q refusal)
    by-good fits (Some cause) = receive-failure-good q r.receive MemoryManagement (Some cause) RemoteOperationalError s busy held
    by-good fits None = more-marks there (after_send_packet gone p place r) (revoked_marks q (invalidation_of q p)) (revoked-quiet q (invalidation_of q p))
        (good-from there (holding r.receive gone) (after_send_packet gone p place r) (windows-later there gone.windows) (record { sends = refl; receives = refl; oldest = refl; in_use = refl })
        (send-packet-good gone p place r (windows-queue q gone.windows s) busy (held-later q gone r.receive refl held)
        (ltb-false (list_length r.receive.receive.list.items) (r.before + length p.payload) fits)))

    too_long : (b : Bool) → nat_lt (list_length r.receive.receive.list.items) (r.before + length p.payload) ≡ b → IsGoodRow before (row_of q b)
    too_long true e = plain-good before _ (took-good _ (receive-failure-good q r.receive LocalLength None InvalidRequest s busy held))
    too_long false e = record {
      denied = λ d. took-good _ (more-marks there (receive_failure_effects q r.receive LocalProtection None RemoteOperationalError) (local_denial d ∷ []) refl
          (receive-failure-good q r.receive LocalProtection None RemoteOperationalError s busy held));
      allowed = λ bytes refusal. took-good _ (more-writes there (behind_marks (local_writes (writes_by (receive_asks q p r) p.payload)) (by q refusal)) (writes_by (receive_asks q p r) p.payload)
          (more-marks there (by q refusal) (local_writes (writes_by (receive_asks q p r) p.payload)) (local-writes-quiet (writes_by (receive_asks q p r) p.payload)) (by-good e refusal)));
      few = list-asks q kinds.Write r.before (length p.payload) r.receive.receive.list.items held.receive;
    }

-- a WRITE of which no more is left than it has, and no more than a message may have
record IsReach (r : WriteReach) : Type 0 where
  left : r.left ≤ r.whole
  whole : r.whole ≤ MAX_MESSAGE_BYTES

reach-sound : (q : QueuePair) (p : Fields) → IfSome p.reth (λ h. h.length ≤ MAX_MESSAGE_BYTES) → IsMessage q.responder.message → IfSome (write_reach q p) IsReach
reach-sound q p short message = by p.reth short q.responder.message message
  where
    reach : Option Reth → Option Message → Option WriteReach
    reach (Some h) message = Some (record { key = h.key; address = h.address; left = h.length; whole = h.length })
    reach None (Some (messages.Write key address left count)) = Some (record { key = key; address = address; left = left; whole = count })
    reach None message = None

    by : (o : Option Reth) → IfSome o (λ h. h.length ≤ MAX_MESSAGE_BYTES) → (m : Option Message) → IsMessage m → IfSome (reach o m) IsReach
    by (Some h) short m message = record { left = omega arith; whole = short }
    by None short (Some (messages.Write key address left count)) message = record { left = message.0; whole = message.1 }
    by None short (Some (messages.Send at receive bytes)) message = record {}
    by None short None message = record {}

write-packet-good : (q : QueuePair) (p : Fields) (place : Position) (r : WriteReach) (next : Option PlacedReceive) → IsQueue q → is_idle q.state ≡ false → IsReach r
    → IfSome next (IsTaking q) → receive_in_use q.responder.message ≡ None → IsGood q (after_write_packet q p place r next)
write-packet-good q p place r next s busy reach taken unheld = at (ends place)
  where
    after : Bool → QueuePair → QueuePair
    after at_end q = queue_after_packet p 1 at_end true q

    done : QueuePair → QueuePair
    done q = with_message None (after true q)

    done-later : (q : QueuePair) → IsLater q (done q)
    done-later q = later-on q (after true q) (done q) (responder-later q (after true q).responder) (responder-later (after true q) (done q).responder)

    completed : ℕ → PlacedReceive → Effects
    completed imm receive = queue_and_marks (done (with_receive_taken q))
        (receive_mark q.queue receive.place receive.receive Success operations.RecvImm r.whole (Some imm) None ∷ [])

    by : Option ℕ → Option PlacedReceive → Effects
    by (Some imm) (Some receive) = with_shared_receive q (completed imm receive)
    by imm next = queue_and_marks (done q) []

    plain : IsGood q (queue_and_marks (done q) [])
    plain = responder-good q (done q) (no-message-queue (after true q) (packet-queue p 1 true true q s busy) busy) (done-later q)
        (record { sends = refl; receives = refl; oldest = refl; in_use = sym unheld })

    by-good : (imm : Option ℕ) (next : Option PlacedReceive) → IfSome next (IsTaking q) → IsGood q (by imm next)
    by-good (Some imm) (Some receive) taking = record {
      sound = no-message-queue (after true (with_receive_taken q)) (packet-queue p 1 true true (with_receive_taken q) taking.sound busy) busy;
      later = later-on q (with_receive_taken q) (done (with_receive_taken q)) taking.later (done-later (with_receive_taken q));
      settled = ((refl, taking.held.taken), record {});
      order = taking-order q receive (completed imm receive) unheld taking.place s.source (receive-order receive (with_receive_taken q) (done (with_receive_taken q))
          receive.receive.id Success operations.RecvImm r.whole (Some imm) None None (record { sends = refl; receives = refl; oldest = refl; in_use = refl }) taking.held.taken);
    }
    by-good (Some imm) None taking = plain
    by-good None next taking = plain

    message : IsMessage (Some (message_left r (length p.payload)))
    message = (omega (arith, reach.left), reach.whole)

    untaken : (o : Option (WorkQueue RecvRequest)) → IsTaken o (Some (message_left r (length p.payload)))
    untaken None = record {}
    untaken (Some x) = record {}

    at : (b : Bool) → IsGood q (if b then by p.imm next else queue_and_marks (with_message (Some (message_left r (length p.payload))) (after false q)) [])
    at true = by-good p.imm next taken
    at false = responder-good q (with_message (Some (message_left r (length p.payload))) (after false q))
        (message-queue (Some (message_left r (length p.payload))) (after false q) (packet-queue p 1 false true q s busy) busy message (untaken q.receives))
        (later-on q (after false q) _ (responder-later q (after false q).responder) (responder-later (after false q) (with_message (Some (message_left r (length p.payload))) (after false q)).responder))
        (record { sends = refl; receives = refl; oldest = refl; in_use = sym unheld })

write-good : (q : QueuePair) (p : Fields) (envelope : Option ℕ) (place : Position) (next : Option PlacedReceive) (r : WriteReach) → IsQueue q → is_idle q.state ≡ false
    → IsReach r → IfSome next (IsTaking q) → receive_in_use q.responder.message ≡ None → IsGoodRow q (write_row q p envelope place next r)
write-good q p envelope place next r s busy reach taken unheld = record {
  denied = λ d. more-marks q (refusal_effects RemoteAccessError q) (remote_mark d.ask envelope (verdicts.Denied d.denial) ∷ []) refl
      (refusal-good RemoteAccessError q s busy);
  allowed = λ bytes refusal. more-writes q
      (behind_marks (remote_mark (packet_ask q r.key kinds.Write r.address r.left (length p.payload)) envelope (verdicts.Wrote p.payload) ∷ []) (after_write_packet q p place r next))
      (if r.left == 0 then [] else (packet_ask q r.key kinds.Write r.address r.left (length p.payload), p.payload) ∷ [])
      (more-marks q (after_write_packet q p place r next)
      (remote_mark (packet_ask q r.key kinds.Write r.address r.left (length p.payload)) envelope (verdicts.Wrote p.payload) ∷ []) refl
      (write-packet-good q p place r next s busy reach taken unheld));
  few = few (r.left == 0);
}
  where
    few : (b : Bool) → length (if b then [] else packet_ask q r.key kinds.Write r.address r.left (length p.payload) ∷ []) ≤ MAX_PIECES
    few true = omega arith
    few false = omega arith

read-good : (q : QueuePair) (p : Fields) (envelope : Option ℕ) (h : Reth) → IsQueue q → is_idle q.state ≡ false → h.length ≤ MAX_MESSAGE_BYTES
    → IsGood q (read_queued q p envelope h)
read-good q p envelope h s busy short = responder-good q (read_queued q p envelope h).queue
    (packet-answer-queue p (segments q.responder.mtu h.length) true (queued.Read q.responder.expected h.key h.address h.length true envelope false) q s busy
    (omega arith, enough (segments q.responder.mtu h.length) (q.responder.expected + segments q.responder.mtu h.length - q.responder.expected) refl (omega arith)))
    (later-on q answered _ (responder-later q answered.responder) (responder-later answered (read_queued q p envelope h).queue.responder))
    (record { sends = refl; receives = refl; oldest = refl; in_use = refl })
  where
    answered : QueuePair
    answered = with_answer (queued.Read q.responder.expected h.key h.address h.length true envelope false) q

    enough : (k j : ℕ) → k ≡ segments q.responder.mtu h.length → j ≡ k → h.length ≤ j * q.responder.mtu
    enough k j e f = subst (λ i. h.length ≤ i * q.responder.mtu) (sym (f ∙ e)) (segments-enough q.responder.mtu h.length s.responder.mtu)

save-short : (psn found : ℕ) (saved : List SavedResult) → length (after_save psn found saved) ≤ SAVED_RESULTS
save-short psn found saved = omega (arith, length-take SAVED_RESULTS (record { psn = psn; found = found } ∷ saved))

saved-queue : (q : QueuePair) (saved : List SavedResult) → IsQueue q → length saved ≤ SAVED_RESULTS → IsQueue (record q { saved = saved })
saved-queue q saved s short = record {
  sends = s.sends;
  receives = s.receives;
  source = s.source;
  requester = s.requester;
  begun = s.begun;
  responder = s.responder;
  taken = s.taken;
  peer = s.peer;
  connected = s.connected;
  saved = short;
}

atomic-good : (q : QueuePair) (p : Fields) (envelope : Option ℕ) (kind : Kind) (a : AtomicEth) → IsQueue q → is_idle q.state ≡ false → IsGoodRow q (atomic_row q p envelope kind a)
atomic-good q p envelope kind a s busy = record {
  denied = λ d. more-marks q (refusal_effects RemoteAccessError q) (remote_mark d.ask envelope (verdicts.Denied d.denial) ∷ []) refl
      (refusal-good RemoteAccessError q s busy);
  allowed = λ bytes refusal. acted (little_endian (flat_map (λ b. b) bytes));
  few = omega arith;
}
  where
    kept : ℕ → QueuePair
    kept found = record q { saved = after_save q.responder.expected found q.saved }

    put : ℕ → ℕ
    put found = option_map_or (λ n. n) (number_put kind a found) 0

    ask : Ask
    ask = packet_ask q a.key kind a.address ATOMIC_BYTES ATOMIC_BYTES

    after : ℕ → QueuePair
    after found = queue_after_packet p 1 true false (with_answer (queued.Atomic q.responder.expected found false) (kept found))

    acted : (found : ℕ) → IsGood q (record (queue_and_marks (after found) (remote_mark ask envelope (verdicts.Swapped found (put found)) ∷ [])) {
      writes = (ask, little_endian_bytes (put found)) ∷ [];
    })
    acted found = record {
      sound = packet-answer-queue p 1 true (queued.Atomic q.responder.expected found false) (kept found)
          (saved-queue q (after_save q.responder.expected found q.saved) s (save-short q.responder.expected found q.saved)) busy (omega arith);
      later = record { queue = refl; domain = refl; send_cq = refl; recv_cq = refl; srq = refl; finished = omega arith; taken = taken-same q.receives };
      settled = (record {}, record {});
      order = order-still q _ (record { sends = refl; receives = refl; oldest = refl; in_use = refl }) refl;
    }

-- what a packet that is not invalid keeps to: its RETH tells of no more bytes than a message may have
pub valid-length : (q : QueuePair) (p : Fields) (shape : Shape) → is_invalid q p shape ≡ false → IfSome p.reth (λ h. h.length ≤ MAX_MESSAGE_BYTES)
valid-length q p shape e = by p.reth (or_parts front (option_map_or (λ h. nat_lt MAX_MESSAGE_BYTES h.length) p.reth false)
    (or_parts (front || option_map_or (λ h. nat_lt MAX_MESSAGE_BYTES h.length) p.reth false) (is_misaligned p)
    (or_parts (front || option_map_or (λ h. nat_lt MAX_MESSAGE_BYTES h.length) p.reth false || is_misaligned p) (has_no_place q shape) e).0).0).1
  where
    front : Bool
    front = not (continues q.responder.message shape) || not (fits_payload q p shape) || not (fits_write q p shape)

    by : (o : Option Reth) → option_map_or (λ h. nat_lt MAX_MESSAGE_BYTES h.length) o false ≡ false → IfSome o (λ h. h.length ≤ MAX_MESSAGE_BYTES)
    by None e = record {}
    by (Some h) e = ltb-false MAX_MESSAGE_BYTES h.length e

-- and it goes on with the message in progress, or begins one where none is
pub valid-goes : (q : QueuePair) (p : Fields) (shape : Shape) → is_invalid q p shape ≡ false → continues q.responder.message shape ≡ true
valid-goes q p shape e = not-false (continues q.responder.message shape) (or_parts (not (continues q.responder.message shape)) (not (fits_payload q p shape))
    (or_parts (not (continues q.responder.message shape) || not (fits_payload q p shape)) (not (fits_write q p shape))
    (or_parts front (option_map_or (λ h. nat_lt MAX_MESSAGE_BYTES h.length) p.reth false)
    (or_parts (front || option_map_or (λ h. nat_lt MAX_MESSAGE_BYTES h.length) p.reth false) (is_misaligned p)
    (or_parts (front || option_map_or (λ h. nat_lt MAX_MESSAGE_BYTES h.length) p.reth false || is_misaligned p) (has_no_place q shape) e).0).0).0).0).0
  where
    front : Bool
    front = not (continues q.responder.message shape) || not (fits_payload q p shape) || not (fits_write q p shape)

-- a WRITE goes on where no message holds a receive
pub unheld-write : (m : Option Message) (place : Position) → continues m (shapes.Write place) ≡ true → receive_in_use m ≡ None
unheld-write None place goes = refl
unheld-write (Some (messages.Write key address left count)) place goes = refl
unheld-write (Some (messages.Send at receive bytes)) place goes = absurd (true≢false (sym goes))

refused : (code : NakCode) (q : QueuePair) → IsQueue q → is_idle q.state ≡ false → IsGoodRow q (plain_row (Does (refusal_effects code q)))
refused code q s busy = plain-good q (Does (refusal_effects code q)) (refusal-good code q s busy)

valid-good : (q : QueuePair) (p : Fields) (envelope : Option ℕ) (next : Option PlacedReceive) (shape : Shape) → IsQueue q → is_idle q.state ≡ false
    → IfSome next (IsTaking q) → IfSome p.reth (λ h. h.length ≤ MAX_MESSAGE_BYTES) → continues q.responder.message shape ≡ true → IsGoodRow q (valid_row q p envelope next shape)
valid-good q p envelope next shape s busy taken short goes = walk-valid (IsGoodRow q) q p envelope next shape (refused InvalidRequest q s busy)
    (λ place r is unheld. first place r (subst (λ o. IfSome o (IsTaking q)) is taken) unheld)
    (λ place at receive bytes is. send-good q p place (record { receive = record { place = at; receive = receive }; before = bytes; taken = false }) q refl (later-same q) s busy (record {
      receive = (subst IsMessage is s.responder.message).0;
      taken = held at receive bytes q.receives (subst (λ m. IsTaken q.receives m) is s.taken);
    })
    (λ e order. order-from q (holding (record { place = at; receive = receive }) q) e
    (record { sends = refl; receives = refl; oldest = refl; in_use = sym (ap receive_in_use is) }) order))
    (λ place r shape-is is. write-good q p envelope place next r s busy (subst (λ o. IfSome o IsReach) is (reach-sound q p short s.responder.message)) taken
    (unheld-write q.responder.message place (subst (λ x. continues q.responder.message x ≡ true) shape-is goes)))
    (λ h is. plain-good q _ (read-good q p envelope h s busy (subst (λ o. IfSome o (λ h. h.length ≤ MAX_MESSAGE_BYTES)) is short))) (λ kind a. atomic-good q p envelope kind a s busy)
  where
    first : (place : Position) (r : PlacedReceive) → IsTaking q r → receive_in_use q.responder.message ≡ None
        → IsGoodRow q (send_row q p place (record { receive = r; before = 0; taken = true }))
    first place r taken unheld = send-good q p place (record { receive = r; before = 0; taken = true }) (with_receive_taken q) refl taken.later taken.sound busy taken.held
        (λ e order. taking-order q r e unheld taken.place s.source order)

    held : (at : ℕ) (receive : RecvRequest) (bytes : ℕ) (o : Option (WorkQueue RecvRequest)) → IsTaken o (Some (messages.Send at receive bytes)) → IfSome o (λ x. at < x.next_taken)
    held at receive bytes None t = record {}
    held at receive bytes (Some x) t = t

-- a row of the queue pair after one change, as one of it before
row-from : (q p : QueuePair) (row : Row) → IsLater q p → IsSameWork q p → IsGoodRow p row → IsGoodRow q row
row-from q p row later same good = record {
  denied = λ d. on (row.denied d) (good.denied d);
  allowed = λ bytes refusal. on (row.allowed bytes refusal) (good.allowed bytes refusal);
  few = good.few;
}
  where
    on : (e : Ending) → IsGoodEnding p e → IsGoodEnding q e
    on (rows.NotPossible reason) good = record {}
    on (Does e) good = good-from q p e later same good

pub expected-good : (before : QueuePair) (shared : Option SharedReceives) (p : Fields) (envelope : Option ℕ) (shape : Shape) → IsQueue before → is_idle before.state ≡ false
    → IfSome shared IsSharedReceives → IsGoodRow before (expected_row before shared p envelope shape)
expected-good before shared p envelope shape sound busy all =
    row-from before q (expected_row before shared p envelope shape) (responder-later before q.responder) (record { sends = refl; receives = refl; oldest = refl; in_use = refl })
    (walk-expected (IsGoodRow q) before shared p envelope shape (refused InvalidRequest q s busy) waits
    (λ e. valid-good q p envelope (next_receive q shared) shape s busy (taken (next_receive q shared) refl) (valid-length q p shape e) (valid-goes q p shape e)))
  where
    q : QueuePair
    q = with_flag false before

    s : IsQueue q
    s = flag-queue false before sound

    taken : (next : Option PlacedReceive) → next_receive q shared ≡ next → IfSome next (IsTaking q)
    taken None e = record {}
    taken (Some r) e = taking q shared r s all e

    waits : IsGoodRow q (plain_row (Does (rnr_effects q)))
    waits = plain-good q _ (responder-good q (rnr_effects q).queue
        (flag-queue true (with_answer (queued.Rnr q.responder.expected) q) (answer-queue (queued.Rnr q.responder.expected) q s busy (omega arith)))
        (later-on q (with_answer (queued.Rnr q.responder.expected) q) _ (responder-later q (with_answer (queued.Rnr q.responder.expected) q).responder)
        (responder-later (with_answer (queued.Rnr q.responder.expected) q) (rnr_effects q).queue.responder))
        (record { sends = refl; receives = refl; oldest = refl; in_use = refl }))
