-- The rows of the responder: what each makes of a packet, a link's responder may make of it.
use Rattle.std.proofs.Common.{◌≡◌, ℕ, ◌+◌, ◌-◌, ◌≤◌, ◌<◌, ◌==◌, ◌&&◌, Bool, true, false, nat_le, nat_lt, if◌then◌else◌, List, [], ◌∷◌, ◌++◌, length, map, take, Option, None, Some, IfSome, is_none, refl, ap, sym, subst, ◌∙◌, arith}
use Rattle.std.proofs.lemmas.Bool.{leb-true, ltb-false, ltb-true, eqb-true}
use Rattle.std.proofs.lemmas.List.{map-append}
use Rattle.std.specs.List.{Contains, flat_map}
use Rattle.std.specs.Option.{option_map, option_map_or}
use Rattle.ca_keys.specs.Memory.{little_endian, little_endian_bytes}
use Rattle.ca_keys.specs.declared.access.Ask.{Ask}
use Rattle.ca_keys.specs.declared.access.Kind.{Kind}
use Rattle.ca_keys.specs.declared.access.Kind.TheVariants as kinds
use Rattle.ca_keys.specs.declared.verdict.Verdict.TheVariants as verdicts
use Rattle.ca_base.specs.declared.completion.WcOp.TheVariants as operations
use Rattle.ca_base.specs.declared.completion.WcStatus.{WcStatus}
use Rattle.ca_base.specs.declared.completion.WcStatus.TheVariants.{Success, LocalLength, LocalProtection, MemoryManagement}
use Rattle.ca_base.specs.declared.limits.TheConstants.{ATOMIC_BYTES, MAX_DUPLICATES, SAVED_RESULTS}
use Rattle.ca_base.specs.declared.queue_numbers.Message.TheVariants as messages
use Rattle.ca_base.specs.declared.queue_numbers.Queued.{Queued}
use Rattle.ca_base.specs.declared.queue_numbers.Queued.TheVariants as queued
use Rattle.ca_base.specs.declared.refusals.OpRefusal.{OpRefusal}
use Rattle.ca_base.specs.declared.request.PlacedReceive.{PlacedReceive}
use Rattle.ca_base.specs.declared.saved_result.SavedResult.{SavedResult as KeptResult}
use Rattle.ca_base.specs.objects.Answers.{answers_before, duplicate_count, is_ack, psn_of_answer, with_ack_at_end}
use Rattle.ca_base.specs.objects.QueuePair.{QueuePair}
use Rattle.ca_base.specs.objects.Saved.{after_save, saved_at}
use Rattle.ca_base.specs.objects.SharedReceives.{SharedReceives}
use Rattle.ca_connection.proofs.LayoutLemmas.{span-is_read}
use Rattle.ca_connection.proofs.ListLemmas.{contains-head, contains-more}
use Rattle.ca_connection.specs.Layout.{Direction, Work, bytes_left, is_atomic, is_data, is_read, is_write, segments, span}
use Rattle.ca_connection.specs.Layout.Work.{Local, Send, Write, Read, Atomic}
use Rattle.ca_connection.specs.Link.{RequestPacket, Responder, Response}
use Rattle.ca_connection.specs.Link.NakReason.{PsnSequenceError as SequenceReason, ReceiverNotReady}
use Rattle.ca_connection.specs.Link.Response.{Ack, Nak, Data, Found}
use Rattle.ca_connection.specs.Moves.{Keeps, Reception, Receives, responder_at, with_response}
use Rattle.ca_connection.specs.Moves.Keeps.{none as keeps_none, keep as keeps_one, leave as leaves_one}
use Rattle.ca_connection.specs.Moves.Reception.{Neither, Rejected, Accepted}
use Rattle.ca_connection.specs.Moves.Receives.{drop as packet_drop, sequence_error, write_again, read_again as read_once_more, atomic_again as atomic_once_more, refuse, write as packet_write, write_and_acknowledge, read as packet_read, atomic as packet_atomic}
use Rattle.ca_model.specs.Packets.{number_put}
use Rattle.ca_model.specs.Requests.{list_length}
use Rattle.ca_model.specs.declared.mark.Drop1.{Drop1}
use Rattle.ca_model.specs.declared.mark.Drop1.TheVariants as drops
use Rattle.ca_model.specs.declared.mark.Mark.{Mark}
use Rattle.ca_model.specs.declared.receiving.Receiving.{Receiving}
use Rattle.ca_model.specs.declared.write_reach.WriteReach.{WriteReach}
use Rattle.ca_model.specs.machine.Arrivals.{next_receive, packet_ask, refusal_effects, remote_mark, with_answer, with_flag, with_message, with_receive_taken}
use Rattle.ca_model.specs.machine.Completions.{receive_failure, receive_mark}
use Rattle.ca_model.specs.machine.Duplicates.{ack_again, ahead_effects, answer_again, atomic_again, duplicate_effects, read_again, request_row}
use Rattle.ca_model.specs.machine.Expected.{after_send_packet, after_write_packet, atomic_row, behind_marks, expected_row, invalidation_of, is_invalid, message_left, queue_after_packet, read_queued, receive_asks, receive_failure_effects, receiving_of, revoked_marks, rnr_effects, send_row, takes_receive, valid_row, with_shared_receive, with_window_gone, write_reach, write_row}
use Rattle.ca_model.specs.machine.Requester.{local_denial}
use Rattle.ca_model.specs.machine.Responses.{drop_effects, local_writes, writes_by}
use Rattle.ca_model.specs.machine.Row.{Does, Effects, Row, plain_row, queue_and_marks}
use Rattle.ca_wire.specs.Packet.{Fields}
use Rattle.ca_wire.specs.Shapes.{ends}
use Rattle.ca_wire.specs.declared.atomic_eth.AtomicEth.{AtomicEth}
use Rattle.ca_wire.specs.declared.reth.Reth.{Reth}
use Rattle.ca_wire.specs.declared.shape.Position.{Position}
use Rattle.ca_wire.specs.declared.shape.Shape.{Shape}
use Rattle.ca_wire.specs.declared.shape.Shape.TheVariants as shapes
use Rattle.ca_psn.specs.Psn.{widened}
use Rattle.ca_law_once.proofs.Rows.FoundLemmas.{flush-none, found-behind, revoked-none, writes-none, wrote-flush-none, wrote-behind, wrote-revoked-none, wrote-writes-none}
use Rattle.ca_law_once.proofs.Rows.KeepLemmas.{keeps-all, keeps-filter, keeps-take}
use Rattle.ca_law_once.specs.Entries.{RequestEntry}
use Rattle.ca_law_once.specs.Moves.{ReceivesIn, RowLeads, found_in, numbers_found, writes_told, written_in}
use Rattle.ca_law_once.specs.Sides.{kept_result, reason_of, responder_in, said}
use Rattle.ca_wire.specs.Syndrome.{nak_code}
use Rattle.ca_wire.specs.declared.syndrome.NakCode.{NakCode}
use Rattle.ca_wire.specs.declared.syndrome.NakCode.TheVariants.{PsnSequenceError, InvalidRequest, RemoteAccessError, RemoteOperationalError}
use Rattle.ca_model.specs.machine.Respond.{nak_of}

abbrev Leads : Direction → RequestPacket → ℕ → QueuePair → Row → Type 0
Leads d x w q row = RowLeads (ReceivesIn d x w (responder_in q)) row

pub plain : (P : Effects → Type 0) (e : Effects) → P e → RowLeads P (plain_row (Does e))
plain P e does = record { denied = λ d. does; allowed = λ bytes refusal. does }

pub cond-row : (P : Effects → Type 0) (b : Bool) (r s : Row) → RowLeads P r → RowLeads P s → RowLeads P (if b then r else s)
cond-row P true r s one other = one
cond-row P false r s one other = other

-- what effects leave of the responder
record Leaves (d : Direction) (n : ℕ) (queue : List Queued) (results : List KeptResult) (e : Effects) : Type 0 where
  expected : e.queue.responder.expected ≡ n
  answers : e.queue.responder.answers ≡ queue
  saved : e.queue.saved ≡ results
  mtu : e.queue.responder.mtu ≡ d.mtu

-- a link's responder that is the same does the same
received : (d : Direction) (x : RequestPacket) (w : ℕ) (r : Responder) (e : Effects) (n : ℕ) (answers : List Queued) (saved : List KeptResult) (reception : Reception) (s : Responder)
    → Leaves d n answers saved e → s.expected ≡ n → s.queue ≡ map said answers → s.results ≡ map kept_result saved
    → Receives d x w r s reception → numbers_found e.marks ≡ found_in (d.work x.place) reception → writes_told e.marks ≡ written_in (d.work x.place) reception → ReceivesIn d x w r e
received d x w r e n answers saved reception s left expected queue results does found wrote = record {
  reception = reception;
  receives = subst (λ n. Receives d x w r (record { expected = n; queue = map said e.queue.responder.answers; results = map kept_result e.queue.saved }) reception) (expected ∙ sym left.expected)
      (subst (λ xs. Receives d x w r (record { expected = s.expected; queue = xs; results = map kept_result e.queue.saved }) reception) (queue ∙ ap (map said) (sym left.answers))
      (subst (λ xs. Receives d x w r (record { expected = s.expected; queue = s.queue; results = xs }) reception) (results ∙ ap (map kept_result) (sym left.saved)) does));
  found = found;
  wrote = wrote;
  mtu = left.mtu;
}

-- nothing of the responder changes
dropped : (d : Direction) (x : RequestPacket) (w : ℕ) (q : QueuePair) (e : Effects) → Leaves d q.responder.expected q.responder.answers q.saved e → numbers_found e.marks ≡ [] → writes_told e.marks ≡ 0
    → ReceivesIn d x w (responder_in q) e
dropped d x w q e left none unwritten = received d x w (responder_in q) e q.responder.expected q.responder.answers q.saved Neither (responder_in q) left refl refl refl packet_drop none unwritten

pub drop-does : (d : Direction) (x : RequestPacket) (w : ℕ) (q : QueuePair) (cause : Drop1) → q.responder.mtu ≡ d.mtu → ReceivesIn d x w (responder_in q) (drop_effects q cause)
drop-does d x w q cause mtu = dropped d x w q (drop_effects q cause) (record { expected = refl; answers = refl; saved = refl; mtu = mtu }) refl refl

code-back : (code : NakCode) → nak_of (nak_code code) ≡ code
code-back PsnSequenceError = refl
code-back InvalidRequest = refl
code-back RemoteAccessError = refl
code-back RemoteOperationalError = refl

-- one answer more, at the end of others
said-more : (kept : List Queued) (a : Queued) → map said kept ++ (said a ∷ []) ≡ map said (kept ++ (a ∷ []))
said-more kept a = sym (map-append said kept (a ∷ []))

said-nak : (kept : List Queued) (n : ℕ) (code : NakCode) → map said kept ++ (Nak (reason_of code) n ∷ []) ≡ map said (kept ++ (queued.Nak n (nak_code code) ∷ []))
said-nak kept n code = ap (λ c. map said kept ++ (Nak (reason_of c) n ∷ [])) (sym (code-back code)) ∙ said-more kept (queued.Nak n (nak_code code))

-- the packet is refused
refused : (d : Direction) (x : RequestPacket) (q : QueuePair) (e : Effects) (code : NakCode)
    → Leaves d q.responder.expected (q.responder.answers ++ (queued.Nak q.responder.expected (nak_code code) ∷ [])) q.saved e → numbers_found e.marks ≡ [] → writes_told e.marks ≡ 0
    → ReceivesIn d x q.responder.expected (responder_in q) e
refused d x q e code left none unwritten = received d x q.responder.expected (responder_in q) e q.responder.expected (q.responder.answers ++ (queued.Nak q.responder.expected (nak_code code) ∷ [])) q.saved
    (Rejected (reason_of code)) (with_response (responder_in q) (map said q.responder.answers) (Nak (reason_of code) q.responder.expected))
    left refl (said-nak q.responder.answers q.responder.expected code) refl (refuse (reason_of code) refl (keeps-all (map said q.responder.answers))) none unwritten

refusal-does : (d : Direction) (x : RequestPacket) (q : QueuePair) (code : NakCode) → q.responder.mtu ≡ d.mtu → ReceivesIn d x q.responder.expected (responder_in q) (refusal_effects code q)
refusal-does d x q code mtu = refused d x q (refusal_effects code q) code (record { expected = refl; answers = refl; saved = refl; mtu = mtu }) (flush-none q) (wrote-flush-none q)

-- marks that tell of none, before others
behind : (d : Direction) (x : RequestPacket) (w : ℕ) (r : Responder) (ms : List Mark) (e : Effects) → numbers_found ms ≡ [] → writes_told ms ≡ 0 → ReceivesIn d x w r e → ReceivesIn d x w r (behind_marks ms e)
behind d x w r ms e none unwritten does = record {
  reception = does.reception;
  receives = does.receives;
  found = found-behind ms e.marks none ∙ does.found;
  wrote = wrote-behind ms e.marks unwritten ∙ does.wrote;
  mtu = does.mtu;
}

shared : (d : Direction) (x : RequestPacket) (w : ℕ) (r : Responder) (q : QueuePair) (e : Effects) → ReceivesIn d x w r e → ReceivesIn d x w r (with_shared_receive q e)
shared d x w r q e does = record { reception = does.reception; receives = does.receives; found = does.found; wrote = does.wrote; mtu = does.mtu }

with-writes : (d : Direction) (x : RequestPacket) (w : ℕ) (r : Responder) (writes : List (Ask × List ℕ)) (e : Effects) → ReceivesIn d x w r e → ReceivesIn d x w r (record e { writes = writes })
with-writes d x w r writes e does = record { reception = does.reception; receives = does.receives; found = does.found; wrote = does.wrote; mtu = does.mtu }

failure-does : (d : Direction) (x : RequestPacket) (q : QueuePair) (r : PlacedReceive) (status : WcStatus) (cause : Option OpRefusal) (code : NakCode) → q.responder.mtu ≡ d.mtu
    → ReceivesIn d x q.responder.expected (responder_in q) (receive_failure_effects q r status cause code)
failure-does d x q r status cause code mtu = behind d x q.responder.expected (responder_in q) (receive_failure q.queue r.place r.receive status cause ∷ []) (refusal_effects code (with_message None q)) refl refl
    (refusal-does d x (with_message None q) code mtu)

-- ---- a SEND or a WRITE

is_of-found : (work : Work) → is_data work ≡ true → [] ≡ found_in work (Accepted 0)
is_of-found Local is = refl
is_of-found (Send bytes) is = refl
is_of-found (Write bytes) is = refl
is_of-found (Read bytes) is = refl
is_of-found Atomic is = absurd (cc)

-- how often an accepted packet of a SEND or a WRITE wrote
abbrev once_if : Bool → ℕ
once_if b = if b then 1 else 0

-- an ACK takes the place of an ACK at the end: it stands behind what is kept
record EndsWithAck (n : ℕ) (answers : List Queued) : Type 0 where
  kept : List Response
  keeps : Keeps (map said answers) kept
  same : kept ++ (Ack n ∷ []) ≡ map said (with_ack_at_end n answers)

ends-with-ack : (n : ℕ) (answers : List Queued) → EndsWithAck n answers
ends-with-ack n [] = record { kept = []; keeps = keeps_none; same = refl }
ends-with-ack n (a ∷ []) = by (is_ack a) refl
  where
    by : (b : Bool) → is_ack a ≡ b → EndsWithAck n (a ∷ [])
    by true e = record { kept = []; keeps = leaves_one keeps_none; same = ap (λ b. map said (if b then queued.Ack n ∷ [] else a ∷ queued.Ack n ∷ [])) (sym e) }
    by false e = record { kept = said a ∷ []; keeps = keeps_one keeps_none; same = ap (λ b. map said (if b then queued.Ack n ∷ [] else a ∷ queued.Ack n ∷ [])) (sym e) }
ends-with-ack n (a ∷ b ∷ rest) = let more = ends-with-ack n (b ∷ rest) in record {
  kept = said a ∷ more.kept;
  keeps = keeps_one more.keeps;
  same = ap (λ t. said a ∷ t) more.same;
}

placed : (d : Direction) (x : RequestPacket) (q : QueuePair) (e : Effects) (b : Bool) → is_data (d.work x.place) ≡ true
    → Leaves d (q.responder.expected + 1) (if b then with_ack_at_end q.responder.expected q.responder.answers else q.responder.answers) q.saved e → numbers_found e.marks ≡ []
    → writes_told e.marks ≡ once_if (is_write (d.work x.place)) → ReceivesIn d x q.responder.expected (responder_in q) e
placed d x q e true is_of left none wrote = let ack = ends-with-ack q.responder.expected q.responder.answers in
    received d x q.responder.expected (responder_in q) e (q.responder.expected + 1) (with_ack_at_end q.responder.expected q.responder.answers) q.saved (Accepted 0)
    (responder_at (q.responder.expected + 1) (map kept_result q.saved) ack.kept (Ack q.responder.expected)) left refl ack.same refl (write_and_acknowledge refl is_of ack.keeps) (none ∙ is_of-found (d.work x.place) is_of) wrote
placed d x q e false is_of left none wrote =
    received d x q.responder.expected (responder_in q) e (q.responder.expected + 1) q.responder.answers q.saved (Accepted 0)
    (record { expected = q.responder.expected + 1; queue = map said q.responder.answers; results = map kept_result q.saved }) left refl refl refl
    (packet_write refl is_of (keeps-all (map said q.responder.answers))) (none ∙ is_of-found (d.work x.place) is_of) wrote

send-packet-does : (d : Direction) (x : RequestPacket) (q : QueuePair) (p : Fields) (place : Position) (r : Receiving) → is_data (d.work x.place) ≡ true → is_write (d.work x.place) ≡ false → q.responder.mtu ≡ d.mtu
    → ReceivesIn d x q.responder.expected (responder_in q) (after_send_packet q p place r)
send-packet-does d x q p place r is_of unwritten mtu = by (ends place)
  where
    by : (b : Bool) → ReceivesIn d x q.responder.expected (responder_in q) (
        if b
        then queue_and_marks (with_message None (queue_after_packet p 1 true true q))
        (receive_mark q.queue r.receive.place r.receive.receive Success operations.Recv (r.before + length p.payload) p.imm
        (option_map (λ key. record { 0 = key }) p.ieth) ∷ [])
        else queue_and_marks (with_message (Some (messages.Send r.receive.place r.receive.receive (r.before + length p.payload))) (queue_after_packet p 1 false true q)) [])
    by true = placed d x q _ p.ack is_of (record { expected = refl; answers = refl; saved = refl; mtu = mtu }) refl (sym (ap once_if unwritten))
    by false = placed d x q _ p.ack is_of (record { expected = refl; answers = refl; saved = refl; mtu = mtu }) refl (sym (ap once_if unwritten))

-- a SEND packet with its receive; `before` is the queue pair, and the receive that the message takes is taken from it
send-leads : (d : Direction) (x : RequestPacket) (before : QueuePair) (p : Fields) (place : Position) (r : Receiving) → is_data (d.work x.place) ≡ true → is_write (d.work x.place) ≡ false → before.responder.mtu ≡ d.mtu
    → Leads d x before.responder.expected before (send_row before p place r)
send-leads d x before p place r is_of unwritten mtu = taken r.taken
  where
    took : Bool → QueuePair → Effects → Effects
    took b q e = if b then with_shared_receive q e else e

    by : QueuePair → Option OpRefusal → Effects
    by q (Some cause) = receive_failure_effects q r.receive MemoryManagement (Some cause) RemoteOperationalError
    by q None = behind_marks (revoked_marks q (invalidation_of q p)) (after_send_packet (with_window_gone (invalidation_of q p) q) p place r)

    row : Bool → QueuePair → Bool → Row
    row b q long =
        if long then plain_row (Does (took b q (receive_failure_effects q r.receive LocalLength None InvalidRequest)))
        else record {
          asks = receive_asks q p r;
          invalidation = invalidation_of q p;
          denied = λ d. Does (took b q (behind_marks (local_denial d ∷ []) (receive_failure_effects q r.receive LocalProtection None RemoteOperationalError)));
          allowed = λ bytes refusal. Does (took b q (record (behind_marks (local_writes (writes_by (receive_asks q p r) p.payload)) (by q refusal)) { writes = writes_by (receive_asks q p r) p.payload }));
        }

    took-does : (b : Bool) (q : QueuePair) (e : Effects) → ReceivesIn d x before.responder.expected (responder_in before) e → ReceivesIn d x before.responder.expected (responder_in before) (took b q e)
    took-does true q e does = shared d x before.responder.expected (responder_in before) q e does
    took-does false q e does = does

    -- of the queue pair with the same responder
    on : (b : Bool) (receives : Option _) (long : Bool) → Leads d x before.responder.expected before (row b (record before { receives = receives }) long)
    on b receives true = plain (ReceivesIn d x before.responder.expected (responder_in before)) _ (took-does b q _ (failure-does d x q r.receive LocalLength None InvalidRequest mtu))
      where
        q : QueuePair
        q = record before { receives = receives }
    on b receives false = record {
      denied = λ a. took-does b q _ (behind d x before.responder.expected (responder_in before) (local_denial a ∷ []) _ refl refl (failure-does d x q r.receive LocalProtection None RemoteOperationalError mtu));
      allowed = λ bytes refusal. took-does b q _ (with-writes d x before.responder.expected (responder_in before) writes _
          (behind d x before.responder.expected (responder_in before) (local_writes writes) (by q refusal) (writes-none writes) (wrote-writes-none writes) (ended refusal)));
    }
      where
        q : QueuePair
        q = record before { receives = receives }

        writes : List (Ask × List ℕ)
        writes = writes_by (receive_asks q p r) p.payload

        ended : (refusal : Option OpRefusal) → ReceivesIn d x before.responder.expected (responder_in before) (by q refusal)
        ended (Some cause) = failure-does d x q r.receive MemoryManagement (Some cause) RemoteOperationalError mtu
        ended None = behind d x before.responder.expected (responder_in before) (revoked_marks q (invalidation_of q p)) _ (revoked-none q (invalidation_of q p)) (wrote-revoked-none q (invalidation_of q p))
            (send-packet-does d x (with_window_gone (invalidation_of q p) q) p place r is_of unwritten mtu)

    long : QueuePair → Bool
    long q = nat_lt (list_length r.receive.receive.list.items) (r.before + length p.payload)

    taken : (b : Bool) → Leads d x before.responder.expected before (row b (if b then with_receive_taken before else before) (nat_lt (list_length r.receive.receive.list.items) (r.before + length p.payload)))
    taken true = on true (with_receive_taken before).receives (nat_lt (list_length r.receive.receive.list.items) (r.before + length p.payload))
    taken false = on false before.receives (nat_lt (list_length r.receive.receive.list.items) (r.before + length p.payload))

write-packet-does : (d : Direction) (x : RequestPacket) (q : QueuePair) (p : Fields) (place : Position) (r : WriteReach) (next : Option PlacedReceive) (ask : Ask) (envelope : Option ℕ) → is_data (d.work x.place) ≡ true
    → is_write (d.work x.place) ≡ true → q.responder.mtu ≡ d.mtu
    → ReceivesIn d x q.responder.expected (responder_in q) (behind_marks (remote_mark ask envelope (verdicts.Wrote p.payload) ∷ []) (after_write_packet q p place r next))
write-packet-does d x q p place r next ask envelope is_of writes mtu = by (ends place)
  where
    done : QueuePair → QueuePair
    done q = with_message None (queue_after_packet p 1 true true q)

    at_end : Option ℕ → Option PlacedReceive → Effects
    at_end (Some imm) (Some receive) = with_shared_receive q (queue_and_marks (done (with_receive_taken q))
        (receive_mark q.queue receive.place receive.receive Success operations.RecvImm r.whole (Some imm) None ∷ []))
    at_end imm next = queue_and_marks (done q) []

    wrote : List Mark
    wrote = remote_mark ask envelope (verdicts.Wrote p.payload) ∷ []

    one : 1 ≡ once_if (is_write (d.work x.place))
    one = sym (ap once_if writes)

    ended : (imm : Option ℕ) (next : Option PlacedReceive) → ReceivesIn d x q.responder.expected (responder_in q) (behind_marks wrote (at_end imm next))
    ended (Some imm) (Some receive) = placed d x q (behind_marks wrote (at_end (Some imm) (Some receive))) p.ack is_of (record { expected = refl; answers = refl; saved = refl; mtu = mtu }) refl one
    ended (Some imm) None = placed d x q (behind_marks wrote (at_end (Some imm) None)) p.ack is_of (record { expected = refl; answers = refl; saved = refl; mtu = mtu }) refl one
    ended None next = placed d x q (behind_marks wrote (at_end None next)) p.ack is_of (record { expected = refl; answers = refl; saved = refl; mtu = mtu }) refl one

    by : (b : Bool) → ReceivesIn d x q.responder.expected (responder_in q) (behind_marks wrote (
        if b then at_end p.imm next else queue_and_marks (with_message (Some (message_left r (length p.payload))) (queue_after_packet p 1 false true q)) []))
    by true = ended p.imm next
    by false = placed d x q _ p.ack is_of (record { expected = refl; answers = refl; saved = refl; mtu = mtu }) refl one

write-leads : (d : Direction) (x : RequestPacket) (q : QueuePair) (p : Fields) (envelope : Option ℕ) (place : Position) (next : Option PlacedReceive) (r : WriteReach) → is_data (d.work x.place) ≡ true
    → is_write (d.work x.place) ≡ true → q.responder.mtu ≡ d.mtu → Leads d x q.responder.expected q (write_row q p envelope place next r)
write-leads d x q p envelope place next r is_of writes mtu = record {
  denied = λ a. behind d x q.responder.expected (responder_in q) (remote_mark a.ask envelope (verdicts.Denied a.denial) ∷ []) (refusal_effects RemoteAccessError q) refl refl (refusal-does d x q RemoteAccessError mtu);
  allowed = λ bytes refusal. with-writes d x q.responder.expected (responder_in q) (if r.left == 0 then [] else (ask, p.payload) ∷ []) _
      (write-packet-does d x q p place r next ask envelope is_of writes mtu);
}
  where
    ask : Ask
    ask = packet_ask q r.key kinds.Write r.address r.left (length p.payload)

-- ---- a READ

-- numbers of a READ, and what is accepted finds nothing
read-found : (work : Work) → is_read work ≡ true → [] ≡ found_in work (Accepted 0)
read-found Local is = refl
read-found (Send bytes) is = refl
read-found (Write bytes) is = refl
read-found (Read bytes) is = refl
read-found Atomic is = absurd (cc)

read-writes : (work : Work) → is_read work ≡ true → 0 ≡ written_in work (Accepted 0)
read-writes Local is = refl
read-writes (Send bytes) is = refl
read-writes (Write bytes) is = absurd (cc)
read-writes (Read bytes) is = refl
read-writes Atomic is = refl

-- a READ asks for as many PSNs as its packet takes
read-span : (d : Direction) (x : RequestPacket) (mtu count : ℕ) → is_read (d.work x.place) ≡ true → mtu ≡ d.mtu → count ≡ bytes_left d x.place x.number
    → segments mtu count ≡ span d x.place x.number
read-span d x mtu count is same bytes = ap (λ m. segments m count) same ∙ ap (segments d.mtu) bytes ∙ sym (span-is_read d x.place x.number is)

-- one READ answer at the end of what is kept
said-read : (kept : List Queued) (a : Queued) (n count other : ℕ) → said a ≡ Data n count → count ≡ other → map said kept ++ (Data n other ∷ []) ≡ map said (kept ++ (a ∷ []))
said-read kept a n count other is same = ap (λ m. map said kept ++ (Data n m ∷ [])) (sym same) ∙ ap (λ b. map said kept ++ (b ∷ [])) (sym is) ∙ said-more kept a

read-does : (d : Direction) (x : RequestPacket) (q : QueuePair) (p : Fields) (envelope : Option ℕ) (h : Reth) → is_read (d.work x.place) ≡ true → q.responder.mtu ≡ d.mtu
    → h.length ≡ bytes_left d x.place x.number → ReceivesIn d x q.responder.expected (responder_in q) (read_queued q p envelope h)
read-does d x q p envelope h is mtu bytes =
    received d x q.responder.expected (responder_in q) (read_queued q p envelope h) (q.responder.expected + segments q.responder.mtu h.length)
    (q.responder.answers ++ (answer ∷ [])) q.saved (Accepted 0)
    (responder_at (q.responder.expected + span d x.place x.number) (map kept_result q.saved) (map said q.responder.answers) (Data q.responder.expected (bytes_left d x.place x.number)))
    (record { expected = refl; answers = refl; saved = refl; mtu = mtu })
    (ap (λ m. q.responder.expected + m) (sym (read-span d x q.responder.mtu h.length is mtu bytes)))
    (said-read q.responder.answers answer q.responder.expected h.length (bytes_left d x.place x.number) refl bytes) refl
    (packet_read refl is (keeps-all (map said q.responder.answers))) (read-found (d.work x.place) is) (read-writes (d.work x.place) is)
  where
    answer : Queued
    answer = queued.Read q.responder.expected h.key h.address h.length true envelope false

-- ---- an atomic

atomic-found : (work : Work) (found : ℕ) → is_atomic work ≡ true → found ∷ [] ≡ found_in work (Accepted found)
atomic-found Local found is = absurd (cc)
atomic-found (Send bytes) found is = absurd (cc)
atomic-found (Write bytes) found is = absurd (cc)
atomic-found (Read bytes) found is = absurd (cc)
atomic-found Atomic found is = refl

atomic-writes : (work : Work) (found : ℕ) → is_atomic work ≡ true → 0 ≡ written_in work (Accepted found)
atomic-writes Local found is = refl
atomic-writes (Send bytes) found is = refl
atomic-writes (Write bytes) found is = absurd (cc)
atomic-writes (Read bytes) found is = refl
atomic-writes Atomic found is = refl

atomic-leads : (d : Direction) (x : RequestPacket) (q : QueuePair) (p : Fields) (envelope : Option ℕ) (kind : Kind) (a : AtomicEth) → is_atomic (d.work x.place) ≡ true → q.responder.mtu ≡ d.mtu
    → Leads d x q.responder.expected q (atomic_row q p envelope kind a)
atomic-leads d x q p envelope kind a is mtu = record {
  denied = λ b. behind d x q.responder.expected (responder_in q) (remote_mark b.ask envelope (verdicts.Denied b.denial) ∷ []) (refusal_effects RemoteAccessError q) refl refl (refusal-does d x q RemoteAccessError mtu);
  allowed = λ bytes refusal. acts (little_endian (flat_map (λ b. b) bytes));
}
  where
    ask : Ask
    ask = packet_ask q a.key kind a.address ATOMIC_BYTES ATOMIC_BYTES

    saved : ℕ → QueuePair
    saved found = record (with_answer (queued.Atomic q.responder.expected found false) q) { saved = after_save q.responder.expected found q.saved }

    put : ℕ → ℕ
    put found = option_map_or (λ n. n) (number_put kind a found) 0

    acted : ℕ → Effects
    acted found = record (queue_and_marks (queue_after_packet p 1 true false (saved found)) (remote_mark ask envelope (verdicts.Swapped found (put found)) ∷ [])) {
      writes = (ask, little_endian_bytes (put found)) ∷ [];
    }

    acts : (found : ℕ) → ReceivesIn d x q.responder.expected (responder_in q) (acted found)
    acts found = received d x q.responder.expected (responder_in q) (acted found) (q.responder.expected + 1)
        (q.responder.answers ++ (queued.Atomic q.responder.expected found false ∷ [])) (after_save q.responder.expected found q.saved) (Accepted found)
        (responder_at (q.responder.expected + 1) (record { number = q.responder.expected; found = found } ∷ map kept_result (take (SAVED_RESULTS - 1) q.saved)) (map said q.responder.answers) (Found q.responder.expected found))
        (record { expected = refl; answers = refl; saved = refl; mtu = mtu }) refl (said-more q.responder.answers (queued.Atomic q.responder.expected found false)) refl
        (packet_atomic found refl is (keeps-all (map said q.responder.answers)) (keeps-take kept_result (SAVED_RESULTS - 1) q.saved)) (atomic-found (d.work x.place) found is) (atomic-writes (d.work x.place) found is)

-- ---- the expected packet

valid-leads : (d : Direction) (x : RequestPacket) (q : QueuePair) (p : Fields) (envelope : Option ℕ) (next : Option PlacedReceive) (shape : Shape) → q.responder.mtu ≡ d.mtu → RequestEntry d x shape p
    → Leads d x q.responder.expected q (valid_row q p envelope next shape)
valid-leads d x q p envelope next (shapes.Send place) mtu is = by (receiving_of q next q.responder.message)
  where
    row : Option Receiving → Row
    row (Some r) = send_row q p place r
    row None = plain_row (Does (refusal_effects InvalidRequest q))

    by : (r : Option Receiving) → Leads d x q.responder.expected q (row r)
    by (Some r) = send-leads d x q p place r is.kind is.writes mtu
    by None = plain (ReceivesIn d x q.responder.expected (responder_in q)) (refusal_effects InvalidRequest q) (refusal-does d x q InvalidRequest mtu)
valid-leads d x q p envelope next (shapes.Write place) mtu is = by (write_reach q p)
  where
    row : Option WriteReach → Row
    row (Some r) = write_row q p envelope place next r
    row None = plain_row (Does (refusal_effects InvalidRequest q))

    by : (r : Option WriteReach) → Leads d x q.responder.expected q (row r)
    by (Some r) = write-leads d x q p envelope place next r is.kind is.writes mtu
    by None = plain (ReceivesIn d x q.responder.expected (responder_in q)) (refusal_effects InvalidRequest q) (refusal-does d x q InvalidRequest mtu)
valid-leads d x q p envelope next shapes.Read mtu is = by p.reth (is.asks is.kind)
  where
    row : Option Reth → Row
    row (Some h) = plain_row (Does (read_queued q p envelope h))
    row None = plain_row (Does (refusal_effects InvalidRequest q))

    by : (h : Option Reth) → IfSome h (λ h. h.length ≡ bytes_left d x.place x.number) → Leads d x q.responder.expected q (row h)
    by (Some h) bytes = plain (ReceivesIn d x q.responder.expected (responder_in q)) (read_queued q p envelope h) (read-does d x q p envelope h is.kind mtu bytes)
    by None bytes = plain (ReceivesIn d x q.responder.expected (responder_in q)) (refusal_effects InvalidRequest q) (refusal-does d x q InvalidRequest mtu)
valid-leads d x q p envelope next (shapes.Atomic kind) mtu is = by p.atomic
  where
    row : Option AtomicEth → Row
    row (Some a) = atomic_row q p envelope kind a
    row None = plain_row (Does (refusal_effects InvalidRequest q))

    by : (a : Option AtomicEth) → Leads d x q.responder.expected q (row a)
    by (Some a) = atomic-leads d x q p envelope kind a is.kind mtu
    by None = plain (ReceivesIn d x q.responder.expected (responder_in q)) (refusal_effects InvalidRequest q) (refusal-does d x q InvalidRequest mtu)

rnr-does : (d : Direction) (x : RequestPacket) (q : QueuePair) → q.responder.mtu ≡ d.mtu → ReceivesIn d x q.responder.expected (responder_in q) (rnr_effects q)
rnr-does d x q mtu = received d x q.responder.expected (responder_in q) (rnr_effects q) q.responder.expected (q.responder.answers ++ (queued.Rnr q.responder.expected ∷ [])) q.saved (Rejected ReceiverNotReady)
    (with_response (responder_in q) (map said q.responder.answers) (Nak ReceiverNotReady q.responder.expected)) (record { expected = refl; answers = refl; saved = refl; mtu = mtu })
    refl (said-more q.responder.answers (queued.Rnr q.responder.expected)) refl (refuse ReceiverNotReady refl (keeps-all (map said q.responder.answers))) refl refl

expected-leads : (d : Direction) (x : RequestPacket) (before : QueuePair) (p : Fields) (envelope : Option ℕ) (shared : Option SharedReceives) (shape : Shape) → before.responder.mtu ≡ d.mtu
    → RequestEntry d x shape p → Leads d x before.responder.expected before (expected_row before shared p envelope shape)
expected-leads d x before p envelope shared shape mtu is =
    cond-row (ReceivesIn d x before.responder.expected (responder_in before)) (is_invalid q p shape) _ _ (plain (ReceivesIn d x before.responder.expected (responder_in before)) (refusal_effects InvalidRequest q) (refusal-does d x q InvalidRequest mtu))
    (cond-row (ReceivesIn d x before.responder.expected (responder_in before)) (takes_receive p shape && is_none (next_receive q shared)) _ _ (plain (ReceivesIn d x before.responder.expected (responder_in before)) (rnr_effects q) (rnr-does d x q mtu))
    (valid-leads d x q p envelope (next_receive q shared) shape mtu is))
  where
    q : QueuePair
    q = with_flag false before

-- ---- packets ahead, and duplicates

ahead-does : (d : Direction) (x : RequestPacket) (w : ℕ) (q : QueuePair) → q.responder.mtu ≡ d.mtu → q.responder.expected < w → ReceivesIn d x w (responder_in q) (ahead_effects q)
ahead-does d x w q mtu ahead = by q.responder.nak_sent
  where
    queued_nak : Effects
    queued_nak = queue_and_marks (with_flag true (with_answer (queued.Nak q.responder.expected (nak_code PsnSequenceError)) q)) []

    by : (b : Bool) → ReceivesIn d x w (responder_in q) (if b then drop_effects q drops.Stale else queued_nak)
    by true = drop-does d x w q drops.Stale mtu
    by false = received d x w (responder_in q) queued_nak q.responder.expected (q.responder.answers ++ (queued.Nak q.responder.expected (nak_code PsnSequenceError) ∷ [])) q.saved Neither
        (with_response (responder_in q) (map said q.responder.answers) (Nak SequenceReason q.responder.expected)) (record { expected = refl; answers = refl; saved = refl; mtu = mtu })
        refl (said-nak q.responder.answers q.responder.expected PsnSequenceError) refl (sequence_error ahead (keeps-all (map said q.responder.answers))) refl refl

ack-again-does : (d : Direction) (x : RequestPacket) (w : ℕ) (q : QueuePair) → q.responder.mtu ≡ d.mtu → w < q.responder.expected → ReceivesIn d x w (responder_in q) (ack_again q)
ack-again-does d x w q mtu before = by (length q.responder.answers == 0)
  where
    acked : Effects
    acked = queue_and_marks (with_answer (queued.Ack (q.responder.expected - 1)) q) []

    by : (b : Bool) → ReceivesIn d x w (responder_in q) (if b then acked else drop_effects q drops.Unsaved)
    by true = received d x w (responder_in q) acked q.responder.expected (q.responder.answers ++ (queued.Ack (q.responder.expected - 1) ∷ [])) q.saved Neither
        (with_response (responder_in q) (map said q.responder.answers) (Ack (q.responder.expected - 1))) (record { expected = refl; answers = refl; saved = refl; mtu = mtu })
        refl (said-more q.responder.answers (queued.Ack (q.responder.expected - 1))) refl (write_again (q.responder.expected - 1) before (omega (arith, before)) (keeps-all (map said q.responder.answers))) refl refl
    by false = drop-does d x w q drops.Unsaved mtu

-- the answers before a PSN are some of those that wait
keeps-before : (psn : ℕ) (answers : List Queued) → Keeps (map said answers) (map said (answers_before psn answers))
keeps-before psn answers = keeps-filter said (λ a. nat_lt (psn_of_answer a) psn) answers

read-again-does : (d : Direction) (x : RequestPacket) (w : ℕ) (q : QueuePair) (envelope : Option ℕ) (h : Reth) → is_read (d.work x.place) ≡ true → q.responder.mtu ≡ d.mtu
    → h.length ≡ bytes_left d x.place x.number → ReceivesIn d x w (responder_in q) (read_again w envelope h q)
read-again-does d x w q envelope h is mtu bytes = by (nat_le (w + segments q.responder.mtu h.length) q.responder.expected) refl
  where
    answer : Queued
    answer = queued.Read w h.key h.address h.length true envelope true

    kept : List Queued
    kept = answers_before w q.responder.answers

    by : (b : Bool) → nat_le (w + segments q.responder.mtu h.length) q.responder.expected ≡ b → ReceivesIn d x w (responder_in q) (if b then answer_again w answer q else drop_effects q drops.Unsaved)
    by true e = received d x w (responder_in q) (answer_again w answer q) q.responder.expected (kept ++ (answer ∷ [])) q.saved Neither
        (with_response (responder_in q) (map said kept) (Data w (bytes_left d x.place x.number))) (record { expected = refl; answers = refl; saved = refl; mtu = mtu })
        refl (said-read kept answer w h.length (bytes_left d x.place x.number) refl bytes) refl
        (read_once_more is (subst (λ m. w + m ≤ q.responder.expected) (read-span d x q.responder.mtu h.length is mtu bytes) (leb-true (w + segments q.responder.mtu h.length) q.responder.expected e)) (keeps-before w q.responder.answers)) refl refl
    by false e = drop-does d x w q drops.Unsaved mtu

-- a result that is found at a PSN is saved there
saved-contains : (psn found : ℕ) (saved : List KeptResult) → saved_at psn saved ≡ Some found → Contains (map kept_result saved) (record { number = psn; found = found })
saved-contains psn found [] e = absurd (cc)
saved-contains psn found (s ∷ saved) e = by (λ is. saved-contains psn found saved is) (s.psn == psn) refl e
  where
    by : (saved_at psn saved ≡ Some found → Contains (map kept_result saved) (record { number = psn; found = found })) → (b : Bool) → (s.psn == psn) ≡ b
        → (if b then Some s.found else saved_at psn saved) ≡ Some found → Contains (map kept_result (s ∷ saved)) (record { number = psn; found = found })
    by more true same is = subst (λ r. Contains (map kept_result (s ∷ saved)) r) (at (eqb-true s.psn psn same) is) (contains-head (kept_result s) (map kept_result saved))
      where
        at : s.psn ≡ psn → Some s.found ≡ Some found → kept_result s ≡ record { number = psn; found = found }
        at a b = cc
    by more false same is = contains-more (kept_result s) (record { number = psn; found = found }) (map kept_result saved) (more is)

atomic-again-does : (d : Direction) (x : RequestPacket) (w : ℕ) (q : QueuePair) → q.responder.mtu ≡ d.mtu → ReceivesIn d x w (responder_in q) (atomic_again w (saved_at w q.saved) q)
atomic-again-does d x w q mtu = by (saved_at w q.saved) refl
  where
    by : (o : Option ℕ) → saved_at w q.saved ≡ o → ReceivesIn d x w (responder_in q) (atomic_again w o q)
    by None e = drop-does d x w q drops.Unsaved mtu
    by (Some found) e = received d x w (responder_in q) (answer_again w (queued.Atomic w found true) q) q.responder.expected (answers_before w q.responder.answers ++ (queued.Atomic w found true ∷ [])) q.saved Neither
        (with_response (responder_in q) (map said (answers_before w q.responder.answers)) (Found w found)) (record { expected = refl; answers = refl; saved = refl; mtu = mtu })
        refl (said-more (answers_before w q.responder.answers) (queued.Atomic w found true)) refl (atomic_once_more found (saved-contains w found q.saved e) (keeps-before w q.responder.answers)) refl refl

duplicate-does : (d : Direction) (x : RequestPacket) (w : ℕ) (q : QueuePair) (p : Fields) (envelope : Option ℕ) (shape : Shape) → q.responder.mtu ≡ d.mtu → RequestEntry d x shape p → w < q.responder.expected
    → ReceivesIn d x w (responder_in q) (duplicate_effects w p envelope shape q)
duplicate-does d x w q p envelope shape mtu is before = many (nat_le MAX_DUPLICATES (duplicate_count q.responder.answers))
  where
    again : Option Reth → Shape → Effects
    again h (shapes.Send place) = ack_again q
    again h (shapes.Write place) = ack_again q
    again h shapes.Read = option_map_or (λ h. read_again w envelope h q) h (drop_effects q drops.Unsaved)
    again h (shapes.Atomic kind) = atomic_again w (saved_at w q.saved) q

    read : is_read (d.work x.place) ≡ true → (h : Option Reth) → IfSome h (λ h. h.length ≡ bytes_left d x.place x.number) → ReceivesIn d x w (responder_in q) (again h shapes.Read)
    read kind (Some h) bytes = read-again-does d x w q envelope h kind mtu bytes
    read kind None bytes = drop-does d x w q drops.Unsaved mtu

    by : (shape : Shape) → RequestEntry d x shape p → ReceivesIn d x w (responder_in q) (again p.reth shape)
    by (shapes.Send place) is = ack-again-does d x w q mtu before
    by (shapes.Write place) is = ack-again-does d x w q mtu before
    by shapes.Read is = read is.kind p.reth (is.asks is.kind)
    by (shapes.Atomic kind) is = atomic-again-does d x w q mtu

    many : (b : Bool) → ReceivesIn d x w (responder_in q) (if b then drop_effects q drops.Unsaved else again p.reth shape)
    many true = drop-does d x w q drops.Unsaved mtu
    many false = by shape is

-- a request that arrived, taken for the number w
row-leads : (d : Direction) (x : RequestPacket) (w : ℕ) (p : Fields) (envelope : Option ℕ) (shared : Option SharedReceives) (shape : Shape) (q : QueuePair) → q.responder.mtu ≡ d.mtu → RequestEntry d x shape p
    → (b : Bool) → nat_lt q.responder.expected w ≡ b → (a : Bool) → nat_lt w q.responder.expected ≡ a
    → Leads d x w q (if b then plain_row (Does (ahead_effects q)) else if a then plain_row (Does (duplicate_effects w p envelope shape q)) else expected_row q shared p envelope shape)
row-leads d x w p envelope shared shape q mtu is true ahead a before = plain (ReceivesIn d x w (responder_in q)) (ahead_effects q) (ahead-does d x w q mtu (ltb-true q.responder.expected w ahead))
row-leads d x w p envelope shared shape q mtu is false ahead true before = plain (ReceivesIn d x w (responder_in q)) (duplicate_effects w p envelope shape q) (duplicate-does d x w q p envelope shape mtu is (ltb-true w q.responder.expected before))
row-leads d x w p envelope shared shape q mtu is false ahead false before =
    subst (λ n. Leads d x n q (expected_row q shared p envelope shape)) same (expected-leads d x q p envelope shared shape mtu is)
  where
    same : q.responder.expected ≡ w
    same = omega (arith, ltb-false q.responder.expected w ahead, ltb-false w q.responder.expected before)

pub request-row : (d : Direction) (x : RequestPacket) (p : Fields) (envelope : Option ℕ) (shared : Option SharedReceives) (shape : Shape) (q : QueuePair) → q.responder.mtu ≡ d.mtu
    → RequestEntry d x shape p → RowLeads (ReceivesIn d x (widened q.responder.expected p.psn) (responder_in q)) (request_row p envelope shared shape q)
request-row d x p envelope shared shape q mtu is =
    row-leads d x w p envelope shared shape q mtu is (nat_lt q.responder.expected w) refl (nat_lt w q.responder.expected) refl
  where
    w : ℕ
    w = widened q.responder.expected p.psn
