-- The marks of the rows of every packet and of every turn keep to the bounds. For proofs only.
use Rattle.std.proofs.Common.{◌≡◌, arith, ℕ, suc, ◌+◌, nat_lt, Bool, true, false, List, [], ◌∷◌, ◌++◌, length, Option, None, Some, ap, true≢false, ◌&&◌, not, is_none, ◌==◌, if◌then◌else◌, refl, slice_get, Result, Ok, Err}
use Rattle.std.specs.Option.{option_and_then, option_map_or, option_map}
use Rattle.ca_base.specs.declared.change.State.TheVariants as states
use Rattle.ca_base.specs.declared.completion.WcStatus.TheVariants.{BadResponse, LocalProtection, LocalLength, MemoryManagement, Success}
use Rattle.ca_base.specs.declared.refusals.OpRefusal.{OpRefusal}
use Rattle.ca_base.specs.declared.denied_ask.DeniedAsk.{DeniedAsk}
use Rattle.ca_base.specs.Sight.{Invalidation}
use Rattle.ca_base.specs.objects.QueuePair.{QueuePair}
use Rattle.ca_base.specs.objects.StateTable.{is_among}
use Rattle.ca_wire.specs.declared.syndrome.NakCode.{NakCode}
use Rattle.ca_wire.specs.declared.syndrome.NakCode.TheVariants.{InvalidRequest, RemoteOperationalError}
use Rattle.ca_wire.specs.declared.opcode.TheConstants.{ACKNOWLEDGE}
use Rattle.ca_wire.specs.Packet.{Fields}
use Rattle.ca_wire.specs.Syndrome.{syndrome_in}
use Rattle.ca_model.specs.declared.mark.Drop1.{Drop1}
use Rattle.ca_model.specs.declared.mark.Drop1.TheVariants as drops
use Rattle.ca_model.specs.machine.Acknowledgements.{Acknowledgement, acknowledgement_below, and_then, failure_effects, progress_to}
use Rattle.ca_model.specs.machine.Numbering.{Numbered, request_at}
use Rattle.ca_model.specs.machine.Requester.{local_denial, denied_list_effects, is_outstanding, is_too_much, packet_asks, packet_row, sent_packet}
use Rattle.ca_model.specs.machine.Responses.{acknowledge_row, answer_asks, answer_bytes, answer_row, drop_effects, fits_request, fitting_row, is_outstanding_at, local_writes, outstanding_row, response_psn, response_row, writes_by}
use Rattle.ca_model.specs.machine.Row.{NotPossible, Does, Effects, Row, plain_row, queue_and_marks}
use Rattle.ca_keys.specs.declared.access.Kind.{Kind}
use Rattle.ca_keys.specs.declared.key.Key.{Key}
use Rattle.ca_base.specs.declared.queue_numbers.Queued.{Queued}
use Rattle.ca_base.specs.declared.queue_numbers.Queued.TheVariants as queued
use Rattle.ca_base.specs.declared.request.PlacedReceive.{PlacedReceive}
use Rattle.ca_base.specs.objects.SharedReceives.{SharedReceives}
use Rattle.ca_psn.specs.Psn.{widened}
use Rattle.ca_wire.specs.declared.atomic_eth.AtomicEth.{AtomicEth}
use Rattle.ca_wire.specs.declared.reth.Reth.{Reth}
use Rattle.ca_wire.specs.declared.shape.Position.{Position}
use Rattle.ca_model.specs.Packets.{is_response}
use Rattle.ca_model.specs.Requests.{list_length}
use Rattle.ca_model.specs.machine.Arrivals.{next_receive, refusal_effects, with_flag, with_receive_taken, with_message}
use Rattle.ca_model.specs.machine.Duplicates.{ahead_effects, duplicate_effects, request_row}
use Rattle.ca_model.specs.declared.receiving.Receiving.{Receiving}
use Rattle.ca_model.specs.declared.write_reach.WriteReach.{WriteReach}
use Rattle.ca_model.specs.machine.Expected.{after_send_packet, atomic_row, behind_marks, expected_row, invalidation_of, is_invalid, read_queued, receive_asks, receive_failure_effects, receiving_of, revoked_marks, rnr_effects, send_row, takes_receive, valid_row, with_shared_receive, with_window_gone, write_reach, write_row, message_left, queue_after_packet, after_write_packet}
use Rattle.ca_wire.specs.declared.shape.Shape.{Shape}
use Rattle.ca_wire.specs.declared.shape.Shape.TheVariants as shapes
use Rattle.ca_wire.specs.Table.{shape_of}
use Rattle.ca_base.specs.declared.step.Reason.{Reason}
use Rattle.ca_base.specs.declared.step.Reason.TheVariants as reasons
use Rattle.ca_keys.specs.Refusals.{first_of}
use Rattle.ca_wire.specs.declared.wire_error.WireError.{WireError}
use Rattle.ca_wire.specs.Decoding.{packet_in}
use Rattle.ca_model.specs.machine.Delivery.{arrival_drops, arrival_row, packet_arrived}
use Rattle.ca_model.specs.machine.Respond.{answer_turn, respond_refusals, respond_row}
use Rattle.ca_model.specs.machine.LocalOperations.{invalidate_row, operation_effects, local_marks}
use Rattle.ca_base.specs.declared.completion.WcOp.TheVariants as operations
use Rattle.ca_base.specs.declared.queue_numbers.Message.{Message}
use Rattle.ca_base.specs.declared.queue_numbers.Message.TheVariants as messages
use Rattle.ca_wire.specs.Shapes.{ends}
use Rattle.ca_model.specs.machine.Completions.{receive_mark, flush_marks, success_marks}
use Rattle.ca_keys.specs.declared.access.Ask.{Ask}
use Rattle.ca_keys.specs.declared.grant.Grant.{Grant}
use Rattle.ca_model.specs.declared.mark.Mark.{Mark}
use Rattle.ca_law_world.proofs.Sound.WorldLemmas.{EndingDoes}
use Rattle.ca_keys.specs.declared.verdict.Verdict.TheVariants as verdicts
use Rattle.ca_keys.specs.Memory.{little_endian_bytes}
use Rattle.ca_law_keys.proofs.Keys.CalmLemmas.{AreCalm, IsCalm, calm-then, denied-calm, marks-calm, plain-calm, reads-calm, took-calm}
use Rattle.ca_law_keys.proofs.Keys.PlainLemmas.{acknowledge-plain, ahead-plain, below-plain, drop-plain, duplicate-plain, failure-plain, flush-plain, progress-plain, receive-plain, refusal-plain, success-plain}
use Rattle.std.proofs.Common.{◌≤◌, drop, length-drop, sym, is_some}
use Rattle.std.proofs.lemmas.List.{length-take}
use Rattle.std.specs.List.{AllByRecursion}
use Rattle.ca_law_keys.proofs.Keys.CalmLemmas.{IsCalmMark, IsCalmVerdict}
use Rattle.ca_law_keys.proofs.Keys.PlainLemmas.{ArePlainMarks}
use Rattle.ca_base.specs.Configuration.{Configuration}
use Rattle.ca_base.specs.declared.limits.TheConstants.{MAX_STORE_BYTES}
use Rattle.ca_base.specs.objects.LocalRequest.{LocalMarks}
use Rattle.ca_keys.specs.declared.verdict.Verdict.{Verdict}
use Rattle.ca_law_world.proofs.Sound.WorldLemmas.{RowDoes}
use Rattle.ca_law_isolation.proofs.PayloadLemmas.{few-carried}
use Rattle.ca_law_isolation.specs.Bounds.{AreBounded, IsBounded, LiesInBuffer, WritesFew}
use Rattle.ca_model.specs.declared.mark.Mark.TheVariants as marks
use Rattle.ca_wire.specs.declared.opcode.TheConstants.{ATOMIC_ACKNOWLEDGE}

all-joined : (c : Configuration) (ms ns : List Mark) → AreBounded c ms → AreBounded c ns → AreBounded c (ms ++ ns)
all-joined c [] ns one other = other
all-joined c (m ∷ ms) ns one other = (one.0, all-joined c ms ns one.1 other)

pub bounded-append : (c : Configuration) (ms ns : List Mark) → AreBounded c ms → AreBounded c ns → AreBounded c (ms ++ ns)
bounded-append = all-joined

calm-verdict : (v : Verdict) → IsCalmVerdict v → WritesFew v
calm-verdict (verdicts.Denied denial) calm = record {}
calm-verdict (verdicts.Read bytes) calm = record {}
calm-verdict (verdicts.Wrote bytes) calm = absurd calm
calm-verdict (verdicts.Swapped found put) calm = record {}

calm-one : (c : Configuration) (m : Mark) → IsCalmMark m → IsBounded c m
calm-one c (marks.Verb by verb answer) calm = record {}
calm-one c (marks.Granted g) calm = absurd calm
calm-one c (marks.Revoked adapter key) calm = record {}
calm-one c (marks.Stored place bytes) calm = absurd calm
calm-one c (marks.Remote queue domain envelope key kind address count verdict) calm = calm-verdict verdict calm
calm-one c (marks.Local queue domain key kind address count verdict) calm = calm-verdict verdict calm
calm-one c (marks.Sent source target index request bytes) calm = record {}
calm-one c (marks.Lost target index) calm = record {}
calm-one c (marks.Arrived target index) calm = record {}
calm-one c (marks.Dropped target cause) calm = record {}
calm-one c (marks.Timer queue silent) calm = record {}
calm-one c (marks.Done queue x cause) calm = record {}

-- marks that write no byte and tell of no key keep to the bounds
pub calm-bounded : (c : Configuration) (ms : List Mark) → AreCalm ms → AreBounded c ms
calm-bounded c [] calm = record {}
calm-bounded c (m ∷ ms) calm = (calm-one c m calm.0, calm-bounded c ms calm.1)

pub plain-bounded : (c : Configuration) (ms : List Mark) → ArePlainMarks ms → AreBounded c ms
plain-bounded c ms plain = calm-bounded c ms (marks-calm ms plain)

-- effects whose marks keep to the bounds
abbrev pub IsIn : Configuration → Effects → Type 0
IsIn c e = AreBounded c e.marks

calm-in : (c : Configuration) (e : Effects) → IsCalm e → IsIn c e
calm-in c e calm = calm-bounded c e.marks calm.marks

plain-in : (c : Configuration) (e : Effects) → IsCalm e → RowDoes (IsIn c) (plain_row (Does e))
plain-in c e calm = record { denied = λ d. calm-in c e calm; allowed = λ bytes refusal. calm-in c e calm }

-- bytes that are written by asks, in order
writes-in : (c : Configuration) (asks : List Ask) (bytes : List ℕ) → length bytes ≤ MAX_STORE_BYTES → AreBounded c (local_writes (writes_by asks bytes))
writes-in c [] bytes few = record {}
writes-in c (ask ∷ asks) bytes few = (omega (arith, few, length-take ask.touch bytes), writes-in c asks (drop ask.touch bytes) (omega (arith, few, length-drop ask.touch bytes)))

-- what an answer brings
few-answered : (p : Fields) → length p.payload ≤ MAX_STORE_BYTES → length (answer_bytes p) ≤ MAX_STORE_BYTES
few-answered p few = by (p.opcode == ATOMIC_ACKNOWLEDGE)
  where
    by : (b : Bool) → length (if b then little_endian_bytes (option_map_or (λ n. n) p.«result» 0) else p.payload) ≤ MAX_STORE_BYTES
    by true = omega arith
    by false = few

answer-in : (c : Configuration) (psn : ℕ) (p : Fields) (before : Effects) (n : Numbered) → length p.payload ≤ MAX_STORE_BYTES → IsCalm before → RowDoes (IsIn c) (answer_row psn p before n)
answer-in c psn p before n few calm = record {
  denied = λ d. calm-in c _ (calm-then before (λ x. record (failure_effects LocalProtection None x) { marks = local_denial d ∷ (failure_effects LocalProtection None x).marks }) calm
      (denied-calm before.queue d));
  allowed = λ bytes refusal. all-joined c before.marks _ (calm-bounded c before.marks calm.marks)
      (all-joined c (local_writes (writes_by (answer_asks psn p before.queue n) (answer_bytes p))) _
      (writes-in c (answer_asks psn p before.queue n) (answer_bytes p) (few-answered p few))
      (plain-bounded c (progress_to (suc psn) before.queue).marks (progress-plain (suc psn) before.queue).marks));
}

fitting-in : (c : Configuration) (psn : ℕ) (p : Fields) (a : Acknowledgement) → length p.payload ≤ MAX_STORE_BYTES → IsCalm a.effects → RowDoes (IsIn c) (fitting_row psn p a)
fitting-in c psn p a few inner = back a.went_back
  where
    bad : Row
    bad = plain_row (Does (and_then a.effects (failure_effects BadResponse None)))

    at : Option Numbered → Row
    at None = bad
    at (Some n) = if fits_request psn p a.effects.queue n then answer_row psn p a.effects n else bad

    is_bad : RowDoes (IsIn c) bad
    is_bad = plain-in c (and_then a.effects (failure_effects BadResponse None))
        (calm-then a.effects (failure_effects BadResponse None) inner (plain-calm _ (failure-plain BadResponse None a.effects.queue)))

    fits : (n : Numbered) (b : Bool) → RowDoes (IsIn c) (if b then answer_row psn p a.effects n else bad)
    fits n true = answer-in c psn p a.effects n few inner
    fits n false = is_bad

    by : (n : Option Numbered) → RowDoes (IsIn c) (at n)
    by None = is_bad
    by (Some n) = fits n (fits_request psn p a.effects.queue n)

    back : (b : Bool) → RowDoes (IsIn c) (if b then plain_row (Does a.effects) else at (request_at psn a.effects.queue))
    back true = plain-in c a.effects inner
    back false = by (request_at psn a.effects.queue)

response-in : (c : Configuration) (p : Fields) (q : QueuePair) → length p.payload ≤ MAX_STORE_BYTES → RowDoes (IsIn c) (response_row p q)
response-in c p q few = by (is_among (states.Rts ∷ states.Sqd ∷ []) q.state)
  where
    psn : ℕ
    psn = response_psn q p

    opcode : (b : Bool) → RowDoes (IsIn c) (if b then plain_row (Does (acknowledge_row psn (option_and_then (λ a. syndrome_in a.syndrome) p.aeth) q))
        else fitting_row psn p (acknowledgement_below psn q))
    opcode true = plain-in c _ (plain-calm _ (acknowledge-plain psn (option_and_then (λ a. syndrome_in a.syndrome) p.aeth) q))
    opcode false = fitting-in c psn p (acknowledgement_below psn q) few (plain-calm _ (below-plain psn q))

    there : (b : Bool) → RowDoes (IsIn c) (if not b then plain_row (Does (drop_effects q drops.Stale)) else outstanding_row psn p q)
    there true = opcode (p.opcode == ACKNOWLEDGE)
    there false = plain-in c (drop_effects q drops.Stale) (plain-calm _ (drop-plain q drops.Stale))

    by : (b : Bool) → RowDoes (IsIn c) (if not b then plain_row (Does (drop_effects q drops.State))
        else if not (is_outstanding_at psn q) then plain_row (Does (drop_effects q drops.Stale)) else outstanding_row psn p q)
    by true = there (is_outstanding_at psn q)
    by false = plain-in c (drop_effects q drops.State) (plain-calm _ (drop-plain q drops.State))

-- the key that a SEND ends
revoked-in : (c : Configuration) (q : QueuePair) (i : Option Invalidation) → AreBounded c (revoked_marks q i)
revoked-in c q None = record {}
revoked-in c q (Some i) = (record {}, record {})

took-in : (c : Configuration) (p : QueuePair) (b : Bool) (e : Effects) → IsIn c e → IsIn c (if b then with_shared_receive p e else e)
took-in c p true e inner = inner
took-in c p false e inner = inner

-- a SEND packet, with its receive
send-in : (c : Configuration) (before : QueuePair) (p : Fields) (place : Position) (r : Receiving) → length p.payload ≤ MAX_STORE_BYTES → RowDoes (IsIn c) (send_row before p place r)
send-in c before p place r few = by (nat_lt (list_length r.receive.receive.list.items) (r.before + length p.payload))
  where
    q : QueuePair
    q = if r.taken then with_receive_taken before else before

    took : Effects → Effects
    took e = if r.taken then with_shared_receive q e else e

    end : Option OpRefusal → Effects
    end (Some cause) = receive_failure_effects q r.receive MemoryManagement (Some cause) RemoteOperationalError
    end None = behind_marks (revoked_marks q (invalidation_of q p)) (after_send_packet (with_window_gone (invalidation_of q p) q) p place r)

    writes : List (Ask × List ℕ)
    writes = writes_by (receive_asks q p r) p.payload

    row_of : Bool → Row
    row_of b =
        if b then plain_row (Does (took (receive_failure_effects q r.receive LocalLength None InvalidRequest)))
        else record {
          asks = receive_asks q p r;
          invalidation = invalidation_of q p;
          denied = λ d. Does (took (behind_marks (local_denial d ∷ []) (receive_failure_effects q r.receive LocalProtection None RemoteOperationalError)));
          allowed = λ bytes refusal. Does (took (record (behind_marks (local_writes writes) (end refusal)) { writes = writes }));
        }

    refused : DeniedAsk → Effects
    refused d = behind_marks (local_denial d ∷ []) (receive_failure_effects q r.receive LocalProtection None RemoteOperationalError)

    packet : (x : QueuePair) → AreCalm (after_send_packet x p place r).marks
    packet x = at (ends place)
      where
        at : (b : Bool) → AreCalm (if b
            then queue_and_marks (with_message None (queue_after_packet p 1 true true x))
            (receive_mark x.queue r.receive.place r.receive.receive Success operations.Recv (r.before + length p.payload) p.imm (option_map (λ key. record { 0 = key }) p.ieth) ∷ [])
            else queue_and_marks (with_message (Some (messages.Send r.receive.place r.receive.receive (r.before + length p.payload))) (queue_after_packet p 1 false true x)) []).marks
        at true = (record {}, record {})
        at false = record {}

    wrote : AreBounded c (local_writes writes)
    wrote = writes-in c (receive_asks q p r) p.payload few

    placed : (refusal : Option OpRefusal) → AreBounded c (local_writes writes ++ (end refusal).marks)
    placed None = all-joined c (local_writes writes) _ wrote
        (all-joined c (revoked_marks q (invalidation_of q p)) _ (revoked-in c q (invalidation_of q p))
        (calm-bounded c (after_send_packet (with_window_gone (invalidation_of q p) q) p place r).marks (packet (with_window_gone (invalidation_of q p) q))))
    placed (Some cause) = all-joined c (local_writes writes) (end (Some cause)).marks wrote
        (plain-bounded c (end (Some cause)).marks (receive-plain q r.receive MemoryManagement (Some cause) RemoteOperationalError).marks)

    by : (b : Bool) → RowDoes (IsIn c) (row_of b)
    by true = plain-in c _ (took-calm q r.taken _ (plain-calm _ (receive-plain q r.receive LocalLength None InvalidRequest)))
    by false = record {
      denied = λ d. calm-in c (took (refused d)) (took-calm q r.taken (refused d) (record { writes = refl; marks = (record {}, (plain-calm _ (receive-plain q r.receive LocalProtection None RemoteOperationalError)).marks) }));
      allowed = λ bytes refusal. took-in c q r.taken _ (placed refusal);
    }

-- a WRITE packet
write-in : (c : Configuration) (q : QueuePair) (p : Fields) (envelope : Option ℕ) (place : Position) (next : Option PlacedReceive) (r : WriteReach) → length p.payload ≤ MAX_STORE_BYTES
    → RowDoes (IsIn c) (write_row q p envelope place next r)
write-in c q p envelope place next r few = record {
  denied = λ d. (record {}, plain-bounded c (flush_marks q) (flush-plain q));
  allowed = λ bytes refusal. (few, calm-bounded c (after_write_packet q p place r next).marks (packet (ends place)));
}
  where
    done : QueuePair → QueuePair
    done q = with_message None (queue_after_packet p 1 true true q)

    by : Option ℕ → Option PlacedReceive → Effects
    by (Some imm) (Some receive) = with_shared_receive q (queue_and_marks (done (with_receive_taken q))
        (receive_mark q.queue receive.place receive.receive Success operations.RecvImm r.whole (Some imm) None ∷ []))
    by imm next = queue_and_marks (done q) []

    immediate : (imm : Option ℕ) (next : Option PlacedReceive) → AreCalm (by imm next).marks
    immediate (Some imm) (Some receive) = (record {}, record {})
    immediate (Some imm) None = record {}
    immediate None next = record {}

    packet : (b : Bool) → AreCalm (if b then by p.imm next else queue_and_marks (with_message (Some (message_left r (length p.payload))) (queue_after_packet p 1 false true q)) []).marks
    packet true = immediate p.imm next
    packet false = record {}

atomic-in : (c : Configuration) (q : QueuePair) (p : Fields) (envelope : Option ℕ) (kind : Kind) (a : AtomicEth) → RowDoes (IsIn c) (atomic_row q p envelope kind a)
atomic-in c q p envelope kind a = record {
  denied = λ d. (record {}, plain-bounded c (flush_marks q) (flush-plain q));
  allowed = λ bytes refusal. (record {}, record {});
}

refused-in : (c : Configuration) (code : NakCode) (q : QueuePair) → RowDoes (IsIn c) (plain_row (Does (refusal_effects code q)))
refused-in c code q = plain-in c (refusal_effects code q) (plain-calm _ (refusal-plain code q))

valid-in : (c : Configuration) (q : QueuePair) (p : Fields) (envelope : Option ℕ) (next : Option PlacedReceive) (shape : Shape) → length p.payload ≤ MAX_STORE_BYTES
    → RowDoes (IsIn c) (valid_row q p envelope next shape)
valid-in c q p envelope next (shapes.Send place) few = by q.responder.message
  where
    row : Option Receiving → Row
    row (Some r) = send_row q p place r
    row None = plain_row (Does (refusal_effects InvalidRequest q))

    start : (o : Option PlacedReceive) → RowDoes (IsIn c) (row (option_map (λ r. record { receive = r; before = 0; taken = true }) o))
    start None = refused-in c InvalidRequest q
    start (Some r) = send-in c q p place (record { receive = r; before = 0; taken = true }) few

    by : (m : Option Message) → RowDoes (IsIn c) (row (receiving_of q next m))
    by None = start next
    by (Some (messages.Write key address left count)) = start next
    by (Some (messages.Send at receive bytes)) = send-in c q p place (record { receive = record { place = at; receive = receive }; before = bytes; taken = false }) few
valid-in c q p envelope next (shapes.Write place) few = by (write_reach q p)
  where
    row : Option WriteReach → Row
    row (Some r) = write_row q p envelope place next r
    row None = plain_row (Does (refusal_effects InvalidRequest q))

    by : (o : Option WriteReach) → RowDoes (IsIn c) (row o)
    by (Some r) = write-in c q p envelope place next r few
    by None = refused-in c InvalidRequest q
valid-in c q p envelope next shapes.Read few = by p.reth
  where
    row : Option Reth → Row
    row (Some h) = plain_row (Does (read_queued q p envelope h))
    row None = plain_row (Does (refusal_effects InvalidRequest q))

    by : (o : Option Reth) → RowDoes (IsIn c) (row o)
    by (Some h) = plain-in c (read_queued q p envelope h) (record { writes = refl; marks = record {} })
    by None = refused-in c InvalidRequest q
valid-in c q p envelope next (shapes.Atomic kind) few = by p.atomic
  where
    row : Option AtomicEth → Row
    row (Some a) = atomic_row q p envelope kind a
    row None = plain_row (Does (refusal_effects InvalidRequest q))

    by : (o : Option AtomicEth) → RowDoes (IsIn c) (row o)
    by (Some a) = atomic-in c q p envelope kind a
    by None = refused-in c InvalidRequest q

expected-in : (c : Configuration) (before : QueuePair) (shared : Option SharedReceives) (p : Fields) (envelope : Option ℕ) (shape : Shape) → length p.payload ≤ MAX_STORE_BYTES
    → RowDoes (IsIn c) (expected_row before shared p envelope shape)
expected-in c before shared p envelope shape few = by (is_invalid q p shape)
  where
    q : QueuePair
    q = with_flag false before

    waits : (b : Bool) → RowDoes (IsIn c) (if b then plain_row (Does (rnr_effects q)) else valid_row q p envelope (next_receive q shared) shape)
    waits true = plain-in c (rnr_effects q) (record { writes = refl; marks = record {} })
    waits false = valid-in c q p envelope (next_receive q shared) shape few

    by : (b : Bool) → RowDoes (IsIn c) (
        if b then plain_row (Does (refusal_effects InvalidRequest q))
        else if takes_receive p shape && is_none (next_receive q shared) then plain_row (Does (rnr_effects q))
        else valid_row q p envelope (next_receive q shared) shape)
    by true = refused-in c InvalidRequest q
    by false = waits (takes_receive p shape && is_none (next_receive q shared))

request-in : (c : Configuration) (p : Fields) (envelope : Option ℕ) (shared : Option SharedReceives) (shape : Shape) (q : QueuePair) → length p.payload ≤ MAX_STORE_BYTES
    → RowDoes (IsIn c) (request_row p envelope shared shape q)
request-in c p envelope shared shape q few = by (widened q.responder.expected p.psn)
  where
    before : (psn : ℕ) (b : Bool) → RowDoes (IsIn c) (if b then plain_row (Does (duplicate_effects psn p envelope shape q)) else expected_row q shared p envelope shape)
    before psn true = plain-in c _ (plain-calm _ (duplicate-plain psn p envelope shape q))
    before psn false = expected-in c q shared p envelope shape few

    ahead : (psn : ℕ) (b : Bool) → RowDoes (IsIn c) (
        if b then plain_row (Does (ahead_effects q))
        else if nat_lt psn q.responder.expected then plain_row (Does (duplicate_effects psn p envelope shape q))
        else expected_row q shared p envelope shape)
    ahead psn true = plain-in c _ (plain-calm _ (ahead-plain q))
    ahead psn false = before psn (nat_lt psn q.responder.expected)

    by : (psn : ℕ) → RowDoes (IsIn c) (
        if nat_lt q.responder.expected psn then plain_row (Does (ahead_effects q))
        else if nat_lt psn q.responder.expected then plain_row (Does (duplicate_effects psn p envelope shape q))
        else expected_row q shared p envelope shape)
    by psn = ahead psn (nat_lt q.responder.expected psn)

pub arrival-in : (c : Configuration) (bytes : List ℕ) (envelope : Option ℕ) (shared : Option SharedReceives) (q : QueuePair) → RowDoes (IsIn c) (arrival_row bytes envelope shared q)
arrival-in c bytes envelope shared q = by (packet_in bytes) refl
  where
    shaped : Fields → Option Shape → Row
    shaped p (Some shape) = request_row p envelope shared shape q
    shaped p None = plain_row (Does (drop_effects q drops.State))

    requests : (p : Fields) (o : Option Shape) → length p.payload ≤ MAX_STORE_BYTES → RowDoes (IsIn c) (shaped p o)
    requests p (Some shape) few = request-in c p envelope shared shape q few
    requests p None few = plain-in c (drop_effects q drops.State) (plain-calm _ (drop-plain q drops.State))

    kinds : (p : Fields) (b : Bool) → length p.payload ≤ MAX_STORE_BYTES → RowDoes (IsIn c) (if b then response_row p q else shaped p (shape_of p.opcode))
    kinds p true few = response-in c p q few
    kinds p false few = requests p (shape_of p.opcode) few

    dropped : Fields → Option Drop1 → Row
    dropped p (Some cause) = plain_row (Does (drop_effects q cause))
    dropped p None = packet_arrived p envelope shared q

    unless : (p : Fields) (o : Option Drop1) → length p.payload ≤ MAX_STORE_BYTES → RowDoes (IsIn c) (dropped p o)
    unless p (Some cause) few = plain-in c (drop_effects q cause) (plain-calm _ (drop-plain q cause))
    unless p None few = kinds p (is_response p.opcode) few

    row : Result Fields WireError → Row
    row (Err error) = plain_row (Does (drop_effects q (drops.Wire error)))
    row (Ok p) = dropped p (first_of (arrival_drops q p))

    by : (r : Result Fields WireError) → packet_in bytes ≡ r → RowDoes (IsIn c) (row r)
    by (Err error) is = plain-in c (drop_effects q (drops.Wire error)) (plain-calm _ (drop-plain q (drops.Wire error)))
    by (Ok p) is = unless p (first_of (arrival_drops q p)) (few-carried bytes p is)

pub respond-in : (c : Configuration) (room : Bool) (q : QueuePair) → RowDoes (IsIn c) (respond_row room q)
respond-in c room q = by (first_of (respond_refusals room q)) (slice_get q.responder.answers 0)
  where
    front : Option Reason → Option Queued → Row
    front (Some reason) answer = plain_row (NotPossible reason)
    front None None = plain_row (NotPossible reasons.Empty)
    front None (Some answer) = answer_turn q answer

    turn : (a : Queued) → RowDoes (IsIn c) (answer_turn q a)
    turn (queued.Ack psn) = plain-in c _ (record { writes = refl; marks = record {} })
    turn (queued.Rnr psn) = plain-in c _ (record { writes = refl; marks = record {} })
    turn (queued.Nak psn code) = plain-in c _ (record { writes = refl; marks = record {} })
    turn (queued.Read psn key address part first envelope duplicate) = record {
      denied = λ d. (record {}, plain-bounded c (flush_marks q) (flush-plain q));
      allowed = λ bytes refusal. (record {}, record {});
    }
    turn (queued.Atomic psn found duplicate) = plain-in c _ (record { writes = refl; marks = record {} })

    by : (o : Option Reason) (a : Option Queued) → RowDoes (IsIn c) (front o a)
    by (Some reason) a = record { denied = λ d. record {}; allowed = λ bytes refusal. record {} }
    by None None = record { denied = λ d. record {}; allowed = λ bytes refusal. record {} }
    by None (Some a) = turn a

pub packet-in : (c : Configuration) (q : QueuePair) (room : Bool) (n : Numbered) → RowDoes (IsIn c) (packet_row q room n)
packet-in c q room n = by (is_too_much q n)
  where
    row : Row
    row = record {
      asks = packet_asks q n;
      invalidation = None;
      denied = λ d.
          if is_outstanding q then NotPossible reasons.Outstanding
          else if not room then NotPossible reasons.NoRoom
          else Does (denied_list_effects q d);
      allowed = λ bytes refusal. if not room then NotPossible reasons.NoRoom else Does (sent_packet q n bytes);
    }

    denied : (d : DeniedAsk) (b z : Bool) → EndingDoes (IsIn c) (if b then NotPossible reasons.Outstanding else if not z then NotPossible reasons.NoRoom else Does (denied_list_effects q d))
    denied d true z = record {}
    denied d false true = calm-in c (denied_list_effects q d) (denied-calm q d)
    denied d false false = record {}

    allowed : (bytes : List (List ℕ)) (z : Bool) → EndingDoes (IsIn c) (if not z then NotPossible reasons.NoRoom else Does (sent_packet q n bytes))
    allowed bytes true = calm-in c (sent_packet q n bytes) (record { writes = refl; marks = reads-calm (packet_asks q n) bytes })
    allowed bytes false = record {}

    by : (b : Bool) → RowDoes (IsIn c) (if b then plain_row (NotPossible reasons.Outstanding) else row)
    by true = record { denied = λ d. record {}; allowed = λ bytes refusal. record {} }
    by false = record { denied = λ d. denied d (is_outstanding q) room; allowed = λ bytes refusal. allowed bytes room }

-- what a local operation revokes and grants
pub operation-in : (c : Configuration) (q after : QueuePair) (n : Numbered) (m : LocalMarks) (refusal : Option OpRefusal)
    → (refusal ≡ None → (g : Grant) → m.granted ≡ Some g → AllByRecursion (LiesInBuffer c) g.runs) → IsIn c (operation_effects q n after m refusal)
operation-in c q after n m (Some cause) lies = plain-bounded c (failure_effects MemoryManagement (Some cause) q).marks (failure-plain MemoryManagement (Some cause) q).marks
operation-in c q after n m None lies = all-joined c (local_marks q m) (success_marks q.queue n.place n.request)
    (all-joined c (option_map_or (λ key. marks.Revoked q.queue.adapter key ∷ []) m.revoked []) _ (revoked m.revoked) (granted m.granted refl))
    (plain-bounded c (success_marks q.queue n.place n.request) (success-plain q.queue n.place n.request))
  where
    revoked : (o : Option Key) → AreBounded c (option_map_or (λ key. marks.Revoked q.queue.adapter key ∷ []) o [])
    revoked None = record {}
    revoked (Some key) = (record {}, record {})

    granted : (o : Option Grant) → m.granted ≡ o → AreBounded c (option_map_or (λ g. marks.Granted g ∷ []) o [])
    granted None is = record {}
    granted (Some g) is = (lies refl g is, record {})

-- a Local Invalidate
pub invalidate-in : (c : Configuration) (q : QueuePair) (n : Numbered) (key : Key) → RowDoes (IsIn c) (invalidate_row q n key)
invalidate-in c q n key = record {
  denied = λ d. record {};
  allowed = λ bytes refusal. operation-in c q (with_window_gone (Some (record { queue = q.queue; domain = q.domain; key = key })) q) n (record { revoked = Some key; granted = None }) refusal (λ e g is. absurd (true≢false (sym (ap is_some is))));
}
