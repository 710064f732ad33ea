-- The rows of every packet and of every turn: each access that their marks tell of is judged rightly. For proofs only.
use Rattle.std.proofs.Common.{rules, nat_le, ◌%◌, ◌||◌, true≢false, find, sym, subst, arith, ◌<◌, min, map, ◌≡◌, ◌*◌, ℕ, suc, ◌+◌, nat_lt, Bool, true, false, List, [], ◌∷◌, ◌++◌, length, Option, None, Some, ap, ◌&&◌, not, is_none, ◌==◌, if◌then◌else◌, refl, slice_get, Result, Ok, Err, ◌∙◌}
use Rattle.std.specs.Option.{option_and_then, option_eq, option_map, option_map_or}
use Rattle.std.specs.Result.{result_ok}
use Rattle.std.specs.List.{flat_map, AllByRecursion}
use Rattle.ca_base.specs.declared.change.State.TheVariants as states
use Rattle.ca_base.specs.declared.completion.WcStatus.TheVariants.{BadResponse, LocalProtection, LocalLength, MemoryManagement, Success, RetryExceeded}
use Rattle.ca_base.specs.declared.refusals.OpRefusal.{OpRefusal}
use Rattle.ca_base.specs.declared.denied_ask.DeniedAsk.{DeniedAsk}
use Rattle.ca_base.specs.Sight.{Invalidation, Sight, first_denied, bytes_in}
use Rattle.ca_base.specs.objects.QueuePair.{QueuePair}
use Rattle.ca_base.specs.objects.StateTable.{is_among, is_path_mtu}
use Rattle.ca_wire.specs.declared.syndrome.NakCode.{NakCode}
use Rattle.ca_wire.specs.declared.syndrome.NakCode.TheVariants.{InvalidRequest, RemoteOperationalError, RemoteAccessError}
use Rattle.ca_wire.specs.declared.opcode.TheConstants.{ACKNOWLEDGE}
use Rattle.ca_wire.specs.Packet.{Fields}
use Rattle.ca_wire.specs.Syndrome.{syndrome_in}
use Rattle.ca_model.specs.declared.mark.Drop1.{Drop1}
use Rattle.ca_model.specs.declared.mark.Drop1.TheVariants as drops
use Rattle.ca_model.specs.machine.Acknowledgements.{Acknowledgement, acknowledgement_below, and_then, failure_effects, progress_to, first_unanswered, one_retry, with_cursor, with_requester, with_una}
use Rattle.ca_model.specs.machine.Numbering.{Numbered, request_at, cut_list, begun_requests}
use Rattle.ca_model.specs.machine.Requester.{local_denial, denied_list_effects, is_outstanding, is_too_much, packet_asks, packet_row, sent_packet, index_of_packet}
use Rattle.ca_model.specs.machine.Responses.{acknowledge_row, answer_asks, answer_bytes, answer_row, drop_effects, fits_request, fitting_row, is_outstanding_at, local_writes, outstanding_row, response_psn, response_row, segment_at, writes_by}
use Rattle.ca_model.specs.machine.Row.{NotPossible, Does, Effects, Row, plain_row, queue_and_marks}
use Rattle.ca_keys.specs.declared.access.Kind.{Kind}
use Rattle.ca_keys.specs.declared.access.Kind.TheVariants as kinds
use Rattle.ca_keys.specs.declared.key.Key.{Key}
use Rattle.ca_base.specs.declared.queue_numbers.Queued.{Queued}
use Rattle.ca_base.specs.declared.queue_numbers.Queued.TheVariants as queued
use Rattle.ca_base.specs.declared.request.PlacedReceive.{PlacedReceive}
use Rattle.ca_base.specs.objects.SharedReceives.{SharedReceives}
use Rattle.ca_psn.specs.Psn.{widened}
use Rattle.ca_wire.specs.declared.atomic_eth.AtomicEth.{AtomicEth}
use Rattle.ca_wire.specs.declared.reth.Reth.{Reth}
use Rattle.ca_wire.specs.declared.shape.Position.{Position}
use Rattle.ca_model.specs.Packets.{is_response, asks_atomic, number_put, packet_of}
use Rattle.ca_model.specs.Requests.{list_length, carried_bytes, list_of}
use Rattle.ca_model.specs.machine.Arrivals.{next_receive, refusal_effects, with_flag, with_receive_taken, with_message, packet_ask, remote_mark}
use Rattle.ca_model.specs.machine.Duplicates.{ahead_effects, duplicate_effects, request_row}
use Rattle.ca_model.specs.declared.receiving.Receiving.{Receiving}
use Rattle.ca_model.specs.declared.write_reach.WriteReach.{WriteReach}
use Rattle.ca_model.specs.machine.Expected.{after_send_packet, atomic_row, behind_marks, expected_row, invalidation_of, is_invalid, read_queued, receive_asks, receive_failure_effects, receiving_of, revoked_marks, rnr_effects, send_row, takes_receive, valid_row, with_shared_receive, with_window_gone, write_reach, write_row, message_left, queue_after_packet, after_write_packet, continues, fits_left, fits_payload, fits_position, fits_write, has_no_place, is_misaligned}
use Rattle.ca_wire.specs.declared.shape.Shape.{Shape}
use Rattle.ca_wire.specs.declared.shape.Shape.TheVariants as shapes
use Rattle.ca_wire.specs.Table.{shape_of}
use Rattle.ca_base.specs.declared.step.Reason.{Reason}
use Rattle.ca_base.specs.declared.step.Reason.TheVariants as reasons
use Rattle.ca_keys.specs.Refusals.{first_of}
use Rattle.ca_wire.specs.declared.wire_error.WireError.{WireError}
use Rattle.ca_wire.specs.Decoding.{packet_in}
use Rattle.ca_model.specs.machine.Delivery.{arrival_drops, arrival_row, packet_arrived}
use Rattle.ca_model.specs.declared.read_left.ReadLeft.{ReadLeft}
use Rattle.ca_model.specs.machine.Respond.{answer_turn, respond_refusals, respond_row, response_ask, response_length}
use Rattle.ca_model.specs.machine.LocalOperations.{invalidate_row, operation_effects}
use Rattle.ca_base.specs.declared.completion.WcOp.TheVariants as operations
use Rattle.ca_base.specs.declared.queue_numbers.Message.{Message}
use Rattle.ca_base.specs.declared.queue_numbers.Message.TheVariants as messages
use Rattle.ca_wire.specs.Shapes.{ends}
use Rattle.ca_model.specs.machine.Completions.{receive_mark, flush_marks, success_marks}
use Rattle.ca_keys.specs.declared.access.Ask.{Ask}
use Rattle.ca_keys.specs.declared.grant.Grant.{Grant}
use Rattle.ca_model.specs.declared.mark.Mark.{Mark}
use Rattle.ca_law_world.proofs.Sound.WorldLemmas.{EndingDoes}
use Rattle.ca_keys.specs.declared.verdict.Verdict.TheVariants as verdicts
use Rattle.ca_base.specs.declared.request.Piece.{Piece}
use Rattle.ca_base.specs.declared.limits.TheConstants.{ATOMIC_BYTES, MAX_MESSAGE_BYTES}
use Rattle.ca_keys.specs.Allowed.{denial_of}
use Rattle.ca_model.specs.Past.{remote_ask, Past, each_mark, packet_at}
use Rattle.std.proofs.lemmas.Bool.{eq-eqb, eqb-true, not-false}
use Rattle.std.proofs.lemmas.List.{append-nil}
use Rattle.std.specs.Str.{bytes_eq}
use Rattle.std.proofs.lemmas.Bool.Decides.{nat_tests}
use Rattle.ca_law_keys.proofs.Keys.CalmLemmas.{marks-calm}
use Rattle.ca_law_keys.proofs.Keys.PlainLemmas.{ArePlainMarks, IsPlainEffects, acknowledge-plain, ahead-plain, below-plain, drop-plain, duplicate-plain, failure-plain, flush-plain, plain-then, progress-plain, receive-plain, refusal-plain, success-plain, took-plain}
use Rattle.ca_law_keys.proofs.Keys.ToldLemmas.{At, touch-alike}
use Rattle.ca_law_keys.proofs.Judged.JudgeLemmas.{Judges, RowJudged, Sees, With, both-true, calm-keeps, effects-judged, judges-append, list-read, list-written, local-denied, none-denied, none-read, plain-judged, plain-row, read-right, remote-allowed, remote-denied, row-weaker, seen-bytes, written-keeps}
use Rattle.ca_keys.specs.Equal.{kind_eq}
use Rattle.ca_keys.specs.Memory.{ByteMap, bytes_at, little_endian, runs_at, runs_for}
use Rattle.ca_keys.specs.declared.names.QueueId.{QueueId}
use Rattle.ca_model.specs.Judged.{held, is_fitting_size, is_judged, is_of_domain, puts}
use Rattle.ca_wire.specs.declared.shape.Position.TheVariants.{First, Middle, Last, Only}
use Rattle.ca_wire.specs.Table.{Row as OpcodeRow, request_shape, row_of, table}

-- a past before a packet that arrives at a queue pair, whose bytes are this packet
pub record Arrives (g : List Grant) (m : ByteMap) (queue : QueueId) (envelope : Option ℕ) (o : Option Fields) (p : Past) : Type 0 where
  pub grants : p.grants ≡ g
  pub memory : p.memory ≡ m
  pub packet : packet_at p queue envelope ≡ o

-- a queue pair has the name and the domain of another
record IsSameName (q p : QueuePair) : Type 0 where
  queue : p.queue ≡ q.queue
  domain : p.domain ≡ q.domain

una-named : (psn : ℕ) (q : QueuePair) → IsSameName q (with_una psn q)
una-named psn q = by (nat_lt q.requester.una psn)
  where
    by : (b : Bool) → IsSameName q (if b then with_requester (record q.requester { una = psn; retries = 0; rnrs = 0 }) q else q)
    by true = record { queue = refl; domain = refl }
    by false = record { queue = refl; domain = refl }

retry-named : (psn : ℕ) (q : QueuePair) → IsSameName q (one_retry psn q).queue
retry-named psn q = by (nat_le q.requester.retry q.requester.retries)
  where
    counted : QueuePair
    counted = with_requester (record q.requester { retries = suc q.requester.retries }) q

    by : (b : Bool) → IsSameName q (if b then failure_effects RetryExceeded None counted else queue_and_marks (with_cursor psn counted) []).queue
    by true = record { queue = refl; domain = refl }
    by false = record { queue = refl; domain = refl }

-- what is left when all below a PSN was acknowledged
below-named : (psn : ℕ) (q : QueuePair) → IsSameName q (acknowledgement_below psn q).effects.queue
below-named psn q = by (first_unanswered q.requester.una psn (begun_requests q))
  where
    after : Option ℕ → Acknowledgement
    after None = record { effects = progress_to psn q; went_back = false }
    after (Some back) = record { effects = and_then (progress_to back q) (one_retry back); went_back = true }

    by : (back : Option ℕ) → IsSameName q (after back).effects.queue
    by None = record { queue = (una-named psn q).queue; domain = (una-named psn q).domain }
    by (Some back) = record {
      queue = (retry-named back (progress_to back q).queue).queue ∙ (una-named back q).queue;
      domain = (retry-named back (progress_to back q).queue).domain ∙ (una-named back q).domain;
    }

-- what an answer brings
answer-judged : (s : Sight) (g : List Grant) (m : ByteMap) (psn : ℕ) (p : Fields) (before : Effects) (n : Numbered) → is_of_domain before.queue.queue before.queue.domain ≡ true → Sees s g m
    → IsPlainEffects before → RowJudged s (With g) (answer_row psn p before n)
answer-judged s g m psn p before n own sees plain = record {
  denied = λ d is. judges-append (With g) g before.marks (local_denial d ∷ (failure_effects LocalProtection None before.queue).marks) (effects-judged (With g) before plain)
      (calm-keeps g before.marks (marks-calm before.marks plain.marks))
      (judges-append (With g) g (local_denial d ∷ []) (failure_effects LocalProtection None before.queue).marks
      (local-denied (With g) s g m before.queue.queue before.queue.domain kinds.Write (segment_at psn before.queue n) (length (answer_bytes p)) (list_of n.request.op) d (λ r at. at) own refl sees is) (λ r at. at)
      (effects-judged (With g) (failure_effects LocalProtection None before.queue) (failure-plain LocalProtection None before.queue)));
  allowed = λ is refusal. judges-append (With g) g before.marks _ (effects-judged (With g) before plain) (calm-keeps g before.marks (marks-calm before.marks plain.marks))
      (judges-append (With g) g (local_writes (writes_by (answer_asks psn p before.queue n) (answer_bytes p))) (progress_to (suc psn) before.queue).marks
      (list-written g before.queue.queue before.queue.domain (segment_at psn before.queue n) (list_of n.request.op) (answer_bytes p) own (none-denied s g m (answer_asks psn p before.queue n) sees is))
      (written-keeps g before.queue.queue before.queue.domain kinds.Write (cut_list (segment_at psn before.queue n) (length (answer_bytes p)) (list_of n.request.op)) (answer_bytes p))
      (effects-judged (With g) (progress_to (suc psn) before.queue) (progress-plain (suc psn) before.queue)));
}

fitting-judged : (s : Sight) (g : List Grant) (m : ByteMap) (psn : ℕ) (p : Fields) (a : Acknowledgement) → is_of_domain a.effects.queue.queue a.effects.queue.domain ≡ true → Sees s g m → IsPlainEffects a.effects
    → RowJudged s (With g) (fitting_row psn p a)
fitting-judged s g m psn p a own sees inner = back a.went_back
  where
    bad : Row
    bad = plain_row (Does (and_then a.effects (failure_effects BadResponse None)))

    at : Option Numbered → Row
    at None = bad
    at (Some n) = if fits_request psn p a.effects.queue n then answer_row psn p a.effects n else bad

    is_bad : RowJudged s (With g) bad
    is_bad = plain-row s (With g) (and_then a.effects (failure_effects BadResponse None))
        (plain-then a.effects (failure_effects BadResponse None) inner (failure-plain BadResponse None a.effects.queue))

    fits : (n : Numbered) (b : Bool) → RowJudged s (With g) (if b then answer_row psn p a.effects n else bad)
    fits n true = answer-judged s g m psn p a.effects n own sees inner
    fits n false = is_bad

    by : (n : Option Numbered) → RowJudged s (With g) (at n)
    by None = is_bad
    by (Some n) = fits n (fits_request psn p a.effects.queue n)

    back : (b : Bool) → RowJudged s (With g) (if b then plain_row (Does a.effects) else at (request_at psn a.effects.queue))
    back true = plain-row s (With g) a.effects inner
    back false = by (request_at psn a.effects.queue)

response-judged : (s : Sight) (g : List Grant) (m : ByteMap) (p : Fields) (q : QueuePair) → is_of_domain q.queue q.domain ≡ true → Sees s g m → RowJudged s (With g) (response_row p q)
response-judged s g m p q own sees = by (is_among (states.Rts ∷ states.Sqd ∷ []) q.state)
  where
    psn : ℕ
    psn = response_psn q p

    opcode : (b : Bool) → RowJudged s (With g) (if b then plain_row (Does (acknowledge_row psn (option_and_then (λ a. syndrome_in a.syndrome) p.aeth) q))
        else fitting_row psn p (acknowledgement_below psn q))
    opcode true = plain-row s (With g) _ (acknowledge-plain psn (option_and_then (λ a. syndrome_in a.syndrome) p.aeth) q)
    opcode false = fitting-judged s g m psn p (acknowledgement_below psn q) ((λ i. is_of_domain ((below-named psn q).queue i) ((below-named psn q).domain i)) ∙ own) sees (below-plain psn q)

    there : (b : Bool) → RowJudged s (With g) (if not b then plain_row (Does (drop_effects q drops.Stale)) else outstanding_row psn p q)
    there true = opcode (p.opcode == ACKNOWLEDGE)
    there false = plain-row s (With g) (drop_effects q drops.Stale) (drop-plain q drops.Stale)

    by : (b : Bool) → RowJudged s (With g) (if not b then plain_row (Does (drop_effects q drops.State))
        else if not (is_outstanding_at psn q) then plain_row (Does (drop_effects q drops.Stale)) else outstanding_row psn p q)
    by true = there (is_outstanding_at psn q)
    by false = plain-row s (With g) (drop_effects q drops.State) (drop-plain q drops.State)

took-judged : (g : List Grant) (p : QueuePair) (b : Bool) (e : Effects) → Judges (With g) e.marks → Judges (With g) (if b then with_shared_receive p e else e).marks
took-judged g p true e judged = judged
took-judged g p false e judged = judged

-- a SEND packet, with its receive
send-judged : (s : Sight) (g : List Grant) (m : ByteMap) (before : QueuePair) (p : Fields) (place : Position) (r : Receiving) → is_of_domain before.queue before.domain ≡ true → Sees s g m
    → RowJudged s (With g) (send_row before p place r)
send-judged s g m before p place r own sees = by (nat_lt (list_length r.receive.receive.list.items) (r.before + length p.payload))
  where
    q : QueuePair
    q = if r.taken then with_receive_taken before else before

    owned : (b : Bool) → is_of_domain (if b then with_receive_taken before else before).queue (if b then with_receive_taken before else before).domain ≡ true
    owned true = own
    owned false = own

    took : Effects → Effects
    took e = if r.taken then with_shared_receive q e else e

    end : Option OpRefusal → Effects
    end (Some cause) = receive_failure_effects q r.receive MemoryManagement (Some cause) RemoteOperationalError
    end None = behind_marks (revoked_marks q (invalidation_of q p)) (after_send_packet (with_window_gone (invalidation_of q p) q) p place r)

    writes : List (Ask × List ℕ)
    writes = writes_by (receive_asks q p r) p.payload

    row_of : Bool → Row
    row_of b =
        if b then plain_row (Does (took (receive_failure_effects q r.receive LocalLength None InvalidRequest)))
        else record {
          asks = receive_asks q p r;
          invalidation = invalidation_of q p;
          denied = λ d. Does (took (behind_marks (local_denial d ∷ []) (receive_failure_effects q r.receive LocalProtection None RemoteOperationalError)));
          allowed = λ bytes refusal. Does (took (record (behind_marks (local_writes writes) (end refusal)) { writes = writes }));
        }

    refused : DeniedAsk → Effects
    refused d = behind_marks (local_denial d ∷ []) (receive_failure_effects q r.receive LocalProtection None RemoteOperationalError)

    packet : (x : QueuePair) → ArePlainMarks (after_send_packet x p place r).marks
    packet x = at (ends place)
      where
        at : (b : Bool) → ArePlainMarks (if b
            then queue_and_marks (with_message None (queue_after_packet p 1 true true x))
            (receive_mark x.queue r.receive.place r.receive.receive Success operations.Recv (r.before + length p.payload) p.imm (option_map (λ key. record { 0 = key }) p.ieth) ∷ [])
            else queue_and_marks (with_message (Some (messages.Send r.receive.place r.receive.receive (r.before + length p.payload))) (queue_after_packet p 1 false true x)) []).marks
        at true = (record {}, record {})
        at false = record {}

    pieces : List Piece
    pieces = cut_list r.before (length p.payload) r.receive.receive.list.items

    wrote : first_denied s (receive_asks q p r) ≡ None → Judges (With g) (local_writes writes)
    wrote is = list-written g q.queue q.domain r.before r.receive.receive.list.items p.payload (owned r.taken) (none-denied s g m (receive_asks q p r) sees is)

    revoked : (o : Option Invalidation) (ms : List Mark) → ((x : Past) → each_mark is_judged x ms ≡ true) → (x : Past) → each_mark is_judged x (revoked_marks q o ++ ms) ≡ true
    revoked None ms all x = all x
    revoked (Some i) ms all x = all _

    ending : (refusal : Option OpRefusal) (x : Past) → each_mark is_judged x (end refusal).marks ≡ true
    ending (Some cause) x = plain-judged (end (Some cause)).marks (receive-plain q r.receive MemoryManagement (Some cause) RemoteOperationalError).marks x
    ending None x = revoked (invalidation_of q p) (after_send_packet (with_window_gone (invalidation_of q p) q) p place r).marks
        (plain-judged (after_send_packet (with_window_gone (invalidation_of q p) q) p place r).marks (packet (with_window_gone (invalidation_of q p) q))) x

    by : (b : Bool) → RowJudged s (With g) (row_of b)
    by true = plain-row s (With g) (took (receive_failure_effects q r.receive LocalLength None InvalidRequest)) (took-plain q r.taken _ (receive-plain q r.receive LocalLength None InvalidRequest))
    by false = record {
      denied = λ d is. took-judged g q r.taken (refused d) (judges-append (With g) g (local_denial d ∷ []) (receive_failure_effects q r.receive LocalProtection None RemoteOperationalError).marks
          (local-denied (With g) s g m q.queue q.domain kinds.Write r.before (length p.payload) r.receive.receive.list.items d (λ r at. at) (owned r.taken) refl sees is) (λ r at. at)
          (effects-judged (With g) (receive_failure_effects q r.receive LocalProtection None RemoteOperationalError) (receive-plain q r.receive LocalProtection None RemoteOperationalError)));
      allowed = λ is refusal. took-judged g q r.taken (record (behind_marks (local_writes writes) (end refusal)) { writes = writes })
          (judges-append (With g) g (local_writes writes) (end refusal).marks (wrote is) (written-keeps g q.queue q.domain kinds.Write pieces p.payload)
          (λ past at. ending refusal past));
    }

-- the bytes of a WRITE packet, by where it stands in its message
sizes : (place : Position) (mtu count left : ℕ) → 0 < mtu → fits_position mtu place count ≡ true → (if ends place then count == left else nat_lt count left) ≡ true
    → (nat_le count left && ((left == 0) || nat_lt 0 count)) ≡ true
sizes First mtu count left some fits ends = grind (arith, nat_tests)
sizes Middle mtu count left some fits ends = grind (arith, nat_tests)
sizes Last mtu count left some fits ends = grind (arith, nat_tests)
sizes Only mtu count left some fits ends = grind (arith, nat_tests)

-- a WRITE packet
write-judged : (s : Sight) (g : List Grant) (m : ByteMap) (q : QueuePair) (p : Fields) (envelope : Option ℕ) (place : Position) (next : Option PlacedReceive) (r : WriteReach) → is_of_domain q.queue q.domain ≡ true → Sees s g m
    → 0 < q.responder.mtu → fits_position q.responder.mtu place (length p.payload) ≡ true → fits_left (length p.payload) place r ≡ true → RowJudged s (With g) (write_row q p envelope place next r)
write-judged s g m q p envelope place next r own sees some fits left = record {
  denied = λ d is. judges-append (With g) g (remote_mark d.ask envelope (verdicts.Denied d.denial) ∷ []) (refusal_effects RemoteAccessError q).marks
      (remote-denied (With g) s g m q.queue q.domain r.key kinds.Write r.address r.left (length p.payload) (r.left == 0) envelope d (λ r at. at) own sees is) (λ r at. at)
      (effects-judged (With g) (refusal_effects RemoteAccessError q) (refusal-plain RemoteAccessError q));
  allowed = λ is refusal. judges-append (With g) g (mark ∷ []) (after_write_packet q p place r next).marks (told is) (λ r at. at)
      (λ past at. plain-judged (after_write_packet q p place r next).marks (packet (ends place)) past);
}
  where
    mark : Mark
    mark = remote_mark (packet_ask q r.key kinds.Write r.address r.left (length p.payload)) envelope (verdicts.Wrote p.payload)

    ask : Ask
    ask = remote_ask q.queue q.domain r.key kinds.Write r.address r.left

    told : first_denied s (if r.left == 0 then [] else packet_ask q r.key kinds.Write r.address r.left (length p.payload) ∷ []) ≡ None → Judges (With g) (mark ∷ [])
    told is = λ past at. both-true (is_judged past mark) true (both-true (is_of_domain q.queue q.domain) _ own
        (both-true (is_none (denial_of ask past.grants) && true) (is_fitting_size ask p.payload)
        (ap (λ o. is_none o && true) (ap (denial_of ask) at ∙ remote-allowed s g m q.queue q.domain r.key kinds.Write r.address r.left (length p.payload) sees is))
        (sizes place q.responder.mtu (length p.payload) r.left some fits left))) refl

    done : QueuePair → QueuePair
    done q = with_message None (queue_after_packet p 1 true true q)

    by : Option ℕ → Option PlacedReceive → Effects
    by (Some imm) (Some receive) = with_shared_receive q (queue_and_marks (done (with_receive_taken q))
        (receive_mark q.queue receive.place receive.receive Success operations.RecvImm r.whole (Some imm) None ∷ []))
    by imm next = queue_and_marks (done q) []

    immediate : (imm : Option ℕ) (next : Option PlacedReceive) → ArePlainMarks (by imm next).marks
    immediate (Some imm) (Some receive) = (record {}, record {})
    immediate (Some imm) None = record {}
    immediate None next = record {}

    packet : (b : Bool) → ArePlainMarks (if b then by p.imm next else queue_and_marks (with_message (Some (message_left r (length p.payload))) (queue_after_packet p 1 false true q)) []).marks
    packet true = immediate p.imm next
    packet false = record {}

-- the kinds of atomics
abbrev IsAtomicKind : Kind → Type 0
IsAtomicKind kinds.CmpSwap = Unit {0}
IsAtomicKind kinds.FetchAdd = Unit {0}
IsAtomicKind kind = ⊥

-- the kind of an atomic's shape
abbrev kind_of : Option Shape → Kind
kind_of (Some (shapes.Atomic kind)) = kind
kind_of shape = kinds.CmpSwap

atomic-rows : (rows : List OpcodeRow) (opcode : ℕ) → AllByRecursion (λ r. IsAtomicKind (kind_of (request_shape (Some r.operation)))) rows
    → IsAtomicKind (kind_of (request_shape (option_map (λ r. r.operation) (find (λ r. r.opcode == opcode) rows))))
atomic-rows [] opcode all = record {}
atomic-rows (r ∷ rows) opcode all = by (r.opcode == opcode) (atomic-rows rows opcode all.1)
  where
    by : (b : Bool) → IsAtomicKind (kind_of (request_shape (option_map (λ r. r.operation) (find (λ r. r.opcode == opcode) rows))))
        → IsAtomicKind (kind_of (request_shape (option_map (λ r. r.operation) (if b then Some r else find (λ r. r.opcode == opcode) rows))))
    by true rest = all.0
    by false rest = rest

-- an atomic's packet is of one of two kinds
atomic-kind : (opcode : ℕ) (kind : Kind) → shape_of opcode ≡ Some (shapes.Atomic kind) → IsAtomicKind kind
unfolding row_of
atomic-kind opcode kind is = subst (λ o. IsAtomicKind (kind_of o)) is (atomic-rows table opcode (search rules))

kind-refl : (kind : Kind) → kind_eq kind kind ≡ true
kind-refl kinds.Read = refl
kind-refl kinds.Write = refl
kind-refl kinds.CmpSwap = refl
kind-refl kinds.FetchAdd = refl

put-right : (kind : Kind) (a : AtomicEth) (found : ℕ) → IsAtomicKind kind → option_eq (λ m n. m == n) (number_put kind a found) (Some (option_map_or (λ n. n) (number_put kind a found) 0)) ≡ true
put-right kinds.CmpSwap a found atomic = eq-eqb _ _ refl
put-right kinds.FetchAdd a found atomic = eq-eqb _ _ refl
put-right kinds.Read a found atomic = absurd atomic
put-right kinds.Write a found atomic = absurd atomic

atomic-judged : (s : Sight) (g : List Grant) (m : ByteMap) (q : QueuePair) (p : Fields) (envelope : Option ℕ) (kind : Kind) (a : AtomicEth) → is_of_domain q.queue q.domain ≡ true → Sees s g m
    → shape_of p.opcode ≡ Some (shapes.Atomic kind) → p.atomic ≡ Some a → (a.address % ATOMIC_BYTES == 0) ≡ true
    → RowJudged s (Arrives g m q.queue envelope (Some p)) (atomic_row q p envelope kind a)
atomic-judged s g m q p envelope kind a own sees shape is aligned = record {
  denied = λ d is. judges-append (Arrives g m q.queue envelope (Some p)) g (remote_mark d.ask envelope (verdicts.Denied d.denial) ∷ []) (refusal_effects RemoteAccessError q).marks
      (remote-denied (Arrives g m q.queue envelope (Some p)) s g m q.queue q.domain a.key kind a.address ATOMIC_BYTES ATOMIC_BYTES false envelope d (λ r at. at.grants) own sees is) (λ r at. at.grants)
      (effects-judged (With g) (refusal_effects RemoteAccessError q) (refusal-plain RemoteAccessError q));
  allowed = λ none refusal past at. both-true (is_judged past mark) true (both-true (is_of_domain q.queue q.domain) _ own
      (both-true (((is_none (denial_of ask past.grants) && true) && (a.address % ATOMIC_BYTES == 0)) && (little_endian (held past ask ATOMIC_BYTES) == found)) _
      (both-true ((is_none (denial_of ask past.grants) && true) && (a.address % ATOMIC_BYTES == 0)) (little_endian (held past ask ATOMIC_BYTES) == found)
      (both-true (is_none (denial_of ask past.grants) && true) (a.address % ATOMIC_BYTES == 0)
      (ap (λ o. is_none o && true) (ap (denial_of ask) at.grants ∙ (none-denied s g m (ask ∷ []) sees none).0)) aligned)
      (eq-eqb _ _ (ap little_endian (same past at))))
      (ap (λ o. option_map_or (puts ask found put) o false) at.packet ∙ puts-right))) refl;
}
  where
    ask : Ask
    ask = packet_ask q a.key kind a.address ATOMIC_BYTES ATOMIC_BYTES

    found : ℕ
    found = little_endian (flat_map (λ b. b) (map (bytes_in s) (ask ∷ [])))

    put : ℕ
    put = option_map_or (λ n. n) (number_put kind a found) 0

    mark : Mark
    mark = remote_mark ask envelope (verdicts.Swapped found put)

    same : (past : Past) → Arrives g m q.queue envelope (Some p) past → held past ask ATOMIC_BYTES ≡ bytes_in s ask ++ []
    same past at = (λ i. bytes_at (at.memory i) (runs_for ask (at.grants i) ATOMIC_BYTES)) ∙ sym (seen-bytes s g m ask sees) ∙ sym (append-nil (bytes_in s ask))

    puts-right : puts ask found put p ≡ true
    puts-right = both-true (asks_atomic kind p.opcode) _ (asked (shape_of p.opcode) shape) (ap (λ o. option_map_or (λ a. option_eq (λ m n. m == n) (number_put kind a found) (Some put)) o false) is
        ∙ put-right kind a found (atomic-kind p.opcode kind shape))
      where
        is_asked : Option Shape → Bool
        is_asked (Some (shapes.Atomic found)) = kind_eq found kind
        is_asked shape = false

        asked : (o : Option Shape) → o ≡ Some (shapes.Atomic kind) → is_asked o ≡ true
        asked o is = ap is_asked is ∙ kind-refl kind

refused-judged : (s : Sight) (I : Past → Type 0) (code : NakCode) (q : QueuePair) → RowJudged s I (plain_row (Does (refusal_effects code q)))
refused-judged s I code q = plain-row s I (refusal_effects code q) (refusal-plain code q)

-- a packet that is not invalid
record IsValid (q : QueuePair) (p : Fields) (shape : Shape) : Type 0 where
  payload : fits_payload q p shape ≡ true
  write : fits_write q p shape ≡ true
  aligned : is_misaligned p ≡ false

-- the three of these that matter
three-fail : (c p w r m h : Bool) → (c || p || w || r || m || h) ≡ false → (p ≡ false) × (w ≡ false) × (m ≡ false)
three-fail false false false false false false e = (refl, refl, refl)
three-fail true p w r m h e = absurd (true≢false e)
three-fail false true w r m h e = absurd (true≢false e)
three-fail false false true r m h e = absurd (true≢false e)
three-fail false false false true m h e = absurd (true≢false e)
three-fail false false false false true h e = absurd (true≢false e)
three-fail false false false false false true e = absurd (true≢false e)

is-valid : (q : QueuePair) (p : Fields) (shape : Shape) → is_invalid q p shape ≡ false → IsValid q p shape
is-valid q p shape e = by (three-fail (not (continues q.responder.message shape)) (not (fits_payload q p shape)) (not (fits_write q p shape)) (option_map_or (λ h. nat_lt MAX_MESSAGE_BYTES h.length) p.reth false)
    (is_misaligned p) (has_no_place q shape) e)
  where
    by : (not (fits_payload q p shape) ≡ false) × (not (fits_write q p shape) ≡ false) × (is_misaligned p ≡ false) → IsValid q p shape
    by none = record { payload = not-false (fits_payload q p shape) none.0; write = not-false (fits_write q p shape) none.1; aligned = none.2 }

valid-judged : (s : Sight) (g : List Grant) (m : ByteMap) (q : QueuePair) (p : Fields) (envelope : Option ℕ) (next : Option PlacedReceive) (shape : Shape) → is_of_domain q.queue q.domain ≡ true → Sees s g m
    → 0 < q.responder.mtu → shape_of p.opcode ≡ Some shape → IsValid q p shape → RowJudged s (Arrives g m q.queue envelope (Some p)) (valid_row q p envelope next shape)
valid-judged s g m q p envelope next (shapes.Send place) own sees some is valid = row-weaker s (With g) I (valid_row q p envelope next (shapes.Send place)) (λ r at. at.grants) (by q.responder.message)
  where
    I : Past → Type 0
    I = Arrives g m q.queue envelope (Some p)

    row : Option Receiving → Row
    row (Some r) = send_row q p place r
    row None = plain_row (Does (refusal_effects InvalidRequest q))

    start : (o : Option PlacedReceive) → RowJudged s (With g) (row (option_map (λ r. record { receive = r; before = 0; taken = true }) o))
    start None = refused-judged s (With g) InvalidRequest q
    start (Some r) = send-judged s g m q p place (record { receive = r; before = 0; taken = true }) own sees

    by : (m : Option Message) → RowJudged s (With g) (row (receiving_of q next m))
    by None = start next
    by (Some (messages.Write key address left count)) = start next
    by (Some (messages.Send at receive bytes)) = send-judged s g m q p place (record { receive = record { place = at; receive = receive }; before = bytes; taken = false }) own sees
valid-judged s g m q p envelope next (shapes.Write place) own sees some is valid = row-weaker s (With g) I (valid_row q p envelope next (shapes.Write place)) (λ r at. at.grants) (by (write_reach q p) valid.write)
  where
    I : Past → Type 0
    I = Arrives g m q.queue envelope (Some p)

    row : Option WriteReach → Row
    row (Some r) = write_row q p envelope place next r
    row None = plain_row (Does (refusal_effects InvalidRequest q))

    by : (o : Option WriteReach) → option_map_or (fits_left (length p.payload) place) o true ≡ true → RowJudged s (With g) (row o)
    by (Some r) left = write-judged s g m q p envelope place next r own sees some valid.payload left
    by None left = refused-judged s (With g) InvalidRequest q
valid-judged s g m q p envelope next shapes.Read own sees some is valid = by p.reth
  where
    I : Past → Type 0
    I = Arrives g m q.queue envelope (Some p)

    row : Option Reth → Row
    row (Some h) = plain_row (Does (read_queued q p envelope h))
    row None = plain_row (Does (refusal_effects InvalidRequest q))

    by : (o : Option Reth) → RowJudged s I (row o)
    by (Some h) = plain-row s I (read_queued q p envelope h) (record { writes = refl; marks = record {} })
    by None = refused-judged s I InvalidRequest q
valid-judged s g m q p envelope next (shapes.Atomic kind) own sees some is valid = by p.atomic refl
  where
    I : Past → Type 0
    I = Arrives g m q.queue envelope (Some p)

    row : Option AtomicEth → Row
    row (Some a) = atomic_row q p envelope kind a
    row None = plain_row (Does (refusal_effects InvalidRequest q))

    by : (o : Option AtomicEth) → p.atomic ≡ o → RowJudged s I (row o)
    by (Some a) e = atomic-judged s g m q p envelope kind a own sees is e
        (not-false (a.address % ATOMIC_BYTES == 0) (sym (ap (λ o. option_map_or (λ (a : AtomicEth). not (a.address % ATOMIC_BYTES == 0)) o false) e) ∙ valid.aligned))
    by None e = refused-judged s I InvalidRequest q

expected-judged : (s : Sight) (g : List Grant) (m : ByteMap) (before : QueuePair) (shared : Option SharedReceives) (p : Fields) (envelope : Option ℕ) (shape : Shape) → is_of_domain before.queue before.domain ≡ true → Sees s g m
    → 0 < before.responder.mtu → shape_of p.opcode ≡ Some shape → RowJudged s (Arrives g m before.queue envelope (Some p)) (expected_row before shared p envelope shape)
expected-judged s g m before shared p envelope shape own sees some is = by (is_invalid q p shape) refl
  where
    I : Past → Type 0
    I = Arrives g m before.queue envelope (Some p)

    q : QueuePair
    q = with_flag false before

    waits : is_invalid q p shape ≡ false → (b : Bool) → RowJudged s I (if b then plain_row (Does (rnr_effects q)) else valid_row q p envelope (next_receive q shared) shape)
    waits e true = plain-row s I (rnr_effects q) (record { writes = refl; marks = record {} })
    waits e false = valid-judged s g m q p envelope (next_receive q shared) shape own sees some is (is-valid q p shape e)

    by : (b : Bool) → is_invalid q p shape ≡ b → RowJudged s I (
        if b then plain_row (Does (refusal_effects InvalidRequest q))
        else if takes_receive p shape && is_none (next_receive q shared) then plain_row (Does (rnr_effects q))
        else valid_row q p envelope (next_receive q shared) shape)
    by true e = refused-judged s I InvalidRequest q
    by false e = waits e (takes_receive p shape && is_none (next_receive q shared))

request-judged : (s : Sight) (g : List Grant) (m : ByteMap) (p : Fields) (envelope : Option ℕ) (shared : Option SharedReceives) (shape : Shape) (q : QueuePair) → is_of_domain q.queue q.domain ≡ true → Sees s g m
    → 0 < q.responder.mtu → shape_of p.opcode ≡ Some shape → RowJudged s (Arrives g m q.queue envelope (Some p)) (request_row p envelope shared shape q)
request-judged s g m p envelope shared shape q own sees some is = by (widened q.responder.expected p.psn)
  where
    I : Past → Type 0
    I = Arrives g m q.queue envelope (Some p)

    before : (psn : ℕ) (b : Bool) → RowJudged s I (if b then plain_row (Does (duplicate_effects psn p envelope shape q)) else expected_row q shared p envelope shape)
    before psn true = plain-row s I _ (duplicate-plain psn p envelope shape q)
    before psn false = expected-judged s g m q shared p envelope shape own sees some is

    ahead : (psn : ℕ) (b : Bool) → RowJudged s I (
        if b then plain_row (Does (ahead_effects q))
        else if nat_lt psn q.responder.expected then plain_row (Does (duplicate_effects psn p envelope shape q))
        else expected_row q shared p envelope shape)
    ahead psn true = plain-row s I _ (ahead-plain q)
    ahead psn false = before psn (nat_lt psn q.responder.expected)

    by : (psn : ℕ) → RowJudged s I (
        if nat_lt q.responder.expected psn then plain_row (Does (ahead_effects q))
        else if nat_lt psn q.responder.expected then plain_row (Does (duplicate_effects psn p envelope shape q))
        else expected_row q shared p envelope shape)
    by psn = ahead psn (nat_lt q.responder.expected psn)

pub arrival-judged : (s : Sight) (g : List Grant) (m : ByteMap) (bytes : List ℕ) (envelope : Option ℕ) (shared : Option SharedReceives) (q : QueuePair) → is_of_domain q.queue q.domain ≡ true → Sees s g m
    → 0 < q.responder.mtu → RowJudged s (Arrives g m q.queue envelope (packet_of bytes)) (arrival_row bytes envelope shared q)
arrival-judged s g m bytes envelope shared q own sees some = by (packet_in bytes) refl
  where
    I : Option Fields → Past → Type 0
    I o = Arrives g m q.queue envelope o

    shaped : Fields → Option Shape → Row
    shaped p (Some shape) = request_row p envelope shared shape q
    shaped p None = plain_row (Does (drop_effects q drops.State))

    requests : (p : Fields) (o : Option Shape) → shape_of p.opcode ≡ o → RowJudged s (I (Some p)) (shaped p o)
    requests p (Some shape) is = request-judged s g m p envelope shared shape q own sees some is
    requests p None is = plain-row s (I (Some p)) (drop_effects q drops.State) (drop-plain q drops.State)

    kinds : (p : Fields) (b : Bool) → RowJudged s (I (Some p)) (if b then response_row p q else shaped p (shape_of p.opcode))
    kinds p true = row-weaker s (With g) (I (Some p)) (response_row p q) (λ r at. at.grants) (response-judged s g m p q own sees)
    kinds p false = requests p (shape_of p.opcode) refl

    dropped : Fields → Option Drop1 → Row
    dropped p (Some cause) = plain_row (Does (drop_effects q cause))
    dropped p None = packet_arrived p envelope shared q

    unless : (p : Fields) (o : Option Drop1) → RowJudged s (I (Some p)) (dropped p o)
    unless p (Some cause) = plain-row s (I (Some p)) (drop_effects q cause) (drop-plain q cause)
    unless p None = kinds p (is_response p.opcode)

    row : Result Fields WireError → Row
    row (Err error) = plain_row (Does (drop_effects q (drops.Wire error)))
    row (Ok p) = dropped p (first_of (arrival_drops q p))

    by : (r : Result Fields WireError) → packet_in bytes ≡ r → RowJudged s (I (packet_of bytes)) (row r)
    by (Err error) e = plain-row s (I (packet_of bytes)) (drop_effects q (drops.Wire error)) (drop-plain q (drops.Wire error))
    by (Ok p) e = row-weaker s (I (Some p)) (I (packet_of bytes)) (row (Ok p)) (λ r at. record { grants = at.grants; memory = at.memory; packet = at.packet ∙ ap result_ok e }) (unless p (first_of (arrival_drops q p)))

some-part : (mtu part : ℕ) → 0 < mtu → ((part == 0) || nat_lt 0 (min mtu part)) ≡ true
some-part mtu part some = grind (arith, nat_tests)

pub respond-judged : (s : Sight) (g : List Grant) (m : ByteMap) (room : Bool) (q : QueuePair) → is_of_domain q.queue q.domain ≡ true → Sees s g m → 0 < q.responder.mtu → RowJudged s (At g m) (respond_row room q)
respond-judged s g m room q own sees some = by (first_of (respond_refusals room q)) (slice_get q.responder.answers 0)
  where
    I : Past → Type 0
    I = At g m

    front : Option Reason → Option Queued → Row
    front (Some reason) answer = plain_row (NotPossible reason)
    front None None = plain_row (NotPossible reasons.Empty)
    front None (Some answer) = answer_turn q answer

    quiet : (e : Effects) → IsPlainEffects e → RowJudged s I (plain_row (Does e))
    quiet e inner = plain-row s I e inner

    turn : (a : Queued) → RowJudged s I (answer_turn q a)
    turn (queued.Ack psn) = quiet _ (record { writes = refl; marks = record {} })
    turn (queued.Rnr psn) = quiet _ (record { writes = refl; marks = record {} })
    turn (queued.Nak psn code) = quiet _ (record { writes = refl; marks = record {} })
    turn (queued.Read psn key address part first envelope duplicate) = record {
      denied = λ d is. judges-append I g (remote_mark d.ask envelope (verdicts.Denied d.denial) ∷ []) (flush_marks q)
          (remote-denied I s g m q.queue q.domain key kinds.Read address part touch (part == 0) envelope d (λ r at. at.grants) own sees is) (λ r at. at.grants)
          (λ past at. plain-judged (flush_marks q) (flush-plain q) past);
      allowed = λ is refusal past at. both-true (is_judged past mark) true (both-true (is_of_domain q.queue q.domain) _ own
          (both-true ((is_none (denial_of ask past.grants) && true) && is_fitting_size ask bytes) _
          (both-true (is_none (denial_of ask past.grants) && true) (is_fitting_size ask bytes) (ap (λ o. is_none o && true) (ap (denial_of ask) at.grants ∙ allowed is)) (right is past at).0)
          (right is past at).1)) refl;
    }
      where
        r : ReadLeft
        r = record { psn = psn; key = key; address = address; left = part; first = first; envelope = envelope; duplicate = duplicate }

        touch : ℕ
        touch = response_length q r

        ask : Ask
        ask = remote_ask q.queue q.domain key kinds.Read address part

        bytes : List ℕ
        bytes = flat_map (λ b. b) (map (bytes_in s) (if part == 0 then [] else response_ask q r ∷ []))

        mark : Mark
        mark = remote_mark (response_ask q r) envelope (verdicts.Read bytes)

        allowed : first_denied s (if part == 0 then [] else response_ask q r ∷ []) ≡ None → denial_of ask g ≡ None
        allowed is = remote-allowed s g m q.queue q.domain key kinds.Read address part touch sees is

        same : (b : Bool) → (part == 0) ≡ b → flat_map (λ b. b) (map (bytes_in s) (if b then [] else response_ask q r ∷ [])) ≡ bytes_at m (runs_for ask g touch)
        same true e = sym (ap (λ n. bytes_at m (runs_for ask g n)) (omega (arith, eqb-true part 0 e)) ∙ none-read g m ask)
        same false e = append-nil (bytes_in s (response_ask q r)) ∙ seen-bytes s g m (response_ask q r) sees
            ∙ ap (λ o. bytes_at m (option_map_or (λ h. runs_at h address touch) o [])) (touch-alike ask touch g)

        right : first_denied s (if part == 0 then [] else response_ask q r ∷ []) ≡ None → (past : Past) → At g m past → (is_fitting_size ask bytes ≡ true) × (bytes_eq bytes (held past ask (length bytes)) ≡ true)
        right is past at = read-right g m ask touch bytes past sees.whole at (allowed is) (omega arith) (some-part q.responder.mtu part some) (same (part == 0) refl)
    turn (queued.Atomic psn found duplicate) = quiet _ (record { writes = refl; marks = record {} })

    by : (o : Option Reason) (a : Option Queued) → RowJudged s I (front o a)
    by (Some reason) a = record { denied = λ d is. record {}; allowed = λ is refusal. record {} }
    by None None = record { denied = λ d is. record {}; allowed = λ is refusal. record {} }
    by None (Some a) = turn a

pub packet-judged : (s : Sight) (g : List Grant) (m : ByteMap) (q : QueuePair) (room : Bool) (n : Numbered) → is_of_domain q.queue q.domain ≡ true → Sees s g m → RowJudged s (At g m) (packet_row q room n)
packet-judged s g m q room n own sees = by (is_too_much q n)
  where
    I : Past → Type 0
    I = At g m

    row : Row
    row = record {
      asks = packet_asks q n;
      invalidation = None;
      denied = λ d.
          if is_outstanding q then NotPossible reasons.Outstanding
          else if not room then NotPossible reasons.NoRoom
          else Does (denied_list_effects q d);
      allowed = λ bytes refusal. if not room then NotPossible reasons.NoRoom else Does (sent_packet q n bytes);
    }

    skip : ℕ
    skip = index_of_packet q n * q.responder.mtu

    count : ℕ
    count = carried_bytes q.responder.mtu n.request.op (index_of_packet q n)

    denied : (d : DeniedAsk) (b z : Bool) → first_denied s (packet_asks q n) ≡ Some d
        → EndingDoes (λ e. Judges I e.marks) (if b then NotPossible reasons.Outstanding else if not z then NotPossible reasons.NoRoom else Does (denied_list_effects q d))
    denied d true z is = record {}
    denied d false true is = judges-append I g (local_denial d ∷ []) (failure_effects LocalProtection None q).marks
        (local-denied I s g m q.queue q.domain kinds.Read skip count (list_of n.request.op) d (λ r at. at.grants) own refl sees is) (λ p at. at.grants)
        (effects-judged (With g) (failure_effects LocalProtection None q) (failure-plain LocalProtection None q))
    denied d false false is = record {}

    allowed : (z : Bool) → first_denied s (packet_asks q n) ≡ None
        → EndingDoes (λ e. Judges I e.marks) (if not z then NotPossible reasons.NoRoom else Does (sent_packet q n (map (bytes_in s) (packet_asks q n))))
    allowed true is = list-read s g m q.queue q.domain (cut_list skip count (list_of n.request.op)) own sees (none-denied s g m (packet_asks q n) sees is)
    allowed false is = record {}

    by : (b : Bool) → RowJudged s I (if b then plain_row (NotPossible reasons.Outstanding) else row)
    by true = record { denied = λ d is. record {}; allowed = λ is refusal. record {} }
    by false = record { denied = λ d is. denied d (is_outstanding q) room is; allowed = λ is refusal. allowed room is }

-- a Local Invalidate
pub invalidate-judged : (s : Sight) (I : Past → Type 0) (q : QueuePair) (n : Numbered) (key : Key) → RowJudged s I (invalidate_row q n key)
invalidate-judged s I q n key = record { denied = λ d is p at. refl; allowed = λ is refusal. by refusal }
  where
    i : Option Invalidation
    i = Some (record { queue = q.queue; domain = q.domain; key = key })

    by : (refusal : Option OpRefusal) → Judges I (operation_effects q n (with_window_gone i q) (record { revoked = Some key; granted = None }) refusal).marks
    by (Some cause) = effects-judged I (failure_effects MemoryManagement (Some cause) q) (failure-plain MemoryManagement (Some cause) q)
    by None = λ p at. plain-judged (success_marks q.queue n.place n.request) (success-plain q.queue n.place n.request) _

-- a path MTU has some bytes
pub some-mtu : (mtu : ℕ) → is_path_mtu mtu ≡ true → 0 < mtu
some-mtu mtu is = grind (arith, nat_tests)
