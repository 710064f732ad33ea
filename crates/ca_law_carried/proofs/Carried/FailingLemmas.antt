-- Marks of no packet, among which no send completes with success: those of all rows but that of a response. For proofs only.
use Rattle.std.proofs.Common.{Bool, Err, List, None, Ok, Option, Result, Some, [], false, if◌then◌else◌, is_none, length, nat_le, nat_lt, not, refl, slice_get, suc, true, true≢false, ℕ, ◌&&◌, ◌++◌, ◌+◌, ◌==◌, ◌∷◌, ◌≡◌}
use Rattle.std.specs.List.{position}
use Rattle.std.specs.Option.{option_map_or}
use Rattle.std.specs.Result.{result_ok}
use Rattle.ca_law_keys.proofs.Keys.KeyTurnLemmas.{found}
use Rattle.ca_base.specs.Equal.{status_eq}
use Rattle.ca_base.specs.Sight.{Invalidation}
use Rattle.ca_base.specs.declared.completion.WcStatus.{WcStatus}
use Rattle.ca_base.specs.declared.completion.WcStatus.TheVariants.{LocalLength, LocalProtection, MemoryManagement, RetryExceeded, Success}
use Rattle.ca_base.specs.declared.denied_ask.DeniedAsk.{DeniedAsk}
use Rattle.ca_base.specs.declared.limits.TheConstants.{MAX_DUPLICATES}
use Rattle.ca_base.specs.declared.queue_numbers.Message.{Message}
use Rattle.ca_base.specs.declared.queue_numbers.Queued.{Queued}
use Rattle.ca_base.specs.declared.refusals.OpRefusal.{OpRefusal}
use Rattle.ca_base.specs.declared.request.PlacedReceive.{PlacedReceive}
use Rattle.ca_base.specs.declared.request.PostedSend.{PostedSend}
use Rattle.ca_base.specs.declared.request.RecvRequest.{RecvRequest}
use Rattle.ca_base.specs.declared.step.Reason.{Reason}
use Rattle.ca_base.specs.objects.Answers.{duplicate_count}
use Rattle.ca_base.specs.objects.QueuePair.{QueuePair}
use Rattle.ca_base.specs.objects.Saved.{saved_at}
use Rattle.ca_base.specs.objects.SharedReceives.{SharedReceives}
use Rattle.ca_base.specs.objects.WorkQueue.{WorkQueue, items_from}
use Rattle.ca_keys.specs.Refusals.{first_of}
use Rattle.ca_keys.specs.declared.access.Ask.{Ask}
use Rattle.ca_law_world.proofs.Sound.WorldLemmas.{EndingDoes, RowDoes}
use Rattle.ca_model.specs.Packets.{is_response, packet_of}
use Rattle.ca_model.specs.Past.{bytes_read, is_send_success}
use Rattle.ca_model.specs.Requests.{list_length, segments}
use Rattle.ca_model.specs.declared.mark.Drop1.{Drop1}
use Rattle.ca_model.specs.declared.mark.Mark.{Mark}
use Rattle.ca_model.specs.declared.receiving.Receiving.{Receiving}
use Rattle.ca_model.specs.declared.write_reach.WriteReach.{WriteReach}
use Rattle.ca_model.specs.machine.Acknowledgements.{failure_effects, one_retry, with_cursor, with_requester, without_oldest}
use Rattle.ca_model.specs.machine.Arrivals.{next_receive, refusal_effects, with_flag, with_message, with_receive_taken}
use Rattle.ca_model.specs.machine.Completions.{failure_mark, flush_marks, flushed_message, flushed_receives, flushed_sends, receive_mark}
use Rattle.ca_model.specs.machine.Delivery.{arrival_drops, arrival_row, packet_arrived}
use Rattle.ca_model.specs.machine.Duplicates.{ack_again, atomic_again, duplicate_effects, read_again, request_row}
use Rattle.ca_model.specs.machine.Expected.{after_send_packet, after_write_packet, atomic_row, behind_marks, invalidation_of, is_invalid, queue_after_packet, read_queued, receive_asks, receive_failure_effects, receiving_of, revoked_marks, rnr_effects, send_row, takes_receive, valid_row, with_shared_receive, with_window_gone, write_reach, write_row}
use Rattle.ca_model.specs.machine.Numbering.{Numbered}
use Rattle.ca_model.specs.machine.Requester.{denied_list_effects, is_outstanding, is_too_much, local_denial, local_reads, packet_asks, packet_row, sent_packet}
use Rattle.ca_model.specs.machine.Respond.{answer_turn, respond_refusals, respond_row}
use Rattle.ca_model.specs.machine.Responses.{drop_effects, local_writes, response_row, writes_by}
use Rattle.ca_model.specs.machine.Row.{Does, Effects, NotPossible, Row, plain_row, queue_and_marks}
use Rattle.ca_model.specs.machine.Timers.{after_timeout}
use Rattle.ca_wire.specs.Decoding.{packet_in}
use Rattle.ca_wire.specs.Packet.{Fields}
use Rattle.ca_wire.specs.Shapes.{ends}
use Rattle.ca_wire.specs.Table.{shape_of}
use Rattle.ca_wire.specs.declared.atomic_eth.AtomicEth.{AtomicEth}
use Rattle.ca_wire.specs.declared.reth.Reth.{Reth}
use Rattle.ca_wire.specs.declared.shape.Position.{Position}
use Rattle.ca_wire.specs.declared.shape.Shape.{Shape}
use Rattle.ca_wire.specs.declared.wire_error.WireError.{WireError}
use Rattle.ca_psn.specs.Psn.{widened}
use Rattle.ca_wire.specs.declared.syndrome.NakCode.{NakCode}
use Rattle.ca_wire.specs.declared.syndrome.NakCode.TheVariants.{InvalidRequest, RemoteOperationalError}
use Rattle.ca_model.specs.declared.mark.Drop1.TheVariants as drops
use Rattle.ca_model.specs.declared.mark.Mark.TheVariants as marks
use Rattle.ca_base.specs.declared.queue_numbers.Message.TheVariants as messages
use Rattle.ca_base.specs.declared.completion.WcOp.TheVariants as operations
use Rattle.ca_base.specs.declared.queue_numbers.Queued.TheVariants as queued
use Rattle.ca_base.specs.declared.step.Reason.TheVariants as reasons
use Rattle.ca_wire.specs.declared.shape.Shape.TheVariants as shapes

-- a mark of no packet that is sent or lost, and of no send that completes with success
abbrev pub IsLoose : Mark → Type 0
IsLoose (marks.Sent source target index request bytes) = ⊥
IsLoose (marks.Lost target index) = ⊥
IsLoose (marks.Done queue x cause) = is_send_success x ≡ false
IsLoose m = Unit {0}

abbrev pub AreLoose : List Mark → Type 0
AreLoose [] = Unit {0}
AreLoose (m ∷ ms) = IsLoose m × AreLoose ms

-- the same, and of no remote read
abbrev pub IsFailing : Mark → Type 0
IsFailing (marks.Sent source target index request bytes) = ⊥
IsFailing (marks.Lost target index) = ⊥
IsFailing (marks.Remote queue domain envelope key kind address count verdict) = bytes_read verdict ≡ None
IsFailing (marks.Done queue x cause) = is_send_success x ≡ false
IsFailing m = Unit {0}

abbrev pub AreFailing : List Mark → Type 0
AreFailing [] = Unit {0}
AreFailing (m ∷ ms) = IsFailing m × AreFailing ms

loose-one : (m : Mark) → IsFailing m → IsLoose m
loose-one (marks.Verb by verb answer) one = one
loose-one (marks.Granted g) one = one
loose-one (marks.Revoked adapter key) one = one
loose-one (marks.Stored place bytes) one = one
loose-one (marks.Remote queue domain envelope key kind address count verdict) one = record {}
loose-one (marks.Local queue domain key kind address count verdict) one = one
loose-one (marks.Sent source target index request bytes) one = one
loose-one (marks.Lost target index) one = one
loose-one (marks.Arrived target index) one = one
loose-one (marks.Dropped target cause) one = one
loose-one (marks.Timer queue silent) one = one
loose-one (marks.Done queue x cause) one = one

pub loose : (ms : List Mark) → AreFailing ms → AreLoose ms
loose [] all = record {}
loose (m ∷ ms) all = (loose-one m all.0, loose ms all.1)

abbrev pub Fails : Effects → Type 0
Fails e = AreFailing e.marks

abbrev pub Loosens : Effects → Type 0
Loosens e = AreLoose e.marks

pub failing-append : (ms ns : List Mark) → AreFailing ms → AreFailing ns → AreFailing (ms ++ ns)
failing-append [] ns one other = other
failing-append (m ∷ ms) ns one other = (one.0, failing-append ms ns one.1 other)

pick : (b : Bool) (e f : Effects) → Fails e → Fails f → Fails (if b then e else f)
pick true e f one other = one
pick false e f one other = other

plain : (e : Effects) → Fails e → RowDoes Fails (plain_row (Does e))
plain e fails = record { denied = λ d. fails; allowed = λ bytes refusal. fails }

pick-row : (b : Bool) (r s : Row) → RowDoes Fails r → RowDoes Fails s → RowDoes Fails (if b then r else s)
pick-row true r s one other = one
pick-row false r s one other = other

-- ---- flushes and failures

pub flush-failing : (q : QueuePair) → AreFailing (flush_marks q)
flush-failing q = failing-append (flushed_sends q.queue q.requester.oldest (items_from q.requester.oldest q.sends) ++ flushed_message q.queue q.responder.message) _
    (failing-append (flushed_sends q.queue q.requester.oldest (items_from q.requester.oldest q.sends)) (flushed_message q.queue q.responder.message)
    (sends q.requester.oldest (items_from q.requester.oldest q.sends)) (message q.responder.message)) (own q.receives)
  where
    sends : (place : ℕ) (ps : List PostedSend) → AreFailing (flushed_sends q.queue place ps)
    sends place [] = record {}
    sends place (p ∷ ps) = (refl, sends (suc place) ps)

    receives : (place : ℕ) (rs : List RecvRequest) → AreFailing (flushed_receives q.queue place rs)
    receives place [] = record {}
    receives place (r ∷ rs) = (refl, receives (suc place) rs)

    message : (m : Option Message) → AreFailing (flushed_message q.queue m)
    message None = record {}
    message (Some (messages.Write key address left count)) = record {}
    message (Some (messages.Send place receive bytes)) = (refl, record {})

    own : (o : Option (WorkQueue RecvRequest)) → AreFailing (option_map_or (λ r. flushed_receives q.queue r.next_taken (items_from r.next_taken r)) o [])
    own None = record {}
    own (Some r) = receives r.next_taken (items_from r.next_taken r)

pub failure-failing : (status : WcStatus) (cause : Option OpRefusal) (q : QueuePair) → status_eq status Success ≡ false → Fails (failure_effects status cause q)
failure-failing status cause q fails = by (items_from q.requester.oldest q.sends)
  where
    told : List PostedSend → List Mark
    told [] = flush_marks q
    told (p ∷ ps) = failure_mark q.queue q.requester.oldest p.request status cause ∷ flush_marks (without_oldest q)

    by : (ps : List PostedSend) → AreFailing (told ps)
    by [] = flush-failing q
    by (p ∷ ps) = (fails, flush-failing (without_oldest q))

retried : (psn : ℕ) (q : QueuePair) → Fails (one_retry psn q)
retried psn q = pick (nat_le q.requester.retry q.requester.retries) (failure_effects RetryExceeded None counted) (queue_and_marks (with_cursor psn counted) []) (failure-failing RetryExceeded None counted refl) (record {})
  where
    counted : QueuePair
    counted = with_requester (record q.requester { retries = suc q.requester.retries }) q

pub timeout-failing : (silent : Bool) (q : QueuePair) → Fails (after_timeout silent q)
timeout-failing silent q = (record {}, retried q.requester.una (with_requester (record q.requester { timers = suc q.requester.timers }) q))

writes-failing : (xs : List (Ask × List ℕ)) → AreFailing (local_writes xs)
writes-failing [] = record {}
writes-failing (x ∷ xs) = (record {}, writes-failing xs)

pub reads-failing : (asks : List Ask) (bytes : List (List ℕ)) → AreFailing (local_reads asks bytes)
reads-failing [] bytes = record {}
reads-failing (ask ∷ asks) [] = record {}
reads-failing (ask ∷ asks) (b ∷ bs) = (record {}, reads-failing asks bs)

-- ---- requests that arrive

duplicates : (psn : ℕ) (p : Fields) (envelope : Option ℕ) (shape : Shape) (q : QueuePair) → Fails (duplicate_effects psn p envelope shape q)
duplicates psn p envelope shape q = pick (nat_le MAX_DUPLICATES (duplicate_count q.responder.answers)) _ _ (record {}, record {}) (by shape)
  where
    of_reth : (o : Option Reth) → Fails (option_map_or (λ h. read_again psn envelope h q) o (drop_effects q drops.Unsaved))
    of_reth None = (record {}, record {})
    of_reth (Some h) = pick (nat_le (psn + segments q.responder.mtu h.length) q.responder.expected) _ _ (record {}) (record {}, record {})

    atomic : (o : Option ℕ) → Fails (atomic_again psn o q)
    atomic None = (record {}, record {})
    atomic (Some found) = record {}

    effects : Shape → Effects
    effects (shapes.Send position) = ack_again q
    effects (shapes.Write position) = ack_again q
    effects shapes.Read = option_map_or (λ h. read_again psn envelope h q) p.reth (drop_effects q drops.Unsaved)
    effects (shapes.Atomic kind) = atomic_again psn (saved_at psn q.saved) q

    ack : Fails (ack_again q)
    ack = pick (length q.responder.answers == 0) _ _ (record {}) (record {}, record {})

    by : (shape : Shape) → Fails (effects shape)
    by (shapes.Send position) = ack
    by (shapes.Write position) = ack
    by shapes.Read = of_reth p.reth
    by (shapes.Atomic kind) = atomic (saved_at psn q.saved)

receive-failed : (q : QueuePair) (r : PlacedReceive) (status : WcStatus) (cause : Option OpRefusal) (code : NakCode) → Fails (receive_failure_effects q r status cause code)
receive-failed q r status cause code = (refl, flush-failing (with_message None q))

revoked-failing : (q : QueuePair) (o : Option Invalidation) → AreFailing (revoked_marks q o)
revoked-failing q None = record {}
revoked-failing q (Some i) = (record {}, record {})

sends-failing : (before : QueuePair) (p : Fields) (place : Position) (r : Receiving) → RowDoes Fails (send_row before p place r)
sends-failing before p place r = of r.taken
  where
    from : Bool → QueuePair
    from b = if b then with_receive_taken before else before

    took : Bool → Effects → Effects
    took b e = if b then with_shared_receive (from b) e else e

    end : QueuePair → Option OpRefusal → Effects
    end q (Some cause) = receive_failure_effects q r.receive MemoryManagement (Some cause) RemoteOperationalError
    end q None = behind_marks (revoked_marks q (invalidation_of q p)) (after_send_packet (with_window_gone (invalidation_of q p) q) p place r)

    writes : QueuePair → List (Ask × List ℕ)
    writes q = writes_by (receive_asks q p r) p.payload

    row_of : Bool → Bool → Row
    row_of b long =
        if long then plain_row (Does (took b (receive_failure_effects (from b) r.receive LocalLength None InvalidRequest)))
        else record {
          asks = receive_asks (from b) p r;
          invalidation = invalidation_of (from b) p;
          denied = λ d. Does (took b (behind_marks (local_denial d ∷ []) (receive_failure_effects (from b) r.receive LocalProtection None RemoteOperationalError)));
          allowed = λ bytes refusal. Does (took b (record (behind_marks (local_writes (writes (from b))) (end (from b) refusal)) { writes = writes (from b) }));
        }

    taken : (b : Bool) (e : Effects) → Fails e → Fails (took b e)
    taken true e fails = fails
    taken false e fails = fails

    packet : (q : QueuePair) → Fails (after_send_packet q p place r)
    packet q = pick (ends place) _ _ (refl, record {}) (record {})

    ending : (q : QueuePair) (refusal : Option OpRefusal) → Fails (end q refusal)
    ending q None = failing-append (revoked_marks q (invalidation_of q p)) _ (revoked-failing q (invalidation_of q p)) (packet (with_window_gone (invalidation_of q p) q))
    ending q (Some cause) = receive-failed q r.receive MemoryManagement (Some cause) RemoteOperationalError

    by : (b long : Bool) → RowDoes Fails (row_of b long)
    by b true = plain _ (taken b _ (receive-failed (from b) r.receive LocalLength None InvalidRequest))
    by b false = record {
      denied = λ d. taken b _ (record {}, receive-failed (from b) r.receive LocalProtection None RemoteOperationalError);
      allowed = λ bytes refusal. taken b _ (failing-append (local_writes (writes (from b))) _ (writes-failing (writes (from b))) (ending (from b) refusal));
    }

    of : (b : Bool) → RowDoes Fails (row_of b (nat_lt (list_length r.receive.receive.list.items) (r.before + length p.payload)))
    of b = by b (nat_lt (list_length r.receive.receive.list.items) (r.before + length p.payload))

write-failing : (q : QueuePair) (p : Fields) (envelope : Option ℕ) (place : Position) (next : Option PlacedReceive) (r : WriteReach) → RowDoes Fails (write_row q p envelope place next r)
write-failing q p envelope place next r = record {
  denied = λ d. (refl, flush-failing q);
  allowed = λ bytes refusal. (refl, wrote);
}
  where
    done : QueuePair → QueuePair
    done q = with_message None (queue_after_packet p 1 true true q)

    by : Option ℕ → Option PlacedReceive → Effects
    by (Some imm) (Some receive) = with_shared_receive q (queue_and_marks (done (with_receive_taken q))
        (receive_mark q.queue receive.place receive.receive Success operations.RecvImm r.whole (Some imm) None ∷ []))
    by imm next = queue_and_marks (done q) []

    immediate : (imm : Option ℕ) (next : Option PlacedReceive) → Fails (by imm next)
    immediate (Some imm) (Some receive) = (refl, record {})
    immediate (Some imm) None = record {}
    immediate None next = record {}

    wrote : Fails (after_write_packet q p place r next)
    wrote = pick (ends place) _ _ (immediate p.imm next) (record {})

valid-failing : (q : QueuePair) (p : Fields) (envelope : Option ℕ) (next : Option PlacedReceive) (shape : Shape) → RowDoes Fails (valid_row q p envelope next shape)
valid-failing q p envelope next (shapes.Send place) = by (receiving_of q next q.responder.message)
  where
    row : Option Receiving → Row
    row (Some r) = send_row q p place r
    row None = plain_row (Does (refusal_effects InvalidRequest q))

    by : (o : Option Receiving) → RowDoes Fails (row o)
    by (Some r) = sends-failing q p place r
    by None = plain _ (flush-failing q)
valid-failing q p envelope next (shapes.Write place) = by (write_reach q p)
  where
    row : Option WriteReach → Row
    row (Some r) = write_row q p envelope place next r
    row None = plain_row (Does (refusal_effects InvalidRequest q))

    by : (o : Option WriteReach) → RowDoes Fails (row o)
    by (Some r) = write-failing q p envelope place next r
    by None = plain _ (flush-failing q)
valid-failing q p envelope next shapes.Read = by p.reth
  where
    row : Option Reth → Row
    row (Some h) = plain_row (Does (read_queued q p envelope h))
    row None = plain_row (Does (refusal_effects InvalidRequest q))

    by : (o : Option Reth) → RowDoes Fails (row o)
    by (Some h) = plain (read_queued q p envelope h) (record {})
    by None = plain _ (flush-failing q)
valid-failing q p envelope next (shapes.Atomic kind) = by p.atomic
  where
    row : Option AtomicEth → Row
    row (Some a) = atomic_row q p envelope kind a
    row None = plain_row (Does (refusal_effects InvalidRequest q))

    by : (o : Option AtomicEth) → RowDoes Fails (row o)
    by (Some a) = record { denied = λ d. (refl, flush-failing q); allowed = λ bytes refusal. (refl, record {}) }
    by None = plain _ (flush-failing q)

requests-failing : (p : Fields) (envelope : Option ℕ) (shared : Option SharedReceives) (shape : Shape) (q : QueuePair) → RowDoes Fails (request_row p envelope shared shape q)
requests-failing p envelope shared shape q = pick-row (nat_lt q.responder.expected psn) _ _ (plain _ (pick q.responder.nak_sent _ _ (record {}, record {}) (record {})))
    (pick-row (nat_lt psn q.responder.expected) _ _ (plain _ (duplicates psn p envelope shape q))
    (pick-row (is_invalid f p shape) _ _ (plain _ (flush-failing f))
    (pick-row (takes_receive p shape && is_none (next_receive f shared)) _ _ (plain (rnr_effects f) (record {}))
    (valid-failing f p envelope (next_receive f shared) shape))))
  where
    psn : ℕ
    psn = widened q.responder.expected p.psn

    f : QueuePair
    f = with_flag false q

-- the bytes are those of a response
abbrev pub is_answer : Option Fields → Bool
is_answer o = option_map_or (λ p. is_response p.opcode) o false

packets-failing : (p : Fields) (envelope : Option ℕ) (shared : Option SharedReceives) (q : QueuePair) → is_response p.opcode ≡ false → RowDoes Fails (packet_arrived p envelope shared q)
packets-failing p envelope shared q none = of (is_response p.opcode) none
  where
    row : Option Shape → Row
    row (Some shape) = request_row p envelope shared shape q
    row None = plain_row (Does (drop_effects q drops.State))

    by : (o : Option Shape) → RowDoes Fails (row o)
    by (Some shape) = requests-failing p envelope shared shape q
    by None = plain _ (record {}, record {})

    of : (b : Bool) → b ≡ false → RowDoes Fails (if b then response_row p q else row (shape_of p.opcode))
    of true is = absurd (true≢false is)
    of false is = by (shape_of p.opcode)

-- what bytes that are no response tell
pub arrival-failing : (bytes : List ℕ) (envelope : Option ℕ) (shared : Option SharedReceives) (q : QueuePair) → is_answer (packet_of bytes) ≡ false → RowDoes Fails (arrival_row bytes envelope shared q)
arrival-failing bytes envelope shared q none = by (packet_in bytes) none
  where
    unless : Fields → Option Drop1 → Row
    unless p (Some cause) = plain_row (Does (drop_effects q cause))
    unless p None = packet_arrived p envelope shared q

    row : Result Fields WireError → Row
    row (Err error) = plain_row (Does (drop_effects q (drops.Wire error)))
    row (Ok p) = unless p (first_of (arrival_drops q p))

    of_packet : (p : Fields) → is_response p.opcode ≡ false → (o : Option Drop1) → RowDoes Fails (unless p o)
    of_packet p is (Some cause) = plain _ (record {}, record {})
    of_packet p is None = packets-failing p envelope shared q is

    by : (o : Result Fields WireError) → is_answer (result_ok o) ≡ false → RowDoes Fails (row o)
    by (Err error) is = plain _ (record {}, record {})
    by (Ok p) is = of_packet p is (first_of (arrival_drops q p))

-- ---- turns

pub respond-loose : (room : Bool) (q : QueuePair) → RowDoes Loosens (respond_row room q)
respond-loose room q = by (first_of (respond_refusals room q)) (slice_get q.responder.answers 0)
  where
    row : Option Reason → Option Queued → Row
    row (Some reason) answer = plain_row (NotPossible reason)
    row None None = plain_row (NotPossible reasons.Empty)
    row None (Some answer) = answer_turn q answer

    turn : (a : Queued) → RowDoes Loosens (answer_turn q a)
    turn (queued.Ack psn) = record { denied = λ d. record {}; allowed = λ bytes refusal. record {} }
    turn (queued.Rnr psn) = record { denied = λ d. record {}; allowed = λ bytes refusal. record {} }
    turn (queued.Nak psn code) = record { denied = λ d. record {}; allowed = λ bytes refusal. record {} }
    turn (queued.Read psn key address left first envelope duplicate) = record {
      denied = λ d. (record {}, loose (flush_marks q) (flush-failing q));
      allowed = λ bytes refusal. (record {}, record {});
    }
    turn (queued.Atomic psn found duplicate) = record { denied = λ d. record {}; allowed = λ bytes refusal. record {} }

    by : (r : Option Reason) (o : Option Queued) → RowDoes Loosens (row r o)
    by (Some reason) answer = record { denied = λ d. record {}; allowed = λ bytes refusal. record {} }
    by None None = record { denied = λ d. record {}; allowed = λ bytes refusal. record {} }
    by None (Some answer) = turn answer

pub packet-failing : (q : QueuePair) (room : Bool) (n : Numbered) → RowDoes Fails (packet_row q room n)
packet-failing q room n = by (is_too_much q n)
  where
    row : Row
    row = record {
      asks = packet_asks q n;
      invalidation = None;
      denied = λ d. if is_outstanding q then NotPossible reasons.Outstanding else if not room then NotPossible reasons.NoRoom else Does (denied_list_effects q d);
      allowed = λ bytes refusal. if not room then NotPossible reasons.NoRoom else Does (sent_packet q n bytes);
    }

    possible : (b : Bool) (reason : Reason) (e : Effects) → Fails e → EndingDoes Fails (if b then NotPossible reason else Does e)
    possible true reason e fails = record {}
    possible false reason e fails = fails

    denials : (b c : Bool) (d : DeniedAsk) → EndingDoes Fails (if b then NotPossible reasons.Outstanding else if c then NotPossible reasons.NoRoom else Does (denied_list_effects q d))
    denials true c d = record {}
    denials false c d = possible c reasons.NoRoom (denied_list_effects q d) (record {}, failure-failing LocalProtection None q refl)

    by : (b : Bool) → RowDoes Fails (if b then plain_row (NotPossible reasons.Outstanding) else row)
    by true = record { denied = λ d. record {}; allowed = λ bytes refusal. record {} }
    by false = record {
      denied = λ d. denials (is_outstanding q) (not room) d;
      allowed = λ bytes refusal. possible (not room) reasons.NoRoom (sent_packet q n bytes) (reads-failing (packet_asks q n) bytes);
    }
