-- What rows leave of the PSN at which the oldest unfinished request stands. For proofs only.
use Rattle.std.proofs.Common.{Bool, Err, List, None, Ok, Option, Result, Some, [], ap, arith, false, if◌then◌else◌, is_none, length, nat_le, nat_lt, not, option_map, refl, slice_get, subst, suc, sym, true, true≢false, ℕ, ◌&&◌, ◌+◌, ◌-◌, ◌==◌, ◌∙◌, ◌∷◌, ◌≡◌, ◌≤◌}
use Rattle.std.specs.Option.{option_and_then, option_map_or}
use Rattle.ca_law_keys.proofs.Posts.PlaceLemmas.{IsPerformed, IsPostedAt}
use Rattle.ca_law_carried.proofs.Starts.NumberLemmas.{Linked, before-next, finished-sum, linked-item}
use Rattle.ca_law_carried.specs.Starts.{Stands, psns_before}
use Rattle.ca_base.specs.declared.change.State.{State}
use Rattle.ca_base.specs.declared.completion.WcStatus.{WcStatus}
use Rattle.ca_base.specs.declared.completion.WcStatus.TheVariants.{BadResponse, LocalLength, LocalProtection, MemoryManagement, RemoteAccess, RemoteInvalidRequest, RemoteOperation, RetryExceeded, RnrRetryExceeded, Success}
use Rattle.ca_base.specs.declared.denied_ask.DeniedAsk.{DeniedAsk}
use Rattle.ca_base.specs.declared.limits.TheConstants.{MAX_DUPLICATES, MAX_RETRY}
use Rattle.ca_base.specs.declared.queue_numbers.Message.{Message}
use Rattle.ca_base.specs.declared.queue_numbers.Queued.{Queued}
use Rattle.ca_base.specs.declared.queue_numbers.RequesterNumbers.{RequesterNumbers}
use Rattle.ca_base.specs.declared.refusals.OpRefusal.{OpRefusal}
use Rattle.ca_base.specs.declared.request.PlacedReceive.{PlacedReceive}
use Rattle.ca_base.specs.declared.request.PostedSend.{PostedSend}
use Rattle.ca_base.specs.declared.request.SendOp.{SendOp}
use Rattle.ca_base.specs.declared.step.Reason.{Reason}
use Rattle.ca_base.specs.objects.Answers.{duplicate_count}
use Rattle.ca_base.specs.objects.LocalRequest.{LocalMarks}
use Rattle.ca_base.specs.objects.QueuePair.{QueuePair, in_error, without_answers}
use Rattle.ca_base.specs.objects.Saved.{saved_at}
use Rattle.ca_base.specs.objects.SharedReceives.{SharedReceives}
use Rattle.ca_base.specs.objects.StateTable.{is_among}
use Rattle.ca_base.specs.objects.WorkQueue.{WorkQueue, item_at, next_place}
use Rattle.ca_keys.specs.Refusals.{first_of}
use Rattle.ca_keys.specs.declared.access.Ask.{Ask}
use Rattle.ca_keys.specs.declared.access.Kind.{Kind}
use Rattle.ca_law_world.proofs.Sound.WorldLemmas.{EndingDoes, RowDoes}
use Rattle.ca_model.specs.Packets.{is_response}
use Rattle.ca_model.specs.Past.{Posted}
use Rattle.ca_model.specs.Requests.{is_local, list_length, psns_of, segments}
use Rattle.ca_model.specs.declared.mark.Drop1.{Drop1}
use Rattle.ca_model.specs.declared.read_left.ReadLeft.{ReadLeft}
use Rattle.ca_model.specs.declared.receiving.Receiving.{Receiving}
use Rattle.ca_model.specs.declared.write_reach.WriteReach.{WriteReach}
use Rattle.ca_model.specs.machine.Acknowledgements.{Acknowledgement, acknowledgement_below, after_finished, and_then, failure_effects, first_unanswered, one_retry, progress_to, with_cursor, with_requester, with_una}
use Rattle.ca_model.specs.machine.Arrivals.{next_receive, refusal_effects, with_answer, with_flag, with_message, with_receive_taken}
use Rattle.ca_model.specs.machine.Completions.{receive_mark}
use Rattle.ca_model.specs.machine.Delivery.{arrival_drops, arrival_row, packet_arrived}
use Rattle.ca_model.specs.machine.Duplicates.{ack_again, ahead_effects, answer_again, atomic_again, duplicate_effects, read_again, request_row}
use Rattle.ca_model.specs.machine.Expected.{after_send_packet, atomic_row, behind_marks, expected_row, invalidation_of, is_invalid, message_left, queue_after_packet, read_queued, receive_asks, receive_failure_effects, receiving_of, revoked_marks, rnr_effects, send_row, takes_receive, valid_row, with_shared_receive, with_window_gone, write_reach, write_row}
use Rattle.ca_model.specs.machine.Invariants.{is_fresh, is_sending}
use Rattle.ca_model.specs.machine.LocalOperations.{operation_effects}
use Rattle.ca_model.specs.machine.Numbering.{Numbered, begun_requests, request_at}
use Rattle.ca_model.specs.machine.Parts.{part}
use Rattle.ca_model.specs.machine.Requester.{denied_list_effects, is_outstanding, is_too_much, local_denial, packet_asks, packet_row, sent_packet}
use Rattle.ca_model.specs.machine.Respond.{answer_turn, is_last_response, respond_refusals, respond_row, rest_of, with_front, without_front}
use Rattle.ca_model.specs.machine.Responses.{acknowledge_row, answer_row, drop_effects, fits_request, fitting_row, is_outstanding_at, local_writes, nak_effects, outstanding_row, response_psn, response_row, rnr_nak_effects, unless_back, writes_by}
use Rattle.ca_model.specs.machine.Row.{Does, Effects, Ending, NotPossible, Row, plain_row, queue_and_marks}
use Rattle.ca_model.specs.machine.Timers.{after_timeout, after_wake}
use Rattle.ca_wire.specs.Decoding.{packet_in}
use Rattle.ca_wire.specs.Packet.{Fields}
use Rattle.ca_wire.specs.Shapes.{ends}
use Rattle.ca_wire.specs.Table.{shape_of}
use Rattle.ca_wire.specs.declared.atomic_eth.AtomicEth.{AtomicEth}
use Rattle.ca_wire.specs.declared.opcode.TheConstants.{ACKNOWLEDGE}
use Rattle.ca_wire.specs.declared.reth.Reth.{Reth}
use Rattle.ca_wire.specs.declared.shape.Position.{Position}
use Rattle.ca_wire.specs.declared.shape.Shape.{Shape}
use Rattle.ca_wire.specs.declared.wire_error.WireError.{WireError}
use Rattle.ca_psn.specs.Psn.{widened}
use Rattle.ca_wire.specs.Syndrome.{nak_code, syndrome_in}
use Rattle.ca_wire.specs.declared.syndrome.NakCode.{NakCode}
use Rattle.ca_wire.specs.declared.syndrome.NakCode.TheVariants.{InvalidRequest, PsnSequenceError, RemoteAccessError, RemoteOperationalError}
use Rattle.ca_wire.specs.declared.syndrome.Syndrome.{Syndrome}
use Rattle.ca_wire.specs.declared.syndrome.Syndrome.TheVariants.{Ack, Nak, RnrNak}
use Rattle.ca_model.specs.declared.mark.Drop1.TheVariants as drops
use Rattle.ca_base.specs.declared.queue_numbers.Message.TheVariants as messages
use Rattle.ca_base.specs.declared.completion.WcOp.TheVariants as operations
use Rattle.ca_base.specs.declared.request.SendOp.TheVariants as ops
use Rattle.ca_base.specs.declared.queue_numbers.Queued.TheVariants as queued
use Rattle.ca_base.specs.declared.step.Reason.TheVariants as reasons
use Rattle.ca_keys.specs.Spelling.{rights_text as rights}
use Rattle.ca_wire.specs.declared.shape.Shape.TheVariants as shapes
use Rattle.ca_base.specs.declared.change.State.TheVariants as states

-- A queue pair after a row: its sends and its path MTU are the same; if it sends, it did before, and its oldest unfinished
-- request has its PSN, if it had.
pub record IsMoved (base : ℕ) (posted : List Posted) (q p : QueuePair) : Type 0 where
  pub sends : p.sends ≡ q.sends
  pub mtu : p.responder.mtu ≡ q.responder.mtu
  pub low : q.sends.first ≤ q.requester.oldest → p.sends.first ≤ p.requester.oldest
  pub fresh : is_fresh p.state ≡ true → is_fresh q.state ≡ true
  pub sending : is_sending p.state ≡ true → is_sending q.state ≡ true
  pub stands : is_sending p.state ≡ true → q.sends.first ≤ q.requester.oldest → Linked posted q.sends → Stands base posted q → Stands base posted p

abbrev pub Moves : ℕ → List Posted → QueuePair → Effects → Type 0
Moves base posted q e = IsMoved base posted q e.queue

-- the queue pair with another's state, sends, requester and path MTU
abbrev joined : QueuePair → State → WorkQueue PostedSend → RequesterNumbers → ℕ → QueuePair
joined q state sends requester mtu = record q { state = state; sends = sends; requester = requester; responder = record q.responder { mtu = mtu } }

module _ (base : ℕ) (posted : List Posted) where
  pub moved-same : (q p : QueuePair) → p.state ≡ q.state → p.sends ≡ q.sends → p.requester ≡ q.requester → p.responder.mtu ≡ q.responder.mtu → IsMoved base posted q p
  moved-same q p state sends requester mtu = record {
    sends = sends;
    mtu = mtu;
    low = λ low. omega (arith, low, ap (λ (s : WorkQueue PostedSend). s.first) sends, ap (λ (r : RequesterNumbers). r.oldest) requester);
    fresh = λ is. sym (ap is_fresh state) ∙ is;
    sending = λ is. sym (ap is_sending state) ∙ is;
    stands = λ is low linked at. ap (λ (r : RequesterNumbers). r.oldest_psn) requester ∙ at ∙ (λ i. base + psns_before (sym mtu i) posted (sym requester i).oldest);
  }

  pub moved-then : (q p r : QueuePair) → IsMoved base posted q p → IsMoved base posted p r → IsMoved base posted q r
  moved-then q p r one other = record {
    sends = other.sends ∙ one.sends;
    mtu = other.mtu ∙ one.mtu;
    low = λ low. other.low (one.low low);
    fresh = λ is. one.fresh (other.fresh is);
    sending = λ is. one.sending (other.sending is);
    stands = λ is low linked at. other.stands is (one.low low) (subst (Linked posted) (sym one.sends) linked) (one.stands (other.sending is) low linked at);
  }

  -- in Error nothing is sent
  pub moved-error : (q p : QueuePair) → p.state ≡ states.Error → p.sends ≡ q.sends → p.responder.mtu ≡ q.responder.mtu → p.requester.oldest ≡ next_place q.sends → IsMoved base posted q p
  moved-error q p error sends mtu oldest = record {
    sends = sends;
    mtu = mtu;
    low = λ low. omega (arith, ap (λ (s : WorkQueue PostedSend). s.first) sends, oldest);
    fresh = λ is. absurd (true≢false (sym is ∙ ap is_fresh error));
    sending = λ is. absurd (true≢false (sym is ∙ ap is_sending error));
    stands = λ is low linked at. absurd (true≢false (sym is ∙ ap is_sending error));
  }

  pub failed : (status : WcStatus) (cause : Option OpRefusal) (q : QueuePair) → Moves base posted q (failure_effects status cause q)
  failed status cause q = moved-error q (failure_effects status cause q).queue refl refl refl refl

  una-same : (psn : ℕ) (q : QueuePair) → IsMoved base posted q (with_una psn q)
  una-same psn q = by (nat_lt q.requester.una psn)
    where
      by : (b : Bool) → IsMoved base posted q (if b then with_requester (record q.requester { una = psn; retries = 0; rnrs = 0 }) q else q)
      by true = record { sends = refl; mtu = refl; low = λ low. low; fresh = λ is. is; sending = λ is. is; stands = λ is low linked at. at }
      by false = record { sends = refl; mtu = refl; low = λ low. low; fresh = λ is. is; sending = λ is. is; stands = λ is low linked at. at }

  -- what is finished is left behind
  finished : (q : QueuePair) → IsMoved base posted q (after_finished q)
  finished q = record {
    sends = refl;
    mtu = refl;
    low = λ low. omega (arith, low);
    fresh = λ is. is;
    sending = λ is. is;
    stands = λ is low linked at. omega (arith, at, finished-sum posted q linked low);
  }

  progress-moved : (psn : ℕ) (q : QueuePair) → Moves base posted q (progress_to psn q)
  progress-moved psn q = moved-then q (with_una psn q) (after_finished (with_una psn q)) (una-same psn q) (finished (with_una psn q))

  pub retry-moved : (psn : ℕ) (q : QueuePair) → Moves base posted q (one_retry psn q)
  retry-moved psn q = by (nat_le q.requester.retry q.requester.retries)
    where
      counted : QueuePair
      counted = with_requester (record q.requester { retries = suc q.requester.retries }) q

      by : (b : Bool) → Moves base posted q (if b then failure_effects RetryExceeded None counted else queue_and_marks (with_cursor psn counted) [])
      by true = moved-error q (failure_effects RetryExceeded None counted).queue refl refl refl refl
      by false = record { sends = refl; mtu = refl; low = λ low. low; fresh = λ is. is; sending = λ is. is; stands = λ is low linked at. at }

  below-moved : (psn : ℕ) (q : QueuePair) → Moves base posted q (acknowledgement_below psn q).effects
  below-moved psn q = by (first_unanswered q.requester.una psn (begun_requests q))
    where
      after : Option ℕ → Acknowledgement
      after None = record { effects = progress_to psn q; went_back = false }
      after (Some back) = record { effects = and_then (progress_to back q) (one_retry back); went_back = true }

      by : (back : Option ℕ) → Moves base posted q (after back).effects
      by None = progress-moved psn q
      by (Some back) = moved-then q (progress_to back q).queue (one_retry back (progress_to back q).queue).queue (progress-moved back q) (retry-moved back (progress_to back q).queue)

  back-moved : (q : QueuePair) (a : Acknowledgement) (f : QueuePair → Effects) → Moves base posted q a.effects → Moves base posted a.effects.queue (f a.effects.queue) → Moves base posted q (unless_back a f)
  back-moved q a f one other = by a.went_back
    where
      by : (b : Bool) → Moves base posted q (if b then a.effects else and_then a.effects f)
      by true = one
      by false = moved-then q a.effects.queue (f a.effects.queue).queue one other

  rnr-moved : (psn : ℕ) (q : QueuePair) → Moves base posted q (rnr_nak_effects psn q)
  rnr-moved psn q = by (nat_lt q.requester.rnr_retry MAX_RETRY && nat_le q.requester.rnr_retry q.requester.rnrs)
    where
      counted : QueuePair
      counted = with_requester (record q.requester { rnrs = suc q.requester.rnrs }) q

      by : (b : Bool) → Moves base posted q (if b then failure_effects RnrRetryExceeded None counted
          else queue_and_marks (with_requester (record counted.requester { cursor = psn; waiting = true }) q) [])
      by true = moved-error q (failure_effects RnrRetryExceeded None counted).queue refl refl refl refl
      by false = record { sends = refl; mtu = refl; low = λ low. low; fresh = λ is. is; sending = λ is. is; stands = λ is low linked at. at }

  nak-moved : (psn : ℕ) (code : NakCode) (q : QueuePair) → Moves base posted q (nak_effects psn code q)
  nak-moved psn PsnSequenceError q = retry-moved psn q
  nak-moved psn InvalidRequest q = failed RemoteInvalidRequest None q
  nak-moved psn RemoteAccessError q = failed RemoteAccess None q
  nak-moved psn RemoteOperationalError q = failed RemoteOperation None q

  -- the same queue pair, but for its responder's numbers, its receives and its windows
  pub stays : (q p : QueuePair) → p.state ≡ q.state → p.sends ≡ q.sends → p.requester ≡ q.requester → p.responder.mtu ≡ q.responder.mtu → RowDoes (Moves base posted q) (plain_row (Does (queue_and_marks p [])))
  stays q p state sends requester mtu = record { denied = λ d. moved-same q p state sends requester mtu; allowed = λ bytes refusal. moved-same q p state sends requester mtu }

  pub plain-moved : (q : QueuePair) (e : Effects) → Moves base posted q e → RowDoes (Moves base posted q) (plain_row (Does e))
  plain-moved q e moved = record { denied = λ d. moved; allowed = λ bytes refusal. moved }

  pub dropped : (q : QueuePair) (cause : Drop1) → RowDoes (Moves base posted q) (plain_row (Does (drop_effects q cause)))
  dropped q cause = plain-moved q (drop_effects q cause) (moved-same q q refl refl refl refl)

  acknowledge-moved : (psn : ℕ) (syndrome : Option Syndrome) (q : QueuePair) → Moves base posted q (acknowledge_row psn syndrome q)
  acknowledge-moved psn (Some (Ack credits)) q = below-moved (suc psn) q
  acknowledge-moved psn (Some (RnrNak timer)) q =
      back-moved q (acknowledgement_below psn q) (rnr_nak_effects psn) (below-moved psn q) (rnr-moved psn (acknowledgement_below psn q).effects.queue)
  acknowledge-moved psn (Some (Nak code)) q =
      back-moved q (acknowledgement_below psn q) (nak_effects psn code) (below-moved psn q) (nak-moved psn code (acknowledgement_below psn q).effects.queue)
  acknowledge-moved psn None q = moved-same q q refl refl refl refl

  -- ---- responses

  answer-moved : (psn : ℕ) (p : Fields) (q : QueuePair) (before : Effects) (n : Numbered) → Moves base posted q before → RowDoes (Moves base posted q) (answer_row psn p before n)
  answer-moved psn p q before n moved = record {
    denied = λ d. moved-then q before.queue (failure_effects LocalProtection None before.queue).queue moved (failed LocalProtection None before.queue);
    allowed = λ bytes refusal. moved-then q before.queue (progress_to (suc psn) before.queue).queue moved (progress-moved (suc psn) before.queue);
  }

  fitting-moved : (psn : ℕ) (p : Fields) (q : QueuePair) (a : Acknowledgement) → Moves base posted q a.effects → RowDoes (Moves base posted q) (fitting_row psn p a)
  fitting-moved psn p q a moved = back a.went_back
    where
      bad : Row
      bad = plain_row (Does (and_then a.effects (failure_effects BadResponse None)))

      at : Option Numbered → Row
      at None = bad
      at (Some n) = if fits_request psn p a.effects.queue n then answer_row psn p a.effects n else bad

      is_bad : RowDoes (Moves base posted q) bad
      is_bad = plain-moved q (and_then a.effects (failure_effects BadResponse None)) (moved-then q a.effects.queue (failure_effects BadResponse None a.effects.queue).queue moved (failed BadResponse None a.effects.queue))

      fits : (n : Numbered) (b : Bool) → RowDoes (Moves base posted q) (if b then answer_row psn p a.effects n else bad)
      fits n true = answer-moved psn p q a.effects n moved
      fits n false = is_bad

      by : (n : Option Numbered) → RowDoes (Moves base posted q) (at n)
      by None = is_bad
      by (Some n) = fits n (fits_request psn p a.effects.queue n)

      back : (b : Bool) → RowDoes (Moves base posted q) (if b then plain_row (Does a.effects) else at (request_at psn a.effects.queue))
      back true = plain-moved q a.effects moved
      back false = by (request_at psn a.effects.queue)

  response-moved : (p : Fields) (q : QueuePair) → RowDoes (Moves base posted q) (response_row p q)
  response-moved p q = by (is_among (states.Rts ∷ states.Sqd ∷ []) q.state)
    where
      psn : ℕ
      psn = response_psn q p

      opcode : (b : Bool) → RowDoes (Moves base posted q) (if b then plain_row (Does (acknowledge_row psn (option_and_then (λ a. syndrome_in a.syndrome) p.aeth) q))
          else fitting_row psn p (acknowledgement_below psn q))
      opcode true = plain-moved q _ (acknowledge-moved psn (option_and_then (λ a. syndrome_in a.syndrome) p.aeth) q)
      opcode false = fitting-moved psn p q (acknowledgement_below psn q) (below-moved psn q)

      there : (b : Bool) → RowDoes (Moves base posted q) (if not b then plain_row (Does (drop_effects q drops.Stale)) else outstanding_row psn p q)
      there true = opcode (p.opcode == ACKNOWLEDGE)
      there false = dropped q drops.Stale

      by : (b : Bool) → RowDoes (Moves base posted q) (if not b then plain_row (Does (drop_effects q drops.State))
          else if not (is_outstanding_at psn q) then plain_row (Does (drop_effects q drops.Stale)) else outstanding_row psn p q)
      by true = there (is_outstanding_at psn q)
      by false = dropped q drops.State

  -- ---- requests

  refusal-moved : (code : NakCode) (q : QueuePair) → Moves base posted q (refusal_effects code q)
  refusal-moved code q = moved-error q (refusal_effects code q).queue refl refl refl refl

  refused : (code : NakCode) (q : QueuePair) → RowDoes (Moves base posted q) (plain_row (Does (refusal_effects code q)))
  refused code q = plain-moved q (refusal_effects code q) (refusal-moved code q)

  took-moved : (q p : QueuePair) (b : Bool) (e : Effects) → Moves base posted q e → Moves base posted q (if b then with_shared_receive p e else e)
  took-moved q p true e moved = moved
  took-moved q p false e moved = moved

  -- a SEND packet, with its receive
  send-moved : (before : QueuePair) (p : Fields) (place : Position) (r : Receiving) (q : QueuePair) → (if r.taken then with_receive_taken before else before) ≡ q → IsMoved base posted before q
      → RowDoes (Moves base posted before) (send_row before p place r)
  send-moved before p place r q is same = subst (λ x. RowDoes (Moves base posted before) (row_of x (nat_lt (list_length r.receive.receive.list.items) (r.before + length p.payload)))) (sym is)
      (by (nat_lt (list_length r.receive.receive.list.items) (r.before + length p.payload)))
    where
      took : QueuePair → Effects → Effects
      took q e = if r.taken then with_shared_receive q e else e

      ended : QueuePair → Option OpRefusal → Effects
      ended q (Some cause) = receive_failure_effects q r.receive MemoryManagement (Some cause) RemoteOperationalError
      ended q None = behind_marks (revoked_marks q (invalidation_of q p)) (after_send_packet (with_window_gone (invalidation_of q p) q) p place r)

      writes : QueuePair → List (Ask × List ℕ)
      writes q = writes_by (receive_asks q p r) p.payload

      row_of : QueuePair → Bool → Row
      row_of q b =
          if b then plain_row (Does (took q (receive_failure_effects q r.receive LocalLength None InvalidRequest)))
          else record {
            asks = receive_asks q p r;
            invalidation = invalidation_of q p;
            denied = λ d. Does (took q (behind_marks (local_denial d ∷ []) (receive_failure_effects q r.receive LocalProtection None RemoteOperationalError)));
            allowed = λ bytes refusal. Does (took q (record (behind_marks (local_writes (writes q)) (ended q refusal)) { writes = writes q }));
          }

      on : (e : Effects) → Moves base posted q e → Moves base posted before e
      on e moved = moved-then before q e.queue same moved

      fails : (status : WcStatus) (cause : Option OpRefusal) (code : NakCode) → Moves base posted before (receive_failure_effects q r.receive status cause code)
      fails status cause code = on (receive_failure_effects q r.receive status cause code) (moved-error q (receive_failure_effects q r.receive status cause code).queue refl refl refl refl)

      gone : QueuePair
      gone = with_window_gone (invalidation_of q p) q

      packet : (b : Bool) → Moves base posted q (if b
          then queue_and_marks (with_message None (queue_after_packet p 1 true true gone))
          (receive_mark gone.queue r.receive.place r.receive.receive Success operations.Recv (r.before + length p.payload) p.imm (option_map (λ key. record { 0 = key }) p.ieth) ∷ [])
          else queue_and_marks (with_message (Some (messages.Send r.receive.place r.receive.receive (r.before + length p.payload))) (queue_after_packet p 1 false true gone)) [])
      packet true = moved-same q (with_message None (queue_after_packet p 1 true true gone)) refl refl refl refl
      packet false = moved-same q (with_message (Some (messages.Send r.receive.place r.receive.receive (r.before + length p.payload))) (queue_after_packet p 1 false true gone)) refl refl refl refl

      placed : (refusal : Option OpRefusal) → Moves base posted before (record (behind_marks (local_writes (writes q)) (ended q refusal)) { writes = writes q })
      placed None = on (after_send_packet gone p place r) (packet (ends place))
      placed (Some cause) = fails MemoryManagement (Some cause) RemoteOperationalError

      by : (b : Bool) → RowDoes (Moves base posted before) (row_of q b)
      by true = record { denied = λ d. took-moved before q r.taken _ (fails LocalLength None InvalidRequest); allowed = λ bytes refusal. took-moved before q r.taken _ (fails LocalLength None InvalidRequest) }
      by false = record { denied = λ d. took-moved before q r.taken _ (fails LocalProtection None RemoteOperationalError); allowed = λ bytes refusal. took-moved before q r.taken _ (placed refusal) }

  write-moved : (q : QueuePair) (p : Fields) (envelope : Option ℕ) (place : Position) (next : Option PlacedReceive) (r : WriteReach) → RowDoes (Moves base posted q) (write_row q p envelope place next r)
  write-moved q p envelope place next r = record { denied = λ d. refusal-moved RemoteAccessError q; allowed = λ bytes refusal. at (ends place) }
    where
      done : QueuePair → QueuePair
      done q = with_message None (queue_after_packet p 1 true true q)

      by : Option ℕ → Option PlacedReceive → Effects
      by (Some imm) (Some receive) = with_shared_receive q (queue_and_marks (done (with_receive_taken q))
          (receive_mark q.queue receive.place receive.receive Success operations.RecvImm r.whole (Some imm) None ∷ []))
      by imm next = queue_and_marks (done q) []

      immediate : (imm : Option ℕ) (next : Option PlacedReceive) → Moves base posted q (by imm next)
      immediate (Some imm) (Some receive) = moved-same q (done (with_receive_taken q)) refl refl refl refl
      immediate (Some imm) None = moved-same q (done q) refl refl refl refl
      immediate None next = moved-same q (done q) refl refl refl refl

      at : (b : Bool) → Moves base posted q (if b then by p.imm next else queue_and_marks (with_message (Some (message_left r (length p.payload))) (queue_after_packet p 1 false true q)) [])
      at true = immediate p.imm next
      at false = moved-same q (with_message (Some (message_left r (length p.payload))) (queue_after_packet p 1 false true q)) refl refl refl refl

  atomic-moved : (q : QueuePair) (p : Fields) (envelope : Option ℕ) (kind : Kind) (a : AtomicEth) → RowDoes (Moves base posted q) (atomic_row q p envelope kind a)
  atomic-moved q p envelope kind a = record { denied = λ d. refusal-moved RemoteAccessError q; allowed = λ bytes refusal. moved-same q _ refl refl refl refl }

  valid-moved : (q : QueuePair) (p : Fields) (envelope : Option ℕ) (next : Option PlacedReceive) (shape : Shape) → RowDoes (Moves base posted q) (valid_row q p envelope next shape)
  valid-moved q p envelope next (shapes.Send place) = by q.responder.message
    where
      row : Option Receiving → Row
      row (Some r) = send_row q p place r
      row None = plain_row (Does (refusal_effects InvalidRequest q))

      start : (o : Option PlacedReceive) → RowDoes (Moves base posted q) (row (option_map (λ r. record { receive = r; before = 0; taken = true }) o))
      start None = refused InvalidRequest q
      start (Some r) = send-moved q p place (record { receive = r; before = 0; taken = true }) (with_receive_taken q) refl (moved-same q (with_receive_taken q) refl refl refl refl)

      by : (m : Option Message) → RowDoes (Moves base posted q) (row (receiving_of q next m))
      by None = start next
      by (Some (messages.Write key address left count)) = start next
      by (Some (messages.Send at receive bytes)) = send-moved q p place (record { receive = record { place = at; receive = receive }; before = bytes; taken = false }) q refl (moved-same q q refl refl refl refl)
  valid-moved q p envelope next (shapes.Write place) = by (write_reach q p)
    where
      row : Option WriteReach → Row
      row (Some r) = write_row q p envelope place next r
      row None = plain_row (Does (refusal_effects InvalidRequest q))

      by : (o : Option WriteReach) → RowDoes (Moves base posted q) (row o)
      by (Some r) = write-moved q p envelope place next r
      by None = refused InvalidRequest q
  valid-moved q p envelope next shapes.Read = by p.reth
    where
      row : Option Reth → Row
      row (Some h) = plain_row (Does (read_queued q p envelope h))
      row None = plain_row (Does (refusal_effects InvalidRequest q))

      by : (o : Option Reth) → RowDoes (Moves base posted q) (row o)
      by (Some h) = plain-moved q (read_queued q p envelope h) (moved-same q (read_queued q p envelope h).queue refl refl refl refl)
      by None = refused InvalidRequest q
  valid-moved q p envelope next (shapes.Atomic kind) = by p.atomic
    where
      row : Option AtomicEth → Row
      row (Some a) = atomic_row q p envelope kind a
      row None = plain_row (Does (refusal_effects InvalidRequest q))

      by : (o : Option AtomicEth) → RowDoes (Moves base posted q) (row o)
      by (Some a) = atomic-moved q p envelope kind a
      by None = refused InvalidRequest q

  -- a row of a queue pair but for a flag
  flagged : (q : QueuePair) (flag : Bool) (row : Row) → RowDoes (Moves base posted (with_flag flag q)) row → RowDoes (Moves base posted q) row
  flagged q flag row does = record { denied = λ d. on (row.denied d) (does.denied d); allowed = λ bytes refusal. on (row.allowed bytes refusal) (does.allowed bytes refusal) }
    where
      on : (e : Ending) → EndingDoes (Moves base posted (with_flag flag q)) e → EndingDoes (Moves base posted q) e
      on (NotPossible reason) moved = record {}
      on (Does e) moved = moved-then q (with_flag flag q) e.queue (moved-same q (with_flag flag q) refl refl refl refl) moved

  expected-moved : (before : QueuePair) (shared : Option SharedReceives) (p : Fields) (envelope : Option ℕ) (shape : Shape) → RowDoes (Moves base posted before) (expected_row before shared p envelope shape)
  expected-moved before shared p envelope shape = flagged before false (expected_row before shared p envelope shape) (by (is_invalid q p shape))
    where
      q : QueuePair
      q = with_flag false before

      waits : (b : Bool) → RowDoes (Moves base posted q) (if b then plain_row (Does (rnr_effects q)) else valid_row q p envelope (next_receive q shared) shape)
      waits true = plain-moved q (rnr_effects q) (moved-same q (rnr_effects q).queue refl refl refl refl)
      waits false = valid-moved q p envelope (next_receive q shared) shape

      by : (b : Bool) → RowDoes (Moves base posted q) (
          if b then plain_row (Does (refusal_effects InvalidRequest q))
          else if takes_receive p shape && is_none (next_receive q shared) then plain_row (Does (rnr_effects q))
          else valid_row q p envelope (next_receive q shared) shape)
      by true = refused InvalidRequest q
      by false = waits (takes_receive p shape && is_none (next_receive q shared))

  ahead-moved : (q : QueuePair) → Moves base posted q (ahead_effects q)
  ahead-moved q = by q.responder.nak_sent
    where
      by : (b : Bool) → Moves base posted q (if b then drop_effects q drops.Stale
          else queue_and_marks (with_flag true (with_answer (queued.Nak q.responder.expected (nak_code PsnSequenceError)) q)) [])
      by true = moved-same q q refl refl refl refl
      by false = moved-same q (with_flag true (with_answer (queued.Nak q.responder.expected (nak_code PsnSequenceError)) q)) refl refl refl refl

  duplicate-moved : (psn : ℕ) (p : Fields) (envelope : Option ℕ) (shape : Shape) (q : QueuePair) → Moves base posted q (duplicate_effects psn p envelope shape q)
  duplicate-moved psn p envelope shape q = at (nat_le MAX_DUPLICATES (duplicate_count q.responder.answers))
    where
      same : Moves base posted q (drop_effects q drops.Unsaved)
      same = moved-same q q refl refl refl refl

      acks : (b : Bool) → Moves base posted q (if b then queue_and_marks (with_answer (queued.Ack (q.responder.expected - 1)) q) [] else drop_effects q drops.Unsaved)
      acks true = moved-same q (with_answer (queued.Ack (q.responder.expected - 1)) q) refl refl refl refl
      acks false = same

      within : (h : Reth) (b : Bool) → Moves base posted q (if b then answer_again psn (queued.Read psn h.key h.address h.length true envelope true) q else drop_effects q drops.Unsaved)
      within h true = moved-same q (answer_again psn (queued.Read psn h.key h.address h.length true envelope true) q).queue refl refl refl refl
      within h false = same

      reads : (o : Option Reth) → Moves base posted q (option_map_or (λ h. read_again psn envelope h q) o (drop_effects q drops.Unsaved))
      reads None = same
      reads (Some h) = within h (nat_le (psn + segments q.responder.mtu h.length) q.responder.expected)

      atomics : (o : Option ℕ) → Moves base posted q (atomic_again psn o q)
      atomics None = same
      atomics (Some found) = moved-same q (answer_again psn (queued.Atomic psn found true) q).queue refl refl refl refl

      effects : Shape → Effects
      effects (shapes.Send place) = ack_again q
      effects (shapes.Write place) = ack_again q
      effects shapes.Read = option_map_or (λ h. read_again psn envelope h q) p.reth (drop_effects q drops.Unsaved)
      effects (shapes.Atomic kind) = atomic_again psn (saved_at psn q.saved) q

      by : (shape : Shape) → Moves base posted q (effects shape)
      by (shapes.Send place) = acks (length q.responder.answers == 0)
      by (shapes.Write place) = acks (length q.responder.answers == 0)
      by shapes.Read = reads p.reth
      by (shapes.Atomic kind) = atomics (saved_at psn q.saved)

      at : (b : Bool) → Moves base posted q (if b then drop_effects q drops.Unsaved else effects shape)
      at true = same
      at false = by shape

  request-moved : (p : Fields) (envelope : Option ℕ) (shared : Option SharedReceives) (shape : Shape) (q : QueuePair) → RowDoes (Moves base posted q) (request_row p envelope shared shape q)
  request-moved p envelope shared shape q = by (widened q.responder.expected p.psn)
    where
      before : (psn : ℕ) (b : Bool) → RowDoes (Moves base posted q) (if b then plain_row (Does (duplicate_effects psn p envelope shape q)) else expected_row q shared p envelope shape)
      before psn true = plain-moved q _ (duplicate-moved psn p envelope shape q)
      before psn false = expected-moved q shared p envelope shape

      ahead : (psn : ℕ) (b : Bool) → RowDoes (Moves base posted q) (
          if b then plain_row (Does (ahead_effects q))
          else if nat_lt psn q.responder.expected then plain_row (Does (duplicate_effects psn p envelope shape q))
          else expected_row q shared p envelope shape)
      ahead psn true = plain-moved q _ (ahead-moved q)
      ahead psn false = before psn (nat_lt psn q.responder.expected)

      by : (psn : ℕ) → RowDoes (Moves base posted q) (
          if nat_lt q.responder.expected psn then plain_row (Does (ahead_effects q))
          else if nat_lt psn q.responder.expected then plain_row (Does (duplicate_effects psn p envelope shape q))
          else expected_row q shared p envelope shape)
      by psn = ahead psn (nat_lt q.responder.expected psn)

  pub arrival-moved : (bytes : List ℕ) (envelope : Option ℕ) (shared : Option SharedReceives) (q : QueuePair) → RowDoes (Moves base posted q) (arrival_row bytes envelope shared q)
  arrival-moved bytes envelope shared q = by (packet_in bytes)
    where
      shaped : Fields → Option Shape → Row
      shaped p (Some shape) = request_row p envelope shared shape q
      shaped p None = plain_row (Does (drop_effects q drops.State))

      requests : (p : Fields) (o : Option Shape) → RowDoes (Moves base posted q) (shaped p o)
      requests p (Some shape) = request-moved p envelope shared shape q
      requests p None = dropped q drops.State

      kinds_of : (p : Fields) (b : Bool) → RowDoes (Moves base posted q) (if b then response_row p q else shaped p (shape_of p.opcode))
      kinds_of p true = response-moved p q
      kinds_of p false = requests p (shape_of p.opcode)

      drop : Fields → Option Drop1 → Row
      drop p (Some cause) = plain_row (Does (drop_effects q cause))
      drop p None = packet_arrived p envelope shared q

      unless : (p : Fields) (o : Option Drop1) → RowDoes (Moves base posted q) (drop p o)
      unless p (Some cause) = dropped q cause
      unless p None = kinds_of p (is_response p.opcode)

      row : Result Fields WireError → Row
      row (Err error) = plain_row (Does (drop_effects q (drops.Wire error)))
      row (Ok p) = drop p (first_of (arrival_drops q p))

      by : (r : Result Fields WireError) → RowDoes (Moves base posted q) (row r)
      by (Err error) = dropped q (drops.Wire error)
      by (Ok p) = unless p (first_of (arrival_drops q p))

  pub respond-moved : (room : Bool) (q : QueuePair) → RowDoes (Moves base posted q) (respond_row room q)
  respond-moved room q = by (first_of (respond_refusals room q)) (slice_get q.responder.answers 0)
    where
      front : Option Reason → Option Queued → Row
      front (Some reason) answer = plain_row (NotPossible reason)
      front None None = plain_row (NotPossible reasons.Empty)
      front None (Some answer) = answer_turn q answer

      left : (r : ReadLeft) (b : Bool) → IsMoved base posted q (if b then without_front q else with_front (rest_of q r) q)
      left r true = moved-same q (without_front q) refl refl refl refl
      left r false = moved-same q (with_front (rest_of q r) q) refl refl refl refl

      sent : RowDoes (Moves base posted q) (plain_row (Does (queue_and_marks (without_front q) [])))
      sent = stays q (without_front q) refl refl refl refl

      turn : (a : Queued) → RowDoes (Moves base posted q) (answer_turn q a)
      turn (queued.Ack psn) = record { denied = λ d. left-front; allowed = λ bytes refusal. left-front }
        where
          left-front : IsMoved base posted q (without_front q)
          left-front = moved-same q (without_front q) refl refl refl refl
      turn (queued.Rnr psn) = record { denied = λ d. moved-same q (without_front q) refl refl refl refl; allowed = λ bytes refusal. moved-same q (without_front q) refl refl refl refl }
      turn (queued.Nak psn code) = record { denied = λ d. moved-same q (without_front q) refl refl refl refl; allowed = λ bytes refusal. moved-same q (without_front q) refl refl refl refl }
      turn (queued.Read psn key address part first envelope duplicate) = record {
        denied = λ d. moved-error q (without_answers (in_error q)) refl refl refl refl;
        allowed = λ bytes refusal. left r (is_last_response q r);
      }
        where
          r : ReadLeft
          r = record { psn = psn; key = key; address = address; left = part; first = first; envelope = envelope; duplicate = duplicate }
      turn (queued.Atomic psn found duplicate) = record { denied = λ d. moved-same q (without_front q) refl refl refl refl; allowed = λ bytes refusal. moved-same q (without_front q) refl refl refl refl }

      by : (o : Option Reason) (a : Option Queued) → RowDoes (Moves base posted q) (front o a)
      by (Some reason) a = record { denied = λ d. record {}; allowed = λ bytes refusal. record {} }
      by None None = record { denied = λ d. record {}; allowed = λ bytes refusal. record {} }
      by None (Some a) = turn a

  -- ---- the requester's turn

  pub packet-moved : (q : QueuePair) (room : Bool) (n : Numbered) → RowDoes (Moves base posted q) (packet_row q room n)
  packet-moved q room n = by (is_too_much q n)
    where
      row : Row
      row = record {
        asks = packet_asks q n;
        invalidation = None;
        denied = λ d.
            if is_outstanding q then NotPossible reasons.Outstanding
            else if not room then NotPossible reasons.NoRoom
            else Does (denied_list_effects q d);
        allowed = λ bytes refusal. if not room then NotPossible reasons.NoRoom else Does (sent_packet q n bytes);
      }

      denied : (d : DeniedAsk) (b z : Bool) → EndingDoes (Moves base posted q) (if b then NotPossible reasons.Outstanding else if not z then NotPossible reasons.NoRoom else Does (denied_list_effects q d))
      denied d true z = record {}
      denied d false true = failed LocalProtection None q
      denied d false false = record {}

      allowed : (bytes : List (List ℕ)) (z : Bool) → EndingDoes (Moves base posted q) (if not z then NotPossible reasons.NoRoom else Does (sent_packet q n bytes))
      allowed bytes true = record { sends = refl; mtu = refl; low = λ low. low; fresh = λ is. is; sending = λ is. is; stands = λ is low linked at. at }
      allowed bytes false = record {}

      by : (b : Bool) → RowDoes (Moves base posted q) (if b then plain_row (NotPossible reasons.Outstanding) else row)
      by true = record { denied = λ d. record {}; allowed = λ bytes refusal. record {} }
      by false = record { denied = λ d. denied d (is_outstanding q) room; allowed = λ bytes refusal. allowed bytes room }

  pub timeout-moved : (q : QueuePair) (silent : Bool) → Moves base posted q (after_timeout silent q)
  timeout-moved q silent = moved-then q counted (one_retry q.requester.una counted).queue (record { sends = refl; mtu = refl; low = λ low. low; fresh = λ is. is; sending = λ is. is; stands = λ is low linked at. at }) (retry-moved q.requester.una counted)
    where
      counted : QueuePair
      counted = with_requester (record q.requester { timers = suc q.requester.timers }) q

  pub wake-moved : (q : QueuePair) → Moves base posted q (after_wake q)
  wake-moved q = record { sends = refl; mtu = refl; low = λ low. low; fresh = λ is. is; sending = λ is. is; stands = λ is low linked at. at }

  -- a local operation, which takes no PSN, and before which all is finished
  pub operation-moved : (q after : QueuePair) (n : Numbered) (m : LocalMarks) (refusal : Option OpRefusal) → IsPerformed q n → after.state ≡ q.state → after.sends ≡ q.sends → after.requester ≡ q.requester → after.responder.mtu ≡ q.responder.mtu
      → Moves base posted q (operation_effects q n after m refusal)
  operation-moved q after n m (Some cause) performed state sends requester mtu = failed MemoryManagement (Some cause) q
  operation-moved q after n m None performed state sends requester mtu = record {
    sends = sends;
    mtu = mtu;
    low = λ low. omega (arith, low, ap (λ (s : WorkQueue PostedSend). s.first) sends, performed.item.place, performed.alone);
    fresh = λ is. sym (ap is_fresh state) ∙ is;
    sending = λ is. sym (ap is_sending state) ∙ is;
    stands = λ is low linked at. ap (λ (r : RequesterNumbers). r.oldest_psn) requester ∙ at ∙ ap (λ i. base + i) (sym (next low linked)) ∙ (λ i. base + psns_before (sym mtu i) posted (suc n.place));
  }
    where
      local-none : (mtu : ℕ) (op : SendOp) → is_local op ≡ true → psns_of mtu op ≡ 0
      local-none mtu (ops.Bind1 window region address length rights) is = refl
      local-none mtu (ops.Bind2 window region low address length rights) is = refl
      local-none mtu (ops.FastReg region low buffer address length rights pages) is = refl
      local-none mtu (ops.LocalInv key) is = refl
      local-none mtu (ops.Send list) is = absurd (true≢false (sym is))
      local-none mtu (ops.SendImm imm list) is = absurd (true≢false (sym is))
      local-none mtu (ops.SendInv key list) is = absurd (true≢false (sym is))
      local-none mtu (ops.Write address key list) is = absurd (true≢false (sym is))
      local-none mtu (ops.WriteImm address key imm list) is = absurd (true≢false (sym is))
      local-none mtu (ops.Read address key list) is = absurd (true≢false (sym is))
      local-none mtu (ops.CmpSwap address key compare swap list) is = absurd (true≢false (sym is))
      local-none mtu (ops.FetchAdd address key add list) is = absurd (true≢false (sym is))

      next : q.sends.first ≤ q.requester.oldest → Linked posted q.sends → psns_before q.responder.mtu posted (suc n.place) ≡ psns_before q.responder.mtu posted q.requester.oldest
      next low linked = ap (λ i. psns_before q.responder.mtu posted (suc i)) place ∙ before-next q.responder.mtu posted q.requester.oldest found.posted found.is
          ∙ omega (arith, ap (λ (x : PostedSend). psns_of q.responder.mtu x.request.op) found.same, local-none q.responder.mtu n.request.op performed.local)
        where
          place : n.place ≡ q.requester.oldest
          place = performed.item.place ∙ performed.alone

          found : IsPostedAt posted q.requester.oldest (record { request = n.request; drawn = n.drawn })
          found = linked-item posted q.sends q.requester.oldest (record { request = n.request; drawn = n.drawn }) linked (ap (λ i. item_at i q.sends) (sym performed.alone) ∙ performed.item.item)
