-- What each row leaves of a queue pair's sends, and which marks it makes: none tells of a key, but one of the key that the
-- row ends; and a send that completes with success is no local operation. For proofs only.
use Rattle.std.proofs.Common.{◌≡◌, ℕ, zero, suc, ◌+◌, ◌-◌, ◌==◌, ◌&&◌, Bool, true, false, not, nat_le, nat_lt, if◌then◌else◌, List, [], ◌∷◌, ◌++◌, length, take, Option, None, Some, IfSome, is_none, Result, Ok, Err, slice_get, refl, ap, sym, subst, subst₂, ◌∙◌, arith, true≢false}
use Rattle.std.specs.List.{AllByRecursion, prefix_len}
use Rattle.std.specs.Prelude.{flat_map, take_while}
use Rattle.std.specs.Option.{option_and_then, option_map, option_map_or}
use Rattle.ca_law_keys.proofs.Posts.PlaceLemmas.{numbers-at}
use Rattle.ca_base.specs.declared.change.State.TheVariants as states
use Rattle.ca_base.specs.declared.completion.Completion.{Completion}
use Rattle.ca_base.specs.declared.completion.WcOp.TheVariants as operations
use Rattle.ca_base.specs.declared.completion.WcStatus.{WcStatus}
use Rattle.ca_base.specs.declared.completion.WcStatus.TheVariants.{BadResponse, LocalLength, LocalProtection, MemoryManagement, RemoteAccess, RemoteInvalidRequest, RemoteOperation, RetryExceeded, RnrRetryExceeded, Success}
use Rattle.ca_base.specs.declared.denied_ask.DeniedAsk.{DeniedAsk}
use Rattle.ca_base.specs.declared.limits.TheConstants.{MAX_DUPLICATES, MAX_RETRY}
use Rattle.ca_base.specs.declared.queue_numbers.Message.{Message}
use Rattle.ca_base.specs.declared.queue_numbers.Message.TheVariants as messages
use Rattle.ca_base.specs.declared.queue_numbers.Queued.{Queued}
use Rattle.ca_base.specs.declared.queue_numbers.Queued.TheVariants as queued
use Rattle.ca_base.specs.declared.refusals.OpRefusal.{OpRefusal}
use Rattle.ca_base.specs.declared.request.PlacedReceive.{PlacedReceive}
use Rattle.ca_base.specs.declared.request.PostedSend.{PostedSend}
use Rattle.ca_base.specs.declared.request.RecvRequest.{RecvRequest}
use Rattle.ca_base.specs.declared.step.Reason.{Reason}
use Rattle.ca_base.specs.declared.step.Reason.TheVariants as reasons
use Rattle.ca_base.specs.Equal.{status_eq}
use Rattle.ca_base.specs.Sight.{Invalidation}
use Rattle.ca_base.specs.objects.Answers.{duplicate_count}
use Rattle.ca_base.specs.objects.QueuePair.{QueuePair}
use Rattle.ca_base.specs.objects.Saved.{saved_at}
use Rattle.ca_base.specs.objects.SharedReceives.{SharedReceives}
use Rattle.ca_base.specs.objects.StateTable.{is_among, state_eq}
use Rattle.ca_base.specs.objects.WorkQueue.{WorkQueue, item_at, items_from}
use Rattle.ca_keys.specs.Refusals.{first_of}
use Rattle.ca_keys.specs.declared.access.Ask.{Ask}
use Rattle.ca_keys.specs.declared.access.Kind.{Kind}
use Rattle.ca_keys.specs.declared.key.Key.{Key}
use Rattle.ca_keys.specs.declared.names.QueueId.{QueueId}
use Rattle.ca_law_world.proofs.Sound.WorldLemmas.{EndingDoes}
use Rattle.ca_law_world.proofs.Steady.RowLemmas.{IsKept}
use Rattle.ca_law_world.proofs.Steady.SameLemmas.{progress-first, progress-steady}
use Rattle.ca_model.specs.Packets.{is_response}
use Rattle.ca_model.specs.Past.{is_send_success}
use Rattle.ca_model.specs.Requests.{is_local, list_length, segments}
use Rattle.ca_model.specs.declared.mark.Drop1.{Drop1}
use Rattle.ca_model.specs.declared.mark.Drop1.TheVariants as drops
use Rattle.ca_model.specs.declared.mark.Mark.{Mark}
use Rattle.ca_model.specs.declared.mark.Mark.TheVariants as marks
use Rattle.ca_model.specs.declared.read_left.ReadLeft.{ReadLeft}
use Rattle.ca_model.specs.declared.receiving.Receiving.{Receiving}
use Rattle.ca_model.specs.declared.write_reach.WriteReach.{WriteReach}
use Rattle.ca_model.specs.machine.Acknowledgements.{Acknowledgement, acknowledgement_below, after_finished, and_then, failure_effects, finished_marks, finished_requests, first_unanswered, one_retry, progress_to, with_cursor, with_requester, without_oldest}
use Rattle.ca_model.specs.machine.Arrivals.{next_receive, refusal_effects, with_flag, with_message, with_receive_taken}
use Rattle.ca_model.specs.machine.Completions.{failure_mark, flush_marks, flushed_message, flushed_receives, flushed_sends, receive_mark, success_marks}
use Rattle.ca_model.specs.machine.Delivery.{arrival_drops, arrival_row, packet_arrived}
use Rattle.ca_model.specs.machine.Duplicates.{ack_again, ahead_effects, atomic_again, duplicate_effects, read_again, request_row}
use Rattle.ca_model.specs.machine.Expected.{after_send_packet, after_write_packet, atomic_row, behind_marks, invalidation_of, is_invalid, queue_after_packet, read_queued, receive_asks, receive_failure_effects, receiving_of, revoked_marks, rnr_effects, send_row, takes_receive, valid_row, with_shared_receive, with_window_gone, write_reach, write_row}
use Rattle.ca_model.specs.machine.Numbering.{Numbered, begun_requests, psn_end, request_at, unfinished_requests}
use Rattle.ca_model.specs.machine.Requester.{local_denial, local_reads}
use Rattle.ca_model.specs.machine.Respond.{answer_turn, is_last_response, respond_refusals, respond_row, rest_of, with_front, without_front}
use Rattle.ca_model.specs.machine.Responses.{acknowledge_row, answer_asks, answer_bytes, answer_row, drop_effects, fits_request, fitting_row, is_outstanding_at, local_writes, nak_effects, response_psn, response_row, rnr_nak_effects, unless_back, writes_by}
use Rattle.ca_model.specs.machine.Row.{Does, Effects, Ending, NotPossible, Row, plain_row, queue_and_marks}
use Rattle.ca_model.specs.machine.Timers.{after_wake}
use Rattle.ca_wire.specs.Decoding.{packet_in}
use Rattle.ca_wire.specs.Packet.{Fields}
use Rattle.ca_wire.specs.Shapes.{ends}
use Rattle.ca_wire.specs.Table.{shape_of}
use Rattle.ca_wire.specs.declared.atomic_eth.AtomicEth.{AtomicEth}
use Rattle.ca_wire.specs.declared.opcode.TheConstants.{ACKNOWLEDGE}
use Rattle.ca_wire.specs.declared.reth.Reth.{Reth}
use Rattle.ca_wire.specs.declared.shape.Position.{Position}
use Rattle.ca_wire.specs.declared.shape.Shape.{Shape}
use Rattle.ca_wire.specs.declared.shape.Shape.TheVariants as shapes
use Rattle.ca_wire.specs.declared.wire_error.WireError.{WireError}
use Rattle.ca_model.specs.ca_psn.Psn.{widened}
use Rattle.ca_wire.specs.Syndrome.{syndrome_in}
use Rattle.ca_wire.specs.declared.syndrome.NakCode.{NakCode}
use Rattle.ca_wire.specs.declared.syndrome.NakCode.TheVariants.{PsnSequenceError, InvalidRequest, RemoteAccessError, RemoteOperationalError}
use Rattle.ca_wire.specs.declared.syndrome.Syndrome.{Syndrome}
use Rattle.ca_wire.specs.declared.syndrome.Syndrome.TheVariants.{Ack, RnrNak, Nak}
pub use Rattle.ca_law_keys.proofs.Posts.PlaceLemmas.{numbers-at}

-- ---- marks

-- the request at this place of a send queue is no local operation
abbrev pub IsPacketAt : WorkQueue PostedSend → ℕ → Type 0
IsPacketAt sends place = option_map_or (λ p. not (is_local p.request.op)) (item_at place sends) false ≡ true

-- A completion of a row: of this queue pair; it names no invalidated key but the one that is ended; and a send that
-- succeeds is no local operation.
pub record IsOwnDone (name : QueueId) (sends : WorkQueue PostedSend) (ended : Option Key) (x : Completion) : Type 0 where
  pub queue : x.queue ≡ name
  pub key : IfSome x.invalidated (λ key. ended ≡ Some key)
  pub success : is_send_success x ≡ true → IsPacketAt sends x.place

-- a mark of a row that tells of no key
abbrev pub IsKeyless : QueueId → WorkQueue PostedSend → Option Key → Mark → Type 0
IsKeyless name sends ended (marks.Verb by verb answer) = ⊥
IsKeyless name sends ended (marks.Granted g) = ⊥
IsKeyless name sends ended (marks.Revoked adapter key) = ⊥
IsKeyless name sends ended (marks.Sent source target index request bytes) = ⊥
IsKeyless name sends ended (marks.Lost target index) = ⊥
IsKeyless name sends ended (marks.Arrived target index) = ⊥
IsKeyless name sends ended (marks.Timer queue silent) = ⊥
IsKeyless name sends ended (marks.Done queue x cause) = IsOwnDone name sends ended x
IsKeyless name sends ended m = Unit {0}

abbrev pub AreKeyless : QueueId → WorkQueue PostedSend → Option Key → List Mark → Type 0
AreKeyless name sends ended [] = Unit {0}
AreKeyless name sends ended (m ∷ ms) = IsKeyless name sends ended m × AreKeyless name sends ended ms

-- such marks, then that of the key that ends, and such marks
abbrev pub EndKey : QueueId → WorkQueue PostedSend → Key → List Mark → Type 0
EndKey name sends key [] = ⊥
EndKey name sends key (marks.Revoked adapter k ∷ ms) = (adapter ≡ name.adapter) × (k ≡ key) × AreKeyless name sends (Some key) ms
EndKey name sends key (m ∷ ms) = IsKeyless name sends None m × EndKey name sends key ms

-- the marks of a row, by the key that it ends
abbrev pub TellOf : QueueId → WorkQueue PostedSend → Option Key → List Mark → Type 0
TellOf name sends None ms = AreKeyless name sends None ms
TellOf name sends (Some key) ms = EndKey name sends key ms

pub keyless-append : (name : QueueId) (sends : WorkQueue PostedSend) (ended : Option Key) (ms ns : List Mark) → AreKeyless name sends ended ms → AreKeyless name sends ended ns → AreKeyless name sends ended (ms ++ ns)
keyless-append name sends ended [] ns one other = other
keyless-append name sends ended (m ∷ ms) ns one other = (one.0, keyless-append name sends ended ms ns one.1 other)

end-behind : (name : QueueId) (sends : WorkQueue PostedSend) (key : Key) (m : Mark) (ms : List Mark) → IsKeyless name sends None m → EndKey name sends key ms → EndKey name sends key (m ∷ ms)
end-behind name sends key (marks.Verb by verb answer) ms one other = absurd one
end-behind name sends key (marks.Granted g) ms one other = absurd one
end-behind name sends key (marks.Revoked adapter k) ms one other = absurd one
end-behind name sends key (marks.Sent source target index request bytes) ms one other = absurd one
end-behind name sends key (marks.Lost target index) ms one other = absurd one
end-behind name sends key (marks.Arrived target index) ms one other = absurd one
end-behind name sends key (marks.Timer queue silent) ms one other = absurd one
end-behind name sends key (marks.Done queue x cause) ms one other = (one, other)
end-behind name sends key (marks.Stored place bytes) ms one other = (one, other)
end-behind name sends key (marks.Remote queue domain envelope k kind address count verdict) ms one other = (one, other)
end-behind name sends key (marks.Local queue domain k kind address count verdict) ms one other = (one, other)
end-behind name sends key (marks.Dropped target cause) ms one other = (one, other)

tells-behind : (name : QueueId) (sends : WorkQueue PostedSend) (ended : Option Key) (ms ns : List Mark) → AreKeyless name sends None ms → TellOf name sends ended ns → TellOf name sends ended (ms ++ ns)
tells-behind name sends None ms ns one other = keyless-append name sends None ms ns one other
tells-behind name sends (Some key) [] ns one other = other
tells-behind name sends (Some key) (m ∷ ms) ns one other = end-behind name sends key m (ms ++ ns) one.0 (tells-behind name sends (Some key) ms ns one.1 other)

-- ---- what goes on

-- a queue pair after a row: unless it is in Error, it was not before, and no request began or was performed
abbrev pub GoesOn : QueuePair → QueuePair → Type 0
GoesOn q p = state_eq p.state states.Error ≡ false → (state_eq q.state states.Error ≡ false) × (p.requester.next ≡ q.requester.next)

-- effects that leave the sends, with marks that tell of the end of this key, if it is one
pub record Goes (q : QueuePair) (ended : Option Key) (e : Effects) : Type 0 where
  pub queue : e.queue.queue ≡ q.queue
  pub sends : e.queue.sends ≡ q.sends
  pub next : GoesOn q e.queue
  pub marks : TellOf q.queue q.sends ended e.marks

-- the key that a row ends, if its invalidation is not refused
abbrev pub key_gone : Option Invalidation → Option OpRefusal → Option Key
key_gone None refusal = None
key_gone (Some i) None = Some i.key
key_gone (Some i) (Some cause) = None

pub record RowGoes (q : QueuePair) (row : Row) : Type 0 where
  pub denied : (d : DeniedAsk) → EndingDoes (Goes q None) (row.denied d)
  pub allowed : (bytes : List (List ℕ)) (refusal : Option OpRefusal) → EndingDoes (Goes q (key_gone row.invalidation refusal)) (row.allowed bytes refusal)

cond-goes : (q : QueuePair) (ended : Option Key) (b : Bool) (e f : Effects) → Goes q ended e → Goes q ended f → Goes q ended (if b then e else f)
cond-goes q ended true e f one other = one
cond-goes q ended false e f one other = other

cond-row : (q : QueuePair) (b : Bool) (r s : Row) → RowGoes q r → RowGoes q s → RowGoes q (if b then r else s)
cond-row q true r s one other = one
cond-row q false r s one other = other

plain : (q : QueuePair) (e : Effects) → Goes q None e → RowGoes q (plain_row (Does e))
plain q e g = record { denied = λ d. g; allowed = λ bytes refusal. g }

stays : (q : QueuePair) → GoesOn q q
stays q e = (e, refl)

ends-here : (q p : QueuePair) → state_eq p.state states.Error ≡ true → GoesOn q p
ends-here q p error e = absurd (true≢false (sym error ∙ e))

goes-then : (q : QueuePair) (e : Effects) (f : QueuePair → Effects) → Goes q None e → Goes e.queue None (f e.queue) → Goes q None (and_then e f)
goes-then q e f one other = record {
  queue = other.queue ∙ one.queue;
  sends = other.sends ∙ one.sends;
  next = λ g. ((one.next (other.next g).0).0, (other.next g).1 ∙ (one.next (other.next g).0).1);
  marks = keyless-append q.queue q.sends None e.marks (f e.queue).marks one.marks (subst₂ (λ n s. AreKeyless n s None (f e.queue).marks) one.queue one.sends other.marks);
}

-- ---- flushes and failures

failed-done : (name : QueueId) (sends : WorkQueue PostedSend) (x : Completion) → x.queue ≡ name → x.invalidated ≡ None → is_send_success x ≡ false → IsOwnDone name sends None x
failed-done name sends x own none fails = record {
  queue = own;
  key = subst (λ o. IfSome o (λ key. None ≡ Some key)) (sym none) (record {});
  success = λ e. absurd (true≢false (sym e ∙ fails));
}

sends-keyless : (queue : QueueId) (sends : WorkQueue PostedSend) (place : ℕ) (ps : List PostedSend) → AreKeyless queue sends None (flushed_sends queue place ps)
sends-keyless queue sends place [] = record {}
sends-keyless queue sends place (p ∷ ps) = (failed-done queue sends _ refl refl refl, sends-keyless queue sends (suc place) ps)

receives-keyless : (queue : QueueId) (sends : WorkQueue PostedSend) (place : ℕ) (rs : List RecvRequest) → AreKeyless queue sends None (flushed_receives queue place rs)
receives-keyless queue sends place [] = record {}
receives-keyless queue sends place (r ∷ rs) = (failed-done queue sends _ refl refl refl, receives-keyless queue sends (suc place) rs)

pub flush-keyless : (q : QueuePair) (sends : WorkQueue PostedSend) → AreKeyless q.queue sends None (flush_marks q)
flush-keyless q sends =
    keyless-append q.queue sends None (flushed_sends q.queue q.requester.oldest (items_from q.requester.oldest q.sends) ++ flushed_message q.queue q.responder.message) _
    (keyless-append q.queue sends None (flushed_sends q.queue q.requester.oldest (items_from q.requester.oldest q.sends)) (flushed_message q.queue q.responder.message)
    (sends-keyless q.queue sends q.requester.oldest (items_from q.requester.oldest q.sends)) (message q.responder.message)) (own q.receives)
  where
    message : (m : Option Message) → AreKeyless q.queue sends None (flushed_message q.queue m)
    message None = record {}
    message (Some (messages.Write key address left count)) = record {}
    message (Some (messages.Send place receive bytes)) = (failed-done q.queue sends _ refl refl refl, record {})

    own : (o : Option (WorkQueue RecvRequest)) → AreKeyless q.queue sends None (option_map_or (λ r. flushed_receives q.queue r.next_taken (items_from r.next_taken r)) o [])
    own None = record {}
    own (Some r) = receives-keyless q.queue sends r.next_taken (items_from r.next_taken r)

-- a status that is no success
abbrev IsFailure : WcStatus → Type 0
IsFailure status = status_eq status Success ≡ false

pub failure-goes : (status : WcStatus) (cause : Option OpRefusal) (q : QueuePair) → status_eq status Success ≡ false → Goes q None (failure_effects status cause q)
failure-goes status cause q fails = record { queue = refl; sends = refl; next = ends-here q (failure_effects status cause q).queue refl; marks = by (items_from q.requester.oldest q.sends) }
  where
    told : List PostedSend → List Mark
    told [] = flush_marks q
    told (p ∷ ps) = failure_mark q.queue q.requester.oldest p.request status cause ∷ flush_marks (without_oldest q)

    by : (ps : List PostedSend) → AreKeyless q.queue q.sends None (told ps)
    by [] = flush-keyless q q.sends
    by (p ∷ ps) = (failed-done q.queue q.sends _ refl refl fails, flush-keyless (without_oldest q) q.sends)

refused : (code : NakCode) (q : QueuePair) → Goes q None (refusal_effects code q)
refused code q = record { queue = refl; sends = refl; next = ends-here q (refusal_effects code q).queue refl; marks = flush-keyless q q.sends }

dropped : (q : QueuePair) (cause : Drop1) → Goes q None (drop_effects q cause)
dropped q cause = record { queue = refl; sends = refl; next = stays q; marks = (record {}, record {}) }

-- ---- progress

-- those that have begun are no local operations
abbrev ArePackets : QueuePair → List Numbered → Type 0
ArePackets q ns = AllByRecursion (λ n. IsPacketAt q.sends n.place) ns

begun-packets : (q : QueuePair) → IsKept q → ArePackets q (begun_requests q)
begun-packets q k = taken (q.requester.next - q.requester.oldest) (unfinished_requests q)
    (numbers-at q.responder.mtu q.requester.oldest q.requester.oldest_psn q.sends (items_from q.requester.oldest q.sends) k.first refl) k.is.packets
  where
    taken : (i : ℕ) (ns : List Numbered) → AllByRecursion (λ n. item_at n.place q.sends ≡ Some (record { request = n.request; drawn = n.drawn })) ns
        → AllByRecursion (λ n. is_local n.request.op ≡ false) (take i ns) → ArePackets q (take i ns)
    taken zero ns at packets = record {}
    taken (suc i) [] at packets = record {}
    taken (suc i) (n ∷ ns) at packets = (
      ap (λ o. option_map_or (λ p. not (is_local p.request.op)) o false) at.0 ∙ ap not packets.0,
      taken i ns at.1 packets.1,
    )

-- some of them in front
front-packets : (q : QueuePair) (test : Numbered → Bool) (ns : List Numbered) → ArePackets q ns → ArePackets q (take_while test ns)
front-packets q test [] all = record {}
front-packets q test (n ∷ ns) all = by (test n) (front-packets q test ns all.1)
  where
    by : (b : Bool) → ArePackets q (take_while test ns) → ArePackets q (take (if b then 1 + prefix_len test ns else 0) (n ∷ ns))
    by true rest = subst (ArePackets q) (ap (λ k. take k (n ∷ ns)) {x = suc (prefix_len test ns)} {y = 1 + prefix_len test ns} (omega arith)) (all.0, rest)
    by false rest = record {}

success-keyless : (q : QueuePair) (n : Numbered) → IsPacketAt q.sends n.place → AreKeyless q.queue q.sends None (success_marks q.queue n.place n.request)
success-keyless q n packet = by n.request.signalled
  where
    by : (b : Bool) → AreKeyless q.queue q.sends None (if b then success_marks q.queue n.place (record n.request { signalled = true }) else [])
    by true = (record { queue = refl; key = record {}; success = λ e. packet }, record {})
    by false = record {}

finished-keyless : (q : QueuePair) (ns : List Numbered) → ArePackets q ns → AreKeyless q.queue q.sends None (flat_map (λ n. success_marks q.queue n.place n.request) ns)
finished-keyless q [] all = record {}
finished-keyless q (n ∷ ns) all = keyless-append q.queue q.sends None (success_marks q.queue n.place n.request) _ (success-keyless q n all.0) (finished-keyless q ns all.1)

progressed : (psn : ℕ) (q : QueuePair) → IsKept q → Goes q None (progress_to psn q)
progressed psn q k = by (nat_lt q.requester.una psn)
  where
    moved : Bool → QueuePair
    moved b = if b then with_requester (record q.requester { una = psn; retries = 0; rnrs = 0 }) q else q

    done : Bool → Effects
    done b = queue_and_marks (after_finished (moved b)) (finished_marks (moved b))

    packets : ArePackets q (begun_requests q)
    packets = begun-packets q k

    by : (b : Bool) → Goes q None (done b)
    by true = record {
      queue = refl;
      sends = refl;
      next = stays q;
      marks = finished-keyless q (finished_requests (moved true)) (front-packets q (λ n. nat_le (psn_end n) psn) (begun_requests q) packets);
    }
    by false = record {
      queue = refl;
      sends = refl;
      next = stays q;
      marks = finished-keyless q (finished_requests q) (front-packets q (λ n. nat_le (psn_end n) q.requester.una) (begun_requests q) packets);
    }

retried : (psn : ℕ) (q : QueuePair) → Goes q None (one_retry psn q)
retried psn q = cond-goes q None (nat_le q.requester.retry q.requester.retries) (failure_effects RetryExceeded None counted) (queue_and_marks (with_cursor psn counted) [])
    (record { queue = f.queue; sends = f.sends; next = ends-here q (failure_effects RetryExceeded None counted).queue refl; marks = f.marks })
    (record { queue = refl; sends = refl; next = stays q; marks = record {} })
  where
    counted : QueuePair
    counted = with_requester (record q.requester { retries = suc q.requester.retries }) q

    f : Goes counted None (failure_effects RetryExceeded None counted)
    f = failure-goes RetryExceeded None counted refl

acknowledged : (psn : ℕ) (q : QueuePair) → IsKept q → Goes q None (acknowledgement_below psn q).effects
acknowledged psn q k = by (first_unanswered q.requester.una psn (begun_requests q))
  where
    result : Option ℕ → Acknowledgement
    result None = record { effects = progress_to psn q; went_back = false }
    result (Some back) = record { effects = and_then (progress_to back q) (one_retry back); went_back = true }

    by : (o : Option ℕ) → Goes q None (result o).effects
    by None = progressed psn q k
    by (Some back) = goes-then q (progress_to back q) (one_retry back) (progressed back q k) (retried back (progress_to back q).queue)

unless-goes : (q : QueuePair) (a : Acknowledgement) (f : QueuePair → Effects) → Goes q None a.effects → Goes a.effects.queue None (f a.effects.queue) → Goes q None (unless_back a f)
unless-goes q a f one more = cond-goes q None a.went_back a.effects (and_then a.effects f) one (goes-then q a.effects f one more)

rnr-goes : (psn : ℕ) (q : QueuePair) → Goes q None (rnr_nak_effects psn q)
rnr-goes psn q = cond-goes q None (nat_lt q.requester.rnr_retry MAX_RETRY && nat_le q.requester.rnr_retry q.requester.rnrs) (failure_effects RnrRetryExceeded None counted)
    (queue_and_marks (with_requester (record counted.requester { cursor = psn; waiting = true }) q) [])
    (record { queue = f.queue; sends = f.sends; next = ends-here q (failure_effects RnrRetryExceeded None counted).queue refl; marks = f.marks })
    (record { queue = refl; sends = refl; next = stays q; marks = record {} })
  where
    counted : QueuePair
    counted = with_requester (record q.requester { rnrs = suc q.requester.rnrs }) q

    f : Goes counted None (failure_effects RnrRetryExceeded None counted)
    f = failure-goes RnrRetryExceeded None counted refl

nak-goes : (psn : ℕ) (code : NakCode) (q : QueuePair) → Goes q None (nak_effects psn code q)
nak-goes psn PsnSequenceError q = retried psn q
nak-goes psn InvalidRequest q = failure-goes RemoteInvalidRequest None q refl
nak-goes psn RemoteAccessError q = failure-goes RemoteAccess None q refl
nak-goes psn RemoteOperationalError q = failure-goes RemoteOperation None q refl

acknowledge-goes : (psn : ℕ) (o : Option Syndrome) (q : QueuePair) → IsKept q → Goes q None (acknowledge_row psn o q)
acknowledge-goes psn (Some (Ack credits)) q k = acknowledged (suc psn) q k
acknowledge-goes psn (Some (RnrNak timer)) q k = unless-goes q (acknowledgement_below psn q) (rnr_nak_effects psn) (acknowledged psn q k) (rnr-goes psn (acknowledgement_below psn q).effects.queue)
acknowledge-goes psn (Some (Nak code)) q k = unless-goes q (acknowledgement_below psn q) (nak_effects psn code) (acknowledged psn q k) (nak-goes psn code (acknowledgement_below psn q).effects.queue)
acknowledge-goes psn None q k = dropped q drops.Stale

-- ---- answers

writes-keyless : (name : QueueId) (sends : WorkQueue PostedSend) (xs : List (Ask × List ℕ)) → AreKeyless name sends None (local_writes xs)
writes-keyless name sends [] = record {}
writes-keyless name sends (x ∷ xs) = (record {}, writes-keyless name sends xs)

pub reads-keyless : (name : QueueId) (sends : WorkQueue PostedSend) (asks : List Ask) (bytes : List (List ℕ)) → AreKeyless name sends None (local_reads asks bytes)
reads-keyless name sends [] bytes = record {}
reads-keyless name sends (ask ∷ asks) [] = record {}
reads-keyless name sends (ask ∷ asks) (b ∷ bs) = (record {}, reads-keyless name sends asks bs)

-- the list was denied, and the request fails
pub denied-goes : (q : QueuePair) (d : DeniedAsk) → Goes q None (record (failure_effects LocalProtection None q) { marks = local_denial d ∷ (failure_effects LocalProtection None q).marks })
denied-goes q d = record { queue = f.queue; sends = f.sends; next = f.next; marks = (record {}, f.marks) }
  where
    f : Goes q None (failure_effects LocalProtection None q)
    f = failure-goes LocalProtection None q refl

answer-goes : (psn : ℕ) (p : Fields) (q : QueuePair) (before : Effects) (n : Numbered) → IsKept before.queue → Goes q None before → RowGoes q (answer_row psn p before n)
answer-goes psn p q before n k goes = record {
  denied = λ d. goes-then q before (λ x. record (failure_effects LocalProtection None x) { marks = local_denial d ∷ (failure_effects LocalProtection None x).marks }) goes
      (denied-goes before.queue d);
  allowed = λ bytes refusal. record { queue = whole.queue; sends = whole.sends; next = whole.next; marks = whole.marks };
}
  where
    writes : List (Ask × List ℕ)
    writes = writes_by (answer_asks psn p before.queue n) (answer_bytes p)

    ahead : Goes before.queue None (progress_to (suc psn) before.queue)
    ahead = progressed (suc psn) before.queue k

    wrote : Goes before.queue None (record (progress_to (suc psn) before.queue) { marks = local_writes writes ++ (progress_to (suc psn) before.queue).marks })
    wrote = record {
      queue = ahead.queue;
      sends = ahead.sends;
      next = ahead.next;
      marks = keyless-append before.queue.queue before.queue.sends None (local_writes writes) _ (writes-keyless before.queue.queue before.queue.sends writes) ahead.marks;
    }

    whole : Goes q None (and_then before (λ x. record (progress_to (suc psn) x) { marks = local_writes writes ++ (progress_to (suc psn) x).marks }))
    whole = goes-then q before (λ x. record (progress_to (suc psn) x) { marks = local_writes writes ++ (progress_to (suc psn) x).marks }) goes wrote

fitting-goes : (psn : ℕ) (p : Fields) (q : QueuePair) → IsKept q → RowGoes q (fitting_row psn p (acknowledgement_below psn q))
fitting-goes psn p q k = by (first_unanswered q.requester.una psn (begun_requests q))
  where
    result : Option ℕ → Acknowledgement
    result None = record { effects = progress_to psn q; went_back = false }
    result (Some back) = record { effects = and_then (progress_to back q) (one_retry back); went_back = true }

    e : Effects
    e = progress_to psn q

    goes : Goes q None e
    goes = progressed psn q k

    bad : RowGoes q (plain_row (Does (and_then e (failure_effects BadResponse None))))
    bad = plain q _ (goes-then q e (failure_effects BadResponse None) goes (failure-goes BadResponse None e.queue refl))

    row : Option Numbered → Row
    row None = plain_row (Does (and_then e (failure_effects BadResponse None)))
    row (Some n) =
        if fits_request psn p e.queue n then answer_row psn p e n
        else plain_row (Does (and_then e (failure_effects BadResponse None)))

    at : (o : Option Numbered) → RowGoes q (row o)
    at None = bad
    at (Some n) = cond-row q (fits_request psn p e.queue n) _ _
        (answer-goes psn p q e n (record { is = progress-steady psn q k.first k.is; first = progress-first psn q k.first }) goes) bad

    by : (o : Option ℕ) → RowGoes q (fitting_row psn p (result o))
    by None = at (request_at psn e.queue)
    by (Some back) = plain q _ (goes-then q (progress_to back q) (one_retry back) (progressed back q k) (retried back (progress_to back q).queue))

response-goes : (p : Fields) (q : QueuePair) → IsKept q → RowGoes q (response_row p q)
response-goes p q k = cond-row q (not (is_among (states.Rts ∷ states.Sqd ∷ []) q.state)) _ _ (plain q _ (dropped q drops.State))
    (cond-row q (not (is_outstanding_at psn q)) _ _ (plain q _ (dropped q drops.Stale))
    (cond-row q (p.opcode == ACKNOWLEDGE) _ _ (plain q _ (acknowledge-goes psn (option_and_then (λ a. syndrome_in a.syndrome) p.aeth) q k))
    (fitting-goes psn p q k)))
  where
    psn : ℕ
    psn = response_psn q p

-- ---- requests

-- a change of the responder alone
answers-goes : (q p : QueuePair) → p.queue ≡ q.queue → p.sends ≡ q.sends → p.state ≡ q.state → p.requester ≡ q.requester → (ms : List Mark) → AreKeyless q.queue q.sends None ms → Goes q None (queue_and_marks p ms)
answers-goes q p queue sends state requester ms keyless = record {
  queue = queue;
  sends = sends;
  next = λ e. (ap (λ s. state_eq s states.Error) (sym state) ∙ e, ap (λ r. r.next) requester);
  marks = keyless;
}

quiet : (q p : QueuePair) → p.queue ≡ q.queue → p.sends ≡ q.sends → p.state ≡ q.state → p.requester ≡ q.requester → Goes q None (queue_and_marks p [])
quiet q p queue sends state requester = answers-goes q p queue sends state requester [] (record {})

ahead-goes : (q : QueuePair) → Goes q None (ahead_effects q)
ahead-goes q = cond-goes q None q.responder.nak_sent _ _ (dropped q drops.Stale) (quiet q _ refl refl refl refl)

duplicate-goes : (psn : ℕ) (p : Fields) (envelope : Option ℕ) (shape : Shape) (q : QueuePair) → Goes q None (duplicate_effects psn p envelope shape q)
duplicate-goes psn p envelope shape q = cond-goes q None (nat_le MAX_DUPLICATES (duplicate_count q.responder.answers)) _ _ (dropped q drops.Unsaved) (by shape)
  where
    ack : Goes q None (ack_again q)
    ack = cond-goes q None (length q.responder.answers == 0) _ _ (quiet q _ refl refl refl refl) (dropped q drops.Unsaved)

    read : (h : Reth) → Goes q None (read_again psn envelope h q)
    read h = cond-goes q None (nat_le (psn + segments q.responder.mtu h.length) q.responder.expected) _ _ (quiet q _ refl refl refl refl) (dropped q drops.Unsaved)

    of_reth : (o : Option Reth) → Goes q None (option_map_or (λ h. read_again psn envelope h q) o (drop_effects q drops.Unsaved))
    of_reth None = dropped q drops.Unsaved
    of_reth (Some h) = read h

    atomic : (o : Option ℕ) → Goes q None (atomic_again psn o q)
    atomic None = dropped q drops.Unsaved
    atomic (Some found) = quiet q _ refl refl refl refl

    effects : Shape → Effects
    effects (shapes.Send position) = ack_again q
    effects (shapes.Write position) = ack_again q
    effects shapes.Read = option_map_or (λ h. read_again psn envelope h q) p.reth (drop_effects q drops.Unsaved)
    effects (shapes.Atomic kind) = atomic_again psn (saved_at psn q.saved) q

    by : (shape : Shape) → Goes q None (effects shape)
    by (shapes.Send position) = ack
    by (shapes.Write position) = ack
    by shapes.Read = of_reth p.reth
    by (shapes.Atomic kind) = atomic (saved_at psn q.saved)

receive-failed : (q : QueuePair) (r : PlacedReceive) (status : WcStatus) (cause : Option OpRefusal) (code : NakCode) → Goes q None (receive_failure_effects q r status cause code)
receive-failed q r status cause code = record {
  queue = refl;
  sends = refl;
  next = ends-here q (receive_failure_effects q r status cause code).queue refl;
  marks = (failed-done q.queue q.sends _ refl refl refl, flush-keyless (with_message None q) q.sends);
}

-- what a SEND packet takes its receive from
as-before : (before q : QueuePair) (ended : Option Key) (e : Effects) → q.queue ≡ before.queue → q.sends ≡ before.sends → q.state ≡ before.state → q.requester ≡ before.requester → Goes q ended e → Goes before ended e
as-before before q ended e queue sends state requester g = record {
  queue = g.queue ∙ queue;
  sends = g.sends ∙ sends;
  next = λ x. (ap (λ s. state_eq s states.Error) (sym state) ∙ (g.next x).0, (g.next x).1 ∙ ap (λ r. r.next) requester);
  marks = subst₂ (λ n s. TellOf n s ended e.marks) queue sends g.marks;
}

-- the key that a packet names
abbrev key_in : Option ℕ → Option Key
key_in o = option_map (λ key. record { 0 = key }) o

abbrev ended_by : QueuePair → Option ℕ → Option Invalidation
ended_by q o = option_map (λ key. record { queue = q.queue; domain = q.domain; key = record { 0 = key } }) o

revoked-tells : (q : QueuePair) (o : Option ℕ) (ms : List Mark) → AreKeyless q.queue q.sends (key_in o) ms → TellOf q.queue q.sends (key_gone (ended_by q o) None) (revoked_marks q (ended_by q o) ++ ms)
revoked-tells q None ms keyless = keyless
revoked-tells q (Some key) ms keyless = (refl, refl, keyless)

refused-none : (q : QueuePair) (o : Option ℕ) (cause : OpRefusal) → None ≡ key_gone (ended_by q o) (Some cause)
refused-none q None cause = refl
refused-none q (Some key) cause = refl

itself : (o : Option Key) → IfSome o (λ key. o ≡ Some key)
itself None = record {}
itself (Some key) = refl

send-goes : (before : QueuePair) (p : Fields) (place : Position) (r : Receiving) → RowGoes before (send_row before p place r)
send-goes before p place r = of r.taken
  where
    from : Bool → QueuePair
    from b = if b then with_receive_taken before else before

    took : Bool → Effects → Effects
    took b e = if b then with_shared_receive (from b) e else e

    end : QueuePair → Option OpRefusal → Effects
    end q (Some cause) = receive_failure_effects q r.receive MemoryManagement (Some cause) RemoteOperationalError
    end q None = behind_marks (revoked_marks q (invalidation_of q p)) (after_send_packet (with_window_gone (invalidation_of q p) q) p place r)

    writes : QueuePair → List (Ask × List ℕ)
    writes q = writes_by (receive_asks q p r) p.payload

    row_of : Bool → Bool → Row
    row_of b long =
        if long then plain_row (Does (took b (receive_failure_effects (from b) r.receive LocalLength None InvalidRequest)))
        else record {
          asks = receive_asks (from b) p r;
          invalidation = invalidation_of (from b) p;
          denied = λ d. Does (took b (behind_marks (local_denial d ∷ []) (receive_failure_effects (from b) r.receive LocalProtection None RemoteOperationalError)));
          allowed = λ bytes refusal. Does (took b (record (behind_marks (local_writes (writes (from b))) (end (from b) refusal)) { writes = writes (from b) }));
        }

    taken : (b : Bool) (ended : Option Key) (e : Effects) → Goes (from b) ended e → Goes before ended (took b e)
    taken true ended e g = as-before before (from true) ended (with_shared_receive (from true) e) refl refl refl refl (record { queue = g.queue; sends = g.sends; next = g.next; marks = g.marks })
    taken false ended e g = g

    packet : (q : QueuePair) → AreKeyless q.queue q.sends (key_in p.ieth) (after_send_packet q p place r).marks
    packet q = at (ends place)
      where
        at : (b : Bool) → AreKeyless q.queue q.sends (key_in p.ieth) (if b
            then queue_and_marks (with_message None (queue_after_packet p 1 true true q))
            (receive_mark q.queue r.receive.place r.receive.receive Success operations.Recv (r.before + length p.payload) p.imm (option_map (λ key. record { 0 = key }) p.ieth) ∷ [])
            else queue_and_marks (with_message (Some (messages.Send r.receive.place r.receive.receive (r.before + length p.payload))) (queue_after_packet p 1 false true q)) []).marks
        at true = (record { queue = refl; key = itself (key_in p.ieth); success = λ e. absurd (true≢false (sym e)) }, record {})
        at false = record {}

    sent : (q : QueuePair) → GoesOn q (after_send_packet q p place r).queue × ((after_send_packet q p place r).queue.queue ≡ q.queue) × ((after_send_packet q p place r).queue.sends ≡ q.sends)
    sent q = at (ends place)
      where
        queue_of : Bool → QueuePair
        queue_of b = (if b
            then queue_and_marks (with_message None (queue_after_packet p 1 true true q))
            (receive_mark q.queue r.receive.place r.receive.receive Success operations.Recv (r.before + length p.payload) p.imm (option_map (λ key. record { 0 = key }) p.ieth) ∷ [])
            else queue_and_marks (with_message (Some (messages.Send r.receive.place r.receive.receive (r.before + length p.payload))) (queue_after_packet p 1 false true q)) []).queue

        at : (b : Bool) → GoesOn q (queue_of b) × ((queue_of b).queue ≡ q.queue) × ((queue_of b).sends ≡ q.sends)
        at true = (stays q, refl, refl)
        at false = (stays q, refl, refl)

    placed : (q : QueuePair) (refusal : Option OpRefusal) → Goes q (key_gone (invalidation_of q p) refusal) (record (behind_marks (local_writes (writes q)) (end q refusal)) { writes = writes q })
    placed q None = record {
      queue = (sent (with_window_gone (invalidation_of q p) q)).1;
      sends = (sent (with_window_gone (invalidation_of q p) q)).2;
      next = (sent (with_window_gone (invalidation_of q p) q)).0;
      marks = tells-behind q.queue q.sends (key_gone (invalidation_of q p) None) (local_writes (writes q)) _ (writes-keyless q.queue q.sends (writes q))
          (revoked-tells q p.ieth (after_send_packet (with_window_gone (invalidation_of q p) q) p place r).marks (packet (with_window_gone (invalidation_of q p) q)));
    }
    placed q (Some cause) = record {
      queue = refl;
      sends = refl;
      next = ends-here q (end q (Some cause)).queue refl;
      marks = subst (λ ended. TellOf q.queue q.sends ended (local_writes (writes q) ++ (end q (Some cause)).marks)) (refused-none q p.ieth cause)
          (keyless-append q.queue q.sends None (local_writes (writes q)) _ (writes-keyless q.queue q.sends (writes q))
          (receive-failed q r.receive MemoryManagement (Some cause) RemoteOperationalError).marks);
    }

    denial : (q : QueuePair) (d : DeniedAsk) → Goes q None (behind_marks (local_denial d ∷ []) (receive_failure_effects q r.receive LocalProtection None RemoteOperationalError))
    denial q d = record { queue = refl; sends = refl; next = ends-here q (receive_failure_effects q r.receive LocalProtection None RemoteOperationalError).queue refl; marks = (record {}, (receive-failed q r.receive LocalProtection None RemoteOperationalError).marks) }

    by : (b long : Bool) → RowGoes before (row_of b long)
    by b true = plain before _ (taken b None _ (receive-failed (from b) r.receive LocalLength None InvalidRequest))
    by b false = record {
      denied = λ d. taken b None _ (denial (from b) d);
      allowed = λ bytes refusal. taken b (key_gone (invalidation_of (from b) p) refusal) _ (placed (from b) refusal);
    }

    of : (b : Bool) → RowGoes before (row_of b (nat_lt (list_length r.receive.receive.list.items) (r.before + length p.payload)))
    of b = by b (nat_lt (list_length r.receive.receive.list.items) (r.before + length p.payload))

write-goes : (q : QueuePair) (p : Fields) (envelope : Option ℕ) (place : Position) (next : Option PlacedReceive) (r : WriteReach) → RowGoes q (write_row q p envelope place next r)
write-goes q p envelope place next r = record {
  denied = λ d. record { queue = refl; sends = refl; next = ends-here q (refusal_effects RemoteAccessError q).queue refl; marks = (record {}, flush-keyless q q.sends) };
  allowed = λ bytes refusal. record { queue = wrote.queue; sends = wrote.sends; next = wrote.next; marks = (record {}, wrote.marks) };
}
  where
    done : QueuePair → QueuePair
    done q = with_message None (queue_after_packet p 1 true true q)

    by : Option ℕ → Option PlacedReceive → Effects
    by (Some imm) (Some receive) = with_shared_receive q (queue_and_marks (done (with_receive_taken q))
        (receive_mark q.queue receive.place receive.receive Success operations.RecvImm r.whole (Some imm) None ∷ []))
    by imm next = queue_and_marks (done q) []

    immediate : (imm : Option ℕ) (next : Option PlacedReceive) → Goes q None (by imm next)
    immediate (Some imm) (Some receive) = record { queue = refl; sends = refl; next = stays q; marks = (record { queue = refl; key = record {}; success = λ e. absurd (true≢false (sym e)) }, record {}) }
    immediate (Some imm) None = quiet q _ refl refl refl refl
    immediate None next = quiet q _ refl refl refl refl

    wrote : Goes q None (after_write_packet q p place r next)
    wrote = cond-goes q None (ends place) _ _ (immediate p.imm next) (quiet q _ refl refl refl refl)

atomic-goes : (q : QueuePair) (p : Fields) (envelope : Option ℕ) (kind : Kind) (a : AtomicEth) → RowGoes q (atomic_row q p envelope kind a)
atomic-goes q p envelope kind a = record {
  denied = λ d. record { queue = refl; sends = refl; next = ends-here q (refusal_effects RemoteAccessError q).queue refl; marks = (record {}, flush-keyless q q.sends) };
  allowed = λ bytes refusal. record { queue = refl; sends = refl; next = stays q; marks = (record {}, record {}) };
}

valid-goes : (q : QueuePair) (p : Fields) (envelope : Option ℕ) (next : Option PlacedReceive) (shape : Shape) → RowGoes q (valid_row q p envelope next shape)
valid-goes q p envelope next (shapes.Send place) = by (receiving_of q next q.responder.message)
  where
    row : Option Receiving → Row
    row (Some r) = send_row q p place r
    row None = plain_row (Does (refusal_effects InvalidRequest q))

    by : (o : Option Receiving) → RowGoes q (row o)
    by (Some r) = send-goes q p place r
    by None = plain q _ (refused InvalidRequest q)
valid-goes q p envelope next (shapes.Write place) = by (write_reach q p)
  where
    row : Option WriteReach → Row
    row (Some r) = write_row q p envelope place next r
    row None = plain_row (Does (refusal_effects InvalidRequest q))

    by : (o : Option WriteReach) → RowGoes q (row o)
    by (Some r) = write-goes q p envelope place next r
    by None = plain q _ (refused InvalidRequest q)
valid-goes q p envelope next shapes.Read = by p.reth
  where
    row : Option Reth → Row
    row (Some h) = plain_row (Does (read_queued q p envelope h))
    row None = plain_row (Does (refusal_effects InvalidRequest q))

    by : (o : Option Reth) → RowGoes q (row o)
    by (Some h) = plain q (read_queued q p envelope h) (quiet q _ refl refl refl refl)
    by None = plain q _ (refused InvalidRequest q)
valid-goes q p envelope next (shapes.Atomic kind) = by p.atomic
  where
    row : Option AtomicEth → Row
    row (Some a) = atomic_row q p envelope kind a
    row None = plain_row (Does (refusal_effects InvalidRequest q))

    by : (o : Option AtomicEth) → RowGoes q (row o)
    by (Some a) = atomic-goes q p envelope kind a
    by None = plain q _ (refused InvalidRequest q)

-- a row of a queue pair that is the same in its sends
row-from : (q p : QueuePair) (row : Row) → p.queue ≡ q.queue → p.sends ≡ q.sends → p.state ≡ q.state → p.requester ≡ q.requester → RowGoes p row → RowGoes q row
row-from q p row queue sends state requester does = record {
  denied = λ d. on None (row.denied d) (does.denied d);
  allowed = λ bytes refusal. on (key_gone row.invalidation refusal) (row.allowed bytes refusal) (does.allowed bytes refusal);
}
  where
    on : (ended : Option Key) (e : Ending) → EndingDoes (Goes p ended) e → EndingDoes (Goes q ended) e
    on ended (NotPossible reason) goes = record {}
    on ended (Does e) goes = as-before q p ended e queue sends state requester goes

request-goes : (p : Fields) (envelope : Option ℕ) (shared : Option SharedReceives) (shape : Shape) (q : QueuePair) → RowGoes q (request_row p envelope shared shape q)
request-goes p envelope shared shape q = cond-row q (nat_lt q.responder.expected psn) _ _ (plain q _ (ahead-goes q))
    (cond-row q (nat_lt psn q.responder.expected) _ _ (plain q _ (duplicate-goes psn p envelope shape q))
    (row-from q f _ refl refl refl refl
    (cond-row f (is_invalid f p shape) _ _ (plain f _ (refused InvalidRequest f))
    (cond-row f (takes_receive p shape && is_none (next_receive f shared)) _ _ (plain f (rnr_effects f) (quiet f _ refl refl refl refl))
    (valid-goes f p envelope (next_receive f shared) shape)))))
  where
    psn : ℕ
    psn = widened q.responder.expected p.psn

    f : QueuePair
    f = with_flag false q

-- ---- arrivals

packet-goes : (p : Fields) (envelope : Option ℕ) (shared : Option SharedReceives) (q : QueuePair) → IsKept q → RowGoes q (packet_arrived p envelope shared q)
packet-goes p envelope shared q k = cond-row q (is_response p.opcode) _ _ (response-goes p q k) (by (shape_of p.opcode))
  where
    row : Option Shape → Row
    row (Some shape) = request_row p envelope shared shape q
    row None = plain_row (Does (drop_effects q drops.State))

    by : (o : Option Shape) → RowGoes q (row o)
    by (Some shape) = request-goes p envelope shared shape q
    by None = plain q _ (dropped q drops.State)

pub arrival-goes : (bytes : List ℕ) (envelope : Option ℕ) (shared : Option SharedReceives) (q : QueuePair) → IsKept q → RowGoes q (arrival_row bytes envelope shared q)
arrival-goes bytes envelope shared q k = by (packet_in bytes)
  where
    unless : Fields → Option Drop1 → Row
    unless p (Some cause) = plain_row (Does (drop_effects q cause))
    unless p None = packet_arrived p envelope shared q

    row : Result Fields WireError → Row
    row (Err error) = plain_row (Does (drop_effects q (drops.Wire error)))
    row (Ok p) = unless p (first_of (arrival_drops q p))

    of_packet : (p : Fields) (o : Option Drop1) → RowGoes q (unless p o)
    of_packet p (Some cause) = plain q _ (dropped q cause)
    of_packet p None = packet-goes p envelope shared q k

    by : (o : Result Fields WireError) → RowGoes q (row o)
    by (Err error) = plain q _ (dropped q (drops.Wire error))
    by (Ok p) = of_packet p (first_of (arrival_drops q p))

-- ---- the responder's turn, and timers

turn-goes : (q : QueuePair) (a : Queued) → RowGoes q (answer_turn q a)
turn-goes q (queued.Ack psn) = plain q _ (record { queue = refl; sends = refl; next = stays q; marks = record {} })
turn-goes q (queued.Rnr psn) = plain q _ (record { queue = refl; sends = refl; next = stays q; marks = record {} })
turn-goes q (queued.Nak psn code) = plain q _ (record { queue = refl; sends = refl; next = stays q; marks = record {} })
turn-goes q (queued.Read psn key address left first envelope duplicate) = record {
  denied = λ d. record { queue = refl; sends = refl; next = ends-here q (failure_effects LocalProtection None q).queue refl; marks = (record {}, flush-keyless q q.sends) };
  allowed = λ bytes refusal. record { queue = (answered (is_last_response q r)).queue; sends = (answered (is_last_response q r)).sends; next = (answered (is_last_response q r)).next; marks = (record {}, record {}) };
}
  where
    r : ReadLeft
    r = record { psn = psn; key = key; address = address; left = left; first = first; envelope = envelope; duplicate = duplicate }

    answered : (b : Bool) → Goes q None (queue_and_marks (if b then without_front q else with_front (rest_of q r) q) [])
    answered true = quiet q _ refl refl refl refl
    answered false = quiet q _ refl refl refl refl
turn-goes q (queued.Atomic psn found duplicate) = plain q _ (record { queue = refl; sends = refl; next = stays q; marks = record {} })

pub respond-goes : (room : Bool) (q : QueuePair) → RowGoes q (respond_row room q)
respond-goes room q = by (first_of (respond_refusals room q)) (slice_get q.responder.answers 0)
  where
    row : Option Reason → Option Queued → Row
    row (Some reason) answer = plain_row (NotPossible reason)
    row None None = plain_row (NotPossible reasons.Empty)
    row None (Some answer) = answer_turn q answer

    by : (r : Option Reason) (o : Option Queued) → RowGoes q (row r o)
    by (Some reason) answer = record { denied = λ d. record {}; allowed = λ bytes refusal. record {} }
    by None None = record { denied = λ d. record {}; allowed = λ bytes refusal. record {} }
    by None (Some answer) = turn-goes q answer

-- a timer fires: its mark, and what one retry makes
pub timeout-goes : (silent : Bool) (q : QueuePair) → Goes q None (one_retry q.requester.una (with_requester (record q.requester { timers = suc q.requester.timers }) q))
timeout-goes silent q = record { queue = r.queue; sends = r.sends; next = r.next; marks = r.marks }
  where
    counted : QueuePair
    counted = with_requester (record q.requester { timers = suc q.requester.timers }) q

    r : Goes counted None (one_retry q.requester.una counted)
    r = retried q.requester.una counted

pub wake-goes : (q : QueuePair) → Goes q None (after_wake q)
wake-goes q = record { queue = refl; sends = refl; next = stays q; marks = record {} }
