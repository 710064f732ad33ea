-- Marks that complete no receive for its list, and rows that make such marks alone. For proofs only.
use Rattle.std.proofs.Common.{subst, Bool, List, None, Option, Some, [], ap, false, if◌then◌else◌, nat_le, nat_lt, not, refl, suc, sym, true, ℕ, ◌&&◌, ◌++◌, ◌==◌, ◌∷◌, ◌≡◌}
use Rattle.std.specs.List.{flat_map}
use Rattle.std.specs.Option.{option_and_then, option_map_or}
use Rattle.ca_law_keys.proofs.Posts.GrantLemmas.{both-true}
use Rattle.ca_base.specs.declared.change.State.TheVariants as states
use Rattle.ca_base.specs.declared.completion.Completion.{Completion}
use Rattle.ca_base.specs.declared.completion.WcStatus.TheVariants as statuses
use Rattle.ca_base.specs.declared.completion.WcStatus.TheVariants.{BadResponse, RetryExceeded, RnrRetryExceeded, LocalProtection, MemoryManagement}
use Rattle.ca_base.specs.declared.completion.WcStatus.{WcStatus}
use Rattle.ca_base.specs.declared.denied_ask.DeniedAsk.{DeniedAsk}
use Rattle.ca_base.specs.declared.limits.TheConstants.{MAX_RETRY}
use Rattle.ca_base.specs.declared.refusals.OpRefusal.{OpRefusal}
use Rattle.ca_base.specs.declared.request.PostedSend.{PostedSend}
use Rattle.ca_base.specs.declared.request.SendRequest.{SendRequest}
use Rattle.ca_base.specs.declared.step.Reason.TheVariants as reasons
use Rattle.ca_base.specs.objects.LocalRequest.{LocalMarks}
use Rattle.ca_base.specs.objects.QueuePair.{QueuePair}
use Rattle.ca_base.specs.objects.StateTable.{is_among}
use Rattle.ca_base.specs.objects.WorkQueue.{items_from}
use Rattle.ca_law_caused.proofs.Caused.StoryLemmas.{AreFlushes, flush-flushes}
use Rattle.ca_law_caused.specs.Listed.{completes_by_list, has_list_cause}
use Rattle.ca_keys.specs.declared.access.Ask.{Ask}
use Rattle.ca_keys.specs.declared.grant.Grant.{Grant}
use Rattle.ca_keys.specs.declared.key.Key.{Key}
use Rattle.ca_keys.specs.declared.names.QueueId.{QueueId}
use Rattle.ca_law_world.proofs.Sound.WorldLemmas.{EndingDoes, RowDoes}
use Rattle.ca_model.specs.Caused.{is_denied_list}
use Rattle.ca_model.specs.Past.{Past, after_mark, each_mark}
use Rattle.ca_model.specs.declared.mark.Drop1.TheVariants as drops
use Rattle.ca_model.specs.declared.mark.Mark.TheVariants as marks
use Rattle.ca_model.specs.declared.mark.Mark.{Mark}
use Rattle.ca_model.specs.machine.Acknowledgements.{Acknowledgement, acknowledgement_below, and_then, failure_effects, first_unanswered, one_retry, progress_to, with_cursor, with_requester, with_una, finished_requests, without_oldest}
use Rattle.ca_model.specs.machine.Completions.{failure_mark, flush_marks, success_marks}
use Rattle.ca_model.specs.machine.LocalOperations.{operation_effects, local_marks}
use Rattle.ca_model.specs.machine.Numbering.{Numbered, begun_requests, request_at}
use Rattle.ca_model.specs.machine.Requester.{denied_list_effects, is_outstanding, is_too_much, packet_asks, packet_row, sent_packet, local_reads}
use Rattle.ca_model.specs.machine.Responses.{acknowledge_row, answer_asks, answer_bytes, answer_row, drop_effects, fits_request, fitting_row, is_outstanding_at, local_writes, nak_effects, outstanding_row, response_psn, response_row, rnr_nak_effects, unless_back, writes_by}
use Rattle.ca_model.specs.machine.Row.{Does, Effects, NotPossible, Row, plain_row, queue_and_marks}
use Rattle.ca_model.specs.machine.Timers.{after_timeout}
use Rattle.ca_wire.specs.Packet.{Fields}
use Rattle.ca_wire.specs.declared.opcode.TheConstants.{ACKNOWLEDGE}
use Rattle.ca_wire.specs.Syndrome.{syndrome_in}
use Rattle.ca_wire.specs.declared.syndrome.NakCode.TheVariants.{InvalidRequest, PsnSequenceError, RemoteAccessError, RemoteOperationalError}
use Rattle.ca_wire.specs.declared.syndrome.NakCode.{NakCode}
use Rattle.ca_wire.specs.declared.syndrome.Syndrome.TheVariants.{Ack, Nak, RnrNak}
use Rattle.ca_wire.specs.declared.syndrome.Syndrome.{Syndrome}

-- a status that speaks of no receive's list
abbrev pub IsUsualStatus : WcStatus → Type 0
IsUsualStatus statuses.LocalLength = ⊥
IsUsualStatus status = Unit {0}

-- a completion that is of a send, and not for its length, or whose status speaks of no list
abbrev pub IsUsualDone : WcStatus → Bool → Type 0
IsUsualDone statuses.LocalLength receive = ⊥
IsUsualDone statuses.LocalProtection receive = receive ≡ false
IsUsualDone status receive = Unit {0}

abbrev pub IsUsual : Mark → Type 0
IsUsual (marks.Done queue x cause) = IsUsualDone x.status x.receive
IsUsual m = Unit {0}

abbrev pub AreUsual : List Mark → Type 0
AreUsual [] = Unit {0}
AreUsual (m ∷ ms) = IsUsual m × AreUsual ms

pub usual-append : (ms ns : List Mark) → AreUsual ms → AreUsual ns → AreUsual (ms ++ ns)
usual-append [] ns one other = other
usual-append (m ∷ ms) ns one other = (one.0, usual-append ms ns one.1 other)

pub usual-passes : (ms : List Mark) → AreUsual ms → (r : Past) → each_mark completes_by_list r ms ≡ true
usual-passes [] usual r = refl
usual-passes (m ∷ ms) usual r = both-true (completes_by_list r m) _ (one m usual.0) (usual-passes ms usual.1 (after_mark m r))
  where
    done : (x : Completion) (status : WcStatus) → IsUsualDone status x.receive → has_list_cause r x status ≡ true
    done x statuses.LocalLength is = absurd is
    done x statuses.LocalProtection is = ap (λ b. if b then is_denied_list r x else true) is
    done x statuses.Success is = refl
    done x statuses.MemoryManagement is = refl
    done x statuses.RemoteInvalidRequest is = refl
    done x statuses.RemoteAccess is = refl
    done x statuses.RemoteOperation is = refl
    done x statuses.RetryExceeded is = refl
    done x statuses.RnrRetryExceeded is = refl
    done x statuses.BadResponse is = refl
    done x statuses.Flushed is = refl

    one : (m : Mark) → IsUsual m → completes_by_list r m ≡ true
    one (marks.Done queue x cause) is = done x x.status is
    one (marks.Verb by verb answer) is = refl
    one (marks.Granted g) is = refl
    one (marks.Revoked adapter key) is = refl
    one (marks.Remote queue domain envelope key kind address count verdict) is = refl
    one (marks.Local queue domain key kind address count verdict) is = refl
    one (marks.Stored place bytes) is = refl
    one (marks.Sent source target index request bytes) is = refl
    one (marks.Lost target index) is = refl
    one (marks.Arrived target index) is = refl
    one (marks.Dropped target cause) is = refl
    one (marks.Timer queue silent) is = refl

-- what is flushed
flushes-usual : (name : QueueId) (ms : List Mark) → AreFlushes name ms → AreUsual ms
flushes-usual name [] flushes = record {}
flushes-usual name (marks.Done queue x cause ∷ ms) flushes = (subst (λ s. IsUsualDone s x.receive) (sym flushes.0.1) (record {}), flushes-usual name ms flushes.1)
flushes-usual name (marks.Verb by verb answer ∷ ms) flushes = absurd flushes.0
flushes-usual name (marks.Granted g ∷ ms) flushes = absurd flushes.0
flushes-usual name (marks.Revoked adapter key ∷ ms) flushes = absurd flushes.0
flushes-usual name (marks.Remote queue domain envelope key kind address count verdict ∷ ms) flushes = absurd flushes.0
flushes-usual name (marks.Local queue domain key kind address count verdict ∷ ms) flushes = absurd flushes.0
flushes-usual name (marks.Stored place bytes ∷ ms) flushes = absurd flushes.0
flushes-usual name (marks.Sent source target index request bytes ∷ ms) flushes = absurd flushes.0
flushes-usual name (marks.Lost target index ∷ ms) flushes = absurd flushes.0
flushes-usual name (marks.Arrived target index ∷ ms) flushes = absurd flushes.0
flushes-usual name (marks.Dropped target cause ∷ ms) flushes = absurd flushes.0
flushes-usual name (marks.Timer queue silent ∷ ms) flushes = absurd flushes.0

pub flush-usual : (q : QueuePair) → AreUsual (flush_marks q)
flush-usual q = flushes-usual q.queue (flush_marks q) (flush-flushes q)

usual-send : (status : WcStatus) → IsUsualStatus status → IsUsualDone status false
usual-send statuses.LocalLength is = is
usual-send statuses.LocalProtection is = refl
usual-send statuses.Success is = record {}
usual-send statuses.MemoryManagement is = record {}
usual-send statuses.RemoteInvalidRequest is = record {}
usual-send statuses.RemoteAccess is = record {}
usual-send statuses.RemoteOperation is = record {}
usual-send statuses.RetryExceeded is = record {}
usual-send statuses.RnrRetryExceeded is = record {}
usual-send statuses.BadResponse is = record {}
usual-send statuses.Flushed is = record {}

pub failure-usual : (status : WcStatus) (cause : Option OpRefusal) (q : QueuePair) → IsUsualStatus status → AreUsual (failure_effects status cause q).marks
failure-usual status cause q is = by (items_from q.requester.oldest q.sends)
  where
    told : List PostedSend → List Mark
    told [] = flush_marks q
    told (p ∷ ps) = failure_mark q.queue q.requester.oldest p.request status cause ∷ flush_marks (without_oldest q)

    by : (ps : List PostedSend) → AreUsual (told ps)
    by [] = flush-usual q
    by (p ∷ ps) = (usual-send status is, flush-usual (without_oldest q))

pub success-usual : (queue : QueueId) (place : ℕ) (request : SendRequest) → AreUsual (success_marks queue place request)
success-usual queue place request = by request.signalled
  where
    by : (b : Bool) → AreUsual (if b then success_marks queue place (record request { signalled = true }) else [])
    by true = (record {}, record {})
    by false = record {}

finished-usual : (queue : QueueId) (ns : List Numbered) → AreUsual (flat_map (λ n. success_marks queue n.place n.request) ns)
finished-usual queue [] = record {}
finished-usual queue (n ∷ ns) = usual-append (success_marks queue n.place n.request) _ (success-usual queue n.place n.request) (finished-usual queue ns)

progress-usual : (psn : ℕ) (q : QueuePair) → AreUsual (progress_to psn q).marks
progress-usual psn q = finished-usual (with_una psn q).queue (finished_requests (with_una psn q))

retry-usual : (psn : ℕ) (q : QueuePair) → AreUsual (one_retry psn q).marks
retry-usual psn q = by (nat_le q.requester.retry q.requester.retries)
  where
    counted : QueuePair
    counted = with_requester (record q.requester { retries = suc q.requester.retries }) q

    by : (b : Bool) → AreUsual (if b then failure_effects RetryExceeded None counted else queue_and_marks (with_cursor psn counted) []).marks
    by true = failure-usual RetryExceeded None counted (record {})
    by false = record {}

below-usual : (psn : ℕ) (q : QueuePair) → AreUsual (acknowledgement_below psn q).effects.marks
below-usual psn q = by (first_unanswered q.requester.una psn (begun_requests q))
  where
    after : Option ℕ → Acknowledgement
    after None = record { effects = progress_to psn q; went_back = false }
    after (Some back) = record { effects = and_then (progress_to back q) (one_retry back); went_back = true }

    by : (back : Option ℕ) → AreUsual (after back).effects.marks
    by None = progress-usual psn q
    by (Some back) = usual-append (progress_to back q).marks _ (progress-usual back q) (retry-usual back (progress_to back q).queue)

back-usual : (q : QueuePair) (a : Acknowledgement) (f : QueuePair → Effects) → AreUsual a.effects.marks → AreUsual (f a.effects.queue).marks → AreUsual (unless_back a f).marks
back-usual q a f one other = by a.went_back
  where
    by : (b : Bool) → AreUsual (if b then a.effects else and_then a.effects f).marks
    by true = one
    by false = usual-append a.effects.marks (f a.effects.queue).marks one other

rnr-usual : (psn : ℕ) (q : QueuePair) → AreUsual (rnr_nak_effects psn q).marks
rnr-usual psn q = by (nat_lt q.requester.rnr_retry MAX_RETRY && nat_le q.requester.rnr_retry q.requester.rnrs)
  where
    counted : QueuePair
    counted = with_requester (record q.requester { rnrs = suc q.requester.rnrs }) q

    by : (b : Bool) → AreUsual (if b then failure_effects RnrRetryExceeded None counted
        else queue_and_marks (with_requester (record counted.requester { cursor = psn; waiting = true }) q) []).marks
    by true = failure-usual RnrRetryExceeded None counted (record {})
    by false = record {}

nak-usual : (psn : ℕ) (code : NakCode) (q : QueuePair) → AreUsual (nak_effects psn code q).marks
nak-usual psn PsnSequenceError q = retry-usual psn q
nak-usual psn InvalidRequest q = failure-usual statuses.RemoteInvalidRequest None q (record {})
nak-usual psn RemoteAccessError q = failure-usual statuses.RemoteAccess None q (record {})
nak-usual psn RemoteOperationalError q = failure-usual statuses.RemoteOperation None q (record {})

acknowledge-usual : (psn : ℕ) (syndrome : Option Syndrome) (q : QueuePair) → AreUsual (acknowledge_row psn syndrome q).marks
acknowledge-usual psn (Some (Ack credits)) q = below-usual (suc psn) q
acknowledge-usual psn (Some (RnrNak timer)) q = back-usual q (acknowledgement_below psn q) (rnr_nak_effects psn) (below-usual psn q) (rnr-usual psn (acknowledgement_below psn q).effects.queue)
acknowledge-usual psn (Some (Nak code)) q = back-usual q (acknowledgement_below psn q) (nak_effects psn code) (below-usual psn q) (nak-usual psn code (acknowledgement_below psn q).effects.queue)
acknowledge-usual psn None q = (record {}, record {})

-- ---- rows that make usual marks

abbrev pub Usual : Effects → Type 0
Usual e = AreUsual e.marks

pub plainly-usual : (e : Effects) → AreUsual e.marks → RowDoes Usual (plain_row (Does e))
plainly-usual e usual = record { denied = λ d. usual; allowed = λ bytes refusal. usual }

pub writes-usual : (xs : List (Ask × List ℕ)) → AreUsual (local_writes xs)
writes-usual [] = record {}
writes-usual (x ∷ xs) = (record {}, writes-usual xs)

reads-usual : (asks : List Ask) (bytes : List (List ℕ)) → AreUsual (local_reads asks bytes)
reads-usual [] bytes = record {}
reads-usual (ask ∷ asks) [] = record {}
reads-usual (ask ∷ asks) (b ∷ bs) = (record {}, reads-usual asks bs)

answer-usual : (psn : ℕ) (p : Fields) (before : Effects) (n : Numbered) → AreUsual before.marks → RowDoes Usual (answer_row psn p before n)
answer-usual psn p before n usual = record {
  denied = λ d. usual-append before.marks _ usual (record {}, failure-usual LocalProtection None before.queue (record {}));
  allowed = λ bytes refusal. usual-append before.marks _ usual (usual-append (local_writes (writes_by (answer_asks psn p before.queue n) (answer_bytes p))) _ (writes-usual (writes_by (answer_asks psn p before.queue n) (answer_bytes p))) (progress-usual (suc psn) before.queue));
}

fitting-usual : (psn : ℕ) (p : Fields) (a : Acknowledgement) → AreUsual a.effects.marks → RowDoes Usual (fitting_row psn p a)
fitting-usual psn p a usual = back a.went_back
  where
    bad : Row
    bad = plain_row (Does (and_then a.effects (failure_effects BadResponse None)))

    at : Option Numbered → Row
    at None = bad
    at (Some n) = if fits_request psn p a.effects.queue n then answer_row psn p a.effects n else bad

    is_bad : RowDoes Usual bad
    is_bad = plainly-usual (and_then a.effects (failure_effects BadResponse None)) (usual-append a.effects.marks _ usual (failure-usual BadResponse None a.effects.queue (record {})))

    fits : (n : Numbered) (b : Bool) → RowDoes Usual (if b then answer_row psn p a.effects n else bad)
    fits n true = answer-usual psn p a.effects n usual
    fits n false = is_bad

    by : (n : Option Numbered) → RowDoes Usual (at n)
    by None = is_bad
    by (Some n) = fits n (fits_request psn p a.effects.queue n)

    back : (b : Bool) → RowDoes Usual (if b then plain_row (Does a.effects) else at (request_at psn a.effects.queue))
    back true = plainly-usual a.effects usual
    back false = by (request_at psn a.effects.queue)

pub response-usual : (p : Fields) (q : QueuePair) → RowDoes Usual (response_row p q)
response-usual p q = by (is_among (states.Rts ∷ states.Sqd ∷ []) q.state)
  where
    psn : ℕ
    psn = response_psn q p

    opcode : (b : Bool) → RowDoes Usual (if b then plain_row (Does (acknowledge_row psn (option_and_then (λ a. syndrome_in a.syndrome) p.aeth) q))
        else fitting_row psn p (acknowledgement_below psn q))
    opcode true = plainly-usual _ (acknowledge-usual psn (option_and_then (λ a. syndrome_in a.syndrome) p.aeth) q)
    opcode false = fitting-usual psn p (acknowledgement_below psn q) (below-usual psn q)

    there : (b : Bool) → RowDoes Usual (if not b then plain_row (Does (drop_effects q drops.Stale)) else outstanding_row psn p q)
    there true = opcode (p.opcode == ACKNOWLEDGE)
    there false = plainly-usual _ (record {}, record {})

    by : (b : Bool) → RowDoes Usual (if not b then plain_row (Does (drop_effects q drops.State))
        else if not (is_outstanding_at psn q) then plain_row (Does (drop_effects q drops.Stale)) else outstanding_row psn p q)
    by true = there (is_outstanding_at psn q)
    by false = plainly-usual _ (record {}, record {})

pub packet-usual : (q : QueuePair) (room : Bool) (n : Numbered) → RowDoes Usual (packet_row q room n)
packet-usual q room n = by (is_too_much q n)
  where
    row : Row
    row = record {
      asks = packet_asks q n;
      invalidation = None;
      denied = λ d.
          if is_outstanding q then NotPossible reasons.Outstanding
          else if not room then NotPossible reasons.NoRoom
          else Does (denied_list_effects q d);
      allowed = λ bytes refusal. if not room then NotPossible reasons.NoRoom else Does (sent_packet q n bytes);
    }

    denied : (d : DeniedAsk) (b z : Bool) → EndingDoes Usual (if b then NotPossible reasons.Outstanding else if not z then NotPossible reasons.NoRoom else Does (denied_list_effects q d))
    denied d true z = record {}
    denied d false true = (record {}, failure-usual LocalProtection None q (record {}))
    denied d false false = record {}

    allowed : (bytes : List (List ℕ)) (z : Bool) → EndingDoes Usual (if not z then NotPossible reasons.NoRoom else Does (sent_packet q n bytes))
    allowed bytes true = reads-usual (packet_asks q n) bytes
    allowed bytes false = record {}

    by : (b : Bool) → RowDoes Usual (if b then plain_row (NotPossible reasons.Outstanding) else row)
    by true = record { denied = λ d. record {}; allowed = λ bytes refusal. record {} }
    by false = record { denied = λ d. denied d (is_outstanding q) room; allowed = λ bytes refusal. allowed bytes room }

pub operation-usual : (q after : QueuePair) (n : Numbered) (m : LocalMarks) (refusal : Option OpRefusal) → Usual (operation_effects q n after m refusal)
operation-usual q after n m (Some cause) = failure-usual MemoryManagement (Some cause) q (record {})
operation-usual q after n m None = usual-append (local_marks q m) _ (usual-append (option_map_or (λ key. marks.Revoked q.queue.adapter key ∷ []) m.revoked []) _ (revoked m.revoked) (granted m.granted)) (success-usual q.queue n.place n.request)
  where
    revoked : (o : Option Key) → AreUsual (option_map_or (λ key. marks.Revoked q.queue.adapter key ∷ []) o [])
    revoked None = record {}
    revoked (Some key) = (record {}, record {})

    granted : (o : Option Grant) → AreUsual (option_map_or (λ g. marks.Granted g ∷ []) o [])
    granted None = record {}
    granted (Some g) = (record {}, record {})

pub timeout-usual : (q : QueuePair) (silent : Bool) → AreUsual (after_timeout silent q).marks
timeout-usual q silent = (record {}, retry-usual q.requester.una (with_requester (record q.requester { timers = suc q.requester.timers }) q))
