-- The effects of rows that tell of no access, no byte and no key: flushes, completions, drops. For proofs only.
use Rattle.std.proofs.Common.{◌≡◌, ℕ, suc, ◌+◌, ◌-◌, nat_le, nat_lt, Bool, true, false, List, [], ◌∷◌, ◌++◌, length, Option, None, Some, ◌&&◌, ◌==◌, if◌then◌else◌, refl}
use Rattle.std.specs.Option.{option_map_or}
use Rattle.ca_base.specs.declared.completion.WcStatus.TheVariants.{RetryExceeded, RnrRetryExceeded}
use Rattle.ca_base.specs.declared.limits.TheConstants.{MAX_RETRY, MAX_DUPLICATES}
use Rattle.ca_base.specs.declared.refusals.OpRefusal.{OpRefusal}
use Rattle.ca_base.specs.objects.Answers.{duplicate_count}
use Rattle.ca_base.specs.objects.QueuePair.{QueuePair}
use Rattle.ca_wire.specs.declared.syndrome.NakCode.{NakCode}
use Rattle.ca_wire.specs.declared.syndrome.NakCode.TheVariants.{PsnSequenceError, InvalidRequest, RemoteAccessError, RemoteOperationalError}
use Rattle.ca_wire.specs.Packet.{Fields}
use Rattle.ca_wire.specs.declared.syndrome.Syndrome.{Syndrome}
use Rattle.ca_wire.specs.declared.syndrome.Syndrome.TheVariants.{Ack, Nak, RnrNak}
use Rattle.ca_wire.specs.Syndrome.{nak_code}
use Rattle.ca_model.specs.declared.mark.Drop1.{Drop1}
use Rattle.ca_model.specs.declared.mark.Drop1.TheVariants as drops
use Rattle.ca_model.specs.machine.Acknowledgements.{Acknowledgement, acknowledgement_below, and_then, failure_effects, first_unanswered, one_retry, progress_to, with_cursor, with_requester, with_una, finished_requests, without_oldest}
use Rattle.ca_model.specs.machine.Numbering.{Numbered, begun_requests}
use Rattle.ca_model.specs.machine.Responses.{acknowledge_row, drop_effects, nak_effects, rnr_nak_effects, unless_back}
use Rattle.ca_model.specs.machine.Row.{Effects, queue_and_marks}
use Rattle.ca_base.specs.declared.queue_numbers.Queued.TheVariants as queued
use Rattle.ca_base.specs.objects.Saved.{saved_at}
use Rattle.ca_base.specs.declared.request.PlacedReceive.{PlacedReceive}
use Rattle.ca_wire.specs.declared.reth.Reth.{Reth}
use Rattle.ca_model.specs.Requests.{segments}
use Rattle.ca_model.specs.machine.Arrivals.{refusal_effects, with_answer, with_flag, with_message}
use Rattle.ca_model.specs.machine.Duplicates.{ack_again, ahead_effects, answer_again, atomic_again, duplicate_effects, read_again}
use Rattle.ca_model.specs.machine.Expected.{receive_failure_effects, with_shared_receive}
use Rattle.ca_wire.specs.declared.shape.Shape.{Shape}
use Rattle.ca_wire.specs.declared.shape.Shape.TheVariants as shapes
use Rattle.ca_base.specs.declared.queue_numbers.Message.{Message}
use Rattle.ca_base.specs.declared.queue_numbers.Message.TheVariants as messages
use Rattle.std.specs.List.{flat_map}
use Rattle.ca_base.specs.declared.completion.WcStatus.{WcStatus}
use Rattle.ca_base.specs.declared.request.PostedSend.{PostedSend}
use Rattle.ca_base.specs.declared.request.RecvRequest.{RecvRequest}
use Rattle.ca_base.specs.declared.request.SendRequest.{SendRequest}
use Rattle.ca_base.specs.objects.WorkQueue.{WorkQueue, items_from}
use Rattle.ca_keys.specs.declared.names.QueueId.{QueueId}
use Rattle.ca_model.specs.declared.mark.Mark.{Mark}
use Rattle.ca_model.specs.declared.mark.Mark.TheVariants as marks
use Rattle.ca_model.specs.machine.Completions.{failure_mark, flush_marks, flushed_message, flushed_receives, flushed_sends, success_marks}
use Rattle.ca_model.specs.machine.Timers.{after_timeout}

-- a mark that tells of no access, of no byte and of no key, and answers no verb
abbrev pub IsPlainMark : Mark → Type 0
IsPlainMark (marks.Verb by verb answer) = ⊥
IsPlainMark (marks.Granted g) = ⊥
IsPlainMark (marks.Revoked adapter key) = ⊥
IsPlainMark (marks.Stored place bytes) = ⊥
IsPlainMark (marks.Remote queue domain envelope key kind address count verdict) = ⊥
IsPlainMark (marks.Local queue domain key kind address count verdict) = ⊥
IsPlainMark m = Unit {0}

abbrev pub ArePlainMarks : List Mark → Type 0
ArePlainMarks [] = Unit {0}
ArePlainMarks (m ∷ ms) = IsPlainMark m × ArePlainMarks ms

-- effects with such marks, which write nothing
pub record IsPlainEffects (e : Effects) : Type 0 where
  pub writes : e.writes ≡ []
  pub marks : ArePlainMarks e.marks

pub plain-append : (ms ns : List Mark) → ArePlainMarks ms → ArePlainMarks ns → ArePlainMarks (ms ++ ns)
plain-append [] ns one other = other
plain-append (m ∷ ms) ns one other = (one.0, plain-append ms ns one.1 other)

pub plain-then : (e : Effects) (f : QueuePair → Effects) → IsPlainEffects e → IsPlainEffects (f e.queue) → IsPlainEffects (and_then e f)
plain-then e f one other = record { writes = other.writes; marks = plain-append e.marks (f e.queue).marks one.marks other.marks }

pub sends-plain : (queue : QueueId) (place : ℕ) (ps : List PostedSend) → ArePlainMarks (flushed_sends queue place ps)
sends-plain queue place [] = record {}
sends-plain queue place (p ∷ ps) = (record {}, sends-plain queue (suc place) ps)

pub receives-plain : (queue : QueueId) (place : ℕ) (rs : List RecvRequest) → ArePlainMarks (flushed_receives queue place rs)
receives-plain queue place [] = record {}
receives-plain queue place (r ∷ rs) = (record {}, receives-plain queue (suc place) rs)

pub flush-plain : (q : QueuePair) → ArePlainMarks (flush_marks q)
flush-plain q =
    plain-append (flushed_sends q.queue q.requester.oldest (items_from q.requester.oldest q.sends) ++ flushed_message q.queue q.responder.message) _
    (plain-append (flushed_sends q.queue q.requester.oldest (items_from q.requester.oldest q.sends)) (flushed_message q.queue q.responder.message)
    (sends-plain q.queue q.requester.oldest (items_from q.requester.oldest q.sends)) (message q.responder.message)) (own q.receives)
  where
    message : (m : Option Message) → ArePlainMarks (flushed_message q.queue m)
    message None = record {}
    message (Some (messages.Write key address left count)) = record {}
    message (Some (messages.Send place receive bytes)) = (record {}, record {})

    own : (o : Option (WorkQueue RecvRequest)) → ArePlainMarks (option_map_or (λ r. flushed_receives q.queue r.next_taken (items_from r.next_taken r)) o [])
    own None = record {}
    own (Some r) = receives-plain q.queue r.next_taken (items_from r.next_taken r)

pub failure-plain : (status : WcStatus) (cause : Option OpRefusal) (q : QueuePair) → IsPlainEffects (failure_effects status cause q)
failure-plain status cause q = record { writes = refl; marks = by (items_from q.requester.oldest q.sends) }
  where
    told : List PostedSend → List Mark
    told [] = flush_marks q
    told (p ∷ ps) = failure_mark q.queue q.requester.oldest p.request status cause ∷ flush_marks (without_oldest q)

    by : (ps : List PostedSend) → ArePlainMarks (told ps)
    by [] = flush-plain q
    by (p ∷ ps) = (record {}, flush-plain (without_oldest q))

pub success-plain : (queue : QueueId) (place : ℕ) (request : SendRequest) → ArePlainMarks (success_marks queue place request)
success-plain queue place request = by request.signalled
  where
    by : (b : Bool) → ArePlainMarks (if b then success_marks queue place (record request { signalled = true }) else [])
    by true = (record {}, record {})
    by false = record {}

pub finished-plain : (queue : QueueId) (ns : List Numbered) → ArePlainMarks (flat_map (λ n. success_marks queue n.place n.request) ns)
finished-plain queue [] = record {}
finished-plain queue (n ∷ ns) = plain-append (success_marks queue n.place n.request) _ (success-plain queue n.place n.request) (finished-plain queue ns)

pub progress-plain : (psn : ℕ) (q : QueuePair) → IsPlainEffects (progress_to psn q)
progress-plain psn q = record { writes = refl; marks = finished-plain (with_una psn q).queue (finished_requests (with_una psn q)) }

pub retry-plain : (psn : ℕ) (q : QueuePair) → IsPlainEffects (one_retry psn q)
retry-plain psn q = by (nat_le q.requester.retry q.requester.retries)
  where
    counted : QueuePair
    counted = with_requester (record q.requester { retries = suc q.requester.retries }) q

    by : (b : Bool) → IsPlainEffects (if b then failure_effects RetryExceeded None counted else queue_and_marks (with_cursor psn counted) [])
    by true = failure-plain RetryExceeded None counted
    by false = record { writes = refl; marks = record {} }

pub below-plain : (psn : ℕ) (q : QueuePair) → IsPlainEffects (acknowledgement_below psn q).effects
below-plain psn q = by (first_unanswered q.requester.una psn (begun_requests q))
  where
    after : Option ℕ → Acknowledgement
    after None = record { effects = progress_to psn q; went_back = false }
    after (Some back) = record { effects = and_then (progress_to back q) (one_retry back); went_back = true }

    by : (back : Option ℕ) → IsPlainEffects (after back).effects
    by None = progress-plain psn q
    by (Some back) = plain-then (progress_to back q) (one_retry back) (progress-plain back q) (retry-plain back (progress_to back q).queue)

pub back-plain : (q : QueuePair) (a : Acknowledgement) (f : QueuePair → Effects) → IsPlainEffects a.effects → IsPlainEffects (f a.effects.queue) → IsPlainEffects (unless_back a f)
back-plain q a f one other = by a.went_back
  where
    by : (b : Bool) → IsPlainEffects (if b then a.effects else and_then a.effects f)
    by true = one
    by false = plain-then a.effects f one other

pub rnr-plain : (psn : ℕ) (q : QueuePair) → IsPlainEffects (rnr_nak_effects psn q)
rnr-plain psn q = by (nat_lt q.requester.rnr_retry MAX_RETRY && nat_le q.requester.rnr_retry q.requester.rnrs)
  where
    counted : QueuePair
    counted = with_requester (record q.requester { rnrs = suc q.requester.rnrs }) q

    by : (b : Bool) → IsPlainEffects (if b then failure_effects RnrRetryExceeded None counted
        else queue_and_marks (with_requester (record counted.requester { cursor = psn; waiting = true }) q) [])
    by true = failure-plain RnrRetryExceeded None counted
    by false = record { writes = refl; marks = record {} }

pub nak-plain : (psn : ℕ) (code : NakCode) (q : QueuePair) → IsPlainEffects (nak_effects psn code q)
nak-plain psn PsnSequenceError q = retry-plain psn q
nak-plain psn InvalidRequest q = failure-plain _ None q
nak-plain psn RemoteAccessError q = failure-plain _ None q
nak-plain psn RemoteOperationalError q = failure-plain _ None q

pub drop-plain : (q : QueuePair) (cause : Drop1) → IsPlainEffects (drop_effects q cause)
drop-plain q cause = record { writes = refl; marks = (record {}, record {}) }

pub acknowledge-plain : (psn : ℕ) (syndrome : Option Syndrome) (q : QueuePair) → IsPlainEffects (acknowledge_row psn syndrome q)
acknowledge-plain psn (Some (Ack credits)) q = below-plain (suc psn) q
acknowledge-plain psn (Some (RnrNak timer)) q =
    back-plain q (acknowledgement_below psn q) (rnr_nak_effects psn) (below-plain psn q) (rnr-plain psn (acknowledgement_below psn q).effects.queue)
acknowledge-plain psn (Some (Nak code)) q =
    back-plain q (acknowledgement_below psn q) (nak_effects psn code) (below-plain psn q) (nak-plain psn code (acknowledgement_below psn q).effects.queue)
acknowledge-plain psn None q = drop-plain q drops.Stale

-- a timer fires
pub timeout-plain : (q : QueuePair) (silent : Bool) → IsPlainEffects (after_timeout silent q)
timeout-plain q silent = record { writes = (retry-plain q.requester.una counted).writes; marks = (record {}, (retry-plain q.requester.una counted).marks) }
  where
    counted : QueuePair
    counted = with_requester (record q.requester { timers = suc q.requester.timers }) q

-- a NAK is queued, and the queue pair moves to Error
pub refusal-plain : (code : NakCode) (q : QueuePair) → IsPlainEffects (refusal_effects code q)
refusal-plain code q = record { writes = refl; marks = flush-plain q }

-- the receive fails, and the packet is refused
pub receive-plain : (q : QueuePair) (r : PlacedReceive) (status : WcStatus) (cause : Option OpRefusal) (code : NakCode) → IsPlainEffects (receive_failure_effects q r status cause code)
receive-plain q r status cause code = record { writes = refl; marks = (record {}, flush-plain (with_message None q)) }

pub took-plain : (p : QueuePair) (b : Bool) (e : Effects) → IsPlainEffects e → IsPlainEffects (if b then with_shared_receive p e else e)
took-plain p true e inner = record { writes = inner.writes; marks = inner.marks }
took-plain p false e inner = inner

pub ahead-plain : (q : QueuePair) → IsPlainEffects (ahead_effects q)
ahead-plain q = by q.responder.nak_sent
  where
    by : (b : Bool) → IsPlainEffects (if b then drop_effects q drops.Stale
        else queue_and_marks (with_flag true (with_answer (queued.Nak q.responder.expected (nak_code PsnSequenceError)) q)) [])
    by true = drop-plain q drops.Stale
    by false = record { writes = refl; marks = record {} }

pub duplicate-plain : (psn : ℕ) (p : Fields) (envelope : Option ℕ) (shape : Shape) (q : QueuePair) → IsPlainEffects (duplicate_effects psn p envelope shape q)
duplicate-plain psn p envelope shape q = at (nat_le MAX_DUPLICATES (duplicate_count q.responder.answers))
  where
    acks : (b : Bool) → IsPlainEffects (if b then queue_and_marks (with_answer (queued.Ack (q.responder.expected - 1)) q) [] else drop_effects q drops.Unsaved)
    acks true = record { writes = refl; marks = record {} }
    acks false = drop-plain q drops.Unsaved

    within : (h : Reth) (b : Bool) → IsPlainEffects (if b then answer_again psn (queued.Read psn h.key h.address h.length true envelope true) q else drop_effects q drops.Unsaved)
    within h true = record { writes = refl; marks = record {} }
    within h false = drop-plain q drops.Unsaved

    reads : (o : Option Reth) → IsPlainEffects (option_map_or (λ h. read_again psn envelope h q) o (drop_effects q drops.Unsaved))
    reads None = drop-plain q drops.Unsaved
    reads (Some h) = within h (nat_le (psn + segments q.responder.mtu h.length) q.responder.expected)

    atomics : (o : Option ℕ) → IsPlainEffects (atomic_again psn o q)
    atomics None = drop-plain q drops.Unsaved
    atomics (Some found) = record { writes = refl; marks = record {} }

    effects : Shape → Effects
    effects (shapes.Send place) = ack_again q
    effects (shapes.Write place) = ack_again q
    effects shapes.Read = option_map_or (λ h. read_again psn envelope h q) p.reth (drop_effects q drops.Unsaved)
    effects (shapes.Atomic kind) = atomic_again psn (saved_at psn q.saved) q

    by : (shape : Shape) → IsPlainEffects (effects shape)
    by (shapes.Send place) = acks (length q.responder.answers == 0)
    by (shapes.Write place) = acks (length q.responder.answers == 0)
    by shapes.Read = reads p.reth
    by (shapes.Atomic kind) = atomics (saved_at psn q.saved)

    at : (b : Bool) → IsPlainEffects (if b then drop_effects q drops.Unsaved else effects shape)
    at true = drop-plain q drops.Unsaved
    at false = by shape
