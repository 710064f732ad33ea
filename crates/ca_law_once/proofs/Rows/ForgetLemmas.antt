-- What the requester's rows leave of the responder: all of it, or its response queue is emptied.
use Rattle.std.proofs.Common.{◌≡◌, inl, inr, ℕ, suc, ◌==◌, ◌&&◌, Bool, true, false, nat_le, nat_lt, not, if◌then◌else◌, [], map, Option, None, Some, refl, ap, sym, subst, ◌∙◌, true≢false}
use Rattle.ca_base.specs.declared.change.State.TheVariants as states
use Rattle.ca_base.specs.declared.completion.WcStatus.{WcStatus}
use Rattle.ca_base.specs.declared.completion.WcStatus.TheVariants.{BadResponse, LocalProtection, RemoteAccess, RemoteInvalidRequest, RemoteOperation, RetryExceeded, RnrRetryExceeded}
use Rattle.ca_base.specs.declared.limits.TheConstants.{MAX_RETRY}
use Rattle.ca_base.specs.declared.refusals.OpRefusal.{OpRefusal}
use Rattle.ca_base.specs.declared.step.Reason.TheVariants as reasons
use Rattle.ca_base.specs.objects.QueuePair.{QueuePair}
use Rattle.ca_base.specs.declared.queue_numbers.ResponderNumbers.{ResponderNumbers}
use Rattle.ca_connection.specs.Layout.{Direction}
use Rattle.ca_connection.specs.Moves.{Keeps}
use Rattle.ca_model.specs.declared.mark.Drop1.{Drop1}
use Rattle.ca_model.specs.declared.mark.Drop1.TheVariants as drops
use Rattle.ca_model.specs.machine.Acknowledgements.{Acknowledgement, acknowledgement_below, and_then, failure_effects, first_unanswered, one_retry, progress_to, with_cursor, with_requester, with_una}
use Rattle.ca_model.specs.machine.Numbering.{Numbered, begun_requests, request_at}
use Rattle.ca_model.specs.machine.Requester.{denied_list_effects, is_outstanding, is_too_much, packet_row, sent_packet}
use Rattle.ca_model.specs.machine.Responses.{acknowledge_row, answer_row, drop_effects, fits_request, fitting_row, is_outstanding_at, nak_effects, response_psn, response_row, rnr_nak_effects, unless_back}
use Rattle.ca_model.specs.machine.Row.{Does, Effects, Ending, NotPossible, Row, plain_row, queue_and_marks}
use Rattle.ca_model.specs.machine.Timers.{after_timeout, after_wake}
use Rattle.ca_model.specs.machine.Invariants.{is_sending}
use Rattle.ca_wire.specs.Packet.{Fields}
use Rattle.ca_wire.specs.declared.opcode.TheConstants.{ACKNOWLEDGE}
use Rattle.ca_law_once.proofs.Rows.KeepLemmas.{keeps-all, keeps-nothing}
use Rattle.ca_law_once.proofs.Rows.RequestRowLemmas.{cond-row, plain}
use Rattle.ca_law_once.specs.Entries.{syndrome_of}
use Rattle.ca_law_once.specs.Moves.{EndingLeads, ForgetsIn, LeavesState, RowLeads}
use Rattle.ca_law_once.specs.Sides.{kept_result, responder_in, said}
use Rattle.ca_wire.specs.declared.syndrome.NakCode.{NakCode}
use Rattle.ca_wire.specs.declared.syndrome.NakCode.TheVariants as codes
use Rattle.ca_wire.specs.declared.syndrome.Syndrome.{Syndrome}
use Rattle.ca_wire.specs.declared.syndrome.Syndrome.TheVariants as syndromes

-- the responder and the saved results are the same
pub record IsSameResponder (q p : QueuePair) : Type 0 where
  pub responder : p.responder ≡ q.responder
  pub saved : p.saved ≡ q.saved
  pub state : p.state ≡ q.state

-- or the response queue is empty, and all that is asked of the rest is the same
pub data Forgets (q p : QueuePair) : Type 0 where
  stays : IsSameResponder q p → Forgets q p
  emptied : p.responder.expected ≡ q.responder.expected → p.responder.answers ≡ [] → p.responder.mtu ≡ q.responder.mtu → p.saved ≡ q.saved → p.state ≡ states.Error → Forgets q p

same : (q : QueuePair) → IsSameResponder q q
same q = record { responder = refl; saved = refl; state = refl }

pub failure-forgets : (q p : QueuePair) (status : WcStatus) (cause : Option OpRefusal) → IsSameResponder q p → Forgets q (failure_effects status cause p).queue
failure-forgets q p status cause s = emptied (ap (λ r. r.expected) s.responder) refl (ap (λ r. r.mtu) s.responder) s.saved refl

pub forgets-in : (d : Direction) (q : QueuePair) (e : Effects) → q.responder.mtu ≡ d.mtu → Forgets q e.queue → ForgetsIn d (responder_in q) e
forgets-in d q e mtu (stays s) = record {
  expected = ap (λ r. r.expected) s.responder;
  queue = subst (λ (r : ResponderNumbers). Keeps (map said q.responder.answers) (map said r.answers)) (sym s.responder) (keeps-all (map said q.responder.answers));
  results = ap (map kept_result) s.saved;
  mtu = ap (λ r. r.mtu) s.responder ∙ mtu;
}
forgets-in d q e mtu (emptied expected answers width saved error) = record {
  expected = expected;
  queue = subst (λ xs. Keeps (map said q.responder.answers) (map said xs)) (sym answers) (keeps-nothing (map said q.responder.answers));
  results = ap (map kept_result) saved;
  mtu = width ∙ mtu;
}

una-same : (psn : ℕ) (q : QueuePair) → IsSameResponder q (with_una psn q)
una-same psn q = by (nat_lt q.requester.una psn)
  where
    by : (b : Bool) → IsSameResponder q (if b then with_requester (record q.requester { una = psn; retries = 0; rnrs = 0 }) q else q)
    by true = record { responder = refl; saved = refl; state = refl }
    by false = record { responder = refl; saved = refl; state = refl }

progress-same : (psn : ℕ) (q p : QueuePair) → IsSameResponder q p → IsSameResponder q (progress_to psn p).queue
progress-same psn q p s = record {
  responder = (una-same psn p).responder ∙ s.responder;
  saved = (una-same psn p).saved ∙ s.saved;
  state = (una-same psn p).state ∙ s.state;
}

retry-forgets : (psn : ℕ) (q p : QueuePair) → IsSameResponder q p → Forgets q (one_retry psn p).queue
retry-forgets psn q p s = by (nat_le p.requester.retry p.requester.retries)
  where
    counted : QueuePair
    counted = with_requester (record p.requester { retries = suc p.requester.retries }) p

    by : (b : Bool) → Forgets q (if b then failure_effects RetryExceeded None counted else queue_and_marks (with_cursor psn counted) []).queue
    by true = failure-forgets q counted RetryExceeded None (record { responder = s.responder; saved = s.saved; state = s.state })
    by false = stays (record { responder = s.responder; saved = s.saved; state = s.state })

record AckForgets (q : QueuePair) (a : Acknowledgement) : Type 0 where
  forgets : Forgets q a.effects.queue
  same : a.went_back ≡ false → IsSameResponder q a.effects.queue

ack-forgets : (psn : ℕ) (q : QueuePair) → AckForgets q (acknowledgement_below psn q)
ack-forgets psn q = by (first_unanswered q.requester.una psn (begun_requests q))
  where
    after : Option ℕ → Acknowledgement
    after None = record { effects = progress_to psn q; went_back = false }
    after (Some back) = record { effects = and_then (progress_to back q) (one_retry back); went_back = true }

    by : (back : Option ℕ) → AckForgets q (after back)
    by None = record { forgets = stays (progress-same psn q q (same q)); same = λ e. progress-same psn q q (same q) }
    by (Some back) = record { forgets = retry-forgets back q (progress_to back q).queue (progress-same back q q (same q)); same = λ e. absurd (true≢false e) }

unless-forgets : (q : QueuePair) (a : Acknowledgement) (f : QueuePair → Effects) → AckForgets q a → ((p : QueuePair) → IsSameResponder q p → Forgets q (f p).queue) → Forgets q (unless_back a f).queue
unless-forgets q a f after more = by a.went_back refl
  where
    by : (b : Bool) → a.went_back ≡ b → Forgets q (if b then a.effects else and_then a.effects f).queue
    by true e = after.forgets
    by false e = more a.effects.queue (after.same e)

rnr-forgets : (w : ℕ) (q p : QueuePair) → IsSameResponder q p → Forgets q (rnr_nak_effects w p).queue
rnr-forgets w q p s = by (nat_lt p.requester.rnr_retry MAX_RETRY && nat_le p.requester.rnr_retry p.requester.rnrs)
  where
    counted : QueuePair
    counted = with_requester (record p.requester { rnrs = suc p.requester.rnrs }) p

    by : (b : Bool) → Forgets q (if b then failure_effects RnrRetryExceeded None counted
        else queue_and_marks (with_requester (record counted.requester { cursor = w; waiting = true }) p) []).queue
    by true = failure-forgets q counted RnrRetryExceeded None (record { responder = s.responder; saved = s.saved; state = s.state })
    by false = stays (record { responder = s.responder; saved = s.saved; state = s.state })

nak-forgets : (w : ℕ) (code : NakCode) (q p : QueuePair) → IsSameResponder q p → Forgets q (nak_effects w code p).queue
nak-forgets w codes.PsnSequenceError q p s = retry-forgets w q p s
nak-forgets w codes.InvalidRequest q p s = failure-forgets q p RemoteInvalidRequest None s
nak-forgets w codes.RemoteAccessError q p s = failure-forgets q p RemoteAccess None s
nak-forgets w codes.RemoteOperationalError q p s = failure-forgets q p RemoteOperation None s

acknowledge-forgets : (w : ℕ) (syndrome : Option Syndrome) (q : QueuePair) → Forgets q (acknowledge_row w syndrome q).queue
acknowledge-forgets w (Some (syndromes.Ack credits)) q = (ack-forgets (suc w) q).forgets
acknowledge-forgets w (Some (syndromes.RnrNak timer)) q = unless-forgets q (acknowledgement_below w q) (rnr_nak_effects w) (ack-forgets w q) (λ p s. rnr-forgets w q p s)
acknowledge-forgets w (Some (syndromes.Nak code)) q = unless-forgets q (acknowledgement_below w q) (nak_effects w code) (ack-forgets w q) (λ p s. nak-forgets w code q p s)
acknowledge-forgets w None q = stays (same q)

answer-forgets : (w : ℕ) (p : Fields) (q : QueuePair) (before : Effects) (n : Numbered) → IsSameResponder q before.queue → RowLeads (λ e. Forgets q e.queue) (answer_row w p before n)
answer-forgets w p q before n s = record {
  denied = λ b. failure-forgets q before.queue LocalProtection None s;
  allowed = λ bytes refusal. stays (progress-same (suc w) q before.queue s);
}

fitting-forgets : (w : ℕ) (p : Fields) (q : QueuePair) (a : Acknowledgement) → AckForgets q a → RowLeads (λ e. Forgets q e.queue) (fitting_row w p a)
fitting-forgets w p q a after = by a.went_back refl
  where
    bad : Row
    bad = plain_row (Does (and_then a.effects (failure_effects BadResponse None)))

    is_bad : a.went_back ≡ false → RowLeads (λ e. Forgets q e.queue) bad
    is_bad e = plain (λ e. Forgets q e.queue) _ (failure-forgets q a.effects.queue BadResponse None (after.same e))

    row : Option Numbered → Row
    row None = bad
    row (Some n) = if fits_request w p a.effects.queue n then answer_row w p a.effects n else bad

    at : (n : Option Numbered) → a.went_back ≡ false → RowLeads (λ e. Forgets q e.queue) (row n)
    at None e = is_bad e
    at (Some n) e = cond-row (λ e. Forgets q e.queue) (fits_request w p a.effects.queue n) _ _ (answer-forgets w p q a.effects n (after.same e)) (is_bad e)

    by : (b : Bool) → a.went_back ≡ b → RowLeads (λ e. Forgets q e.queue) (if b then plain_row (Does a.effects) else row (request_at w a.effects.queue))
    by true e = plain (λ e. Forgets q e.queue) a.effects after.forgets
    by false e = at (request_at w a.effects.queue) e

pub drop-forgets : (q : QueuePair) (cause : Drop1) → RowLeads (λ e. Forgets q e.queue) (plain_row (Does (drop_effects q cause)))
drop-forgets q cause = plain (λ e. Forgets q e.queue) (drop_effects q cause) (stays (same q))

pub response-forgets : (p : Fields) (q : QueuePair) → RowLeads (λ e. Forgets q e.queue) (response_row p q)
response-forgets p q = cond-row (λ e. Forgets q e.queue) (not (is_sending q.state)) _ _ (drop-forgets q drops.State)
    (cond-row (λ e. Forgets q e.queue) (not (is_outstanding_at w q)) _ _ (drop-forgets q drops.Stale)
    (cond-row (λ e. Forgets q e.queue) (p.opcode == ACKNOWLEDGE) _ _ (plain (λ e. Forgets q e.queue) _ (acknowledge-forgets w (syndrome_of p) q))
    (fitting-forgets w p q (acknowledgement_below w q) (ack-forgets w q))))
  where
    w : ℕ
    w = response_psn q p

pub cond-ending : (P : Effects → Type 0) (b : Bool) (x y : Ending) → EndingLeads P x → EndingLeads P y → EndingLeads P (if b then x else y)
cond-ending P true x y one other = one
cond-ending P false x y one other = other

-- a turn that sends a request, or fails
pub packet-forgets : (q : QueuePair) (room : Bool) (n : Numbered) → RowLeads (λ e. Forgets q e.queue) (packet_row q room n)
packet-forgets q room n = cond-row P (is_too_much q n) _ _ (record { denied = λ d. record {}; allowed = λ bytes refusal. record {} }) (record {
  denied = λ d. cond-ending P (is_outstanding q) (NotPossible reasons.Outstanding) _ (record {}) (cond-ending P (not room) (NotPossible reasons.NoRoom) (Does (denied_list_effects q d)) (record {}) (failure-forgets q q LocalProtection None (same q)));
  allowed = λ bytes refusal. cond-ending P (not room) (NotPossible reasons.NoRoom) (Does (sent_packet q n bytes)) (record {}) (stays (record { responder = refl; saved = refl; state = refl }));
})
  where
    P : Effects → Type 0
    P e = Forgets q e.queue

pub timeout-forgets : (silent : Bool) (q : QueuePair) → Forgets q (after_timeout silent q).queue
timeout-forgets silent q = retry-forgets q.requester.una q (with_requester (record q.requester { timers = suc q.requester.timers }) q) (record { responder = refl; saved = refl; state = refl })

pub wake-forgets : (q : QueuePair) → Forgets q (after_wake q).queue
wake-forgets q = stays (record { responder = refl; saved = refl; state = refl })

pub forgets-state : (q : QueuePair) (e : Effects) → Forgets q e.queue → LeavesState q e
forgets-state q e (stays s) = (inl s.state, ap (λ r. r.mtu) s.responder)
forgets-state q e (emptied expected answers mtu saved state) = (inr state, mtu)
