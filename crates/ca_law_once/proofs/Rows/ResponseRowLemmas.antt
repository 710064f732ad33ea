-- The rows of the requester: what each makes of a response, a link's requester may make of it.
use Rattle.std.proofs.Common.{◌≡◌, ℕ, suc, ◌+◌, ◌≤◌, ◌<◌, ◌==◌, ◌&&◌, Bool, true, false, nat_le, nat_lt, not, if◌then◌else◌, List, [], ◌∷◌, length, Option, None, Some, IfSome, refl, ap, sym, subst, ◌∙◌, arith, true≢false}
use Rattle.std.proofs.lemmas.Bool.{and_parts, eqb-true, leb-true, ltb-false, ltb-true}
use Rattle.std.specs.List.{find}
use Rattle.ca_base.specs.declared.completion.WcStatus.{WcStatus}
use Rattle.ca_base.specs.declared.completion.WcStatus.TheVariants.{BadResponse, LocalProtection, RemoteAccess, RemoteInvalidRequest, RemoteOperation, RetryExceeded, RnrRetryExceeded}
use Rattle.ca_base.specs.declared.limits.TheConstants.{MAX_RETRY}
use Rattle.ca_base.specs.declared.refusals.OpRefusal.{OpRefusal}
use Rattle.ca_base.specs.objects.QueuePair.{QueuePair}
use Rattle.ca_connection.specs.Acknowledge.{PassesNone}
use Rattle.ca_connection.specs.Layout.{Direction, HasNumber, is_atomic, is_read}
use Rattle.ca_connection.specs.Link.{AtomicCompletion, Requester, Response, gain}
use Rattle.ca_connection.specs.Link.Response.{Ack, Nak, Data, Found}
use Rattle.ca_connection.specs.Moves.{Takes}
use Rattle.ca_connection.specs.Moves.Takes.{drop as response_drop, acknowledge, read as response_read, atomic as response_atomic}
use Rattle.ca_law_world.proofs.Sound.NumberingLemmas.{all-found}
use Rattle.ca_model.specs.Packets.{answers_read}
use Rattle.ca_model.specs.declared.mark.Drop1.{Drop1}
use Rattle.ca_model.specs.declared.mark.Drop1.TheVariants as drops
use Rattle.ca_model.specs.machine.Acknowledgements.{Acknowledgement, acknowledgement_below, and_then, failure_effects, first_unanswered, one_retry, progress_to, with_cursor, with_requester, with_una}
use Rattle.ca_model.specs.machine.Invariants.{IsQueue, is_sending}
use Rattle.ca_model.specs.machine.Numbering.{Numbered, begun_requests, has_psn, is_atomic_op, is_read as is_read_op, psn_end, request_at}
use Rattle.ca_model.specs.machine.Responses.{acknowledge_row, answer_row, drop_effects, ends_read, fits_request, fitting_row, is_outstanding_at, nak_effects, outstanding_row, response_psn, response_row, rnr_nak_effects, segment_length, unless_back}
use Rattle.ca_model.specs.machine.Row.{Does, Effects, Row, plain_row, queue_and_marks}
use Rattle.ca_wire.specs.Packet.{Fields}
use Rattle.ca_wire.specs.Table.{row_of}
use Rattle.ca_wire.specs.declared.opcode.TheConstants.{ACKNOWLEDGE, ATOMIC_ACKNOWLEDGE}
use Rattle.ca_law_once.proofs.Rows.LayLemmas.{LiesAt, all-lie, atomic-of-work, begun-lie, laid-finished, laid-una, read-of-work}
use Rattle.ca_law_once.proofs.Rows.RequestRowLemmas.{plain}
use Rattle.ca_law_once.proofs.Rows.WalkLemmas.{Stops, acknowledgement-stops}
use Rattle.ca_law_once.specs.Entries.{ResponseEntry, Says, Tells, syndrome_of}
use Rattle.ca_law_once.specs.Moves.{RowLeads, TakesIn}
use Rattle.ca_law_once.specs.Sides.{IsLaid, requester_in}
use Rattle.ca_wire.specs.declared.syndrome.NakCode.{NakCode}
use Rattle.ca_wire.specs.declared.syndrome.NakCode.TheVariants as codes
use Rattle.ca_wire.specs.declared.syndrome.Syndrome.{Syndrome}
use Rattle.ca_wire.specs.declared.syndrome.Syndrome.TheVariants as syndromes

-- From one queue pair to another `una` went on, to the limit at most and past no number of a READ or an atomic; the cursor
-- may have gone back; and requests lie as before while they are sent.
pub record Acknowledged (d : Direction) (limit : ℕ) (r : Requester) (p : QueuePair) : Type 0 where
  pub una : r.una ≤ p.requester.una
  pub within : p.requester.una ≤ limit
  pub passes : PassesNone d r.una p.requester.una
  pub low : p.requester.una ≤ p.requester.cursor
  pub high : p.requester.cursor ≤ r.cursor
  pub laid : is_sending p.state ≡ true → IsLaid d p

-- an acknowledgement takes no more
acknowledges : (d : Direction) (a : Response) (w limit : ℕ) (r : Requester) (e : Effects) → limit ≤ w + gain a → Acknowledged d limit r e.queue → TakesIn d a w r e
acknowledges d a w limit r e far does = record {
  completion = None;
  takes = acknowledge e.queue.requester.una e.queue.requester.cursor does.una (omega (arith, does.within, far)) does.passes does.low does.high;
  laid = does.laid;
}

-- what comes after may go back, and leaves `una`
acknowledged-then : (d : Direction) (limit : ℕ) (r : Requester) (p t : QueuePair) → Acknowledged d limit r p → t.requester.una ≡ p.requester.una
    → p.requester.una ≤ t.requester.cursor → t.requester.cursor ≤ p.requester.cursor → (is_sending t.state ≡ true → IsLaid d t) → Acknowledged d limit r t
acknowledged-then d limit r p t does una low high laid = record {
  una = omega (arith, does.una, una);
  within = omega (arith, does.within, una);
  passes = subst (λ n. PassesNone d r.una n) (sym una) does.passes;
  low = omega (arith, low, una);
  high = omega (arith, high, does.high);
  laid = laid;
}

-- in Error nothing is laid
failure-acknowledges : (d : Direction) (limit : ℕ) (r : Requester) (p : QueuePair) (status : WcStatus) (cause : Option OpRefusal) → Acknowledged d limit r p
    → Acknowledged d limit r (failure_effects status cause p).queue
failure-acknowledges d limit r p status cause does = acknowledged-then d limit r p _ does refl does.low (omega arith) (λ e. absurd (true≢false (sym e)))

-- one retry goes back, or fails
retry-acknowledges : (d : Direction) (limit psn : ℕ) (r : Requester) (p : QueuePair) → Acknowledged d limit r p → p.requester.una ≤ psn → psn ≤ p.requester.cursor
    → Acknowledged d limit r (one_retry psn p).queue
retry-acknowledges d limit psn r p does low high = by (nat_le p.requester.retry p.requester.retries)
  where
    counted : QueuePair
    counted = with_requester (record p.requester { retries = suc p.requester.retries }) p

    by : (b : Bool) → Acknowledged d limit r (if b then failure_effects RetryExceeded None counted else queue_and_marks (with_cursor psn counted) []).queue
    by true = acknowledged-then d limit r p _ does refl does.low (omega arith) (λ e. absurd (true≢false (sym e)))
    by false = acknowledged-then d limit r p (with_cursor psn counted) does refl low high (λ e. let laid = does.laid e in record { mtu = laid.mtu; begin = laid.begin; work = laid.work; passed = laid.passed })

-- ---- progress

una-after : (psn : ℕ) (q : QueuePair) → q.requester.una ≤ psn → (with_una psn q).requester.una ≡ psn
una-after psn q low = by (nat_lt q.requester.una psn) refl
  where
    by : (b : Bool) → nat_lt q.requester.una psn ≡ b → (if b then with_requester (record q.requester { una = psn; retries = 0; rnrs = 0 }) q else q).requester.una ≡ psn
    by true e = refl
    by false e = omega (arith, low, ltb-false q.requester.una psn e)

record IsKept (q p : QueuePair) : Type 0 where
  cursor : p.requester.cursor ≡ q.requester.cursor
  state : p.state ≡ q.state
  sends : p.sends ≡ q.sends
  oldest : p.requester.oldest ≡ q.requester.oldest

una-keeps : (psn : ℕ) (q : QueuePair) → IsKept q (with_una psn q)
una-keeps psn q = by (nat_lt q.requester.una psn)
  where
    by : (b : Bool) → IsKept q (if b then with_requester (record q.requester { una = psn; retries = 0; rnrs = 0 }) q else q)
    by true = record { cursor = refl; state = refl; sends = refl; oldest = refl }
    by false = record { cursor = refl; state = refl; sends = refl; oldest = refl }

-- a queue pair after progress to a PSN
record IsAt (d : Direction) (psn : ℕ) (q p : QueuePair) : Type 0 where
  una : p.requester.una ≡ psn
  cursor : p.requester.cursor ≡ q.requester.cursor
  state : p.state ≡ q.state
  laid : IsLaid d p
  finished : p.sends.first ≤ p.requester.oldest

progress-at : (d : Direction) (psn : ℕ) (q : QueuePair) → q.sends.first ≤ q.requester.oldest → IsLaid d q → q.requester.una ≤ psn → IsAt d psn q (progress_to psn q).queue
progress-at d psn q finished laid low = record {
  una = una-after psn q low;
  cursor = (una-keeps psn q).cursor;
  state = (una-keeps psn q).state;
  laid = laid-finished d (with_una psn q) (omega (arith, finished, ap (λ s. s.first) (una-keeps psn q).sends, (una-keeps psn q).oldest)) (laid-una d psn q laid);
  finished = omega (arith, finished, ap (λ s. s.first) (una-keeps psn q).sends, (una-keeps psn q).oldest);
}

-- ---- all below a PSN is acknowledged

at-acknowledges : (d : Direction) (psn limit : ℕ) (q p : QueuePair) → q.requester.una ≤ psn → psn ≤ limit → psn ≤ q.requester.cursor → PassesNone d q.requester.una psn → IsAt d psn q p
    → Acknowledged d limit (requester_in q) p
at-acknowledges d psn limit q p low far high passes at = record {
  una = omega (arith, low, at.una);
  within = omega (arith, far, at.una);
  passes = subst (λ n. PassesNone d q.requester.una n) (sym at.una) passes;
  low = omega (arith, high, at.una, at.cursor);
  high = omega (arith, at.cursor);
  laid = λ e. at.laid;
}

record Acked (d : Direction) (psn : ℕ) (q : QueuePair) (a : Acknowledgement) : Type 0 where
  does : Acknowledged d psn (requester_in q) a.effects.queue
  at : a.went_back ≡ false → IsAt d psn q a.effects.queue
  passes : a.went_back ≡ false → PassesNone d q.requester.una psn

acked : (d : Direction) (psn : ℕ) (q : QueuePair) → IsQueue q → is_sending q.state ≡ true → IsLaid d q → q.requester.una ≤ psn → psn ≤ q.requester.cursor → Acked d psn q (acknowledgement_below psn q)
acked d psn q s sending laid low high = by (first_unanswered q.requester.una psn (begun_requests q)) (acknowledgement-stops d psn q laid (omega (arith, high, s.begun sending)))
  where
    after : Option ℕ → Acknowledgement
    after None = record { effects = progress_to psn q; went_back = false }
    after (Some back) = record { effects = and_then (progress_to back q) (one_retry back); went_back = true }

    by : (back : Option ℕ) → Stops d q.requester.una psn back → Acked d psn q (after back)
    by None passes = record {
      does = at-acknowledges d psn psn q (progress_to psn q).queue low (omega arith) high passes (progress-at d psn q s.requester.finished laid low);
      at = λ e. progress-at d psn q s.requester.finished laid low;
      passes = λ e. passes;
    }
    by (Some back) stop = record {
      does = retry-acknowledges d psn back (requester_in q) (progress_to back q).queue
          (at-acknowledges d back psn q (progress_to back q).queue stop.low (omega (arith, stop.high)) (omega (arith, stop.high, high)) stop.passes at)
          (omega (arith, at.una)) (omega (arith, at.cursor, stop.high, high));
      at = λ e. absurd (true≢false e);
      passes = λ e. absurd (true≢false e);
    }
      where
        at : IsAt d back q (progress_to back q).queue
        at = progress-at d back q s.requester.finished laid stop.low

-- ---- Acknowledge packets

-- how far a syndrome lets `una` go on
abbrev reach_by : ℕ → Option Syndrome → ℕ
reach_by w (Some (syndromes.Ack credits)) = suc w
reach_by w (Some (syndromes.RnrNak timer)) = w
reach_by w (Some (syndromes.Nak code)) = w
reach_by w None = w

-- what holds as a response for an outstanding PSN arrives
record IsOutstanding (d : Direction) (w : ℕ) (q : QueuePair) : Type 0 where
  sound : IsQueue q
  sending : is_sending q.state ≡ true
  laid : IsLaid d q
  low : q.requester.una ≤ w
  high : w < q.requester.cursor

unless-back-acknowledges : (d : Direction) (w : ℕ) (q : QueuePair) (a : Acknowledgement) (f : QueuePair → Effects) → Acked d w q a
    → (a.went_back ≡ false → Acknowledged d w (requester_in q) (f a.effects.queue).queue) → Acknowledged d w (requester_in q) (unless_back a f).queue
unless-back-acknowledges d w q a f after more = by a.went_back refl
  where
    by : (b : Bool) → a.went_back ≡ b → Acknowledged d w (requester_in q) (if b then a.effects else and_then a.effects f).queue
    by true e = after.does
    by false e = more e

rnr-acknowledges : (d : Direction) (w : ℕ) (r : Requester) (p : QueuePair) → Acknowledged d w r p → p.requester.una ≤ w → w ≤ p.requester.cursor → Acknowledged d w r (rnr_nak_effects w p).queue
rnr-acknowledges d w r p does low high = by (nat_lt p.requester.rnr_retry MAX_RETRY && nat_le p.requester.rnr_retry p.requester.rnrs)
  where
    counted : QueuePair
    counted = with_requester (record p.requester { rnrs = suc p.requester.rnrs }) p

    by : (b : Bool) → Acknowledged d w r (if b then failure_effects RnrRetryExceeded None counted
        else queue_and_marks (with_requester (record counted.requester { cursor = w; waiting = true }) p) []).queue
    by true = acknowledged-then d w r p _ does refl does.low (omega arith) (λ e. absurd (true≢false (sym e)))
    by false = acknowledged-then d w r p (with_requester (record counted.requester { cursor = w; waiting = true }) p) does refl low high (λ e. let laid = does.laid e in record { mtu = laid.mtu; begin = laid.begin; work = laid.work; passed = laid.passed })

nak-acknowledges : (d : Direction) (w : ℕ) (r : Requester) (code : NakCode) (p : QueuePair) → Acknowledged d w r p → p.requester.una ≤ w → w ≤ p.requester.cursor → Acknowledged d w r (nak_effects w code p).queue
nak-acknowledges d w r codes.PsnSequenceError p does low high = retry-acknowledges d w w r p does low high
nak-acknowledges d w r codes.InvalidRequest p does low high = failure-acknowledges d w r p RemoteInvalidRequest None does
nak-acknowledges d w r codes.RemoteAccessError p does low high = failure-acknowledges d w r p RemoteAccess None does
nak-acknowledges d w r codes.RemoteOperationalError p does low high = failure-acknowledges d w r p RemoteOperation None does

same-acknowledges : (d : Direction) (w : ℕ) (q : QueuePair) → q.requester.una ≤ w → q.requester.una ≤ q.requester.cursor → (is_sending q.state ≡ true → IsLaid d q) → Acknowledged d w (requester_in q) q
same-acknowledges d w q low high laid = record {
  una = omega arith;
  within = low;
  passes = λ place n from below has. absurd (omega (arith, from, below));
  low = high;
  high = omega arith;
  laid = laid;
}

acknowledge-does : (d : Direction) (w : ℕ) (syndrome : Option Syndrome) (q : QueuePair) → IsOutstanding d w q → Acknowledged d (reach_by w syndrome) (requester_in q) (acknowledge_row w syndrome q).queue
acknowledge-does d w (Some (syndromes.Ack credits)) q o = (acked d (suc w) q o.sound o.sending o.laid (omega (arith, o.low)) o.high).does
acknowledge-does d w (Some (syndromes.RnrNak timer)) q o = unless-back-acknowledges d w q (acknowledgement_below w q) (rnr_nak_effects w) after
    (λ e. rnr-acknowledges d w (requester_in q) (acknowledgement_below w q).effects.queue after.does (omega (arith, (after.at e).una)) (omega (arith, (after.at e).cursor, o.high)))
  where
    after : Acked d w q (acknowledgement_below w q)
    after = acked d w q o.sound o.sending o.laid o.low (omega (arith, o.high))
acknowledge-does d w (Some (syndromes.Nak code)) q o = unless-back-acknowledges d w q (acknowledgement_below w q) (nak_effects w code) after
    (λ e. nak-acknowledges d w (requester_in q) code (acknowledgement_below w q).effects.queue after.does (omega (arith, (after.at e).una)) (omega (arith, (after.at e).cursor, o.high)))
  where
    after : Acked d w q (acknowledgement_below w q)
    after = acked d w q o.sound o.sending o.laid o.low (omega (arith, o.high))
acknowledge-does d w None q o = same-acknowledges d w q o.low (omega (arith, o.low, o.high)) (λ e. o.laid)

-- neither an Acknowledge packet nor an ATOMIC Acknowledge is a READ response
read-no-acknowledge : answers_read ACKNOWLEDGE ≡ false
unfolding row_of
read-no-acknowledge = refl

read-no-atomic : answers_read ATOMIC_ACKNOWLEDGE ≡ false
unfolding row_of
read-no-atomic = refl

-- a response with the opcode of an Acknowledge packet goes no further than its syndrome says
reaches : (a : Response) (w : ℕ) (p : Fields) → p.opcode ≡ ACKNOWLEDGE → Says a p → reach_by w (syndrome_of p) ≤ w + gain a
reaches (Ack n) w p is says = by (syndrome_of p)
  where
    by : (o : Option Syndrome) → reach_by w o ≤ w + 1
    by None = omega arith
    by (Some (syndromes.Ack credits)) = omega arith
    by (Some (syndromes.RnrNak timer)) = omega arith
    by (Some (syndromes.Nak code)) = omega arith
reaches (Nak code n) w p is says = by (syndrome_of p) says.1
  where
    by : (o : Option Syndrome) → Tells code o → reach_by w o ≤ w + 0
    by None tells = omega arith
    by (Some (syndromes.Ack credits)) tells = absurd tells
    by (Some (syndromes.RnrNak timer)) tells = omega arith
    by (Some (syndromes.Nak c)) tells = omega arith
reaches (Data n left) w p is says = absurd (true≢false (sym says ∙ ap answers_read is ∙ read-no-acknowledge))
reaches (Found n found) w p is says = absurd (true≢false (ap (λ n. n == ATOMIC_ACKNOWLEDGE) (sym says.0 ∙ is)))

-- ---- READ responses and ATOMIC Acknowledges

-- a response that fits is of a READ, or of an atomic
fits-read : (w : ℕ) (p : Fields) (q : QueuePair) (n : Numbered) → (p.opcode == ATOMIC_ACKNOWLEDGE) ≡ false → fits_request w p q n ≡ true → is_read_op n.request.op ≡ true
fits-read w p q n other fits = by (p.opcode == ATOMIC_ACKNOWLEDGE) other fits
  where
    same : Bool → Bool → Bool
    same true b = b
    same false b = not b

    by : (b : Bool) → b ≡ false → (if b then is_atomic_op n.request.op else is_read_op n.request.op && (length p.payload == segment_length w q n) && same (ends_read p.opcode) (suc w == psn_end n)) ≡ true → is_read_op n.request.op ≡ true
    by true e fits = absurd (true≢false e)
    by false e fits = three (is_read_op n.request.op) (length p.payload == segment_length w q n) (same (ends_read p.opcode) (suc w == psn_end n)) fits
      where
        three : (a b c : Bool) → (a && b && c) ≡ true → a ≡ true
        three true b c e = refl
        three false b c e = e

fits-atomic : (w : ℕ) (p : Fields) (q : QueuePair) (n : Numbered) → p.opcode ≡ ATOMIC_ACKNOWLEDGE → fits_request w p q n ≡ true → is_atomic_op n.request.op ≡ true
fits-atomic w p q n same fits = subst (λ o. fits_request w (record p { opcode = o }) q n ≡ true) same fits

-- the request that is found at a number has it
pub record IsRequestAt (d : Direction) (w : ℕ) (n : Numbered) : Type 0 where
  pub number : HasNumber d n.place w
  pub lies : LiesAt d n

found-has : (w : ℕ) (ns : List Numbered) → IfSome (find (has_psn w) ns) (λ n. has_psn w n ≡ true)
found-has w [] = record {}
found-has w (n ∷ ns) = by (has_psn w n) refl (found-has w ns)
  where
    by : (b : Bool) → has_psn w n ≡ b → IfSome (find (has_psn w) ns) (λ n. has_psn w n ≡ true) → IfSome (if b then Some n else find (has_psn w) ns) (λ n. has_psn w n ≡ true)
    by true e rest = e
    by false e rest = rest

pub request-found : (d : Direction) (w : ℕ) (q : QueuePair) → IsLaid d q → IfSome (request_at w q) (IsRequestAt d w)
request-found d w q laid = by (request_at w q) (found-has w (begun_requests q)) (all-found (LiesAt d) (has_psn w) (begun_requests q) (all-lie d q.requester.oldest (begun_requests q) (begun-lie d q laid)))
  where
    by : (o : Option Numbered) → IfSome o (λ n. has_psn w n ≡ true) → IfSome o (LiesAt d) → IfSome o (IsRequestAt d w)
    by None has lies = record {}
    by (Some n) has lies = let parts = and_parts (nat_le n.first w) (nat_lt w (psn_end n)) has in record {
      number = record { from = omega (arith, lies.begin, leb-true n.first w parts.0); below = omega (arith, lies.end, ltb-true w (psn_end n) parts.1) };
      lies = lies;
    }

-- the response takes `una` past its own number
passed-takes : (d : Direction) (a : Response) (w : ℕ) (r : Requester) (p : QueuePair) (completion : Option AtomicCompletion) → p.requester.una ≡ suc w → p.requester.cursor ≡ r.cursor
    → Takes d a w r (record { una = w + 1; cursor = r.cursor }) completion → Takes d a w r (requester_in p) completion
passed-takes d a w r p completion una cursor does = subst (λ n. Takes d a w r (record { una = n; cursor = p.requester.cursor }) completion) (omega (arith, una))
    (subst (λ n. Takes d a w r (record { una = w + 1; cursor = n }) completion) (sym cursor) does)

is-other : (p : Fields) (opcode : ℕ) → p.opcode ≡ opcode → (p.opcode == opcode) ≡ false → (opcode == opcode) ≡ true → ⊥
is-other p opcode same other equal = true≢false (sym equal ∙ ap (λ n. n == opcode) (sym same) ∙ other)

no-atomic : (p : Fields) → answers_read p.opcode ≡ true → (p.opcode == ATOMIC_ACKNOWLEDGE) ≡ false
no-atomic p reads = by (p.opcode == ATOMIC_ACKNOWLEDGE) refl
  where
    by : (b : Bool) → (p.opcode == ATOMIC_ACKNOWLEDGE) ≡ b → b ≡ false
    by true e = absurd (true≢false (sym reads ∙ ap answers_read (eqb-true p.opcode ATOMIC_ACKNOWLEDGE e) ∙ read-no-atomic))
    by false e = refl

own-takes : (d : Direction) (a : Response) (w : ℕ) (q : QueuePair) (p : Fields) (before : Effects) (n : Numbered) (t : QueuePair) → IsOutstanding d w q → Says a p → (p.opcode == ACKNOWLEDGE) ≡ false
    → fits_request w p before.queue n ≡ true → IsRequestAt d w n → PassesNone d q.requester.una w → t.requester.una ≡ suc w → t.requester.cursor ≡ q.requester.cursor
    → (completion : Option AtomicCompletion) × Takes d a w (requester_in q) (requester_in t) completion
own-takes d (Ack m) w q p before n t o says other fits has passes una cursor = absurd (is-other p ACKNOWLEDGE says other refl)
own-takes d (Nak code m) w q p before n t o says other fits has passes una cursor = absurd (is-other p ACKNOWLEDGE says.0 other refl)
own-takes d (Data m left) w q p before n t o says other fits has passes una cursor =
    (None, passed-takes d (Data m left) w (requester_in q) t None una cursor (response_read m left n.place refl has.number is o.low o.high passes))
  where
    is : is_read (d.work n.place) ≡ true
    is = ap is_read has.lies.work ∙ sym (read-of-work n.request.op) ∙ fits-read w p before.queue n (no-atomic p says) fits
own-takes d (Found m found) w q p before n t o says other fits has passes una cursor =
    (Some (record { place = n.place; found = found }), passed-takes d (Found m found) w (requester_in q) t (Some (record { place = n.place; found = found })) una cursor (response_atomic m found n.place refl has.number is o.low o.high passes))
  where
    is : is_atomic (d.work n.place) ≡ true
    is = ap is_atomic has.lies.work ∙ sym (atomic-of-work n.request.op) ∙ fits-atomic w p before.queue n says.0 fits

answer-leads : (d : Direction) (a : Response) (w : ℕ) (q : QueuePair) (p : Fields) (before : Effects) (n : Numbered) → IsOutstanding d w q → Says a p → (p.opcode == ACKNOWLEDGE) ≡ false
    → fits_request w p before.queue n ≡ true → IsRequestAt d w n → PassesNone d q.requester.una w → Acknowledged d w (requester_in q) before.queue → IsAt d w q before.queue
    → RowLeads (TakesIn d a w (requester_in q)) (answer_row w p before n)
answer-leads d a w q p before n o says other fits has passes does at = record {
  denied = λ b. acknowledges d a w w (requester_in q) _ (omega arith) (failure-acknowledges d w (requester_in q) before.queue LocalProtection None does);
  allowed = λ bytes refusal. let own = own-takes d a w q p before n placed o says other fits has passes after.una (after.cursor ∙ at.cursor) in record {
    completion = own.0;
    takes = own.1;
    laid = λ e. after.laid;
  };
}
  where
    placed : QueuePair
    placed = (progress_to (suc w) before.queue).queue

    after : IsAt d (suc w) before.queue placed
    after = progress-at d (suc w) before.queue at.finished at.laid (omega (arith, at.una))

fitting-leads : (d : Direction) (a : Response) (w : ℕ) (q : QueuePair) (p : Fields) → IsOutstanding d w q → Says a p → (p.opcode == ACKNOWLEDGE) ≡ false
    → RowLeads (TakesIn d a w (requester_in q)) (fitting_row w p (acknowledgement_below w q))
fitting-leads d a w q p o says other = back (acknowledgement_below w q) (acked d w q o.sound o.sending o.laid o.low (omega (arith, o.high)))
  where
    back : (t : Acknowledgement) → Acked d w q t → RowLeads (TakesIn d a w (requester_in q)) (fitting_row w p t)
    back t after = by t.went_back refl
      where
        bad : Row
        bad = plain_row (Does (and_then t.effects (failure_effects BadResponse None)))

        is_bad : RowLeads (TakesIn d a w (requester_in q)) bad
        is_bad = plain (TakesIn d a w (requester_in q)) _ (acknowledges d a w w (requester_in q) _ (omega arith) (failure-acknowledges d w (requester_in q) t.effects.queue BadResponse None after.does))

        row : Option Numbered → Row
        row None = bad
        row (Some n) = if fits_request w p t.effects.queue n then answer_row w p t.effects n else bad

        at : (n : Option Numbered) → IfSome n (IsRequestAt d w) → t.went_back ≡ false → RowLeads (TakesIn d a w (requester_in q)) (row n)
        at None has e = is_bad
        at (Some n) has e = fits (fits_request w p t.effects.queue n) refl
          where
            fits : (b : Bool) → fits_request w p t.effects.queue n ≡ b → RowLeads (TakesIn d a w (requester_in q)) (if b then answer_row w p t.effects n else bad)
            fits true is = answer-leads d a w q p t.effects n o says other is has (after.passes e) after.does (after.at e)
            fits false is = is_bad

        by : (b : Bool) → t.went_back ≡ b → RowLeads (TakesIn d a w (requester_in q)) (if b then plain_row (Does t.effects) else row (request_at w t.effects.queue))
        by true e = plain (TakesIn d a w (requester_in q)) t.effects (acknowledges d a w w (requester_in q) t.effects (omega arith) after.does)
        by false e = at (request_at w t.effects.queue) (request-found d w t.effects.queue (after.at e).laid) e

outstanding-leads : (d : Direction) (a : Response) (w : ℕ) (q : QueuePair) (p : Fields) → IsOutstanding d w q → Says a p → RowLeads (TakesIn d a w (requester_in q)) (outstanding_row w p q)
outstanding-leads d a w q p o says = by (p.opcode == ACKNOWLEDGE) refl
  where
    by : (b : Bool) → (p.opcode == ACKNOWLEDGE) ≡ b → RowLeads (TakesIn d a w (requester_in q)) (if b then plain_row (Does (acknowledge_row w (syndrome_of p) q)) else fitting_row w p (acknowledgement_below w q))
    by true e = plain (TakesIn d a w (requester_in q)) (acknowledge_row w (syndrome_of p) q) (acknowledges d a w (reach_by w (syndrome_of p)) (requester_in q) (acknowledge_row w (syndrome_of p) q)
        (reaches a w p (eqb-true p.opcode ACKNOWLEDGE e) says) (acknowledge-does d w (syndrome_of p) q o))
    by false e = fitting-leads d a w q p o says e

pub response-row : (d : Direction) (a : Response) (p : Fields) (q : QueuePair) → IsQueue q → (is_sending q.state ≡ true → IsLaid d q) → ResponseEntry a p
    → RowLeads (TakesIn d a (response_psn q p) (requester_in q)) (response_row p q)
response-row d a p q s laid is = by (is_sending q.state) refl
  where
    w : ℕ
    w = response_psn q p

    dropped : (cause : Drop1) → RowLeads (TakesIn d a w (requester_in q)) (plain_row (Does (drop_effects q cause)))
    dropped cause = plain (TakesIn d a w (requester_in q)) (drop_effects q cause) (record { completion = None; takes = response_drop; laid = laid })

    there : (b : Bool) → is_outstanding_at w q ≡ b → is_sending q.state ≡ true → RowLeads (TakesIn d a w (requester_in q)) (if not b then plain_row (Does (drop_effects q drops.Stale)) else outstanding_row w p q)
    there true e sending = outstanding-leads d a w q p (record {
      sound = s;
      sending = sending;
      laid = laid sending;
      low = leb-true q.requester.una w (and_parts (nat_le q.requester.una w) (nat_lt w q.requester.cursor) e).0;
      high = ltb-true w q.requester.cursor (and_parts (nat_le q.requester.una w) (nat_lt w q.requester.cursor) e).1;
    }) is.says
    there false e sending = dropped drops.Stale

    by : (b : Bool) → is_sending q.state ≡ b → RowLeads (TakesIn d a w (requester_in q)) (if not b then plain_row (Does (drop_effects q drops.State))
        else if not (is_outstanding_at w q) then plain_row (Does (drop_effects q drops.Stale)) else outstanding_row w p q)
    by true e = there (is_outstanding_at w q) refl e
    by false e = dropped drops.State
