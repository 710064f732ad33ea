-- What the rows of responses tell of successes of sends, and what they put into lists. For proofs only.
use Rattle.std.proofs.Common.{◌≡◌, ℕ, suc, ◌+◌, ◌-◌, ◌*◌, ◌==◌, ◌<◌, ◌≤◌, Bool, true, false, nat_le, nat_lt, not, ◌&&◌, if◌then◌else◌, List, [], ◌∷◌, ◌++◌, length, take, Option, None, Some, IfSome, refl, ap, sym, subst, ◌∙◌, arith, true≢false}
use Rattle.std.proofs.lemmas.Bool.{and_parts, leb-true, ltb-false, ltb-true}
use Rattle.std.proofs.lemmas.List.{append-nil, length-take}
use Rattle.std.proofs.lemmas.Option.{same_Some}
use Rattle.std.specs.List.{AllByRecursion, flat_map, prefix_len, take_while}
use Rattle.std.specs.Option.{option_and_then, option_map_or}
use Rattle.ca_base.specs.declared.completion.Completion.{Completion}
use Rattle.ca_base.specs.declared.completion.WcStatus.TheVariants.{BadResponse, LocalProtection, RemoteAccess, RemoteInvalidRequest, RemoteOperation, RetryExceeded, RnrRetryExceeded, Success}
use Rattle.ca_base.specs.declared.denied_ask.DeniedAsk.{DeniedAsk}
use Rattle.ca_base.specs.declared.limits.TheConstants.{MAX_RETRY}
use Rattle.ca_base.specs.objects.QueuePair.{QueuePair}
use Rattle.ca_connection.specs.Layout.{Direction, first, is_atomic}
use Rattle.ca_keys.specs.declared.names.QueueId.{QueueId}
use Rattle.ca_keys.specs.Memory.{little_endian_bytes}
use Rattle.ca_keys.specs.declared.access.Ask.{Ask}
use Rattle.ca_keys.specs.declared.access.Kind.TheVariants as kinds
use Rattle.ca_model.specs.Requests.{list_length, list_of}
use Rattle.ca_model.specs.declared.mark.Drop1.{Drop1}
use Rattle.ca_model.specs.declared.mark.Drop1.TheVariants as drops
use Rattle.ca_connection.proofs.LayoutLemmas.{names-is_atomic}
use Rattle.ca_law_once.proofs.Rows.ResponseRowLemmas.{IsRequestAt, request-found}
use Rattle.ca_law_once.proofs.Success.PutLemmas.{NumberedFits, list-put, progress-put, put-append, request-fits}
use Rattle.ca_law_once.specs.Lists.{ListFits}
use Rattle.ca_model.specs.declared.mark.Mark.{Mark}
use Rattle.ca_model.specs.declared.mark.Mark.TheVariants as marks
use Rattle.ca_model.specs.machine.Acknowledgements.{Acknowledgement, acknowledgement_below, after_finished, and_then, failure_effects, finished_marks, first_unanswered, one_retry, progress_to, with_cursor, with_requester}
use Rattle.ca_model.specs.machine.Completions.{bytes_of_success, send_completion, success_marks}
use Rattle.ca_model.specs.machine.Invariants.{IsQueue, begun_end, is_sending}
use Rattle.ca_model.specs.machine.Numbering.{Numbered, begun_requests, is_atomic_op, is_read, psn_end, request_at, unfinished_requests}
use Rattle.ca_model.specs.machine.Responses.{acknowledge_row, answer_asks, answer_bytes, answer_row, drop_effects, ends_read, fits_request, fitting_row, is_outstanding_at, local_writes, nak_effects, outstanding_row, response_psn, response_row, segment_at, segment_length, rnr_nak_effects, unless_back, writes_by}
use Rattle.ca_model.specs.machine.Row.{Does, Effects, Row, plain_row, queue_and_marks}
use Rattle.ca_wire.specs.Packet.{Fields}
use Rattle.ca_wire.specs.declared.opcode.TheConstants.{ACKNOWLEDGE, ATOMIC_ACKNOWLEDGE}
use Rattle.ca_law_once.proofs.Rows.LayLemmas.{Lie, atomic-of-work, begun-lie, laid-finished, laid-una}
use Rattle.ca_law_once.proofs.Rows.RequestRowLemmas.{plain}
use Rattle.ca_law_once.proofs.Rows.WalkLemmas.{Stops, acknowledgement-stops}
use Rattle.ca_law_once.specs.Moves.{RowLeads}
use Rattle.ca_law_once.specs.Sides.{IsLaid}
use Rattle.ca_law_once.proofs.Success.SilentRows.{drop-silent}
use Rattle.ca_law_once.proofs.Success.TellLemmas.{AllTell, AreSilent, failure-silent, silent-tell, tell-append, tell-weaker, writes-silent}
use Rattle.ca_law_once.specs.Success.{bytes_put}
use Rattle.ca_wire.specs.Syndrome.{syndrome_in}
use Rattle.ca_wire.specs.declared.syndrome.NakCode.{NakCode}
use Rattle.ca_wire.specs.declared.syndrome.NakCode.TheVariants as codes
use Rattle.ca_wire.specs.declared.syndrome.Syndrome.{Syndrome}
use Rattle.ca_wire.specs.declared.syndrome.Syndrome.TheVariants as syndromes
use Rattle.ca_model.specs.machine.Requester.{local_denial}

-- a queue pair of which the requests lie, from the oldest unfinished one on
pub record IsReady (d : Direction) (q : QueuePair) : Type 0 where
  pub laid : IsLaid d q
  pub first : q.sends.first ≤ q.requester.oldest
  pub begun : q.requester.oldest ≤ q.requester.next

-- a request that had begun and was unfinished is finished now: all its numbers lie below `una`
abbrev pub Finishes : Direction → QueuePair → QueuePair → ℕ → Type 0
Finishes d q p place = (q.requester.oldest ≤ place) × (place < q.requester.next) × (first d (suc place) ≤ p.requester.una)

-- ---- what is finished

pub success-tells : (name : QueueId) (P : ℕ → Type 0) (n : Numbered) → P n.place → AllTell name P (success_marks name n.place n.request)
success-tells name P n at = by n.request.signalled
  where
    c : Completion
    c = send_completion name n.place n.request Success (bytes_of_success n.request.op)

    by : (b : Bool) → AllTell name P (if b then marks.Done name c None ∷ [] else [])
    by true = (λ x is. (ap (λ (y : Completion). y.queue) (sym (same_Some c x is)), subst (λ (y : Completion). P y.place) (same_Some c x is) at), record {})
    by false = record {}

finished-tell : (d : Direction) (name : QueueId) (una place : ℕ) (ns : List Numbered) → Lie d place ns
    → AllTell name (λ p. (place ≤ p) × (p < place + length ns) × (first d (suc p) ≤ una)) (flat_map (λ n. success_marks name n.place n.request) (take_while (λ n. nat_le (psn_end n) una) ns))
finished-tell d name una place [] lie = record {}
finished-tell d name una place (n ∷ ns) lie = by (nat_le (psn_end n) una) refl (finished-tell d name una (suc place) ns lie.1)
  where
    P : ℕ → Type 0
    P p = (place ≤ p) × (p < place + length (n ∷ ns)) × (first d (suc p) ≤ una)

    k : ℕ
    k = prefix_len (λ (n : Numbered). nat_le (psn_end n) una) ns

    by : (b : Bool) → nat_le (psn_end n) una ≡ b
        → AllTell name (λ p. (suc place ≤ p) × (p < suc place + length ns) × (first d (suc p) ≤ una)) (flat_map (λ n. success_marks name n.place n.request) (take_while (λ n. nat_le (psn_end n) una) ns))
        → AllTell name (λ p. (place ≤ p) × (p < place + length (n ∷ ns)) × (first d (suc p) ≤ una)) (flat_map (λ n. success_marks name n.place n.request) (take (if b then 1 + k else 0) (n ∷ ns)))
    by false e rest = record {}
    by true e rest = subst (λ j. AllTell name (λ p. (place ≤ p) × (p < place + length (n ∷ ns)) × (first d (suc p) ≤ una)) (flat_map (λ n. success_marks name n.place n.request) (take j (n ∷ ns)))) (let f : suc k ≡ 1 + k = omega arith in f)
        (tell-append name _ (success_marks name n.place n.request) (flat_map (λ n. success_marks name n.place n.request) (take k ns))
        (success-tells name _ n (omega (arith, lie.0.0), omega (arith, lie.0.0), omega (arith, lie.0.1.end, leb-true (psn_end n) una e)))
        (tell-weaker name _ _ (flat_map (λ n. success_marks name n.place n.request) (take k ns)) (λ p at. (omega (arith, at.0), omega (arith, at.1), at.2)) rest))

-- a queue pair goes on to a PSN
pub record Progresses (d : Direction) (psn : ℕ) (q : QueuePair) (p : QueuePair) : Type 0 where
  pub ready : IsReady d p
  pub oldest : q.requester.oldest ≤ p.requester.oldest
  pub next : p.requester.next ≡ q.requester.next
  pub una : q.requester.una ≤ psn → p.requester.una ≡ psn
  pub queue : p.queue ≡ q.queue

module _ (d : Direction) where
  after-ready : (q t : QueuePair) → IsReady d q → IsLaid d t → t.sends ≡ q.sends → t.requester.oldest ≡ q.requester.oldest → t.requester.next ≡ q.requester.next → IsReady d (after_finished t)
  after-ready q t ready laid sends oldest next = record {
    laid = laid-finished d t (omega (arith, ready.first, ap (λ s. s.first) sends, oldest)) laid;
    first = omega (arith, ready.first, ap (λ s. s.first) sends, oldest);
    begun = omega (arith, ready.begun, oldest, next, length-take (prefix_len (λ n. nat_le (psn_end n) t.requester.una) (begun_requests t)) (begun_requests t), length-take (t.requester.next - t.requester.oldest) (unfinished_requests t));
  }

  pub progress-goes : (psn : ℕ) (q : QueuePair) → IsReady d q → Progresses d psn q (progress_to psn q).queue
  progress-goes psn q ready = by (nat_lt q.requester.una psn) refl
    where
      moved : Bool → QueuePair
      moved b = if b then with_requester (record q.requester { una = psn; retries = 0; rnrs = 0 }) q else q

      by : (b : Bool) → nat_lt q.requester.una psn ≡ b → Progresses d psn q (after_finished (moved b))
      by true e = record {
        ready = after-ready q (moved true) ready (subst (λ b. IsLaid d (moved b)) e (laid-una d psn q ready.laid)) refl refl refl;
        oldest = omega arith;
        next = refl;
        una = λ low. refl;
        queue = refl;
      }
      by false e = record {
        ready = after-ready q q ready ready.laid refl refl refl;
        oldest = omega arith;
        next = refl;
        una = λ low. omega (arith, low, ltb-false q.requester.una psn e);
        queue = refl;
      }

  pub progress-tells : (psn : ℕ) (q : QueuePair) → IsReady d q → AllTell q.queue (Finishes d q (progress_to psn q).queue) (progress_to psn q).marks
  progress-tells psn q ready = by (nat_lt q.requester.una psn) refl
    where
      moved : Bool → QueuePair
      moved b = if b then with_requester (record q.requester { una = psn; retries = 0; rnrs = 0 }) q else q

      tells : (t : QueuePair) → IsLaid d t → t.queue ≡ q.queue → t.requester.oldest ≡ q.requester.oldest → t.requester.next ≡ q.requester.next → AllTell t.queue (Finishes d q (after_finished t)) (finished_marks t)
      tells t laid own oldest next = tell-weaker t.queue _ _ (finished_marks t) (λ p at. (
        omega (arith, at.0, oldest),
        omega (arith, at.1, oldest, next, ready.begun, length-take (t.requester.next - t.requester.oldest) (unfinished_requests t)),
        at.2,
      )) (finished-tell d t.queue t.requester.una t.requester.oldest (begun_requests t) (begun-lie d t laid))

      by : (b : Bool) → nat_lt q.requester.una psn ≡ b → AllTell q.queue (Finishes d q (after_finished (moved b))) (finished_marks (moved b))
      by true e = tells (moved true) (subst (λ b. IsLaid d (moved b)) e (laid-una d psn q ready.laid)) refl refl refl
      by false e = tells q ready.laid refl refl refl

progress-sends : (psn : ℕ) (q : QueuePair) → (progress_to psn q).queue.sends ≡ q.sends
progress-sends psn q = by (nat_lt q.requester.una psn)
  where
    by : (b : Bool) → (after_finished (if b then with_requester (record q.requester { una = psn; retries = 0; rnrs = 0 }) q else q)).sends ≡ q.sends
    by true = refl
    by false = refl

-- ---- what follows an acknowledgement

-- a retry, and what it leaves
pub retry-silent : (psn : ℕ) (q : QueuePair) → AreSilent (one_retry psn q).marks
retry-silent psn q = by (nat_le q.requester.retry q.requester.retries)
  where
    counted : QueuePair
    counted = with_requester (record q.requester { retries = suc q.requester.retries }) q

    by : (b : Bool) → AreSilent (if b then failure_effects RetryExceeded None counted else queue_and_marks (with_cursor psn counted) []).marks
    by true = failure-silent RetryExceeded None counted refl
    by false = record {}

retry-una : (psn : ℕ) (q : QueuePair) → (one_retry psn q).queue.requester.una ≡ q.requester.una
retry-una psn q = by (nat_le q.requester.retry q.requester.retries)
  where
    counted : QueuePair
    counted = with_requester (record q.requester { retries = suc q.requester.retries }) q

    by : (b : Bool) → (if b then failure_effects RetryExceeded None counted else queue_and_marks (with_cursor psn counted) []).queue.requester.una ≡ q.requester.una
    by true = refl
    by false = refl

-- marks of successes, and others behind them where `una` stays
tells-then : (d : Direction) (q x p : QueuePair) (ms ns : List Mark) → AllTell q.queue (Finishes d q x) ms → AreSilent ns → p.requester.una ≡ x.requester.una → AllTell q.queue (Finishes d q p) (ms ++ ns)
tells-then d q x p ms ns one silent same = tell-append q.queue (Finishes d q p) ms ns (tell-weaker q.queue (Finishes d q x) (Finishes d q p) ms (λ place at. (at.0, at.1, omega (arith, at.2, same))) one)
    (silent-tell q.queue (Finishes d q p) ns silent)

-- an acknowledgement of all below a PSN
record Acked (d : Direction) (psn : ℕ) (q : QueuePair) (a : Acknowledgement) : Type 0 where
  tells : AllTell q.queue (Finishes d q a.effects.queue) a.effects.marks
  within : a.effects.queue.requester.una ≤ psn
  goes : a.went_back ≡ false → a.effects ≡ progress_to psn q

acked : (d : Direction) (psn : ℕ) (q : QueuePair) → IsReady d q → q.requester.una ≤ psn → psn ≤ begun_end q → Acked d psn q (acknowledgement_below psn q)
acked d psn q ready low high = by (first_unanswered q.requester.una psn (begun_requests q)) (acknowledgement-stops d psn q ready.laid high)
  where
    after : Option ℕ → Acknowledgement
    after None = record { effects = progress_to psn q; went_back = false }
    after (Some back) = record { effects = and_then (progress_to back q) (one_retry back); went_back = true }

    by : (back : Option ℕ) → Stops d q.requester.una psn back → Acked d psn q (after back)
    by None passes = record { tells = progress-tells d psn q ready; within = omega (arith, (progress-goes d psn q ready).una low); goes = λ e. refl }
    by (Some back) stop = record {
      tells = tells-then d q (progress_to back q).queue (one_retry back (progress_to back q).queue).queue (progress_to back q).marks (one_retry back (progress_to back q).queue).marks (progress-tells d back q ready)
          (retry-silent back (progress_to back q).queue) (retry-una back (progress_to back q).queue);
      within = omega (arith, retry-una back (progress_to back q).queue, (progress-goes d back q ready).una stop.low, stop.high);
      goes = λ e. absurd (true≢false e);
    }

-- ---- rows

-- what an ending tells of successes; and where an ATOMIC Acknowledge brings `una` beyond its number, its bytes are what was
-- put into lists
pub record Told (d : Direction) (w : ℕ) (q : QueuePair) (p : Fields) (e : Effects) : Type 0 where
  pub tells : AllTell q.queue (Finishes d q e.queue) e.marks
  pub puts : p.opcode ≡ ATOMIC_ACKNOWLEDGE → w < e.queue.requester.una → q.requester.una < e.queue.requester.una → bytes_put e.marks ≡ answer_bytes p

drop-told : (d : Direction) (w : ℕ) (q : QueuePair) (p : Fields) (cause : Drop1) → Told d w q p (drop_effects q cause)
drop-told d w q p cause = record { tells = silent-tell q.queue (Finishes d q q) (drop_effects q cause).marks (drop-silent q cause); puts = λ is above more. absurd (omega (arith, more)) }

-- an acknowledgement tells of what it finished, whatever follows
rnr-silent : (psn : ℕ) (q : QueuePair) → AreSilent (rnr_nak_effects psn q).marks
rnr-silent psn q = by (nat_lt q.requester.rnr_retry MAX_RETRY && nat_le q.requester.rnr_retry q.requester.rnrs)
  where
    counted : QueuePair
    counted = with_requester (record q.requester { rnrs = suc q.requester.rnrs }) q

    by : (b : Bool) → AreSilent (if b then failure_effects RnrRetryExceeded None counted else queue_and_marks (with_requester (record counted.requester { cursor = psn; waiting = true }) q) []).marks
    by true = failure-silent RnrRetryExceeded None counted refl
    by false = record {}

rnr-una : (psn : ℕ) (q : QueuePair) → (rnr_nak_effects psn q).queue.requester.una ≡ q.requester.una
rnr-una psn q = by (nat_lt q.requester.rnr_retry MAX_RETRY && nat_le q.requester.rnr_retry q.requester.rnrs)
  where
    counted : QueuePair
    counted = with_requester (record q.requester { rnrs = suc q.requester.rnrs }) q

    by : (b : Bool) → (if b then failure_effects RnrRetryExceeded None counted else queue_and_marks (with_requester (record counted.requester { cursor = psn; waiting = true }) q) []).queue.requester.una ≡ q.requester.una
    by true = refl
    by false = refl

nak-silent : (psn : ℕ) (code : NakCode) (q : QueuePair) → AreSilent (nak_effects psn code q).marks
nak-silent psn codes.PsnSequenceError q = retry-silent psn q
nak-silent psn codes.InvalidRequest q = failure-silent RemoteInvalidRequest None q refl
nak-silent psn codes.RemoteAccessError q = failure-silent RemoteAccess None q refl
nak-silent psn codes.RemoteOperationalError q = failure-silent RemoteOperation None q refl

nak-una : (psn : ℕ) (code : NakCode) (q : QueuePair) → (nak_effects psn code q).queue.requester.una ≡ q.requester.una
nak-una psn codes.PsnSequenceError q = retry-una psn q
nak-una psn codes.InvalidRequest q = refl
nak-una psn codes.RemoteAccessError q = refl
nak-una psn codes.RemoteOperationalError q = refl

unless-tells : (d : Direction) (psn : ℕ) (q : QueuePair) (a : Acknowledgement) (f : QueuePair → Effects) → Acked d psn q a → AreSilent (f a.effects.queue).marks → (f a.effects.queue).queue.requester.una ≡ a.effects.queue.requester.una
    → AllTell q.queue (Finishes d q (unless_back a f).queue) (unless_back a f).marks
unless-tells d psn q a f does silent una = by a.went_back
  where
    by : (b : Bool) → AllTell q.queue (Finishes d q (if b then a.effects else and_then a.effects f).queue) (if b then a.effects else and_then a.effects f).marks
    by true = does.tells
    by false = tells-then d q a.effects.queue (f a.effects.queue).queue a.effects.marks (f a.effects.queue).marks does.tells silent una

acknowledge-tells : (d : Direction) (psn : ℕ) (syndrome : Option Syndrome) (q : QueuePair) → IsReady d q → q.requester.una ≤ psn → suc psn ≤ begun_end q
    → AllTell q.queue (Finishes d q (acknowledge_row psn syndrome q).queue) (acknowledge_row psn syndrome q).marks
acknowledge-tells d psn None q ready low high = silent-tell q.queue (Finishes d q q) (drop_effects q drops.Stale).marks (drop-silent q drops.Stale)
acknowledge-tells d psn (Some (syndromes.Ack credits)) q ready low high = (acked d (suc psn) q ready (omega (arith, low)) high).tells
acknowledge-tells d psn (Some (syndromes.RnrNak timer)) q ready low high = unless-tells d psn q (acknowledgement_below psn q) (rnr_nak_effects psn) (acked d psn q ready low (omega (arith, high)))
    (rnr-silent psn (acknowledgement_below psn q).effects.queue) (rnr-una psn (acknowledgement_below psn q).effects.queue)
acknowledge-tells d psn (Some (syndromes.Nak code)) q ready low high = unless-tells d psn q (acknowledgement_below psn q) (nak_effects psn code) (acked d psn q ready low (omega (arith, high)))
    (nak-silent psn code (acknowledgement_below psn q).effects.queue) (nak-una psn code (acknowledgement_below psn q).effects.queue)

-- the bytes of an answer go to the list of their request
answer-told : (d : Direction) (w : ℕ) (q : QueuePair) (p : Fields) (n : Numbered) → IsReady d q → q.requester.una ≤ w → AllByRecursion ListFits q.sends.items → fits_request w p (progress_to w q).queue n ≡ true
    → IsRequestAt d w n → NumberedFits n → RowLeads (Told d w q p) (answer_row w p (progress_to w q) n)
answer-told d w q p n ready low lists fits at fit = record {
  denied = λ b. record {
    tells = tells-then d q before.queue (failed b before.queue).queue before.marks (failed b before.queue).marks (progress-tells d w q ready) (refl, failure-silent LocalProtection None before.queue refl) refl;
    puts = λ is above more. absurd (omega (arith, above, goes.una low));
  };
  allowed = λ bytes refusal. record {
    tells = tell-append q.queue (Finishes d q placed.queue) before.marks (local_writes writes ++ placed.marks)
        (tell-weaker q.queue (Finishes d q before.queue) (Finishes d q placed.queue) before.marks (λ place f. (f.0, f.1, omega (arith, f.2, goes.una low, after.una (omega (arith, goes.una low))))) (progress-tells d w q ready))
        (tell-append q.queue (Finishes d q placed.queue) (local_writes writes) placed.marks (silent-tell q.queue (Finishes d q placed.queue) (local_writes writes) (writes-silent writes))
        (subst (λ name. AllTell name (Finishes d q placed.queue) placed.marks) goes.queue
        (tell-weaker before.queue.queue (Finishes d before.queue placed.queue) (Finishes d q placed.queue) placed.marks (λ place f. (omega (arith, f.0, goes.oldest), omega (arith, f.1, goes.next), f.2)) (progress-tells d (suc w) before.queue goes.ready))));
    puts = λ is above more. put-append before.marks (local_writes writes ++ placed.marks) ∙ ap (λ xs. xs ++ bytes_put (local_writes writes ++ placed.marks)) (progress-put w q)
        ∙ put-append (local_writes writes) placed.marks ∙ ap (λ xs. bytes_put (local_writes writes) ++ xs) (progress-put (suc w) before.queue) ∙ append-nil (bytes_put (local_writes writes))
        ∙ list-put before.queue.queue before.queue.domain kinds.Write (segment_at w before.queue n) (length (answer_bytes p)) (list_of n.request.op) (answer_bytes p) refl (room is);
  };
}
  where
    before : Effects
    before = progress_to w q

    placed : Effects
    placed = progress_to (suc w) before.queue

    goes : Progresses d w q before.queue
    goes = progress-goes d w q ready

    after : Progresses d (suc w) before.queue placed.queue
    after = progress-goes d (suc w) before.queue goes.ready

    failed : DeniedAsk → QueuePair → Effects
    failed b q = record (failure_effects LocalProtection None q) { marks = local_denial b ∷ (failure_effects LocalProtection None q).marks }

    writes : List (Ask × List ℕ)
    writes = writes_by (answer_asks w p before.queue n) (answer_bytes p)

    acknowledges : p.opcode ≡ ATOMIC_ACKNOWLEDGE → (p.opcode == ATOMIC_ACKNOWLEDGE) ≡ true
    acknowledges is = ap (λ m. m == ATOMIC_ACKNOWLEDGE) is

    eight : p.opcode ≡ ATOMIC_ACKNOWLEDGE → length (answer_bytes p) ≡ 8
    eight is = ap (λ b. length (if b then little_endian_bytes (option_map_or (λ n. n) p.«result» 0) else p.payload)) (acknowledges is)

    atomic : p.opcode ≡ ATOMIC_ACKNOWLEDGE → is_atomic_op n.request.op ≡ true
    atomic is = sym (ap (λ b. if b then is_atomic_op n.request.op else (is_read n.request.op && (length p.payload == segment_length w before.queue n) && same (ends_read p.opcode) (suc w == psn_end n))) (acknowledges is)) ∙ fits
      where
        same : Bool → Bool → Bool
        same true b = b
        same false b = not b

    first-one : p.opcode ≡ ATOMIC_ACKNOWLEDGE → w ≡ n.first
    first-one is = names-is_atomic d n.place w (ap is_atomic at.lies.work ∙ sym (atomic-of-work n.request.op) ∙ atomic is) at.number ∙ sym at.lies.begin

    room : p.opcode ≡ ATOMIC_ACKNOWLEDGE → segment_at w before.queue n + length (answer_bytes p) ≤ list_length (list_of n.request.op)
    room is = let zero_is : w - n.first ≡ 0 = omega (arith, first-one is) in
        let none : segment_at w before.queue n ≡ 0 = ap (λ k. k * before.queue.responder.mtu) zero_is ∙ omega arith in
        omega (arith, none, eight is, fit (atomic is))

fitting-told : (d : Direction) (w : ℕ) (q : QueuePair) (p : Fields) → IsReady d q → q.requester.una ≤ w → w ≤ begun_end q → AllByRecursion ListFits q.sends.items → RowLeads (Told d w q p) (fitting_row w p (acknowledgement_below w q))
fitting-told d w q p ready low high lists = by (first_unanswered q.requester.una w (begun_requests q)) (acknowledgement-stops d w q ready.laid high)
  where
    after : Option ℕ → Acknowledgement
    after None = record { effects = progress_to w q; went_back = false }
    after (Some back) = record { effects = and_then (progress_to back q) (one_retry back); went_back = true }

    before : Effects
    before = progress_to w q

    goes : Progresses d w q before.queue
    goes = progress-goes d w q ready

    bad : Effects
    bad = and_then before (failure_effects BadResponse None)

    is_bad : Told d w q p bad
    is_bad = record {
      tells = tells-then d q before.queue (failure_effects BadResponse None before.queue).queue before.marks (failure_effects BadResponse None before.queue).marks (progress-tells d w q ready) (failure-silent BadResponse None before.queue refl) refl;
      puts = λ is above more. absurd (omega (arith, above, goes.una low));
    }

    row : Option Numbered → Row
    row None = plain_row (Does bad)
    row (Some n) = if fits_request w p before.queue n then answer_row w p before n else plain_row (Does bad)

    at : (o : Option Numbered) → IfSome o (IsRequestAt d w) → IfSome o NumberedFits → RowLeads (Told d w q p) (row o)
    at None has fit = plain (Told d w q p) bad is_bad
    at (Some n) has fit = fits (fits_request w p before.queue n) refl
      where
        fits : (b : Bool) → fits_request w p before.queue n ≡ b → RowLeads (Told d w q p) (if b then answer_row w p before n else plain_row (Does bad))
        fits true is = answer-told d w q p n ready low lists is has fit
        fits false is = plain (Told d w q p) bad is_bad

    by : (back : Option ℕ) → Stops d q.requester.una w back → RowLeads (Told d w q p) (fitting_row w p (after back))
    by None passes = at (request_at w before.queue) (request-found d w before.queue goes.ready.laid) (request-fits w before.queue (subst (λ s. AllByRecursion ListFits s.items) (sym (progress-sends w q)) lists))
    by (Some back) stop = plain (Told d w q p) (after (Some back)).effects (record {
      tells = tells-then d q (progress_to back q).queue (one_retry back (progress_to back q).queue).queue (progress_to back q).marks (one_retry back (progress_to back q).queue).marks (progress-tells d back q ready)
          (retry-silent back (progress_to back q).queue) (retry-una back (progress_to back q).queue);
      puts = λ is above more. absurd (omega (arith, above, retry-una back (progress_to back q).queue, (progress-goes d back q ready).una stop.low, stop.high));
    })

outstanding-told : (d : Direction) (w : ℕ) (q : QueuePair) (p : Fields) → IsReady d q → q.requester.una ≤ w → suc w ≤ begun_end q → AllByRecursion ListFits q.sends.items → RowLeads (Told d w q p) (outstanding_row w p q)
outstanding-told d w q p ready low high lists = by (p.opcode == ACKNOWLEDGE) refl
  where
    by : (b : Bool) → (p.opcode == ACKNOWLEDGE) ≡ b
        → RowLeads (Told d w q p) (if b then plain_row (Does (acknowledge_row w (option_and_then (λ a. syndrome_in a.syndrome) p.aeth) q)) else fitting_row w p (acknowledgement_below w q))
    by true e = plain (Told d w q p) _ (record {
      tells = acknowledge-tells d w (option_and_then (λ a. syndrome_in a.syndrome) p.aeth) q ready low high;
      puts = λ is above more. absurd (true≢false (sym e ∙ ap (λ n. n == ACKNOWLEDGE) is));
    })
    by false e = fitting-told d w q p ready low (omega (arith, high)) lists

-- a response tells so
pub response-told : (d : Direction) (q : QueuePair) (p : Fields) → IsQueue q → (is_sending q.state ≡ true → IsLaid d q) → AllByRecursion ListFits q.sends.items → RowLeads (Told d (response_psn q p) q p) (response_row p q)
response-told d q p s laid lists = by (is_sending q.state) refl
  where
    w : ℕ
    w = response_psn q p

    there : (b : Bool) → is_outstanding_at w q ≡ b → is_sending q.state ≡ true → RowLeads (Told d w q p) (if not b then plain_row (Does (drop_effects q drops.Stale)) else outstanding_row w p q)
    there true e sending = outstanding-told d w q p (record { laid = laid sending; first = s.requester.finished; begun = s.requester.begun })
        (leb-true q.requester.una w (and_parts (nat_le q.requester.una w) (nat_lt w q.requester.cursor) e).0)
        (omega (arith, ltb-true w q.requester.cursor (and_parts (nat_le q.requester.una w) (nat_lt w q.requester.cursor) e).1, s.begun sending)) lists
    there false e sending = plain (Told d w q p) (drop_effects q drops.Stale) (drop-told d w q p drops.Stale)

    by : (b : Bool) → is_sending q.state ≡ b → RowLeads (Told d w q p) (if not b then plain_row (Does (drop_effects q drops.State))
        else if not (is_outstanding_at w q) then plain_row (Does (drop_effects q drops.Stale)) else outstanding_row w p q)
    by true e = there (is_outstanding_at w q) refl e
    by false e = plain (Told d w q p) (drop_effects q drops.State) (drop-told d w q p drops.State)
