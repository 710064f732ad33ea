-- What rows leave of the message in progress: it stays, it ends, or a SEND packet that arrived goes on with it or begins
-- it, and puts its bytes into the list. For proofs only.
use Rattle.std.proofs.Common.{Bool, List, None, Option, Some, [], ap, false, if◌then◌else◌, length, nat_le, nat_lt, not, refl, slice_get, suc, sym, true, true≢false, ℕ, ◌&&◌, ◌||◌, ◌++◌, ◌+◌, ◌==◌, ◌<◌, ◌∙◌, ◌∷◌, ◌≡◌}
use Rattle.ca_base.specs.objects.QueuePair.{receive_in_use}
use Rattle.ca_keys.specs.Refusals.{first_of}
use Rattle.ca_model.specs.Packets.{begins_send, is_send}
use Rattle.ca_model.specs.Past.{bytes_written, or_none}
use Rattle.ca_model.specs.declared.read_left.ReadLeft.{ReadLeft}
use Rattle.ca_model.specs.machine.Respond.{answer_turn, is_last_response, respond_refusals, respond_row, rest_of, with_front, without_front}
use Rattle.ca_base.specs.declared.step.Reason.{Reason}
use Rattle.ca_wire.specs.Packet.{Fields}
use Rattle.std.specs.Option.{option_and_then}
use Rattle.ca_base.specs.declared.completion.WcStatus.TheVariants.{BadResponse, RetryExceeded, RnrRetryExceeded}
use Rattle.ca_base.specs.declared.denied_ask.DeniedAsk.{DeniedAsk}
use Rattle.ca_base.specs.declared.limits.TheConstants.{MAX_RETRY}
use Rattle.ca_base.specs.declared.queue_numbers.Queued.{Queued}
use Rattle.ca_base.specs.declared.queue_numbers.ResponderNumbers.{ResponderNumbers}
use Rattle.ca_base.specs.declared.refusals.OpRefusal.{OpRefusal}
use Rattle.ca_base.specs.declared.request.PlacedReceive.{PlacedReceive}
use Rattle.ca_base.specs.objects.LocalRequest.{LocalMarks}
use Rattle.ca_base.specs.objects.QueuePair.{QueuePair}
use Rattle.ca_base.specs.objects.StateTable.{is_among}
use Rattle.ca_law_world.proofs.Sound.WorldLemmas.{EndingDoes, RowDoes}
use Rattle.ca_model.specs.declared.mark.Mark.{Mark}
use Rattle.ca_model.specs.declared.receiving.Receiving.{Receiving}
use Rattle.ca_model.specs.machine.Acknowledgements.{Acknowledgement, acknowledgement_below, and_then, failure_effects, first_unanswered, one_retry, progress_to, with_cursor, with_requester, with_una}
use Rattle.ca_model.specs.machine.Expected.{receiving_of}
use Rattle.ca_model.specs.machine.LocalOperations.{operation_effects}
use Rattle.ca_model.specs.machine.Numbering.{Numbered, begun_requests, request_at}
use Rattle.ca_model.specs.machine.Requester.{denied_list_effects, is_outstanding, is_too_much, packet_asks, packet_row, sent_packet}
use Rattle.ca_model.specs.machine.Responses.{acknowledge_row, answer_row, drop_effects, fits_request, fitting_row, is_outstanding_at, nak_effects, outstanding_row, response_psn, response_row, rnr_nak_effects, unless_back}
use Rattle.ca_model.specs.machine.Row.{Does, Effects, NotPossible, Row, plain_row, queue_and_marks}
use Rattle.ca_model.specs.machine.Timers.{after_timeout}
use Rattle.ca_wire.specs.Packet.{Fields}
use Rattle.ca_wire.specs.declared.opcode.TheConstants.{ACKNOWLEDGE}
use Rattle.ca_wire.specs.Syndrome.{syndrome_in}
use Rattle.ca_wire.specs.declared.syndrome.NakCode.{NakCode}
use Rattle.ca_wire.specs.declared.syndrome.NakCode.TheVariants.{InvalidRequest, PsnSequenceError, RemoteAccessError, RemoteOperationalError}
use Rattle.ca_wire.specs.declared.syndrome.Syndrome.{Syndrome}
use Rattle.ca_wire.specs.declared.syndrome.Syndrome.TheVariants.{Ack, Nak, RnrNak}
use Rattle.ca_model.specs.declared.mark.Drop1.TheVariants as drops
use Rattle.ca_model.specs.declared.mark.Mark.TheVariants as marks
use Rattle.ca_base.specs.declared.queue_numbers.Message.TheVariants as messages
use Rattle.ca_base.specs.declared.queue_numbers.Queued.TheVariants as queued
use Rattle.ca_base.specs.declared.step.Reason.TheVariants as reasons
use Rattle.ca_base.specs.declared.change.State.TheVariants as states

-- ---- marks

-- the bytes that marks tell of as put into lists
abbrev pub put_by : Mark → List ℕ
put_by (marks.Local queue domain key kind address count verdict) = or_none (bytes_written verdict)
put_by m = []

abbrev pub puts_in : List Mark → List ℕ
puts_in [] = []
puts_in (m ∷ ms) = put_by m ++ puts_in ms

-- whether marks tell of a packet that was dropped
abbrev pub drops_by : Mark → Bool
drops_by (marks.Dropped target cause) = true
drops_by m = false

abbrev pub drops_in : List Mark → Bool
drops_in [] = false
drops_in (m ∷ ms) = drops_by m || drops_in ms

-- ---- queue pairs

-- the message in progress is another's, or holds no receive
pub data IsLess (q p : QueuePair) : Type 0 where
  keeps : p.responder.message ≡ q.responder.message → IsLess q p
  loses : receive_in_use p.responder.message ≡ None → IsLess q p

-- The message in progress goes on as it was, and a SEND that arrived puts nothing; or it holds no receive; or a SEND that
-- arrived goes on with it, or begins it with the next receive.
pub data Held (o : Option Fields) (next : Option PlacedReceive) (q : QueuePair) (e : Effects) : Type 0 where
  gone : receive_in_use e.queue.responder.message ≡ None → Held o next q e
  kept : e.queue.responder.message ≡ q.responder.message → ((p : Fields) → o ≡ Some p → is_send p.opcode ≡ true → puts_in e.marks ≡ []) → Held o next q e
  grows : (p : Fields) (r : Receiving) → o ≡ Some p → is_send p.opcode ≡ true → receiving_of q next q.responder.message ≡ Some r → begins_send p.opcode ≡ r.taken
      → length (puts_in e.marks) ≡ length p.payload → 0 < length p.payload → drops_in e.marks ≡ false
      → e.queue.responder.message ≡ Some (messages.Send r.receive.place r.receive.receive (r.before + length p.payload)) → Held o next q e

less-same : (q p : QueuePair) → p.responder ≡ q.responder → IsLess q p
less-same q p same = keeps (ap (λ (r : ResponderNumbers). r.message) same)

less-then : (q p r : QueuePair) → IsLess q p → IsLess p r → IsLess q r
less-then q p r one (loses none) = loses none
less-then q p r (keeps same) (keeps more) = keeps (more ∙ same)
less-then q p r (loses none) (keeps more) = loses (ap receive_in_use more ∙ none)

una-same : (psn : ℕ) (q : QueuePair) → (with_una psn q).responder ≡ q.responder
una-same psn q = by (nat_lt q.requester.una psn)
  where
    by : (b : Bool) → (if b then with_requester (record q.requester { una = psn; retries = 0; rnrs = 0 }) q else q).responder ≡ q.responder
    by true = refl
    by false = refl

progress-less : (psn : ℕ) (q : QueuePair) → IsLess q (progress_to psn q).queue
progress-less psn q = less-same q (progress_to psn q).queue (una-same psn q)

retry-less : (psn : ℕ) (q : QueuePair) → IsLess q (one_retry psn q).queue
retry-less psn q = by (nat_le q.requester.retry q.requester.retries)
  where
    counted : QueuePair
    counted = with_requester (record q.requester { retries = suc q.requester.retries }) q

    by : (b : Bool) → IsLess q (if b then failure_effects RetryExceeded None counted else queue_and_marks (with_cursor psn counted) []).queue
    by true = loses refl
    by false = keeps refl

below-less : (psn : ℕ) (q : QueuePair) → IsLess q (acknowledgement_below psn q).effects.queue
below-less psn q = by (first_unanswered q.requester.una psn (begun_requests q))
  where
    after : Option ℕ → Acknowledgement
    after None = record { effects = progress_to psn q; went_back = false }
    after (Some back) = record { effects = and_then (progress_to back q) (one_retry back); went_back = true }

    by : (back : Option ℕ) → IsLess q (after back).effects.queue
    by None = progress-less psn q
    by (Some back) = less-then q (progress_to back q).queue (one_retry back (progress_to back q).queue).queue (progress-less back q) (retry-less back (progress_to back q).queue)

back-less : (q : QueuePair) (a : Acknowledgement) (f : QueuePair → Effects) → IsLess q a.effects.queue → IsLess a.effects.queue (f a.effects.queue).queue → IsLess q (unless_back a f).queue
back-less q a f one other = by a.went_back
  where
    by : (b : Bool) → IsLess q (if b then a.effects else and_then a.effects f).queue
    by true = one
    by false = less-then q a.effects.queue (f a.effects.queue).queue one other

rnr-less : (psn : ℕ) (q : QueuePair) → IsLess q (rnr_nak_effects psn q).queue
rnr-less psn q = by (nat_lt q.requester.rnr_retry MAX_RETRY && nat_le q.requester.rnr_retry q.requester.rnrs)
  where
    counted : QueuePair
    counted = with_requester (record q.requester { rnrs = suc q.requester.rnrs }) q

    by : (b : Bool) → IsLess q (if b then failure_effects RnrRetryExceeded None counted
        else queue_and_marks (with_requester (record counted.requester { cursor = psn; waiting = true }) q) []).queue
    by true = loses refl
    by false = keeps refl

nak-less : (psn : ℕ) (code : NakCode) (q : QueuePair) → IsLess q (nak_effects psn code q).queue
nak-less psn PsnSequenceError q = retry-less psn q
nak-less psn InvalidRequest q = loses refl
nak-less psn RemoteAccessError q = loses refl
nak-less psn RemoteOperationalError q = loses refl

acknowledge-less : (psn : ℕ) (syndrome : Option Syndrome) (q : QueuePair) → IsLess q (acknowledge_row psn syndrome q).queue
acknowledge-less psn (Some (Ack credits)) q = below-less (suc psn) q
acknowledge-less psn (Some (RnrNak timer)) q =
    back-less q (acknowledgement_below psn q) (rnr_nak_effects psn) (below-less psn q) (rnr-less psn (acknowledgement_below psn q).effects.queue)
acknowledge-less psn (Some (Nak code)) q =
    back-less q (acknowledgement_below psn q) (nak_effects psn code) (below-less psn q) (nak-less psn code (acknowledgement_below psn q).effects.queue)
acknowledge-less psn None q = keeps refl

-- ---- rows that are no SEND's

-- no SEND arrived
abbrev pub IsNoSend : Option Fields → Type 0
IsNoSend o = (p : Fields) → o ≡ Some p → is_send p.opcode ≡ false

module _ (o : Option Fields) (next : Option PlacedReceive) (none : IsNoSend o) where
  pub held : (q : QueuePair) (e : Effects) → IsLess q e.queue → Held o next q e
  held q e (keeps same) = kept same (λ p is sends. absurd (true≢false (sym sends ∙ none p is)))
  held q e (loses gone_) = gone gone_

  pub plainly : (q : QueuePair) (e : Effects) → IsLess q e.queue → RowDoes (Held o next q) (plain_row (Does e))
  plainly q e less = record { denied = λ d. held q e less; allowed = λ bytes refusal. held q e less }

  answer-held : (psn : ℕ) (p : Fields) (q : QueuePair) (before : Effects) (n : Numbered) → IsLess q before.queue → RowDoes (Held o next q) (answer_row psn p before n)
  answer-held psn p q before n less = record {
    denied = λ d. gone refl;
    allowed = λ bytes refusal. held q _ (less-then q before.queue (progress_to (suc psn) before.queue).queue less (progress-less (suc psn) before.queue));
  }

  fitting-held : (psn : ℕ) (p : Fields) (q : QueuePair) (a : Acknowledgement) → IsLess q a.effects.queue → RowDoes (Held o next q) (fitting_row psn p a)
  fitting-held psn p q a less = back a.went_back
    where
      bad : Row
      bad = plain_row (Does (and_then a.effects (failure_effects BadResponse None)))

      at : Option Numbered → Row
      at None = bad
      at (Some n) = if fits_request psn p a.effects.queue n then answer_row psn p a.effects n else bad

      is_bad : RowDoes (Held o next q) bad
      is_bad = plainly q (and_then a.effects (failure_effects BadResponse None)) (loses refl)

      fits : (n : Numbered) (b : Bool) → RowDoes (Held o next q) (if b then answer_row psn p a.effects n else bad)
      fits n true = answer-held psn p q a.effects n less
      fits n false = is_bad

      by : (n : Option Numbered) → RowDoes (Held o next q) (at n)
      by None = is_bad
      by (Some n) = fits n (fits_request psn p a.effects.queue n)

      back : (b : Bool) → RowDoes (Held o next q) (if b then plain_row (Does a.effects) else at (request_at psn a.effects.queue))
      back true = plainly q a.effects less
      back false = by (request_at psn a.effects.queue)

  pub response-held : (p : Fields) (q : QueuePair) → RowDoes (Held o next q) (response_row p q)
  response-held p q = by (is_among (states.Rts ∷ states.Sqd ∷ []) q.state)
    where
      psn : ℕ
      psn = response_psn q p

      opcode : (b : Bool) → RowDoes (Held o next q) (if b then plain_row (Does (acknowledge_row psn (option_and_then (λ a. syndrome_in a.syndrome) p.aeth) q))
          else fitting_row psn p (acknowledgement_below psn q))
      opcode true = plainly q _ (acknowledge-less psn (option_and_then (λ a. syndrome_in a.syndrome) p.aeth) q)
      opcode false = fitting-held psn p q (acknowledgement_below psn q) (below-less psn q)

      there : (b : Bool) → RowDoes (Held o next q) (if not b then plain_row (Does (drop_effects q drops.Stale)) else outstanding_row psn p q)
      there true = opcode (p.opcode == ACKNOWLEDGE)
      there false = plainly q _ (keeps refl)

      by : (b : Bool) → RowDoes (Held o next q) (if not b then plain_row (Does (drop_effects q drops.State))
          else if not (is_outstanding_at psn q) then plain_row (Does (drop_effects q drops.Stale)) else outstanding_row psn p q)
      by true = there (is_outstanding_at psn q)
      by false = plainly q _ (keeps refl)

  -- ---- turns

  pub packet-held : (q : QueuePair) (room : Bool) (n : Numbered) → RowDoes (Held o next q) (packet_row q room n)
  packet-held q room n = by (is_too_much q n)
    where
      row : Row
      row = record {
        asks = packet_asks q n;
        invalidation = None;
        denied = λ d.
            if is_outstanding q then NotPossible reasons.Outstanding
            else if not room then NotPossible reasons.NoRoom
            else Does (denied_list_effects q d);
        allowed = λ bytes refusal. if not room then NotPossible reasons.NoRoom else Does (sent_packet q n bytes);
      }

      denied : (d : DeniedAsk) (b z : Bool) → EndingDoes (Held o next q) (if b then NotPossible reasons.Outstanding else if not z then NotPossible reasons.NoRoom else Does (denied_list_effects q d))
      denied d true z = record {}
      denied d false true = gone refl
      denied d false false = record {}

      allowed : (bytes : List (List ℕ)) (z : Bool) → EndingDoes (Held o next q) (if not z then NotPossible reasons.NoRoom else Does (sent_packet q n bytes))
      allowed bytes true = held q _ (keeps refl)
      allowed bytes false = record {}

      by : (b : Bool) → RowDoes (Held o next q) (if b then plain_row (NotPossible reasons.Outstanding) else row)
      by true = record { denied = λ d. record {}; allowed = λ bytes refusal. record {} }
      by false = record { denied = λ d. denied d (is_outstanding q) room; allowed = λ bytes refusal. allowed bytes room }

  pub operation-held : (q : QueuePair) (n : Numbered) (windows : ℕ) (m : LocalMarks) (refusal : Option OpRefusal) → Held o next q (operation_effects q n (record q { windows = windows }) m refusal)
  operation-held q n windows m (Some cause) = gone refl
  operation-held q n windows m None = held q _ (keeps refl)

  pub timeout-held : (q : QueuePair) (silent : Bool) → Held o next q (after_timeout silent q)
  timeout-held q silent = by (retry-less q.requester.una counted)
    where
      counted : QueuePair
      counted = with_requester (record q.requester { timers = suc q.requester.timers }) q

      by : IsLess counted (one_retry q.requester.una counted).queue → Held o next q (after_timeout silent q)
      by (keeps same) = held q _ (keeps same)
      by (loses none) = gone none

  turn-held : (q : QueuePair) (a : Queued) → RowDoes (Held o next q) (answer_turn q a)
  turn-held q (queued.Ack psn) = plainly q _ (keeps refl)
  turn-held q (queued.Rnr psn) = plainly q _ (keeps refl)
  turn-held q (queued.Nak psn code) = plainly q _ (keeps refl)
  turn-held q (queued.Read psn key address left first envelope duplicate) = record {
    denied = λ d. gone refl;
    allowed = λ bytes refusal. held q _ (answered (is_last_response q r));
  }
    where
      r : ReadLeft
      r = record { psn = psn; key = key; address = address; left = left; first = first; envelope = envelope; duplicate = duplicate }

      answered : (b : Bool) → IsLess q (if b then without_front q else with_front (rest_of q r) q)
      answered true = keeps refl
      answered false = keeps refl
  turn-held q (queued.Atomic psn found duplicate) = plainly q _ (keeps refl)

  pub respond-held : (room : Bool) (q : QueuePair) → RowDoes (Held o next q) (respond_row room q)
  respond-held room q = by (first_of (respond_refusals room q)) (slice_get q.responder.answers 0)
    where
      row : Option Reason → Option Queued → Row
      row (Some reason) answer = plain_row (NotPossible reason)
      row None None = plain_row (NotPossible reasons.Empty)
      row None (Some answer) = answer_turn q answer

      by : (r : Option Reason) (a : Option Queued) → RowDoes (Held o next q) (row r a)
      by (Some reason) answer = record { denied = λ d. record {}; allowed = λ bytes refusal. record {} }
      by None None = record { denied = λ d. record {}; allowed = λ bytes refusal. record {} }
      by None (Some answer) = turn-held q answer
