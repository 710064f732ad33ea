-- Each call of the requester leaves a queue pair that comes up, over parts that fit each other.
use Rattle.std.proofs.Common.{arith, ◌≡◌, ℕ, IsTrue, not, Bool, true, false, true≢false, List, [], ◌∷◌, map, Option, None, Some, Result, Ok, Err, IsOk, IfOk, IfErr, refl, sym, subst, ap, ◌∙◌}
use Rattle.std.proofs.lemmas.Bool.{not-false}
use Rattle.std.specs.List.{AllByRecursion}
use Rattle.std.specs.Option.{option_and_then}
use Rattle.ca_keys.specs.declared.access.Ask.{Ask}
use Rattle.ca_keys.specs.declared.memory.Memory.{Memory}
use Rattle.ca_base.specs.declared.step.Reason.TheVariants as reasons
use Rattle.ca_base.specs.declared.step.Sent.{Sent}
use Rattle.ca_base.specs.declared.step.ActError.{ActError}
use Rattle.ca_base.specs.declared.step.ActError.TheVariants as steps
use Rattle.ca_base.specs.declared.denied_ask.DeniedAsk.{DeniedAsk}
use Rattle.ca_base.specs.Sight.{Sight, bytes_in, first_denied}
use Rattle.ca_keys.specs.Refusals.{first_of}
use Rattle.ca_base.specs.declared.refusals.OpRefusal.{OpRefusal}
use Rattle.ca_base.specs.objects.QueuePair.{QueuePair}
use Rattle.ca_grant.specs.Reaching.{AreAtHand}
use Rattle.ca_law_world.proofs.Sound.ResponseLemmas.{IsGoodEnding, IsGoodRow, plain-good, response-good}
use Rattle.ca_law_world.proofs.Sound.TurnLemmas.{all-fail, operation-good, packet-good, timeout-good, wake-good}
use Rattle.ca_qpstate.specs.ComesUp.{AreDepths}
use Rattle.ca_model.specs.machine.Invariants.{IsList, IsQueue, is_sending}
use Rattle.ca_model.specs.machine.Requester.{RequestTurn, Waits, Performs, Sends, turn_of}
use Rattle.ca_model.specs.machine.Responses.{response_row}
use Rattle.ca_model.specs.machine.Timers.{after_timeout, after_wake, timeout_refusals}
use Rattle.ca_model.specs.machine.Row.{Ending, NotPossible, Does, Row, ending_of}
use Rattle.ca_base.specs.declared.request.SendRequest.{SendRequest}
use Rattle.ca_base.specs.declared.request.PostedSend.{PostedSend}
use Rattle.ca_base.specs.objects.WorkQueue.{WorkQueue, is_full, next_place, with_item}
use Rattle.ca_law_world.proofs.Sound.VerbLemmas.{posted-send}
use Rattle.ca_model.specs.Requests.{list_of}
use Rattle.ca_model.specs.machine.PostingVerbs.{with_send}
use Rattle.ca_base.specs.declared.step.Reason.{Reason}
use Rattle.ca_model.specs.Marks.{MarkList}
use Rattle.ca_requester.specs.Timers.{IsPlainStep, IsStep}
use Rattle.ca_requester.specs.ca_requester_sends.Turn.{IsOperationEnd, no_marks, operation_end, turn_row}
use Rattle.ca_qp_rows.specs.Made.{IsTurn, IsTaking, written_all}
use Rattle.test_fixture_reach.specs.SmallLaws.{small-keeps}
use Rattle.test_fixture_reach.specs.SmallReach.{FitTogether, IsAskHere, after_write_by, sight_of}
use Rattle.test_fixture_reach.specs.declared.small_reach.SmallReach.{SmallReach}
use Rattle.test_fixture_requester.specs.Bed.{Stands}
use Rattle.test_fixture_requester.specs.declared.bed.Bed.{Bed}
use Rattle.ca_wire.specs.Packet.{Fields}

-- a good row ends well, whatever is seen
pub ends-good : (q : QueuePair) (s : Sight) (row : Row) → IsGoodRow q row → IsGoodEnding q (ending_of s row)
ends-good q s row good = by (first_denied s row.asks) refl
  where
    by : (o : Option DeniedAsk) → first_denied s row.asks ≡ o → IsGoodEnding q (ending_of s row)
    by (Some d) e = rw e (good.denied d)
    by None e = rw e (good.allowed (map (bytes_in s) row.asks) (option_and_then s.refusal row.invalidation))

-- the row of a turn is good
turn-good : (q : QueuePair) (room : Bool) → IsQueue q → IsGoodRow q (turn_row q room)
turn-good q room is = by (turn_of q) refl
  where
    by : (t : RequestTurn) → turn_of q ≡ t → IsGoodRow q (turn_row q room)
    by (Waits reason) e = rw e (plain-good q (NotPossible reason) (record {}))
    by (Performs n) e = rw e (plain-good q (NotPossible reasons.Empty) (record {}))
    by (Sends n) e = rw e (packet-good q room n is e)

-- writes leave parts that fit each other
pub writes-keep : (xs : List (Ask × List ℕ)) (s : SmallReach) → FitTogether s → FitTogether (written_all after_write_by s xs)
writes-keep [] s fit = fit
writes-keep (x ∷ xs) s fit = writes-keep xs (after_write_by s x.0 x.1) (small-keeps s x.0 x.1 fit)

-- what is kept by a call
pub record IsKept (q : QueuePair) (s : SmallReach) : Type 0 where
  pub queue : IsQueue q
  pub reach : FitTogether s

-- nothing changed
same-kept : (q new : QueuePair) (s t : SmallReach) → IsKept q s → new ≡ q → t ≡ s → IsKept new t
same-kept q new s t kept same reach = rw (same, reach) kept

turn-ending-kept : (result : Result Sent ActError) (ending : Ending) (q new : QueuePair) (before after : MarkList) (s t : SmallReach) (out_before out_after : List ℕ)
    → IsKept q s → IsGoodEnding q ending → IsTurn after_write_by result ending q new before after s t out_before out_after → IsKept new t
turn-ending-kept (Ok sent) (Does e) q new before after s t out_before out_after kept good h =
    rw (h.1.0.queue, h.1.1.0) (record { queue = good.sound; reach = writes-keep e.writes s kept.reach })
turn-ending-kept (Ok sent) (NotPossible reason) q new before after s t out_before out_after kept good h = absurd h
turn-ending-kept (Err (steps.NotReady reason)) ending q new before after s t out_before out_after kept good h =
    same-kept q new s t kept h.1.0.queue h.1.1.0
turn-ending-kept (Err steps.Memory) ending q new before after s t out_before out_after kept good h = same-kept q new s t kept h.0.queue h.1.0

pub turn_kept : (result : Result Sent ActError) (sight : Sight) (room : Bool) (q new : QueuePair) (before after : MarkList) (s t : SmallReach) (out_before out_after : List ℕ)
    → IsKept q s → IsTurn after_write_by result (ending_of sight (turn_row q room)) q new before after s t out_before out_after → IsKept new t
turn_kept result sight room q new before after s t out_before out_after kept h =
    turn-ending-kept result (ending_of sight (turn_row q room)) q new before after s t out_before out_after kept
    (ends-good q sight (turn_row q room) (turn-good q room kept.queue)) h

taking-ending-kept : (result : Result (Unit {0}) Memory) (ending : Ending) (q new : QueuePair) (before after : MarkList) (s t : SmallReach)
    → IsKept q s → IsGoodEnding q ending → IsTaking after_write_by result ending q new before after s t → IsKept new t
taking-ending-kept (Ok done) (Does e) q new before after s t kept good h =
    rw (h.0.queue, h.1) (record { queue = good.sound; reach = writes-keep e.writes s kept.reach })
taking-ending-kept (Ok done) (NotPossible reason) q new before after s t kept good h = absurd h
taking-ending-kept (Err memory) ending q new before after s t kept good h = same-kept q new s t kept h.0.queue h.1

pub taking_kept : (result : Result (Unit {0}) Memory) (sight : Sight) (p : Fields) (q new : QueuePair) (before after : MarkList) (s t : SmallReach)
    → IsKept q s → IsTaking after_write_by result (ending_of sight (response_row p q)) q new before after s t → IsKept new t
taking_kept result sight p q new before after s t kept h =
    taking-ending-kept result (ending_of sight (response_row p q)) q new before after s t kept
    (ends-good q sight (response_row p q) (response-good p q kept.queue)) h

pub stands_by : (b : Bed) → IsKept b.queue b.reach → Stands b
stands_by b kept = record { queue = kept.queue; reach = kept.reach }

-- asks of this adapter may be handed on
pub at_hand : (s : SmallReach) {asks bs : List Ask} → asks ≡ bs → AllByRecursion (IsAskHere s) asks → AllByRecursion (λ ask. Unit {0}) asks
    → AreAtHand sight_of IsAskHere (λ s ask. Unit {0}) s bs
at_hand s same keys bytes = record { keys = subst (AllByRecursion (IsAskHere s)) same keys; bytes = λ none. subst (AllByRecursion (λ ask. Unit {0})) same bytes }

timeout-kept : (silent hasten : Bool) (q new : QueuePair) → IsQueue q → first_of (timeout_refusals silent hasten q) ≡ None → new ≡ (after_timeout silent q).queue → IsQueue new
timeout-kept silent hasten q new is none same =
    rw same (timeout-good q silent is (not-false (is_sending q.state) (all-fail (timeout_refusals silent hasten q) none).0)).sound

pub timeout_kept : (result : Result (Unit {0}) ActError) (silent hasten : Bool) (q new : QueuePair) (before after : MarkList) → IsQueue q
    → IsStep result (first_of (timeout_refusals silent hasten q)) (after_timeout silent q) q new before after → IsQueue new
timeout_kept (Ok done) silent hasten q new before after is h = timeout-kept silent hasten q new is h.0 h.1.queue
timeout_kept (Err error) silent hasten q new before after is h = rw h.1.queue is

pub wake_kept : (result : Result (Unit {0}) Reason) (refusal : Option Reason) (q new : QueuePair) → IsQueue q
    → IsPlainStep result refusal (after_wake q) q new → IsQueue new
wake_kept (Ok done) refusal q new is h = rw h.1 (wake-good q is).sound
wake_kept (Err reason) refusal q new is h = rw h.1 is

operation-kept : (q new : QueuePair) (cause : Option OpRefusal) → IsQueue q → new ≡ (operation_end q cause).queue → IsQueue new
operation-kept q new cause is same = rw same (by (turn_of q) refl)
  where
    by : (t : RequestTurn) → turn_of q ≡ t → IsQueue (operation_end q cause).queue
    by (Performs n) e = rw e (operation-good q n q.windows no_marks cause is e).sound
    by (Waits reason) e = rw e is
    by (Sends n) e = rw e is

pub operation_kept : (result : Result (Unit {0}) Memory) (cause : Option OpRefusal) (q new : QueuePair) (before after : MarkList) → IsQueue q
    → IsOperationEnd result cause (operation_end q cause) q new before after → IsQueue new
operation_kept (Ok done) None q new before after is h = operation-kept q new None is h.queue
operation_kept (Err error) None q new before after is h = absurd h
operation_kept (Ok done) (Some cause) q new before after is h = operation-kept q new (Some cause) is h.queue
operation_kept (Err error) (Some cause) q new before after is h = rw h.queue is

posted-kept : (q p : QueuePair) (request : SendRequest) → IsQueue q → IsList (list_of request.op) → IsTrue (not (is_full q.sends)) → p ≡ with_send request None q → IsQueue p
posted-kept q p request is list free same = rw same (posted-send q request None is list (by (is_full q.sends) free))
  where
    by : (b : Bool) → IsTrue (not b) → b ≡ false
    by true h = absurd (true≢false (sym h))
    by false h = refl

pub posted_kept : (q p : QueuePair) (request : SendRequest) (result : Result ℕ PostedSend) (sends : WorkQueue PostedSend) → IsQueue q → IsList (list_of request.op)
    → (IsOk result → IsTrue (not (is_full q.sends)))
    → IfOk result (λ place. (place ≡ next_place q.sends) × (sends ≡ with_item (record { request = request; drawn = None }) q.sends))
    → IfErr result (λ refused. (refused ≡ record { request = request; drawn = None }) × (sends ≡ q.sends)) → p ≡ record q { sends = sends } → IsQueue p
posted_kept q p request (Ok place) sends is list free ok full same =
    posted-kept q p request is list (free refl) (same ∙ ap (λ x. record q { sends = x }) ok.1)
posted_kept q p request (Err refused) sends is list free ok full same = rw (same, full.1) is

-- queues of the greatest depth are some that come up
pub full_depths : (srq : Option ℕ) → AreDepths 256 256 srq
full_depths None = ((omega arith, omega arith), (omega arith, omega arith))
full_depths (Some srq) = (omega arith, omega arith)
