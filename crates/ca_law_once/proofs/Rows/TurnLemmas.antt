-- What turns, timers, wakes and local operations leave of both sides, in the words of the laws.
use Rattle.std.specs.List.{flat_map}
use Rattle.ca_base.specs.declared.queue_numbers.Queued.{Queued}
use Rattle.ca_base.specs.declared.queue_numbers.Queued.TheVariants as queued
use Rattle.ca_base.specs.declared.step.Reason.{Reason}
use Rattle.ca_base.specs.declared.step.Reason.TheVariants as reasons
use Rattle.ca_keys.specs.Refusals.{first_of}
use Rattle.ca_law_world.proofs.Sound.TurnLemmas.{sends-parts}
use Rattle.ca_model.specs.machine.Row.{Does, NotPossible, Row, plain_row}
use Rattle.ca_law_once.proofs.Rows.EntryLemmas.{acknowledge-is-response, found-spelt, peer-fits, read-spelt, request-is-no-response}
use Rattle.ca_law_once.proofs.Rows.RequestRowLemmas.{cond-row, plain}
use Rattle.ca_wire.specs.declared.syndrome.NakCode.TheVariants as codes
use Rattle.ca_wire.specs.declared.syndrome.Syndrome.TheVariants as syndromes
use Rattle.ca_wire.specs.declared.syndrome.TheConstants.{UNLIMITED_CREDITS}
use Rattle.std.proofs.Common.{slice_get, nat_le, not, None, Some, refl, ◌≡◌, ℕ, Bool, Option, true}
use Rattle.ca_base.specs.declared.refusals.OpRefusal.{OpRefusal}
use Rattle.ca_base.specs.objects.LocalRequest.{LocalMarks}
use Rattle.ca_base.specs.objects.QueuePair.{QueuePair}
use Rattle.ca_connection.specs.Layout.{Direction}
use Rattle.ca_model.specs.machine.Invariants.{IsQueue, is_sending}
use Rattle.ca_model.specs.machine.LocalOperations.{operation_effects}
use Rattle.ca_model.specs.machine.Numbering.{Numbered}
use Rattle.ca_model.specs.machine.Requester.{Sends, denied_list_effects, is_outstanding, is_too_much, next_request, packet_row, peer_number, sent_packet, turn_of, turn_refusals}
use Rattle.ca_model.specs.machine.Respond.{answer_turn, nak_of, respond_refusals, respond_row, response_segment}
use Rattle.ca_model.specs.machine.Timers.{after_timeout, after_wake}
use Rattle.ca_law_once.proofs.Rows.ArrivalLemmas.{weaker}
use Rattle.ca_law_once.proofs.Rows.ForgetLemmas.{Forgets, cond-ending, forgets-in, forgets-state, packet-forgets, timeout-forgets, wake-forgets}
use Rattle.ca_law_once.proofs.Rows.OperationLemmas.{operation-forgets}
use Rattle.ca_law_once.proofs.Rows.StayLemmas.{Stays, respond-stays, stays-in, stays-state, timeout-goes-back}
use Rattle.ca_law_once.specs.Moves.{ForgetsIn, GoesBackIn, LeavesState, RowLeads, SendsRequests, SendsResponses, StaysIn}
use Rattle.ca_law_once.specs.Sides.{IsLaid, requester_in, responder_in}

pub packet-row-forgets : (d : Direction) (q : QueuePair) (room : Bool) (n : Numbered) → q.responder.mtu ≡ d.mtu → RowLeads (ForgetsIn d (responder_in q)) (packet_row q room n)
packet-row-forgets d q room n mtu = weaker (λ e. Forgets q e.queue) (ForgetsIn d (responder_in q)) (packet_row q room n) (λ e does. forgets-in d q e mtu does) (packet-forgets q room n)

pub respond-row-stays : (d : Direction) (q : QueuePair) (room : Bool) → (is_sending q.state ≡ true → IsLaid d q) → RowLeads (StaysIn d (requester_in q)) (respond_row room q)
respond-row-stays d q room laid = weaker (λ e. Stays q e.queue) (StaysIn d (requester_in q)) (respond_row room q) (λ e does. stays-in d q e laid does) (respond-stays room q)

pub timeout-requester : (d : Direction) (silent : Bool) (q : QueuePair) → IsQueue q → (is_sending q.state ≡ true → IsLaid d q) → GoesBackIn d (requester_in q) (after_timeout silent q)
timeout-requester d silent q s laid = timeout-goes-back d silent q laid s.requester.outstanding

pub timeout-responder : (d : Direction) (silent : Bool) (q : QueuePair) → q.responder.mtu ≡ d.mtu → ForgetsIn d (responder_in q) (after_timeout silent q)
timeout-responder d silent q mtu = forgets-in d q (after_timeout silent q) mtu (timeout-forgets silent q)

pub wake-responder : (d : Direction) (q : QueuePair) → q.responder.mtu ≡ d.mtu → ForgetsIn d (responder_in q) (after_wake q)
wake-responder d q mtu = forgets-in d q (after_wake q) mtu (wake-forgets q)

pub operation-responder : (d : Direction) (q : QueuePair) (n : Numbered) (windows : ℕ) (m : LocalMarks) (refusal : Option OpRefusal) → q.responder.mtu ≡ d.mtu
    → ForgetsIn d (responder_in q) (operation_effects q n (record q { windows = windows }) m refusal)
operation-responder d q n windows m refusal mtu = forgets-in d q (operation_effects q n (record q { windows = windows }) m refusal) mtu (operation-forgets q n windows m refusal)

-- each of these stays in its state, or moves to Error
pub packet-state : (q : QueuePair) (room : Bool) (n : Numbered) → RowLeads (LeavesState q) (packet_row q room n)
packet-state q room n = weaker (λ e. Forgets q e.queue) (LeavesState q) (packet_row q room n) (λ e does. forgets-state q e does) (packet-forgets q room n)

pub respond-state : (q : QueuePair) (room : Bool) → RowLeads (LeavesState q) (respond_row room q)
respond-state q room = weaker (λ e. Stays q e.queue) (LeavesState q) (respond_row room q) (λ e does. stays-state q e does) (respond-stays room q)

pub timeout-state : (silent : Bool) (q : QueuePair) → LeavesState q (after_timeout silent q)
timeout-state silent q = forgets-state q (after_timeout silent q) (timeout-forgets silent q)

pub wake-state : (q : QueuePair) → LeavesState q (after_wake q)
wake-state q = forgets-state q (after_wake q) (wake-forgets q)

pub operation-state : (q : QueuePair) (n : Numbered) (windows : ℕ) (m : LocalMarks) (refusal : Option OpRefusal) → LeavesState q (operation_effects q n (record q { windows = windows }) m refusal)
operation-state q n windows m refusal = forgets-state q (operation_effects q n (record q { windows = windows }) m refusal) (operation-forgets q n windows m refusal)

-- ---- what is sent, whatever the direction

pub packet-requests : (q : QueuePair) (room : Bool) (n : Numbered) → IsQueue q → turn_of q ≡ Sends n → RowLeads SendsRequests (packet_row q room n)
packet-requests q room n s turn = cond-row SendsRequests (is_too_much q n) _ _ (record { denied = λ d. record {}; allowed = λ bytes refusal. record {} }) (record {
  denied = λ d. cond-ending SendsRequests (is_outstanding q) (NotPossible reasons.Outstanding) _ (record {}) (cond-ending SendsRequests (not room) (NotPossible reasons.NoRoom) (Does (denied_list_effects q d)) (record {}) (record {}));
  allowed = λ bytes refusal. cond-ending SendsRequests (not room) (NotPossible reasons.NoRoom) (Does (sent_packet q n bytes)) (record {})
      (request-is-no-response q n (flat_map (λ b. b) bytes) s (sends-parts (first_of (turn_refusals q)) (next_request q) n turn).2);
})

answer-responses : (q : QueuePair) (a : Queued) → IsQueue q → RowLeads SendsResponses (answer_turn q a)
answer-responses q (queued.Ack psn) s = plain SendsResponses _ (record { sent = refl; spells = acknowledge-is-response (syndromes.Ack UNLIMITED_CREDITS) (peer_number q) psn q.responder.msn (peer-fits q s) })
answer-responses q (queued.Rnr psn) s = plain SendsResponses _ (record { sent = refl; spells = acknowledge-is-response (syndromes.RnrNak q.responder.rnr_code) (peer_number q) psn q.responder.msn (peer-fits q s) })
answer-responses q (queued.Nak psn code) s = plain SendsResponses _ (record { sent = refl; spells = acknowledge-is-response (syndromes.Nak (nak_of code)) (peer_number q) psn q.responder.msn (peer-fits q s) })
answer-responses q (queued.Read psn key address left begins envelope duplicate) s = record {
  denied = λ d. record { sent = refl; spells = acknowledge-is-response (syndromes.Nak codes.RemoteAccessError) (peer_number q) psn q.responder.msn (peer-fits q s) };
  allowed = λ bytes refusal. record { sent = refl; spells = λ p is. (read-spelt (response_segment begins (nat_le left q.responder.mtu)) left (peer_number q) psn q.responder.msn (flat_map (λ b. b) bytes) (peer-fits q s) p is).0 };
}
answer-responses q (queued.Atomic psn found duplicate) s = plain SendsResponses _ (record { sent = refl; spells = λ p is. (found-spelt found (peer_number q) psn q.responder.msn (peer-fits q s) p is).0 })

pub respond-responses : (q : QueuePair) (room : Bool) → IsQueue q → RowLeads SendsResponses (respond_row room q)
respond-responses q room s = by (first_of (respond_refusals room q)) (slice_get q.responder.answers 0)
  where
    row : Option Reason → Option Queued → Row
    row (Some reason) answer = plain_row (NotPossible reason)
    row None None = plain_row (NotPossible reasons.Empty)
    row None (Some answer) = answer_turn q answer

    by : (o : Option Reason) (a : Option Queued) → RowLeads SendsResponses (row o a)
    by (Some reason) a = record { denied = λ d. record {}; allowed = λ bytes refusal. record {} }
    by None None = record { denied = λ d. record {}; allowed = λ bytes refusal. record {} }
    by None (Some a) = answer-responses q a s
