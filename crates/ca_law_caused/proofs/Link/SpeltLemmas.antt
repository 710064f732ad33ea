-- The responses that a queue pair spells: one that refuses a request has its reason. For proofs only.
use Rattle.std.proofs.Common.{◌≡◌, ℕ, inl, ◌==◌, ◌^◌, ◌<◌, Bool, true, false, if◌then◌else◌, List, [], ◌∷◌, Option, None, Some, Ok, is_some, slice_get, drop, refl, ap, sym, subst, ◌∙◌, arith, true≢false, zero, suc}
use Rattle.std.proofs.lemmas.Bool.{eqb-true}
use Rattle.std.proofs.lemmas.Option.{same_Some}
use Rattle.std.specs.List.{flat_map}
use Rattle.std.specs.Option.{option_map}
use Rattle.ca_base.specs.declared.queue_numbers.Queued.{Queued}
use Rattle.ca_base.specs.declared.queue_numbers.Queued.TheVariants as queued
use Rattle.ca_base.specs.declared.step.Reason.{Reason}
use Rattle.ca_base.specs.declared.step.Reason.TheVariants as reasons
use Rattle.ca_base.specs.objects.QueuePair.{QueuePair}
use Rattle.ca_law_caused.proofs.Caused.SuchLemmas.{RowSuch}
use Rattle.ca_law_caused.proofs.Link.FaultLemmas.{TellFault}
use Rattle.ca_law_caused.proofs.Link.RowLemmas.{All, IsOf, one-ask, plainly}
use Rattle.ca_law_caused.specs.Refused.{HasBefallen, HasReason, SpellReason}
use Rattle.ca_connection.specs.Link.{NakReason}
use Rattle.ca_connection.specs.Link.Response.{Nak as LinkNak}
use Rattle.ca_connection.specs.Link.NakReason.{ReceiverNotReady, RemoteAccessError as AccessReason}
use Rattle.ca_keys.specs.Equal.{queue_eq}
use Rattle.ca_keys.specs.Refusals.{first_of}
use Rattle.ca_law_world.proofs.Sound.SettledLemmas.{queue-path}
use Rattle.ca_model.specs.Caused.{makes_access_error}
use Rattle.ca_model.specs.Packets.{answers_read}
use Rattle.ca_model.specs.Past.{DeniedAccess, Fault}
use Rattle.ca_model.specs.Progress.{Answers, Refuses, Response, response_in, response_of_syndrome}
use Rattle.ca_model.specs.declared.read_left.ReadLeft.{ReadLeft}
use Rattle.ca_model.specs.machine.Invariants.{IsQueue}
use Rattle.ca_model.specs.machine.Requester.{peer_number, psn_bits}
use Rattle.ca_model.specs.machine.Respond.{answer_turn, is_last_response, nak_of, read_row, respond_refusals, respond_row, response_ask, response_segment, rest_of, with_front, without_front}
use Rattle.ca_model.specs.machine.Row.{Effects, NotPossible, Row, plain_row}
use Rattle.ca_wire.specs.Decoding.{packet_in}
use Rattle.ca_wire.specs.Packet.{Fields, FitsBth, bth_of, spelling}
use Rattle.ca_wire.specs.Table.{row_of}
use Rattle.ca_wire.specs.declared.opcode.TheConstants.{ACKNOWLEDGE}
use Rattle.ca_law_once.proofs.Rows.DecodeLemmas.{Decoded, decoded}
use Rattle.ca_law_once.proofs.Rows.EntryLemmas.{found-spelt, nak-spelt, peer-fits, read-spelt}
use Rattle.ca_law_once.proofs.Rows.SpellLemmas.{aeth-decoded}
use Rattle.ca_law_once.specs.Entries.{SpellsResponse, Tells, syndrome_of}
use Rattle.ca_law_once.specs.Sides.{reason_of, said}
use Rattle.ca_wire.specs.Builders.{acknowledge}
use Rattle.ca_wire.specs.declared.syndrome.NakCode.{NakCode}
use Rattle.ca_wire.specs.declared.syndrome.NakCode.TheVariants as codes
use Rattle.ca_wire.specs.declared.syndrome.Syndrome.{Syndrome}
use Rattle.ca_wire.specs.declared.syndrome.Syndrome.TheVariants as syndromes
use Rattle.ca_wire.specs.declared.syndrome.TheConstants.{UNLIMITED_CREDITS}

-- ---- what a packet says

-- the code with which a response refuses
abbrev refusal_in : Option Response → Option NakCode
refusal_in (Some (Refuses code)) = Some code
refusal_in response = None

-- an Acknowledge packet says what its syndrome does
acknowledge-says : (p : Fields) → p.opcode ≡ ACKNOWLEDGE → response_in p ≡ option_map response_of_syndrome (syndrome_of p)
acknowledge-says p is = ap (λ n. if n == ACKNOWLEDGE then option_map response_of_syndrome (syndrome_of p) else Some Answers) is

-- its syndrome is a NAK with the code with which it refuses
told-reason : (reason : NakReason) (code : NakCode) (o : Option Syndrome) → Tells reason o → option_map response_of_syndrome o ≡ Some (Refuses code) → reason ≡ reason_of code
told-reason reason code None tells is = absurd (true≢false (sym (ap is_some is)))
told-reason reason code (Some (syndromes.Ack credits)) tells is = absurd tells
told-reason reason code (Some (syndromes.RnrNak timer)) tells is = absurd (true≢false (sym (ap (λ o. is_some (refusal_in o)) is)))
told-reason reason code (Some (syndromes.Nak codes.PsnSequenceError)) tells is = absurd (true≢false (sym (ap (λ o. is_some (refusal_in o)) is)))
told-reason reason code (Some (syndromes.Nak codes.InvalidRequest)) tells is = tells ∙ ap reason_of (same_Some codes.InvalidRequest code (ap refusal_in is))
told-reason reason code (Some (syndromes.Nak codes.RemoteAccessError)) tells is = tells ∙ ap reason_of (same_Some codes.RemoteAccessError code (ap refusal_in is))
told-reason reason code (Some (syndromes.Nak codes.RemoteOperationalError)) tells is = tells ∙ ap reason_of (same_Some codes.RemoteOperationalError code (ap refusal_in is))

-- a NAK for a reason that befell its sender
nak-reason : (fs : List Fault) (reason : NakReason) (psn : ℕ) (bytes : List ℕ) → SpellsResponse (LinkNak reason psn) bytes → HasBefallen reason fs → SpellReason fs bytes
nak-reason fs reason psn bytes spells befell p is response code refuses =
    subst (λ r. HasBefallen r fs) (told-reason reason code (syndrome_of p) (spells p is).1.says.1 (sym (acknowledge-says p (spells p is).1.says.0) ∙ refuses)) befell

-- a packet that is no Acknowledge refuses nothing
other-reason : (fs : List Fault) (bytes : List ℕ) → ((p : Fields) → packet_in bytes ≡ Ok p → (p.opcode == ACKNOWLEDGE) ≡ false) → SpellReason fs bytes
other-reason fs bytes other p is response code refuses = absurd (true≢false (sym (ap (λ o. is_some (refusal_in o))
    (sym (ap (λ b. if b then option_map response_of_syndrome (syndrome_of p) else Some Answers) (other p is)) ∙ refuses))))

same-number : (m n : ℕ) → (m == n) ≡ true → m ≡ n
same-number m n is = eqb-true m n is

-- a READ response is none
pub read-no-acknowledge : answers_read ACKNOWLEDGE ≡ false
unfolding row_of
read-no-acknowledge = refl

reads-not : (opcode : ℕ) → answers_read opcode ≡ true → (opcode == ACKNOWLEDGE) ≡ false
reads-not opcode reads = by (opcode == ACKNOWLEDGE) refl
  where
    by : (b : Bool) → (opcode == ACKNOWLEDGE) ≡ b → b ≡ false
    by true e = absurd (true≢false (sym reads ∙ ap answers_read (eqb-true opcode ACKNOWLEDGE e) ∙ read-no-acknowledge))
    by false e = refl

-- an ACK refuses nothing
ack-reason : (fs : List Fault) (queue psn msn : ℕ) → queue < 2 ^ 24 → msn < 2 ^ 24 → SpellReason fs (spelling (acknowledge (syndromes.Ack UNLIMITED_CREDITS) queue (psn_bits psn) msn))
ack-reason fs queue psn msn fits below p is response code refuses = absurd (true≢false (sym (ap (λ o. is_some (refusal_in o))
    (ap (option_map response_of_syndrome) (sym (aeth-decoded (syndromes.Ack UNLIMITED_CREDITS) queue (psn_bits psn) msn p (omega arith) below dec)) ∙ sym (acknowledge-says p dec.opcode) ∙ refuses))))
  where
    f : Fields
    f = acknowledge (syndromes.Ack UNLIMITED_CREDITS) queue (psn_bits psn) msn

    bth : FitsBth (bth_of f)
    bth = record { opcode = omega arith; pad = omega arith; pkey = omega arith; queue = fits; psn = omega arith }

    dec : Decoded f p
    dec = decoded f p bth is

-- ---- the responder's turn

-- What it makes: of the answers that wait no refusal more, and a response that has its reason among what befell the queue pair,
-- or in a mark.
pub data Responds (q : QueuePair) (e : Effects) : Type 0 where
  gives : ((fs : List Fault) → All fs q.responder.answers → All fs e.queue.responder.answers) → ((fs : List Fault) → All fs q.responder.answers → SpellReason fs e.spelt) → Responds q e
  denies : e.queue.responder.answers ≡ [] → TellFault q.queue DeniedAccess e.marks → ((fs : List Fault) → IsOf DeniedAccess fs → SpellReason fs e.spelt) → Responds q e

all-dropped : (fs : List Fault) (k : ℕ) (xs : List Queued) → All fs xs → All fs (drop k xs)
all-dropped fs zero xs all = all
all-dropped fs (suc k) [] all = record {}
all-dropped fs (suc k) (x ∷ xs) all = all-dropped fs k xs all.1

front-has : (fs : List Fault) (xs : List Queued) (a : Queued) → All fs xs → slice_get xs 0 ≡ Some a → HasReason fs (said a)
front-has fs [] a all is = absurd (true≢false (sym (ap is_some is)))
front-has fs (x ∷ xs) a all is = subst (λ a. HasReason fs (said a)) (same_Some x a is) all.0

read-responds : (q : QueuePair) (r : ReadLeft) → IsQueue q → RowSuch (Responds q) (read_row q r)
read-responds q r s = record {
  denied = λ d among. denies refl (inl (queue-path d.ask.queue q.queue (among (λ x. queue_eq x.queue q.queue) (one-ask q (r.left == 0) (response_ask q r) refl)), refl, refl))
      (λ fs of. nak-reason fs AccessReason r.psn _ (nak-spelt (syndromes.Nak codes.RemoteAccessError) AccessReason (peer_number q) r.psn q.responder.msn (peer-fits q s) s.responder.msn tt refl) (of makes_access_error refl));
  allowed = λ bytes refusal named. gives (λ fs all. kept fs all (is_last_response q r))
      (λ fs all. other-reason fs _ (λ p is. reads-not p.opcode (read-spelt (response_segment r.first (is_last_response q r)) r.left (peer_number q) r.psn q.responder.msn (flat_map (λ b. b) bytes) (peer-fits q s) p is).1.says));
}
  where
    kept : (fs : List Fault) → All fs q.responder.answers → (b : Bool) → All fs (if b then without_front q else with_front (rest_of q r) q).responder.answers
    kept fs all true = all-dropped fs 1 q.responder.answers all
    kept fs all false = (record {}, all-dropped fs 1 q.responder.answers all)

turn-responds : (q : QueuePair) (a : Queued) → IsQueue q → slice_get q.responder.answers 0 ≡ Some a → RowSuch (Responds q) (answer_turn q a)
turn-responds q (queued.Ack psn) s is = plainly (Responds q) _ (gives (λ fs all. all-dropped fs 1 q.responder.answers all) (λ fs all. ack-reason fs (peer_number q) psn q.responder.msn (peer-fits q s) s.responder.msn))
turn-responds q (queued.Rnr psn) s is = plainly (Responds q) _ (gives (λ fs all. all-dropped fs 1 q.responder.answers all)
    (λ fs all. nak-reason fs ReceiverNotReady psn _ (nak-spelt (syndromes.RnrNak q.responder.rnr_code) ReceiverNotReady (peer_number q) psn q.responder.msn (peer-fits q s) s.responder.msn (omega (arith, s.responder.rnr_code)) refl) (record {})))
turn-responds q (queued.Nak psn code) s is = plainly (Responds q) _ (gives (λ fs all. all-dropped fs 1 q.responder.answers all)
    (λ fs all. nak-reason fs (reason_of (nak_of code)) psn _ (nak-spelt (syndromes.Nak (nak_of code)) (reason_of (nak_of code)) (peer_number q) psn q.responder.msn (peer-fits q s) s.responder.msn tt refl)
    (front-has fs q.responder.answers (queued.Nak psn code) all is)))
turn-responds q (queued.Read psn key address left begins envelope duplicate) s is =
    read-responds q (record { psn = psn; key = key; address = address; left = left; first = begins; envelope = envelope; duplicate = duplicate }) s
turn-responds q (queued.Atomic psn found duplicate) s is = plainly (Responds q) _ (gives (λ fs all. all-dropped fs 1 q.responder.answers all)
    (λ fs all. other-reason fs _ (λ p is. ap (λ n. n == ACKNOWLEDGE) (found-spelt found (peer_number q) psn q.responder.msn (peer-fits q s) p is).1.says.0)))

pub respond-responds : (room : Bool) (q : QueuePair) → IsQueue q → RowSuch (Responds q) (respond_row room q)
respond-responds room q s = by (first_of (respond_refusals room q)) (slice_get q.responder.answers 0) refl
  where
    none : (reason : Reason) → RowSuch (Responds q) (plain_row (NotPossible reason))
    none reason = record { denied = λ d among. record {}; allowed = λ bytes refusal named. record {} }

    row : Option Reason → Option Queued → Row
    row (Some reason) answer = plain_row (NotPossible reason)
    row None None = plain_row (NotPossible reasons.Empty)
    row None (Some answer) = answer_turn q answer

    by : (o : Option Reason) (a : Option Queued) → slice_get q.responder.answers 0 ≡ a → RowSuch (Responds q) (row o a)
    by (Some reason) a is = none reason
    by None None is = none reasons.Empty
    by None (Some a) is = turn-responds q a s is
