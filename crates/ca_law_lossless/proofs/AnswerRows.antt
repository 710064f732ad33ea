-- The turn of the responder: what it sends, and how it leaves the responder standing. For proofs only.
use Rattle.std.proofs.Common.{◌≡◌, ℕ, suc, ◌+◌, ◌-◌, ◌==◌, ◌^◌, ◌<◌, Bool, true, false, nat_lt, if◌then◌else◌, List, [], ◌∷◌, drop, map, Option, None, Some, Ok, slice_get, refl, ap, ap₂, sym, subst, ◌∙◌, arith, lt-ltb, true≢false}
use Rattle.std.proofs.lemmas.Bool.{eqb-true, leb-false, leb-true, ltb-true}
use Rattle.std.specs.List.{flat_map}
use Rattle.ca_base.specs.declared.queue_numbers.Queued.{Queued}
use Rattle.ca_base.specs.declared.queue_numbers.Queued.TheVariants as queued
use Rattle.ca_base.specs.declared.step.Reason.{Reason}
use Rattle.ca_base.specs.declared.step.Reason.TheVariants as reasons
use Rattle.ca_base.specs.objects.QueuePair.{QueuePair}
use Rattle.ca_connection.proofs.MoveLemmas.{reached-sound}
use Rattle.ca_connection.specs.Invariant.{QueueFact, ReadsFrom}
use Rattle.ca_connection.specs.Layout.{Direction}
use Rattle.ca_connection.specs.Link.{Link, Responder, Response}
use Rattle.ca_connection.specs.Link.NakReason.{ReceiverNotReady, RemoteAccessError}
use Rattle.ca_connection.specs.Link.Response.{Ack, Nak, Data, Found}
use Rattle.ca_connection.specs.Moves.{Reached, rest_of as rest_of_link}
use Rattle.ca_keys.specs.Refusals.{first_of}
use Rattle.ca_model.specs.Packets.{answers_read}
use Rattle.ca_model.specs.declared.read_left.ReadLeft.{ReadLeft}
use Rattle.ca_model.specs.machine.Invariants.{IsQueue}
use Rattle.ca_model.specs.machine.Requester.{peer_number, psn_bits}
use Rattle.ca_model.specs.machine.Respond.{answer_turn, is_last_response, nak_of, read_answer, read_row, respond_refusals, respond_row, response_segment, rest_of, with_front, without_front}
use Rattle.ca_model.specs.machine.Row.{Effects, NotPossible, Row, plain_row}
use Rattle.ca_wire.specs.Packet.{Fields, spelling}
use Rattle.ca_wire.specs.Decoding.{packet_in}
use Rattle.ca_wire.specs.Table.{row_of}
use Rattle.ca_wire.specs.declared.opcode.TheConstants.{ACKNOWLEDGE}
use Rattle.ca_law_lossless.specs.Calmly.{IsAcknowledging, IsRefusing}
use Rattle.ca_law_lossless.specs.Standing.{IsNoRnrNak, RespondsCalmly, SpellsPlainly, is_not_ready}
use Rattle.ca_law_lossless.specs.Standing.AnswersCalmly.{front, denied}
use Rattle.ca_law_once.proofs.Rows.DecodeLemmas.{decoded}
use Rattle.ca_law_once.proofs.Rows.EntryLemmas.{ack-spelt, found-spelt, nak-spelt, peer-fits, read-spelt}
use Rattle.ca_law_once.proofs.Rows.RequestRowLemmas.{plain}
use Rattle.ca_law_once.proofs.Rows.SpellLemmas.{aeth-decoded}
use Rattle.ca_law_once.specs.Entries.{SpellsResponse, syndrome_of}
use Rattle.ca_law_once.specs.Moves.{RowLeads}
use Rattle.ca_law_once.specs.Sides.{kept_result, reason_of, responder_in, said}
use Rattle.ca_wire.specs.Builders.{acknowledge}
use Rattle.ca_wire.specs.Syndrome.{FitsSyndrome}
use Rattle.ca_wire.specs.declared.syndrome.NakCode.{NakCode}
use Rattle.ca_wire.specs.declared.syndrome.NakCode.TheVariants as codes
use Rattle.ca_wire.specs.declared.syndrome.Syndrome.{Syndrome}
use Rattle.ca_wire.specs.declared.syndrome.Syndrome.TheVariants as syndromes
use Rattle.ca_wire.specs.declared.syndrome.TheConstants.{UNLIMITED_CREDITS}

-- ---- what the packets say

-- an Acknowledge packet that is read says its syndrome
acknowledge-says : (s : Syndrome) (queue psn msn : ℕ) (p : Fields) → queue < 2 ^ 24 → msn < 2 ^ 24 → FitsSyndrome s → packet_in (spelling (acknowledge s queue (psn_bits psn) msn)) ≡ Ok p → syndrome_of p ≡ Some s
acknowledge-says s queue psn msn p fits below legal is = aeth-decoded s queue (psn_bits psn) msn p legal below
    (decoded (acknowledge s queue (psn_bits psn) msn) p (record { opcode = omega arith; pad = omega arith; pkey = omega arith; queue = fits; psn = omega arith }) is)

ack-plain : (queue psn msn : ℕ) → queue < 2 ^ 24 → msn < 2 ^ 24 → SpellsPlainly (Ack psn) (spelling (acknowledge (syndromes.Ack UNLIMITED_CREDITS) queue (psn_bits psn) msn))
ack-plain queue psn msn fits below p is = let spelt = ack-spelt (syndromes.Ack UNLIMITED_CREDITS) queue psn msn fits p is in
    (spelt.0, spelt.1, (spelt.1.says, subst IsAcknowledging (sym (acknowledge-says (syndromes.Ack UNLIMITED_CREDITS) queue psn msn p fits below (omega arith) is)) tt))

nak-plain : (code : NakCode) (queue psn msn : ℕ) → queue < 2 ^ 24 → msn < 2 ^ 24 → SpellsPlainly (Nak (reason_of code) psn) (spelling (acknowledge (syndromes.Nak code) queue (psn_bits psn) msn))
nak-plain code queue psn msn fits below p is = let spelt = nak-spelt (syndromes.Nak code) (reason_of code) queue psn msn fits below tt refl p is in
    (spelt.0, spelt.1, (spelt.1.says.0, subst (IsRefusing (reason_of code)) (sym (acknowledge-says (syndromes.Nak code) queue psn msn p fits below tt is)) refl))

-- an RNR NAK is one
rnr-plain : (timer queue psn msn : ℕ) (a : Response) → queue < 2 ^ 24 → msn < 2 ^ 24 → FitsSyndrome (syndromes.RnrNak timer) → IsNoRnrNak (spelling (acknowledge (syndromes.RnrNak timer) queue (psn_bits psn) msn))
    → SpellsPlainly a (spelling (acknowledge (syndromes.RnrNak timer) queue (psn_bits psn) msn))
rnr-plain timer queue psn msn a fits below legal none p is = absurd (true≢false (sym (ap is_not_ready (acknowledge-says (syndromes.RnrNak timer) queue psn msn p fits below legal is)) ∙ none p is))

-- an Acknowledge packet answers no READ
acknowledge-reads : answers_read ACKNOWLEDGE ≡ false
unfolding row_of
acknowledge-reads = refl

no-acknowledge : (opcode : ℕ) → answers_read opcode ≡ true → (opcode == ACKNOWLEDGE) ≡ false
no-acknowledge opcode reads = by (opcode == ACKNOWLEDGE) refl
  where
    by : (b : Bool) → (opcode == ACKNOWLEDGE) ≡ b → b ≡ false
    by true is = absurd (true≢false (sym reads ∙ ap answers_read (eqb-true opcode ACKNOWLEDGE is) ∙ acknowledge-reads))
    by false is = refl

data-plain : (n left : ℕ) (bytes : List ℕ) → SpellsResponse (Data n left) bytes → SpellsPlainly (Data n left) bytes
data-plain n left bytes spells p is = let spelt = spells p is in (spelt.0, spelt.1, no-acknowledge p.opcode spelt.1.says)

found-plain : (n value : ℕ) (bytes : List ℕ) → SpellsResponse (Found n value) bytes → SpellsPlainly (Found n value) bytes
found-plain n value bytes spells p is = let spelt = spells p is in (spelt.0, spelt.1, ap (λ o. o == ACKNOWLEDGE) spelt.1.says.0)

-- ---- what the turn makes

-- the front is sent, and the rest is what waits now
sends-front : (d : Direction) (q : QueuePair) (e : Effects) (a : Queued) (rest : List Queued) → q.responder.answers ≡ a ∷ rest
    → map said e.queue.responder.answers ≡ rest_of_link d.mtu (said a) (map said rest) → e.queue.responder.expected ≡ q.responder.expected → e.queue.saved ≡ q.saved → e.queue.responder.mtu ≡ d.mtu
    → e.queue.state ≡ q.state → e.queue.responder.nak_sent ≡ q.responder.nak_sent → (IsNoRnrNak e.spelt → SpellsPlainly (said a) e.spelt) → RespondsCalmly d q e
sends-front d q e a rest is left expected saved mtu state flag spells = record {
  answers = front (said a) (map said rest) (ap (map said) is) left spells state flag;
  expected = expected;
  results = ap (map kept_result) saved;
  mtu = mtu;
}

-- behind the READ at the front a READ stands
front-reads : (d : Direction) (l : Link) (n left : ℕ) (rest : List Response) → Reached d l → l.responder.queue ≡ Data n left ∷ rest → ReadsFrom d n left
front-reads d l n left rest reached is = (subst (QueueFact d l.acceptances l.rejections l.responder.expected l.response_top) is (reached-sound d l reached).queue).1

read-turn : (d : Direction) (l : Link) (q : QueuePair) (r : ReadLeft) (rest : List Queued) → IsQueue q → Reached d l → l.responder ≡ responder_in q → q.responder.mtu ≡ d.mtu
    → q.responder.answers ≡ queued.Read r.psn r.key r.address r.left r.first r.envelope r.duplicate ∷ rest → RowLeads (RespondsCalmly d q) (read_row q r)
read-turn d l q r rest s reached same mtu is = record {
  denied = λ a. record {
    answers = denied r.psn r.left reads.place (map said rest) (ap (map said) is) reads.number refl (nak-plain codes.RemoteAccessError (peer_number q) r.psn q.responder.msn (peer-fits q s) s.responder.msn) refl;
    expected = refl;
    results = refl;
    mtu = mtu;
  };
  allowed = λ bytes refusal. by (flat_map (λ b. b) bytes) (is_last_response q r) refl;
}
  where
    reads : ReadsFrom d r.psn r.left
    reads = front-reads d l r.psn r.left (map said rest) reached (ap (λ (s : Responder). s.queue) same ∙ ap (map said) is)

    behind : drop 1 q.responder.answers ≡ rest
    behind = ap (drop 1) is

    after : Bool → QueuePair
    after b = if b then without_front q else with_front (rest_of q r) q

    left : (b : Bool) → is_last_response q r ≡ b → map said (after b).responder.answers ≡ rest_of_link d.mtu (Data r.psn r.left) (map said rest)
    left true e = ap (map said) behind ∙ ap (λ b. if b then Data (r.psn + 1) (r.left - d.mtu) ∷ map said rest else map said rest) (not-less (nat_lt d.mtu r.left) refl)
      where
        not-less : (b : Bool) → nat_lt d.mtu r.left ≡ b → false ≡ nat_lt d.mtu r.left
        not-less true more = absurd (omega (arith, ltb-true d.mtu r.left more, leb-true r.left q.responder.mtu e, mtu))
        not-less false more = sym more
    left false e = ap₂ (λ x xs. x ∷ xs) (ap₂ Data (let f : suc r.psn ≡ r.psn + 1 = omega arith in f) (omega (arith, leb-false r.left q.responder.mtu e, mtu))) (ap (map said) behind)
        ∙ ap (λ b. if b then Data (r.psn + 1) (r.left - d.mtu) ∷ map said rest else map said rest) (sym (lt-ltb d.mtu r.left (omega (arith, leb-false r.left q.responder.mtu e, mtu))))

    by : (bytes : List ℕ) (b : Bool) → is_last_response q r ≡ b → RespondsCalmly d q (read_answer q r bytes)
    by bytes b e = sends-front d q (read_answer q r bytes) (queued.Read r.psn r.key r.address r.left r.first r.envelope r.duplicate) rest is
        (ap (λ b. map said (after b).responder.answers) e ∙ left b e) (kept (λ p. p.responder.expected) refl refl) (kept (λ p. p.saved) refl refl) (kept (λ p. p.responder.mtu) refl refl ∙ mtu)
        (kept (λ p. p.state) refl refl) (kept (λ p. p.responder.nak_sent) refl refl)
        (λ plain. data-plain r.psn r.left (read_answer q r bytes).spelt (read-spelt (response_segment r.first (is_last_response q r)) r.left (peer_number q) r.psn q.responder.msn bytes (peer-fits q s)))
      where
        kept : {A : Type 0} (f : QueuePair → A) → f (without_front q) ≡ f q → f (with_front (rest_of q r) q) ≡ f q → f (read_answer q r bytes).queue ≡ f q
        kept f one other = on (is_last_response q r)
          where
            on : (b : Bool) → f (if b then without_front q else with_front (rest_of q r) q) ≡ f q
            on true = one
            on false = other

answer-leads : (d : Direction) (l : Link) (q : QueuePair) (a : Queued) (rest : List Queued) → IsQueue q → Reached d l → l.responder ≡ responder_in q → q.responder.mtu ≡ d.mtu → q.responder.answers ≡ a ∷ rest
    → RowLeads (RespondsCalmly d q) (answer_turn q a)
answer-leads d l q (queued.Ack psn) rest s reached same mtu is = plain (RespondsCalmly d q) _ (sends-front d q _ (queued.Ack psn) rest is (ap (λ xs. map said (drop 1 xs)) is) refl refl mtu refl refl
    (λ none. ack-plain (peer_number q) psn q.responder.msn (peer-fits q s) s.responder.msn))
answer-leads d l q (queued.Rnr psn) rest s reached same mtu is = plain (RespondsCalmly d q) _ (sends-front d q _ (queued.Rnr psn) rest is (ap (λ xs. map said (drop 1 xs)) is) refl refl mtu refl refl
    (λ none. rnr-plain q.responder.rnr_code (peer_number q) psn q.responder.msn (Nak ReceiverNotReady psn) (peer-fits q s) s.responder.msn (omega (arith, s.responder.rnr_code)) none))
answer-leads d l q (queued.Nak psn code) rest s reached same mtu is = plain (RespondsCalmly d q) _ (sends-front d q _ (queued.Nak psn code) rest is (ap (λ xs. map said (drop 1 xs)) is) refl refl mtu refl refl
    (λ none. nak-plain (nak_of code) (peer_number q) psn q.responder.msn (peer-fits q s) s.responder.msn))
answer-leads d l q (queued.Read psn key address left begins envelope duplicate) rest s reached same mtu is =
    read-turn d l q (record { psn = psn; key = key; address = address; left = left; first = begins; envelope = envelope; duplicate = duplicate }) rest s reached same mtu is
answer-leads d l q (queued.Atomic psn found duplicate) rest s reached same mtu is =
    plain (RespondsCalmly d q) _ (sends-front d q _ (queued.Atomic psn found duplicate) rest is (ap (λ xs. map said (drop 1 xs)) is) refl refl mtu refl refl
    (λ none. found-plain psn found _ (found-spelt found (peer_number q) psn q.responder.msn (peer-fits q s))))

pub respond-calmly : (d : Direction) (l : Link) (room : Bool) (q : QueuePair) → IsQueue q → Reached d l → l.responder ≡ responder_in q → q.responder.mtu ≡ d.mtu → RowLeads (RespondsCalmly d q) (respond_row room q)
respond-calmly d l room q s reached same mtu = by (first_of (respond_refusals room q)) q.responder.answers refl
  where
    none : (reason : Reason) → RowLeads (RespondsCalmly d q) (plain_row (NotPossible reason))
    none reason = record { denied = λ a. record {}; allowed = λ bytes refusal. record {} }

    row : Option Reason → Option Queued → Row
    row (Some reason) answer = plain_row (NotPossible reason)
    row None None = plain_row (NotPossible reasons.Empty)
    row None (Some answer) = answer_turn q answer

    by : (o : Option Reason) (xs : List Queued) → q.responder.answers ≡ xs → RowLeads (RespondsCalmly d q) (row o (slice_get xs 0))
    by (Some reason) xs is = none reason
    by None [] is = none reasons.Empty
    by None (a ∷ rest) is = answer-leads d l q a rest s reached same mtu is
