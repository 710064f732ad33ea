-- The rows of the requester on a response that passes nothing unanswered. For proofs only.
use Rattle.std.proofs.Common.{◌≡◌, ℕ, suc, ◌+◌, ◌≤◌, ◌<◌, ◌==◌, ◌&&◌, max, Bool, true, false, nat_le, nat_lt, not, if◌then◌else◌, List, [], ◌∷◌, Option, None, Some, refl, ap, sym, subst, ◌∙◌, arith, true≢false, lt-ltb}
use Rattle.std.proofs.lemmas.Bool.{ltb-false, ltb-true}
use Rattle.std.proofs.lemmas.Bool.Decides.{nat_tests}
use Rattle.ca_base.specs.declared.completion.WcStatus.TheVariants.{BadResponse}
use Rattle.ca_base.specs.objects.QueuePair.{QueuePair}
use Rattle.ca_connection.proofs.LayoutLemmas.{segments-some}
use Rattle.ca_connection.specs.Acknowledge.{PassesNone}
use Rattle.ca_connection.specs.Layout.{Direction, Work, first, is_answered, psns}
use Rattle.ca_connection.specs.Layout.Work.{Local, Send, Write, Read, Atomic}
use Rattle.ca_connection.specs.Link.{NakReason, Response, number_of, reach}
use Rattle.ca_connection.specs.Link.Response.{Ack, Nak, Data, Found}
use Rattle.ca_connection.specs.Calm.{Passes}
use Rattle.ca_model.specs.declared.mark.Drop1.TheVariants as drops
use Rattle.ca_model.specs.machine.Acknowledgements.{Acknowledgement, acknowledgement_below, and_then, failure_effects, first_unanswered, one_retry, progress_to, with_requester}
use Rattle.ca_model.specs.machine.Invariants.{IsQueue, is_sending}
use Rattle.ca_model.specs.machine.Numbering.{Numbered, begun_requests, is_answered_op, psn_end, request_at}
use Rattle.ca_model.specs.machine.Responses.{acknowledge_row, answer_row, drop_effects, fits_request, fitting_row, is_outstanding_at, nak_effects, outstanding_row, response_psn, response_row, unless_back}
use Rattle.ca_model.specs.machine.Row.{Does, Effects, Row, plain_row}
use Rattle.ca_wire.specs.Packet.{Fields}
use Rattle.ca_wire.specs.declared.opcode.TheConstants.{ACKNOWLEDGE}
use Rattle.ca_law_lossless.specs.Calmly.{IsAcknowledging, IsRefusing, SaysPlainly, TakesCalmly}
use Rattle.ca_law_once.proofs.Rows.LayLemmas.{Lie, answered-of-work, begun-lie}
use Rattle.ca_law_once.proofs.Rows.RequestRowLemmas.{cond-row, plain}
use Rattle.ca_law_once.specs.Entries.{syndrome_of}
use Rattle.ca_law_once.specs.Moves.{RowLeads}
use Rattle.ca_law_once.specs.Sides.{IsLaid, reason_of}
use Rattle.ca_connection.specs.Link.NakReason.{PsnSequenceError as SequenceReason}
use Rattle.ca_wire.specs.declared.syndrome.NakCode.{NakCode}
use Rattle.ca_wire.specs.declared.syndrome.NakCode.TheVariants as codes
use Rattle.ca_wire.specs.declared.syndrome.Syndrome.{Syndrome}
use Rattle.ca_wire.specs.declared.syndrome.Syndrome.TheVariants as syndromes

-- ---- the walk stops nowhere

answered-some : (mtu : ℕ) (w : Work) → is_answered w ≡ true → 1 ≤ psns mtu w
answered-some mtu Local h = absurd (true≢false (sym h))
answered-some mtu (Send bytes) h = absurd (true≢false (sym h))
answered-some mtu (Write bytes) h = absurd (true≢false (sym h))
answered-some mtu (Read bytes) h = segments-some mtu bytes
answered-some mtu Atomic h = omega arith

no-stop : (d : Direction) (una psn place : ℕ) (ns : List Numbered) → Lie d place ns → PassesNone d una psn → first_unanswered una psn ns ≡ None
no-stop d una psn place [] lie passes = refl
no-stop d una psn place (n ∷ ns) lie passes = by (no-stop d una psn (suc place) ns lie.1 passes) (is_answered_op n.request.op) refl (nat_lt una (psn_end n)) refl (nat_lt (max una n.first) psn) refl
  where
    answered : is_answered_op n.request.op ≡ true → is_answered (d.work n.place) ≡ true
    answered e = ap is_answered lie.0.1.work ∙ sym (answered-of-work n.request.op) ∙ e

    by : first_unanswered una psn ns ≡ None → (a : Bool) → is_answered_op n.request.op ≡ a → (b : Bool) → nat_lt una (psn_end n) ≡ b → (c : Bool) → nat_lt (max una n.first) psn ≡ c
        → (if a && b && c then Some (max una n.first) else first_unanswered una psn ns) ≡ None
    by rest true ea true eb true ec =
        let some = answered-some d.mtu (d.work n.place) (answered ea) in
        let below : max una n.first < first d (suc n.place) = omega (arith, lie.0.1.begin, lie.0.1.end, some, ltb-true una (psn_end n) eb) in
        absurd (true≢false (sym (answered ea) ∙ passes n.place (max una n.first) (omega arith) (ltb-true (max una n.first) psn ec) (record { from = omega (arith, lie.0.1.begin); below = below })))
    by rest true ea true eb false ec = rest
    by rest true ea false eb c ec = rest
    by rest false ea b eb c ec = rest

-- all below a PSN is acknowledged, and nothing goes back
acked : (d : Direction) (psn : ℕ) (q : QueuePair) → IsLaid d q → PassesNone d q.requester.una psn → acknowledgement_below psn q ≡ record { effects = progress_to psn q; went_back = false }
acked d psn q laid passes = ap after (no-stop d q.requester.una psn q.requester.oldest (begun_requests q) (begun-lie d q laid) passes)
  where
    after : Option ℕ → Acknowledgement
    after None = record { effects = progress_to psn q; went_back = false }
    after (Some back) = record { effects = and_then (progress_to back q) (one_retry back); went_back = true }

-- ---- progress

record Progress (psn : ℕ) (q p : QueuePair) : Type 0 where
  cursor : p.requester.cursor ≡ q.requester.cursor
  una : p.requester.una ≡ max q.requester.una psn

progress : (psn : ℕ) (q : QueuePair) → Progress psn q (progress_to psn q).queue
progress psn q = by (nat_lt q.requester.una psn) refl
  where
    with_it : Bool → QueuePair
    with_it b = if b then with_requester (record q.requester { una = psn; retries = 0; rnrs = 0 }) q else q

    of : (b : Bool) → nat_lt q.requester.una psn ≡ b → Progress psn q (with_it b)
    of true e = record { cursor = refl; una = omega (arith, ltb-true q.requester.una psn e) }
    of false e = record { cursor = refl; una = omega (arith, ltb-false q.requester.una psn e) }

    by : (b : Bool) → nat_lt q.requester.una psn ≡ b → Progress psn q (progress_to psn q).queue
    by b e = let o = subst (λ c. Progress psn q (with_it c)) (sym e) (of b e) in record { cursor = o.cursor; una = o.una }

-- ---- what the rows make

failed : (a : Response) (una cursor : ℕ) (e : Effects) → e.queue.requester.cursor ≡ cursor → is_sending e.queue.state ≡ false → TakesCalmly a una cursor e
failed a una cursor e same error = record { cursor_stays = same; una_goes = λ sends. absurd (true≢false (sym sends ∙ error)) }

progressed : (a : Response) (psn : ℕ) (q : QueuePair) (e : Effects) → e.queue ≡ (progress_to psn q).queue → psn ≡ reach a → TakesCalmly a q.requester.una q.requester.cursor e
progressed a psn q e is to = record {
  cursor_stays = ap (λ (p : QueuePair). p.requester.cursor) is ∙ (progress psn q).cursor;
  una_goes = λ sends. ap (λ (p : QueuePair). p.requester.una) is ∙ (progress psn q).una ∙ ap (λ n. max q.requester.una n) to;
}

acknowledged : (d : Direction) (n : ℕ) (q : QueuePair) (syndrome : Option Syndrome) → IsLaid d q → PassesNone d q.requester.una (n + 1) → IsAcknowledging syndrome
    → TakesCalmly (Ack n) q.requester.una q.requester.cursor (acknowledge_row n syndrome q)
acknowledged d n q None laid passes is = absurd is
acknowledged d n q (Some (syndromes.RnrNak timer)) laid passes is = absurd is
acknowledged d n q (Some (syndromes.Nak code)) laid passes is = absurd is
acknowledged d n q (Some (syndromes.Ack credits)) laid passes is =
    progressed (Ack n) (suc n) q (acknowledgement_below (suc n) q).effects
    (ap (λ (t : Acknowledgement). t.effects.queue) (acked d (suc n) q laid (subst (PassesNone d q.requester.una) (let e : n + 1 ≡ suc n = omega arith in e) passes)))
    (omega arith)

refused : (d : Direction) (code : NakReason) (n : ℕ) (q : QueuePair) (syndrome : Option Syndrome) → IsLaid d q → PassesNone d q.requester.una n → (code ≡ SequenceReason → ⊥) → IsRefusing code syndrome
    → TakesCalmly (Nak code n) q.requester.una q.requester.cursor (acknowledge_row n syndrome q)
refused d code n q None laid passes other is = absurd is
refused d code n q (Some (syndromes.RnrNak timer)) laid passes other is = absurd is
refused d code n q (Some (syndromes.Ack credits)) laid passes other is = absurd is
refused d code n q (Some (syndromes.Nak c)) laid passes other is =
    subst (λ t. TakesCalmly (Nak code n) q.requester.una q.requester.cursor (unless_back t (nak_effects n c))) (sym (acked d n q laid passes)) (by c is)
  where
    by : (c : NakCode) → code ≡ reason_of c → TakesCalmly (Nak code n) q.requester.una q.requester.cursor (and_then (progress_to n q) (nak_effects n c))
    by codes.PsnSequenceError same = absurd (other same)
    by codes.InvalidRequest same = failed (Nak code n) q.requester.una q.requester.cursor _ (progress n q).cursor refl
    by codes.RemoteAccessError same = failed (Nak code n) q.requester.una q.requester.cursor _ (progress n q).cursor refl
    by codes.RemoteOperationalError same = failed (Nak code n) q.requester.una q.requester.cursor _ (progress n q).cursor refl

answered : (d : Direction) (a : Response) (q : QueuePair) (p : Fields) → IsLaid d q → reach a ≡ number_of a + 1 → PassesNone d q.requester.una (number_of a)
    → q.requester.una ≤ number_of a → RowLeads (TakesCalmly a q.requester.una q.requester.cursor) (fitting_row (number_of a) p (acknowledgement_below (number_of a) q))
answered d a q p laid reaches passes low = subst (λ t. RowLeads T (fitting_row w p t)) (sym (acked d w q laid passes)) (by (request_at w before.queue))
  where
    w : ℕ
    w = number_of a

    T : Effects → Type 0
    T = TakesCalmly a q.requester.una q.requester.cursor

    before : Effects
    before = progress_to w q

    bad : Row
    bad = plain_row (Does (and_then before (failure_effects BadResponse None)))

    is_bad : RowLeads T bad
    is_bad = plain T _ (failed a q.requester.una q.requester.cursor _ (progress w q).cursor refl)

    row : Option Numbered → Row
    row None = bad
    row (Some n) = if fits_request w p before.queue n then answer_row w p before n else bad

    placed : (n : Numbered) → RowLeads T (answer_row w p before n)
    placed n = record {
      denied = λ b. failed a q.requester.una q.requester.cursor _ (progress w q).cursor refl;
      allowed = λ bytes refusal. record {
        cursor_stays = (progress (suc w) before.queue).cursor ∙ (progress w q).cursor;
        una_goes = λ sends. omega (arith, (progress (suc w) before.queue).una, (progress w q).una, reaches, low);
      };
    }

    by : (o : Option Numbered) → RowLeads T (row o)
    by None = is_bad
    by (Some n) = cond-row T (fits_request w p before.queue n) _ _ (placed n) is_bad

-- a response for an outstanding number
outstanding : (d : Direction) (a : Response) (p : Fields) (q : QueuePair) → IsLaid d q → SaysPlainly a p → Passes d q.requester.una a → q.requester.una ≤ number_of a
    → RowLeads (TakesCalmly a q.requester.una q.requester.cursor) (outstanding_row (number_of a) p q)
outstanding d (Ack n) p q laid says passes low =
    subst (λ b. RowLeads (TakesCalmly (Ack n) q.requester.una q.requester.cursor) (if b then plain_row (Does (acknowledge_row n (syndrome_of p) q)) else fitting_row n p (acknowledgement_below n q)))
    (sym (same p says.0)) (plain (TakesCalmly (Ack n) q.requester.una q.requester.cursor) _ (acknowledged d n q (syndrome_of p) laid passes says.1))
  where
    same : (p : Fields) → p.opcode ≡ ACKNOWLEDGE → (p.opcode == ACKNOWLEDGE) ≡ true
    same p is = ap (λ o. o == ACKNOWLEDGE) is
outstanding d (Nak code n) p q laid says passes low =
    subst (λ b. RowLeads (TakesCalmly (Nak code n) q.requester.una q.requester.cursor) (if b then plain_row (Does (acknowledge_row n (syndrome_of p) q)) else fitting_row n p (acknowledgement_below n q)))
    (sym (same p says.0)) (plain (TakesCalmly (Nak code n) q.requester.una q.requester.cursor) _ (refused d code n q (syndrome_of p) laid passes.0 passes.1 says.1))
  where
    same : (p : Fields) → p.opcode ≡ ACKNOWLEDGE → (p.opcode == ACKNOWLEDGE) ≡ true
    same p is = ap (λ o. o == ACKNOWLEDGE) is
outstanding d (Data n left) p q laid says passes low =
    subst (λ b. RowLeads (TakesCalmly (Data n left) q.requester.una q.requester.cursor) (if b then plain_row (Does (acknowledge_row n (syndrome_of p) q)) else fitting_row n p (acknowledgement_below n q)))
    (sym says) (answered d (Data n left) q p laid refl passes low)
outstanding d (Found n found) p q laid says passes low =
    subst (λ b. RowLeads (TakesCalmly (Found n found) q.requester.una q.requester.cursor) (if b then plain_row (Does (acknowledge_row n (syndrome_of p) q)) else fitting_row n p (acknowledgement_below n q)))
    (sym says) (answered d (Found n found) q p laid refl passes low)

reach-most : (a : Response) → reach a ≤ number_of a + 1
reach-most (Ack n) = omega arith
reach-most (Nak code n) = omega arith
reach-most (Data n left) = omega arith
reach-most (Found n found) = omega arith

pub response-calm : (d : Direction) (a : Response) (p : Fields) (q : QueuePair) → IsQueue q → (is_sending q.state ≡ true → IsLaid d q) → SaysPlainly a p → response_psn q p ≡ number_of a
    → number_of a < q.requester.cursor → Passes d q.requester.una a → RowLeads (TakesCalmly a q.requester.una q.requester.cursor) (response_row p q)
response-calm d a p q s laid says exact below passes = subst (λ w. RowLeads T (row w)) (sym exact) (by (is_sending q.state) refl)
  where
    T : Effects → Type 0
    T = TakesCalmly a q.requester.una q.requester.cursor

    row : ℕ → Row
    row w = if not (is_sending q.state) then plain_row (Does (drop_effects q drops.State))
        else if not (is_outstanding_at w q) then plain_row (Does (drop_effects q drops.Stale))
        else outstanding_row w p q

    stale : nat_le q.requester.una (number_of a) ≡ false → T (drop_effects q drops.Stale)
    stale less = record { cursor_stays = refl; una_goes = λ sends. grind (arith, nat_tests, less, reach-most a) }

    there : (b c : Bool) → nat_le q.requester.una (number_of a) ≡ b → nat_lt (number_of a) q.requester.cursor ≡ c → is_sending q.state ≡ true
        → RowLeads T (if not (b && c) then plain_row (Does (drop_effects q drops.Stale)) else outstanding_row (number_of a) p q)
    there true true eb ec sends = outstanding d a p q (laid sends) says passes (let le : q.requester.una ≤ number_of a = grind (arith, nat_tests, eb) in le)
    there true false eb ec sends = absurd (true≢false (sym (lt-ltb (number_of a) q.requester.cursor below) ∙ ec))
    there false c eb ec sends = plain T (drop_effects q drops.Stale) (stale eb)

    by : (b : Bool) → is_sending q.state ≡ b → RowLeads T (if not b then plain_row (Does (drop_effects q drops.State))
        else if not (is_outstanding_at (number_of a) q) then plain_row (Does (drop_effects q drops.Stale)) else outstanding_row (number_of a) p q)
    by true e = there (nat_le q.requester.una (number_of a)) (nat_lt (number_of a) q.requester.cursor) refl refl e
    by false e = plain T (drop_effects q drops.State) (failed a q.requester.una q.requester.cursor (drop_effects q drops.State) refl e)
