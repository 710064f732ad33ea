-- The packet that is expected is admitted, and the responder stands as a calm link's. For proofs only.
use Rattle.std.proofs.Common.{◌≡◌, ℕ, ◌+◌, ◌<◌, ◌++◌, true, false, nat_lt, if◌then◌else◌, List, [], ◌∷◌, map, Option, refl, ap, sym, subst, ◌∙◌, arith}
use Rattle.std.proofs.lemmas.Bool.Decides.{nat_tests}
use Rattle.std.proofs.lemmas.List.{map-append}
use Rattle.ca_base.specs.declared.queue_numbers.Queued.TheVariants as queued
use Rattle.ca_base.specs.objects.QueuePair.{QueuePair}
use Rattle.ca_base.specs.objects.SharedReceives.{SharedReceives}
use Rattle.ca_connection.proofs.LayoutLemmas.{segments-some, span-is_read}
use Rattle.ca_connection.specs.Layout.{Direction, bytes_left}
use Rattle.ca_connection.specs.Link.{NakReason, RequestPacket, Responder}
use Rattle.ca_connection.specs.Link.NakReason.{InvalidRequest, PsnSequenceError, ReceiverNotReady, RemoteAccessError, RemoteOperationalError}
use Rattle.ca_connection.specs.Link.Response.{Nak}
use Rattle.ca_connection.specs.Moves.{Reception}
use Rattle.ca_connection.specs.Moves.Reception.{Accepted, Rejected}
use Rattle.ca_connection.specs.CalmMoves.{Admits, standing_after}
use Rattle.ca_connection.specs.CalmMoves.Admits.{write as admits_write, write_and_acknowledge as admits_ack, read as admits_read, atomic as admits_atomic, refuse as admits_refuse}
use Rattle.ca_model.specs.machine.Duplicates.{ahead_effects, duplicate_effects, request_row}
use Rattle.ca_model.specs.machine.Expected.{expected_row}
use Rattle.ca_model.specs.machine.Invariants.{is_connected}
use Rattle.ca_model.specs.machine.Respond.{nak_of}
use Rattle.ca_model.specs.machine.Row.{Does, Effects, Ending, NotPossible, Row, plain_row}
use Rattle.ca_wire.specs.Packet.{Fields}
use Rattle.ca_wire.specs.declared.shape.Shape.{Shape}
use Rattle.ca_psn.specs.Psn.{widened}
use Rattle.ca_law_lossless.proofs.AdmitRows.{request-admits}
use Rattle.ca_law_lossless.specs.Calmly.{AdmitsIn}
use Rattle.ca_law_lossless.proofs.StoodRows.{Stood, expected-stood}
use Rattle.ca_law_lossless.proofs.StoodRows.Stood.{accepts, refuses, waits}
use Rattle.ca_law_lossless.specs.Standing.{AdmitsStanding, StandsIn}
use Rattle.ca_law_once.specs.Entries.{RequestEntry}
use Rattle.ca_law_once.specs.Moves.{EndingLeads, RowLeads}
use Rattle.ca_law_once.specs.Sides.{reason_of, responder_in, said}
use Rattle.ca_wire.specs.declared.syndrome.NakCode.{NakCode}
use Rattle.ca_wire.specs.declared.syndrome.NakCode.TheVariants as codes

-- what comes of a packet that is admitted: more is expected; or a NAK stands at the end of the response queue
data Came (w : ℕ) (r s : Responder) (reception : Reception) : Type 0 where
  took : (found : ℕ) → reception ≡ Accepted found → w < s.expected → Came w r s reception
  left : (code : NakReason) → reception ≡ Rejected code → s.expected ≡ r.expected → s.queue ≡ r.queue ++ (Nak code w ∷ []) → Came w r s reception

came : (d : Direction) (x : RequestPacket) (w : ℕ) (r s : Responder) (reception : Reception) → Admits d x w r s reception → Came w r s reception
came d x w r _ _ (admits_write is) = took 0 refl (omega arith)
came d x w r _ _ (admits_ack is kept) = took 0 refl (omega arith)
came d x w r _ _ (admits_read is) = took 0 refl (omega (arith, span-is_read d x.place x.number is, segments-some d.mtu (bytes_left d x.place x.number)))
came d x w r _ _ (admits_atomic found is kept) = took found refl (omega arith)
came d x w r _ _ (admits_refuse code other) = left code refl refl refl

last-same : {A : Type 0} (xs : List A) (a b : A) → xs ++ (a ∷ []) ≡ xs ++ (b ∷ []) → a ≡ b
last-same [] a b is = cc
last-same (x ∷ xs) a b is = last-same xs a b (let same : xs ++ (a ∷ []) ≡ xs ++ (b ∷ []) = cc in same)

code-same : (a b : NakReason) (m n : ℕ) → Nak a m ≡ Nak b n → a ≡ b
code-same a b m n is = cc

-- a refusal by a NAK closes the responder
closes : (p : QueuePair) (code : NakCode) → is_connected p.state ≡ false → StandsIn (standing_after (Rejected (reason_of code))) p
closes p codes.PsnSequenceError error = error
closes p codes.InvalidRequest error = error
closes p codes.RemoteAccessError error = error
closes p codes.RemoteOperationalError error = error

pub stands : (d : Direction) (x : RequestPacket) (q p : QueuePair) (reception : Reception) → is_connected q.state ≡ true → Admits d x q.responder.expected (responder_in q) (responder_in p) reception → Stood q p → StandsIn (standing_after reception) p
stands d x q p reception connected admits stood = by (came d x q.responder.expected (responder_in q) (responder_in p) reception admits) stood
  where
    by : Came q.responder.expected (responder_in q) (responder_in p) reception → Stood q p → StandsIn (standing_after reception) p
    by (took found is more) (accepts above state none) = subst (λ z. StandsIn (standing_after z) p) (sym is) (ap is_connected state ∙ connected, none)
    by (took found is more) (waits same queue state some) = absurd (omega (arith, more, same))
    by (took found is more) (refuses code same queue error) = absurd (omega (arith, more, same))
    by (left code is same queue) (accepts above state none) = absurd (omega (arith, above, same))
    by (left code is same queue) (waits other answers state some) = subst (λ z. StandsIn (standing_after z) p) (sym (is ∙ ap Rejected (sym ready))) (ap is_connected state ∙ connected, some)
      where
        ready : ReceiverNotReady ≡ code
        ready = code-same ReceiverNotReady code _ _ (last-same (map said q.responder.answers) (Nak ReceiverNotReady q.responder.expected) (Nak code q.responder.expected)
            (sym (map-append said q.responder.answers (queued.Rnr q.responder.expected ∷ [])) ∙ ap (map said) (sym answers) ∙ queue))
    by (left code is same queue) (refuses number other answers error) = subst (λ z. StandsIn (standing_after z) p) (sym (is ∙ ap Rejected (sym refused))) (closes p (nak_of number) (ap is_connected error))
      where
        refused : reason_of (nak_of number) ≡ code
        refused = code-same (reason_of (nak_of number)) code _ _ (last-same (map said q.responder.answers) (Nak (reason_of (nak_of number)) q.responder.expected) (Nak code q.responder.expected)
            (sym (map-append said q.responder.answers (queued.Nak q.responder.expected number ∷ [])) ∙ ap (map said) (sym answers) ∙ queue))

-- the row of the packet that is expected
request-stood : (p : Fields) (envelope : Option ℕ) (shared : Option SharedReceives) (shape : Shape) (q : QueuePair) → widened q.responder.expected p.psn ≡ q.responder.expected → RowLeads (λ e. Stood q e.queue) (request_row p envelope shared shape q)
request-stood p envelope shared shape q expected =
    subst (λ w. RowLeads (λ e. Stood q e.queue) (if nat_lt n w then plain_row (Does (ahead_effects q)) else if nat_lt w n then plain_row (Does (duplicate_effects w p envelope shape q)) else expected_row q shared p envelope shape)) (sym expected)
    (subst (λ b. RowLeads (λ e. Stood q e.queue) (if b then plain_row (Does (ahead_effects q)) else if b then plain_row (Does (duplicate_effects n p envelope shape q)) else expected_row q shared p envelope shape)) (sym same)
    (expected-stood q p envelope shared shape))
  where
    n : ℕ
    n = q.responder.expected

    same : nat_lt n n ≡ false
    same = grind (arith, nat_tests)

pub both-lead : (P Q R : Effects → Type 0) (row : Row) → ((e : Effects) → P e → Q e → R e) → RowLeads P row → RowLeads Q row → RowLeads R row
both-lead P Q R row joins one other = record {
  denied = λ d. by (row.denied d) (one.denied d) (other.denied d);
  allowed = λ bytes refusal. by (row.allowed bytes refusal) (one.allowed bytes refusal) (other.allowed bytes refusal);
}
  where
    by : (e : Ending) → EndingLeads P e → EndingLeads Q e → EndingLeads R e
    by (NotPossible reason) one other = record {}
    by (Does e) one other = joins e one other

pub request-stands : (d : Direction) (x : RequestPacket) (p : Fields) (envelope : Option ℕ) (shared : Option SharedReceives) (shape : Shape) (q : QueuePair) → is_connected q.state ≡ true → q.responder.mtu ≡ d.mtu → RequestEntry d x shape p
    → widened q.responder.expected p.psn ≡ q.responder.expected → RowLeads (AdmitsStanding d x q.responder.expected (responder_in q)) (request_row p envelope shared shape q)
request-stands d x p envelope shared shape q connected mtu entry expected =
    both-lead (AdmitsIn d x q.responder.expected (responder_in q)) (λ e. Stood q e.queue) (AdmitsStanding d x q.responder.expected (responder_in q)) (request_row p envelope shared shape q)
    (λ e one other. record { reception = one.reception; admits = one.admits; stands = stands d x q e.queue one.reception connected one.admits other })
    (request-admits d x p envelope shared shape q mtu entry expected) (request-stood p envelope shared shape q expected)
