-- The turn of the responder: the response that it sends is one that a link's responder may send.
use Rattle.std.proofs.Common.{◌≡◌, ℕ, suc, ◌+◌, ◌-◌, Bool, true, false, nat_lt, if◌then◌else◌, List, [], ◌∷◌, drop, map, Option, None, Some, slice_get, refl, ap, ap₂, sym, subst, ◌∙◌, arith, lt-ltb}
use Rattle.std.proofs.lemmas.Bool.{leb-false, leb-true, ltb-true}
use Rattle.std.specs.List.{flat_map}
use Rattle.ca_base.specs.declared.queue_numbers.Queued.{Queued}
use Rattle.ca_base.specs.declared.queue_numbers.Queued.TheVariants as queued
use Rattle.ca_base.specs.declared.step.Reason.{Reason}
use Rattle.ca_base.specs.declared.step.Reason.TheVariants as reasons
use Rattle.ca_base.specs.objects.QueuePair.{QueuePair}
use Rattle.ca_connection.proofs.MoveLemmas.{reached-sound}
use Rattle.ca_connection.specs.Invariant.{QueueFact, ReadsFrom}
use Rattle.ca_connection.specs.Layout.{Direction}
use Rattle.ca_connection.specs.Link.{Link, Responder, Response}
use Rattle.ca_connection.specs.Link.NakReason.{ReceiverNotReady, RemoteAccessError}
use Rattle.ca_connection.specs.Link.Response.{Nak, Data}
use Rattle.ca_connection.specs.Moves.{Reached, Responds, rest_of as rest_of_link}
use Rattle.ca_connection.specs.Moves.Responds.{front, deny}
use Rattle.ca_keys.specs.Refusals.{first_of}
use Rattle.ca_model.specs.declared.read_left.ReadLeft.{ReadLeft}
use Rattle.ca_model.specs.machine.Respond.{answer_turn, is_last_response, nak_of, read_answer, read_row, respond_refusals, respond_row, response_segment, rest_of, with_front, without_front}
use Rattle.ca_model.specs.machine.Row.{Effects, NotPossible, Row, plain_row}
use Rattle.ca_model.specs.machine.Invariants.{IsQueue}
use Rattle.ca_model.specs.machine.Requester.{peer_number}
use Rattle.ca_law_once.proofs.Rows.EntryLemmas.{ack-spelt, found-spelt, nak-spelt, peer-fits, read-spelt}
use Rattle.ca_law_once.proofs.Rows.RequestRowLemmas.{plain}
use Rattle.ca_law_once.specs.Moves.{RespondsIn, RowLeads}
use Rattle.ca_law_once.specs.Entries.{SpellsResponse}
use Rattle.ca_law_once.specs.Sides.{kept_result, reason_of, responder_in, said}
use Rattle.ca_wire.specs.declared.syndrome.NakCode.TheVariants as codes
use Rattle.ca_wire.specs.declared.syndrome.Syndrome.TheVariants as syndromes
use Rattle.ca_wire.specs.declared.syndrome.TheConstants.{UNLIMITED_CREDITS}

-- the front is sent, and the rest is what waits now
sends-front : (d : Direction) (q : QueuePair) (e : Effects) (a : Queued) (rest : List Queued) → q.responder.answers ≡ a ∷ rest
    → map said e.queue.responder.answers ≡ rest_of_link d.mtu (said a) (map said rest) → e.queue.responder.expected ≡ q.responder.expected → e.queue.saved ≡ q.saved → e.queue.responder.mtu ≡ d.mtu
    → SpellsResponse (said a) e.spelt → RespondsIn d (responder_in q) e
sends-front d q e a rest is left expected saved mtu spells = record {
  response = said a;
  rejection = None;
  responds = subst (λ xs. Responds d (responder_in q) (said a) xs None) (sym left) (front (said a) (map said rest) (ap (map said) is));
  spells = spells;
  expected = expected;
  results = ap (map kept_result) saved;
  mtu = mtu;
}

-- behind the READ at the front a READ stands
front-reads : (d : Direction) (l : Link) (n left : ℕ) (rest : List Response) → Reached d l → l.responder.queue ≡ Data n left ∷ rest → ReadsFrom d n left
front-reads d l n left rest reached is = (subst (QueueFact d l.acceptances l.rejections l.responder.expected l.response_top) is (reached-sound d l reached).queue).1

read-turn : (d : Direction) (l : Link) (q : QueuePair) (r : ReadLeft) (rest : List Queued) → IsQueue q → Reached d l → l.responder ≡ responder_in q → q.responder.mtu ≡ d.mtu
    → q.responder.answers ≡ queued.Read r.psn r.key r.address r.left r.first r.envelope r.duplicate ∷ rest → RowLeads (RespondsIn d (responder_in q)) (read_row q r)
read-turn d l q r rest s reached same mtu is = record {
  denied = λ a. record {
    response = Nak RemoteAccessError r.psn;
    rejection = Some (record { number = r.psn; place = reads.place; code = RemoteAccessError });
    responds = deny r.psn r.left reads.place (map said rest) (ap (map said) is) reads.number;
    spells = nak-spelt (syndromes.Nak codes.RemoteAccessError) RemoteAccessError (peer_number q) r.psn q.responder.msn (peer-fits q s) s.responder.msn tt refl;
    expected = refl;
    results = refl;
    mtu = mtu;
  };
  allowed = λ bytes refusal. by (flat_map (λ b. b) bytes) (is_last_response q r) refl;
}
  where
    reads : ReadsFrom d r.psn r.left
    reads = front-reads d l r.psn r.left (map said rest) reached (ap (λ (s : Responder). s.queue) same ∙ ap (map said) is)

    behind : drop 1 q.responder.answers ≡ rest
    behind = ap (drop 1) is

    after : Bool → QueuePair
    after b = if b then without_front q else with_front (rest_of q r) q

    left : (b : Bool) → is_last_response q r ≡ b → map said (after b).responder.answers ≡ rest_of_link d.mtu (Data r.psn r.left) (map said rest)
    left true e = ap (map said) behind ∙ ap (λ b. if b then Data (r.psn + 1) (r.left - d.mtu) ∷ map said rest else map said rest) (not-less (nat_lt d.mtu r.left) refl)
      where
        not-less : (b : Bool) → nat_lt d.mtu r.left ≡ b → false ≡ nat_lt d.mtu r.left
        not-less true more = absurd (omega (arith, ltb-true d.mtu r.left more, leb-true r.left q.responder.mtu e, mtu))
        not-less false more = sym more
    left false e = ap₂ (λ x xs. x ∷ xs) (ap₂ Data (let f : suc r.psn ≡ r.psn + 1 = omega arith in f) (omega (arith, leb-false r.left q.responder.mtu e, mtu))) (ap (map said) behind)
        ∙ ap (λ b. if b then Data (r.psn + 1) (r.left - d.mtu) ∷ map said rest else map said rest) (sym (lt-ltb d.mtu r.left (omega (arith, leb-false r.left q.responder.mtu e, mtu))))

    by : (bytes : List ℕ) (b : Bool) → is_last_response q r ≡ b → RespondsIn d (responder_in q) (read_answer q r bytes)
    by bytes b e = sends-front d q (read_answer q r bytes) (queued.Read r.psn r.key r.address r.left r.first r.envelope r.duplicate) rest is
        (ap (λ b. map said (after b).responder.answers) e ∙ left b e) (kept (λ p. p.responder.expected) refl refl) (kept (λ p. p.saved) refl refl) (kept (λ p. p.responder.mtu) refl refl ∙ mtu)
        (read-spelt (response_segment r.first (is_last_response q r)) r.left (peer_number q) r.psn q.responder.msn bytes (peer-fits q s))
      where
        kept : {A : Type 0} (f : QueuePair → A) → f (without_front q) ≡ f q → f (with_front (rest_of q r) q) ≡ f q → f (read_answer q r bytes).queue ≡ f q
        kept f one other = on (is_last_response q r)
          where
            on : (b : Bool) → f (if b then without_front q else with_front (rest_of q r) q) ≡ f q
            on true = one
            on false = other

answer-leads : (d : Direction) (l : Link) (q : QueuePair) (a : Queued) (rest : List Queued) → IsQueue q → Reached d l → l.responder ≡ responder_in q → q.responder.mtu ≡ d.mtu → q.responder.answers ≡ a ∷ rest
    → RowLeads (RespondsIn d (responder_in q)) (answer_turn q a)
answer-leads d l q (queued.Ack psn) rest s reached same mtu is = plain (RespondsIn d (responder_in q)) _ (sends-front d q _ (queued.Ack psn) rest is (ap (λ xs. map said (drop 1 xs)) is) refl refl mtu (ack-spelt (syndromes.Ack UNLIMITED_CREDITS) (peer_number q) psn q.responder.msn (peer-fits q s)))
answer-leads d l q (queued.Rnr psn) rest s reached same mtu is = plain (RespondsIn d (responder_in q)) _ (sends-front d q _ (queued.Rnr psn) rest is (ap (λ xs. map said (drop 1 xs)) is) refl refl mtu
    (nak-spelt (syndromes.RnrNak q.responder.rnr_code) ReceiverNotReady (peer_number q) psn q.responder.msn (peer-fits q s) s.responder.msn (omega (arith, s.responder.rnr_code)) refl))
answer-leads d l q (queued.Nak psn code) rest s reached same mtu is = plain (RespondsIn d (responder_in q)) _ (sends-front d q _ (queued.Nak psn code) rest is (ap (λ xs. map said (drop 1 xs)) is) refl refl mtu
    (nak-spelt (syndromes.Nak (nak_of code)) (reason_of (nak_of code)) (peer_number q) psn q.responder.msn (peer-fits q s) s.responder.msn tt refl))
answer-leads d l q (queued.Read psn key address left begins envelope duplicate) rest s reached same mtu is =
    read-turn d l q (record { psn = psn; key = key; address = address; left = left; first = begins; envelope = envelope; duplicate = duplicate }) rest s reached same mtu is
answer-leads d l q (queued.Atomic psn found duplicate) rest s reached same mtu is =
    plain (RespondsIn d (responder_in q)) _ (sends-front d q _ (queued.Atomic psn found duplicate) rest is (ap (λ xs. map said (drop 1 xs)) is) refl refl mtu (found-spelt found (peer_number q) psn q.responder.msn (peer-fits q s)))

pub respond-leads : (d : Direction) (l : Link) (room : Bool) (q : QueuePair) → IsQueue q → Reached d l → l.responder ≡ responder_in q → q.responder.mtu ≡ d.mtu → RowLeads (RespondsIn d (responder_in q)) (respond_row room q)
respond-leads d l room q s reached same mtu = by (first_of (respond_refusals room q)) q.responder.answers refl
  where
    none : (reason : Reason) → RowLeads (RespondsIn d (responder_in q)) (plain_row (NotPossible reason))
    none reason = record { denied = λ a. record {}; allowed = λ bytes refusal. record {} }

    row : Option Reason → Option Queued → Row
    row (Some reason) answer = plain_row (NotPossible reason)
    row None None = plain_row (NotPossible reasons.Empty)
    row None (Some answer) = answer_turn q answer

    by : (o : Option Reason) (xs : List Queued) → q.responder.answers ≡ xs → RowLeads (RespondsIn d (responder_in q)) (row o (slice_get xs 0))
    by (Some reason) xs is = none reason
    by None [] is = none reasons.Empty
    by None (a ∷ rest) is = answer-leads d l q a rest s reached same mtu is
