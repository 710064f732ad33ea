-- The opening is calm, and each calm move keeps a link calm.
use Rattle.std.proofs.Common.{◌≡◌, ◌⊎◌, inl, inr, ℕ, suc, ◌+◌, ◌<◌, ◌≤◌, max, List, ◌∷◌, slice_get, Option, Some, refl, sym, ap, subst, ◌∙◌, arith}
use Rattle.std.specs.List.{Contains}
use Rattle.ca_connection.specs.Acknowledge.{PassesNone}
use Rattle.ca_connection.specs.Invariant.{Holds, QueueFact}
use Rattle.ca_connection.specs.Layout.{Direction, HasNumber, bytes_left, span}
use Rattle.ca_connection.specs.Link.{NakReason, Rejection, RequestPacket, Responder, Response, number_of, reach, reach_of_all}
use Rattle.ca_connection.specs.Link.NakReason.{InvalidRequest, PsnSequenceError, ReceiverNotReady, RemoteAccessError, RemoteOperationalError}
use Rattle.ca_connection.specs.Link.Response.{Ack, Nak, Data, Found}
use Rattle.ca_connection.specs.Moves.{Reached, Reception, rejections_after}
use Rattle.ca_connection.specs.Moves.Reception.{Accepted, Neither, Rejected}
use Rattle.ca_connection.proofs.LayoutLemmas.{segments-some, span-is_atomic, span-is_data, span-is_read, span-some}
use Rattle.ca_connection.proofs.ListLemmas.{contains-cases}
use Rattle.ca_connection.proofs.MoveLemmas.{mtu-some, reached-sound}
use Rattle.ca_connection.proofs.QueueLemmas.{queue-low}
use Rattle.ca_connection.specs.Calm.{AllPass, AreExpected, CalmLink, IsCalm, IsChain, NoneIsLeft, Passes, QueuePasses, calm_opening, una_after, una_after_queue}
use Rattle.ca_connection.specs.Calm.Standing.{Accepting, Waiting}
use Rattle.ca_connection.specs.CalmMoves.{Admits, CalmMove, standing_after}
use Rattle.ca_connection.specs.CalmMoves.Admits.{write as admits_write, write_and_acknowledge as admits_ack, read as admits_read, atomic as admits_atomic, refuse as admits_refuse}
use Rattle.ca_connection.specs.CalmMoves.CalmMove.{send, respond, deny, admit, drop, pass_request, take as take_answer, pass_response, close, clear, other_request, other_response}
use Rattle.ca_connection.proofs.ChainLemmas.{Oldest, chain-oldest, expected-drop, expected-other, expected-pass, expected-send}
use Rattle.ca_connection.proofs.WalkLemmas.{before-ack, data-is_answered, none-below, none-one, pass-oldest, pass-other, queue-put, queue-sent, una-oldest, una-other, una-put, una-sent}

pub opening-calm : (d : Direction) → IsCalm d (calm_opening d)
opening-calm d = record { top = refl; requests = refl; responses = tt; queue = tt; rest = none-below d _ _ (omega arith); rejections = λ r has. absurd (omega (arith, has.1)) }

-- what a responder that received what it expected owes: the chain goes on from what it expects now, its queue passes
-- nothing, and nothing is left
record Received (d : Direction) (top u k : ℕ) (xs : List (Option RequestPacket)) (r : Responder) (reception : Reception) : Type 0 where
  requests : AreExpected d top k xs r.expected (standing_after reception)
  queue : QueuePasses d u r.queue
  rest : NoneIsLeft d (una_after_queue d.mtu u r.queue) r.expected (standing_after reception)

waits : (d : Direction) (top k : ℕ) (xs : List (Option RequestPacket)) (expected bottom : ℕ) (code : NakReason) → expected < bottom → IsChain d top k xs bottom
    → AreExpected d top k xs expected (standing_after (Rejected code))
waits d top k xs expected bottom PsnSequenceError less chain = tt
waits d top k xs expected bottom InvalidRequest less chain = tt
waits d top k xs expected bottom RemoteAccessError less chain = tt
waits d top k xs expected bottom RemoteOperationalError less chain = tt
waits d top k xs expected bottom ReceiverNotReady less chain = record { bottom = bottom; above = less; chain = chain }

owes-nothing : (d : Direction) (u expected : ℕ) (code : NakReason) → NoneIsLeft d u expected (standing_after (Rejected code))
owes-nothing d u expected PsnSequenceError = tt
owes-nothing d u expected InvalidRequest = tt
owes-nothing d u expected RemoteAccessError = tt
owes-nothing d u expected RemoteOperationalError = tt
owes-nothing d u expected ReceiverNotReady = tt

received : (d : Direction) (top u k : ℕ) (xs : List (Option RequestPacket)) (packet : RequestPacket) (r next : Responder) (reception : Reception)
    → HasNumber d packet.place packet.number → Oldest d top k xs r.expected packet
    → QueuePasses d u r.queue → PassesNone d (una_after_queue d.mtu u r.queue) r.expected
    → Admits d packet packet.number r next reception → Received d top u k xs next reception
received d top u k xs packet r _ _ named oldest passes none (admits_write kind) =
    let one = span-is_data d packet.place packet.number kind in
    let at : PassesNone d (una_after_queue d.mtu u r.queue) packet.number = subst (PassesNone d (una_after_queue d.mtu u r.queue)) (sym oldest.number) none in
    record {
      requests = subst (λ m. IsChain d top k xs (packet.number + m)) one oldest.chain;
      queue = passes;
      rest = none-one d (una_after_queue d.mtu u r.queue) packet.number packet.place named (data-is_answered (d.work packet.place) kind) at;
    }
received d top u k xs packet r _ _ named oldest passes none (admits_ack {kept = kept} kind before) =
    let one = span-is_data d packet.place packet.number kind in
    let both = before-ack d u r.expected r.queue kept before passes none in
    let at : PassesNone d (una_after_queue d.mtu u kept) packet.number = subst (PassesNone d (una_after_queue d.mtu u kept)) (sym oldest.number) both.1 in
    record {
      requests = subst (λ m. IsChain d top k xs (packet.number + m)) one oldest.chain;
      queue = queue-put d u kept (Ack packet.number) both.0
          (none-one d (una_after_queue d.mtu u kept) packet.number packet.place named (data-is_answered (d.work packet.place) kind) at);
      rest = none-below d _ _ (omega (arith, una-put d.mtu u kept (Ack packet.number)));
    }
received d top u k xs packet r _ _ named oldest passes none (admits_read kind) =
    let long = span-is_read d packet.place packet.number kind in
    let at : PassesNone d (una_after_queue d.mtu u r.queue) packet.number = subst (PassesNone d (una_after_queue d.mtu u r.queue)) (sym oldest.number) none in
    record {
      requests = oldest.chain;
      queue = queue-put d u r.queue (Data packet.number (bytes_left d packet.place packet.number)) passes at;
      rest = none-below d _ _ (omega (arith, long, una-put d.mtu u r.queue (Data packet.number (bytes_left d packet.place packet.number))));
    }
received d top u k xs packet r _ _ named oldest passes none (admits_atomic found kind keeps) =
    let one = span-is_atomic d packet.place packet.number kind in
    let at : PassesNone d (una_after_queue d.mtu u r.queue) packet.number = subst (PassesNone d (una_after_queue d.mtu u r.queue)) (sym oldest.number) none in
    record {
      requests = subst (λ m. IsChain d top k xs (packet.number + m)) one oldest.chain;
      queue = queue-put d u r.queue (Found packet.number found) passes at;
      rest = none-below d _ _ (omega (arith, una-put d.mtu u r.queue (Found packet.number found)));
    }
received d top u k xs packet r _ _ named oldest passes none (admits_refuse code other) =
    let at : PassesNone d (una_after_queue d.mtu u r.queue) packet.number = subst (PassesNone d (una_after_queue d.mtu u r.queue)) (sym oldest.number) none in
    record {
      requests = waits d top k xs r.expected (packet.number + span d packet.place packet.number) code
          (omega (arith, oldest.number, span-some d packet.place packet.number)) oldest.chain;
      queue = queue-put d u r.queue (Nak code packet.number) passes (at, other);
      rest = owes-nothing d _ _ code;
    }

-- what a calm link says of its undelivered requests, where they are so many
some-requests : (d : Direction) (c : CalmLink) (k : ℕ) → IsCalm d c → c.requests ≡ suc k
    → AreExpected d c.link.requester.cursor (suc k) c.link.requests c.link.responder.expected c.standing
some-requests d c k h is =
    subst (λ n. AreExpected d c.link.requester.cursor n c.link.requests c.link.responder.expected c.standing) is h.requests

pub accepting-oldest : (d : Direction) (c : CalmLink) (k : ℕ) (packet : RequestPacket) → IsCalm d c → c.standing ≡ Accepting
    → c.requests ≡ suc k → slice_get c.link.requests k ≡ Some (Some packet)
    → Oldest d c.link.requester.cursor k c.link.requests c.link.responder.expected packet
accepting-oldest d c k packet h accepts count is =
    chain-oldest d c.link.requester.cursor k c.link.requests c.link.responder.expected packet
    (subst (AreExpected d c.link.requester.cursor (suc k) c.link.requests c.link.responder.expected) accepts (some-requests d c k h count)) is

pub waiting-oldest : (d : Direction) (c : CalmLink) (k : ℕ) (packet : RequestPacket) → IsCalm d c → c.standing ≡ Waiting
    → c.requests ≡ suc k → slice_get c.link.requests k ≡ Some (Some packet) → c.link.responder.expected < packet.number
waiting-oldest d c k packet h waits_ count is =
    let above = subst (AreExpected d c.link.requester.cursor (suc k) c.link.requests c.link.responder.expected) waits_ (some-requests d c k h count) in
    let oldest = chain-oldest d c.link.requester.cursor k c.link.requests above.bottom packet above.chain is in
    omega (arith, above.above, oldest.number)

pub oldest-passes : (d : Direction) (c : CalmLink) (k : ℕ) (a : Response) → IsCalm d c → c.responses ≡ suc k
    → slice_get c.link.responses k ≡ Some (Some a) → Passes d c.link.requester.una a × AllPass d (max c.link.requester.una (reach a)) k c.link.responses
oldest-passes d c k a h count is =
    pass-oldest d c.link.requester.una k c.link.responses a (subst (λ n. AllPass d c.link.requester.una n c.link.responses) count h.responses) is

pub response-reaches : (d : Direction) (c : CalmLink) (k : ℕ) (a : Response) → Reached d c.link → IsCalm d c
    → slice_get c.link.responses k ≡ Some (Some a) → reach a ≤ c.link.requester.cursor
response-reaches d c k a reached h is =
    let s = reached-sound d c.link reached in
    let n = s.numbers in
    omega (arith, h.top, (s.responses k a is).below, n.response_top_expected, n.expected_request_top)

-- what was not accepted had been sent: also with one more
rejected-below : (top w place : ℕ) (reception : Reception) (rejections : List Rejection) → w < top → ((r : Rejection) → Contains rejections r → r.number < top)
    → (r : Rejection) → Contains (rejections_after w place reception rejections) r → r.number < top
rejected-below top w place Neither rejections less all r has = all r has
rejected-below top w place (Rejected code) rejections less all r has = go (contains-cases _ _ rejections has)
  where
    go : (◌≡◌ {A = Rejection} (record { number = w; place = place; code = code }) r) ⊎ Contains rejections r → r.number < top
    go (inl same) = subst (λ (x : Rejection). x.number < top) same less
    go (inr old) = all r old
rejected-below top w place (Accepted found) rejections less all r has = all r has

-- a READ that waits had been sent
denied-below : (d : Direction) (c : CalmLink) (n left : ℕ) (rest : List Response) → Reached d c.link → c.link.responder.queue ≡ Data n left ∷ rest → n < c.link.request_top
denied-below d c n left rest reached is =
    let s = reached-sound d c.link reached in
    let q : QueueFact d c.link.acceptances c.link.rejections c.link.responder.expected c.link.response_top (Data n left ∷ rest) =
    subst (QueueFact d c.link.acceptances c.link.rejections c.link.responder.expected c.link.response_top) is s.queue in
    let low = queue-low d c.link.acceptances c.link.rejections c.link.responder.expected (max c.link.response_top (reach_of_all d.mtu (Data n left))) rest q.2 in
    omega (arith, low, segments-some d.mtu left, s.numbers.expected_request_top)

-- a response that is undelivered, and is no sequence error, has a number that was sent
sent-number : (d : Direction) (c : CalmLink) (a : Response) → IsCalm d c → reach a ≤ c.link.requester.cursor → Passes d c.link.requester.una a
    → Holds d c.link.acceptances c.link.rejections a → number_of a < c.link.requester.cursor
sent-number d c (Ack n) h reaches passes holds = omega (arith, reaches)
sent-number d c (Data n left) h reaches passes holds = omega (arith, reaches)
sent-number d c (Found n found) h reaches passes holds = omega (arith, reaches)
sent-number d c (Nak PsnSequenceError n) h reaches passes holds = absurd (passes.1 refl)
sent-number d c (Nak InvalidRequest n) h reaches passes holds = omega (arith, h.rejections _ holds.rejection, h.top)
sent-number d c (Nak RemoteAccessError n) h reaches passes holds = omega (arith, h.rejections _ holds.rejection, h.top)
sent-number d c (Nak RemoteOperationalError n) h reaches passes holds = omega (arith, h.rejections _ holds.rejection, h.top)
sent-number d c (Nak ReceiverNotReady n) h reaches passes holds = omega (arith, h.rejections _ holds.rejection, h.top)

pub response-sent : (d : Direction) (c : CalmLink) (k : ℕ) (a : Response) → Reached d c.link → IsCalm d c → c.responses ≡ suc k
    → slice_get c.link.responses k ≡ Some (Some a) → number_of a < c.link.requester.cursor
response-sent d c k a reached h count is =
    sent-number d c a h (response-reaches d c k a reached h is) (oldest-passes d c k a h count is).0 ((reached-sound d c.link reached).responses k a is).holds

-- a link stays calm where the requester and the responses under way bring `una` as far as before, and the rest stays
pub calm-move : (d : Direction) (c new : CalmLink) → Reached d c.link → IsCalm d c → CalmMove d c new → IsCalm d new
calm-move d c _ reached h (send place may few) = record {
  top = omega (arith, h.top);
  requests = expected-send d c.link.requester.cursor c.requests c.link.requests c.link.responder.expected place c.standing h.requests;
  responses = h.responses;
  queue = h.queue;
  rest = h.rest;
  rejections = λ r has. omega (arith, h.rejections r has);
}
calm-move d c _ reached h (respond a rest is) =
    let some = mtu-some d c.link reached in
    let queue : QueuePasses d (una_after c.link.requester.una c.responses c.link.responses) (a ∷ rest) =
    subst (QueuePasses d (una_after c.link.requester.una c.responses c.link.responses)) is h.queue in
    record {
      top = h.top;
      requests = h.requests;
      responses = (queue.0, h.responses);
      queue = queue-sent d (una_after c.link.requester.una c.responses c.link.responses) a rest some queue;
      rest = subst (λ u. NoneIsLeft d u c.link.responder.expected c.standing)
          (ap (una_after_queue d.mtu (una_after c.link.requester.una c.responses c.link.responses)) is
          ∙ una-sent d (una_after c.link.requester.una c.responses c.link.responses) a rest some) h.rest;
      rejections = h.rejections;
    }
calm-move d c _ reached h (deny n left place rest is names) =
    let queue : QueuePasses d (una_after c.link.requester.una c.responses c.link.responses) (Data n left ∷ rest) =
    subst (QueuePasses d (una_after c.link.requester.una c.responses c.link.responses)) is h.queue in
    record {
      top = h.top;
      requests = tt;
      responses = ((queue.0, λ e. absurd (cc)), h.responses);
      queue = tt;
      rest = tt;
      rejections = rejected-below c.link.request_top n place (Rejected RemoteAccessError) c.link.rejections (denied-below d c n left rest reached is) h.rejections;
    }
calm-move d c _ reached h (admit k packet responder reception count may accepts does) =
    let s = reached-sound d c.link reached in
    let u = una_after c.link.requester.una c.responses c.link.responses in
    let now = received d c.link.requester.cursor u k c.link.requests packet c.link.responder responder reception
    (s.requests k packet may.is).number (accepting-oldest d c k packet h accepts count may.is) h.queue
    (subst (NoneIsLeft d (una_after_queue d.mtu u c.link.responder.queue) c.link.responder.expected) accepts h.rest) does in
    record { top = h.top; requests = now.requests; responses = h.responses; queue = now.queue; rest = now.rest; rejections = rejected-below c.link.request_top packet.number packet.place reception c.link.rejections (omega (arith, (s.requests k packet may.is).below, span-some d packet.place packet.number)) h.rejections }
calm-move d c _ reached h (drop k packet count may other) = record {
  top = h.top;
  requests = expected-drop d c.link.requester.cursor k c.link.requests c.link.responder.expected c.standing packet other (some-requests d c k h count) may.is;
  responses = h.responses;
  queue = h.queue;
  rest = h.rest;
  rejections = h.rejections;
}
calm-move d c _ reached h (pass_request k count is) = record {
  top = h.top;
  requests = expected-pass d c.link.requester.cursor k c.link.requests c.link.responder.expected c.standing (some-requests d c k h count) is;
  responses = h.responses;
  queue = h.queue;
  rest = h.rest;
  rejections = h.rejections;
}
calm-move d c _ reached h (take_answer k a requester completion count may does una cursor) =
    let old : una_after c.link.requester.una c.responses c.link.responses ≡ una_after requester.una k c.link.responses =
    ap (λ n. una_after c.link.requester.una n c.link.responses) count
    ∙ una-oldest c.link.requester.una k c.link.responses a may.is
    ∙ ap (λ u. una_after u k c.link.responses) (sym una) in
    record {
      top = h.top ∙ sym cursor;
      requests = subst (λ top. AreExpected d top c.requests c.link.requests c.link.responder.expected c.standing) (sym cursor) h.requests;
      responses = subst (λ u. AllPass d u k c.link.responses) (sym una) (oldest-passes d c k a h count may.is).1;
      queue = subst (λ u. QueuePasses d u c.link.responder.queue) old h.queue;
      rest = subst (λ u. NoneIsLeft d (una_after_queue d.mtu u c.link.responder.queue) c.link.responder.expected c.standing) old h.rest;
      rejections = h.rejections;
    }
calm-move d c _ reached h (pass_response k count is) =
    let old : una_after c.link.requester.una c.responses c.link.responses ≡ una_after c.link.requester.una k c.link.responses =
    ap (λ n. una_after c.link.requester.una n c.link.responses) count ∙ una-other c.link.requester.una k c.link.responses is in
    record {
      top = h.top;
      requests = h.requests;
      responses = pass-other d c.link.requester.una k c.link.responses (subst (λ n. AllPass d c.link.requester.una n c.link.responses) count h.responses) is;
      queue = subst (λ u. QueuePasses d u c.link.responder.queue) old h.queue;
      rest = subst (λ u. NoneIsLeft d (una_after_queue d.mtu u c.link.responder.queue) c.link.responder.expected c.standing) old h.rest;
      rejections = h.rejections;
    }
calm-move d c _ reached h close = record { top = h.top; requests = tt; responses = h.responses; queue = tt; rest = tt; rejections = h.rejections }
calm-move d c _ reached h clear = record { top = h.top; requests = tt; responses = h.responses; queue = h.queue; rest = tt; rejections = h.rejections }
calm-move d c _ reached h other_request = record {
  top = h.top;
  requests = expected-other d c.link.requester.cursor c.requests c.link.requests c.link.responder.expected c.standing h.requests;
  responses = h.responses;
  queue = h.queue;
  rest = h.rest;
  rejections = h.rejections;
}
calm-move d c _ reached h other_response = record { top = h.top; requests = h.requests; responses = h.responses; queue = h.queue; rest = h.rest; rejections = h.rejections }

-- the cursor goes on
pub cursor-on : (d : Direction) (c new : CalmLink) → CalmMove d c new → c.link.requester.cursor ≤ new.link.requester.cursor
cursor-on d c _ (send place may few) = omega arith
cursor-on d c _ (respond a rest is) = omega arith
cursor-on d c _ (deny n left place rest is names) = omega arith
cursor-on d c _ (admit k packet responder reception count may accepts does) = omega arith
cursor-on d c _ (drop k packet count may other) = omega arith
cursor-on d c _ (pass_request k count is) = omega arith
cursor-on d c _ (take_answer k a requester completion count may does una cursor) = omega arith
cursor-on d c _ (pass_response k count is) = omega arith
cursor-on d c _ close = omega arith
cursor-on d c _ clear = omega arith
cursor-on d c _ other_request = omega arith
cursor-on d c _ other_response = omega arith
