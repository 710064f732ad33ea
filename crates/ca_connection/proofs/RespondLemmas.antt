-- A turn of the responder keeps the seven facts.
use Rattle.std.proofs.Common.{◌≡◌, ℕ, zero, suc, ◌+◌, ◌-◌, ◌<◌, ◌≤◌, max, true, false, Bool, List, [], ◌∷◌, slice_get, Option, Some, refl, ap, subst, arith, ltb-true}
use Rattle.std.specs.Prelude.{nat_lt, if◌then◌else◌}
use Rattle.ca_connection.specs.Limits.{request_distance}
use Rattle.ca_connection.specs.Layout.{Direction, segments, start, bytes_left}
use Rattle.ca_connection.specs.Link.{Response, number_of, gain, reach, reach_of_all, Acceptance, Rejection, Link}
use Rattle.ca_connection.specs.Link.Response.{Ack, Nak, Data, Found}
use Rattle.ca_connection.specs.Moves.{rest_of, Responds, with_one, after_response}
use Rattle.ca_connection.specs.Moves.Responds.{front, deny}
use Rattle.ca_connection.specs.Invariant.{NumberFact, ReadsFrom, Holds, ResponseFact, QueueFact, Sound}
use Rattle.ca_connection.proofs.LayoutLemmas.{segments-some, segments-step, span-read, span-is_read, bytes_left-step}
use Rattle.ca_connection.proofs.ListLemmas.{contains-head, one-grows}
use Rattle.ca_connection.proofs.QueueLemmas.{holds-more, queue-lower, queue-low}

gain-le : (a : Response) → gain a ≤ 1
gain-le (Ack n) = omega arith
gain-le (Nak code n) = omega arith
gain-le (Data n left) = omega arith
gain-le (Found n found) = omega arith

reach-le : (mtu : ℕ) (a : Response) → reach a ≤ reach_of_all mtu a
reach-le mtu (Ack n) = omega arith
reach-le mtu (Nak code n) = omega arith
reach-le mtu (Data n left) = omega (arith, segments-some mtu left)
reach-le mtu (Found n found) = omega arith

-- the next packet of a READ
reads-on : (d : Direction) (n left : ℕ) → 0 < d.mtu → d.mtu < left → ReadsFrom d n left → ReadsFrom d (n + 1) (left - d.mtu)
reads-on d n left some more r =
    let two : segments d.mtu left ≡ suc (segments d.mtu (left - d.mtu)) = segments-step d.mtu left some more in
    let all : segments d.mtu left ≡ segments d.mtu (bytes_left d r.place n) = ap (segments d.mtu) r.rest in
    let end = span-read d r.place n some r.read r.number in
    let long = span-is_read d r.place n r.read in
    record {
      place = r.place;
      number = record { from = omega (arith, r.number.from); below = omega (arith, two, all, end, long, segments-some d.mtu (left - d.mtu)) };
      read = r.read;
      rest = omega (arith, r.rest, bytes_left-step d r.place n r.number.from);
    }

-- the queue after its front was sent
queue-front : (d : Direction) (acceptances : List Acceptance) (rejections : List Rejection) (expected low : ℕ) (a : Response) (rest : List Response)
    → 0 < d.mtu
    → QueueFact d acceptances rejections expected low (a ∷ rest)
    → QueueFact d acceptances rejections expected (max low (reach a)) (rest_of d.mtu a rest)
queue-front d acceptances rejections expected low (Ack n) rest some q = q.2
queue-front d acceptances rejections expected low (Nak code n) rest some q = queue-lower d acceptances rejections expected (max low n) (max low (n + 0)) rest (omega arith) q.2
queue-front d acceptances rejections expected low (Found n found) rest some q = q.2
queue-front d acceptances rejections expected low (Data n left) rest some q = go (nat_lt d.mtu left) refl
  where
    go : (b : Bool) → nat_lt d.mtu left ≡ b → QueueFact d acceptances rejections expected (max low (n + 1)) (if b then Data (n + 1) (left - d.mtu) ∷ rest else rest)
    go true more =
        let lt : d.mtu < left = ltb-true d.mtu left more in
        let two : segments d.mtu left ≡ suc (segments d.mtu (left - d.mtu)) = segments-step d.mtu left some lt in (
          omega (arith, q.0),
          reads-on d n left some lt q.1,
          queue-lower d acceptances rejections expected (max low (n + segments d.mtu left)) (max (max low (n + 1)) (n + 1 + segments d.mtu (left - d.mtu))) rest (omega (arith, two)) q.2,
        )
    go false last = queue-lower d acceptances rejections expected (max low (n + segments d.mtu left)) (max low (n + 1)) rest (omega (arith, segments-some d.mtu left)) q.2

-- what a response that is sent has to be, so that the facts stay
pub record Sendable (d : Direction) (l : Link) (a : Response) (rest : List Response) (rejection : Option Rejection) : Type 0 where
  reaches : reach a ≤ l.responder.expected
  near : l.response_top ≤ number_of a + request_distance
  holds : Holds d l.acceptances (with_one rejection l.rejections) a
  queue : QueueFact d l.acceptances (with_one rejection l.rejections) l.responder.expected (max l.response_top (reach a)) rest

pub sendable : (d : Direction) (l : Link) (a : Response) (rest : List Response) (rejection : Option Rejection)
    → 0 < d.mtu → Responds d l.responder a rest rejection → Sound d l → Sendable d l a rest rejection
sendable d l a _ _ some (front _ rest is) s =
    let q : QueueFact d l.acceptances l.rejections l.responder.expected l.response_top (a ∷ rest) = subst (QueueFact d l.acceptances l.rejections l.responder.expected l.response_top) is s.queue in
    let low = queue-low d l.acceptances l.rejections l.responder.expected (max l.response_top (reach_of_all d.mtu a)) rest q.2 in
    record {
      reaches = omega (arith, low, reach-le d.mtu a);
      near = q.0;
      holds = q.1;
      queue = queue-front d l.acceptances l.rejections l.responder.expected l.response_top a rest some q;
    }
sendable d l _ _ _ some (deny n left place rest is names) s =
    let q : QueueFact d l.acceptances l.rejections l.responder.expected l.response_top (Data n left ∷ rest) = subst (QueueFact d l.acceptances l.rejections l.responder.expected l.response_top) is s.queue in
    let low = queue-low d l.acceptances l.rejections l.responder.expected (max l.response_top (n + segments d.mtu left)) rest q.2 in
    record {
      reaches = omega (arith, low);
      near = q.0;
      holds = record { place = place; number = names; rejection = contains-head _ l.rejections };
      queue = omega (arith, low);
    }

respond-numbers : (d : Direction) (l : Link) (a : Response) → reach a ≤ l.responder.expected → Sound d l
    → NumberFact (start d) l.requester.una l.requester.cursor (max l.response_top (reach a)) l.responder.expected l.request_top
respond-numbers d l a reaches s = let n = s.numbers in record {
  low = n.low;
  una_cursor = n.una_cursor;
  cursor_request_top = n.cursor_request_top;
  una_response_top = omega arith;
  response_top_expected = omega arith;
  expected_request_top = n.expected_request_top;
  request_top_una = n.request_top_una;
}

pub respond-sound : (d : Direction) (l : Link) (a : Response) (rest : List Response) (rejection : Option Rejection)
    → Sendable d l a rest rejection → Sound d l → Sound d (after_response l a rest rejection (Some a ∷ l.responses))
respond-sound d l a rest rejection can s = record {
  numbers = respond-numbers d l a can.reaches s;
  requests = s.requests;
  responses = responses;
  queue = can.queue;
  results = s.results;
  acceptances = s.acceptances;
  completions = s.completions;
}
  where
    new_fact : ResponseFact d l.acceptances (with_one rejection l.rejections) (max l.response_top (reach a)) 0 a
    new_fact = record { below = omega arith; near = omega (arith, can.near, gain-le a); holds = can.holds }

    responses : (k : ℕ) (b : Response) → slice_get (Some a ∷ l.responses) k ≡ Some (Some b) → ResponseFact d l.acceptances (with_one rejection l.rejections) (max l.response_top (reach a)) k b
    responses zero b is =
        let same : a ≡ b = cc in
        subst (ResponseFact d l.acceptances (with_one rejection l.rejections) (max l.response_top (reach a)) 0) same new_fact
    responses (suc k) b is = let old = s.responses k b is in let n = s.numbers in record {
      below = omega arith;
      near = omega (arith, can.reaches);
      holds = holds-more d l.acceptances l.acceptances l.rejections (with_one rejection l.rejections) (λ m has. has) (one-grows rejection l.rejections) b old.holds;
    }

pub respond_nowhere-sound : (d : Direction) (l : Link) (a : Response) (rest : List Response) (rejection : Option Rejection)
    → Sendable d l a rest rejection → Sound d l → Sound d (after_response l a rest rejection [])
respond_nowhere-sound d l a rest rejection can s = record {
  numbers = respond-numbers d l a can.reaches s;
  requests = s.requests;
  responses = λ k b is. absurd (cc);
  queue = can.queue;
  results = s.results;
  acceptances = s.acceptances;
  completions = s.completions;
}
