-- The opening has the seven facts, and sending keeps them.
use Rattle.std.proofs.Common.{◌≡◌, ℕ, zero, suc, ◌+◌, ◌≤◌, max, [], ◌∷◌, slice_get, Some, refl, subst, arith}
use Rattle.ca_connection.specs.Limits.{greatest_span}
use Rattle.ca_connection.specs.Layout.{Direction, start, span}
use Rattle.ca_connection.specs.Link.{RequestPacket, Link, opening}
use Rattle.ca_connection.specs.Moves.{after_request, MaySend}
use Rattle.ca_connection.specs.Invariant.{NumberFact, RequestFact, Sound}
use Rattle.ca_connection.proofs.LayoutLemmas.{start-le}

pub opening-sound : (d : Direction) → Sound d (opening d)
opening-sound d = record {
  numbers = record { low = omega arith; una_cursor = omega arith; cursor_request_top = omega arith; una_response_top = omega arith; response_top_expected = omega arith; expected_request_top = omega arith; request_top_una = omega arith };
  requests = λ k packet is. absurd (cc);
  responses = λ k a is. absurd (cc);
  queue = omega arith;
  results = λ n found has. absurd (omega (arith, has.1));
  acceptances = refl;
  completions = record {
    atomic = λ place found has. absurd (omega (arith, has.1));
    below = λ place found has. absurd (omega (arith, has.1));
    acceptance = λ place found has. absurd (omega (arith, has.1));
    all = λ place n is names below. absurd (omega (arith, start-le d place, names.from, below));
  };
}

send-numbers : (d : Direction) (l : Link) (place : ℕ)
    → MaySend d l place
    → Sound d l
    → NumberFact (start d) l.requester.una (l.requester.cursor + span d place l.requester.cursor) l.response_top l.responder.expected (max l.request_top (l.requester.cursor + span d place l.requester.cursor))
send-numbers d l place may s = let n = s.numbers in record {
  low = n.low;
  una_cursor = omega arith;
  cursor_request_top = omega arith;
  una_response_top = n.una_response_top;
  response_top_expected = n.response_top_expected;
  expected_request_top = omega arith;
  request_top_una = omega arith;
}

pub send-sound : (d : Direction) (l : Link) (place : ℕ)
    → MaySend d l place
    → span d place l.requester.cursor ≤ greatest_span
    → Sound d l → Sound d (after_request d place l (Some (record { number = l.requester.cursor; place = place }) ∷ l.requests))
send-sound d l place may size s = record {
  numbers = send-numbers d l place may s;
  requests = requests;
  responses = s.responses;
  queue = s.queue;
  results = s.results;
  acceptances = s.acceptances;
  completions = s.completions;
}
  where
    new_fact : RequestFact d (max l.request_top (l.requester.cursor + span d place l.requester.cursor)) 0 (record { number = l.requester.cursor; place = place })
    new_fact = let n = s.numbers in record { number = may.number; below = omega arith; near = omega arith }

    requests : (k : ℕ) (packet : RequestPacket)
        → slice_get (Some (record { number = l.requester.cursor; place = place }) ∷ l.requests) k ≡ Some (Some packet)
        → RequestFact d (max l.request_top (l.requester.cursor + span d place l.requester.cursor)) k packet
    requests zero packet is =
        let same : record { number = l.requester.cursor; place = place } ≡ packet = cc in
        subst (λ p. RequestFact d (max l.request_top (l.requester.cursor + span d place l.requester.cursor)) 0 p) same new_fact
    requests (suc k) packet is = let old = s.requests k packet is in let n = s.numbers in
        record { below = omega arith; near = omega arith; number = old.number }

pub nowhere-sound : (d : Direction) (l : Link) (place : ℕ)
    → MaySend d l place
    → Sound d l → Sound d (after_request d place l [])
nowhere-sound d l place may s = record {
  numbers = send-numbers d l place may s;
  requests = λ k packet is. absurd (cc);
  responses = s.responses;
  queue = s.queue;
  results = s.results;
  acceptances = s.acceptances;
  completions = s.completions;
}
