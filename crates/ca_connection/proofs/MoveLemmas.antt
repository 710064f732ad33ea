-- Every move keeps the seven facts, so every link that moves lead to has them.
use Rattle.std.proofs.Common.{◌≡◌, ℕ, zero, suc, ◌%◌, ◌^◌, ◌<◌, ◌∷◌, slice_get, None, Some, sym, subst, arith}
use Rattle.ca_psn.specs.Psn.{widened}
use Rattle.ca_connection.specs.Limits.{kept_requests, kept_responses}
use Rattle.ca_connection.specs.Layout.{Direction, start}
use Rattle.ca_connection.specs.Link.{RequestPacket, Response, number_of, Link}
use Rattle.ca_connection.specs.Moves.{Receives, Takes, after_arrival, Move, Reached}
use Rattle.ca_connection.specs.Moves.Move.{send, send_nowhere, respond, respond_nowhere, arrive, take as take_answer, go_back, forget, other_request, other_response, clear_requests, clear_responses}
use Rattle.ca_connection.specs.Moves.Reached.{begin, move as one_move}
use Rattle.ca_connection.specs.Invariant.{NumberFact, RequestFact, ResponseFact, Sound}
use Rattle.ca_connection.proofs.LayoutLemmas.{span-some}
use Rattle.ca_connection.proofs.NumberLemmas.{widened-exact}
use Rattle.ca_connection.proofs.ListLemmas.{keeps-contains}
use Rattle.ca_connection.proofs.QueueLemmas.{queue-keeps}
use Rattle.ca_connection.proofs.SendLemmas.{opening-sound, send-sound, nowhere-sound}
use Rattle.ca_connection.proofs.RespondLemmas.{sendable, respond-sound, respond_nowhere-sound}
use Rattle.ca_connection.proofs.ReceiveLemmas.{receives-sound}
use Rattle.ca_connection.proofs.TakeLemmas.{numbers-move, takes-sound}

-- a request that is delivered stands for the number with which it was sent
pub request-exact : (d : Direction) (l : Link) (k : ℕ) (packet : RequestPacket)
    → NumberFact (start d) l.requester.una l.requester.cursor l.response_top l.responder.expected l.request_top
    → RequestFact d l.request_top k packet → k < kept_requests
    → widened l.responder.expected (packet.number % 2 ^ 24) ≡ packet.number
request-exact d l k packet n f recent =
    widened-exact l.responder.expected packet.number (omega arith) (omega (arith, f.near)) (omega (arith, f.below, span-some d packet.place packet.number))

-- so does a response
pub response-exact : (d : Direction) (l : Link) (k : ℕ) (a : Response)
    → NumberFact (start d) l.requester.una l.requester.cursor l.response_top l.responder.expected l.request_top
    → ResponseFact d l.acceptances l.rejections l.response_top k a → k < kept_responses
    → widened l.requester.una (number_of a % 2 ^ 24) ≡ number_of a
response-exact d l k a n f recent =
    widened-exact l.requester.una (number_of a) (omega arith) (omega (arith, f.near)) (omega (arith, f.below))

pub move-sound : (d : Direction) (l new : Link) → 0 < d.mtu → Sound d l → Move d l new → Sound d new
move-sound d l _ some s (send place may size) = send-sound d l place may size s
move-sound d l _ some s (send_nowhere place may none_there) = nowhere-sound d l place may s
move-sound d l _ some s (respond a rest rejection responds) = respond-sound d l a rest rejection (sendable d l a rest rejection some responds s) s
move-sound d l _ some s (respond_nowhere a rest rejection responds none_there) = respond_nowhere-sound d l a rest rejection (sendable d l a rest rejection some responds s) s
move-sound d l _ some s (arrive k packet responder reception may receives) =
    let f : RequestFact d l.request_top k packet = s.requests k packet may.is in
    let exact = request-exact d l k packet s.numbers f may.recent in
    subst (λ w. Receives d packet w l.responder responder reception → Sound d (after_arrival l packet w responder reception)) (sym exact)
    (receives-sound d l k packet responder reception some f (let n = s.numbers in omega (arith, f.near, may.recent)) s)
    receives
move-sound d l _ some s (take_answer k a requester completion may takes) =
    let f : ResponseFact d l.acceptances l.rejections l.response_top k a = s.responses k a may.is in
    let exact = response-exact d l k a s.numbers f may.recent in
    takes-sound d l k a requester completion f s (subst (λ w. Takes d a w l.requester requester completion) exact takes)
move-sound d l _ some s (go_back cursor low high) = record {
  numbers = numbers-move d l l.requester.una cursor (omega arith) s.numbers.una_response_top low high s;
  requests = s.requests;
  responses = s.responses;
  queue = s.queue;
  results = s.results;
  acceptances = s.acceptances;
  completions = s.completions;
}
move-sound d l _ some s (forget answers results keeps keeps_results) = record {
  numbers = s.numbers;
  requests = s.requests;
  responses = s.responses;
  queue = queue-keeps d l.acceptances l.rejections l.responder.expected l.response_top keeps s.queue;
  results = λ n found has. s.results n found (keeps-contains _ keeps_results has);
  acceptances = s.acceptances;
  completions = s.completions;
}
move-sound d l _ some s other_request = record {
  numbers = s.numbers;
  requests = older;
  responses = s.responses;
  queue = s.queue;
  results = s.results;
  acceptances = s.acceptances;
  completions = s.completions;
}
  where
    older : (k : ℕ) (packet : RequestPacket) → slice_get (None ∷ l.requests) k ≡ Some (Some packet) → RequestFact d l.request_top k packet
    older zero packet is = absurd (cc)
    older (suc k) packet is = let old = s.requests k packet is in record { below = old.below; near = omega (arith, old.near); number = old.number }
move-sound d l _ some s other_response = record {
  numbers = s.numbers;
  requests = s.requests;
  responses = older;
  queue = s.queue;
  results = s.results;
  acceptances = s.acceptances;
  completions = s.completions;
}
  where
    older : (k : ℕ) (a : Response) → slice_get (None ∷ l.responses) k ≡ Some (Some a) → ResponseFact d l.acceptances l.rejections l.response_top k a
    older zero a is = absurd (cc)
    older (suc k) a is = let old = s.responses k a is in record { below = old.below; near = omega (arith, old.near); holds = old.holds }
move-sound d l _ some s clear_requests = record {
  numbers = s.numbers;
  requests = λ k packet is. absurd (cc);
  responses = s.responses;
  queue = s.queue;
  results = s.results;
  acceptances = s.acceptances;
  completions = s.completions;
}
move-sound d l _ some s clear_responses = record {
  numbers = s.numbers;
  requests = s.requests;
  responses = λ k a is. absurd (cc);
  queue = s.queue;
  results = s.results;
  acceptances = s.acceptances;
  completions = s.completions;
}

pub mtu-some : (d : Direction) (l : Link) → Reached d l → 0 < d.mtu
mtu-some d _ (begin most) = omega arith
mtu-some d _ (one_move {l = l} reached step) = mtu-some d l reached

pub reached-sound : (d : Direction) (l : Link) → Reached d l → Sound d l
reached-sound d _ (begin most) = opening-sound d
reached-sound d _ (one_move {l = l} {new = new} reached step) = move-sound d l new (mtu-some d l reached) (reached-sound d l reached) step
