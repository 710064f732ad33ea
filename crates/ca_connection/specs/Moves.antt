-- What the two sides of a connection may do. The moves are coarse: each allows at least what a rule of the requester or the
-- responder does. Contracts cite it.
use Rattle.std.specs.Prelude.{◌≡◌, ℕ, suc, ◌+◌, ◌-◌, ◌%◌, ◌^◌, ◌<◌, ◌≤◌, max, true, nat_lt, if◌then◌else◌, List, [], ◌∷◌, ◌++◌, slice_get, Option, None, Some}
use Rattle.std.specs.List.{Contains}
use Rattle.ca_base.specs.declared.limits.TheConstants.{MIN_PATH_MTU}
use Rattle.ca_psn.specs.Psn.{widened}
use Rattle.ca_connection.specs.Limits.{most_outstanding, greatest_span, kept_requests, kept_responses}
use Rattle.ca_connection.specs.Layout.{Direction, is_data, is_read, is_atomic, HasNumber, bytes_left, span}
use Rattle.ca_connection.specs.Acknowledge.{PassesNone}
use Rattle.ca_connection.specs.Link.{RequestPacket, NakReason, Response, number_of, gain, reach, SavedResult, Acceptance, Rejection, AtomicCompletion, Requester, Responder, Link, opening}
use Rattle.ca_connection.specs.Link.NakReason.{PsnSequenceError, RemoteAccessError}
use Rattle.ca_connection.specs.Link.Response.{Ack, Nak, Data, Found}

-- what is kept of a list: some of its items, in their order
pub data Keeps {A : Type 0} : List A → List A → Type 0 where
  none : Keeps [] []
  keep : {x : A} {xs ys : List A} → Keeps xs ys → Keeps (x ∷ xs) (x ∷ ys)
  leave : {x : A} {xs ys : List A} → Keeps xs ys → Keeps (x ∷ xs) ys

-- what came of a packet that arrived: it was neither accepted nor rejected, rejected, or accepted, with what it found
pub data Reception : Type 0 where
  Neither : Reception
  Rejected : NakReason → Reception
  Accepted : ℕ → Reception

-- a responder with one more item at the end of what it keeps of its response queue
abbrev pub with_response : Responder → List Response → Response → Responder
with_response r kept a = record { expected = r.expected; queue = kept ++ (a ∷ []); results = r.results }

-- a responder that expects `next` now and has these saved results, likewise
abbrev pub responder_at : ℕ → List SavedResult → List Response → Response → Responder
responder_at next results kept a = record { expected = next; queue = kept ++ (a ∷ []); results = results }

-- What the responder makes of a packet, where w is the number that it takes the packet's PSN for. Only a packet that is
-- expected is accepted. One from before is answered again: a SEND or WRITE by an acknowledgement of all that was accepted,
-- a READ by reading again, an atomic by its saved result alone.
pub data Receives (d : Direction) (packet : RequestPacket) (w : ℕ) (r : Responder) : Responder → Reception → Type 0 where
  drop : Receives d packet w r r Neither
  sequence_error : {kept : List Response}
      → r.expected < w
      → Keeps r.queue kept
      → Receives d packet w r (with_response r kept (Nak PsnSequenceError r.expected)) Neither
  write_again : {kept : List Response} (last : ℕ)
      → w < r.expected
      → suc last ≡ r.expected
      → Keeps r.queue kept
      → Receives d packet w r (with_response r kept (Ack last)) Neither
  read_again : {kept : List Response}
      → is_read (d.work packet.place) ≡ true
      → w + span d packet.place packet.number ≤ r.expected
      → Keeps r.queue kept
      → Receives d packet w r (with_response r kept (Data w (bytes_left d packet.place packet.number))) Neither
  atomic_again : {kept : List Response} (found : ℕ)
      → Contains r.results (record { number = w; found = found })
      → Keeps r.queue kept
      → Receives d packet w r (with_response r kept (Found w found)) Neither
  refuse : {kept : List Response} (code : NakReason)
      → w ≡ r.expected
      → Keeps r.queue kept
      → Receives d packet w r (with_response r kept (Nak code w)) (Rejected code)
  write : {kept : List Response}
      → w ≡ r.expected
      → is_data (d.work packet.place) ≡ true
      → Keeps r.queue kept
      → Receives d packet w r (record { expected = w + 1; queue = kept; results = r.results }) (Accepted 0)
  write_and_acknowledge : {kept : List Response}
      → w ≡ r.expected
      → is_data (d.work packet.place) ≡ true
      → Keeps r.queue kept
      → Receives d packet w r (responder_at (w + 1) r.results kept (Ack w)) (Accepted 0)
  read : {kept : List Response}
      → w ≡ r.expected
      → is_read (d.work packet.place) ≡ true
      → Keeps r.queue kept
      → Receives d packet w r (responder_at (w + span d packet.place packet.number) r.results kept (Data w (bytes_left d packet.place packet.number))) (Accepted 0)
  atomic : {kept : List Response} {results : List SavedResult} (found : ℕ) → w ≡ r.expected
      → is_atomic (d.work packet.place) ≡ true
      → Keeps r.queue kept
      → Keeps r.results results
      → Receives d packet w r (responder_at (w + 1) (record { number = w; found = found } ∷ results) kept (Found w found)) (Accepted found)

-- The response queue once the front is sent: of a READ only its next packet was sent, and the rest of it stays at the front.
abbrev pub rest_of : ℕ → Response → List Response → List Response
rest_of mtu (Ack n) rest = rest
rest_of mtu (Nak code n) rest = rest
rest_of mtu (Data n left) rest = if nat_lt mtu left then Data (n + 1) (left - mtu) ∷ rest else rest
rest_of mtu (Found n value) rest = rest

-- What a turn of the responder sends, with the queue that is left: the front of its queue; or a NAK where the front is a READ
-- whose bytes may not be read any more, which is a rejection and empties the queue.
pub data Responds (d : Direction) (r : Responder) : Response → List Response → Option Rejection → Type 0 where
  front : (a : Response) (rest : List Response)
      → r.queue ≡ a ∷ rest
      → Responds d r a (rest_of d.mtu a rest) None
  deny : (n left place : ℕ) (rest : List Response)
      → r.queue ≡ Data n left ∷ rest
      → HasNumber d place n
      → Responds d r (Nak RemoteAccessError n) [] (Some (record { number = n; place = place; code = RemoteAccessError }))

-- What the requester makes of a response, where w is the number that it takes the response's PSN for. An acknowledgement
-- moves `una` on past what it takes_number, but past no number of a READ or an atomic. Past such a number it goes by the response to
-- that one alone. The cursor may go back at the same time, and never below `una`.
pub data Takes (d : Direction) (a : Response) (w : ℕ) (r : Requester) : Requester → Option AtomicCompletion → Type 0 where
  drop : Takes d a w r r None
  acknowledge : (next cursor : ℕ)
      → r.una ≤ next
      → next ≤ w + gain a
      → PassesNone d r.una next
      → next ≤ cursor
      → cursor ≤ r.cursor
      → Takes d a w r (record { una = next; cursor = cursor }) None
  read : (n left place : ℕ)
      → a ≡ Data n left
      → HasNumber d place w
      → is_read (d.work place) ≡ true
      → r.una ≤ w
      → w < r.cursor
      → PassesNone d r.una w
      → Takes d a w r (record { una = w + 1; cursor = r.cursor }) None
  atomic : (n found place : ℕ)
      → a ≡ Found n found
      → HasNumber d place w
      → is_atomic (d.work place) ≡ true
      → r.una ≤ w
      → w < r.cursor
      → PassesNone d r.una w
      → Takes d a w r (record { una = w + 1; cursor = r.cursor }) (Some (record { place = place; found = found }))

-- the histories after an event
abbrev pub acceptances_after : ℕ → ℕ → Reception → List Acceptance → List Acceptance
acceptances_after w place Neither acceptances = acceptances
acceptances_after w place (Rejected code) acceptances = acceptances
acceptances_after w place (Accepted found) acceptances = record { number = w; place = place; found = found } ∷ acceptances

abbrev pub rejections_after : ℕ → ℕ → Reception → List Rejection → List Rejection
rejections_after w place Neither rejections = rejections
rejections_after w place (Rejected code) rejections = record { number = w; place = place; code = code } ∷ rejections
rejections_after w place (Accepted found) rejections = rejections

abbrev pub with_one : {A : Type 0} → Option A → List A → List A
with_one None xs = xs
with_one (Some x) xs = x ∷ xs

-- the link after the requester sent the packet of this request at its cursor, with this mailbox at the responder
abbrev pub after_request : Direction → ℕ → Link → List (Option RequestPacket) → Link
after_request d place l requests = record l {
  requester = record { una = l.requester.una; cursor = l.requester.cursor + span d place l.requester.cursor };
  requests = requests;
  request_top = max l.request_top (l.requester.cursor + span d place l.requester.cursor);
}

-- the link after the responder sent a response, with this mailbox at the requester
abbrev pub after_response : Link → Response → List Response → Option Rejection → List (Option Response) → Link
after_response l a queue rejection responses = record l {
  responder = record { expected = l.responder.expected; queue = queue; results = l.responder.results };
  responses = responses;
  response_top = max l.response_top (reach a);
  rejections = with_one rejection l.rejections;
}

-- the link after a packet arrived that the responder takes for number w
abbrev pub after_arrival : Link → RequestPacket → ℕ → Responder → Reception → Link
after_arrival l packet w responder reception = record l {
  responder = responder;
  acceptances = acceptances_after w packet.place reception l.acceptances;
  rejections = rejections_after w packet.place reception l.rejections;
}

-- The request's envelope is in the responder's mailbox with k later ones, and may be delivered.
pub record MayArrive (l : Link) (k : ℕ) (packet : RequestPacket) : Type 0 where
  pub is : slice_get l.requests k ≡ Some (Some packet)
  pub recent : k < kept_requests

-- The response's envelope is in the requester's mailbox with k later ones, and may be delivered.
pub record MayBeTaken (l : Link) (k : ℕ) (a : Response) : Type 0 where
  pub is : slice_get l.responses k ≡ Some (Some a)
  pub recent : k < kept_responses

-- The request at this place has the number at the cursor, and its packet leaves no more numbers outstanding than may be.
pub record MaySend (d : Direction) (l : Link) (place : ℕ) : Type 0 where
  pub number : HasNumber d place l.requester.cursor
  pub room : l.requester.cursor + span d place l.requester.cursor ≤ l.requester.una + most_outstanding

-- The moves of a link. `send_nowhere` and `respond_nowhere` are those where no path leads to the other side: nothing of this
-- side is in the mailbox there, and no envelope is made. A kept envelope may be delivered in any order and any number of
-- times; of its number the PSN alone comes over the wire. A timer lets the requester go back. Errors empty a response queue,
-- and only so many results stay saved (`forget`). The other direction takes places in the mailboxes, and a side that is reset
-- loses its mailbox.
pub data Move (d : Direction) (l : Link) : Link → Type 0 where
  send : (place : ℕ)
      → MaySend d l place
      → span d place l.requester.cursor ≤ greatest_span
      → Move d l (after_request d place l (Some (record { number = l.requester.cursor; place = place }) ∷ l.requests))
  send_nowhere : (place : ℕ)
      → MaySend d l place
      → l.requests ≡ []
      → Move d l (after_request d place l [])
  respond : (a : Response) (rest : List Response) (rejection : Option Rejection)
      → Responds d l.responder a rest rejection
      → Move d l (after_response l a rest rejection (Some a ∷ l.responses))
  respond_nowhere : (a : Response) (rest : List Response) (rejection : Option Rejection)
      → Responds d l.responder a rest rejection
      → l.responses ≡ []
      → Move d l (after_response l a rest rejection [])
  arrive : (k : ℕ) (packet : RequestPacket) (responder : Responder) (reception : Reception)
      → MayArrive l k packet
      → Receives d packet (widened l.responder.expected (packet.number % 2 ^ 24)) l.responder responder reception
      → Move d l (after_arrival l packet (widened l.responder.expected (packet.number % 2 ^ 24)) responder reception)
  take : (k : ℕ) (a : Response) (requester : Requester) (completion : Option AtomicCompletion)
      → MayBeTaken l k a
      → Takes d a (widened l.requester.una (number_of a % 2 ^ 24)) l.requester requester completion
      → Move d l (record l { requester = requester; completions = with_one completion l.completions })
  go_back : (cursor : ℕ)
      → l.requester.una ≤ cursor
      → cursor ≤ l.requester.cursor
      → Move d l (record l { requester = record { una = l.requester.una; cursor = cursor } })
  forget : (queue : List Response) (results : List SavedResult)
      → Keeps l.responder.queue queue
      → Keeps l.responder.results results
      → Move d l (record l { responder = record { expected = l.responder.expected; queue = queue; results = results } })
  other_request : Move d l (record l { requests = None ∷ l.requests })
  other_response : Move d l (record l { responses = None ∷ l.responses })
  clear_requests : Move d l (record l { requests = [] })
  clear_responses : Move d l (record l { responses = [] })

-- the links that moves lead to, from the opening on; the path MTU is one of those that there are
pub data Reached (d : Direction) : Link → Type 0 where
  begin : MIN_PATH_MTU ≤ d.mtu → Reached d (opening d)
  move : {l new : Link} → Reached d l → Move d l new → Reached d new
