-- What holds of every link that moves lead to: seven facts. Contracts cite it.
use Rattle.std.specs.Prelude.{◌≡◌, ℕ, suc, ◌+◌, ◌*◌, ◌<◌, ◌≤◌, max, true, List, [], ◌∷◌, slice_get, Some}
use Rattle.std.specs.List.{Contains}
use Rattle.ca_connection.specs.Limits.{most_outstanding, greatest_span, request_distance}
use Rattle.ca_connection.specs.Layout.{Direction, is_read, is_atomic, start, first, HasNumber, bytes_left, span}
use Rattle.ca_connection.specs.Link.{RequestPacket, NakReason, Response, number_of, reach, reach_of_all, SavedResult, Acceptance, Rejection, AtomicCompletion, Link}
use Rattle.ca_connection.specs.Link.NakReason.{PsnSequenceError, InvalidRequest, RemoteAccessError, RemoteOperationalError, ReceiverNotReady}
use Rattle.ca_connection.specs.Link.Response.{Ack, Nak, Data, Found}

-- 1. The numbers of the two sides form one chain, at most as long as what may be outstanding.
pub record NumberFact (begin una cursor response_top expected request_top : ℕ) : Type 0 where
  pub low : begin ≤ una
  pub una_cursor : una ≤ cursor
  pub cursor_request_top : cursor ≤ request_top
  pub una_response_top : una ≤ response_top
  pub response_top_expected : response_top ≤ expected
  pub expected_request_top : expected ≤ request_top
  pub request_top_una : request_top ≤ una + most_outstanding

-- 2. A request's envelope with k later ones: its packet has a number of its request, and takes none from `request_top` on.
-- Since it was sent `request_top` has gone on by at most the greatest span for each later envelope.
pub record RequestFact (d : Direction) (request_top k : ℕ) (packet : RequestPacket) : Type 0 where
  pub number : HasNumber d packet.place packet.number
  pub below : packet.number + span d packet.place packet.number ≤ request_top
  pub near : request_top ≤ packet.number + most_outstanding + greatest_span * k

-- the packet with this number was accepted, is an atomic's, and found this value
pub record Swapped (d : Direction) (acceptances : List Acceptance) (n found : ℕ) : Type 0 where
  pub place : ℕ
  pub atomic : is_atomic (d.work place) ≡ true
  pub acceptance : Contains acceptances (record { number = n; place = place; found = found })

-- the number is a READ's, and of its message so many bytes are left from there on
pub record ReadsFrom (d : Direction) (n left : ℕ) : Type 0 where
  pub place : ℕ
  pub number : HasNumber d place n
  pub read : is_read (d.work place) ≡ true
  pub rest : left ≡ bytes_left d place n

-- the packet with this number was not accepted, for this reason
pub record RejectedFor (d : Direction) (rejections : List Rejection) (n : ℕ) (code : NakReason) : Type 0 where
  pub place : ℕ
  pub number : HasNumber d place n
  pub rejection : Contains rejections (record { number = n; place = place; code = code })

-- A NAK has its rejection, but for a sequence error, which says of its number only that it has not come yet.
abbrev pub HasRejection : Direction → List Rejection → ℕ → NakReason → Type 0
HasRejection d rejections n PsnSequenceError = Unit {0}
HasRejection d rejections n InvalidRequest = RejectedFor d rejections n InvalidRequest
HasRejection d rejections n RemoteAccessError = RejectedFor d rejections n RemoteAccessError
HasRejection d rejections n RemoteOperationalError = RejectedFor d rejections n RemoteOperationalError
HasRejection d rejections n ReceiverNotReady = RejectedFor d rejections n ReceiverNotReady

-- what stands behind a response, in the queue or sent
abbrev pub Holds : Direction → List Acceptance → List Rejection → Response → Type 0
Holds d acceptances rejections (Ack n) = Unit {0}
Holds d acceptances rejections (Nak code n) = HasRejection d rejections n code
Holds d acceptances rejections (Data n left) = ReadsFrom d n left
Holds d acceptances rejections (Found n found) = Swapped d acceptances n found

-- 3. A response's envelope with k later ones: it can bring `una` to `response_top` at most. Since it was sent `response_top` has
-- gone on by at most what may be outstanding for each later envelope. And something stands behind it.
pub record ResponseFact (d : Direction) (acceptances : List Acceptance) (rejections : List Rejection) (response_top k : ℕ) (a : Response) : Type 0 where
  pub below : reach a ≤ response_top
  pub near : response_top ≤ number_of a + request_distance + most_outstanding * k
  pub holds : Holds d acceptances rejections a

-- 4. The response queue is a chain. `low` is how far the responses that were sent and the items so far can bring `una`: it is not
-- far above the number of the next item, and at the end not above the expected number. Something stands behind each item.
abbrev pub QueueFact : Direction → List Acceptance → List Rejection → ℕ → ℕ → List Response → Type 0
QueueFact d acceptances rejections expected low [] = low ≤ expected
QueueFact d acceptances rejections expected low (a ∷ rest) =
    (low ≤ number_of a + request_distance) × Holds d acceptances rejections a × QueueFact d acceptances rejections expected (max low (reach_of_all d.mtu a)) rest

-- 5. Each saved result is what the atomic with its number found.
abbrev pub ResultFact : Direction → List Acceptance → List SavedResult → Type 0
ResultFact d acceptances results = (n found : ℕ) → Contains results (record { number = n; found = found }) → Swapped d acceptances n found

-- 6. The acceptances, the latest first, have falling numbers without gaps, from the expected number down to the first one: each
-- packet ends where the next one begins. And each is of the request that has its number.
abbrev pub AcceptanceFact : Direction → ℕ → List Acceptance → Type 0
AcceptanceFact d bound [] = bound ≡ start d
AcceptanceFact d bound (m ∷ rest) = (m.number + span d m.place m.number ≡ bound) × HasNumber d m.place m.number × AcceptanceFact d m.number rest

-- 7. An atomic has completed exactly where its number is below `una`, and its completion gives what its acceptance found.
pub record CompletionFact (d : Direction) (una : ℕ) (acceptances : List Acceptance) (completions : List AtomicCompletion) : Type 0 where
  pub atomic : (place found : ℕ) → Contains completions (record { place = place; found = found }) → is_atomic (d.work place) ≡ true
  pub below : (place found : ℕ) → Contains completions (record { place = place; found = found }) → first d (suc place) ≤ una
  pub acceptance : (place found : ℕ) → Contains completions (record { place = place; found = found }) → Contains acceptances (record { number = first d place; place = place; found = found })
  pub all : (place n : ℕ) → is_atomic (d.work place) ≡ true → HasNumber d place n → n < una → (found : ℕ) × Contains completions (record { place = place; found = found })

-- all seven
pub record Sound (d : Direction) (l : Link) : Type 0 where
  pub numbers : NumberFact (start d) l.requester.una l.requester.cursor l.response_top l.responder.expected l.request_top
  pub requests : (k : ℕ) (packet : RequestPacket) → slice_get l.requests k ≡ Some (Some packet) → RequestFact d l.request_top k packet
  pub responses : (k : ℕ) (a : Response) → slice_get l.responses k ≡ Some (Some a) → ResponseFact d l.acceptances l.rejections l.response_top k a
  pub queue : QueueFact d l.acceptances l.rejections l.responder.expected l.response_top l.responder.queue
  pub results : ResultFact d l.acceptances l.responder.results
  pub acceptances : AcceptanceFact d l.responder.expected l.acceptances
  pub completions : CompletionFact d l.requester.una l.acceptances l.completions
