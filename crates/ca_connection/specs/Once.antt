-- What the laws of a connection say: how often a packet acted, and which response fits a request. Contracts cite it.
use Rattle.std.specs.Prelude.{◌≡◌, ℕ, suc, zero, ◌+◌, ◌-◌, ◌%◌, ◌^◌, ◌<◌, ◌≤◌, ◌↔◌, min, true, Bool, ◌==◌, ◌&&◌, nat_le, nat_lt, if◌then◌else◌, List, [], ◌∷◌}
use Rattle.std.specs.List.{count_by}
use Rattle.ca_psn.specs.Psn.{widened}
use Rattle.ca_connection.specs.Layout.{Direction, is_read, is_atomic, first, bytes_left, span}
use Rattle.ca_connection.specs.Link.{RequestPacket, Response, number_of, Acceptance, Link}
use Rattle.ca_connection.specs.Link.Response.{Ack, Nak, Data, Found}
use Rattle.ca_connection.specs.Limits.{most_outstanding, request_distance, response_distance}

-- how many acceptances stem from the packets with this number
abbrev pub acceptances_of_packet : ℕ → List Acceptance → ℕ
acceptances_of_packet n acceptances = count_by (λ m. m.number == n) acceptances

-- how many acceptances stem from the packets of the request at this place
abbrev pub acceptances_of_request : ℕ → List Acceptance → ℕ
acceptances_of_request place acceptances = count_by (λ m. m.place == place) acceptances

-- the accepted packet took the number n
abbrev pub takes_number : Direction → ℕ → Acceptance → Bool
takes_number d n m = nat_le m.number n && nat_lt n (m.number + span d m.place m.number)

-- the numbers of the accepted packets of the request at this place, the latest first
abbrev pub numbers_at : ℕ → List Acceptance → List ℕ
numbers_at place [] = []
numbers_at place (a ∷ rest) = if a.place == place then a.number ∷ numbers_at place rest else numbers_at place rest

-- so many numbers from one on, the last first
abbrev pub falling : ℕ → ℕ → List ℕ
falling low zero = []
falling low (suc count) = (low + count) ∷ falling low count

-- how many numbers of the request at this place lie below a bound
abbrev pub passed : Direction → ℕ → ℕ → ℕ
passed d place bound = min bound (first d (suc place)) - first d place

-- all numbers of the request are acknowledged or answered
abbrev pub HasSucceeded : Direction → Link → ℕ → Type 0
HasSucceeded d l place = first d (suc place) ≤ l.requester.una

-- The number of a request that may be delivered lies at most so far below the expected one, and less than what may be
-- outstanding above it; and its PSN alone tells it.
pub record RequestIsNear (l : Link) (packet : RequestPacket) : Type 0 where
  pub low : l.responder.expected ≤ packet.number + request_distance
  pub high : packet.number < l.responder.expected + most_outstanding
  pub exact : widened l.responder.expected (packet.number % 2 ^ 24) ≡ packet.number

-- The number of a response that may be delivered lies at most so far below `una`, and at most what may be outstanding above
-- it; and its PSN alone tells it.
pub record ResponseIsNear (l : Link) (a : Response) : Type 0 where
  pub low : l.requester.una ≤ number_of a + response_distance
  pub high : number_of a ≤ l.requester.una + most_outstanding
  pub exact : widened l.requester.una (number_of a % 2 ^ 24) ≡ number_of a

-- A response fits the request that has its number: a READ response is of a READ, its payload is as long as the segment there,
-- and it is the last one exactly at the READ's last number; an ATOMIC Acknowledge is of an atomic.
abbrev pub Fits : Direction → ℕ → Response → Type 0
Fits d place (Ack n) = Unit {0}
Fits d place (Nak code n) = Unit {0}
Fits d place (Data n left) =
    (is_read (d.work place) ≡ true) × (min d.mtu left ≡ min d.mtu (bytes_left d place n)) × ((left ≤ d.mtu) ↔ (n + 1 ≡ first d (suc place)))
Fits d place (Found n found) = is_atomic (d.work place) ≡ true
