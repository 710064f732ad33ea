-- The response queue stays a chain.
use Rattle.std.proofs.Common.{ℕ, ◌+◌, ◌≤◌, max, List, [], ◌∷◌, ◌++◌, arith}
use Rattle.std.specs.List.{Contains}
use Rattle.ca_connection.specs.Limits.{request_distance}
use Rattle.ca_connection.specs.Layout.{Direction}
use Rattle.ca_connection.specs.Link.{Response, number_of, reach_of_all, Acceptance, Rejection}
use Rattle.ca_connection.specs.Link.NakReason.{PsnSequenceError, InvalidRequest, RemoteAccessError, RemoteOperationalError, ReceiverNotReady}
use Rattle.ca_connection.specs.Link.Response.{Ack, Nak, Data, Found}
use Rattle.ca_connection.specs.Moves.{Keeps}
use Rattle.ca_connection.specs.Moves.Keeps.{none as keeps_none, keep as keeps_one, leave as leaves_one}
use Rattle.ca_connection.specs.Invariant.{Holds, QueueFact}

-- all that stands behind a response still does, when acceptances and rejections grow
pub holds-more : (d : Direction) (acceptances more : List Acceptance) (rejections rest : List Rejection)
    → ((m : Acceptance) → Contains acceptances m → Contains more m)
    → ((r : Rejection) → Contains rejections r → Contains rest r)
    → (a : Response) → Holds d acceptances rejections a → Holds d more rest a
holds-more d acceptances more rejections rest grow grows (Ack n) h = h
holds-more d acceptances more rejections rest grow grows (Nak PsnSequenceError n) h = h
holds-more d acceptances more rejections rest grow grows (Nak InvalidRequest n) h = record { place = h.place; number = h.number; rejection = grows _ h.rejection }
holds-more d acceptances more rejections rest grow grows (Nak RemoteAccessError n) h = record { place = h.place; number = h.number; rejection = grows _ h.rejection }
holds-more d acceptances more rejections rest grow grows (Nak RemoteOperationalError n) h = record { place = h.place; number = h.number; rejection = grows _ h.rejection }
holds-more d acceptances more rejections rest grow grows (Nak ReceiverNotReady n) h = record { place = h.place; number = h.number; rejection = grows _ h.rejection }
holds-more d acceptances more rejections rest grow grows (Data n left) h = h
holds-more d acceptances more rejections rest grow grows (Found n found) h = record { place = h.place; atomic = h.atomic; acceptance = grow _ h.acceptance }

pub queue-lower : (d : Direction) (acceptances : List Acceptance) (rejections : List Rejection) (expected low lower : ℕ) (answers : List Response)
    → lower ≤ low → QueueFact d acceptances rejections expected low answers → QueueFact d acceptances rejections expected lower answers
queue-lower d acceptances rejections expected low lower [] le q = omega (arith, q)
queue-lower d acceptances rejections expected low lower (a ∷ rest) le q =
    (omega (arith, q.0), q.1, queue-lower d acceptances rejections expected (max low (reach_of_all d.mtu a)) (max lower (reach_of_all d.mtu a)) rest (omega arith) q.2)

pub queue-keeps : (d : Direction) (acceptances : List Acceptance) (rejections : List Rejection) (expected low : ℕ) {answers some : List Response}
    → Keeps answers some → QueueFact d acceptances rejections expected low answers → QueueFact d acceptances rejections expected low some
queue-keeps d acceptances rejections expected low keeps_none q = q
queue-keeps d acceptances rejections expected low (keeps_one {x = a} rest) q = (q.0, q.1, queue-keeps d acceptances rejections expected (max low (reach_of_all d.mtu a)) rest q.2)
queue-keeps d acceptances rejections expected low (leaves_one {x = a} {ys = ys} rest) q =
    queue-lower d acceptances rejections expected (max low (reach_of_all d.mtu a)) low ys (omega arith) (queue-keeps d acceptances rejections expected (max low (reach_of_all d.mtu a)) rest q.2)

pub queue-low : (d : Direction) (acceptances : List Acceptance) (rejections : List Rejection) (expected low : ℕ) (answers : List Response)
    → QueueFact d acceptances rejections expected low answers → low ≤ expected
queue-low d acceptances rejections expected low [] q = q
queue-low d acceptances rejections expected low (a ∷ rest) q = omega (arith, queue-low d acceptances rejections expected (max low (reach_of_all d.mtu a)) rest q.2)

-- one more item at the end, while acceptances and rejections grow and the expected number with them
pub queue-push : (d : Direction) (acceptances more : List Acceptance) (rejections rest : List Rejection) (expected next low : ℕ) (answers : List Response) (a : Response)
    → ((m : Acceptance) → Contains acceptances m → Contains more m)
    → ((r : Rejection) → Contains rejections r → Contains rest r)
    → expected ≤ number_of a + request_distance → expected ≤ next → reach_of_all d.mtu a ≤ next → Holds d more rest a
    → QueueFact d acceptances rejections expected low answers → QueueFact d more rest next low (answers ++ (a ∷ []))
queue-push d acceptances more rejections rest expected next low [] a grow grows near le end holds q = (omega (arith, q), holds, omega (arith, q))
queue-push d acceptances more rejections rest expected next low (b ∷ answers) a grow grows near le end holds q = (
  q.0,
  holds-more d acceptances more rejections rest grow grows b q.1,
  queue-push d acceptances more rejections rest expected next (max low (reach_of_all d.mtu b)) answers a grow grows near le end holds q.2,
)

-- the same items, while acceptances and rejections grow and the expected number with them
pub queue-more : (d : Direction) (acceptances more : List Acceptance) (rejections rest : List Rejection) (expected next low : ℕ) (answers : List Response)
    → ((m : Acceptance) → Contains acceptances m → Contains more m)
    → ((r : Rejection) → Contains rejections r → Contains rest r)
    → expected ≤ next
    → QueueFact d acceptances rejections expected low answers → QueueFact d more rest next low answers
queue-more d acceptances more rejections rest expected next low [] grow grows le q = omega (arith, q)
queue-more d acceptances more rejections rest expected next low (b ∷ answers) grow grows le q =
    (q.0, holds-more d acceptances more rejections rest grow grows b q.1, queue-more d acceptances more rejections rest expected next (max low (reach_of_all d.mtu b)) answers grow grows le q.2)
