-- A link in calm weather, where each mailbox gives each of its envelopes once, the oldest first: what is
-- undelivered, and what holds of it while no timer fires. Contracts cite it.
use Rattle.std.specs.Prelude.{◌≡◌, ◌≢◌, ℕ, zero, suc, ◌+◌, ◌<◌, max, List, [], ◌∷◌, Option, None, Some}
use Rattle.std.specs.List.{Contains}
use Rattle.ca_connection.specs.Acknowledge.{PassesNone}
use Rattle.ca_connection.specs.Layout.{Direction, span}
use Rattle.ca_connection.specs.Link.{Link, Rejection, RequestPacket, Response, opening, reach, reach_of_all}
use Rattle.ca_connection.specs.Link.NakReason.{PsnSequenceError}
use Rattle.ca_connection.specs.Link.Response.{Ack, Nak, Data, Found}

-- How the responder stands: it accepts what it expects; or it waits to be sent again what it had no receive for,
-- and all that is under way lies ahead of that; or it takes no request any more.
pub data Standing : Type 0 where
  Accepting : Standing
  Waiting : Standing
  Closed : Standing

-- a link, how many of the newest envelopes of each mailbox are undelivered, and how the responder stands
pub record CalmLink : Type 0 where
  pub link : Link
  pub requests : ℕ
  pub responses : ℕ
  pub standing : Standing

-- before the first packet
abbrev pub calm_opening : Direction → CalmLink
calm_opening d = record { link = opening d; requests = 0; responses = 0; standing = Accepting }

-- ---- requests under way

-- Of so many of the newest requests each begins where the next older one ends, from `bottom` up to `top`.
abbrev pub IsChain : Direction → ℕ → ℕ → List (Option RequestPacket) → ℕ → Type 0
IsChain d top zero xs bottom = top ≡ bottom
IsChain d top (suc k) [] bottom = ⊥
IsChain d top (suc k) (None ∷ xs) bottom = IsChain d top k xs bottom
IsChain d top (suc k) (Some x ∷ xs) bottom = (x.number + span d x.place x.number ≡ top) × IsChain d x.number k xs bottom

-- a chain begins above this number
pub record IsChainAbove (d : Direction) (top k : ℕ) (xs : List (Option RequestPacket)) (low : ℕ) : Type 0 where
  pub bottom : ℕ
  pub above : low < bottom
  pub chain : IsChain d top k xs bottom

-- The undelivered requests are a chain up to `top`: from the expected number on, where the responder accepts; from
-- a number above it, where it waits; and nothing is said where it is closed.
abbrev pub AreExpected : Direction → ℕ → ℕ → List (Option RequestPacket) → ℕ → Standing → Type 0
AreExpected d top k xs expected Accepting = IsChain d top k xs expected
AreExpected d top k xs expected Waiting = IsChainAbove d top k xs expected
AreExpected d top k xs expected Closed = Unit {0}

-- ---- responses under way, and the response queue

-- A response passes no number of a READ or an atomic that is unanswered from u on, but the one that it answers; and
-- it is no sequence error.
abbrev pub Passes : Direction → ℕ → Response → Type 0
Passes d u (Ack n) = PassesNone d u (n + 1)
Passes d u (Nak code n) = PassesNone d u n × (code ≢ PsnSequenceError)
Passes d u (Data n left) = PassesNone d u n
Passes d u (Found n value) = PassesNone d u n

-- how far so many of the newest responses bring `una`
abbrev pub una_after : ℕ → ℕ → List (Option Response) → ℕ
una_after una zero xs = una
una_after una (suc k) [] = una
una_after una (suc k) (None ∷ xs) = una_after una k xs
una_after una (suc k) (Some a ∷ xs) = max (una_after una k xs) (reach a)

-- Of so many of the newest responses each passes nothing from where the older ones bring `una`.
abbrev pub AllPass : Direction → ℕ → ℕ → List (Option Response) → Type 0
AllPass d una zero xs = Unit {0}
AllPass d una (suc k) [] = ⊥
AllPass d una (suc k) (None ∷ xs) = AllPass d una k xs
AllPass d una (suc k) (Some a ∷ xs) = Passes d (una_after una k xs) a × AllPass d una k xs

-- how far a response queue brings `una`, once all of it is sent
abbrev pub una_after_queue : ℕ → ℕ → List Response → ℕ
una_after_queue mtu u [] = u
una_after_queue mtu u (a ∷ rest) = una_after_queue mtu (max u (reach_of_all mtu a)) rest

-- Each item of a response queue passes nothing from where those before it bring `una`.
abbrev pub QueuePasses : Direction → ℕ → List Response → Type 0
QueuePasses d u [] = Unit {0}
QueuePasses d u (a ∷ rest) = Passes d u a × QueuePasses d (max u (reach_of_all d.mtu a)) rest

-- Where the responder accepts, no READ or atomic is unanswered between u and what is expected.
abbrev pub NoneIsLeft : Direction → ℕ → ℕ → Standing → Type 0
NoneIsLeft d u expected Accepting = PassesNone d u expected
NoneIsLeft d u expected Waiting = Unit {0}
NoneIsLeft d u expected Closed = Unit {0}

-- Calm: the requester never went back, so its cursor is the end of all that was sent; the undelivered requests are
-- what the responder expects, one after the other; and the undelivered responses, and behind them the response
-- queue, bring `una` up without passing a READ or an atomic that is unanswered, up to what is expected. What was
-- not accepted had been sent.
pub record IsCalm (d : Direction) (c : CalmLink) : Type 0 where
  pub top : c.link.request_top ≡ c.link.requester.cursor
  pub requests : AreExpected d c.link.requester.cursor c.requests c.link.requests c.link.responder.expected c.standing
  pub responses : AllPass d c.link.requester.una c.responses c.link.responses
  pub queue : QueuePasses d (una_after c.link.requester.una c.responses c.link.responses) c.link.responder.queue
  pub rest : NoneIsLeft d
      (una_after_queue d.mtu (una_after c.link.requester.una c.responses c.link.responses) c.link.responder.queue)
      c.link.responder.expected c.standing
  pub rejections : (r : Rejection) → Contains c.link.rejections r → r.number < c.link.request_top
