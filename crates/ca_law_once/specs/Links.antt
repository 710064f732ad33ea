-- What a row of the machine makes of a link: a move leads to another one. Contracts cite it.
use Rattle.std.specs.Prelude.{◌≡◌, ℕ, ◌==◌, true, if◌then◌else◌, List, [], ◌∷◌, ◌++◌, Option, replicate}
use Rattle.ca_connection.specs.Layout.{Direction, is_atomic, is_write}
use Rattle.ca_connection.specs.Link.{Acceptance, AtomicCompletion, Link, RequestPacket, Requester, Responder, Response}
use Rattle.ca_connection.specs.Moves.{Reached, with_one}
use Rattle.ca_connection.specs.Once.{numbers_at}
use Rattle.ca_model.specs.machine.Row.{Effects}
use Rattle.ca_law_once.specs.Moves.{numbers_found, writes_told}

-- the numbers that the accepted packets of the request at a place found, the latest first
abbrev pub found_at : ℕ → List Acceptance → List ℕ
found_at place [] = []
found_at place (a ∷ rest) = if a.place == place then a.found ∷ found_at place rest else found_at place rest

-- Moves lead from a link to one with this requester, this responder and these mailboxes, and nothing else of it changes.
pub record LeadsTo (d : Direction) (l : Link) (requester : Requester) (responder : Responder) (requests : List (Option RequestPacket)) (responses : List (Option Response)) : Type 0 where
  pub link : Link
  pub reached : Reached d link
  pub requester_is : link.requester ≡ requester
  pub responder_is : link.responder ≡ responder
  pub requests_are : link.requests ≡ requests
  pub responses_are : link.responses ≡ responses
  pub acceptances : link.acceptances ≡ l.acceptances
  pub completions : link.completions ≡ l.completions

-- A packet was received: the responder is this one, and the numbers that atomics found grew by those that marks tell of, at
-- the packet's place.
pub record IsReceived (d : Direction) (l : Link) (x : RequestPacket) (responder : Responder) (e : Effects) : Type 0 where
  pub link : Link
  pub reached : Reached d link
  pub requester_is : link.requester ≡ l.requester
  pub responder_is : link.responder ≡ responder
  pub requests_are : link.requests ≡ l.requests
  pub responses_are : link.responses ≡ l.responses
  pub completions : link.completions ≡ l.completions
  pub found : (place : ℕ) → is_atomic (d.work place) ≡ true
      → found_at place link.acceptances ≡ (if x.place == place then numbers_found e.marks else []) ++ found_at place l.acceptances
  pub wrote : (place : ℕ) → is_write (d.work place) ≡ true
      → numbers_at place link.acceptances ≡ (if x.place == place then replicate (writes_told e.marks) x.number else []) ++ numbers_at place l.acceptances

-- A response was taken: the requester is this one, and an atomic may have completed.
pub record IsTaken (d : Direction) (l : Link) (requester : Requester) (completion : Option AtomicCompletion) : Type 0 where
  pub link : Link
  pub reached : Reached d link
  pub requester_is : link.requester ≡ requester
  pub responder_is : link.responder ≡ l.responder
  pub requests_are : link.requests ≡ l.requests
  pub responses_are : link.responses ≡ l.responses
  pub acceptances : link.acceptances ≡ l.acceptances
  pub completions : link.completions ≡ with_one completion l.completions
