-- What a row of the machine is as a move of a link. Contracts cite it.
use Rattle.std.specs.Prelude.{◌≡◌, ◌⊎◌, ℕ, suc, ◌+◌, ◌≤◌, Bool, true, false, if◌then◌else◌, List, [], ◌∷◌, ◌++◌, map, Option, None, Some}
use Rattle.ca_base.specs.declared.change.State.TheVariants as states
use Rattle.ca_base.specs.declared.denied_ask.DeniedAsk.{DeniedAsk}
use Rattle.ca_base.specs.declared.refusals.OpRefusal.{OpRefusal}
use Rattle.ca_base.specs.objects.QueuePair.{QueuePair}
use Rattle.ca_base.specs.declared.step.Sent.{Sent}
use Rattle.ca_base.specs.declared.step.Sent.TheVariants.{Silent, Spelt}
use Rattle.ca_connection.specs.Layout.{Direction, HasNumber, Work, is_atomic, is_write, span}
use Rattle.ca_connection.specs.Limits.{greatest_span, most_outstanding}
use Rattle.ca_connection.specs.Link.{AtomicCompletion, Rejection, Requester, RequestPacket, Responder, Response}
use Rattle.ca_connection.specs.Moves.{Keeps, Reception, Receives, Responds, Takes}
use Rattle.ca_connection.specs.Moves.Reception.{Accepted, Neither, Rejected}
use Rattle.ca_model.specs.declared.mark.Mark.{Mark}
use Rattle.ca_model.specs.declared.mark.Mark.TheVariants as marks
use Rattle.ca_keys.specs.declared.verdict.Verdict.TheVariants as verdicts
use Rattle.ca_model.specs.machine.Invariants.{is_sending}
use Rattle.ca_model.specs.machine.Row.{Does, Effects, Ending, NotPossible, Row}
use Rattle.ca_law_once.specs.Entries.{SpellsRequest, SpellsResponse, SpellsSomeRequest, SpellsSomeResponse}
use Rattle.ca_law_once.specs.Sides.{IsLaid, kept_result, requester_in, responder_in, said}

-- an ending that does something does such a thing
abbrev pub EndingLeads : (Effects → Type 0) → Ending → Type 0
EndingLeads P (NotPossible reason) = Unit {0}
EndingLeads P (Does e) = P e

-- whatever is denied or allowed, and whichever bytes are read, the row does such a thing, or nothing
pub record RowLeads (P : Effects → Type 0) (row : Row) : Type 0 where
  pub denied : (d : DeniedAsk) → EndingLeads P (row.denied d)
  pub allowed : (bytes : List (List ℕ)) (refusal : Option OpRefusal) → EndingLeads P (row.allowed bytes refusal)

-- the number that an atomic found, if this is its mark
abbrev pub number_found : Mark → List ℕ
number_found (marks.Remote queue domain envelope key kind address length (verdicts.Swapped found put)) = found ∷ []
number_found m = []

-- the numbers that atomics found, by their marks
abbrev pub numbers_found : List Mark → List ℕ
numbers_found [] = []
numbers_found (m ∷ ms) = number_found m ++ numbers_found ms

-- what an accepted packet of an atomic found
abbrev pub found_in : Work → Reception → List ℕ
found_in work Neither = []
found_in work (Rejected code) = []
found_in work (Accepted found) = if is_atomic work then found ∷ [] else []

-- the mark tells of a remote write
abbrev pub is_remote_write : Mark → Bool
is_remote_write (marks.Remote queue domain envelope key kind address length (verdicts.Wrote bytes)) = true
is_remote_write m = false

-- how many remote writes there were, by their marks
abbrev pub writes_told : List Mark → ℕ
writes_told [] = 0
writes_told (m ∷ ms) = if is_remote_write m then suc (writes_told ms) else writes_told ms

-- how often an accepted packet of a request wrote: once where that is a WRITE
abbrev pub written_in : Work → Reception → ℕ
written_in work Neither = 0
written_in work (Rejected code) = 0
written_in work (Accepted found) = if is_write work then 1 else 0

-- The responder receives the packet, which it takes for number w, as a link's does; the marks of atomics tell of what it
-- found, and of nothing else; and the marks tell of one remote write where a packet of a WRITE is accepted, else of none.
pub record ReceivesIn (d : Direction) (x : RequestPacket) (w : ℕ) (r : Responder) (e : Effects) : Type 0 where
  pub reception : Reception
  pub receives : Receives d x w r (responder_in e.queue) reception
  pub found : numbers_found e.marks ≡ found_in (d.work x.place) reception
  pub wrote : writes_told e.marks ≡ written_in (d.work x.place) reception
  pub mtu : e.queue.responder.mtu ≡ d.mtu

-- The requester takes the response, for number w, as a link's does, and while requests are sent they lie as before.
pub record TakesIn (d : Direction) (a : Response) (w : ℕ) (r : Requester) (e : Effects) : Type 0 where
  pub completion : Option AtomicCompletion
  pub takes : Takes d a w r (requester_in e.queue) completion
  pub laid : is_sending e.queue.state ≡ true → IsLaid d e.queue

-- Nothing of the requester's numbers changes, and while requests are sent they lie as before.
pub record StaysIn (d : Direction) (r : Requester) (e : Effects) : Type 0 where
  pub requester : requester_in e.queue ≡ r
  pub laid : is_sending e.queue.state ≡ true → IsLaid d e.queue

-- The requester sends the packet at its cursor, of the request at this place, as a link's may, and spells this packet.
pub record SendsIn (d : Direction) (r : Requester) (place : ℕ) (e : Effects) : Type 0 where
  pub number : HasNumber d place r.cursor
  pub room : r.cursor + span d place r.cursor ≤ r.una + most_outstanding
  pub few : span d place r.cursor ≤ greatest_span
  pub una : e.queue.requester.una ≡ r.una
  pub cursor : e.queue.requester.cursor ≡ r.cursor + span d place r.cursor
  pub spells : SpellsRequest d (record { number = r.cursor; place = place }) e.spelt
  pub laid : is_sending e.queue.state ≡ true → IsLaid d e.queue

-- a turn of the requester by what it sends: a packet of a request; or nothing, where it fails
abbrev pub RequestTurnBy : Direction → Requester → Effects → Sent → Type 0
RequestTurnBy d r e (Spelt (Some place)) = SendsIn d r place e
RequestTurnBy d r e (Spelt None) = ⊥
RequestTurnBy d r e Silent = StaysIn d r e

-- A turn of the requester sends a packet of a request, or fails silently.
abbrev pub IsRequestTurn : Direction → Requester → Effects → Type 0
IsRequestTurn d r e = RequestTurnBy d r e e.sent

-- The responder sends a response, as a link's may, and spells it: the front of its response queue, or a NAK of a READ that is
-- denied.
pub record RespondsIn (d : Direction) (r : Responder) (e : Effects) : Type 0 where
  pub response : Response
  pub rejection : Option Rejection
  pub responds : Responds d r response (map said e.queue.responder.answers) rejection
  pub spells : SpellsResponse response e.spelt
  pub expected : e.queue.responder.expected ≡ r.expected
  pub results : map kept_result e.queue.saved ≡ r.results
  pub mtu : e.queue.responder.mtu ≡ d.mtu

-- The responder stays, or some of its response queue goes, as a link's may.
pub record ForgetsIn (d : Direction) (r : Responder) (e : Effects) : Type 0 where
  pub expected : e.queue.responder.expected ≡ r.expected
  pub queue : Keeps r.queue (map said e.queue.responder.answers)
  pub results : map kept_result e.queue.saved ≡ r.results
  pub mtu : e.queue.responder.mtu ≡ d.mtu

-- The requester stays, or its cursor goes back, as a link's may; while requests are sent they lie as before.
pub record GoesBackIn (d : Direction) (r : Requester) (e : Effects) : Type 0 where
  pub una : e.queue.requester.una ≡ r.una
  pub low : r.una ≤ e.queue.requester.cursor
  pub high : e.queue.requester.cursor ≤ r.cursor
  pub laid : is_sending e.queue.state ≡ true → IsLaid d e.queue

-- The queue pair stays in its state, or moves to Error; it keeps its path MTU.
abbrev pub LeavesState : QueuePair → Effects → Type 0
LeavesState q e = ((e.queue.state ≡ q.state) ⊎ (e.queue.state ≡ states.Error)) × (e.queue.responder.mtu ≡ q.responder.mtu)

-- what a turn of the requester sends, by whether it sends
abbrev pub SendsRequestsBy : Effects → Sent → Type 0
SendsRequestsBy e (Spelt (Some place)) = SpellsSomeRequest e.spelt
SendsRequestsBy e (Spelt None) = ⊥
SendsRequestsBy e Silent = Unit {0}

-- What a turn of the requester sends is a packet of a request, and no response; or it sends nothing.
abbrev pub SendsRequests : Effects → Type 0
SendsRequests e = SendsRequestsBy e e.sent

-- What a turn of the responder sends is a response.
pub record SendsResponses (e : Effects) : Type 0 where
  pub sent : e.sent ≡ Spelt None
  pub spells : SpellsSomeResponse e.spelt
