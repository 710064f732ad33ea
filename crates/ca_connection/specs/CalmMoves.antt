-- What the two sides of a connection do in calm weather: moves of a link, each with what is undelivered after it.
-- Contracts cite it.
use Rattle.std.specs.Prelude.{◌≡◌, ◌≢◌, ℕ, suc, ◌+◌, ◌≤◌, max, true, List, [], ◌∷◌, ◌++◌, slice_get, Option, None, Some}
use Rattle.ca_base.specs.declared.limits.TheConstants.{MIN_PATH_MTU}
use Rattle.ca_connection.specs.Layout.{Direction, HasNumber, bytes_left, is_atomic, is_data, is_read, span}
use Rattle.ca_connection.specs.Limits.{greatest_span}
use Rattle.ca_connection.specs.Link.{AtomicCompletion, Link, NakReason, RequestPacket, Requester, Responder, Response, SavedResult, number_of, reach}
use Rattle.ca_connection.specs.Link.NakReason.{InvalidRequest, PsnSequenceError, ReceiverNotReady, RemoteAccessError, RemoteOperationalError}
use Rattle.ca_connection.specs.Link.Response.{Ack, Nak, Data, Found}
use Rattle.ca_connection.specs.Moves.{Keeps, MayArrive, MayBeTaken, MaySend, Reception, Takes, after_arrival, after_request, after_response, responder_at, rest_of, with_one, with_response}
use Rattle.ca_connection.specs.Moves.Reception.{Accepted, Neither, Rejected}
use Rattle.ca_connection.specs.Calm.{CalmLink, Standing, calm_opening}
use Rattle.ca_connection.specs.Calm.Standing.{Accepting, Closed, Waiting}

-- What is left of a response queue to which an acknowledgement is put: all of it, or all but an acknowledgement at
-- its end, which the new one replaces.
pub data IsBeforeAck : List Response → List Response → Type 0 where
  whole : {queue : List Response} → IsBeforeAck queue queue
  replaced : {queue : List Response} (n : ℕ) → IsBeforeAck (queue ++ (Ack n ∷ [])) queue

-- What the responder makes of the packet that it expects, of number w: it accepts or rejects it, and answers it at
-- the end of its response queue.
pub data Admits (d : Direction) (packet : RequestPacket) (w : ℕ) (r : Responder) : Responder → Reception → Type 0 where
  write : is_data (d.work packet.place) ≡ true
      → Admits d packet w r (record { expected = w + 1; queue = r.queue; results = r.results }) (Accepted 0)
  write_and_acknowledge : {kept : List Response}
      → is_data (d.work packet.place) ≡ true
      → IsBeforeAck r.queue kept
      → Admits d packet w r (responder_at (w + 1) r.results kept (Ack w)) (Accepted 0)
  read : is_read (d.work packet.place) ≡ true
      → Admits d packet w r (responder_at (w + span d packet.place packet.number) r.results r.queue (Data w (bytes_left d packet.place packet.number))) (Accepted 0)
  atomic : {results : List SavedResult} (found : ℕ)
      → is_atomic (d.work packet.place) ≡ true
      → Keeps r.results results
      → Admits d packet w r (responder_at (w + 1) (record { number = w; found = found } ∷ results) r.queue (Found w found)) (Accepted found)
  refuse : (code : NakReason)
      → code ≢ PsnSequenceError
      → Admits d packet w r (with_response r r.queue (Nak code w)) (Rejected code)

-- how the responder stands after it received what it expected: after a rejection it waits for a receive, or is closed
abbrev pub standing_after : Reception → Standing
standing_after Neither = Accepting
standing_after (Rejected PsnSequenceError) = Closed
standing_after (Rejected InvalidRequest) = Closed
standing_after (Rejected RemoteAccessError) = Closed
standing_after (Rejected RemoteOperationalError) = Closed
standing_after (Rejected ReceiverNotReady) = Waiting
standing_after (Accepted found) = Accepting

-- the link after the requester took a response
abbrev pub after_take : Link → Requester → Option AtomicCompletion → Link
after_take l requester completion = record l { requester = requester; completions = with_one completion l.completions }

-- the link after the response queue was emptied
abbrev pub after_loss : Link → Link
after_loss l = record l { responder = record { expected = l.responder.expected; queue = []; results = l.responder.results } }

-- the link after the mailbox at the responder was emptied; after one more envelope of the other direction in a mailbox
abbrev pub after_clear : Link → Link
after_clear l = record l { requests = [] }

abbrev pub after_other_request : Link → Link
after_other_request l = record l { requests = None ∷ l.requests }

abbrev pub after_other_response : Link → Link
after_other_response l = record l { responses = None ∷ l.responses }

-- The moves in calm weather, while the requester sends. What is delivered is the oldest that is undelivered. A
-- responder that waits or is closed drops all requests. A response that is taken brings `una` to where it reaches,
-- and the cursor stays. There is no timer, and all that is sent has a path.
pub data CalmMove (d : Direction) (c : CalmLink) : CalmLink → Type 0 where
  send : (place : ℕ)
      → MaySend d c.link place
      → span d place c.link.requester.cursor ≤ greatest_span
      → CalmMove d c (record c {
        link = after_request d place c.link (Some (record { number = c.link.requester.cursor; place = place }) ∷ c.link.requests);
        requests = suc c.requests;
      })
  respond : (a : Response) (rest : List Response)
      → c.link.responder.queue ≡ a ∷ rest
      → CalmMove d c (record c {
        link = after_response c.link a (rest_of d.mtu a rest) None (Some a ∷ c.link.responses);
        responses = suc c.responses;
      })
  deny : (n left place : ℕ) (rest : List Response)
      → c.link.responder.queue ≡ Data n left ∷ rest
      → HasNumber d place n
      → CalmMove d c (record c {
        link = after_response c.link (Nak RemoteAccessError n) [] (Some (record { number = n; place = place; code = RemoteAccessError }))
            (Some (Nak RemoteAccessError n) ∷ c.link.responses);
        responses = suc c.responses;
        standing = Closed;
      })
  admit : (k : ℕ) (packet : RequestPacket) (responder : Responder) (reception : Reception)
      → c.requests ≡ suc k
      → MayArrive c.link k packet
      → c.standing ≡ Accepting
      → Admits d packet packet.number c.link.responder responder reception
      → CalmMove d c (record c {
        link = after_arrival c.link packet packet.number responder reception;
        requests = k;
        standing = standing_after reception;
      })
  drop : (k : ℕ) (packet : RequestPacket)
      → c.requests ≡ suc k
      → MayArrive c.link k packet
      → c.standing ≢ Accepting
      → CalmMove d c (record c { requests = k })
  pass_request : (k : ℕ)
      → c.requests ≡ suc k
      → slice_get c.link.requests k ≡ Some None
      → CalmMove d c (record c { requests = k })
  take : (k : ℕ) (a : Response) (requester : Requester) (completion : Option AtomicCompletion)
      → c.responses ≡ suc k
      → MayBeTaken c.link k a
      → Takes d a (number_of a) c.link.requester requester completion
      → requester.una ≡ max c.link.requester.una (reach a)
      → requester.cursor ≡ c.link.requester.cursor
      → CalmMove d c (record c { link = after_take c.link requester completion; responses = k })
  pass_response : (k : ℕ)
      → c.responses ≡ suc k
      → slice_get c.link.responses k ≡ Some None
      → CalmMove d c (record c { responses = k })
  close : CalmMove d c (record c { link = after_loss c.link; standing = Closed })
  clear : CalmMove d c (record c { link = after_clear c.link; requests = 0; standing = Closed })
  other_request : CalmMove d c (record c { link = after_other_request c.link; requests = suc c.requests })
  other_response : CalmMove d c (record c { link = after_other_response c.link; responses = suc c.responses })

-- the links that calm moves lead to, from the opening on; the path MTU is one of those that there are
pub data IsCalmlyReached (d : Direction) : CalmLink → Type 0 where
  begin : MIN_PATH_MTU ≤ d.mtu → IsCalmlyReached d (calm_opening d)
  move : {c new : CalmLink} → IsCalmlyReached d c → CalmMove d c new → IsCalmlyReached d new
