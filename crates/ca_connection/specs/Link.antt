-- One direction of a connection, over whole numbers: what its two sides hold, what is under way between them, and what has
-- happened. Contracts cite it.
use Rattle.std.specs.Prelude.{ℕ, ◌+◌, List, [], Option}
use Rattle.ca_connection.specs.Layout.{Direction, segments, start}

-- a packet of a request: its number, and the place of the request
pub record RequestPacket : Type 0 where
  pub number : ℕ
  pub place : ℕ

-- why a packet is not accepted: the four NAK codes, and RNR NAK
pub data NakReason : Type 0 where
  PsnSequenceError : NakReason
  InvalidRequest : NakReason
  RemoteAccessError : NakReason
  RemoteOperationalError : NakReason
  ReceiverNotReady : NakReason

-- A response with its number, and what it says: an acknowledgement; a NAK or RNR NAK; a READ response, with the bytes of the
-- READ that are left from its number on; an ATOMIC Acknowledge, with the value found. An item of the response queue is the
-- next response that it stands for.
pub data Response : Type 0 where
  Ack : ℕ → Response
  Nak : NakReason → ℕ → Response
  Data : ℕ → ℕ → Response
  Found : ℕ → ℕ → Response

abbrev pub number_of : Response → ℕ
number_of (Ack n) = n
number_of (Nak code n) = n
number_of (Data n left) = n
number_of (Found n value) = n

-- how far beyond its number a response can move the requester: a NAK says that its number was not accepted
abbrev pub gain : Response → ℕ
gain (Ack n) = 1
gain (Nak code n) = 0
gain (Data n left) = 1
gain (Found n value) = 1

-- the greatest `una` that a response can bring
abbrev pub reach : Response → ℕ
reach a = number_of a + gain a

-- the greatest `una` that an item of the response queue can bring, once all of it is sent
abbrev pub reach_of_all : ℕ → Response → ℕ
reach_of_all mtu (Ack n) = n + 1
reach_of_all mtu (Nak code n) = n
reach_of_all mtu (Data n left) = n + segments mtu left
reach_of_all mtu (Found n value) = n + 1

-- a saved result: what the atomic with this number found
pub record SavedResult : Type 0 where
  pub number : ℕ
  pub found : ℕ

-- the mark of a packet that was accepted: its number, its request, and what it found where that is an atomic
pub record Acceptance : Type 0 where
  pub number : ℕ
  pub place : ℕ
  pub found : ℕ

-- the mark of a packet that was not accepted, with the reason
pub record Rejection : Type 0 where
  pub number : ℕ
  pub place : ℕ
  pub code : NakReason

-- the completion of an atomic: its request, and the value that it gave
pub record AtomicCompletion : Type 0 where
  pub place : ℕ
  pub found : ℕ

-- the requester: the first number that is neither acknowledged nor answered, and the next one to send
pub record Requester : Type 0 where
  pub una : ℕ
  pub cursor : ℕ

-- the responder: the number that it expects, its response queue with the front first, and its saved results
pub record Responder : Type 0 where
  pub expected : ℕ
  pub queue : List Response
  pub results : List SavedResult

-- The two sides; the envelopes under way, in the mailbox at the responder and in the one at the requester, with the newest
-- first, None where an envelope belongs to the other direction; and history. No number that was sent is at or above
-- `request_top`, and `response_top` is the greatest `una` that a response can bring that was sent. Acceptances, rejections and
-- completions have the latest first.
pub record Link : Type 0 where
  pub requester : Requester
  pub responder : Responder
  pub requests : List (Option RequestPacket)
  pub responses : List (Option Response)
  pub request_top : ℕ
  pub response_top : ℕ
  pub acceptances : List Acceptance
  pub rejections : List Rejection
  pub completions : List AtomicCompletion

-- before the first packet
abbrev pub opening : Direction → Link
opening d = record {
  requester = record { una = start d; cursor = start d };
  responder = record { expected = start d; queue = []; results = [] };
  requests = [];
  responses = [];
  request_top = start d;
  response_top = start d;
  acceptances = [];
  rejections = [];
  completions = [];
}
