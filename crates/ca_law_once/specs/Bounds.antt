-- Which number a packet's PSN is taken for, and how near that is: at the two ends of a connection. Laws cite it.
use Rattle.std.specs.Prelude.{◌≡◌, ℕ, ◌+◌, ◌%◌, ◌^◌, ◌<◌, ◌≤◌, Some, slice_get}
use Rattle.ca_base.specs.objects.Mailbox.{Mailbox, later_than}
use Rattle.ca_base.specs.objects.QueuePair.{QueuePair}
use Rattle.ca_connection.specs.Limits.{most_outstanding, request_distance, response_distance}
use Rattle.ca_connection.specs.Link.{Link, RequestPacket, Response, number_of}
use Rattle.ca_wire.specs.Packet.{Fields}
use Rattle.ca_psn.specs.Psn.{widened}

-- The packet of an envelope is a request that the link has there: its responder takes the packet's PSN for the number
-- with which the packet was sent, which lies this near the expected one.
pub record IsRequestSent (q : QueuePair) (m : Mailbox) (l : Link) (index : ℕ) (p : Fields) : Type 0 where
  pub packet : RequestPacket
  pub is : slice_get l.requests (later_than index m) ≡ Some (Some packet)
  pub psn : p.psn ≡ packet.number % 2 ^ 24
  pub exact : widened q.responder.expected p.psn ≡ packet.number
  pub low : q.responder.expected ≤ packet.number + request_distance
  pub high : packet.number < q.responder.expected + most_outstanding

-- The packet of an envelope is a response that the link has there: its requester takes the packet's PSN for the number
-- with which the packet was sent, which lies this near `una`.
pub record IsResponseSent (q : QueuePair) (m : Mailbox) (l : Link) (index : ℕ) (p : Fields) : Type 0 where
  pub response : Response
  pub is : slice_get l.responses (later_than index m) ≡ Some (Some response)
  pub psn : p.psn ≡ number_of response % 2 ^ 24
  pub exact : widened q.requester.una p.psn ≡ number_of response
  pub low : q.requester.una ≤ number_of response + response_distance
  pub high : number_of response ≤ q.requester.una + most_outstanding
