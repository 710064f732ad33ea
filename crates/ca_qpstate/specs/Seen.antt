-- The queue pair that a part is, field for field: what contracts see of a part. Contracts cite it.
use Rattle.std.specs.Option.{option_map}
use Rattle.ca_base.specs.objects.QueuePair.{QueuePair}
use Rattle.ca_qpstate.specs.declared.queue_part.QueuePart.TheInside.{Inside}

-- the part as the object of the standard
abbrev pub queue_seen : Inside → QueuePair
queue_seen q = record {
  queue = q.queue;
  domain = q.domain;
  state = q.state;
  incarnation = q.incarnation;
  peer = option_map (λ p. record { queue = p.0; incarnation = p.1 }) q.peer;
  send_cq = q.send_cq;
  recv_cq = q.recv_cq;
  srq = q.srq;
  sends = q.sends;
  receives = q.receives;
  requester = q.requester;
  responder = q.responder;
  saved = q.saved.value;
  windows = q.windows.count;
}
