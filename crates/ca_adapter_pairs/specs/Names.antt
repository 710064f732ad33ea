-- What stands around a queue pair, by name. Contracts cite it.
use Rattle.std.specs.Option.{option_map}
use Rattle.ca_base.specs.objects.QueuePair.{QueuePair, receive_in_use, recv_cq_of, send_cq_of, srq_of}
use Rattle.ca_adapter_pairs.specs.declared.around.Around.{Around}

-- its completion queues, its shared receive queue, and the place there that its message in progress holds
abbrev pub names_around : QueuePair → Around
names_around q = record {
  queue = q.queue;
  send = send_cq_of q;
  recv = recv_cq_of q;
  srq = option_map (srq_of q) q.srq;
  in_use = receive_in_use q.responder.message;
}
