-- What the two sides of a link hold, read off a queue pair. Contracts cite it.
use Rattle.std.specs.Prelude.{◌≡◌, ℕ, suc, ◌≤◌, List, [], ◌∷◌, map}
use Rattle.ca_base.specs.declared.queue_numbers.Queued.{Queued}
use Rattle.ca_base.specs.declared.queue_numbers.Queued.TheVariants as queued
use Rattle.ca_base.specs.declared.request.PostedSend.{PostedSend}
use Rattle.ca_base.specs.declared.request.SendOp.{SendOp}
use Rattle.ca_base.specs.declared.request.SendOp.TheVariants as ops
use Rattle.ca_base.specs.declared.saved_result.SavedResult.{SavedResult as KeptResult}
use Rattle.ca_base.specs.objects.QueuePair.{QueuePair}
use Rattle.ca_base.specs.objects.WorkQueue.{items_from}
use Rattle.ca_connection.specs.Layout.{Direction, Work, first}
use Rattle.ca_connection.specs.Layout.Work.{Local, Send, Write, Read, Atomic}
use Rattle.ca_connection.specs.Link.{NakReason, Requester, Responder, Response, SavedResult}
use Rattle.ca_connection.specs.Link.NakReason.{PsnSequenceError, InvalidRequest, RemoteAccessError, RemoteOperationalError, ReceiverNotReady}
use Rattle.ca_connection.specs.Link.Response.{Ack, Nak, Data, Found}
use Rattle.ca_model.specs.Requests.{list_length}
use Rattle.ca_model.specs.machine.Respond.{nak_of}
use Rattle.ca_wire.specs.declared.syndrome.NakCode.{NakCode}
use Rattle.ca_wire.specs.declared.syndrome.NakCode.TheVariants as codes

-- why a packet was not accepted, by the code of its NAK
abbrev pub reason_of : NakCode → NakReason
reason_of codes.PsnSequenceError = PsnSequenceError
reason_of codes.InvalidRequest = InvalidRequest
reason_of codes.RemoteAccessError = RemoteAccessError
reason_of codes.RemoteOperationalError = RemoteOperationalError

-- the next response that a queued answer stands for
abbrev pub said : Queued → Response
said (queued.Ack psn) = Ack psn
said (queued.Rnr psn) = Nak ReceiverNotReady psn
said (queued.Nak psn code) = Nak (reason_of (nak_of code)) psn
said (queued.Read psn key address left begins envelope duplicate) = Data psn left
said (queued.Atomic psn found duplicate) = Found psn found

abbrev pub kept_result : KeptResult → SavedResult
kept_result r = record { number = r.psn; found = r.found }

-- the responder of a queue pair: the PSN that it expects, its response queue and its saved results
abbrev pub responder_in : QueuePair → Responder
responder_in q = record {
  expected = q.responder.expected;
  queue = map said q.responder.answers;
  results = map kept_result q.saved;
}

-- the requester of a queue pair: the first PSN that is not acknowledged or answered, and the next one to send
abbrev pub requester_in : QueuePair → Requester
requester_in q = record { una = q.requester.una; cursor = q.requester.cursor }

-- what a posted request does, with the bytes of its message
abbrev pub work_of : SendOp → Work
work_of (ops.Send list) = Send (list_length list.items)
work_of (ops.SendImm imm list) = Send (list_length list.items)
work_of (ops.SendInv key list) = Send (list_length list.items)
work_of (ops.Write address key list) = Write (list_length list.items)
work_of (ops.WriteImm address key imm list) = Write (list_length list.items)
work_of (ops.Read address key list) = Read (list_length list.items)
work_of (ops.CmpSwap address key compare swap list) = Atomic
work_of (ops.FetchAdd address key add list) = Atomic
work_of (ops.Bind1 window region address length rights) = Local
work_of (ops.Bind2 window region low address length rights) = Local
work_of (ops.FastReg region low buffer address length rights pages) = Local
work_of (ops.LocalInv key) = Local

-- the posted requests, from a place on, are those of the direction
abbrev pub IsWork : Direction → ℕ → List PostedSend → Type 0
IsWork d place [] = Unit {0}
IsWork d place (p ∷ ps) = (d.work place ≡ work_of p.request.op) × IsWork d (suc place) ps

-- The requests of a queue pair lie as those of the direction do: the oldest unfinished one has or would get the number
-- that the direction gives it, all from it on are the direction's, and what stands before it is passed.
pub record IsLaid (d : Direction) (q : QueuePair) : Type 0 where
  pub mtu : q.responder.mtu ≡ d.mtu
  pub begin : q.requester.oldest_psn ≡ first d q.requester.oldest
  pub work : IsWork d q.requester.oldest (items_from q.requester.oldest q.sends)
  pub passed : q.requester.oldest_psn ≤ q.requester.una
