-- The completions of requests and receives, and the flush of all that is posted. Contracts cite it.
use Rattle.std.specs.Prelude.{ℕ, suc, true, false, if◌then◌else◌, List, [], ◌∷◌, ◌++◌, Option, None, Some}
use Rattle.std.specs.Option.{option_map_or}
use Rattle.ca_base.specs.declared.completion.Completion.{Completion}
use Rattle.ca_base.specs.declared.completion.WcOp.{WcOp}
use Rattle.ca_base.specs.declared.completion.WcOp.TheVariants as operations
use Rattle.ca_base.specs.declared.completion.WcStatus.{WcStatus}
use Rattle.ca_base.specs.declared.completion.WcStatus.TheVariants.{Success, Flushed}
use Rattle.ca_keys.specs.declared.key.Key.{Key}
use Rattle.ca_base.specs.declared.limits.TheConstants.{ATOMIC_BYTES}
use Rattle.ca_keys.specs.declared.names.QueueId.{QueueId}
use Rattle.ca_base.specs.declared.queue_numbers.Message.{Message}
use Rattle.ca_base.specs.declared.queue_numbers.Message.TheVariants as messages
use Rattle.ca_base.specs.declared.refusals.OpRefusal.{OpRefusal}
use Rattle.ca_base.specs.declared.request.RecvRequest.{RecvRequest}
use Rattle.ca_base.specs.declared.request.SendOp.{SendOp}
use Rattle.ca_base.specs.declared.request.SendOp.TheVariants as ops
use Rattle.ca_base.specs.declared.request.SendRequest.{SendRequest}
use Rattle.ca_base.specs.declared.request.PostedSend.{PostedSend}
use Rattle.ca_base.specs.objects.QueuePair.{QueuePair}
use Rattle.ca_base.specs.objects.WorkQueue.{items_from}
use Rattle.ca_model.specs.declared.mark.Mark.{Mark}
use Rattle.ca_model.specs.declared.mark.Mark.TheVariants as marks
use Rattle.ca_model.specs.Requests.{list_length, operation_of}

-- the completion of the send request at a place
abbrev pub send_completion : QueueId → ℕ → SendRequest → WcStatus → ℕ → Completion
send_completion queue place request status count = record {
  id = request.id;
  queue = queue;
  receive = false;
  place = place;
  status = status;
  op = operation_of request.op;
  bytes = count;
  imm = None;
  invalidated = None;
}

-- the bytes that a success tells of: those of a READ's message, and the eight of an atomic
abbrev pub bytes_of_success : SendOp → ℕ
bytes_of_success (ops.Read address key list) = list_length list.items
bytes_of_success (ops.CmpSwap address key compare swap list) = ATOMIC_BYTES
bytes_of_success (ops.FetchAdd address key add list) = ATOMIC_BYTES
bytes_of_success op = 0

-- a success completes where the request is signalled
abbrev pub success_marks : QueueId → ℕ → SendRequest → List Mark
success_marks queue place request =
    if request.signalled
    then marks.Done queue (send_completion queue place request Success (bytes_of_success request.op)) None ∷ []
    else []

-- a failure always completes
abbrev pub failure_mark : QueueId → ℕ → SendRequest → WcStatus → Option OpRefusal → Mark
failure_mark queue place request status cause = marks.Done queue (send_completion queue place request status 0) cause

-- the completion of the receive at a place
abbrev pub receive_completion : QueueId → ℕ → ℕ → WcStatus → WcOp → ℕ → Option ℕ → Option Key → Completion
receive_completion queue place id status op count imm invalidated = record {
  id = id;
  queue = queue;
  receive = true;
  place = place;
  status = status;
  op = op;
  bytes = count;
  imm = imm;
  invalidated = invalidated;
}

abbrev pub receive_mark : QueueId → ℕ → RecvRequest → WcStatus → WcOp → ℕ → Option ℕ → Option Key → Mark
receive_mark queue place receive status op count imm invalidated =
    marks.Done queue (receive_completion queue place receive.id status op count imm invalidated) None

-- a receive that failed
abbrev pub receive_failure : QueueId → ℕ → RecvRequest → WcStatus → Option OpRefusal → Mark
receive_failure queue place receive status cause =
    marks.Done queue (receive_completion queue place receive.id status operations.Recv 0 None None) cause

-- the sends from a place on, flushed in order
abbrev pub flushed_sends : QueueId → ℕ → List PostedSend → List Mark
flushed_sends queue place [] = []
flushed_sends queue place (p ∷ ps) = failure_mark queue place p.request Flushed None ∷ flushed_sends queue (suc place) ps

-- the receives from a place on, flushed in order
abbrev pub flushed_receives : QueueId → ℕ → List RecvRequest → List Mark
flushed_receives queue place [] = []
flushed_receives queue place (r ∷ rs) = receive_failure queue place r Flushed None ∷ flushed_receives queue (suc place) rs

-- the receive of the message in progress, flushed
abbrev pub flushed_message : QueueId → Option Message → List Mark
flushed_message queue (Some (messages.Send place receive bytes)) = receive_failure queue place receive Flushed None ∷ []
flushed_message queue message = []

-- all that is posted and unfinished, flushed: the sends, the receive in use, the posted receives
abbrev pub flush_marks : QueuePair → List Mark
flush_marks q =
    flushed_sends q.queue q.requester.oldest (items_from q.requester.oldest q.sends) ++ flushed_message q.queue q.responder.message
    ++ option_map_or (λ r. flushed_receives q.queue r.next_taken (items_from r.next_taken r)) q.receives []
