-- The row of a requester's turn that sends a packet, or waits. Contracts cite it.
use Rattle.std.specs.Prelude.{◌≡◌, ℕ, ◌≤◌, ◌+◌, suc, Bool, true, false, if◌then◌else◌, ◌++◌, [], Option, None, Some, Result, Ok, Err}
use Rattle.ca_base.specs.declared.refusals.OpRefusal.{OpRefusal}
use Rattle.ca_base.specs.declared.request.SendRequest.{SendRequest}
use Rattle.ca_base.specs.declared.step.Reason.{Reason}
use Rattle.ca_base.specs.declared.step.Reason.TheVariants as reasons
use Rattle.ca_base.specs.declared.queue_numbers.RequesterNumbers.{RequesterNumbers}
use Rattle.ca_base.specs.objects.LocalRequest.{LocalMarks}
use Rattle.ca_base.specs.objects.QueuePair.{QueuePair}
use Rattle.ca_model.specs.Marks.{MarkList}
use Rattle.ca_model.specs.Requests.{is_local}
use Rattle.ca_model.specs.machine.Invariants.{is_sending}
use Rattle.ca_model.specs.machine.LocalOperations.{operation_effects}
use Rattle.ca_model.specs.machine.Numbering.{Numbered}
use Rattle.ca_model.specs.machine.Requester.{RequestTurn, Waits, Performs, Sends, is_too_much, packet_row, turn_of}
use Rattle.ca_model.specs.machine.Row.{Effects, Row, plain_row, NotPossible, queue_and_marks}
use Rattle.ca_qp_rows.specs.Made.{IsMade}
use Rattle.ca_requester_sends.specs.Numbering.{IsNext, IsSound}
use Rattle.ca_requester_sends.specs.Packets.{IsPacket}
use Rattle.ca_requester_sends.specs.declared.numbering.Next.{Next}
use Rattle.ca_requester_sends.specs.declared.turn.Found.{Found}
use Rattle.ca_requester_sends.specs.declared.turn.Turn.{Turn}
use Rattle.ca_requester_sends.specs.declared.turn.Turn.TheVariants as turns

-- what a turn does on a request, where nothing stands against it
abbrev pub turn_on : Numbered → RequestTurn
turn_on n = if is_local n.request.op then Performs n else Sends n

-- the turn does something on this request, which is next
pub record IsTurnOn (q : QueuePair) (next : Next) : Type 0 where
  pub turn : turn_of q ≡ turn_on next.request
  pub is_next : IsNext q next
  pub sending : is_sending q.state ≡ true

-- the row of a turn: it waits, or it sends a packet; one that performs a local operation has nothing to send
abbrev pub turn_row : QueuePair → Bool → Row
turn_row q room = by (turn_of q)
  where
    by : RequestTurn → Row
    by (Waits reason) = plain_row (NotPossible reason)
    by (Performs n) = plain_row (NotPossible reasons.Empty)
    by (Sends n) = packet_row q room n

-- the turn sends a packet of this request, if nothing denies it
pub record IsSending (q : QueuePair) (next : Next) : Type 0 where
  pub row : (room : Bool) → turn_row q room ≡ packet_row q room next.request
  pub fits : is_too_much q next.request ≡ false
  pub packet : IsPacket q next.request
  pub is_next : IsNext q next

-- the turn performs a local operation
abbrev pub is_performing : RequestTurn → Bool
is_performing (Performs n) = true
is_performing turn = false

-- what stands for the request of which the next thing is: its place, its PSNs, and whether it begins
abbrev pub found_of : Next → Found
found_of next = record {
  place = next.request.place;
  first = next.request.first;
  count = next.request.count;
  begins = next.begins;
}

-- it stands for this request of the queue pair
pub record IsFound (q : QueuePair) (f : Found) (next : Next) : Type 0 where
  pub found : f ≡ found_of next
  pub sound : IsSound q next.request

-- it stands for a request of the queue pair
pub record IsPosted (q : QueuePair) (f : Found) : Type 0 where
  pub next : Next
  pub is : IsFound q f next

-- the turn sends a packet of the request that it stands for, if nothing denies it
pub record SendsFound (q : QueuePair) (f : Found) : Type 0 where
  pub next : Next
  pub found : f ≡ found_of next
  pub turn : turn_of q ≡ Sends next.request
  pub sending : IsSending q next

-- the turn performs the local operation that it stands for
pub record PerformsFound (q : QueuePair) (f : Found) : Type 0 where
  pub next : Next
  pub found : f ≡ found_of next
  pub turn : turn_of q ≡ Performs next.request
  pub sound : IsSound q next.request

-- the turn does this
abbrev pub IsTurnFound : QueuePair → Turn → Type 0
IsTurnFound q (turns.Performs f) = PerformsFound q f
IsTurnFound q (turns.Sends f) = SendsFound q f

-- the turn waits, for this reason: it performs no local operation, and sends no packet whatever room the peer has
pub record IsWaiting (q : QueuePair) (reason : Reason) : Type 0 where
  pub performs : is_performing (turn_of q) ≡ false
  pub row : (room : Bool) → turn_row q room ≡ plain_row (NotPossible reason)

-- the local operation that a turn performs: its request, and the byte that it drew
abbrev pub operation_in : RequestTurn → Option (SendRequest × Option ℕ)
operation_in (Performs n) = Some (n.request, n.drawn)
operation_in turn = None

-- nothing is revoked or granted
abbrev pub no_marks : LocalMarks
no_marks = record { revoked = None; granted = None }

-- the end of the local operation that the queue pair's turn performs, apart from what it revokes and grants
abbrev pub operation_end : QueuePair → Option OpRefusal → Effects
operation_end q cause = by (turn_of q)
  where
    by : RequestTurn → Effects
    by (Performs n) = operation_effects q n q no_marks cause
    by turn = queue_and_marks q []

-- these effects were made, with at most one mark, in the spare room
pub record HasFinished (e : Effects) (queue_after : QueuePair) (before after : MarkList) : Type 0 where
  pub queue : queue_after ≡ e.queue
  pub marks : after.marks ≡ before.marks ++ e.marks
  pub room : before.room ≤ after.room + 1

-- an operation ended with these effects: a success takes no memory; with a cause it is made, or nothing
abbrev pub IsOperationEnd : {A E : Type 0} → Result A E → Option OpRefusal → Effects → QueuePair → QueuePair → MarkList → MarkList → Type 0
IsOperationEnd (Ok done) None e queue_before queue_after before after = HasFinished e queue_after before after
IsOperationEnd (Err error) None e queue_before queue_after before after = ⊥
IsOperationEnd result (Some cause) e queue_before queue_after before after = IsMade result e queue_before queue_after before after

-- the requester's numbers after a packet that ends below a PSN, and begins its request or not
abbrev pub numbers_past : ℕ → Bool → RequesterNumbers → RequesterNumbers
numbers_past end begins r = record r {
  cursor = end;
  next = if begins then suc r.next else r.next;
}
