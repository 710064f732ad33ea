-- What the past of a history and the world of the machine say alike of completions that wait: which they are, and in
-- which completion queues those of a queue pair wait. Laws cite it.
use Rattle.std.specs.Prelude.{◌≡◌, Bool, true, List, Option, None, Some, IfSome, IsTrue}
use Rattle.ca_base.specs.declared.change.State.TheVariants as states
use Rattle.ca_base.specs.declared.completion.Completion.{Completion}
use Rattle.ca_base.specs.objects.CompletionQueue.{CompletionQueue}
use Rattle.ca_base.specs.objects.QueuePair.{QueuePair, QueueSlot, NoQueue, Present, recv_cq_of, send_cq_of}
use Rattle.ca_base.specs.objects.StateTable.{state_eq}
use Rattle.ca_base.specs.objects.WorkQueue.{next_place}
use Rattle.ca_keys.specs.Memory.{ByteMap}
use Rattle.ca_keys.specs.declared.names.QueueId.{QueueId}
use Rattle.ca_keys.specs.declared.names.Slot.{Slot}
use Rattle.ca_model.specs.Entries.{EntryValue}
use Rattle.ca_model.specs.Ordered.{is_polled}
use Rattle.ca_model.specs.Past.{Past, each_entry, opening_past}
use Rattle.ca_model.specs.declared.mark.Mark.{Mark}
use Rattle.ca_model.specs.declared.mark.Mark.TheVariants as marks
use Rattle.ca_model.specs.machine.World.{World}

-- the completion queues of a queue pair, for its sends and for its receives
abbrev pub sides_of : QueuePair → Slot × Slot
sides_of q = (send_cq_of q, recv_cq_of q)

-- the queue pair in a slot has the completion queues that were told
abbrev pub HasCompletionQueues : Option (Slot × Slot) → QueueSlot → Type 0
HasCompletionQueues sides (NoQueue incarnation timers) = Unit {0}
HasCompletionQueues sides (Present q) = sides ≡ Some (sides_of q)

-- In Error all that was posted is flushed: no send is unfinished, and no receive waits or is in use. So what is posted
-- then completes alone, in the one completion queue of its side.
abbrev pub IsFlushedInError : QueuePair → Type 0
IsFlushedInError q = state_eq q.state states.Error ≡ true
    → (q.requester.oldest ≡ next_place q.sends) × (q.responder.message ≡ None) × IfSome q.receives (λ r. r.next_taken ≡ next_place r)

abbrev pub IsFlushedSlot : QueueSlot → Type 0
IsFlushedSlot (NoQueue incarnation timers) = Unit {0}
IsFlushedSlot (Present q) = IsFlushedInError q

-- Each queue pair that is there has the completion queues that were told, and is flushed where it is in Error; and in
-- each completion queue that is there wait the completions that wait by what was told, in order.
pub record AgreeOnPolls (cqs : QueueId → Option (Slot × Slot)) (waiting : Slot → List Completion) (queue : QueueId → QueueSlot) (cq : Slot → Option CompletionQueue) : Type 0
  where
    pub sides : (q : QueueId) → HasCompletionQueues (cqs q) (queue q)
    pub flushed : (q : QueueId) → IsFlushedSlot (queue q)
    pub waits : (s : Slot) → IfSome (cq s) (λ v. waiting s ≡ v.waiting)

-- what a past and a world say of completions that wait
abbrev pub PollsAgree : Past → World → Type 0
PollsAgree past w = AgreeOnPolls past.cqs past.waiting w.queue w.cq

-- what a poll gives is the front of what waits
abbrev pub is_poll_in_order : Past → Mark → Bool
is_poll_in_order past (marks.Verb by verb answer) = is_polled past verb answer
is_poll_in_order past mark = true

-- each poll of a history gives the front of what waits, over these bytes
abbrev pub ArePollsInOrder : ByteMap → List EntryValue → Type 0
ArePollsInOrder bytes es = IsTrue (each_entry is_poll_in_order (λ past. true) (opening_past bytes) es)
