-- What stands around a queue pair: its completion queues and its shared receive queue, and what effects make of them.
-- Contracts cite it.
use Rattle.std.specs.Prelude.{ℕ, ◌==◌, Bool, if◌then◌else◌, List, [], ◌∷◌, ◌++◌, Option, None, Some}
use Rattle.std.specs.Option.{option_map, option_and_then}
use Rattle.ca_base.specs.declared.completion.Completion.{Completion}
use Rattle.ca_keys.specs.declared.names.QueueId.{QueueId}
use Rattle.ca_base.specs.declared.step.Reason.{Reason}
use Rattle.ca_base.specs.Configuration.{Configuration}
use Rattle.ca_base.specs.objects.CompletionQueue.{CompletionQueue, after_puts}
use Rattle.ca_base.specs.objects.QueuePair.{QueuePair, QueueSlot, NoQueue, Present, recv_cq_of, send_cq_of, srq_of}
use Rattle.ca_base.specs.objects.SharedReceives.{SharedReceives, SrqSlot, after_receive_take}
use Rattle.ca_base.specs.objects.Slices.{has_queue}
use Rattle.ca_model.specs.declared.mark.Mark.{Mark}
use Rattle.ca_model.specs.declared.mark.Mark.TheVariants as marks
use Rattle.ca_model.specs.machine.Plan.{Plan, Stuck, Look, If, Update, ◌:=◌}
use Rattle.ca_model.specs.machine.Row.{Effects}
use Rattle.ca_model.specs.machine.World.{Cq_of, Queue_of, Srq_of}

-- the completion queues of its sends and of its receives, and its shared receive queue
pub record Around : Type 0 where
  pub send : Option CompletionQueue
  pub recv : Option CompletionQueue
  pub shared : Option SrqSlot

-- the shared receive queue itself
abbrev pub shared_in : Around → Option SharedReceives
shared_in a = option_and_then (λ s. s.srq) a.shared

-- looks at the queue pair of a number; one outside the slices counts as vacant
abbrev pub With_queue : Configuration → QueueId → Reason → (QueuePair → Plan) → Plan
With_queue c q reason k = If (has_queue c q) (Look (Queue_of q) by) (Stuck reason)
  where
    by : QueueSlot → Plan
    by (NoQueue incarnation timers) = Stuck reason
    by (Present queue) = k queue

-- looks at what stands around a queue pair
abbrev pub With_around : QueuePair → (Around → Plan) → Plan
With_around q k = Look (Cq_of (send_cq_of q)) (λ send. Look (Cq_of (recv_cq_of q)) (λ recv. by send recv q.srq))
  where
    by : Option CompletionQueue → Option CompletionQueue → Option ℕ → Plan
    by send recv None = k (record { send = send; recv = recv; shared = None })
    by send recv (Some srq) = Look (Srq_of (srq_of q srq)) (λ shared. k (record { send = send; recv = recv; shared = Some shared }))

-- the completions among marks that go to the completion queue of this number, in order
abbrev pub completions_to : QueuePair → ℕ → List Mark → List Completion
completions_to q cq [] = []
completions_to q cq (m ∷ ms) = by m ++ completions_to q cq ms
  where
    goes : Completion → Bool
    goes c = if c.receive then q.recv_cq == cq else q.send_cq == cq

    by : Mark → List Completion
    by (marks.Done queue c cause) = if goes c then c ∷ [] else []
    by m = []

-- the completion queues with the completions among marks
abbrev pub cq_updates : QueuePair → Around → List Mark → List Update
cq_updates q a ms =
    (Cq_of (send_cq_of q) := option_map (after_puts (completions_to q q.send_cq ms)) a.send)
    ∷ (Cq_of (recv_cq_of q) := option_map (after_puts (completions_to q q.recv_cq ms)) a.recv)
    ∷ []

-- the shared receive queue with another value
abbrev pub srq_updates : QueuePair → Around → (SharedReceives → SharedReceives) → List Update
srq_updates q a f = by q.srq a.shared
  where
    by : Option ℕ → Option SrqSlot → List Update
    by (Some srq) (Some slot) = (Srq_of (srq_of q srq) := record slot { srq = option_map f slot.srq }) ∷ []
    by srq slot = []

-- what effects change: the queue pair, the completion queues, and the shared receive queue where they took a receive
abbrev pub updates_of : QueuePair → Around → Effects → List Update
updates_of q a e =
    (Queue_of q.queue := Present e.queue) ∷ cq_updates q a e.marks
    ++ (if e.takes_shared then srq_updates q a after_receive_take else [])
