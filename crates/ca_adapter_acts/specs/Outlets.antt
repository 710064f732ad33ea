-- Where a queue pair's completions go. Contracts cite it.
use Rattle.std.specs.Prelude.{ℕ, ◌==◌, Bool, if◌then◌else◌, List, [], ◌∷◌, ◌++◌}
use Rattle.std.specs.Option.{option_map}
use Rattle.ca_adapter_acts.specs.declared.done.Outlets.{Outlets}
use Rattle.ca_base.specs.declared.completion.Completion.{Completion}
use Rattle.ca_base.specs.objects.CompletionQueue.{after_puts}
use Rattle.ca_base.specs.objects.QueuePair.{QueuePair}
use Rattle.ca_keys.specs.declared.names.Slot.{Slot}
use Rattle.ca_model.specs.declared.mark.Mark.{Mark}
use Rattle.ca_model.specs.declared.mark.Mark.TheVariants as marks
use Rattle.ca_model.specs.machine.Plan.{Update, ◌:=◌}
use Rattle.ca_model.specs.machine.World.{Cq_of, World}

-- those of a queue pair
abbrev pub outlets_of : QueuePair → Outlets
outlets_of q = record { domain = q.domain; send = q.send_cq; recv = q.recv_cq }

-- the slots of its completion queues
abbrev pub send_slot : Outlets → Slot
send_slot o = record { domain = o.domain; slot = o.send }

abbrev pub recv_slot : Outlets → Slot
recv_slot o = record { domain = o.domain; slot = o.recv }

-- a completion goes to the completion queue of this number
abbrev pub goes_to : Outlets → ℕ → Completion → Bool
goes_to o cq c = if c.receive then o.recv == cq else o.send == cq

-- the completion of a mark, if it is one and goes to the completion queue of this number
abbrev pub completion_by : Outlets → ℕ → Mark → List Completion
completion_by o cq (marks.Done queue c cause) = if goes_to o cq c then c ∷ [] else []
completion_by o cq m = []

-- those among marks, in order
abbrev pub completions_by : Outlets → ℕ → List Mark → List Completion
completions_by o cq [] = []
completions_by o cq (m ∷ ms) = completion_by o cq m ++ completions_by o cq ms

-- both completion queues with the completions among marks
abbrev pub done_updates : Outlets → List Mark → World → List Update
done_updates o ms w =
    (Cq_of (send_slot o) := option_map (after_puts (completions_by o o.send ms)) (w.cq (send_slot o)))
    ∷ (Cq_of (recv_slot o) := option_map (after_puts (completions_by o o.recv ms)) (w.cq (recv_slot o)))
    ∷ []
