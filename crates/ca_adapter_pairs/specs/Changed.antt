-- What a change of a queue pair's state changes, of what is held. Contracts cite it.
use Rattle.std.specs.Prelude.{◌≡◌, ℕ, suc, true, List, [], ◌∷◌, None, Some}
use Rattle.std.specs.Option.{option_map}
use Rattle.ca_base.specs.Configuration.{Configuration}
use Rattle.ca_base.specs.declared.change.Change.{Change}
use Rattle.ca_base.specs.declared.change.Change.TheVariants as changes
use Rattle.ca_base.specs.declared.completion.Completion.{Completion}
use Rattle.ca_base.specs.objects.CompletionQueue.{after_puts}
use Rattle.ca_base.specs.objects.Mailbox.{with_peer}
use Rattle.ca_base.specs.objects.QueuePair.{QueuePair, QueueSlot, NoQueue, Present, recv_cq_of, send_cq_of}
use Rattle.ca_base.specs.objects.StateTable.{modify_refusals, queue_after_change}
use Rattle.ca_keys.specs.declared.names.QueueId.{QueueId}
use Rattle.ca_keys.specs.Equal.{slot_eq}
use Rattle.ca_keys.specs.Refusals.{first_of}
use Rattle.ca_adapter_acts.specs.Room.{FitIn}
use Rattle.ca_model.specs.declared.mark.Mark.{Mark}
use Rattle.ca_model.specs.machine.Around.{completions_to}
use Rattle.ca_model.specs.machine.Completions.{flush_marks}
use Rattle.ca_model.specs.machine.Plan.{Update, ◌:=◌}
use Rattle.ca_model.specs.machine.QueuePairVerbs.{emptied_mailbox}
use Rattle.ca_model.specs.machine.World.{Cq_of, Mailbox_of, Queue_of, World}
use Rattle.ca_adapter_pairs.specs.declared.around.Around.{Around}
use Rattle.ca_adapter_pairs.specs.declared.departure.Departure.TheVariants.{Reset}
use Rattle.ca_adapter_pairs.specs.Departures.{CanDepart, departure_updates}
use Rattle.ca_adapter_pairs.specs.Names.{names_around}

-- the slot of a queue pair that was changed
abbrev pub slot_after : Change → QueueSlot → QueueSlot
slot_after change (NoQueue incarnation timers) = NoQueue incarnation timers
slot_after change (Present q) = Present (queue_after_change change q)

-- the completions of a flush, in the completion queues of the sends and of the receives
abbrev pub flush_updates : Around → List Completion → List Completion → World → List Update
flush_updates a sends receives w =
    (Cq_of a.send := option_map (after_puts sends) (w.cq a.send))
    ∷ (Cq_of a.recv := option_map (after_puts receives) (w.cq a.recv))
    ∷ []

-- a queue pair of this incarnation is emptied, and begins the next one
abbrev pub reset_updates : Around → ℕ → World → List Update
reset_updates a own w =
    (Mailbox_of a.queue := emptied_mailbox (suc own) (w.mailbox a.queue)) ∷ departure_updates Reset a w

-- what a change does around a queue pair of this incarnation, where these complete
abbrev pub around_updates : Around → ℕ → Change → List Completion → List Completion → World → List Update
around_updates a own changes.Error sends receives w = flush_updates a sends receives w
around_updates a own changes.Reset sends receives w = reset_updates a own w
around_updates a own (changes.Rtr peer incarnation psn mtu rnr_code) sends receives w =
    (Mailbox_of a.queue
    := with_peer own (Some (record { queue = peer; incarnation = incarnation })) (w.mailbox a.queue))
    ∷ []
around_updates a own change sends receives w = []

-- what completes by a change
abbrev pub marks_of_change : QueuePair → Change → List Mark
marks_of_change q changes.Error = flush_marks q
marks_of_change q change = []

-- the queue pair of this name is changed, and what stands around it
abbrev pub changed_updates : QueueId → QueuePair → Change → World → List Update
changed_updates n q change w =
    (Queue_of n := Present (queue_after_change change q))
    ∷ around_updates (names_around q) q.incarnation change
    (completions_to q q.send_cq (marks_of_change q change)) (completions_to q q.recv_cq (marks_of_change q change)) w

-- around a queue pair a change can be made: what is put fits, and what is left can be left
abbrev pub CanChangeAround : Around → Change → List Completion → List Completion → World → Type 0
CanChangeAround a changes.Error sends receives w =
    FitIn (w.cq a.send) sends × FitIn (w.cq a.recv) receives × (slot_eq a.send a.recv ≡ true → sends ≡ receives)
CanChangeAround a changes.Reset sends receives w = CanDepart a w
CanChangeAround a change sends receives w = Unit {0}

-- A change can be made: what a flush completes fits in the completion queues, and what a Reset leaves can be left.
abbrev pub CanChange : Configuration → Change → QueuePair → World → Type 0
CanChange c changes.Error q w = first_of (modify_refusals c q changes.Error) ≡ None
    → FitIn (w.cq (send_cq_of q)) (completions_to q q.send_cq (flush_marks q))
    × FitIn (w.cq (recv_cq_of q)) (completions_to q q.recv_cq (flush_marks q))
CanChange c changes.Reset q w = CanDepart (names_around q) w
CanChange c change q w = Unit {0}
