-- What the making of a queue pair changes, of what is held. Contracts cite it.
use Rattle.std.specs.Prelude.{ℕ, suc, Bool, true, List, [], ◌∷◌, Option, None, Some}
use Rattle.std.specs.Option.{option_map, option_map_or}
use Rattle.ca_base.specs.objects.CompletionQueue.{after_reserve}
use Rattle.ca_base.specs.objects.Domain.{with_object}
use Rattle.ca_base.specs.objects.Mailbox.{with_peer}
use Rattle.ca_base.specs.objects.QueuePair.{Present, incarnation_of}
use Rattle.ca_base.specs.objects.SharedReceives.{SrqSlot}
use Rattle.ca_adapter_parts.specs.HeldView.{Holding}
use Rattle.ca_keys.specs.Numbers.{queue_of}
use Rattle.ca_model.specs.declared.answer.Answer.TheVariants as answers
use Rattle.ca_model.specs.machine.Plan.{Outcome, Did, Update, ◌:=◌, put_all}
use Rattle.ca_model.specs.machine.QueuePairVerbs.{Creation, beside, new_queue, receive_reserve, send_reserved, user_updates}
use Rattle.ca_model.specs.machine.VerbAnswers.{Call, answer_mark}
use Rattle.ca_model.specs.machine.World.{Cq_of, Domain_of, Mailbox_of, Queue_of, Srq_of, World}
use Rattle.ca_adapter_creation.specs.Reservations.{with_sends_reserved}

-- the slot of its shared receive queue, where it names one
abbrev pub shared_slot : Creation → World → Option SrqSlot
shared_slot x w = option_map (λ srq. w.srq (beside x.slot srq)) x.srq

-- that slot is held
abbrev pub is_shared_held : Creation → Holding → Bool
is_shared_held x h = option_map_or (λ srq. h.has (Srq_of (beside x.slot srq))) x.srq true

-- the room that its receives reserve: that of its own queue, or of the shared receive queue that it names, if it is
-- there
abbrev pub room_found : Creation → World → Option ℕ
room_found x w = by x.srq
  where
    by : Option ℕ → Option ℕ
    by None = Some x.recv_depth
    by (Some srq) = option_map (λ s. s.depth) (w.srq (beside x.slot srq)).srq

-- the domain, the queue pair, its mailbox, its completion queues, and its shared receive queue
abbrev pub made_updates : Creation → ℕ → World → List Update
made_updates x room w =
    (Domain_of x.slot.domain := with_object (w.domain x.slot.domain))
    ∷ (Queue_of (queue_of x.slot) := Present (new_queue x (w.queue (queue_of x.slot))))
    ∷ (Mailbox_of (queue_of x.slot)
    := with_peer (suc (incarnation_of (w.queue (queue_of x.slot)))) None (w.mailbox (queue_of x.slot)))
    ∷ (Cq_of (beside x.slot x.send_cq) := option_map (send_reserved x) (w.cq (beside x.slot x.send_cq)))
    ∷ (Cq_of (beside x.slot x.recv_cq) := option_map (after_reserve (receive_reserve x) room)
    ((with_sends_reserved x w).cq (beside x.slot x.recv_cq)))
    ∷ user_updates x (shared_slot x w)

-- the queue pair is made
abbrev pub outcome_of_creation : Call → Creation → ℕ → World → Outcome
outcome_of_creation call x room w = Did (put_all (made_updates x room w) w)
    (answer_mark call (answers.Queue (queue_of x.slot).number (suc (incarnation_of (w.queue (queue_of x.slot))))) ∷ [])
