-- What a new queue pair reserves in its completion queues, of what is held. Contracts cite it.
use Rattle.std.specs.Prelude.{ℕ, ◌||◌, ◌&&◌, Bool, true, not, Option}
use Rattle.std.specs.Option.{option_map, option_map_or}
use Rattle.ca_base.specs.declared.reserve.Reserve.{Reserve}
use Rattle.ca_base.specs.declared.reserve.Reserve.TheVariants.{Sends}
use Rattle.ca_base.specs.objects.CompletionQueue.{CompletionQueue, after_reserve, is_too_small}
use Rattle.ca_adapter_parts.specs.HeldView.{Holding}
use Rattle.ca_keys.specs.Numbers.{queue_of}
use Rattle.ca_model.specs.machine.QueuePairVerbs.{Creation, before_receives, beside, receive_reserve, send_reserved}
use Rattle.ca_model.specs.machine.World.{Cq_of, World, put}

-- a completion queue, where there is one, has room for a reservation
abbrev pub fits : Reserve → ℕ → Option CompletionQueue → Bool
fits who room cq = option_map_or (λ q. not (is_too_small who room q)) cq true

-- a completion queue has no room for the reservations, of which that for receives has this room
abbrev pub has_too_little : Creation → ℕ → CompletionQueue → CompletionQueue → Bool
has_too_little x room send recv =
    is_too_small (Sends (queue_of x.slot)) x.send_depth send
    || is_too_small (receive_reserve x) room (before_receives x send recv)

-- the world once the sends have reserved
abbrev pub with_sends_reserved : Creation → World → World
with_sends_reserved x w =
    put w (Cq_of (beside x.slot x.send_cq)) (option_map (send_reserved x) (w.cq (beside x.slot x.send_cq)))

-- both completion queues have room
abbrev pub has_room_for : Creation → ℕ → World → Bool
has_room_for x room w =
    fits (Sends (queue_of x.slot)) x.send_depth (w.cq (beside x.slot x.send_cq))
    && fits (receive_reserve x) room ((with_sends_reserved x w).cq (beside x.slot x.recv_cq))

-- the world once the receives have reserved too
abbrev pub with_both_reserved : Creation → ℕ → World → World
with_both_reserved x room w = put (with_sends_reserved x w) (Cq_of (beside x.slot x.recv_cq))
    (option_map (after_reserve (receive_reserve x) room) ((with_sends_reserved x w).cq (beside x.slot x.recv_cq)))

abbrev pub after_reservations : Creation → ℕ → Holding → Holding
after_reservations x room h = record h { world = with_both_reserved x room h.world }
