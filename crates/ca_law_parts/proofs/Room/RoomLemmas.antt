-- The world before the first event has room, and what room tells of the queues that a queue pair uses.
use Rattle.std.proofs.Common.{◌≡◌, ℕ, true, [], Option, None, Some, IfSome, is_some, refl, subst, arith}
use Rattle.std.specs.Option.{option_map}
use Rattle.ca_keys.specs.Memory.{ByteMap}
use Rattle.ca_keys.specs.declared.names.QueueId.{QueueId}
use Rattle.ca_base.specs.declared.reserve.Reserve.TheVariants.{Receives, Sends}
use Rattle.ca_base.specs.objects.QueuePair.{QueuePair, Present, recv_cq_of, send_cq_of, srq_of}
use Rattle.ca_base.specs.objects.SharedReceives.{SharedReceives}
use Rattle.ca_model.specs.machine.World.{World, opening_world}
use Rattle.ca_law_parts.specs.Room.{HasRoom, HasSide, depth_of, rooms_of, use_of}

pub opening-room : (byte : ByteMap) → HasRoom (opening_world byte)
opening-room byte = record {
  reserved = record {
    due = λ s. record {};
    within = λ s. record {};
    sends = λ n. record {};
    receives = λ n. record {};
    shared = λ n. record {};
    used = λ t. record { names = []; few = omega arith; all = λ n is. absurd is };
  };
  sequence = λ t. record {};
  holder = λ t x. record { adapter = 0; number = 0 };
  places = λ n. record {};
}

pub sends-there : (w : World) (n : QueueId) (q : QueuePair) → HasRoom w → w.queue n ≡ Present q → HasSide (Sends n) (rooms_of (w.cq (send_cq_of q)))
sends-there w n q room is = subst (λ z. IfSome (use_of z) (λ u. HasSide (Sends n) (rooms_of (w.cq u.send_cq)))) is (room.reserved.sends n)

pub receives-there : (w : World) (n : QueueId) (q : QueuePair) → HasRoom w → w.queue n ≡ Present q → HasSide (Receives n) (rooms_of (w.cq (recv_cq_of q)))
receives-there w n q room is = subst (λ z. IfSome (use_of z) (λ u. HasSide (Receives n) (rooms_of (w.cq u.recv_cq)))) is (room.reserved.receives n)

pub shared-used : (w : World) (n : QueueId) (q : QueuePair) (t : ℕ) → HasRoom w → w.queue n ≡ Present q → q.srq ≡ Some t → is_some (w.srq (srq_of q t)).srq ≡ true
shared-used w n q t room is uses = by (w.srq (srq_of q t)).srq (subst (λ o. IfSome (option_map (srq_of q) o) (λ t. is_some (depth_of (w.srq t)) ≡ true)) uses
    (subst (λ z. IfSome (use_of z) (λ u. IfSome u.srq (λ t. is_some (depth_of (w.srq t)) ≡ true))) is (room.reserved.shared n)))
  where
    by : (o : Option SharedReceives) → is_some (option_map (λ s. s.depth) o) ≡ true → is_some o ≡ true
    by None e = e
    by (Some s) e = refl
