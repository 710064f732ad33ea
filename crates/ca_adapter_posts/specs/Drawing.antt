-- The byte that a bind of a type 1 window draws when it is posted. Contracts cite it.
use Rattle.std.specs.Prelude.{ℕ, ◌==◌, Bool, false, Option, None, Some}
use Rattle.std.specs.Option.{option_map}
use Rattle.ca_base.specs.declared.request.SendOp.{SendOp}
use Rattle.ca_base.specs.declared.request.SendOp.TheVariants as ops
use Rattle.ca_keys.specs.Equal.{queue_eq, slot_eq}
use Rattle.ca_keys.specs.Numbers.{key_at, window_index}
use Rattle.ca_keys.specs.declared.key.Key.{Key}
use Rattle.ca_keys.specs.declared.names.Slot.{Slot}
use Rattle.ca_base.specs.objects.CompletionQueue.{CompletionQueue}
use Rattle.ca_base.specs.objects.QueuePair.{QueuePair, Present, send_cq_of}
use Rattle.ca_base.specs.objects.Window.{Window, after_draw, byte_drawn}
use Rattle.ca_model.specs.Past.{with_at}
use Rattle.ca_model.specs.machine.QueuePairVerbs.{beside}
use Rattle.ca_model.specs.machine.World.{World}

-- the window of a bind of a type 1 window; no other request draws a byte
abbrev pub window_of_bind : Slot → SendOp → Option Slot
window_of_bind s (ops.Bind1 window region address count rights) = Some (beside s window)
window_of_bind s op = None

-- the window's slot is vacant
abbrev pub is_no_window : World → Option Slot → Bool
is_no_window w None = false
is_no_window w (Some x) = (w.window x).kind == 0

-- the byte that is drawn of a window
abbrev pub byte_for : World → Option Slot → Option ℕ
byte_for w None = None
byte_for w (Some x) = byte_drawn (w.window x)

-- the key that the bind will have
abbrev pub key_for : Option Slot → Option ℕ → Option Key
key_for None drawn = None
key_for (Some x) drawn = option_map (key_at (window_index x)) drawn

-- the windows of a world after the draw
abbrev pub windows_after : World → Option Slot → Slot → Window
windows_after w None = w.window
windows_after w (Some x) = with_at slot_eq w.window x (after_draw (w.window x))

-- a world with another queue pair and another completion queue of its sends, after the draw
abbrev pub world_after_send : World → QueuePair → QueuePair → Option CompletionQueue → Option Slot → World
world_after_send w q after cq window = record w {
  queue = with_at queue_eq w.queue q.queue (Present after);
  cq = with_at slot_eq w.cq (send_cq_of q) cq;
  window = windows_after w window;
}
