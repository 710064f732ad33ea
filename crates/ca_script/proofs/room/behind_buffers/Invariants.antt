use Rattle.std.proofs.Common.{◌≡◌, drop, sum}
use Rattle.ca_script.proofs.RoomLemmas.{left_behind}
use Rattle.ca_script.proofs.room.behind_buffers.Given as goal

abbrev pub invariant-loop-bytes : goal.invariant-loop-bytes
invariant-loop-bytes l = left_behind (sum (drop l.bytes-index l.buffers)) l.left ≡ left_behind (sum l.buffers) l.room
