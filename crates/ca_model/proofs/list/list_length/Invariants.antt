use Rattle.std.proofs.Common.{◌≡◌, ◌*◌, ◌^◌, ◌≤◌, take}
use Rattle.ca_model.specs.Requests as requests
use Rattle.ca_model.proofs.list.list_length.Given as goal

abbrev pub invariant-loop-piece : goal.invariant-loop-piece
invariant-loop-piece l =
    (l.bytes ≡ requests.list_length (take l.piece-index l.list)) × (l.bytes ≤ l.piece-index * 2 ^ 32)
