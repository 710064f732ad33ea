-- The segments of a message: where each stands, and which ask for an acknowledgement. Contracts cite it.
use Rattle.std.specs.Prelude.{◌+◌, ◌%◌, ◌==◌, Bool, ◌||◌, if◌then◌else◌}
use Rattle.ca_wire.specs.declared.segment.Segment.{Segment}
use Rattle.ca_wire.specs.declared.shape.Position.{Position}
use Rattle.ca_wire.specs.declared.shape.Position.TheVariants.{First, Middle, Last, Only}
use Rattle.ca_wire.specs.declared.segment.TheConstants.{PACKETS_PER_ACKNOWLEDGEMENT}

-- this segment ends its message
abbrev pub is_last : Segment → Bool
is_last s = s.index + 1 == s.count

-- where a segment stands in its message
abbrev pub position_of : Segment → Position
position_of s =
    if s.index == 0
    then (if is_last s then Only else First)
    else (if is_last s then Last else Middle)

-- AckReq stands on the last packet of a message, and on its packets 32, 64 and so on, counted from 1
abbrev pub asks_acknowledgement : Segment → Bool
asks_acknowledgement s = is_last s || ((s.index + 1) % PACKETS_PER_ACKNOWLEDGEMENT == 0)
