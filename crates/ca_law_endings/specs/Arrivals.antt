-- Packets that arrive: the part of Carried that speaks of them. Laws cite it.
use Rattle.std.specs.Prelude.{Bool, true, IsTrue, List}
use Rattle.ca_keys.specs.Memory.{ByteMap}
use Rattle.ca_model.specs.Carried.{has_arrived}
use Rattle.ca_model.specs.Entries.{EntryValue}
use Rattle.ca_model.specs.Past.{Past, each_entry, opening_past}
use Rattle.ca_model.specs.declared.mark.Mark.{Mark}
use Rattle.ca_model.specs.declared.mark.Mark.TheVariants as marks

-- a packet that arrives by an index is among the latest that were sent, not lost, and its queue pair was neither
-- reset nor destroyed since; one without an index is injected by its event
abbrev pub arrives_as_sent : Past → Mark → Bool
arrives_as_sent past (marks.Arrived target index) = has_arrived past target index
arrives_as_sent past mark = true

-- each packet that arrives in a history does so, over these bytes
abbrev pub DoArriveAsSent : ByteMap → List EntryValue → Type 0
DoArriveAsSent bytes es = IsTrue (each_entry arrives_as_sent (λ past. true) (opening_past bytes) es)
