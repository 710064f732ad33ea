-- Remote accesses and the packets that ask for them: the parts of Carried that speak of accesses. Laws cite it.
use Rattle.std.specs.Prelude.{Bool, IsTrue, List, true}
use Rattle.ca_keys.specs.Memory.{ByteMap}
use Rattle.ca_keys.specs.declared.access.Kind.{Kind}
use Rattle.ca_model.specs.Carried.{is_carried_access, is_carried_by_arrival, is_carried_by_request}
use Rattle.ca_model.specs.Entries.{EntryValue}
use Rattle.ca_model.specs.Past.{Past, each_entry, opening_past, remote_ask}
use Rattle.ca_model.specs.declared.mark.Mark.{Mark}
use Rattle.ca_keys.specs.declared.access.Kind.TheVariants as kinds
use Rattle.ca_model.specs.declared.mark.Mark.TheVariants as marks

-- a WRITE or an atomic stands in an event in which the packet that it names arrived, and that packet asks for it
abbrev pub has_its_packet : Past → Mark → Bool
has_its_packet past (marks.Remote queue domain envelope key kind address count verdict) =
    by kind (is_carried_by_arrival past (remote_ask queue domain key kind address count) envelope verdict)
  where
    by : Kind → Bool → Bool
    by kinds.Read carried = true
    by kind carried = carried
has_its_packet past mark = true

-- each WRITE and each atomic of a history does so, over these bytes
abbrev pub HaveTheirPackets : ByteMap → List EntryValue → Type 0
HaveTheirPackets bytes es = IsTrue (each_entry has_its_packet (λ past. true) (opening_past bytes) es)

-- a READ stands in a Respond of its queue pair, asks for the rest of a READ request that arrived there in its present
-- incarnation, and gives at most one path MTU
abbrev pub has_its_request : Past → Mark → Bool
has_its_request past (marks.Remote queue domain envelope key kind address count verdict) =
    by kind (is_carried_by_request past (remote_ask queue domain key kind address count) envelope verdict)
  where
    by : Kind → Bool → Bool
    by kinds.Read asked = asked
    by kind asked = true
has_its_request past mark = true

-- each READ of a history does so, over these bytes
abbrev pub HaveTheirRequests : ByteMap → List EntryValue → Type 0
HaveTheirRequests bytes es = IsTrue (each_entry has_its_request (λ past. true) (opening_past bytes) es)

-- a remote access has its packet, or its request, as Carried has it
abbrev pub is_carried_remote : Past → Mark → Bool
is_carried_remote past (marks.Remote queue domain envelope key kind address count verdict) =
    is_carried_access past (remote_ask queue domain key kind address count) envelope verdict kind
is_carried_remote past mark = true

-- each remote access of a history does so, over these bytes
abbrev pub AreCarriedAccesses : ByteMap → List EntryValue → Type 0
AreCarriedAccesses bytes es = IsTrue (each_entry is_carried_remote (λ past. true) (opening_past bytes) es)
