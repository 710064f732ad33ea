-- What stands behind the packets of an event, as it ends: the part of Carried that speaks of how events end. Laws cite it.
use Rattle.std.specs.Prelude.{IsTrue, List, true}
use Rattle.ca_keys.specs.Memory.{ByteMap}
use Rattle.ca_model.specs.Carried.{is_carried_at_end}
use Rattle.ca_model.specs.Entries.{EntryValue}
use Rattle.ca_model.specs.Past.{each_entry, opening_past}

-- each event of a history ends so: no packet without a path is left, each packet that was sent has its cause, and the
-- READ responses carry what its READs gave
abbrev pub HaveTheirCauses : ByteMap → List EntryValue → Type 0
HaveTheirCauses bytes es = IsTrue (each_entry (λ past mark. true) is_carried_at_end (opening_past bytes) es)
