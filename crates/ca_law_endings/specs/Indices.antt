-- The indices of packets that are sent: the part of Carried that speaks of paths. Laws cite it.
use Rattle.std.specs.Prelude.{Bool, true, ◌==◌, IsTrue, List}
use Rattle.std.specs.Option.{option_eq}
use Rattle.ca_keys.specs.Memory.{ByteMap}
use Rattle.ca_model.specs.Carried.{index_to}
use Rattle.ca_model.specs.Entries.{EntryValue}
use Rattle.ca_model.specs.Past.{Past, each_entry, opening_past}
use Rattle.ca_model.specs.declared.mark.Mark.{Mark}
use Rattle.ca_model.specs.declared.mark.Mark.TheVariants as marks

-- a packet that is sent has the next index of its target where a path leads there, and else none
abbrev pub has_its_index : Past → Mark → Bool
has_its_index past (marks.Sent source target index request bytes) = option_eq (λ m n. m == n) index (index_to past source target)
has_its_index past mark = true

-- each packet that is sent in a history has its index, over these bytes
abbrev pub HaveTheirIndices : ByteMap → List EntryValue → Type 0
HaveTheirIndices bytes es = IsTrue (each_entry has_its_index (λ past. true) (opening_past bytes) es)
