-- Grants and their key slots: the part of Licensed that speaks of them. Laws cite it.
use Rattle.std.specs.Prelude.{Bool, true, IsTrue, List}
use Rattle.ca_keys.specs.Memory.{ByteMap}
use Rattle.ca_model.specs.Entries.{EntryValue}
use Rattle.ca_model.specs.Licensed.{is_alone}
use Rattle.ca_model.specs.Past.{Past, each_entry, opening_past}
use Rattle.ca_model.specs.declared.mark.Mark.{Mark}
use Rattle.ca_model.specs.declared.mark.Mark.TheVariants as marks

-- a key comes into force where no other grant in force has its key slot
abbrev pub is_granted_alone : Past → Mark → Bool
is_granted_alone past (marks.Granted g) = is_alone past g
is_granted_alone past mark = true

-- each grant of a history does so, over these bytes
abbrev pub AreAlone : ByteMap → List EntryValue → Type 0
AreAlone bytes es = IsTrue (each_entry is_granted_alone (λ past. true) (opening_past bytes) es)
