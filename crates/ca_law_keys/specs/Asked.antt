-- Grants and what asked for them: the part of Licensed that says that each grant is what its event asked for. Laws cite
-- it.
use Rattle.std.specs.Prelude.{Bool, true, IsTrue, List}
use Rattle.ca_keys.specs.Memory.{ByteMap}
use Rattle.ca_model.specs.Entries.{EntryValue}
use Rattle.ca_model.specs.Licensed.{is_grant_at_hand}
use Rattle.ca_model.specs.Past.{Past, each_entry, opening_past}
use Rattle.ca_model.specs.declared.mark.Mark.{Mark}
use Rattle.ca_model.specs.declared.mark.Mark.TheVariants as marks

-- a grant is what its event asked for
abbrev pub is_granted_as_asked : Past → Mark → Bool
is_granted_as_asked past (marks.Granted g) = is_grant_at_hand past g
is_granted_as_asked past mark = true

-- each grant of a history is so, over these bytes
abbrev pub AreAsAsked : ByteMap → List EntryValue → Type 0
AreAsAsked bytes es = IsTrue (each_entry is_granted_as_asked (λ past. true) (opening_past bytes) es)
