-- Keys that end and what ends them: the part of Licensed that speaks of them. Laws cite it.
use Rattle.std.specs.Prelude.{Bool, true, false, IsTrue, List}
use Rattle.std.specs.Option.{option_map_or}
use Rattle.ca_keys.specs.Memory.{ByteMap}
use Rattle.ca_model.specs.Entries.{EntryValue}
use Rattle.ca_model.specs.Licensed.{ends_at_hand, grant_with}
use Rattle.ca_model.specs.Past.{Past, each_entry, opening_past}
use Rattle.ca_model.specs.declared.mark.Mark.{Mark}
use Rattle.ca_model.specs.declared.mark.Mark.TheVariants as marks

-- a key that ends is that of a grant in force which the event at hand ends
abbrev pub ends_as_asked : Past → Mark → Bool
ends_as_asked past (marks.Revoked adapter key) = option_map_or (ends_at_hand past) (grant_with past adapter key) false
ends_as_asked past mark = true

-- each key that ends in a history is so, over these bytes
abbrev pub DoEndAsAsked : ByteMap → List EntryValue → Type 0
DoEndAsAsked bytes es = IsTrue (each_entry ends_as_asked (λ past. true) (opening_past bytes) es)
