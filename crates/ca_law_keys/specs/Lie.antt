-- Windows and their regions: the part of Licensed that speaks of them. Laws cite it.
use Rattle.std.specs.Prelude.{Bool, true, IsTrue, List}
use Rattle.ca_keys.specs.Memory.{ByteMap}
use Rattle.ca_model.specs.Entries.{EntryValue}
use Rattle.ca_model.specs.Licensed.{windows_lie_in_regions}
use Rattle.ca_model.specs.Past.{Past, after_mark, each_entry, opening_past}
use Rattle.ca_model.specs.declared.mark.Mark.{Mark}
use Rattle.ca_model.specs.declared.mark.Mark.TheVariants as marks

-- where a key comes into force or ends, each window's grant in force lies then in that of its region
abbrev pub leaves_windows_lying : Past → Mark → Bool
leaves_windows_lying past (marks.Granted g) = windows_lie_in_regions (after_mark (marks.Granted g) past)
leaves_windows_lying past (marks.Revoked adapter key) = windows_lie_in_regions (after_mark (marks.Revoked adapter key) past)
leaves_windows_lying past mark = true

-- each mark of a history does so, over these bytes
abbrev pub DoWindowsLie : ByteMap → List EntryValue → Type 0
DoWindowsLie bytes es = IsTrue (each_entry leaves_windows_lying (λ past. true) (opening_past bytes) es)
