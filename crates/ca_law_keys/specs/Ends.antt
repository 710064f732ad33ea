-- Keys that end: the part of Licensed that says that they were in force, and that no window lies in a region that ends.
-- Laws cite it.
use Rattle.std.specs.Prelude.{Bool, true, false, not, ◌&&◌, IsTrue, List}
use Rattle.std.specs.Option.{option_map_or}
use Rattle.ca_keys.specs.Memory.{ByteMap}
use Rattle.ca_keys.specs.declared.grant.Grant.{Grant}
use Rattle.ca_model.specs.Entries.{EntryValue}
use Rattle.ca_model.specs.Licensed.{grant_with, has_bound_window}
use Rattle.ca_model.specs.Past.{Past, each_entry, opening_past}
use Rattle.ca_model.specs.declared.mark.Mark.{Mark}
use Rattle.ca_model.specs.declared.mark.Mark.TheVariants as marks

-- the grant is not that of a region with a bound window
abbrev pub is_unbound : Past → Grant → Bool
is_unbound past g = not (g.local && has_bound_window past g)

-- a key that ends is that of a grant in force, and not of a region with a bound window
abbrev pub ends_in_force : Past → Mark → Bool
ends_in_force past (marks.Revoked adapter key) = option_map_or (is_unbound past) (grant_with past adapter key) false
ends_in_force past mark = true

-- each key that ends in a history is so, over these bytes
abbrev pub DoEndInForce : ByteMap → List EntryValue → Type 0
DoEndInForce bytes es = IsTrue (each_entry ends_in_force (λ past. true) (opening_past bytes) es)
