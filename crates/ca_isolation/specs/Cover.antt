-- The runs that cover a group's bytes, and which histories name no byte behind the last of a buffer. Contracts cite it.
use Rattle.std.specs.Prelude.{◌+◌, ◌≤◌, ◌^◌, Bool, List}
use Rattle.std.specs.List.{AllByRecursion, list_any}
use Rattle.ca_keys.specs.Memory.{is_in}
use Rattle.ca_keys.specs.declared.place.Place.{Place}
use Rattle.ca_keys.specs.declared.place.Run.{Run}
use Rattle.ca_model.specs.Entries.{EntryValue}
use Rattle.ca_model.specs.declared.mark.Mark.{Mark}
use Rattle.ca_model.specs.declared.mark.Mark.TheVariants as marks

-- the place is one of these runs'
abbrev pub covers : List Run → Place → Bool
covers rs p = list_any (λ r. is_in r p) rs

-- a run ends among the bytes that places can name
abbrev pub EndsInReach : Run → Type 0
EndsInReach r = r.offset + r.length ≤ 2 ^ 32

-- so does each run that a mark grants
abbrev pub GrantsInReach : Mark → Type 0
GrantsInReach (marks.Granted g) = AllByRecursion EndsInReach g.runs
GrantsInReach mark = Unit {0}

-- so does each run that a history grants
abbrev pub AreInReach : List EntryValue → Type 0
AreInReach es = AllByRecursion (λ e. AllByRecursion GrantsInReach e.marks) es
