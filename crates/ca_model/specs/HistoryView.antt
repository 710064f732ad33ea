use Rattle.std.specs.Prelude.{List, map}
use Rattle.ca_model.specs.declared.history.History.TheInside.{Inside}
use Rattle.ca_model.specs.Entries.{EntryValue, entry_of}
use Rattle.ca_model.specs.History.{IsHistory}

abbrev pub view_of : Inside → List EntryValue
view_of h = map entry_of h.entries.items

abbrev pub IsSound : Inside → Type 0
IsSound h = IsHistory (view_of h)
