-- What contracts see of an entry: its marks as a list. Contracts cite it.
use Rattle.std.specs.Prelude.{ℕ, List}
use Rattle.ca_model.specs.declared.entry.Entry.{Entry}
use Rattle.ca_model.specs.declared.event.Event.{Event}
use Rattle.ca_model.specs.declared.mark.Mark.{Mark}

pub record EntryValue : Type 0 where
  pub stamp : ℕ
  pub pass : ℕ
  pub event : Event
  pub marks : List Mark

abbrev pub entry_of : Entry → EntryValue
entry_of e = record { stamp = e.stamp; pass = e.pass; event = e.event; marks = e.marks.marks }
