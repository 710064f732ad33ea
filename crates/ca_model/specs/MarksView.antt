use Rattle.std.specs.Prelude.{◌-◌, vec_len, vec_capacity}
use Rattle.ca_model.specs.declared.marks.Marks.TheInside.{Inside}
use Rattle.ca_model.specs.Marks.{MarkList}

abbrev pub view_of : Inside → MarkList
view_of m = record { marks = m.items.items; room = vec_capacity m.items - vec_len m.items }
