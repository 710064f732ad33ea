-- What contracts see of marks.
use Rattle.std.specs.Prelude.{ℕ, List}
use Rattle.ca_model.specs.declared.mark.Mark.{Mark}

-- the marks in order, and for how many more there is room without memory
pub record MarkList : Type 0 where
  pub marks : List Mark
  pub room : ℕ
