-- The text of replies: a first line, and the lines of each reply. Contracts cite it.
use Rattle.std.specs.Prelude.{ℕ, List, ◌++◌, codes}
use Rattle.std.specs.List.{flat_map}
use Rattle.ca_model.specs.declared.mark.Mark.{Mark}
use Rattle.ca_trace.specs.Trace.{reply_text}

-- the line `alone`, and behind it the replies in order
abbrev pub alone_text : List Mark → List ℕ
alone_text replies = codes "alone\n" ++ flat_map reply_text replies
