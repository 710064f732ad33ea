-- Sends that complete: the part of Ordered that speaks of them. Laws cite it.
use Rattle.std.specs.Prelude.{Bool, true, if◌then◌else◌, IsTrue, List}
use Rattle.ca_keys.specs.Memory.{ByteMap}
use Rattle.ca_model.specs.Entries.{EntryValue}
use Rattle.ca_model.specs.Ordered.{is_send_in_order}
use Rattle.ca_model.specs.Past.{Past, each_entry, opening_past, present_incarnation}
use Rattle.ca_model.specs.declared.mark.Mark.{Mark}
use Rattle.ca_model.specs.declared.mark.Mark.TheVariants as marks

-- a send completes behind those that completed before it, with no signalled one left between
abbrev pub completes_in_order : Past → Mark → Bool
completes_in_order past (marks.Done queue completion cause) =
    if completion.receive then true
    else is_send_in_order past completion (past.posted (present_incarnation past completion.queue))
completes_in_order past mark = true

-- each send that completes in a history does so, over these bytes
abbrev pub DoCompleteInOrder : ByteMap → List EntryValue → Type 0
DoCompleteInOrder bytes es = IsTrue (each_entry completes_in_order (λ past. true) (opening_past bytes) es)
