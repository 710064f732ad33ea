-- Which completions a response must stand behind: the part of Carried that speaks of completions. Laws cite it.
use Rattle.std.specs.Prelude.{Bool, IsTrue, List, not, true, ◌&&◌, ◌||◌}
use Rattle.ca_keys.specs.Memory.{ByteMap}
use Rattle.ca_model.specs.Carried.{has_packets, response_arrived}
use Rattle.ca_model.specs.Entries.{EntryValue}
use Rattle.ca_model.specs.Past.{Past, each_entry, is_send_success, opening_past}
use Rattle.ca_model.specs.declared.mark.Mark.{Mark}
use Rattle.ca_model.specs.declared.mark.Mark.TheVariants as marks

-- a send that has packets completes with success only as a response arrives
abbrev pub is_answered : Past → Mark → Bool
is_answered past (marks.Done queue completion cause) =
    not (is_send_success completion && has_packets past completion) || response_arrived past queue
is_answered past mark = true

-- each success of a history stands so
abbrev pub HaveTheirResponses : ByteMap → List EntryValue → Type 0
HaveTheirResponses bytes es = IsTrue (each_entry is_answered (λ p. true) (opening_past bytes) es)
