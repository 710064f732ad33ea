-- Successes and their effects: the part of Licensed that speaks of how an event ends. Laws cite it.
use Rattle.std.specs.Prelude.{true, IsTrue, List}
use Rattle.ca_keys.specs.Memory.{ByteMap}
use Rattle.ca_model.specs.Entries.{EntryValue}
use Rattle.ca_model.specs.Licensed.{is_effective_at_end}
use Rattle.ca_model.specs.Past.{each_entry, opening_past}

-- as each event of a history ends, over these bytes, each success has its effect: a registration its grant, a
-- deregistration, a deallocation and an invalidation the end of their key; and a local operation that was not performed
-- grants and ends nothing
abbrev pub HaveTheirEffects : ByteMap → List EntryValue → Type 0
HaveTheirEffects bytes es = IsTrue (each_entry (λ past mark. true) is_effective_at_end (opening_past bytes) es)
