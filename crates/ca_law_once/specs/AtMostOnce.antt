-- Each atomic of a clean connection acts at most once: the part of Once that speaks of atomics that acted. Laws cite it.
use Rattle.std.specs.Prelude.{IsTrue, List}
use Rattle.std.specs.List.{list_all}
use Rattle.ca_keys.specs.Memory.{ByteMap}
use Rattle.ca_model.specs.Entries.{EntryValue}
use Rattle.ca_model.specs.Once.{acts_at_most_once}
use Rattle.ca_model.specs.Past.{Past, after_entries, opening_past}

-- each atomic that acted, by the past
abbrev pub ActAtMostOnceIn : Past → Type 0
ActAtMostOnceIn past = IsTrue (list_all (acts_at_most_once past) past.acted)

-- each atomic that acted in a history, over these bytes
abbrev pub ActAtMostOnce : ByteMap → List EntryValue → Type 0
ActAtMostOnce bytes es = ActAtMostOnceIn (after_entries es (opening_past bytes))
