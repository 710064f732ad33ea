-- The two directions of a clean connection, read off what a history leaves, and their links. Laws cite it.
use Rattle.std.specs.Prelude.{IsTrue, List, None, Option, Some, slice_get}
use Rattle.std.specs.List.{Contains}
use Rattle.ca_law_endings.specs.Agreement.{HoldsAlong}
use Rattle.ca_base.specs.Configuration.{Configuration}
use Rattle.ca_connection.specs.Layout.{Direction, Work}
use Rattle.ca_connection.specs.Layout.Work.{Local}
use Rattle.ca_connection.specs.Link.{Link}
use Rattle.ca_keys.specs.Memory.{ByteMap}
use Rattle.ca_model.specs.Entries.{EntryValue}
use Rattle.ca_model.specs.Once.{is_clean_pair}
use Rattle.ca_model.specs.Past.{Naming, Past, Posted, after_entries, opening_past}
use Rattle.ca_model.specs.machine.World.{World, opening_world}
use Rattle.ca_law_once.specs.OnceTold.{IsTold}
use Rattle.ca_law_once.specs.Sides.{work_of}

-- what a posted request does, and nothing beyond the last
abbrev pub work_posted : Option Posted → Work
work_posted None = Local
work_posted (Some p) = work_of p.request.op

-- The direction from the one end to the other, by their Rtr: it begins with the PSN that the other end expects, has its path
-- MTU, and the requests that the one end posted.
abbrev pub direction_of : Past → Naming → Naming → Direction
direction_of past a b = record { psn = b.psn; mtu = b.mtu; work = λ place. work_posted (slice_get (past.posted a.own) place) }

-- a link says the same of the direction from the one end to the other, by what a history leaves, as this past and this world
abbrev pub HasLink : Past → Naming → Naming → Past → World → Type 0
HasLink end a b past w = (l : Link) × IsTold (direction_of end a b) a.own b.own past w l

-- for the two Rtr of each clean connection of a history a link does so, before the first entry and after each
abbrev pub AreLinks : Configuration → ByteMap → List EntryValue → Type 0
AreLinks c bytes es = (a b : Naming) → Contains (after_entries es (opening_past bytes)).namings a
    → Contains (after_entries es (opening_past bytes)).namings b
    → IsTrue (is_clean_pair (after_entries es (opening_past bytes)) a b)
    → HoldsAlong (HasLink (after_entries es (opening_past bytes)) a b) c (opening_past bytes) (opening_world bytes) es
