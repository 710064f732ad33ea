-- What the marks of a history and a link say alike of the WRITEs of one direction of a connection. Laws cite it.
use Rattle.std.specs.Prelude.{◌≡◌, ℕ, zero, suc, ◌%◌, ◌^◌, if◌then◌else◌, map, List, []}
use Rattle.ca_base.specs.declared.correspondent.Correspondent.{Correspondent}
use Rattle.ca_connection.specs.Layout.{Direction, is_write}
use Rattle.ca_connection.specs.Link.{Link}
use Rattle.ca_connection.specs.Once.{numbers_at}
use Rattle.ca_law_once.specs.Written.{Writes, psns_at}

-- the PSN of a number
abbrev pub psn_bits : ℕ → ℕ
psn_bits n = n % 2 ^ 24

-- The packets of each posted WRITE of the life that sends that wrote are those that the link has accepted; of other requests
-- none wrote.
abbrev pub AreWritten : Direction → Correspondent → Writes → Link → Type 0
AreWritten d s w l = (place : ℕ) → psns_at s place w.wrote ≡ (if is_write (d.work place) then map psn_bits (numbers_at place l.acceptances) else [])
