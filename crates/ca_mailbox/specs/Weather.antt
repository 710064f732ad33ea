-- What the weather does to each packet and timer of a queue pair. Contracts cite it.
use Rattle.std.specs.Prelude.{ℕ, ◌+◌, ◌*◌, ◌/◌, ◌%◌, ◌^◌, ◌==◌, ◌&&◌, Bool, true, false, if◌then◌else◌, nat_lt, List, [], ◌∷◌}
use Rattle.rand_pcg.specs.Lcg.{started, increment_of}
use Rattle.rand_pcg.specs.Pcg.{multiplier_64, pcg32}
use Rattle.ca_base.specs.ca_keys.Equal.{queue_eq}
use Rattle.ca_base.specs.declared.lot.Lot.{Lot}
use Rattle.ca_base.specs.declared.lot.Lot.TheVariants.{Pass, Lose, Repeat, Hold}
use Rattle.ca_base.specs.ca_keys.declared.names.QueueId.{QueueId}
use Rattle.ca_mailbox.specs.declared.weather.Weather.{Weather}
use Rattle.ca_mailbox.specs.declared.weather.Weather.TheVariants.{Calm, Listed, Seeded}
use Rattle.ca_mailbox.specs.declared.weather.WeatherLine.{WeatherLine}
use Rattle.ca_mailbox.specs.declared.weather.WeatherLine.TheVariants as lines

-- the first word of the generator of a seed, a mailbox and a number
abbrev pub drawn_word : ℕ → QueueId → ℕ → ℕ
drawn_word seed q number =
    (pcg32 (started 64 multiplier_64 ((seed + (q.adapter * 2 ^ 24 + q.number)) % 2 ^ 64) (increment_of 64 number))).0

-- of 64 words four are lost, two are repeated, two are held, and the others pass
abbrev pub lot_of_word : ℕ → Lot
lot_of_word x =
    if nat_lt (x % 64) 4 then Lose
    else if nat_lt (x % 64) 6 then Repeat 1
    else if nat_lt (x % 64) 8 then Hold (x / 64 % 8 + 1)
    else Pass

-- the lot of the first line that names the packet
abbrev pub listed_lot : List WeatherLine → QueueId → ℕ → Lot
listed_lot [] q index = Pass
listed_lot (lines.Lot queue i lot ∷ ls) q index = if queue_eq queue q && (i == index) then lot else listed_lot ls q index
listed_lot (lines.Hasten queue nth ∷ ls) q index = listed_lot ls q index

-- a line hastens the timer
abbrev pub is_listed_hasten : List WeatherLine → QueueId → ℕ → Bool
is_listed_hasten [] q nth = false
is_listed_hasten (lines.Lot queue i lot ∷ ls) q nth = is_listed_hasten ls q nth
is_listed_hasten (lines.Hasten queue n ∷ ls) q nth = if queue_eq queue q && (n == nth) then true else is_listed_hasten ls q nth

-- the lot of an envelope of a mailbox, by its index
abbrev pub lot_under : Weather → QueueId → ℕ → Lot
lot_under Calm q index = Pass
lot_under (Listed ls) q index = listed_lot ls q index
lot_under (Seeded seed) q index = lot_of_word (drawn_word seed q index)

-- a timer of a queue pair is hastened, by how many it had before
abbrev pub is_hastened : Weather → QueueId → ℕ → Bool
is_hastened Calm q nth = false
is_hastened (Listed ls) q nth = is_listed_hasten ls q nth
is_hastened (Seeded seed) q nth = drawn_word seed q ((2 ^ 32 + nth) % 2 ^ 64) % 16 == 0
