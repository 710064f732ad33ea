-- Which packet sequence numbers a requester's posted requests have, as whole numbers that never wrap. Contracts cite it.
use Rattle.std.specs.Prelude.{ℕ, zero, suc, ◌+◌, ◌-◌, ◌*◌, ◌/◌, ◌^◌, ◌<◌, ◌≤◌, max, Bool, true, false, ◌||◌}

-- a posted send request: what it does, with the bytes of its message
pub data Work : Type 0 where
  Local : Work
  Send : ℕ → Work
  Write : ℕ → Work
  Read : ℕ → Work
  Atomic : Work

-- One direction of a connection: the PSN of the requester's first packet, the path MTU, and all requests that were posted
-- to the requester, by place.
pub record Direction : Type 0 where
  pub psn : ℕ
  pub mtu : ℕ
  pub work : ℕ → Work

-- a READ
abbrev pub is_read : Work → Bool
is_read Local = false
is_read (Send bytes) = false
is_read (Write bytes) = false
is_read (Read bytes) = true
is_read Atomic = false

-- a SEND or a WRITE
abbrev pub is_data : Work → Bool
is_data Local = false
is_data (Send bytes) = true
is_data (Write bytes) = true
is_data (Read bytes) = false
is_data Atomic = false

-- a WRITE
abbrev pub is_write : Work → Bool
is_write Local = false
is_write (Send bytes) = false
is_write (Write bytes) = true
is_write (Read bytes) = false
is_write Atomic = false

-- an atomic
abbrev pub is_atomic : Work → Bool
is_atomic Local = false
is_atomic (Send bytes) = false
is_atomic (Write bytes) = false
is_atomic (Read bytes) = false
is_atomic Atomic = true

-- a request whose end is told by an answer of its own, and not by an acknowledgement
abbrev pub is_answered : Work → Bool
is_answered work = is_read work || is_atomic work

-- the bytes that a READ asks for
abbrev pub bytes_of : Work → ℕ
bytes_of Local = 0
bytes_of (Send bytes) = bytes
bytes_of (Write bytes) = bytes
bytes_of (Read bytes) = bytes
bytes_of Atomic = 8

-- how many packets a message of so many bytes has: one at least
abbrev pub segments : ℕ → ℕ → ℕ
segments mtu bytes = max 1 ((bytes + mtu - 1) / mtu)

-- how many PSNs a request takes: one for each packet, of a READ one for each packet of its response
abbrev pub psns : ℕ → Work → ℕ
psns mtu Local = 0
psns mtu (Send bytes) = segments mtu bytes
psns mtu (Write bytes) = segments mtu bytes
psns mtu (Read bytes) = segments mtu bytes
psns mtu Atomic = 1

-- The whole number of the first packet. It lies 2^24 above the PSN, so that half of all PSNs lie below it.
abbrev pub start : Direction → ℕ
start d = 2 ^ 24 + d.psn

-- the first number of the request at this place: requests take their numbers in the order of posting, without gaps
abbrev pub first : Direction → ℕ → ℕ
first d zero = start d
first d (suc place) = first d place + psns d.mtu (d.work place)

-- the request at this place has the number n
pub record HasNumber (d : Direction) (place n : ℕ) : Type 0 where
  pub from : first d place ≤ n
  pub below : n < first d (suc place)

-- how many bytes of the message at this place are left from number n on
abbrev pub bytes_left : Direction → ℕ → ℕ → ℕ
bytes_left d place n = bytes_of (d.work place) - (n - first d place) * d.mtu

-- how many PSNs one packet takes: a READ's request takes those of all that is left, any other packet one
abbrev pub span_of : ℕ → Work → ℕ → ℕ
span_of mtu Local left = 1
span_of mtu (Send bytes) left = 1
span_of mtu (Write bytes) left = 1
span_of mtu (Read bytes) left = segments mtu left
span_of mtu Atomic left = 1

-- how many PSNs the packet with number n of the request at this place takes
abbrev pub span : Direction → ℕ → ℕ → ℕ
span d place n = span_of d.mtu (d.work place) (bytes_left d place n)
