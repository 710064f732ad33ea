-- Packet sequence numbers, which count modulo 2^24, and the whole numbers that they stand for.
use Rattle.std.specs.Prelude.{◌≡◌, ℕ, ◌+◌, ◌-◌, ◌%◌, ◌^◌, ◌<◌, ◌≤◌, ◌==◌, nat_le, if◌then◌else◌}
use Rattle.ca_psn.specs.declared.class.Class.{Class}
use Rattle.ca_psn.specs.declared.class.Class.TheVariants.{Expected, Duplicate, Ahead}

-- two whole numbers have one PSN
abbrev pub SamePsn : ℕ → ℕ → Type 0
SamePsn m n = m % 2 ^ 24 ≡ n % 2 ^ 24

-- Seen from the expected PSN, the one that came is the same, is one of the 2^23 before it, or one of the others after it.
abbrev pub IsClass : ℕ → ℕ → Class → Type 0
IsClass expected got Expected = got ≡ expected
IsClass expected got (Duplicate d) = (1 ≤ d) × (d ≤ 2 ^ 23) × SamePsn (got + d) expected
IsClass expected got Ahead = (d : ℕ) × (1 ≤ d) × (d < 2 ^ 23) × SamePsn (expected + d) got

-- how many PSNs before the expected one the one that came lies, counted backwards
abbrev pub steps_back : ℕ → ℕ → ℕ
steps_back expected got = (expected + 2 ^ 24 - got) % 2 ^ 24

-- the class of the PSN that came
abbrev pub class_of : ℕ → ℕ → Class
class_of expected got =
    if steps_back expected got == 0 then Expected
    else if nat_le (steps_back expected got) (2 ^ 23) then Duplicate (steps_back expected got)
    else Ahead

-- w has this PSN, and lies at most half of all PSNs below near or less than half above it
abbrev pub IsWidened : ℕ → ℕ → ℕ → Type 0
IsWidened near got w = SamePsn w got × (near - 2 ^ 23 ≤ w) × (w < near + 2 ^ 23)

-- the whole number near another that a PSN stands for: the first of those from near - 2^23 on
abbrev pub widened : ℕ → ℕ → ℕ
widened near got = near - 2 ^ 23 + (got + 2 ^ 24 - (near - 2 ^ 23) % 2 ^ 24) % 2 ^ 24

-- on which side of near this class says that w lies, and how far before it
abbrev pub LiesBy : ℕ → ℕ → Class → Type 0
LiesBy near w Expected = w ≡ near
LiesBy near w (Duplicate d) = (1 ≤ d) × (w + d ≡ near)
LiesBy near w Ahead = near < w
