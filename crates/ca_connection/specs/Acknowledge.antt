-- Where an acknowledgement stops: at the first number that only a response of its own can pass. Contracts cite it.
use Rattle.std.specs.Prelude.{◌≡◌, ℕ, zero, suc, ◌+◌, ◌<◌, ◌≤◌, max, true, false, ◌&&◌, nat_lt, if◌then◌else◌, Option, None, Some}
use Rattle.ca_connection.specs.Layout.{Direction, psns, HasNumber, is_answered}

-- No number from `una` on and below `next` is a READ's or an atomic's.
abbrev pub PassesNone : Direction → ℕ → ℕ → Type 0
PassesNone d una next = (place n : ℕ) → una ≤ n → n < next → HasNumber d place n → is_answered (d.work place) ≡ false

-- The first number of a READ or an atomic from `una` on and up to `upto`, found request by request: of so many requests
-- from `place` on, of which the first has the numbers from `at` on.
abbrev pub first_unanswered : Direction → ℕ → ℕ → ℕ → ℕ → ℕ → Option ℕ
first_unanswered d zero place at una upto = None
first_unanswered d (suc count) place at una upto =
    if nat_lt upto (max una at) then None
    else if is_answered (d.work place) && nat_lt una (at + psns d.mtu (d.work place)) then Some (max una at)
    else first_unanswered d count (suc place) (at + psns d.mtu (d.work place)) una upto

-- m is the first number of a READ or an atomic from `una` on, and it is not above `upto`
pub record IsFirstUnanswered (d : Direction) (una upto m : ℕ) : Type 0 where
  pub from : una ≤ m
  pub within : m ≤ upto
  pub before : PassesNone d una m
  pub place : ℕ
  pub number : HasNumber d place m
  pub answered : is_answered (d.work place) ≡ true

-- What an acknowledgement of all numbers up to `upto` meets: no number of a READ or an atomic, and `una` goes past `upto`; or a
-- first one, where `una` stops and the requester goes back.
abbrev pub Acknowledges : Direction → ℕ → ℕ → Option ℕ → Type 0
Acknowledges d una upto None = PassesNone d una (suc upto)
Acknowledges d una upto (Some m) = IsFirstUnanswered d una upto m
