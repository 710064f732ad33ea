-- Room that sums take.
use Rattle.std.proofs.Common.{◌≡◌, ℕ, ◌+◌, ◌-◌, ◌<◌, ◌≤◌, cond, leb, Option, Some, None, arith}
use Rattle.std.proofs.lemmas.Bool.Decides.{nat_tests}

-- what is left of the room behind a sum
abbrev pub left_behind : ℕ → ℕ → Option ℕ
left_behind total room = cond (leb total room) (Some (room - total)) None

pub more_left : (total room n : ℕ) → n ≤ room → left_behind total (room - n) ≡ left_behind (n + total) room
more_left total room n h = grind (arith, nat_tests)

pub none_left : (total room n : ℕ) → room < n → left_behind (n + total) room ≡ None
none_left total room n h = grind (arith, nat_tests)

pub ruleset taking = (more_left, none_left)

pub ruleset fitting = (more_left, none_left)
