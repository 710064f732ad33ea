-- The eight numbers after a list of moves, and what a move needs. Contracts cite it.
use Rattle.std.specs.Prelude.{◌≡◌, ◌≢◌, ℕ, ◌+◌, ◌-◌, ◌<◌, ◌≤◌, Bool, nat_lt, List, [], ◌∷◌, set, replicate, Option, Some, None, slice_get, slice_index, if◌then◌else◌}
use Rattle.ca_parts.specs.Lists.{times, numbers_of}
use Rattle.test_parts.specs.declared.amount.TheConstants.{NUMBERS}
use Rattle.test_parts.specs.declared.amount.Amount.{Amount}
use Rattle.test_parts.specs.declared.amount.Move.{Move}
use Rattle.test_parts.specs.declared.amount.Opening.{Opening}

-- the numbers after one move
abbrev pub numbers_after_move : Move → List ℕ → List ℕ
numbers_after_move m numbers = set (set numbers m.from (slice_index numbers m.from - m.amount)) m.to (slice_index numbers m.to + m.amount)

-- the numbers after a list of moves, the first one first
abbrev pub numbers_after : List Move → List ℕ → List ℕ
numbers_after [] numbers = numbers
numbers_after (m ∷ ms) numbers = numbers_after ms (numbers_after_move m numbers)

abbrev pub opening_numbers : Opening → List ℕ
opening_numbers key = replicate NUMBERS key.each

-- a move is between two different ones of the eight numbers
abbrev pub IsMove : Move → Type 0
IsMove m = (m.from < NUMBERS) × (m.to < NUMBERS) × (m.from ≢ m.to)

-- after the list the move can be made: the first number holds the amount
abbrev pub CanFollow : Opening → List Move → Move → Type 0
CanFollow key log m = IsMove m × (m.amount ≤ slice_index (numbers_after log (opening_numbers key)) m.from)

-- after the list the number at k is x
abbrev pub StandsFor : Opening → List Move → ℕ → Amount → Type 0
StandsFor key log k x = slice_get (numbers_after log (opening_numbers key)) k ≡ Some x.0

abbrev pub is_held : ℕ → List (ℕ × Amount) → Bool
is_held k hand = nat_lt 0 (times k (numbers_of hand))

-- the part that a move needs next: the number that it takes from, then the one that it adds to
abbrev pub next_of : Move → List (ℕ × Amount) → Option ℕ
next_of m hand = if is_held m.from hand then (if is_held m.to hand then None else Some m.to) else Some m.from
