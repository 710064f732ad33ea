-- What a tried move leaves of a pass. Contracts cite it.
use Rattle.std.specs.Prelude.{◌≡◌, ◌<◌, ◌≤◌, ◌⊎◌, ℕ, [], ◌∷◌, ◌++◌}
use Rattle.test_parts.specs.declared.amount.Amount.{Amount}
use Rattle.test_parts.specs.declared.amount.Move.{Move}
use Rattle.ca_base.specs.declared.limits.TheConstants.{LATE_STAMP}
use Rattle.test_parts.specs.declared.moving.MoveError.{MoveError}
use Rattle.test_parts.specs.declared.moving.MoveError.TheVariants.{Busy, NotReady, Full}
use Rattle.test_parts.specs.Held.{Known}

-- the pass has the move as one entry more, with this stamp
abbrev pub AddsEntry : Known → Known → ℕ → Move → Type 0
AddsEntry old new stamp m = new.entries ≡ old.entries ++ (stamp, m) ∷ []

-- the pass has one refusal more, of a part of the move, and the entries and notes that it had
abbrev pub WasRefused : Known → Known → Move → Type 0
WasRefused old new m = ((k : ℕ) × ((k ≡ m.from) ⊎ (k ≡ m.to)) × (new.refused ≡ old.refused ++ k ∷ [])) × (new.entries ≡ old.entries) × (new.notes ≡ old.notes)

-- the pass has one note more: after the first n entries the first number held less than the amount. It has the entries that it had
abbrev pub WasShort : Known → Known → ℕ → Move → Type 0
WasShort old new n m = ((from to : Amount) × (from.0 < m.amount) × (new.notes ≡ old.notes ++ (n, (m.from, from) ∷ (m.to, to) ∷ []) ∷ [])) × (new.entries ≡ old.entries)

-- why the pass did not make the move. No entry was added, and only Full says nothing more
abbrev pub WasNotMade : Known → Known → Move → MoveError → Type 0
WasNotMade old new m Busy = WasRefused old new m
WasNotMade old new m (NotReady n) = WasShort old new n m
WasNotMade old new m (Full n) = (LATE_STAMP ≤ n) × (new.entries ≡ old.entries)
