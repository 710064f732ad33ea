-- The parts that a move holds, and what a call leaves of a pass. Contracts cite it.
use Rattle.std.specs.Prelude.{◌≡◌, ◌≤◌, ℕ, List, [], ◌∷◌, map, take}
use Rattle.ca_parts.specs.declared.view.View.{View}
use Rattle.ca_parts.specs.declared.pass.Turn1.{Turn1}
use Rattle.ca_parts.specs.Lists.{times, numbers_of}
use Rattle.test_parts.specs.declared.amount.Amount.{Amount}
use Rattle.test_parts.specs.declared.amount.Move.{Move}
use Rattle.test_parts.specs.declared.amount.Opening.{Opening}

-- what a pass of this machine knows
abbrev pub Known : Type 0
Known = View Opening Move Move Amount

-- the parts, as a hand has them
abbrev pub hand_of : List (Turn1 Amount) → List (ℕ × Amount)
hand_of held = map (λ t. (t.part, t.value)) held

-- no part stands twice
abbrev pub AreApart : List (ℕ × Amount) → Type 0
AreApart hand = (k : ℕ) → times k (numbers_of hand) ≤ 1

-- the first parts of a move, in the order of taking
abbrev pub first_parts : Move → ℕ → List ℕ
first_parts m n = take n (m.from ∷ m.to ∷ [])

-- the share, the entries and the notes of a pass are as they were
abbrev pub SameRecord : Known → Known → Type 0
SameRecord old new = (new.share ≡ old.share) × (new.entries ≡ old.entries) × (new.notes ≡ old.notes)
