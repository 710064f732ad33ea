-- What the parts in a hand are for, and what they stand for. Contracts and the trait of machines cite it.
use Rattle.std.specs.Prelude.{◌≡◌, ℕ, List, [], Option, Some, None}
use Rattle.ca_parts.specs.Lists.{Has, EachFollows}

-- the hand is, in the order of taking, what the event needs: each part is the one that it needs next after those before it
abbrev pub IsTakenFor : {S E T : Type 0} → (S → E → List (ℕ × T) → Option ℕ) → S → E → List (ℕ × T) → Type 0
IsTakenFor needs key event hand = EachFollows (λ before x. needs key event before ≡ Some x.0) [] hand

-- the hand is all that the event needs
abbrev pub Suffices : {S E T : Type 0} → (S → E → List (ℕ × T) → Option ℕ) → S → E → List (ℕ × T) → Type 0
Suffices needs key event hand = IsTakenFor needs key event hand × (needs key event hand ≡ None)

-- each part of the hand stands for the value that the hand has of it
abbrev pub AllStand : {T : Type 0} → (ℕ → T → Type 0) → List (ℕ × T) → Type 0
AllStand {T} stands hand = (k : ℕ) (x : T) → Has (k, x) hand → stands k x
