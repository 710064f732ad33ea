-- Compared: what is left of a word that is compared with what a value displays as. For contracts inside the crate.
use Rattle.std.specs.Prelude.{ℕ, ◌==◌, Bool, true, false, if◌then◌else◌, List, [], ◌∷◌, Option, Some, None}
use Rattle.std.specs.Option.{option_map}
use Rattle.ca_trace_lex.specs.declared.find.Compared.TheInside.{Inside}

-- what stands behind a piece that a word begins with
abbrev pub behind : List ℕ → List ℕ → Option (List ℕ)
behind [] w = Some w
behind (c ∷ cs) [] = None
behind (c ∷ cs) (d ∷ ds) = if d == c then behind cs ds else None

-- what is left of a word, of which this was left, behind one piece more
abbrev pub after : List ℕ → Option (List ℕ) → Option (List ℕ)
after piece None = None
after piece (Some left) = behind piece left

-- the word was displayed, and no more
abbrev pub is_whole : Option (List ℕ) → Bool
is_whole (Some []) = true
is_whole other = false

abbrev pub view_of : Inside → Option (List ℕ)
view_of compared = option_map (λ left. left.now) compared.left
