-- What a text has after a value was written into it.
use Rattle.std.proofs.Common.{◌≡◌, ℕ, List, ◌++◌, None, Some, Option, IfSome}
use Rattle.std.proofs.lemmas.Fmt.{contents_after_writes}
use Rattle.std.specs.Fmt.{WritesText}

pub text_behind : (o : Option (List ℕ)) (a b : List ℕ) → WritesText (λ t bytes u. u ≡ t ++ bytes) a o b
    → IfSome o (λ text. b ≡ a ++ text)
text_behind None a b w = tt
text_behind (Some text) a b w = contents_after_writes (λ t bytes u. u ≡ t ++ bytes) (λ t. t) (λ t bytes u same. same) a text b w
