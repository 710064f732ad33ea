-- Lemmas on numbers that stand twice in a list. For proofs only.
use Rattle.std.proofs.Common.{◌≡◌, ℕ, suc, zero, ◌<◌, ◌+◌, ◌==◌, ◌||◌, Bool, true, List, [], ◌∷◌, length, drop, get_or, ap, ◌∙◌, arith}
use Rattle.std.proofs.lemmas.Grind.{common_steps}
use Rattle.std.proofs.lemmas.List.{drop_more}
use Rattle.std.specs.List.{list_any}
use Rattle.ca_base.specs.objects.Region.{has_repeat}

-- what stands twice behind a place stands twice
pub repeat-drop : (i : ℕ) (ps : List ℕ) → has_repeat (drop i ps) ≡ true → has_repeat ps ≡ true
repeat-drop zero ps h = h
repeat-drop (suc i) [] h = h
repeat-drop (suc i) (p ∷ ps) h = grind (arith, common_steps, repeat-drop i ps h)

-- a number that stands behind its place stands twice
pub repeat-at : (ps : List ℕ) (i j : ℕ) → i < length ps → i + 1 ≡ j
    → list_any (λ other. other == get_or ps i 0) (drop j ps) ≡ true → has_repeat ps ≡ true
repeat-at ps i j h next again =
    repeat-drop i ps (
    ap has_repeat (drop_more ps i 0 h)
    ∙ ap (λ (k : ℕ). list_any (λ other. other == get_or ps i 0) (drop k ps) || has_repeat (drop (i + 1) ps)) next
    ∙ ap (λ (b : Bool). b || has_repeat (drop (i + 1) ps)) again)
