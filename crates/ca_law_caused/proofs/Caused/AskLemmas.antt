-- Asks of the parts of a list are by its pieces. For proofs only.
use Rattle.std.proofs.Common.{◌≡◌, ℕ, ◌+◌, ◌-◌, ◌%◌, ◌^◌, ◌≤◌, ◌<◌, ◌==◌, ◌&&◌, ◌||◌, nat_le, min, Bool, true, false, if◌then◌else◌, List, [], ◌∷◌, map, refl, ap, arith}
use Rattle.std.proofs.lemmas.Bool.Decides.{nat_tests}
use Rattle.std.proofs.lemmas.Bool.{and_parts}
use Rattle.std.specs.List.{list_all, list_any}
use Rattle.ca_law_keys.proofs.Posts.GrantLemmas.{both-true, key-refl}
use Rattle.ca_base.specs.declared.request.Piece.{Piece}
use Rattle.ca_keys.specs.Equal.{queue_eq}
use Rattle.ca_keys.specs.declared.access.Ask.{Ask}
use Rattle.ca_keys.specs.declared.access.Kind.{Kind}
use Rattle.ca_keys.specs.declared.names.DomainId.{DomainId}
use Rattle.ca_keys.specs.declared.names.QueueId.{QueueId}
use Rattle.ca_law_world.proofs.Sound.SettledLemmas.{queue-refl}
use Rattle.ca_model.specs.Caused.{is_by_piece}
use Rattle.ca_model.specs.machine.Numbering.{cut_list, list_asks, piece_ask, piece_part}

-- an ask of a queue pair by a piece of a list
abbrev pub is_by_list : QueueId → List Piece → Ask → Bool
is_by_list name pieces ask = queue_eq ask.queue name && list_any (is_by_piece ask) pieces

gap : (a s : ℕ) → ((a + s) % 2 ^ 64 + 2 ^ 64 - a % 2 ^ 64) % 2 ^ 64 ≤ s
gap a s = omega arith

part-fits : (a s c l : ℕ) → s < l → ((a + s) % 2 ^ 64 + 2 ^ 64 - a % 2 ^ 64) % 2 ^ 64 + min c (l - s) ≤ l
part-fits a s c l less = omega (arith, gap a s, less)

by-part : (name : QueueId) (domain : DomainId) (kind : Kind) (p : Piece) (skip count : ℕ) → nat_le p.length skip ≡ false → is_by_piece (piece_ask name domain kind (piece_part p skip (min count (p.length - skip)))) p ≡ true
by-part name domain kind p skip count e = both-true _ _ (key-refl p.key) (low _ p.length (part-fits p.address skip count p.length (less p.length skip e)))
  where
    low : (a b : ℕ) → a ≤ b → nat_le a b ≡ true
    low a b less = grind (arith, nat_tests, less)

    less : (a b : ℕ) → nat_le a b ≡ false → b < a
    less a b e = grind (arith, nat_tests, e)

all-weaker : {A : Type 0} (f g : A → Bool) (xs : List A) → ((x : A) → f x ≡ true → g x ≡ true) → list_all f xs ≡ true → list_all g xs ≡ true
all-weaker f g [] more all = refl
all-weaker f g (x ∷ xs) more all = both-true (g x) _ (more x (and_parts (f x) _ all).0) (all-weaker f g xs more (and_parts (f x) _ all).1)

or-next : (a b : Bool) → b ≡ true → (a || b) ≡ true
or-next true b is = refl
or-next false b is = is

pub asked-by : (name : QueueId) (domain : DomainId) (kind : Kind) (skip count : ℕ) (pieces : List Piece) → list_all (is_by_list name pieces) (list_asks name domain kind skip count pieces) ≡ true
asked-by name domain kind skip count [] = refl
asked-by name domain kind skip count (p ∷ ps) = by (nat_le p.length skip) (count == 0) refl (λ skip count. asked-by name domain kind skip count ps)
  where
    cut : Bool → Bool → List Piece
    cut b z = if b then cut_list (skip - p.length) count ps else if z then [] else piece_part p skip (min count (p.length - skip)) ∷ cut_list 0 (count - (p.length - skip)) ps

    later : (ask : Ask) → is_by_list name ps ask ≡ true → is_by_list name (p ∷ ps) ask ≡ true
    later ask is = both-true (queue_eq ask.queue name) _ (and_parts (queue_eq ask.queue name) _ is).0 (or-next (is_by_piece ask p) _ (and_parts (queue_eq ask.queue name) _ is).1)

    by : (b z : Bool) → nat_le p.length skip ≡ b → ((skip count : ℕ) → list_all (is_by_list name ps) (list_asks name domain kind skip count ps) ≡ true) → list_all (is_by_list name (p ∷ ps)) (map (piece_ask name domain kind) (cut b z)) ≡ true
    by true z e rest = all-weaker (is_by_list name ps) (is_by_list name (p ∷ ps)) (list_asks name domain kind (skip - p.length) count ps) later (rest (skip - p.length) count)
    by false true e rest = refl
    by false false e rest = both-true (is_by_list name (p ∷ ps) (piece_ask name domain kind (piece_part p skip (min count (p.length - skip))))) _
        (both-true (queue_eq name name) _ (queue-refl name) (ap (λ b. b || list_any (is_by_piece (piece_ask name domain kind (piece_part p skip (min count (p.length - skip))))) ps) (by-part name domain kind p skip count e)))
        (all-weaker (is_by_list name ps) (is_by_list name (p ∷ ps)) (list_asks name domain kind 0 (count - (p.length - skip)) ps) later (rest 0 (count - (p.length - skip))))
