-- What is needed next of what is needed first and what else. For proofs only.
use Rattle.std.proofs.Common.{◌≡◌, ◌∙◌, refl, sym, ap, arith, ℕ, zero, suc, ◌+◌, ◌<◌, drop, take, slice_get, Bool, true, false, List, [], ◌∷◌, Option, None, Some, if◌then◌else◌}
use Rattle.std.proofs.lemmas.Option.{none-some}
use Rattle.std.specs.Option.{option_and_then, option_map_or}
use Rattle.ca_base.specs.declared.completion.Completion.{Completion}
use Rattle.ca_base.specs.objects.CompletionQueue.{CompletionQueue}
use Rattle.ca_keys.specs.declared.names.Slot.{Slot}
use Rattle.ca_keys.specs.declared.grant.Grant.{Grant}
use Rattle.ca_keys.specs.declared.place.Run.{Run}
use Rattle.ca_base.specs.objects.Region.{Region, grant_of_region}
use Rattle.ca_region.specs.Region.{buffer_of_region, buffer_of_runs}
use Rattle.ca_model.specs.declared.part_name.PartName.{PartName}
use Rattle.ca_model.specs.declared.part_name.PartName.TheVariants as names
use Rattle.ca_base.specs.Configuration.{Configuration}
use Rattle.ca_model.specs.machine.Parts.{By, Enough, Needs, Part, also, asks_needs, buffer_needs, ending_needs, next_part, part, part_of, place_part, places_needs, row_needs, where_some}
use Rattle.ca_model.specs.machine.Row.{Row}
use Rattle.ca_model.specs.machine.World.{World, get}

pub also_none : (held : PartName → Bool) (w : World) (a b : Needs) → next_part held w a ≡ None → next_part held w (also a b) ≡ next_part held w b
also_none held w Enough b is = refl
also_none held w (Part p more) b is = by (held p) is (also_none held w more b)
  where
    by : (z : Bool) → (if z then next_part held w more else Some p) ≡ None → (next_part held w more ≡ None → next_part held w (also more b) ≡ next_part held w b)
        → (if z then next_part held w (also more b) else Some p) ≡ next_part held w b
    by true is again = again is
    by false is again = absurd (none-some p (sym is))
also_none held w (By n decides) b is = by (held (part_of n)) is (also_none held w (decides (get w n)) b)
  where
    by : (z : Bool) → (if z then next_part held w (decides (get w n)) else Some (part_of n)) ≡ None
        → (next_part held w (decides (get w n)) ≡ None → next_part held w (also (decides (get w n)) b) ≡ next_part held w b)
        → (if z then next_part held w (also (decides (get w n)) b) else Some (part_of n)) ≡ next_part held w b
    by true is again = again is
    by false is again = absurd (none-some (part_of n) (sym is))

pub also_some : (held : PartName → Bool) (w : World) (a b : Needs) (p : PartName) → next_part held w a ≡ Some p → next_part held w (also a b) ≡ Some p
also_some held w Enough b p is = absurd (none-some p is)
also_some held w (Part x more) b p is = by (held x) is (also_some held w more b p)
  where
    by : (z : Bool) → (if z then next_part held w more else Some x) ≡ Some p → (next_part held w more ≡ Some p → next_part held w (also more b) ≡ Some p)
        → (if z then next_part held w (also more b) else Some x) ≡ Some p
    by true is again = again is
    by false is again = is
also_some held w (By n decides) b p is = by (held (part_of n)) is (also_some held w (decides (get w n)) b p)
  where
    by : (z : Bool) → (if z then next_part held w (decides (get w n)) else Some (part_of n)) ≡ Some p
        → (next_part held w (decides (get w n)) ≡ Some p → next_part held w (also (decides (get w n)) b) ≡ Some p)
        → (if z then next_part held w (also (decides (get w n)) b) else Some (part_of n)) ≡ Some p
    by true is again = again is
    by false is again = is

pub also_this : (held : PartName → Bool) (w : World) (a b : Needs) (p : PartName) → Some p ≡ next_part held w a → Some p ≡ next_part held w (also a b)
also_this held w a b p is = sym (also_some held w a b p (sym is))

-- the buffer of a region's grant is that of its bytes
pub region_next : (r : Region) (o : Option (ℕ × ℕ)) → o ≡ buffer_of_region r
    → where_some (λ g. buffer_needs g.runs) (grant_of_region r) ≡ where_some (λ b. part (names.Buffer b.0 b.1)) o
region_next r o is = by (grant_of_region r) ∙ ap (where_some (λ b. part (names.Buffer b.0 b.1))) (sym is)
  where
    runs : (rs : List Run) → buffer_needs rs ≡ where_some (λ b. part (names.Buffer b.0 b.1)) (buffer_of_runs rs)
    runs [] = refl
    runs (x ∷ xs) = refl

    by : (g : Option Grant) → where_some (λ g. buffer_needs g.runs) g ≡ where_some (λ b. part (names.Buffer b.0 b.1)) (option_and_then (λ g. buffer_of_runs g.runs) g)
    by None = refl
    by (Some g) = runs g.runs

-- what a row needs next: what its asks need, and then the key that it ends
pub row_some : (c : Configuration) (held : PartName → Bool) (w : World) (row : Row) (p : PartName) → next_part held w (asks_needs c row.asks) ≡ Some p → next_part held w (row_needs c row) ≡ Some p
row_some c held w row p is = also_some held w (asks_needs c row.asks) (where_some (λ i. ending_needs c i.domain i.key) row.invalidation) p is

pub row_none : (c : Configuration) (held : PartName → Bool) (w : World) (row : Row) → next_part held w (asks_needs c row.asks) ≡ None
    → next_part held w (row_needs c row) ≡ next_part held w (where_some (λ i. ending_needs c i.domain i.key) row.invalidation)
row_none c held w row is = also_none held w (asks_needs c row.asks) (where_some (λ i. ending_needs c i.domain i.key) row.invalidation) is

-- the completions that are taken from some place on: none, or the first of them and the others
pub places_end : (s : Slot) (cq : CompletionQueue) (from upto : ℕ) → slice_get cq.waiting from ≡ None → places_needs s cq (drop from (take upto cq.waiting)) ≡ Enough
places_end s cq from upto is = ap (places_needs s cq) (ends from upto cq.waiting is)
  where
    ends : (from upto : ℕ) (xs : List Completion) → slice_get xs from ≡ None → drop from (take upto xs) ≡ []
    ends zero zero [] is = refl
    ends zero (suc upto) [] is = refl
    ends (suc from) zero [] is = refl
    ends (suc from) (suc upto) [] is = refl
    ends zero upto (x ∷ xs) is = absurd (none-some x (sym is))
    ends (suc from) zero (x ∷ xs) is = refl
    ends (suc from) (suc upto) (x ∷ xs) is = ends from upto xs is

pub places_more : (s : Slot) (cq : CompletionQueue) (from upto : ℕ) (x : Completion) → from < upto → slice_get cq.waiting from ≡ Some x
    → places_needs s cq (drop from (take upto cq.waiting)) ≡ Part (place_part s cq x) (places_needs s cq (drop (from + 1) (take upto cq.waiting)))
places_more s cq from upto x within is = ap (places_needs s cq) (begins from upto cq.waiting within is ∙ ap (λ n. x ∷ drop n (take upto cq.waiting)) (plus-one from))
  where
    plus-one : (n : ℕ) → suc n ≡ n + 1
    plus-one n = omega arith

    begins : (from upto : ℕ) (xs : List Completion) → from < upto → slice_get xs from ≡ Some x → drop from (take upto xs) ≡ x ∷ drop (suc from) (take upto xs)
    begins from upto [] within is = absurd (none-some x is)
    begins from zero (y ∷ ys) within is = absurd (omega (arith, within))
    begins zero (suc upto) (y ∷ ys) within is = ap (λ z. z ∷ take upto ys) (ap (λ o. option_map_or (λ z. z) o y) is)
    begins (suc from) (suc upto) (y ∷ ys) within is = begins from upto ys (omega (arith, within)) is
