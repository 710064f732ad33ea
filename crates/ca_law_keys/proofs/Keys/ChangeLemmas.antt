-- What changes of windows and regions make of the grants that stand in key slots. For proofs only.
use Rattle.std.proofs.Common.{◌≡◌, ℕ, zero, suc, ◌<◌, arith, Bool, true, false, nat_lt, if◌then◌else◌, List, [], ◌∷◌, Option, None, Some, slice_get, refl, sym, ap, subst, true≢false, ◌∙◌}
use Rattle.std.proofs.lemmas.Bool.{and_parts, ltb-true}
use Rattle.std.specs.List.{AllByRecursion}
use Rattle.std.specs.Option.{option_and_then, option_map_or}
use Rattle.ca_law_keys.proofs.Keys.SlotLemmas.{key-slot-refl, region-kind, region-slots, slot-at-region, slot-at-window, window-kind, window-slots}
use Rattle.ca_law_keys.specs.InForce.{grant_at, grant_over_regions, is_window_slot, slot_at}
use Rattle.ca_keys.specs.Equal.{slot_eq}
use Rattle.ca_keys.specs.declared.grant.Grant.{Grant}
use Rattle.ca_keys.specs.declared.names.Slot.{Slot}
use Rattle.ca_base.specs.Configuration.{Adapter, Configuration}
use Rattle.ca_base.specs.objects.Region.{Region, grant_of_region}
use Rattle.ca_base.specs.objects.Slices.{adapter_at, has_domain, has_slot}
use Rattle.ca_base.specs.objects.Window.{Binding, Window, grant_of_binding}
use Rattle.ca_law_world.proofs.Sound.SettledLemmas.{slot-path, slot-refl}
use Rattle.ca_law_world.proofs.Windows.BindingLemmas.{AreSameGrants, counted-binding}
use Rattle.ca_law_world.specs.Bindings.{IsBoundWorld, LiesIn, is_bound_in}
use Rattle.ca_model.specs.Past.{KeySlot, key_slot_eq, region_key_slot, window_key_slot, with_at}
use Rattle.ca_model.specs.machine.Row.{grant_over, region_under}
use Rattle.ca_model.specs.machine.Sound.{AreLimited, IsLimitedAdapter}
use Rattle.ca_model.specs.machine.World.{World}

regions-few : (xs : List Adapter) (i k : ℕ) → AllByRecursion IsLimitedAdapter xs → option_map_or (λ a. nat_lt k a.regions) (slice_get xs i) false ≡ true → k < 0x8000
regions-few [] i k all e = absurd (true≢false (sym e))
regions-few (a ∷ xs) zero k all e = omega (arith, all.0.regions, ltb-true k a.regions e)
regions-few (a ∷ xs) (suc i) k all e = regions-few xs i k all.1 e

windows-few : (xs : List Adapter) (i k : ℕ) → AllByRecursion IsLimitedAdapter xs → option_map_or (λ a. nat_lt k a.windows) (slice_get xs i) false ≡ true → k < 0x8000
windows-few [] i k all e = absurd (true≢false (sym e))
windows-few (a ∷ xs) zero k all e = omega (arith, all.0.windows, ltb-true k a.windows e)
windows-few (a ∷ xs) (suc i) k all e = windows-few xs i k all.1 e

-- the slot of a configured region, and of a configured window, is one of half the key slots
pub region-small : (c : Configuration) (s : Slot) → AreLimited c → has_slot c (λ a. a.regions) s ≡ true → s.slot < 0x8000
region-small c s few e = regions-few c.adapters s.domain.adapter s.slot few.adapters
    (and_parts (has_domain c s.domain) (option_map_or (λ a. nat_lt s.slot a.regions) (adapter_at c s.domain.adapter) false) e).1

pub window-small : (c : Configuration) (s : Slot) → AreLimited c → has_slot c (λ a. a.windows) s ≡ true → s.slot < 0x8000
window-small c s few e = windows-few c.adapters s.domain.adapter s.slot few.adapters
    (and_parts (has_domain c s.domain) (option_map_or (λ a. nat_lt s.slot a.windows) (adapter_at c s.domain.adapter) false) e).1

slot-turned : (s t : Slot) → slot_eq s t ≡ true → slot_eq t s ≡ true
slot-turned s t same = subst (λ x. slot_eq x s ≡ true) (slot-path s t same) (slot-refl s)

-- a region changes in which no window is bound
pub region-changed : (region : Slot → Region) (window : Slot → Window) (s : Slot) (x : Region) (l : KeySlot) → s.slot < 0x8000 → ((t : Slot) → is_bound_in s (window t) ≡ false)
    → grant_at (with_at slot_eq region s x) window l ≡ (if key_slot_eq (region_key_slot s) l then grant_of_region x else grant_at region window l)
region-changed region window s x l small free = by (is_window_slot l) refl
  where
    put : Slot → Region
    put = with_at slot_eq region s x

    unbound : (y : Window) (o : Option Binding) → option_map_or (λ b. slot_eq (region_under y b) s) o false ≡ false
        → option_and_then (λ b. grant_over y b (put (region_under y b))) o ≡ option_and_then (λ b. grant_over y b (region (region_under y b))) o
    unbound y None not = refl
    unbound y (Some b) not = at (slot_eq s (region_under y b)) refl
      where
        at : (z : Bool) → slot_eq s (region_under y b) ≡ z
            → grant_over y b (if z then x else region (region_under y b)) ≡ grant_over y b (region (region_under y b))
        at true e = absurd (true≢false (sym (slot-turned s (region_under y b) e) ∙ not))
        at false e = refl

    other : (z : Bool) → is_window_slot l ≡ true → key_slot_eq (region_key_slot s) l ≡ z
        → grant_over_regions region (window (slot_at l)) ≡ (if z then grant_of_region x else grant_over_regions region (window (slot_at l)))
    other true kind e = absurd (true≢false (sym kind ∙ region-kind s l small e))
    other false kind e = refl

    pushed : (z : Bool) → grant_of_region (if z then x else region (slot_at l)) ≡ (if z then grant_of_region x else grant_of_region (region (slot_at l)))
    pushed true = refl
    pushed false = refl

    by : (z : Bool) → is_window_slot l ≡ z
        → (if z then grant_over_regions put (window (slot_at l)) else grant_of_region (put (slot_at l)))
        ≡ (if key_slot_eq (region_key_slot s) l then grant_of_region x else if z then grant_over_regions region (window (slot_at l)) else grant_of_region (region (slot_at l)))
    by true kind = unbound (window (slot_at l)) (window (slot_at l)).binding (free (slot_at l)) ∙ other (key_slot_eq (region_key_slot s) l) kind refl
    by false kind = pushed (slot_eq s (slot_at l))
        ∙ ap (λ z. if z then grant_of_region x else grant_of_region (region (slot_at l))) (region-slots s l small kind)

-- a window changes
pub window-changed : (region : Slot → Region) (window : Slot → Window) (s : Slot) (x : Window) (l : KeySlot) → s.slot < 0x8000
    → grant_at region (with_at slot_eq window s x) l ≡ (if key_slot_eq (window_key_slot s) l then grant_over_regions region x else grant_at region window l)
window-changed region window s x l small = by (is_window_slot l) refl
  where
    other : (z : Bool) → is_window_slot l ≡ false → key_slot_eq (window_key_slot s) l ≡ z
        → grant_of_region (region (slot_at l)) ≡ (if z then grant_over_regions region x else grant_of_region (region (slot_at l)))
    other true kind e = absurd (true≢false (sym (window-kind s l small e) ∙ kind))
    other false kind e = refl

    pushed : (z : Bool) → grant_over_regions region (if z then x else window (slot_at l)) ≡ (if z then grant_over_regions region x else grant_over_regions region (window (slot_at l)))
    pushed true = refl
    pushed false = refl

    by : (z : Bool) → is_window_slot l ≡ z
        → (if z then grant_over_regions region (with_at slot_eq window s x (slot_at l)) else grant_of_region (region (slot_at l)))
        ≡ (if key_slot_eq (window_key_slot s) l then grant_over_regions region x else if z then grant_over_regions region (window (slot_at l)) else grant_of_region (region (slot_at l)))
    by true kind = pushed (slot_eq s (slot_at l))
        ∙ ap (λ z. if z then grant_over_regions region x else grant_over_regions region (window (slot_at l))) (window-slots s l small kind)
    by false kind = other (key_slot_eq (window_key_slot s) l) kind refl

-- regions that grant what they granted
pub window-same : (region after : Slot → Region) (x : Window) → AreSameGrants region after → grant_over_regions after x ≡ grant_over_regions region x
window-same region after x same = at x.binding
  where
    over : Binding → Option Grant → Option Grant
    over b None = None
    over b (Some g) = Some (grant_of_binding x b g)

    at : (o : Option Binding) → option_and_then (λ b. grant_over x b (after (region_under x b))) o ≡ option_and_then (λ b. grant_over x b (region (region_under x b))) o
    at None = refl
    at (Some b) = ap (over b) (same (region_under x b))

pub grants-same : (region after : Slot → Region) (window : Slot → Window) (l : KeySlot) → AreSameGrants region after → grant_at after window l ≡ grant_at region window l
grants-same region after window l same = by (is_window_slot l)
  where
    by : (z : Bool) → (if z then grant_over_regions after (window (slot_at l)) else grant_of_region (after (slot_at l)))
        ≡ (if z then grant_over_regions region (window (slot_at l)) else grant_of_region (region (slot_at l)))
    by true = window-same region after (window (slot_at l)) same
    by false = same (slot_at l)

-- what stands in the key slot of a region, and of a window
pub at-region-slot : (region : Slot → Region) (window : Slot → Window) (s : Slot) → s.slot < 0x8000 → grant_at region window (region_key_slot s) ≡ grant_of_region (region s)
at-region-slot region window s small =
    ap (λ z. if z then grant_over_regions region (window (slot_at (region_key_slot s))) else grant_of_region (region (slot_at (region_key_slot s))))
    (region-kind s (region_key_slot s) small (key-slot-refl (region_key_slot s)))
    ∙ ap (λ t. grant_of_region (region t)) (slot-at-region s small)

pub at-window-slot : (region : Slot → Region) (window : Slot → Window) (s : Slot) → s.slot < 0x8000 → grant_at region window (window_key_slot s) ≡ grant_over_regions region (window s)
at-window-slot region window s small =
    ap (λ z. if z then grant_over_regions region (window (slot_at (window_key_slot s))) else grant_of_region (region (slot_at (window_key_slot s))))
    (window-kind s (window_key_slot s) small (key-slot-refl (window_key_slot s)))
    ∙ ap (λ t. grant_over_regions region (window t)) (slot-at-window s small)

-- no window is bound in a region that is not valid, or that counts none
pub none-granted : (w : World) (s t : Slot) → IsBoundWorld w → grant_of_region (w.region s) ≡ None → is_bound_in s (w.window t) ≡ false
none-granted w s t bound none = by (w.window t).binding refl
  where
    at : (b : Binding) → (w.window t).binding ≡ Some b → (z : Bool) → slot_eq (region_under (w.window t) b) s ≡ z → z ≡ false
    at b is false e = refl
    at b is true e = absurd (subst (LiesIn b) (ap (λ u. grant_of_region (w.region u)) (slot-path (region_under (w.window t) b) s e) ∙ none)
        (counted-binding w.window w.region w.queue t b bound is).inside)

    by : (o : Option Binding) → (w.window t).binding ≡ o → option_map_or (λ b. slot_eq (region_under (w.window t) b) s) o false ≡ false
    by None is = refl
    by (Some b) is = at b is (slot_eq (region_under (w.window t) b) s) refl

pub none-counted : (w : World) (s t : Slot) → IsBoundWorld w → (w.region s).bound ≡ 0 → is_bound_in s (w.window t) ≡ false
none-counted w s t bound none = by (w.window t).binding refl
  where
    at : (b : Binding) → (w.window t).binding ≡ Some b → (z : Bool) → slot_eq (region_under (w.window t) b) s ≡ z → z ≡ false
    at b is false e = refl
    at b is true e = absurd (omega (
      arith,
      (counted-binding w.window w.region w.queue t b bound is).by_region,
      ap (λ u. (w.region u).bound) (slot-path (region_under (w.window t) b) s e),
      none,
    ))

    by : (o : Option Binding) → (w.window t).binding ≡ o → option_map_or (λ b. slot_eq (region_under (w.window t) b) s) o false ≡ false
    by None is = refl
    by (Some b) is = at b is (slot_eq (region_under (w.window t) b) s) refl

-- a bound window stands for a grant, over its region's
pub record StandsOver (w : World) (s : Slot) (b : Binding) : Type 0 where
  pub region : Grant
  pub is : grant_of_region (w.region (region_under (w.window s) b)) ≡ Some region
  pub stands : grant_over_regions w.region (w.window s) ≡ Some (grant_of_binding (w.window s) b region)

pub stands-over : (w : World) (s : Slot) (b : Binding) → IsBoundWorld w → (w.window s).binding ≡ Some b → StandsOver w s b
stands-over w s b bound is = by (grant_of_region (w.region (region_under (w.window s) b))) refl (counted-binding w.window w.region w.queue s b bound is).inside
  where
    over : Option Grant → Option Grant
    over None = None
    over (Some g) = Some (grant_of_binding (w.window s) b g)

    by : (o : Option Grant) → grant_of_region (w.region (region_under (w.window s) b)) ≡ o → LiesIn b o → StandsOver w s b
    by None e lies = absurd lies
    by (Some g) e lies = record {
      region = g;
      is = e;
      stands = ap (option_and_then (λ b. grant_over (w.window s) b (w.region (region_under (w.window s) b)))) is ∙ ap over e;
    }
