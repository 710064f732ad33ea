-- Binds and fast registrations keep windows counted.
use Rattle.std.proofs.Common.{◌≡◌, ℕ, suc, ◌+◌, ◌-◌, ◌/◌, ◌≤◌, nat_le, arith, Bool, true, false, [], ◌∷◌, Option, None, Some, IfSome, subst, ◌∙◌, ◌&&◌, not, ap, sym, true≢false, if◌then◌else◌, is_none, refl}
use Rattle.std.proofs.lemmas.Bool.{and_parts, eqb-true, leb-true}
use Rattle.std.specs.Option.{option_map, option_map_or}
use Rattle.ca_keys.specs.declared.grant.Grant.{Grant}
use Rattle.ca_keys.specs.declared.key.Key.{Key}
use Rattle.ca_keys.specs.declared.names.DomainId.{DomainId}
use Rattle.ca_keys.specs.declared.names.QueueId.{QueueId}
use Rattle.ca_keys.specs.declared.names.Slot.{Slot}
use Rattle.ca_base.specs.Configuration.{Configuration}
use Rattle.ca_keys.specs.Equal.{queue_eq, slot_eq}
use Rattle.ca_keys.specs.Numbers.{index_of}
use Rattle.ca_base.specs.objects.LocalRequest.{view_by_key}
use Rattle.ca_base.specs.objects.QueuePair.{QueuePair, Present}
use Rattle.ca_base.specs.objects.Region.{Region, grant_of_region, has_other_key, view_of_grant, with_window_bound, with_window_unbound}
use Rattle.ca_keys.specs.Numbers.{is_window_key}
use Rattle.ca_base.specs.objects.Slices.{has_slot, is_key_of, names_region, slot_of_key}
use Rattle.ca_base.specs.objects.Window.{Binding, Window, is_within}
use Rattle.ca_model.specs.Past.{with_at}
use Rattle.ca_model.specs.machine.LocalOperations.{PlacedRegion, view_named}
use Rattle.ca_model.specs.machine.Plan.{◌:=◌}
use Rattle.ca_model.specs.machine.Row.{region_under}
use Rattle.ca_model.specs.machine.World.{World, Region_of, Window_of}
use Rattle.ca_law_world.specs.Bindings.{IsBoundWorld, LiesIn, is_bound_by, is_bound_in, windows_of}
use Rattle.ca_law_world.proofs.Windows.BindingLemmas.{AreSameGrants, moved-bound, one}
use Rattle.ca_law_world.proofs.Windows.WindowWorldLemmas.{Leaves, queue-counts, unbound-grants}
use Rattle.ca_law_world.proofs.Sound.SettledLemmas.{slot-path}

-- a range is within what a region grants
pub record IsInside (address count : ℕ) (r : Region) : Type 0 where
  pub grant : Grant
  pub is : grant_of_region r ≡ Some grant
  pub low : grant.address ≤ address
  pub high : address + count ≤ grant.address + grant.length

within : (key : Key) (r : Region) (address count : ℕ) → option_map_or (is_within address count) (view_by_key key r) false ≡ true → IsInside address count r
within key r address count e = by (grant_of_region r) refl e
  where
    at : (g : Grant) → grant_of_region r ≡ Some g → (b : Bool)
        → option_map_or (is_within address count) (if b then None else Some (view_of_grant g)) false ≡ true → IsInside address count r
    at g is true e = absurd (true≢false (sym e))
    at g is false e = record {
      grant = g;
      is = is;
      low = leb-true g.address address (and_parts (nat_le g.address address) (nat_le (address + count) (g.address + g.length)) e).0;
      high = leb-true (address + count) (g.address + g.length) (and_parts (nat_le g.address address) (nat_le (address + count) (g.address + g.length)) e).1;
    }

    by : (o : Option Grant) → grant_of_region r ≡ o → option_map_or (is_within address count) (if has_other_key key o then None else option_map view_of_grant o) false ≡ true
        → IsInside address count r
    by None is e = absurd (true≢false (sym e))
    by (Some g) is e = at g is (has_other_key key (Some g)) e

-- the region that a key of a domain names
pub record IsNamed (w : World) (d : DomainId) (key : Key) (n : PlacedRegion) : Type 0 where
  pub slot : n.slot ≡ slot_of_key d key
  pub domain : n.slot.domain ≡ d
  pub region : n.region ≡ w.region n.slot

pub named-region : (c : Configuration) (w : World) (d : DomainId) (key : Key) → names_region c d key ≡ true → IsNamed w d key (record { slot = slot_of_key d key; region = w.region (slot_of_key d key) })
named-region c w d key has = record {
  slot = refl;
  domain = λ i. record { adapter = d.adapter; domain = eqb-true (index_of key / 0x10000) d.domain of-domain i };
  region = refl;
}
  where
    of-domain : is_key_of d key ≡ true
    of-domain = (and_parts (not (is_window_key key)) (is_key_of d key)
        (and_parts (not (is_window_key key) && is_key_of d key) (has_slot c (λ a. a.regions) (slot_of_key d key)) has).0).1

-- the region in which a window was bound
pub record IsFormer (w : World) (x : Window) (f : PlacedRegion) : Type 0 where
  pub binding : Binding
  pub is : x.binding ≡ Some binding
  pub slot : f.slot ≡ region_under x binding
  pub region : f.region ≡ w.region f.slot

-- one window more is bound in a region
bound-region : (w : World) (at r : Slot)
    → (w.region r).bound + one (slot_eq at r) ≤ (with_at slot_eq w.region at (with_window_bound (w.region at)) r).bound
bound-region w at r = by (slot_eq at r) refl
  where
    by : (z : Bool) → slot_eq at r ≡ z → (w.region r).bound + one z ≤ (if z then with_window_bound (w.region at) else w.region r).bound
    by true e = subst (λ t. (w.region t).bound + 1 ≤ suc (w.region at).bound) (slot-path at r e) (omega arith)
    by false e = omega arith

-- a window leaves one region, and is bound in another, or in the same
moved-region : (w : World) (from at r : Slot)
    → (w.region r).bound + one (slot_eq at r)
    ≤ (with_at slot_eq (with_at slot_eq w.region from (with_window_unbound (w.region from))) at
    (with_window_bound (if slot_eq from at then with_window_unbound (w.region at) else w.region at)) r).bound + one (slot_eq from r)
moved-region w from at r = by (slot_eq at r) refl
  where
    left : Bool → Region
    left z = if z then with_window_unbound (w.region at) else w.region at

    here : (z : Bool) → (w.region at).bound + 1 ≤ suc (left z).bound + one z
    here true = omega arith
    here false = omega arith

    there : (z : Bool) → slot_eq from r ≡ z → (w.region r).bound + 0 ≤ (if z then with_window_unbound (w.region from) else w.region r).bound + one z
    there true e = subst (λ t. (w.region t).bound + 0 ≤ ((w.region from).bound - 1) + 1) (slot-path from r e) (omega arith)
    there false e = omega arith

    by : (z : Bool) → slot_eq at r ≡ z
        → (w.region r).bound + one z
        ≤ (if z then with_window_bound (left (slot_eq from at)) else with_at slot_eq w.region from (with_window_unbound (w.region from)) r).bound + one (slot_eq from r)
    by true e = subst (λ t. (w.region t).bound + 1 ≤ suc (left (slot_eq from at)).bound + one (slot_eq from t)) (slot-path at r e) (here (slot_eq from at))
    by false e = there (slot_eq from r) refl

-- what a region grants after windows left it and were bound to it
left-grants : (r : Region) (z : Bool) → grant_of_region (with_window_bound (if z then with_window_unbound r else r)) ≡ grant_of_region r
left-grants r true = refl
left-grants r false = refl

moved-grants : (w : World) (from at : Slot) → AreSameGrants w.region (with_at slot_eq (with_at slot_eq w.region from (with_window_unbound (w.region from))) at
    (with_window_bound (if slot_eq from at then with_window_unbound (w.region at) else w.region at)))
moved-grants w from at r = by (slot_eq at r) refl
  where
    by : (z : Bool) → slot_eq at r ≡ z
        → grant_of_region (if z then with_window_bound (if slot_eq from at then with_window_unbound (w.region at) else w.region at)
        else with_at slot_eq w.region from (with_window_unbound (w.region from)) r) ≡ grant_of_region (w.region r)
    by true e = left-grants (w.region at) (slot_eq from at) ∙ ap (λ t. grant_of_region (w.region t)) (slot-path at r e)
    by false e = unbound-grants w.region from (with_window_unbound (w.region from)) refl r

-- a bound window lies in a region
lies-there : (w : World) (at : Slot) (b : Binding) (address count : ℕ) → b.address ≡ address → b.length ≡ count → IsInside address count (w.region at) → LiesIn b (grant_of_region (w.region at))
lies-there w at b address count a l inside = subst (LiesIn b) (sym inside.is) (omega (arith, inside.low, a), omega (arith, inside.high, a, l))

-- a binding of a window is counted by the region that it names
bound-in : (x : Window) (b : Binding) (at r : Slot) → x.binding ≡ Some b → region_under x b ≡ at → one (is_bound_in r x) ≡ one (slot_eq at r)
bound-in x b at r is under = ap (λ o. one (option_map_or (λ c. slot_eq (region_under x c) r) o false)) is ∙ ap (λ t. one (slot_eq t r)) under

-- a window that is not bound is bound
pub new-leaves : (w : World) (q : QueuePair) (s at : Slot) (x : Window) (b : Binding) (n : ℕ) → IsBoundWorld w → w.queue q.queue ≡ Present q → x.binding ≡ Some b → region_under x b ≡ at
    → IsInside b.address b.length (w.region at)
    → ((p : QueuePair) → p.windows ≡ n → (name : QueueId)
    → windows_of (w.queue name) + one (is_bound_by name x) ≤ windows_of (with_at queue_eq w.queue q.queue (Present p) name) + one (is_bound_by name (w.window s)))
    → Leaves w q n ((Window_of s := x) ∷ (Region_of at := with_window_bound (w.region at)) ∷ [])
new-leaves w q s at x b n bound is bind under inside counts p same = moved-bound w.window w.region _ w.queue _ s x bound
    (λ r. omega (arith, bound-in x b at r bind under, bound-region w at r)) (counts p same)
    (unbound-grants w.region at (with_window_bound (w.region at)) refl)
    (subst (λ o. IfSome o (λ c. LiesIn c (grant_of_region (w.region (region_under x c))))) (sym bind)
    (subst (λ t. LiesIn b (grant_of_region (w.region t))) (sym under) (lies-there w at b b.address b.length refl refl inside)))

-- a window that is bound is bound elsewhere, or in the same region
pub again-leaves : (w : World) (q : QueuePair) (s from at : Slot) (x : Window) (b f : Binding) → IsBoundWorld w → w.queue q.queue ≡ Present q → x.binding ≡ Some b → region_under x b ≡ at
    → (w.window s).binding ≡ Some f → region_under (w.window s) f ≡ from → IsInside b.address b.length (w.region at)
    → ((name : QueueId) → is_bound_by name x ≡ false)
    → Leaves w q q.windows ((Window_of s := x) ∷ (Region_of from := with_window_unbound (w.region from))
    ∷ (Region_of at := with_window_bound (if slot_eq from at then with_window_unbound (w.region at) else w.region at)) ∷ [])
again-leaves w q s from at x b f bound is bind under was former inside none p same = moved-bound w.window w.region _ w.queue _ s x bound
    (λ r. omega (arith, bound-in x b at r bind under, bound-in (w.window s) f from r was former, moved-region w from at r))
    (λ name. omega (arith, ap one (none name), queue-counts w q p (λ m. false) is (omega (arith, same)) name))
    (moved-grants w from at)
    (subst (λ o. IfSome o (λ c. LiesIn c (grant_of_region (w.region (region_under x c))))) (sym bind)
    (subst (λ t. LiesIn b (grant_of_region (w.region t))) (sym under) (lies-there w at b b.address b.length refl refl inside)))

-- a window ends unbound where it was not bound
pub none-leaves : (w : World) (q : QueuePair) (s : Slot) (x : Window) → IsBoundWorld w → w.queue q.queue ≡ Present q → x.binding ≡ None → Leaves w q q.windows ((Window_of s := x) ∷ [])
none-leaves w q s x bound is none p same = moved-bound w.window w.region w.region w.queue _ s x bound
    (λ r. omega (arith, ap (λ o. one (option_map_or (λ c. slot_eq (region_under x c) r) o false)) none))
    (λ name. omega (arith, ap (λ o. one (option_map_or (λ c. option_map_or (λ p. queue_eq p name) c.queue false) o false)) none, queue-counts w q p (λ m. false) is (omega (arith, same)) name))
    (λ r. refl) (subst (λ o. IfSome o (λ c. LiesIn c (grant_of_region (w.region (region_under x c))))) (sym none) (record {}))

pub named-within : (key : Key) (named : Option PlacedRegion) (address count : ℕ) → option_map_or (is_within address count) (view_named key named) false ≡ true
    → IfSome named (λ n. IsInside address count n.region) × (is_none named ≡ false)
named-within key None address count e = absurd (true≢false (sym e))
named-within key (Some n) address count e = (within key n.region address count e, refl)
