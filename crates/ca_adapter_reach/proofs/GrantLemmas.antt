-- What is granted after a key ended: its own grant is gone, and no other. For proofs only.
use Rattle.std.proofs.Common.{◌≡◌, ◌∙◌, ◌+◌, ◌<◌, ◌≤◌, refl, ap, subst, arith, ℕ, Bool, true, false, not, if◌then◌else◌, Option, None, Some, IfSome, OnOk, Result, Ok, Err, is_some}
use Rattle.std.proofs.lemmas.Bool.Decides.{nat_tests}
use Rattle.std.specs.Option.{option_and_then, option_map}
use Rattle.ca_keys.specs.declared.access.Ask.{Ask}
use Rattle.ca_keys.specs.declared.grant.Grant.{Grant}
use Rattle.ca_keys.specs.declared.key.Key.{Key}
use Rattle.ca_keys.specs.declared.names.QueueId.{QueueId}
use Rattle.ca_keys.specs.declared.names.Slot.{Slot}
use Rattle.ca_keys.specs.Allowed.{fits, grant_for}
use Rattle.ca_keys.specs.Equal.{key_eq, slot_eq}
use Rattle.ca_keys.specs.Numbers.{is_window_key}
use Rattle.ca_base.specs.declared.refusals.OpRefusal.{OpRefusal}
use Rattle.ca_base.specs.Sight.{Invalidation}
use Rattle.ca_base.specs.objects.LocalRequest.{region_refusal, unnamed_refusal, window_refusal}
use Rattle.ca_base.specs.objects.Region.{FastRegistered, Free, NoRegion, Region, RegionState, Registered, after_region_invalidation, grant_in_state, grant_of_region, state_after_invalidation, vacant_region, with_window_unbound}
use Rattle.ca_base.specs.objects.Slices.{is_key_of, slot_of_key}
use Rattle.ca_base.specs.objects.Window.{Binding, Window, grant_of_binding, key_of_window, vacant_window, without_binding}
use Rattle.ca_grant.specs.KeySlot.{list_of_grant}
use Rattle.ca_grant.specs.Reaching.{grants_without, is_by_key}
use Rattle.ca_adapter_reach.specs.Paths.{slot_path}
use Rattle.ca_adapter_reach.specs.Shelved.{has_thing, thing_under}
use Rattle.ca_adapter_reach.specs.declared.reached.Reached.{Reached}
use Rattle.ca_adapter_reach.specs.AtHand.{CanEnd, FitTogether, IsCounting, LiesInValid}
use Rattle.ca_adapter_reach.specs.Changed.{after_end_of, put_region, put_window, without_window_key}
use Rattle.ca_adapter_reach.specs.Laws.{plain-with}
use Rattle.ca_adapter_reach.specs.Seen.{grant_named, grant_of_window, or_vacant, region_in, sight_of, slot_under, window_in}
use Rattle.ca_adapter_reach.proofs.EndLemmas.{counting_has, ended_under, unbound_refused}

-- an ask by another key than that of a grant does not fit it
other-key : (i : Invalidation) (x : Ask) (g : Grant) → key_eq g.key i.key ≡ true → g.domain.adapter ≡ i.domain.adapter
    → is_by_key i x ≡ false → fits x g ≡ false
other-key i x g same adapter other = grind (arith, nat_tests)

-- a window's key is no region's
other-kind : (i : Invalidation) (x : Ask) → is_window_key x.key ≡ false → is_window_key i.key ≡ true → is_by_key i x ≡ false
other-kind i x a b = grind (arith, nat_tests)

kind-other : (i : Invalidation) (x : Ask) → is_window_key x.key ≡ true → is_window_key i.key ≡ false → is_by_key i x ≡ false
kind-other i x a b = grind (arith, nat_tests)

-- an ask by the key that ends names its slot
by-slot : (i : Invalidation) (x : Ask) → slot_eq (slot_of_key i.domain i.key) (slot_of_key x.domain x.key) ≡ false → is_by_key i x ≡ false
by-slot i x apart = grind (arith, nat_tests)

none : (c : Bool) → let T : Type 0 = Option Grant in ◌≡◌ {A = T} None (if c then None else None)
none true = refl
none false = refl

module _ (i : Invalidation) (x : Ask) where
  -- the grant of the key that ends is that of no other ask
  own-grant : (g : Grant) → key_eq g.key i.key ≡ true → g.domain.adapter ≡ i.domain.adapter
      → None ≡ (if is_by_key i x then None else grant_for x (list_of_grant (Some g)))
  own-grant g key adapter = by (is_by_key i x) refl
    where
      by : (c : Bool) → is_by_key i x ≡ c → None ≡ (if c then None else grant_for x (list_of_grant (Some g)))
      by true e = refl
      by false e = rw (other-key i x g key adapter e) refl

  own-window : (w : Window) (f : Binding → Option Grant) → key_eq (key_of_window w) i.key ≡ true → w.slot.domain.adapter ≡ i.domain.adapter
      → (o : Option Binding)
      → None ≡ (if is_by_key i x then None else grant_for x (list_of_grant (option_and_then (λ b. option_map (grant_of_binding w b) (f b)) o)))
  own-window w f key adapter None = none (is_by_key i x)
  own-window w f key adapter (Some b) = by (f b)
    where
      by : (o : Option Grant) → None ≡ (if is_by_key i x then None else grant_for x (list_of_grant (option_map (grant_of_binding w b) o)))
      by None = none (is_by_key i x)
      by (Some g) = own-grant (grant_of_binding w b g) key adapter

  own-region : (o : Option Grant) → ((g : Grant) → o ≡ Some g → (key_eq g.key i.key ≡ true) × (g.domain.adapter ≡ i.domain.adapter))
      → None ≡ (if is_by_key i x then None else grant_for x (list_of_grant o))
  own-region None own = none (is_by_key i x)
  own-region (Some g) own = own-grant g (own g refl).0 (own g refl).1

-- the grant of a window is the same over regions that grant the same
over-same : (region region' : Slot → Region) → ((s : Slot) → grant_of_region (region' s) ≡ grant_of_region (region s)) → (w : Window)
    → grant_of_window region' w ≡ grant_of_window region w
over-same region region' states w = by w.binding
  where
    by : (o : Option Binding)
        → option_and_then (λ b. option_map (grant_of_binding w b) (grant_of_region (region' (slot_under w b)))) o
        ≡ option_and_then (λ b. option_map (grant_of_binding w b) (grant_of_region (region (slot_under w b)))) o
    by None = refl
    by (Some b) = ap (option_map (grant_of_binding w b)) (states (slot_under w b))

unbound-none : (region : Slot → Region) (w : Window) → w.binding ≡ None → grant_of_window region w ≡ None
unbound-none region w e = ap (option_and_then (λ b. option_map (grant_of_binding w b) (grant_of_region (region (slot_under w b))))) e

-- the end of a window's key: its binding is gone, other windows are as they were, and regions grant what they granted
window-end : (region region' : Slot → Region) (window window' : Slot → Window) (i : Invalidation) (x : Ask)
    → is_window_key i.key ≡ true
    → ((s : Slot) → grant_of_region (region' s) ≡ grant_of_region (region s))
    → ((s : Slot) → slot_eq (slot_of_key i.domain i.key) s ≡ false → window' s ≡ window s)
    → (window' (slot_of_key i.domain i.key)).binding ≡ None
    → key_eq (key_of_window (window (slot_of_key i.domain i.key))) i.key ≡ true
    → (window (slot_of_key i.domain i.key)).slot.domain.adapter ≡ i.domain.adapter
    → grant_for x (list_of_grant (grant_named region' window' x.domain x.key))
    ≡ grants_without i (λ x. grant_for x (list_of_grant (grant_named region window x.domain x.key))) x
window-end region region' window window' i x kind states others gone key adapter =
    by (is_key_of x.domain x.key) (is_window_key x.key) refl (slot_eq (slot_of_key i.domain i.key) (slot_of_key x.domain x.key)) refl
  where
    Kept : Slot → Type 0
    Kept s = grant_for x (list_of_grant (grant_of_window region' (window' s)))
        ≡ (if is_by_key i x then None else grant_for x (list_of_grant (grant_of_window region (window s))))

    here : Kept (slot_of_key i.domain i.key)
    here =
        ap (λ o. grant_for x (list_of_grant o)) (unbound-none region' (window' (slot_of_key i.domain i.key)) gone)
        ∙ own-window i x (window (slot_of_key i.domain i.key))
        (λ b. grant_of_region (region (slot_under (window (slot_of_key i.domain i.key)) b))) key adapter (window (slot_of_key i.domain i.key)).binding

    by : (k w : Bool) → is_window_key x.key ≡ w → (s : Bool) → slot_eq (slot_of_key i.domain i.key) (slot_of_key x.domain x.key) ≡ s
        → grant_for x (list_of_grant (if not k then None else if w then grant_of_window region' (window' (slot_of_key x.domain x.key))
        else grant_of_region (region' (slot_of_key x.domain x.key))))
        ≡ (if is_by_key i x then None else grant_for x (list_of_grant (if not k then None
        else if w then grant_of_window region (window (slot_of_key x.domain x.key)) else grant_of_region (region (slot_of_key x.domain x.key)))))
    by false w is s e = none (is_by_key i x)
    by true false is s e = rw (other-kind i x is kind) (ap (λ o. grant_for x (list_of_grant o)) (states (slot_of_key x.domain x.key)))
    by true true is true e = subst Kept (slot_path (slot_of_key i.domain i.key) (slot_of_key x.domain x.key) e) here
    by true true is false e = rw (by-slot i x e) (ap (λ o. grant_for x (list_of_grant o))
        (ap (grant_of_window region') (others (slot_of_key x.domain x.key) e) ∙ over-same region region' states (window (slot_of_key x.domain x.key))))

-- no window is bound in a region that counts none
unbound-in : (region region' : Slot → Region) (slot : Slot)
    → ((s : Slot) → slot_eq slot s ≡ false → region' s ≡ region s) → grant_of_region (region' slot) ≡ None → (region slot).bound ≡ 0
    → (w : Window) → IfSome w.binding (λ b. LiesInValid b (region (slot_under w b)))
    → grant_of_window region' w ≡ grant_of_window region w
unbound-in region region' slot others gone zero w lies = by w.binding lies
  where
    by : (o : Option Binding) → IfSome o (λ b. LiesInValid b (region (slot_under w b)))
        → option_and_then (λ b. option_map (grant_of_binding w b) (grant_of_region (region' (slot_under w b)))) o
        ≡ option_and_then (λ b. option_map (grant_of_binding w b) (grant_of_region (region (slot_under w b)))) o
    by None lies = refl
    by (Some b) lies = ap (option_map (grant_of_binding w b)) (each (slot_under w b) (slot_eq slot (slot_under w b)) refl lies)
      where
        counted : (o : Option Grant) → IfSome o (λ g. ((g.address ≤ b.address) × (b.address + b.length ≤ g.address + g.length)) × (0 < (region slot).bound))
            → None ≡ o
        counted None h = refl
        counted (Some g) h = absurd (omega (arith, h.1, zero))

        each : (s : Slot) (c : Bool) → slot_eq slot s ≡ c → LiesInValid b (region s) → grant_of_region (region' s) ≡ grant_of_region (region s)
        each s true e h =
            let P : Slot → Type 0 = λ s. LiesInValid b (region s) → grant_of_region (region' s) ≡ grant_of_region (region s) in
            subst P (slot_path slot s e) (λ h. gone ∙ counted (grant_of_region (region slot)) h) h
        each s false e h = ap grant_of_region (others s e)

-- the end of a region's key: its grant is gone, other regions are as they were, and no window was bound in it
region-end : (region region' : Slot → Region) (window : Slot → Window) (i : Invalidation) (x : Ask)
    → is_window_key i.key ≡ false
    → ((s : Slot) → slot_eq (slot_of_key i.domain i.key) s ≡ false → region' s ≡ region s)
    → grant_of_region (region' (slot_of_key i.domain i.key)) ≡ None
    → (region (slot_of_key i.domain i.key)).bound ≡ 0
    → ((s : Slot) → IfSome (window s).binding (λ b. LiesInValid b (region (slot_under (window s) b))))
    → ((g : Grant) → grant_of_region (region (slot_of_key i.domain i.key)) ≡ Some g → (key_eq g.key i.key ≡ true) × (g.domain.adapter ≡ i.domain.adapter))
    → grant_for x (list_of_grant (grant_named region' window x.domain x.key))
    ≡ grants_without i (λ x. grant_for x (list_of_grant (grant_named region window x.domain x.key))) x
region-end region region' window i x kind others gone zero lies own =
    by (is_key_of x.domain x.key) (is_window_key x.key) refl (slot_eq (slot_of_key i.domain i.key) (slot_of_key x.domain x.key)) refl
  where
    Kept : Slot → Type 0
    Kept s = grant_for x (list_of_grant (grant_of_region (region' s)))
        ≡ (if is_by_key i x then None else grant_for x (list_of_grant (grant_of_region (region s))))

    by : (k w : Bool) → is_window_key x.key ≡ w → (s : Bool) → slot_eq (slot_of_key i.domain i.key) (slot_of_key x.domain x.key) ≡ s
        → grant_for x (list_of_grant (if not k then None else if w then grant_of_window region' (window (slot_of_key x.domain x.key))
        else grant_of_region (region' (slot_of_key x.domain x.key))))
        ≡ (if is_by_key i x then None else grant_for x (list_of_grant (if not k then None
        else if w then grant_of_window region (window (slot_of_key x.domain x.key)) else grant_of_region (region (slot_of_key x.domain x.key)))))
    by false w is s e = none (is_by_key i x)
    by true true is s e = rw (kind-other i x is kind) (ap (λ o. grant_for x (list_of_grant o))
        (unbound-in region region' (slot_of_key i.domain i.key) others gone zero (window (slot_of_key x.domain x.key)) (lies (slot_of_key x.domain x.key))))
    by true false is true e = subst Kept (slot_path (slot_of_key i.domain i.key) (slot_of_key x.domain x.key) e)
        (ap (λ o. grant_for x (list_of_grant o)) gone ∙ own-region i x (grant_of_region (region (slot_of_key i.domain i.key))) own)
    by true false is false e = rw (by-slot i x e) (ap (λ r. grant_for x (list_of_grant (grant_of_region r))) (others (slot_of_key x.domain x.key) e))

-- a key that ends is that of a part in hand
pub region_held : (key : Key) (o : Option Region) → region_refusal key (or_vacant vacant_region o) ≡ None → is_some o ≡ true
region_held key None accepted = cc
region_held key (Some region) accepted = refl

pub window_held : (key : Key) (queue : QueueId) (slot : Slot) (o : Option Window) → window_refusal key queue (or_vacant (vacant_window slot) o) ≡ None → is_some o ≡ true
window_held key queue slot None accepted = cc
window_held key queue slot (Some w) accepted = refl

-- a window's key that ends is the window's
window-key : (key : Key) (queue : QueueId) (w : Window) → window_refusal key queue w ≡ None → key_eq (key_of_window w) key ≡ true
window-key key queue w h = grind (arith, nat_tests)

-- a region's key that ends is the region's, which was fast-registered and counts no window
region-key : (key : Key) (r : Region) (pages : ℕ) (g : Grant) → r.state ≡ FastRegistered pages g → region_refusal key r ≡ None
    → (key_eq g.key key ≡ true) × (r.bound ≡ 0)
region-key key r pages g e h = (grind (arith, nat_tests), grind (arith, nat_tests))

-- a region that was registered in the ordinary way keeps its key
registered-key : (key : Key) (r : Region) (g : Grant) → r.state ≡ Registered g → region_refusal key r ≡ None → ⊥
registered-key key r g e h = grind (arith, nat_tests)

no-region-key : (key : Key) (r : Region) → r.state ≡ NoRegion → region_refusal key r ≡ None → ⊥
no-region-key key r e h = grind (arith, nat_tests)

free-key : (key : Key) (r : Region) (pages : ℕ) → r.state ≡ Free pages → region_refusal key r ≡ None → ⊥
free-key key r pages e h = grind (arith, nat_tests)

-- what is known of a region whose key ends
pub record IsEnding (key : Key) (r : Region) : Type 0 where
  pub gone : grant_of_region (after_region_invalidation r) ≡ None
  pub zero : r.bound ≡ 0
  pub own : (g : Grant) → grant_of_region r ≡ Some g → key_eq g.key key ≡ true

is-ending : (key : Key) (r : Region) → region_refusal key r ≡ None → IsEnding key r
is-ending key r accepted = by r.state refl
  where
    by : (st : RegionState) → r.state ≡ st → IsEnding key r
    by NoRegion e = absurd (no-region-key key r e accepted)
    by (Free pages) e = absurd (free-key key r pages e accepted)
    by (Registered g) e = absurd (registered-key key r g e accepted)
    by (FastRegistered pages g) e = record {
      gone = ap (λ st. grant_in_state (state_after_invalidation st)) e;
      zero = (region-key key r pages g e accepted).1;
      own = λ h is. let same : g ≡ h = cc in let P : Grant → Type 0 = λ g. key_eq g.key key ≡ true in subst P same (region-key key r pages g e accepted).0;
    }

-- with another region, or another window, in its slot
pub region_put : (r : Reached) (s : Slot) (v : Region) → has_thing slot_eq s r.regions.things ≡ true → (m : Slot)
    → region_in (put_region r s v) m ≡ (if slot_eq s m then v else region_in r m)
region_put r s v has m = plain-with slot_eq slot_path (λ s. vacant_region) r.regions.things s m v has

pub window_put : (r : Reached) (s : Slot) (v : Window) → has_thing slot_eq s r.windows.things ≡ true → (m : Slot)
    → window_in (put_window r s v) m ≡ (if slot_eq s m then v else window_in r m)
window_put r s v has m = plain-with slot_eq slot_path vacant_window r.windows.things s m v has

slot-same : (s : Slot) → slot_eq s s ≡ true
slot-same s = grind (arith, nat_tests)

if-same : {A : Type 0} (b : Bool) (x y : A) → b ≡ true → (if b then x else y) ≡ x
if-same b x y e = rw e refl

if-other : {A : Type 0} (b : Bool) (x y : A) → b ≡ false → (if b then x else y) ≡ y
if-other b x y e = rw e refl

module _ (r : Reached) (i : Invalidation) (fit : FitTogether (region_in r) (window_in r)) (x : Ask) where
  ends-region : is_window_key i.key ≡ false → region_refusal i.key (region_in r (slot_of_key i.domain i.key)) ≡ None
      → (sight_of (put_region r (slot_of_key i.domain i.key) (after_region_invalidation (region_in r (slot_of_key i.domain i.key))))).grant x
      ≡ grants_without i (sight_of r).grant x
  ends-region kind accepted =
      let s : Slot = slot_of_key i.domain i.key in
      let after : Region = after_region_invalidation (region_in r s) in
      let has : has_thing slot_eq s r.regions.things ≡ true = region_held i.key (thing_under slot_eq s r.regions.things) accepted in
      let ending : IsEnding i.key (region_in r s) = is-ending i.key (region_in r s) accepted in
      region-end (region_in r) (region_in (put_region r s after)) (window_in r) i x kind
      (λ m apart. region_put r s after has m ∙ if-other (slot_eq s m) after (region_in r m) apart)
      (ap grant_of_region (region_put r s after has s ∙ if-same (slot_eq s s) after (region_in r s) (slot-same s)) ∙ ending.gone)
      ending.zero fit.bound
      (λ g is. (ending.own g is, let P : Option Grant → Type 0 = λ o. IfSome o (λ g. g.domain ≡ s.domain) in ap (λ d. d.adapter) (subst P is (fit.domains s))))

  ends-window : is_window_key i.key ≡ true → window_refusal i.key i.queue (window_in r (slot_of_key i.domain i.key)) ≡ None
      → IfSome (window_in r (slot_of_key i.domain i.key)).binding (λ b. IsCounting r (slot_under (window_in r (slot_of_key i.domain i.key)) b))
      → (sight_of (without_window_key r (slot_of_key i.domain i.key) (window_in r (slot_of_key i.domain i.key)))).grant x
      ≡ grants_without i (sight_of r).grant x
  ends-window kind accepted counts = by w.binding refl counts
    where
      s : Slot
      s = slot_of_key i.domain i.key

      w : Window
      w = window_in r s

      by : (o : Option Binding) → w.binding ≡ o → IfSome o (λ b. IsCounting r (slot_under w b))
          → (sight_of (without_window_key r s w)).grant x ≡ grants_without i (sight_of r).grant x
      by None e counts = absurd (unbound_refused i.key i.queue w e accepted)
      by (Some b) e counts =
          let under : Slot = slot_under w b in
          let region : Region = with_window_unbound (region_in r under) in
          let has : has_thing slot_eq s r.windows.things ≡ true = window_held i.key i.queue s (thing_under slot_eq s r.windows.things) accepted in
          let left : Reached = put_region (put_window r s (without_binding w)) under region in
          let P : Reached → Type 0 = λ t. (sight_of t).grant x ≡ grants_without i (sight_of r).grant x in
          subst P (ended_under r s w under (ap (option_map (slot_under w)) e))
          (window-end (region_in r) (region_in left) (window_in r) (window_in left) i x kind
          (λ m. ap grant_of_region (region_put (put_window r s (without_binding w)) under region (counting_has r under counts) m) ∙ states under m (slot_eq under m) refl)
          (λ m apart. window_put r s (without_binding w) has m ∙ if-other (slot_eq s m) (without_binding w) (window_in r m) apart)
          (ap (λ w. w.binding) (window_put r s (without_binding w) has s ∙ if-same (slot_eq s s) (without_binding w) (window_in r s) (slot-same s)))
          (window-key i.key i.queue w accepted)
          (ap (λ s. s.domain.adapter) (fit.slots s)))
        where
          states : (under m : Slot) (c : Bool) → slot_eq under m ≡ c
              → grant_of_region (if c then with_window_unbound (region_in r under) else region_in r m) ≡ grant_of_region (region_in r m)
          states under m true e = ap (λ s. grant_of_region (region_in r s)) (slot_path under m e)
          states under m false e = refl

some-none : {A : Type 0} (a : A) → Some a ≡ None → ⊥
some-none a e = cc

-- the end of a key ends its grant at its adapter, and leaves all others
pub end_is_seen : (r : Reached) (i : Invalidation) → CanEnd r i → (sight_of r).refusal i ≡ None → (x : Ask)
    → (sight_of (after_end_of r i)).grant x ≡ grants_without i (sight_of r).grant x
end_is_seen r i can accepted x = by (is_key_of i.domain i.key) refl (is_window_key i.key) refl
  where
    by : (k : Bool) → is_key_of i.domain i.key ≡ k → (w : Bool) → is_window_key i.key ≡ w
        → (sight_of (after_end_of r i)).grant x ≡ grants_without i (sight_of r).grant x
    by false k w e = absurd (some-none (unnamed_refusal i.key) (rw k at accepted))
    by true k true w = rw (k, w) (ends-window r i can.fit x w (rw (k, w) at accepted) (can.under k w))
    by true k false w = rw (k, w) (ends-region r i can.fit x w (rw (k, w) at accepted))

pub ended_grants : (result : Result (Unit {0}) OpRefusal) (r new : Reached) (i : Invalidation) → CanEnd r i
    → OnOk result ((sight_of r).refusal i ≡ None) → OnOk result (new ≡ after_end_of r i)
    → OnOk result ((x : Ask) → (sight_of new).grant x ≡ grants_without i (sight_of r).grant x)
ended_grants (Ok done) r new i can accepted ended = λ x. ap (λ r. (sight_of r).grant x) ended ∙ end_is_seen r i can accepted x
ended_grants (Err refusal) r new i can accepted ended = tt
