-- The keys of windows and regions begin and end: what is in force then. For proofs only.
use Rattle.std.proofs.Common.{◌≡◌, ℕ, ◌<◌, arith, Bool, true, false, if◌then◌else◌, List, [], ◌∷◌, Option, None, Some, is_none, is_some, refl, sym, ap, subst, true≢false, ◌∙◌, eqb-true}
use Rattle.std.proofs.lemmas.Bool.{ltb-false, not-false}
use Rattle.std.specs.Option.{option_and_then}
use Rattle.ca_law_keys.proofs.Keys.ChangeLemmas.{StandsOver, at-region-slot, at-window-slot, grants-same, none-counted, none-granted, region-changed, stands-over, window-changed}
use Rattle.ca_law_keys.proofs.Keys.KeyFrame.{Ends}
use Rattle.ca_law_keys.proofs.Keys.SlotLemmas.{granted-agrees, key-slot-path, key-slot-refl, made-index, revoked-agrees, same-agrees, without_key}
use Rattle.ca_law_keys.specs.InForce.{AgreeOnGrants, grant_at, grant_over_regions, slot_at}
use Rattle.ca_keys.specs.Equal.{key_eq, slot_eq}
use Rattle.ca_keys.specs.Numbers.{index_of, key_at, region_index, window_index}
use Rattle.ca_keys.specs.declared.grant.Grant.{Grant}
use Rattle.ca_keys.specs.declared.key.Key.{Key}
use Rattle.ca_keys.specs.declared.names.DomainId.{DomainId}
use Rattle.ca_keys.specs.declared.names.QueueId.{QueueId}
use Rattle.ca_keys.specs.declared.names.Slot.{Slot}
use Rattle.ca_base.specs.Configuration.{Configuration}
use Rattle.ca_base.specs.Sight.{Invalidation}
use Rattle.ca_base.specs.objects.LocalRequest.{of_region, of_window, region_refusal, unnamed_refusal, window_refusal}
use Rattle.ca_base.specs.objects.Region.{Region, RegionState, NoRegion, Free, Registered, FastRegistered, after_region_invalidation, grant_in_state, grant_of_region, has_other_key, is_fast_registered, region_invalidation_refusals, state_after_invalidation, with_window_unbound}
use Rattle.ca_base.specs.objects.Slices.{names_region, names_window, slot_of_key}
use Rattle.ca_base.specs.objects.Window.{Binding, Window, grant_of_binding, key_of_window, window_invalidation_refusals, without_binding}
use Rattle.ca_keys.specs.Refusals.{AllFail}
use Rattle.ca_law_world.proofs.Sound.TurnLemmas.{all-fail}
use Rattle.ca_law_world.proofs.Windows.BindingLemmas.{AreSameGrants}
use Rattle.ca_law_world.proofs.Windows.WindowWorldLemmas.{unbound-grants}
use Rattle.ca_law_world.specs.Bindings.{IsBoundWorld}
use Rattle.ca_model.specs.Past.{KeySlot, key_slot, key_slot_eq, key_slot_of, region_key_slot, window_key_slot, with_at}
use Rattle.ca_model.specs.machine.Plan.{Update, ◌:=◌}
use Rattle.ca_model.specs.machine.Row.{region_under}
use Rattle.ca_model.specs.machine.Seen.{ending_changes, refusal_in}
use Rattle.ca_model.specs.machine.Sound.{IsSoundState, IsSoundWorld}
use Rattle.ca_model.specs.machine.World.{World, Region_of, Window_of}

small-slot : (k : KeySlot) → (slot_at k).slot < 0x8000
small-slot k = omega arith

key-path : (a b : Key) → key_eq a b ≡ true → a ≡ b
key-path a b same = λ i. record { 0 = eqb-true a.0 b.0 same i }

-- a region's state with a grant, and what it is of in a sound world
pub region-of : (c : Configuration) (s : Slot) (low : ℕ) (state : RegionState) (h : Grant) → IsSoundState c s low state → grant_in_state state ≡ Some h
    → (h.key ≡ key_at (region_index s) low) × (h.domain ≡ s.domain)
region-of c s low NoRegion h sound is = absurd (true≢false (sym (ap is_some is)))
region-of c s low (Free pages) h sound is = absurd (true≢false (sym (ap is_some is)))
region-of c s low (Registered g) h sound is = (sym (ap (of-key g) is) ∙ sound.key, sym (ap (of-domain g) is) ∙ sound.domain)
  where
    of-key : Grant → Option Grant → Key
    of-key g None = g.key
    of-key g (Some x) = x.key

    of-domain : Grant → Option Grant → DomainId
    of-domain g None = g.domain
    of-domain g (Some x) = x.domain
region-of c s low (FastRegistered pages g) h sound is = (sym (ap (of-key g) is) ∙ sound.key, sym (ap (of-domain g) is) ∙ sound.domain)
  where
    of-key : Grant → Option Grant → Key
    of-key g None = g.key
    of-key g (Some x) = x.key

    of-domain : Grant → Option Grant → DomainId
    of-domain g None = g.domain
    of-domain g (Some x) = x.domain

-- a region's key ends
pub region-ended : (c : Configuration) (w : World) (g : List Grant) (s : Slot) (x : Region) (h : Grant) → IsSoundWorld c w → IsBoundWorld w → AgreeOnGrants g w.region w.window → s.slot < 0x8000
    → grant_of_region (w.region s) ≡ Some h → (w.region s).bound ≡ 0 → grant_of_region x ≡ None
    → AgreeOnGrants (without_key s.domain.adapter h.key g) (with_at slot_eq w.region s x) w.window
region-ended c w g s x h sound bound agree small is unused gone = revoked-agrees g w.region (with_at slot_eq w.region s x) w.window w.window s.domain.adapter h.key h agree
    (ap (grant_at w.region w.window) place ∙ at-region-slot w.region w.window s small ∙ is) refl (ap (λ d. d.adapter) parts.1)
    (λ l. region-changed w.region w.window s x l small (λ t. none-counted w s t bound unused)
    ∙ ap (λ o. if key_slot_eq (region_key_slot s) l then o else grant_at w.region w.window l) gone
    ∙ ap (λ k. if key_slot_eq k l then None else grant_at w.region w.window l) (sym place))
  where
    parts : (h.key ≡ key_at (region_index s) (w.region s).low) × (h.domain ≡ s.domain)
    parts = region-of c s (w.region s).low (w.region s).state h (sound.things (Region_of s)) is

    place : key_slot s.domain.adapter h.key ≡ region_key_slot s
    place = λ i. record { adapter = s.domain.adapter; index = (ap index_of parts.0 ∙ made-index (region_index s) (w.region s).low) i }

-- a region comes to stand for a grant
pub region-granted : (w : World) (g : List Grant) (s : Slot) (x : Region) (h : Grant) → IsBoundWorld w → AgreeOnGrants g w.region w.window → s.slot < 0x8000
    → grant_of_region (w.region s) ≡ None → grant_of_region x ≡ Some h → key_slot_of h ≡ region_key_slot s → AgreeOnGrants (h ∷ g) (with_at slot_eq w.region s x) w.window
region-granted w g s x h bound agree small none is place = granted-agrees g w.region (with_at slot_eq w.region s x) w.window w.window h (region_key_slot s) agree place
    (at-region-slot w.region w.window s small ∙ none)
    (λ l. region-changed w.region w.window s x l small (λ t. none-granted w s t bound none)
    ∙ ap (λ o. if key_slot_eq (region_key_slot s) l then o else grant_at w.region w.window l) is)

-- a region that stands for no grant stands for none
pub region-kept : (w : World) (g : List Grant) (s : Slot) (x : Region) → AgreeOnGrants g w.region w.window → grant_of_region x ≡ grant_of_region (w.region s)
    → AgreeOnGrants g (with_at slot_eq w.region s x) w.window
region-kept w g s x agree same = same-agrees g w.region (with_at slot_eq w.region s x) w.window w.window agree (λ l. grants-same w.region (with_at slot_eq w.region s x) w.window l (unbound-grants w.region s x same))

-- the grants in force without that of a window, if it was bound
abbrev pub without_window : Slot → Window → Option Binding → List Grant → List Grant
without_window s x None g = g
without_window s x (Some b) g = without_key s.domain.adapter (key_of_window x) g

-- a window is bound no more
pub window-ended : (c : Configuration) (w : World) (g : List Grant) (s : Slot) (x : Window) (o : Option Binding) → IsSoundWorld c w → IsBoundWorld w → AgreeOnGrants g w.region w.window → s.slot < 0x8000
    → (w.window s).binding ≡ o → x.binding ≡ None → AgreeOnGrants (without_window s (w.window s) o g) w.region (with_at slot_eq w.window s x)
window-ended c w g s x None sound bound agree small is gone = same-agrees g w.region w.region w.window (with_at slot_eq w.window s x) agree (λ l. window-changed w.region w.window s x l small ∙ by l (key_slot_eq (window_key_slot s) l) refl)
  where
    by : (l : KeySlot) (b : Bool) → key_slot_eq (window_key_slot s) l ≡ b → (if b then grant_over_regions w.region x else grant_at w.region w.window l) ≡ grant_at w.region w.window l
    by l true e = ap (option_and_then _) gone ∙ sym (ap (grant_at w.region w.window) (sym (key-slot-path (window_key_slot s) l e)) ∙ at-window-slot w.region w.window s small ∙ ap (option_and_then _) is)
    by l false e = refl
window-ended c w g s x (Some b) sound bound agree small is gone = revoked-agrees g w.region w.region w.window (with_at slot_eq w.window s x) s.domain.adapter (key_of_window (w.window s))
    (grant_of_binding (w.window s) b over.region) agree (ap (grant_at w.region w.window) place ∙ at-window-slot w.region w.window s small ∙ over.stands) refl (ap (λ (t : Slot). t.domain.adapter) own)
    (λ l. window-changed w.region w.window s x l small
    ∙ ap (λ o. if key_slot_eq (window_key_slot s) l then o else grant_at w.region w.window l) (ap (option_and_then _) gone)
    ∙ ap (λ k. if key_slot_eq k l then None else grant_at w.region w.window l) (sym place))
  where
    over : StandsOver w s b
    over = stands-over w s b bound is

    own : (w.window s).slot ≡ s
    own = (sound.things (Window_of s)).0

    place : key_slot s.domain.adapter (key_of_window (w.window s)) ≡ window_key_slot s
    place = λ i. record { adapter = s.domain.adapter; index = (made-index (window_index (w.window s).slot) (w.window s).low ∙ ap window_index own) i }

-- a window that is bound no more is bound again
pub window-granted : (w : World) (g : List Grant) (s : Slot) (x y : Window) (h : Grant) (after : Slot → Region) → AgreeOnGrants g w.region (with_at slot_eq w.window s x) → s.slot < 0x8000
    → x.binding ≡ None → grant_over_regions w.region y ≡ Some h → key_slot_of h ≡ window_key_slot s → AreSameGrants w.region after
    → AgreeOnGrants (h ∷ g) after (with_at slot_eq w.window s y)
window-granted w g s x y h after agree small none is place same = granted-agrees g w.region after (with_at slot_eq w.window s x) (with_at slot_eq w.window s y) h (window_key_slot s) agree place
    (window-changed w.region w.window s x (window_key_slot s) small
    ∙ ap (λ b. if b then grant_over_regions w.region x else grant_at w.region w.window (window_key_slot s)) (key-slot-refl (window_key_slot s)) ∙ ap (option_and_then _) none)
    (λ l. grants-same w.region after (with_at slot_eq w.window s y) l same ∙ window-changed w.region w.window s y l small
    ∙ ap (λ o. if key_slot_eq (window_key_slot s) l then o else grant_at w.region w.window l) is
    ∙ by l (key_slot_eq (window_key_slot s) l) ∙ ap (λ o. if key_slot_eq (window_key_slot s) l then Some h else o) (sym (window-changed w.region w.window s x l small)))
  where
    by : (l : KeySlot) (b : Bool) → (if b then Some h else grant_at w.region w.window l)
        ≡ (if b then Some h else if b then grant_over_regions w.region x else grant_at w.region w.window l)
    by l true = refl
    by l false = refl

-- the key that an invalidation ends
region-none : (key : Key) (r : Region) → region_refusal key r ≡ None → (h : Grant) → grant_of_region r ≡ Some h → (h.key ≡ key) × (r.bound ≡ 0) × (grant_of_region (after_region_invalidation r) ≡ None)
region-none key r none h is = by (all-fail (of_region (region_invalidation_refusals key r)) none)
  where
    free : (s : RegionState) → is_fast_registered s ≡ true → grant_in_state (state_after_invalidation s) ≡ None
    free NoRegion e = absurd (true≢false (sym e))
    free (Free pages) e = absurd (true≢false (sym e))
    free (Registered g) e = absurd (true≢false (sym e))
    free (FastRegistered pages g) e = refl

    by : AllFail (of_region (region_invalidation_refusals key r)) → (h.key ≡ key) × (r.bound ≡ 0) × (grant_of_region (after_region_invalidation r) ≡ None)
    by fails = (
      key-path h.key key (not-false (key_eq h.key key) (sym (ap (has_other_key key) is) ∙ fails.1.0)),
      omega (arith, ltb-false 0 r.bound fails.1.1.1.0),
      free r.state (not-false (is_fast_registered r.state) fails.1.1.0),
    )

region-some : (key : Key) (r : Region) → region_refusal key r ≡ None → (h : Grant) × (grant_of_region r ≡ Some h)
region-some key r none = by (grant_of_region r) refl (all-fail (of_region (region_invalidation_refusals key r)) none).0
  where
    by : (o : Option Grant) → grant_of_region r ≡ o → is_none o ≡ false → (h : Grant) × (grant_of_region r ≡ Some h)
    by None is e = absurd (true≢false e)
    by (Some h) is e = (h, is)

window-none : (key : Key) (queue : QueueId) (x : Window) → window_refusal key queue x ≡ None → (is_none x.binding ≡ false) × (key_of_window x ≡ key)
window-none key queue x none = by (all-fail (of_window (window_invalidation_refusals key queue x)) none)
  where
    by : AllFail (of_window (window_invalidation_refusals key queue x)) → (is_none x.binding ≡ false) × (key_of_window x ≡ key)
    by fails = (fails.1.1.0, key-path (key_of_window x) key (not-false (key_eq (key_of_window x) key) fails.1.1.1.0))

pub key-ended : (c : Configuration) (w : World) (g : List Grant) (i : Invalidation) → IsSoundWorld c w → IsBoundWorld w → AgreeOnGrants g w.region w.window → i.domain.adapter ≡ i.queue.adapter
    → refusal_in c w i ≡ None → Ends w (ending_changes c w i) (without_key i.queue.adapter i.key g)
key-ended c w g i sound bound agree adapters none = by (names_region c i.domain i.key) refl (names_window c i.domain i.key) refl none
  where
    slot : Slot
    slot = slot_of_key i.domain i.key

    small : slot.slot < 0x8000
    small = small-slot (key_slot i.domain.adapter i.key)

    x : Window
    x = w.window slot

    changes : Option Binding → List Update
    changes None = []
    changes (Some b) =
        (Window_of slot := without_binding x)
        ∷ (Region_of (region_under x b) := with_window_unbound (w.region (region_under x b))) ∷ []

    region : region_refusal i.key (w.region slot) ≡ None → Ends w ((Region_of slot := after_region_invalidation (w.region slot)) ∷ []) (without_key i.queue.adapter i.key g)
    region e = at (region-some i.key (w.region slot) e)
      where
        at : (h : Grant) × (grant_of_region (w.region slot) ≡ Some h) → Ends w ((Region_of slot := after_region_invalidation (w.region slot)) ∷ []) (without_key i.queue.adapter i.key g)
        at found = record {
          keys = subst (λ a. AgreeOnGrants (without_key a i.key g) (with_at slot_eq w.region slot (after_region_invalidation (w.region slot))) w.window) adapters
              (subst (λ k. AgreeOnGrants (without_key i.domain.adapter k g) (with_at slot_eq w.region slot (after_region_invalidation (w.region slot))) w.window) (parts.0)
              (region-ended c w g slot (after_region_invalidation (w.region slot)) found.0 sound bound agree small found.1 parts.1 parts.2));
          bytes = refl;
        }
          where
            parts : (found.0.key ≡ i.key) × ((w.region slot).bound ≡ 0) × (grant_of_region (after_region_invalidation (w.region slot)) ≡ None)
            parts = region-none i.key (w.region slot) e found.0 found.1

    window : window_refusal i.key i.queue x ≡ None → (o : Option Binding) → x.binding ≡ o → Ends w (changes o) (without_key i.queue.adapter i.key g)
    window e None is = absurd (true≢false (sym (ap is_none is) ∙ (window-none i.key i.queue x e).0))
    window e (Some b) is = record {
      keys = same-agrees (without_key i.queue.adapter i.key g) w.region _ (with_at slot_eq w.window slot (without_binding x)) (with_at slot_eq w.window slot (without_binding x))
          (subst (λ a. AgreeOnGrants (without_key a i.key g) w.region (with_at slot_eq w.window slot (without_binding x))) adapters
          (subst (λ k. AgreeOnGrants (without_key i.domain.adapter k g) w.region (with_at slot_eq w.window slot (without_binding x))) (window-none i.key i.queue x e).1
          (window-ended c w g slot (without_binding x) (Some b) sound bound agree small is refl)))
          (λ l. grants-same w.region (with_at slot_eq w.region (region_under x b) (with_window_unbound (w.region (region_under x b)))) (with_at slot_eq w.window slot (without_binding x)) l
          (unbound-grants w.region (region_under x b) (with_window_unbound (w.region (region_under x b))) refl));
      bytes = refl;
    }

    by : (r : Bool) → names_region c i.domain i.key ≡ r → (y : Bool) → names_window c i.domain i.key ≡ y
        → (if r then region_refusal i.key (w.region slot) else if y then window_refusal i.key i.queue x else Some (unnamed_refusal i.key)) ≡ None
        → Ends w (if r then (Region_of slot := after_region_invalidation (w.region slot)) ∷ [] else if y then changes x.binding else []) (without_key i.queue.adapter i.key g)
    by true has y e none = region none
    by false has true e none = window none x.binding refl
    by false has false e none = absurd (true≢false (ap is_some none))
