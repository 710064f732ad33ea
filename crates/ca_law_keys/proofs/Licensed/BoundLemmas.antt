-- A region in which the world counts no window has none bound in what marks tell. For proofs only.
use Rattle.std.proofs.Common.{◌≡◌, ◌<◌, ◌==◌, ◌&&◌, ◌||◌, Bool, true, false, not, if◌then◌else◌, List, [], ◌∷◌, Option, None, Some, IfSome, is_some, refl, sym, ap, ap₂, subst, ◌∙◌, true≢false}
use Rattle.std.proofs.lemmas.Bool.{eqb-true}
use Rattle.std.specs.List.{AllByRecursion, list_any}
use Rattle.std.specs.Option.{option_and_then, option_map_or}
use Rattle.ca_law_endings.specs.Agreement.{PathsAgree}
use Rattle.ca_law_keys.proofs.Keys.ChangeLemmas.{StandsOver, none-counted, region-small, stands-over}
use Rattle.ca_law_keys.proofs.Keys.EndLemmas.{region-of}
use Rattle.ca_law_keys.proofs.Keys.SlotLemmas.{at-region, key-slot-path, key-slot-refl, slot-at-region}
use Rattle.ca_law_keys.specs.InForce.{KeysAgree, grant_in_force, grant_over_regions, is_window_slot, slot_at}
use Rattle.ca_law_keys.proofs.Posts.GrantLemmas.{is-local}
use Rattle.ca_law_keys.specs.Posts.{PostsAgree}
use Rattle.ca_law_keys.specs.Ways.{WaysAgree}
use Rattle.ca_base.specs.Configuration.{Configuration}
use Rattle.ca_base.specs.objects.Region.{grant_of_region}
use Rattle.ca_base.specs.objects.Window.{Binding, Window}
use Rattle.ca_grant.specs.KeySlot.{HaveSlotsApart, is_at_slot_of}
use Rattle.ca_keys.specs.Equal.{key_eq, slot_eq}
use Rattle.ca_keys.specs.Numbers.{index_of, key_at, region_index}
use Rattle.ca_base.specs.objects.Slices.{has_slot}
use Rattle.ca_keys.specs.declared.grant.Grant.{Grant}
use Rattle.ca_keys.specs.declared.key.Key.{Key}
use Rattle.ca_keys.specs.declared.names.DomainId.{DomainId}
use Rattle.ca_keys.specs.declared.names.Slot.{Slot}
use Rattle.ca_law_parts.specs.Placed.{IsPlacedBinding, IsPlacedWorld}
use Rattle.ca_law_world.proofs.Sound.SettledLemmas.{slot-refl}
use Rattle.ca_law_world.specs.Steady.{IsSteadyWorld}
use Rattle.ca_law_world.specs.Bindings.{IsBoundWorld}
use Rattle.ca_model.specs.Licensed.{has_bound_window}
use Rattle.ca_model.specs.Past.{BindTo, KeySlot, Past, Way, key_slot_eq, key_slot_of, region_key_slot}
use Rattle.ca_model.specs.machine.Row.{grant_over, region_under}
use Rattle.ca_model.specs.machine.Sound.{AreLimited, IsSoundWorld}
use Rattle.ca_model.specs.machine.World.{Region_of, Window_of, World}

-- a world that comes up, and a past that agrees with it on keys, on ways and on posted requests
pub record IsAgreed (c : Configuration) (past : Past) (w : World) : Type 0 where
  pub limited : AreLimited c
  pub sound : IsSoundWorld c w
  pub steady : IsSteadyWorld w
  pub placed : IsPlacedWorld c w
  pub bound : IsBoundWorld w
  pub agree : KeysAgree past w
  pub paths : PathsAgree past w
  pub posts : PostsAgree past w
  pub ways : WaysAgree past w

pub slots-turned : (k l : KeySlot) → key_slot_eq k l ≡ false → key_slot_eq l k ≡ false
slots-turned k l other = by (key_slot_eq l k) refl
  where
    by : (b : Bool) → key_slot_eq l k ≡ b → b ≡ false
    by true e = absurd (true≢false (sym (subst (λ m. key_slot_eq m l ≡ true) (key-slot-path l k e) (key-slot-refl l)) ∙ other))
    by false e = refl

-- each grant is found in its own key slot
pub each-found : (gs : List Grant) → HaveSlotsApart gs → AllByRecursion (λ g. grant_in_force (key_slot_of g) gs ≡ Some g) gs
each-found [] apart = record {}
each-found (g ∷ gs) apart = (ap (λ b. if b then Some g else grant_in_force (key_slot_of g) gs) (key-slot-refl (key_slot_of g)), more gs apart.0 (each-found gs apart.1))
  where
    more : (hs : List Grant) → AllByRecursion (λ h. is_at_slot_of g.domain g.key h ≡ false) hs → AllByRecursion (λ h. grant_in_force (key_slot_of h) gs ≡ Some h) hs
        → AllByRecursion (λ h. grant_in_force (key_slot_of h) (g ∷ gs) ≡ Some h) hs
    more [] other all = record {}
    more (h ∷ hs) other all = (ap (λ b. if b then Some g else grant_in_force (key_slot_of h) gs) (slots-turned (key_slot_of h) (key_slot_of g) other.0) ∙ all.0, more hs other.1 all.1)

none-any : (test : Grant → Bool) (P : Grant → Type 0) (gs : List Grant) → AllByRecursion P gs → ((g : Grant) → P g → test g ≡ false) → list_any test gs ≡ false
none-any test P [] all fails = refl
none-any test P (g ∷ gs) all fails = ap₂ (λ a b. a || b) (fails g all.0) (none-any test P gs all.1 fails)

-- the key is that to which the way binds
abbrev pub is_bound_to : Key → Way → Bool
is_bound_to key (BindTo k) = key_eq k key
is_bound_to key way = false

all-three : (a b c d : Bool) → a ≡ d → (d ≡ false → b ≡ true → c ≡ true → true ≡ false) → (not a && b && c) ≡ false
all-three true b c d e not-all = refl
all-three false false c d e not-all = refl
all-three false true false d e not-all = refl
all-three false true true d e not-all = not-all (sym e) refl refl

pub none-bound : (c : Configuration) (past : Past) (w : World) (s : Slot) (h : Grant) → IsAgreed c past w → s.slot < 0x8000 → grant_of_region (w.region s) ≡ Some h → (w.region s).bound ≡ 0 → has_bound_window past h ≡ false
none-bound c past w s h up small is none = none-any (λ g. not g.local && (g.domain.adapter == h.domain.adapter) && is_bound_to h.key (past.way (key_slot_of g))) (λ g. grant_in_force (key_slot_of g) past.grants ≡ Some g) past.grants
    (each-found past.grants up.agree.keys.apart) (λ g found. by g (is_window_slot (key_slot_of g)) refl (sym (up.agree.keys.same (key_slot_of g)) ∙ found))
  where
    own : (h.key ≡ key_at (region_index s) (w.region s).low) × (h.domain ≡ s.domain)
    own = region-of c s (w.region s).low (w.region s).state h (up.sound.things (Region_of s)) is

    -- a window bound to this key is bound in this region
    bound : (g : Grant) (b : Binding) → is_window_slot (key_slot_of g) ≡ true → (w.window (slot_at (key_slot_of g))).binding ≡ Some b → (g.domain.adapter == h.domain.adapter) ≡ true
        → is_bound_to h.key (past.way (key_slot_of g)) ≡ true → true ≡ false
    bound g b kind binding adapters keys = sym (ap (λ o. option_map_or (λ b. slot_eq (region_under x b) s) o false) binding ∙ subst (λ t. slot_eq t s ≡ true) (sym same) (slot-refl s))
        ∙ none-counted w s (slot_at (key_slot_of g)) up.bound none
      where
        x : Window
        x = w.window (slot_at (key_slot_of g))

        at : Slot
        at = region_under x b

        over : StandsOver w (slot_at (key_slot_of g)) b
        over = stands-over w (slot_at (key_slot_of g)) b up.bound binding

        place : x.slot ≡ slot_at (key_slot_of g)
        place = (up.sound.things (Window_of (slot_at (key_slot_of g)))).0

        low : at.slot < 0x8000
        low = region-small c at up.limited (subst (λ t. has_slot c (λ a. a.regions) (record { domain = t.domain; slot = b.region }) ≡ true) (sym place)
            (subst (λ o. IfSome o (IsPlacedBinding c (slot_at (key_slot_of g)))) binding (up.placed.things (Window_of (slot_at (key_slot_of g))))).region)

        theirs : (over.region.key ≡ key_at (region_index at) (w.region at).low) × (over.region.domain ≡ at.domain)
        theirs = region-of c at (w.region at).low (w.region at).state over.region (up.sound.things (Region_of at)) over.is

        numbers : over.region.key.0 ≡ h.key.0
        numbers = eqb-true over.region.key.0 h.key.0 (sym (ap (is_bound_to h.key) (up.ways.bound (key_slot_of g) kind b binding over.region over.is)) ∙ keys)

        slots : region_key_slot at ≡ region_key_slot s
        slots = sym (at-region over.region at (w.region at).low theirs.0 theirs.1)
            ∙ (λ i. record {
              adapter = (ap (λ (d : DomainId). d.adapter) theirs.1 ∙ ap (λ (t : Slot). t.domain.adapter) place ∙ eqb-true g.domain.adapter h.domain.adapter adapters) i;
              index = index_of (record { 0 = numbers i });
            })
            ∙ at-region h s (w.region s).low own.0 own.1

        same : at ≡ s
        same = sym (slot-at-region at low) ∙ ap slot_at slots ∙ slot-at-region s small

    by : (g : Grant) (z : Bool) → is_window_slot (key_slot_of g) ≡ z
        → (if z then grant_over_regions w.region (w.window (slot_at (key_slot_of g))) else grant_of_region (w.region (slot_at (key_slot_of g)))) ≡ Some g
        → (not g.local && (g.domain.adapter == h.domain.adapter) && is_bound_to h.key (past.way (key_slot_of g))) ≡ false
    by g false kind found = all-three g.local _ _ true (is-local c (slot_at (key_slot_of g)) (w.region (slot_at (key_slot_of g))).low (w.region (slot_at (key_slot_of g))).state g (up.sound.things (Region_of (slot_at (key_slot_of g)))) found)
        (λ e. absurd (true≢false e))
    by g true kind found = at (w.window (slot_at (key_slot_of g))).binding refl found
      where
        at : (o : Option Binding) → (w.window (slot_at (key_slot_of g))).binding ≡ o → option_and_then (λ b. grant_over (w.window (slot_at (key_slot_of g))) b (w.region (region_under (w.window (slot_at (key_slot_of g))) b))) o ≡ Some g
            → (not g.local && (g.domain.adapter == h.domain.adapter) && is_bound_to h.key (past.way (key_slot_of g))) ≡ false
        at None e found = absurd (true≢false (sym (ap is_some found)))
        at (Some b) e found = all-three g.local _ _ g.local refl (λ foreign adapters keys. bound g b kind e adapters keys)
