-- The grant that an ask goes by in a world is the one that it goes by among the grants in force. For proofs only.
use Rattle.std.proofs.Common.{◌≡◌, ℕ, Bool, true, false, ◌&&◌, ◌||◌, not, ◌==◌, if◌then◌else◌, List, [], ◌∷◌, Option, None, Some, IfSome, refl, sym, ap, ◌∙◌}
use Rattle.std.specs.Option.{option_and_then}
use Rattle.ca_law_keys.specs.InForce.{AgreeOnGrants, grant_over_regions}
use Rattle.ca_grant.proofs.Slots.{grant-in-slot}
use Rattle.ca_grant.specs.KeySlot.{list_of_grant}
use Rattle.ca_keys.specs.Allowed.{grant_for}
use Rattle.ca_keys.specs.Equal.{domain_eq, key_eq}
use Rattle.ca_keys.specs.Memory.{ByteMap, memory_after}
use Rattle.ca_keys.specs.Numbers.{is_window_key}
use Rattle.ca_keys.specs.declared.access.Ask.{Ask}
use Rattle.ca_keys.specs.declared.grant.Grant.{Grant}
use Rattle.ca_keys.specs.declared.names.Slot.{Slot}
use Rattle.ca_base.specs.Configuration.{Configuration}
use Rattle.ca_base.specs.Sight.{runs_by_grant}
use Rattle.ca_base.specs.objects.Region.{Region, RegionState, NoRegion, Free, Registered, FastRegistered, grant_in_state, grant_of_region}
use Rattle.ca_base.specs.objects.Slices.{has_slot, is_key_of, slot_of_key}
use Rattle.ca_base.specs.objects.Window.{Binding, Window, grant_of_binding}
use Rattle.ca_law_parts.specs.Placed.{IsPlacedWorld}
use Rattle.ca_model.specs.Past.{key_slot}
use Rattle.ca_model.specs.machine.Plan.{Write}
use Rattle.ca_model.specs.machine.Row.{grant_if_fitting, grant_over, region_under}
use Rattle.ca_model.specs.machine.Seen.{grant_in, sight_in, writes_in}
use Rattle.ca_model.specs.machine.Sound.{IsSoundState, IsSoundWorld}
use Rattle.ca_model.specs.machine.World.{Region_of, Window_of, World}

dead : (u v x : Bool) → ((u && (v && false)) && x) ≡ false
dead true true x = refl
dead true false x = refl
dead false v x = refl

end-dead : (u : Bool) → (u && false) ≡ false
end-dead true = refl
end-dead false = refl

-- a grant of another domain does not fit
foreign : (ask : Ask) (g : Grant) → g.domain ≡ (slot_of_key ask.domain ask.key).domain → is_key_of ask.domain ask.key ≡ false → grant_for ask (g ∷ []) ≡ None
foreign ask g domain other = ap (λ b. if b then Some g else None)
    (ap (λ d. (key_eq g.key ask.key && domain_eq d ask.domain) && (not ask.local || g.local)) domain
    ∙ ap (λ b. (key_eq g.key ask.key && ((ask.domain.adapter == ask.domain.adapter) && b)) && (not ask.local || g.local)) other
    ∙ dead (key_eq g.key ask.key) (ask.domain.adapter == ask.domain.adapter) (not ask.local || g.local))

-- a grant that is not local does not fit an ask by an L_Key
remote-alone : (ask : Ask) (g : Grant) → g.local ≡ false → ask.local ≡ true → grant_for ask (g ∷ []) ≡ None
remote-alone ask g remote local = ap (λ b. if b then Some g else None)
    (ap (λ b. (key_eq g.key ask.key && domain_eq g.domain ask.domain) && (not ask.local || b)) remote
    ∙ ap (λ b. (key_eq g.key ask.key && domain_eq g.domain ask.domain) && (not b || false)) local
    ∙ end-dead (key_eq g.key ask.key && domain_eq g.domain ask.domain))

fitting : (ask : Ask) (o : Option Grant) → grant_if_fitting ask o ≡ grant_for ask (list_of_grant o)
fitting ask None = refl
fitting ask (Some g) = refl

-- the domain of a region's grant is that of its slot
region-domain : (c : Configuration) (s : Slot) (low : ℕ) (state : RegionState) → IsSoundState c s low state → IfSome (grant_in_state state) (λ g. g.domain ≡ s.domain)
region-domain c s low NoRegion sound = record {}
region-domain c s low (Free pages) sound = record {}
region-domain c s low (Registered g) sound = sound.domain
region-domain c s low (FastRegistered pages g) sound = sound.domain

-- a grant of a window, over any region
abbrev pub over : Window → Binding → Option Grant → Option Grant
over w b None = None
over w b (Some g) = Some (grant_of_binding w b g)

-- the grant of the world is that of the past
pub grant-seen : (c : Configuration) (w : World) (gs : List Grant) (ask : Ask) → IsSoundWorld c w → IsPlacedWorld c w → AgreeOnGrants gs w.region w.window → grant_in c w ask ≡ grant_for ask gs
grant-seen c w gs ask sound placed agree =
    by (is_window_key ask.key) (is_key_of ask.domain ask.key) refl (has_slot c (λ a. a.regions) slot) refl (has_slot c (λ a. a.windows) slot) refl ask.local refl
    ∙ sym (grant-in-slot ask gs agree.apart ∙ ap (λ o. grant_for ask (list_of_grant o)) (agree.same (key_slot ask.domain.adapter ask.key)))
  where
    slot : Slot
    slot = slot_of_key ask.domain ask.key

    bound : Window → Option Binding → Option Grant
    bound x None = None
    bound x (Some b) = grant_if_fitting ask (grant_over x b (w.region (region_under x b)))

    seen : Bool → Bool → Bool → Bool → Bool → Option Grant
    seen wk ko hr hw local =
        if (not wk && ko) && hr then grant_if_fitting ask (grant_of_region (w.region slot))
        else if (if local then false else ((wk && ko) && hw)) then bound (w.window slot) (w.window slot).binding
        else None

    there : Bool → Option Grant
    there wk = if wk then grant_over_regions w.region (w.window slot) else grant_of_region (w.region slot)

    quiet : (local : Bool) → None ≡ (if (if local then false else false) then bound (w.window slot) (w.window slot).binding else None)
    quiet true = refl
    quiet false = refl

    foreign-region : (o : Option Grant) → IfSome o (λ g. g.domain ≡ slot.domain) → is_key_of ask.domain ask.key ≡ false → grant_for ask (list_of_grant o) ≡ None
    foreign-region None is other = refl
    foreign-region (Some g) is other = foreign ask g is other

    foreign-window : (o : Option Binding) → is_key_of ask.domain ask.key ≡ false
        → grant_for ask (list_of_grant (option_and_then (λ b. grant_over (w.window slot) b (w.region (region_under (w.window slot) b))) o)) ≡ None
    foreign-window None other = refl
    foreign-window (Some b) other = at (grant_of_region (w.region (region_under (w.window slot) b)))
      where
        at : (o : Option Grant) → grant_for ask (list_of_grant (over (w.window slot) b o)) ≡ None
        at None = refl
        at (Some g) = foreign ask (grant_of_binding (w.window slot) b g) (ap (λ (s : Slot). s.domain) (sound.things (Window_of slot)).0) other

    local-window : (o : Option Binding) → ask.local ≡ true
        → grant_for ask (list_of_grant (option_and_then (λ b. grant_over (w.window slot) b (w.region (region_under (w.window slot) b))) o)) ≡ None
    local-window None local = refl
    local-window (Some b) local = at (grant_of_region (w.region (region_under (w.window slot) b)))
      where
        at : (o : Option Grant) → grant_for ask (list_of_grant (over (w.window slot) b o)) ≡ None
        at None = refl
        at (Some g) = remote-alone ask (grant_of_binding (w.window slot) b g) refl local

    bound-window : (o : Option Binding) → bound (w.window slot) o
        ≡ grant_for ask (list_of_grant (option_and_then (λ b. grant_over (w.window slot) b (w.region (region_under (w.window slot) b))) o))
    bound-window None = refl
    bound-window (Some b) = fitting ask (grant_over (w.window slot) b (w.region (region_under (w.window slot) b)))

    by : (wk ko : Bool) → is_key_of ask.domain ask.key ≡ ko → (hr : Bool) → has_slot c (λ a. a.regions) slot ≡ hr → (hw : Bool) → has_slot c (λ a. a.windows) slot ≡ hw
        → (local : Bool) → ask.local ≡ local → seen wk ko hr hw local ≡ grant_for ask (list_of_grant (there wk))
    by false true key true r hw h local l = fitting ask (grant_of_region (w.region slot))
    by false true key false r hw h local l = sym (quiet local) ∙ sym (ap (λ (x : Region). grant_for ask (list_of_grant (grant_of_region x))) (placed.vacant (Region_of slot) r))
    by false false key hr r hw h local l = sym (quiet local)
        ∙ sym (foreign-region (grant_of_region (w.region slot)) (region-domain c slot (w.region slot).low (w.region slot).state (sound.things (Region_of slot))) key)
    by true ko key hr r hw h true l = sym (local-window (w.window slot).binding l)
    by true true key hr r true h false l = bound-window (w.window slot).binding
    by true true key hr r false h false l =
        sym (ap (λ (x : Window). grant_for ask (list_of_grant (grant_over_regions w.region x))) (placed.vacant (Window_of slot) h))
    by true false key hr r hw h false l = sym (foreign-window (w.window slot).binding key)

-- memory after writes, in order
abbrev pub after_writes : List Write → ByteMap → ByteMap
after_writes [] m = m
after_writes (x ∷ xs) m = after_writes xs (memory_after m x.runs x.bytes)

-- memory after bytes were written by asks that go by grants in force
abbrev pub after_asked : List Grant → List (Ask × List ℕ) → ByteMap → ByteMap
after_asked gs [] m = m
after_asked gs (x ∷ xs) m = after_asked gs xs (memory_after m (runs_by_grant x.0 (grant_for x.0 gs)) x.1)

pub writes-asked : (c : Configuration) (w : World) (gs : List Grant) (xs : List (Ask × List ℕ)) (m : ByteMap) → IsSoundWorld c w → IsPlacedWorld c w → AgreeOnGrants gs w.region w.window
    → after_writes (writes_in (sight_in c w) xs) m ≡ after_asked gs xs m
writes-asked c w gs [] m sound placed agree = refl
writes-asked c w gs (x ∷ xs) m sound placed agree = ap (λ o. after_writes (writes_in (sight_in c w) xs) (memory_after m (runs_by_grant x.0 o) x.1)) (grant-seen c w gs x.0 sound placed agree)
    ∙ writes-asked c w gs xs (memory_after m (runs_by_grant x.0 (grant_for x.0 gs)) x.1) sound placed agree
