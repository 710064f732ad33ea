-- Each grant in force has a place for each of its bytes, so an access that is allowed reaches all that it touches. For
-- proofs only.
use Rattle.std.proofs.Common.{◌≡◌, ℕ, ◌+◌, ◌-◌, ◌≤◌, ◌==◌, arith, nat_le, Bool, true, false, if◌then◌else◌, List, [], ◌∷◌, length, sum_by, Option, None, Some, IfSome, refl, sym, ap, subst, true≢false, is_some, ◌∙◌}
use Rattle.std.proofs.lemmas.Bool.{and_parts, eqb-true, leb-true, not-false}
use Rattle.std.proofs.lemmas.List.{length-map}
use Rattle.std.proofs.lemmas.List.Concat.{length-flat_map}
use Rattle.std.proofs.lemmas.List.FromFn.{length-map-range_with_len}
use Rattle.std.proofs.lemmas.List.Sums.{sum_by-cons}
use Rattle.std.specs.Option.{option_and_then, option_map_or}
use Rattle.ca_law_keys.specs.InForce.{AgreeOnGrants, grant_at, grant_over_regions, is_window_slot, slot_at}
use Rattle.ca_law_keys.proofs.Keys.SightLemmas.{over}
use Rattle.ca_grant.proofs.Slots.{grant-in-slot}
use Rattle.ca_grant.specs.KeySlot.{list_of_grant}
use Rattle.ca_keys.specs.Allowed.{covers, denial_of, denial_under, denials, fits, grant_for}
use Rattle.ca_keys.specs.Memory.{ByteMap, bytes_at, cut, places_count, places_of, run_places, runs_at, runs_for}
use Rattle.ca_keys.specs.declared.access.Ask.{Ask}
use Rattle.ca_keys.specs.declared.grant.Grant.{Grant}
use Rattle.ca_keys.specs.declared.names.Slot.{Slot}
use Rattle.ca_keys.specs.declared.place.Place.{Place}
use Rattle.ca_keys.specs.declared.place.Run.{Run}
use Rattle.ca_base.specs.Configuration.{Configuration}
use Rattle.ca_base.specs.objects.Region.{RegionState, NoRegion, Free, Registered, FastRegistered, grant_in_state, grant_of_region}
use Rattle.ca_base.specs.objects.Window.{Binding, Window, grant_of_binding}
use Rattle.ca_law_world.proofs.Sound.TurnLemmas.{all-fail}
use Rattle.ca_law_world.specs.Bindings.{IsBoundWorld, LiesIn}
use Rattle.ca_model.specs.Past.{KeySlot, key_slot}
use Rattle.ca_model.specs.machine.Row.{grant_over, region_under}
use Rattle.ca_model.specs.machine.Sound.{IsSoundState, IsSoundWorld}
use Rattle.ca_model.specs.machine.World.{Region_of, World}
use Rattle.ca_grant.proofs.of_ca_region.Cut.{cut-count}

-- a grant has a place for each of its bytes
abbrev pub IsWhole : Grant → Type 0
IsWhole g = places_count g.runs ≡ g.length

-- whichever of these grants an ask goes by is whole
abbrev pub AreWhole : List Grant → Type 0
AreWhole gs = (ask : Ask) (g : Grant) → grant_for ask gs ≡ Some g → IsWhole g

pub some-path : (g h : Grant) → Some g ≡ Some h → g ≡ h
some-path g h is = ap by is
  where
    by : Option Grant → Grant
    by None = g
    by (Some x) = x

-- what a region stands for
pub region-whole : (c : Configuration) (s : Slot) (low : ℕ) (state : RegionState) (h : Grant) → IsSoundState c s low state → grant_in_state state ≡ Some h → IsWhole h
region-whole c s low NoRegion h sound is = absurd (true≢false (sym (ap is_some is)))
region-whole c s low (Free pages) h sound is = absurd (true≢false (sym (ap is_some is)))
region-whole c s low (Registered g) h sound is = subst IsWhole (some-path g h is) sound.places
region-whole c s low (FastRegistered pages g) h sound is = subst IsWhole (some-path g h is) sound.places

-- a part of a whole grant is whole
pub part-whole : (g : Grant) (address count : ℕ) → IsWhole g → g.address ≤ address → address + count ≤ g.address + g.length → places_count (runs_at g address count) ≡ count
part-whole g address count whole low high = cut-count g.runs (address - g.address) count (omega (arith, whole, low, high))

-- what a key slot stands for, in a world that comes up
pub slot-whole : (c : Configuration) (w : World) (k : KeySlot) (h : Grant) → IsSoundWorld c w → IsBoundWorld w → grant_at w.region w.window k ≡ Some h → IsWhole h
slot-whole c w k h sound bound is = by (is_window_slot k) is
  where
    s : Slot
    s = slot_at k

    x : Window
    x = w.window s

    under : (b : Binding) (o : Option Grant) → grant_of_region (w.region (region_under x b)) ≡ o → over x b o ≡ Some h → LiesIn b o → IsWhole h
    under b None e is lies = absurd lies
    under b (Some g) e is lies = subst IsWhole (some-path (grant_of_binding x b g) h is)
        (part-whole g b.address b.length (region-whole c (region_under x b) (w.region (region_under x b)).low (w.region (region_under x b)).state g (sound.things (Region_of (region_under x b))) e) lies.0 lies.1)

    window : (o : Option Binding) → option_and_then (λ b. grant_over x b (w.region (region_under x b))) o ≡ Some h
        → IfSome o (λ b. LiesIn b (grant_of_region (w.region (region_under x b)))) → IsWhole h
    window None is lies = absurd (true≢false (sym (ap is_some is)))
    window (Some b) is lies = under b (grant_of_region (w.region (region_under x b))) refl is lies

    by : (b : Bool) → (if b then grant_over_regions w.region x else grant_of_region (w.region s)) ≡ Some h → IsWhole h
    by true is = window x.binding is (bound.inside s)
    by false is = region-whole c s (w.region s).low (w.region s).state h (sound.things (Region_of s)) is

-- every grant in force is whole
pub agreed-whole : (c : Configuration) (w : World) (gs : List Grant) → IsSoundWorld c w → IsBoundWorld w → AgreeOnGrants gs w.region w.window → AreWhole gs
agreed-whole c w gs sound bound agree ask h is = slot-whole c w k h sound bound (by (grant_at w.region w.window k)
    (sym (grant-in-slot ask gs agree.apart ∙ ap (λ o. grant_for ask (list_of_grant o)) (agree.same k)) ∙ is))
  where
    k : KeySlot
    k = key_slot ask.domain.adapter ask.key

    fit : (g : Grant) (b : Bool) → (if b then Some g else None) ≡ Some h → Some g ≡ Some h
    fit g true is = is
    fit g false is = absurd (true≢false (sym (ap is_some is)))

    by : (o : Option Grant) → grant_for ask (list_of_grant o) ≡ Some h → o ≡ Some h
    by None is = absurd (true≢false (sym (ap is_some is)))
    by (Some g) is = fit g (fits ask g) is

-- no bytes of runs are no runs
pub cut-none : (skip : ℕ) (rs : List Run) → cut skip 0 rs ≡ []
cut-none skip [] = refl
cut-none skip (r ∷ rs) = by (nat_le r.length skip) (cut-none (skip - r.length) rs)
  where
    by : (b : Bool) → cut (skip - r.length) 0 rs ≡ [] → (if b then cut (skip - r.length) 0 rs else []) ≡ []
    by true rest = rest
    by false rest = refl

-- an ask that is allowed reaches as many places as it touches
pub reached : (gs : List Grant) (ask : Ask) (touch : ℕ) → AreWhole gs → denial_of ask gs ≡ None → touch ≤ ask.length → places_count (runs_for ask gs touch) ≡ touch
reached gs ask touch whole allowed few = by (ask.length == 0) refl allowed
  where
    none : (o : Option Grant) → places_count (option_map_or (λ g. runs_at g ask.address 0) o []) ≡ 0
    none None = refl
    none (Some g) = ap places_count (cut-none (ask.address - g.address) g.runs)

    inside : (g : Grant) → covers g ask ≡ true → grant_for ask gs ≡ Some g → places_count (runs_at g ask.address touch) ≡ touch
    inside g all is = part-whole g ask.address touch (whole ask g is)
        (leb-true g.address ask.address (and_parts (nat_le g.address ask.address) (nat_le (ask.address + ask.length) (g.address + g.length)) all).0)
        (omega (
          arith,
          few,
          leb-true (ask.address + ask.length) (g.address + g.length)
              (and_parts (nat_le g.address ask.address) (nat_le (ask.address + ask.length) (g.address + g.length)) all).1,
        ))

    under : (o : Option Grant) → grant_for ask gs ≡ o → denial_under ask o ≡ None → places_count (option_map_or (λ g. runs_at g ask.address touch) o []) ≡ touch
    under None e denied = absurd (true≢false (ap is_some denied))
    under (Some g) e denied = inside g (not-false (covers g ask) (all-fail (denials ask g) denied).1.1.0) e

    by : (b : Bool) → (ask.length == 0) ≡ b → (if b then None else denial_under ask (grant_for ask gs)) ≡ None → places_count (runs_for ask gs touch) ≡ touch
    by true e denied = subst (λ n. places_count (runs_for ask gs n) ≡ n) (omega (arith, few, eqb-true ask.length 0 e)) (none (grant_for ask gs))
    by false e denied = under (grant_for ask gs) refl denied

-- as many bytes as places
pub bytes-count : (m : ByteMap) (rs : List Run) → length (bytes_at m rs) ≡ places_count rs
bytes-count m rs = length-map (places_of rs) m ∙ length-flat_map run_places rs ∙ by rs
  where
    by : (rs : List Run) → sum_by (λ r. length (run_places r)) rs ≡ sum_by (λ r. r.length) rs
    by [] = refl
    by (r ∷ rs) = sum_by-cons (λ (r : Run). length (run_places r)) r rs
        ∙ (λ i. length-map-range_with_len {X = Place} (λ at. record { adapter = r.adapter; buffer = r.buffer; offset = at }) r.offset r.length i + by rs i)
        ∙ sym (sum_by-cons (λ (r : Run). r.length) r rs)
