-- Parts in hand of a world that comes up are as the calls of Reach ask for. For proofs only.
use Rattle.std.proofs.Common.{◌≡◌, ◌∙◌, ◌⊎◌, inl, inr, refl, sym, ap, subst, arith, ℕ, ◌+◌, ◌-◌, ◌<◌, ◌≤◌, ◌==◌, nat_le, min, Bool, true, false, if◌then◌else◌, List, [], ◌∷◌, ◌++◌, map, Option, None, Some, IfSome, IsSomeAnd, is_some, length}
use Rattle.std.proofs.lemmas.Bool.Decides.{nat_tests}
use Rattle.std.specs.List.{AllByRecursion}
use Rattle.std.specs.Option.{option_map_or}
use Rattle.ca_keys.specs.declared.access.Ask.{Ask}
use Rattle.ca_keys.specs.declared.grant.Grant.{Grant}
use Rattle.ca_keys.specs.declared.names.Slot.{Slot}
use Rattle.ca_keys.specs.declared.place.Place.{Place}
use Rattle.ca_keys.specs.declared.place.Run.{Run}
use Rattle.ca_keys.specs.Equal.{slot_eq}
use Rattle.ca_keys.specs.Memory.{cut, places_of, run_part, run_places, runs_at}
use Rattle.ca_keys.specs.Numbers.{is_window_key}
use Rattle.ca_base.specs.Configuration.{Configuration}
use Rattle.ca_base.specs.Sight.{Invalidation, runs_in}
use Rattle.ca_base.specs.objects.Region.{FastRegistered, Free, NoRegion, Region, RegionState, Registered, grant_in_state, grant_of_region, vacant_region}
use Rattle.ca_base.specs.objects.Slices.{has_slot, is_key_of, names_window, slot_of_key}
use Rattle.ca_base.specs.objects.Window.{Binding, Window, vacant_window}
use Rattle.ca_law_world.specs.Bindings.{IsBoundWorld, IsCounted, LiesIn}
use Rattle.ca_law_world.proofs.Windows.BindingLemmas.{counted-binding}
use Rattle.ca_model.specs.declared.part_name.PartName.TheVariants as names
use Rattle.ca_model.specs.machine.Frame.{AllPass}
use Rattle.ca_model.specs.machine.Held.{IsEndHeld}
use Rattle.ca_model.specs.machine.Parts.{ShowsHeld}
use Rattle.ca_model.specs.machine.Plan.{byte_names}
use Rattle.ca_model.specs.machine.Sound.{IsSoundState, IsSoundWorld}
use Rattle.ca_model.specs.machine.World.{Byte_at, Name, Region_of, Window_of, World}
use Rattle.ca_adapter_reach.specs.Shelved.{thing_under}
use Rattle.ca_adapter_reach.specs.AtHand.{AreRunsAtHand, CanEnd, FitTogether, HasBytesAtHand, IsCounting, IsRunAtHand, LiesInValid}
use Rattle.ca_adapter_reach.specs.Names.{buffer_eq, buffer_of_run}
use Rattle.ca_adapter_reach.specs.Seen.{or_vacant, region_in, sight_of, slot_under, window_in}
use Rattle.ca_adapter_parts.specs.declared.held.Held.{Held}
use Rattle.ca_adapter_parts.specs.HeldView.{holding, is_held_part}
use Rattle.ca_adapter_parts.proofs.ByteLemmas.{run_fits, run_has}
use Rattle.ca_adapter_reach_laws.specs.Ties.{IsVacantOutside}
use Rattle.ca_adapter_reach_laws.proofs.SightLemmas.{region-or, window-or}

-- the grant of a sound region is of its slot's domain
domain-of : (c : Configuration) (s : Slot) (low : ℕ) (st : RegionState) → IsSoundState c s low st → IfSome (grant_in_state st) (λ g. g.domain ≡ s.domain)
domain-of c s low NoRegion sound = tt
domain-of c s low (Free pages) sound = tt
domain-of c s low (Registered g) sound = sound.domain
domain-of c s low (FastRegistered pages g) sound = sound.domain

lies-valid : (b : Binding) (o : Option Grant) (n : ℕ) → LiesIn b o → 0 < n
    → IfSome o (λ g. ((g.address ≤ b.address) × (b.address + b.length ≤ g.address + g.length)) × (0 < n))
lies-valid b None n lies some = tt
lies-valid b (Some g) n lies some = (lies, some)

module _ (c : Configuration) (h : Held) (w : World) (sound : IsSoundWorld c w) (bound : IsBoundWorld w)
    (shows : ShowsHeld (holding h).parts (holding h).world w) where
  domain : (s : Slot) → (region_in h.reached s ≡ w.region s) ⊎ (region_in h.reached s ≡ vacant_region)
      → IfSome (grant_of_region (region_in h.reached s)) (λ g. g.domain ≡ s.domain)
  domain s (inl same) =
      let P : Region → Type 0 = λ r. IfSome (grant_of_region r) (λ g. g.domain ≡ s.domain) in
      subst P (sym same) (domain-of c s (w.region s).low (w.region s).state (sound.things (Region_of s)))
  domain s (inr vacant) =
      let P : Region → Type 0 = λ r. IfSome (grant_of_region r) (λ g. g.domain ≡ s.domain) in subst P (sym vacant) tt

  slot : (s : Slot) → (window_in h.reached s ≡ w.window s) ⊎ (window_in h.reached s ≡ vacant_window s) → (window_in h.reached s).slot ≡ s
  slot s (inl same) = ap (λ x. x.slot) same ∙ (sound.things (Window_of s)).0
  slot s (inr vacant) = ap (λ x. x.slot) vacant

  lies : (s : Slot) (x : Window) → (x ≡ w.window s) → IfSome x.binding (λ b. LiesInValid b (region_in h.reached (slot_under x b)))
  lies s x same = by x.binding refl
    where
      by : (o : Option Binding) → x.binding ≡ o → IfSome o (λ b. LiesInValid b (region_in h.reached (slot_under x b)))
      by None e = tt
      by (Some b) e = each (region-or h w shows (slot_under x b))
        where
          counted : IsCounted (w.window s) b w.region w.queue
          counted = counted-binding w.window w.region w.queue s b bound (ap (λ x. x.binding) (sym same) ∙ e)

          each : (region_in h.reached (slot_under x b) ≡ w.region (slot_under x b)) ⊎ (region_in h.reached (slot_under x b) ≡ vacant_region)
              → LiesInValid b (region_in h.reached (slot_under x b))
          each (inl is) =
              let P : Window → Type 0 = λ x. LiesInValid b (w.region (slot_under x b)) in
              subst (LiesInValid b) (sym is)
              (subst P (sym same) (lies-valid b (grant_of_region (w.region (slot_under (w.window s) b))) (w.region (slot_under (w.window s) b)).bound counted.inside counted.by_region))
          each (inr vacant) = subst (LiesInValid b) (sym vacant) tt

  lies-or : (s : Slot) → (window_in h.reached s ≡ w.window s) ⊎ (window_in h.reached s ≡ vacant_window s)
      → IfSome (window_in h.reached s).binding (λ b. LiesInValid b (region_in h.reached (slot_under (window_in h.reached s) b)))
  lies-or s (inl same) = lies s (window_in h.reached s) same
  lies-or s (inr vacant) =
      let P : Window → Type 0 = λ x. IfSome x.binding (λ b. LiesInValid b (region_in h.reached (slot_under x b))) in subst P (sym vacant) tt

  -- parts in hand of a sound world fit each other
  pub parts-fit : FitTogether (region_in h.reached) (window_in h.reached)
  parts-fit = record {
    domains = λ s. domain s (region-or h w shows s);
    slots = λ s. slot s (window-or h w shows s);
    bound = λ s. lies-or s (window-or h w shows s);
  }

-- what is cut has runs of some bytes
cut-some : (rs : List Run) (skip count : ℕ) → AllByRecursion (λ r. 0 < r.length) (cut skip count rs)
cut-some [] skip count = tt
cut-some (r ∷ rs) skip count =
    by (nat_le r.length skip) refl (count == 0) refl (cut-some rs (skip - r.length) count) (cut-some rs 0 (count - (r.length - skip)))
  where
    by : (b : Bool) → nat_le r.length skip ≡ b → (z : Bool) → (count == 0) ≡ z
        → AllByRecursion (λ (r : Run). 0 < r.length) (cut (skip - r.length) count rs)
        → AllByRecursion (λ (r : Run). 0 < r.length) (cut 0 (count - (r.length - skip)) rs)
        → AllByRecursion (λ (r : Run). 0 < r.length) (if b then cut (skip - r.length) count rs else if z then [] else run_part r skip (min count (r.length - skip)) ∷ cut 0 (count - (r.length - skip)) rs)
    by true e z f later here = later
    by false e true f later here = tt
    by false e false f later here = (grind (arith, nat_tests), here)

runs-some : (ask : Ask) (o : Option Grant) → AllByRecursion (λ (r : Run). 0 < r.length) (option_map_or (λ g. runs_at g ask.address ask.touch) o [])
runs-some ask None = tt
runs-some ask (Some g) = cut-some g.runs (ask.address - g.address) ask.touch

-- all of the places of runs, and those of the first
first-pass : (test : Name → Bool) (xs ys : List Place) → AllPass test (map Byte_at (xs ++ ys)) → AllPass test (map Byte_at (xs ++ []))
first-pass test [] ys all = tt
first-pass test (x ∷ xs) ys all = (all.0, first-pass test xs ys all.1)

rest-pass : (test : Name → Bool) (xs ys : List Place) → AllPass test (map Byte_at (xs ++ ys)) → AllPass test (map Byte_at ys)
rest-pass test [] ys all = all
rest-pass test (x ∷ xs) ys all = rest-pass test xs ys all.1

run-at-hand : (h : Held) (x : Run) → 0 < x.length → AllPass (holding h).has (byte_names (x ∷ [])) → IsRunAtHand h.reached.buffers.things x
run-at-hand h x some all = by (thing_under buffer_eq (buffer_of_run x) h.reached.buffers.things) refl (run_has h x some all)
  where
    by : (o : Option (List ℕ)) → o ≡ thing_under buffer_eq (buffer_of_run x) h.reached.buffers.things → is_some (thing_under buffer_eq (buffer_of_run x) h.reached.buffers.things) ≡ true
        → IsSomeAnd o (λ bytes. x.offset + x.length ≤ length bytes)
    by None e has = let no : false ≡ true = ap is_some e ∙ has in cc
    by (Some bytes) e has = run_fits h x bytes some all e

pub runs-at-hand : (h : Held) (rs : List Run) → AllByRecursion (λ r. 0 < r.length) rs → AllPass (holding h).has (byte_names rs) → AreRunsAtHand h.reached.buffers.things rs
runs-at-hand h [] some all = tt
runs-at-hand h (x ∷ xs) some all = (
  run-at-hand h x some.0 (first-pass (holding h).has (run_places x) (places_of xs) all),
  runs-at-hand h xs some.1 (rest-pass (holding h).has (run_places x) (places_of xs) all),
)

-- where all bytes are held that an ask touches, they are at hand
pub bytes-at-hand : (h : Held) (ask : Ask) → AllPass (holding h).has (byte_names (runs_in (sight_of h.reached) ask)) → HasBytesAtHand h.reached ask
bytes-at-hand h ask all = runs-at-hand h (runs_in (sight_of h.reached) ask) (runs-some ask ((sight_of h.reached).grant ask)) all

counting-of : (o : Option Region) → is_some o ≡ true → 0 < (or_vacant vacant_region o).bound → IsSomeAnd o (λ region. 0 < region.bound)
counting-of None has some = cc
counting-of (Some region) has some = some

-- where the parts of a key that ends are held, they are at hand
pub ends-at-hand : (c : Configuration) (h : Held) (w : World) (i : Invalidation) → IsSoundWorld c w → IsBoundWorld w → IsVacantOutside c w
    → ShowsHeld (holding h).parts (holding h).world w → IsEndHeld c (holding h).parts (holding h).world i → CanEnd h.reached i
unfolding holding
ends-at-hand c h w i sound bound out shows end = record { fit = parts-fit c h w sound bound shows; under = λ d k. under d k (has_slot c (λ a. a.windows) s) refl }
  where
    s : Slot
    s = slot_of_key i.domain i.key

    x : Window
    x = window_in h.reached s

    counts : (o : Option Binding) → x.binding ≡ o → x ≡ w.window s → IfSome o (λ b. is_held_part h (names.Region (slot_under x b)) ≡ true)
        → IfSome o (λ b. IsCounting h.reached (slot_under x b))
    counts None e same held = tt
    counts (Some b) e same held =
        let counted : IsCounted (w.window s) b w.region w.queue = counted-binding w.window w.region w.queue s b bound (ap (λ x. x.binding) (sym same) ∙ e) in
        let P : Region → Type 0 = λ r. 0 < r.bound in
        let Q : Window → Type 0 = λ x. 0 < (w.region (slot_under x b)).bound in
        counting-of (thing_under slot_eq (slot_under x b) h.reached.regions.things) held
        (subst P (sym (shows (Region_of (slot_under x b)) held)) (subst Q (sym same) counted.by_region))

    under : is_key_of i.domain i.key ≡ true → is_window_key i.key ≡ true → (hs : Bool) → has_slot c (λ a. a.windows) s ≡ hs
        → IfSome x.binding (λ b. IsCounting h.reached (slot_under x b))
    under d k true e =
        let names : names_window c i.domain i.key ≡ true = rw (k, d, e) refl in
        counts x.binding refl (shows (Window_of s) (end.window names)) (end.under names)
    under d k false e = vacant (window-or h w shows s)
      where
        P : Window → Type 0
        P x = IfSome x.binding (λ b. IsCounting h.reached (slot_under x b))

        vacant : (x ≡ w.window s) ⊎ (x ≡ vacant_window s) → IfSome x.binding (λ b. IsCounting h.reached (slot_under x b))
        vacant (inl same) = subst P (sym (same ∙ out.windows s e)) tt
        vacant (inr is) = subst P (sym is) tt
