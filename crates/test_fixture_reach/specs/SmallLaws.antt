-- That what a small reach holds is as its asks need it. For proofs only: it may be skipped.
use Rattle.std.proofs.Common.{◌≡◌, ℕ, ◌+◌, ◌-◌, ◌≤◌, ◌==◌, nat_le, min, Bool, true, false, if◌then◌else◌, List, [], ◌∷◌, length, take, drop, Option, None, Some, refl, sym, ap, ◌∙◌, subst, arith, length-append}
use Rattle.std.proofs.lemmas.Bool.Decides.{nat_tests}
use Rattle.std.proofs.lemmas.List.{length-map, length-take, length-take-le, length-drop}
use Rattle.std.proofs.lemmas.List.FromFn.{length-range_with_len}
use Rattle.std.proofs.lemmas.List.Sums.{sum_by-cons}
use Rattle.std.specs.Option.{option_map, option_map_or, option_and_then}
use Rattle.ca_keys.specs.declared.access.Ask.{Ask}
use Rattle.ca_keys.specs.declared.grant.Grant.{Grant}
use Rattle.ca_keys.specs.declared.key.Key.{Key}
use Rattle.ca_keys.specs.declared.names.QueueId.{QueueId}
use Rattle.ca_keys.specs.declared.place.Run.{Run}
use Rattle.ca_keys.specs.Allowed.{fits, grant_for}
use Rattle.ca_keys.specs.Memory.{ByteMap, bytes_at, cut, places_count, places_of, run_part, runs_at, runs_for}
use Rattle.ca_keys.specs.Equal.{key_eq}
use Rattle.ca_base.specs.Sight.{Invalidation, bytes_in, runs_in}
use Rattle.ca_base.specs.objects.LocalRequest.{region_refusal, window_refusal}
use Rattle.ca_base.specs.objects.Region.{Region, RegionState, NoRegion, Free, Registered, FastRegistered, grant_in_state, grant_of_region, state_after_invalidation}
use Rattle.ca_keys.specs.Numbers.{is_window_key}
use Rattle.ca_base.specs.objects.Window.{Window, Binding, grant_of_binding, key_of_window}
use Rattle.ca_grant.proofs.Places.{cut-fits, cut-of-buffer, runs-written, same-bytes}
use Rattle.ca_grant.specs.Access.{FitInBytes, AreOfBuffer, buffer_after}
use Rattle.ca_grant.specs.KeySlot.{list_of_grant}
use Rattle.ca_grant.specs.Parts.{grant_of_bound}
use Rattle.ca_grant.specs.Reaching.{grants_without, is_by_key, sight_after_write}
use Rattle.ca_memory.specs.Buffer.{memory_of, bytes_after}
use Rattle.test_fixture_reach.specs.SmallReach.{after_end_of, after_write_by, sight_of, FitTogether, IsInBuffer, IsAskHere, IsCounted, IsEndHere}
use Rattle.test_fixture_reach.specs.declared.small_reach.SmallReach.{SmallReach}

-- runs of a buffer that has so many bytes
abbrev LieHere : SmallReach → List Run → Type 0
LieHere s runs = FitInBytes (length s.buffer) runs × AreOfBuffer s.slot.domain.adapter s.number runs

cut-here : (s : SmallReach) (rs : List Run) (from count : ℕ) → LieHere s rs → LieHere s (cut from count rs)
cut-here s rs from count h =
    (cut-fits rs (length s.buffer) from count h.0, cut-of-buffer rs s.slot.domain.adapter s.number from count h.1)

-- the places of an ask lie here where those of the one grant do
one-here : (s : SmallReach) (ask : Ask) (o : Option Grant) → ((g : Grant) → o ≡ Some g → LieHere s g.runs)
    → LieHere s (runs_for ask (list_of_grant o) ask.touch)
one-here s ask None h = (tt, tt)
one-here s ask (Some g) h = by (fits ask g)
  where
    by : (b : Bool) → LieHere s (option_map_or (λ g. runs_at g ask.address ask.touch) (if b then Some g else None) [])
    by true = cut-here s g.runs (ask.address - g.address) ask.touch (h g refl)
    by false = (tt, tt)

region-here : (s : SmallReach) (o : Option Grant) → IsInBuffer s o → (g : Grant) → o ≡ Some g → LieHere s g.runs
region-here s None h g e = cc
region-here s (Some x) h g e = let same : x ≡ g = cc in let P : Grant → Type 0 = λ g. LieHere s g.runs in subst P same (h.1, h.2)

window-here : (s : SmallReach) (w : Window) (b : Option Binding) (o : Option Grant) → IsInBuffer s o
    → (g : Grant) → option_and_then (λ b. option_map (grant_of_binding w b) o) b ≡ Some g → LieHere s g.runs
window-here s w None o h g e = cc
window-here s w (Some b) None h g e = cc
window-here s w (Some b) (Some x) h g e =
    let same : grant_of_binding w b x ≡ g = cc in
    let P : Grant → Type 0 = λ g. LieHere s g.runs in
    subst P same (cut-here s x.runs (b.address - x.address) b.length (h.1, h.2))

-- the places of an ask lie in the buffer
places-within : (s : SmallReach) (ask : Ask) → IsInBuffer s (grant_of_region s.region) → LieHere s (runs_in (sight_of s) ask)
places-within s ask h = by (is_window_key ask.key) refl
  where
    by : (b : Bool) → is_window_key ask.key ≡ b → LieHere s (runs_in (sight_of s) ask)
    by true e = rw e (one-here s ask (grant_of_bound s.window (grant_of_region s.region))
        (window-here s s.window s.window.binding (grant_of_region s.region) h))
    by false e = rw e (one-here s ask (grant_of_region s.region) (region-here s (grant_of_region s.region) h))

pub places-here : (s : SmallReach) (ask : Ask) → IsAskHere s ask
    → FitInBytes (length s.buffer) (runs_in (sight_of s) ask) × AreOfBuffer s.slot.domain.adapter s.number (runs_in (sight_of s) ask)
places-here s ask h = places-within s ask h.parts.region

-- bytes that are written to runs of a buffer leave it as long as it was
written-length : (rs : List Run) (written bytes : List ℕ) → FitInBytes (length bytes) rs → length (buffer_after rs written bytes) ≡ length bytes
written-length [] written bytes fit = refl
written-length (r ∷ rs) written bytes fit =
    let few : length (take r.length written) ≤ r.length = omega (arith, length-take r.length written) in
    let before : length (take r.offset bytes) ≡ r.offset = length-take-le r.offset bytes (omega (arith, fit.0)) in
    let same : length (bytes_after r.offset (take r.length written) bytes) ≡ length bytes = simp (length-append, length-drop) (omega (arith, fit.0)) in
    let fits : FitInBytes (length (bytes_after r.offset (take r.length written) bytes)) rs = rw same fit.1 in
    written-length rs (drop r.length written) (bytes_after r.offset (take r.length written) bytes) fits ∙ same

-- a region's grant lies in a buffer of the same length
in-longer : (s : SmallReach) (bytes : List ℕ) (o : Option Grant) → length bytes ≡ length s.buffer → IsInBuffer s o → IsInBuffer (record s { buffer = bytes }) o
in-longer s bytes None same h = h
in-longer s bytes (Some g) same h = (h.0, rw same h.1, h.2)

-- a write leaves the parts fitting each other
pub small-keeps : (s : SmallReach) (ask : Ask) (bytes : List ℕ) → FitTogether s → FitTogether (after_write_by s ask bytes)
small-keeps s ask bytes fit = record {
  window = fit.window;
  region = in-longer s (buffer_after (runs_in (sight_of s) ask) bytes s.buffer) (grant_of_region s.region)
      (written-length (runs_in (sight_of s) ask) bytes s.buffer (places-within s ask fit.region).0) fit.region;
  lies = fit.lies;
  counted = fit.counted;
}

-- what is cut has at most so many places
cut-at-most : (rs : List Run) (from count : ℕ) → places_count (cut from count rs) ≤ count
cut-at-most [] from count = omega arith
cut-at-most (r ∷ rs) from count =
    by (nat_le r.length from) (count == 0) (cut-at-most rs (from - r.length) count) (cut-at-most rs 0 (count - (r.length - from)))
  where
    by : (b z : Bool) → places_count (cut (from - r.length) count rs) ≤ count
        → places_count (cut 0 (count - (r.length - from)) rs) ≤ count - (r.length - from)
        → places_count (if b then cut (from - r.length) count rs else if z then [] else run_part r from (min count (r.length - from)) ∷ cut 0 (count - (r.length - from)) rs) ≤ count
    by true z later here = later
    by false true later here = omega arith
    by false false later here =
        omega (arith, sum_by-cons (λ (r : Run). r.length) (run_part r from (min count (r.length - from))) (cut 0 (count - (r.length - from)) rs), here)

-- an ask has at most as many places as bytes that it touches
places-at-most : (ask : Ask) (o : Option Grant) → places_count (option_map_or (λ g. runs_at g ask.address ask.touch) o []) ≤ ask.touch
places-at-most ask None = omega arith
places-at-most ask (Some g) = cut-at-most g.runs (ask.address - g.address) ask.touch

-- what is seen after a write is what memory is after it
pub small_write : (s : SmallReach) (ask : Ask) (bytes : List ℕ) → IsAskHere s ask → length bytes ≡ ask.touch
    → sight_of (after_write_by s ask bytes) ≡ sight_after_write (sight_of s) ask bytes
small_write s ask bytes here count =
    let places = places-here s ask here in
    let few : places_count (runs_in (sight_of s) ask) ≤ length bytes = omega (arith, places-at-most ask ((sight_of s).grant ask)) in
    ap (λ (byte : ByteMap). record { grant = (sight_of s).grant; byte = byte; refusal = (sight_of s).refusal })
    (sym (runs-written s.slot.domain.adapter s.number (runs_in (sight_of s) ask) bytes s.buffer places.0 places.1 few))

-- the bytes that the buffer has at an ask's places are those that are seen there
pub small-bytes : (s : SmallReach) (ask : Ask) (rs : List Run) → IsAskHere s ask → rs ≡ runs_in (sight_of s) ask
    → bytes_at (memory_of s.buffer) rs ≡ bytes_in (sight_of s) ask
small-bytes s ask rs here places =
    ap (λ (rs : List Run). bytes_at (memory_of s.buffer) rs) places
    ∙ same-bytes s.slot.domain.adapter s.number (runs_in (sight_of s) ask) s.buffer (places-here s ask here).1

-- runs have as many bytes as places
places-count : (rs : List Run) → length (places_of rs) ≡ places_count rs
places-count [] = refl
places-count (r ∷ rs) =
    let total : places_count (r ∷ rs) ≡ r.length + places_count rs = sum_by-cons (λ (r : Run). r.length) r rs in
    simp (length-append, length-map, length-range_with_len) (omega (arith, places-count rs))

bytes-count : (m : ByteMap) (rs : List Run) → length (bytes_at m rs) ≡ places_count rs
bytes-count m rs = length-map (places_of rs) m ∙ places-count rs

pub small-count : (s : SmallReach) (ask : Ask) (rs : List Run) → rs ≡ runs_in (sight_of s) ask → places_count rs ≡ ask.touch
    → length (bytes_in (sight_of s) ask) ≡ ask.touch
small-count s ask rs places count =
    bytes-count (sight_of s).byte (runs_in (sight_of s) ask) ∙ ap places_count (sym places) ∙ count

-- an ask by another key than that of a grant does not fit it
other-key : (i : Invalidation) (x : Ask) (g : Grant) → key_eq g.key i.key ≡ true → g.domain.adapter ≡ i.domain.adapter
    → is_by_key i x ≡ false → fits x g ≡ false
other-key i x g same adapter other = grind (arith, nat_tests)

-- a window's key is no region's
other-kind : (i : Invalidation) (x : Ask) → is_window_key x.key ≡ false → is_window_key i.key ≡ true → is_by_key i x ≡ false
other-kind i x a b = grind (arith, nat_tests)

kind-other : (i : Invalidation) (x : Ask) → is_window_key x.key ≡ true → is_window_key i.key ≡ false → is_by_key i x ≡ false
kind-other i x a b = grind (arith, nat_tests)

-- the window's own key: it is the key that ends, of this adapter
window-grant : (s : SmallReach) (i : Invalidation) (b : Option Binding) (o : Option Grant) (x : Ask)
    → key_eq (key_of_window s.window) i.key ≡ true → s.window.slot.domain.adapter ≡ i.domain.adapter
    → None ≡ grants_without i (λ x. grant_for x (list_of_grant (option_and_then (λ b. option_map (grant_of_binding s.window b) o) b))) x
window-grant s i b o x key adapter = by (is_by_key i x) refl b o
  where
    by : (c : Bool) → is_by_key i x ≡ c → (b : Option Binding) (o : Option Grant)
        → None ≡ (if c then None else grant_for x (list_of_grant (option_and_then (λ b. option_map (grant_of_binding s.window b) o) b)))
    by true e b o = refl
    by false e None o = refl
    by false e (Some b) None = refl
    by false e (Some b) (Some g) = rw (other-key i x (grant_of_binding s.window b g) key adapter e) refl

-- the region's own key
region-grant : (i : Invalidation) (g : Grant) (x : Ask) → key_eq g.key i.key ≡ true → g.domain.adapter ≡ i.domain.adapter
    → None ≡ grants_without i (λ x. grant_for x (g ∷ [])) x
region-grant i g x key adapter = by (is_by_key i x) refl
  where
    by : (c : Bool) → is_by_key i x ≡ c → None ≡ (if c then None else grant_for x (g ∷ []))
    by true e = refl
    by false e = rw (other-key i x g key adapter e) refl

-- the end of a window's key is not refused: the key is the window's
window-key : (key : Key) (queue : QueueId) (w : Window) → window_refusal key queue w ≡ None → key_eq (key_of_window w) key ≡ true
window-key key queue w h = grind (arith, nat_tests)

-- the end of a region's key is not refused: the key is the region's, the region was fast-registered and counts no window
region-key : (key : Key) (r : Region) (pages : ℕ) (g : Grant) → r.state ≡ FastRegistered pages g → region_refusal key r ≡ None
    → (key_eq g.key key ≡ true) × (r.bound ≡ 0)
region-key key r pages g e h = (grind (arith, nat_tests), grind (arith, nat_tests))

-- a region that was registered in the ordinary way keeps its key
registered-key : (key : Key) (r : Region) (g : Grant) → r.state ≡ Registered g → region_refusal key r ≡ None → ⊥
registered-key key r g e h = grind (arith, nat_tests)

-- the end of a region's key leaves the window's grant: no window is bound in the region
end-leaves-window : (x : Ask) (w : Window) (b : Option Binding) (r : Region) (st : RegionState) → IsCounted b r
    → ((pages : ℕ) (g : Grant) → st ≡ FastRegistered pages g → r.bound ≡ 0)
    → grant_for x (list_of_grant (option_and_then (λ b. option_map (grant_of_binding w b) (grant_in_state (state_after_invalidation st))) b))
    ≡ grant_for x (list_of_grant (option_and_then (λ b. option_map (grant_of_binding w b) (grant_in_state st)) b))
end-leaves-window x w b r NoRegion counted zero = refl
end-leaves-window x w b r (Free pages) counted zero = refl
end-leaves-window x w b r (Registered g) counted zero = refl
end-leaves-window x w None r (FastRegistered pages g) counted zero = refl
end-leaves-window x w (Some b) r (FastRegistered pages g) counted zero = let none : r.bound ≡ 0 = zero pages g refl in absurd (omega arith)

-- the end of a region's key ends its grant, and no other
end-of-region : (s : SmallReach) (i : Invalidation) (x : Ask) (st : RegionState) → s.region.state ≡ st → region_refusal i.key s.region ≡ None
    → IsInBuffer s (grant_in_state st) → i.domain.adapter ≡ s.slot.domain.adapter
    → grant_for x (list_of_grant (grant_in_state (state_after_invalidation st)))
    ≡ grants_without i (λ x. grant_for x (list_of_grant (grant_in_state st))) x
end-of-region s i x st e accepted here adapter = by st e here (is_by_key i x)
  where
    none : (c : Bool) → let T : Type 0 = Option Grant in ◌≡◌ {A = T} None (if c then None else None)
    none true = refl
    none false = refl

    by : (st : RegionState) → s.region.state ≡ st → IsInBuffer s (grant_in_state st) → (c : Bool)
        → grant_for x (list_of_grant (grant_in_state (state_after_invalidation st)))
        ≡ grants_without i (λ x. grant_for x (list_of_grant (grant_in_state st))) x
    by NoRegion e here c = none (is_by_key i x)
    by (Free pages) e here c = none (is_by_key i x)
    by (Registered g) e here c = absurd (registered-key i.key s.region g e accepted)
    by (FastRegistered pages g) e here c =
        region-grant i g x (region-key i.key s.region pages g e accepted).0 (here.0 ∙ sym adapter)

-- the end of a key ends its grant at its adapter, and leaves all others
pub small-end : (s : SmallReach) (i : Invalidation) → IsEndHere s i → (sight_of s).refusal i ≡ None → (x : Ask)
    → (sight_of (after_end_of s i)).grant x ≡ grants_without i (sight_of s).grant x
small-end s i here accepted x = by (is_window_key i.key) refl (is_window_key x.key) refl
  where
    by : (k : Bool) → is_window_key i.key ≡ k → (kx : Bool) → is_window_key x.key ≡ kx
        → (sight_of (after_end_of s i)).grant x ≡ grants_without i (sight_of s).grant x
    by true k true kx = rw (k, kx) (window-grant s i s.window.binding (grant_of_region s.region) x
        (window-key i.key i.queue s.window (rw k at accepted)) (here.parts.window ∙ sym here.adapter))
    by true k false kx = rw (k, kx, other-kind i x kx k) refl
    by false k true kx = rw (k, kx, kind-other i x kx k) (end-leaves-window x s.window s.window.binding s.region s.region.state here.parts.counted
        (λ pages g e. (region-key i.key s.region pages g e (rw k at accepted)).1))
    by false k false kx = rw (k, kx) (end-of-region s i x s.region.state refl (rw k at accepted) here.parts.region here.adapter)
