-- Plans in a placed world: all that they look at, read and write is configured, and what they change is placed.
use Rattle.std.proofs.Common.{◌≡◌, ℕ, zero, suc, ◌+◌, ◌-◌, ◌≤◌, ◌<◌, min, nat_le, arith, Bool, true, false, List, [], ◌∷◌, ◌++◌, map, Option, None, Some, IfSome, subst, ◌&&◌, not, ◌==◌, sym, true≢false, if◌then◌else◌, refl}
use Rattle.std.proofs.lemmas.Bool.{and_parts, leb-false, lt-ltb}
use Rattle.std.specs.List.{AllByRecursion, range_with_len}
use Rattle.ca_keys.specs.declared.access.Ask.{Ask}
use Rattle.ca_keys.specs.declared.grant.Grant.{Grant}
use Rattle.ca_keys.specs.declared.key.Key.{Key}
use Rattle.ca_keys.specs.declared.names.DomainId.{DomainId}
use Rattle.ca_keys.specs.declared.names.Slot.{Slot}
use Rattle.ca_keys.specs.declared.place.Run.{Run}
use Rattle.ca_base.specs.declared.refusals.OpRefusal.{OpRefusal}
use Rattle.ca_keys.specs.Allowed.{fits}
use Rattle.ca_base.specs.Configuration.{Configuration}
use Rattle.ca_keys.specs.Memory.{bytes_at, cut, places_of, run_part, run_places}
use Rattle.ca_keys.specs.Numbers.{is_window_key}
use Rattle.ca_base.specs.declared.denied_ask.DeniedAsk.{DeniedAsk}
use Rattle.ca_base.specs.Sight.{Invalidation, runs_by_grant}
use Rattle.ca_base.specs.objects.LocalRequest.{window_refusal}
use Rattle.ca_base.specs.objects.Region.{Region, RegionState, NoRegion, Free, Registered, FastRegistered, grant_in_state, grant_of_region, with_window_unbound}
use Rattle.ca_base.specs.objects.Slices.{has_slot, is_key_of, names_region, names_window, slot_of_key}
use Rattle.ca_base.specs.objects.Window.{Binding, Window, grant_of_binding, without_binding}
use Rattle.ca_model.specs.machine.Plan.{Plan, Stuck, Look, Read, If, Finish, Update, ◌:=◌, Write, byte_names, names_updated, names_written, touches}
use Rattle.ca_model.specs.machine.Row.{Ending, NotPossible, Does, Effects, Row, Row_plan, End_plan, With_grant, With_grants, With_bytes, With_writes, With_invalidation, first_denied_by, grant_if_fitting, grant_over, region_under, unless_none}
use Rattle.ca_model.specs.machine.Step.{bytes_of_buffer}
use Rattle.ca_model.specs.machine.World.{World, Name, Byte_at, Region_of, Window_of, get}
use Rattle.ca_model.specs.machine.Sound.{IsSoundState, IsSoundWorld, LieIn}
use Rattle.ca_law_world.proofs.Sound.WorldLemmas.{EndingDoes, RowDoes}
use Rattle.ca_law_parts.specs.Placed.{IsConfigured, IsPlacedBinding, IsPlacedThing, IsPlacedWorld}

abbrev pub AreConfigured : Configuration → List Name → Type 0
AreConfigured c ns = AllByRecursion (IsConfigured c) ns

-- changes of configured things, after which all that these name is configured
abbrev pub ArePlaced : Configuration → List Update → Type 0
ArePlaced c [] = Unit {0}
ArePlaced c (x ∷ xs) = (IsConfigured c x.name × IsPlacedThing c x.name x.thing) × ArePlaced c xs

-- a plan that touches configured things alone, and leaves placed ones
abbrev pub IsPlacedPlan : Configuration → World → Plan → Type 0
IsPlacedPlan c w (Stuck reason) = Unit {0}
IsPlacedPlan c w (Look n k) = IsConfigured c n × IsPlacedPlan c w (k (get w n))
IsPlacedPlan c w (Read runs k) = AreConfigured c (byte_names runs) × IsPlacedPlan c w (k (bytes_at w.byte runs))
IsPlacedPlan c w (If test p q) = (test ≡ true → IsPlacedPlan c w p) × (test ≡ false → IsPlacedPlan c w q)
IsPlacedPlan c w (Finish changes writes marks) = ArePlaced c changes × AreConfigured c (names_written writes)

-- a world that is sound and placed
pub record IsFit (c : Configuration) (w : World) : Type 0 where
  pub sound : IsSoundWorld c w
  pub placed : IsPlacedWorld c w

pub placed-append : (c : Configuration) (xs ys : List Update) → ArePlaced c xs → ArePlaced c ys → ArePlaced c (xs ++ ys)
placed-append c [] ys one other = other
placed-append c (x ∷ xs) ys one other = (one.0, placed-append c xs ys one.1 other)

pub all-joined : {A : Type 0} (P : A → Type 0) (xs ys : List A) → AllByRecursion P xs → AllByRecursion P ys → AllByRecursion P (xs ++ ys)
all-joined P [] ys one other = other
all-joined P (x ∷ xs) ys one other = (one.0, all-joined P xs ys one.1 other)

all-mapped : {A B : Type 0} (P : B → Type 0) (f : A → B) (xs : List A) → AllByRecursion (λ x. P (f x)) xs → AllByRecursion P (map f xs)
all-mapped P f [] all = record {}
all-mapped P f (x ∷ xs) all = (all.0, all-mapped P f xs all.1)

pub names-of-updates : (c : Configuration) (cs : List Update) → ArePlaced c cs → AreConfigured c (names_updated cs)
names-of-updates c [] all = record {}
names-of-updates c (x ∷ xs) all = (all.0.0, names-of-updates c xs all.1)

-- what such a plan touches is configured
pub placed-touches : (c : Configuration) (w : World) (p : Plan) → IsPlacedPlan c w p → AreConfigured c (touches w p)
placed-touches c w (Stuck reason) all = record {}
placed-touches c w (Look n k) all = (all.0, placed-touches c w (k (get w n)) all.1)
placed-touches c w (Read runs k) all =
    all-joined (IsConfigured c) (byte_names runs) (touches w (k (bytes_at w.byte runs))) all.0 (placed-touches c w (k (bytes_at w.byte runs)) all.1)
placed-touches c w (If true p q) all = placed-touches c w p (all.0 refl)
placed-touches c w (If false p q) all = placed-touches c w q (all.1 refl)
placed-touches c w (Finish changes writes marks) all =
    all-joined (IsConfigured c) (names_updated changes) (names_written writes) (names-of-updates c changes all.0) all.1

-- a run lies in its buffer
abbrev pub IsRunIn : Configuration → Run → Type 0
IsRunIn c r = r.offset + r.length ≤ bytes_of_buffer c r.adapter r.buffer

abbrev pub AreRunsIn : Configuration → List Run → Type 0
AreRunsIn c rs = AllByRecursion (IsRunIn c) rs

part-in : (c : Configuration) (r : Run) (skip count : ℕ) → skip < r.length → IsRunIn c r → IsRunIn c (run_part r skip (min count (r.length - skip)))
part-in c r skip count some one = omega (arith, some, one)

pub cut-in : (c : Configuration) (skip count : ℕ) (rs : List Run) → AreRunsIn c rs → AreRunsIn c (cut skip count rs)
cut-in c skip count [] all = record {}
cut-in c skip count (r ∷ rs) all = by (nat_le r.length skip) refl (count == 0) (cut-in c (skip - r.length) count rs all.1) (cut-in c 0 (count - (r.length - skip)) rs all.1)
  where
    by : (b : Bool) → nat_le r.length skip ≡ b → (z : Bool) → AreRunsIn c (cut (skip - r.length) count rs) → AreRunsIn c (cut 0 (count - (r.length - skip)) rs)
        → AreRunsIn c (if b then cut (skip - r.length) count rs else if z then [] else run_part r skip (min count (r.length - skip)) ∷ cut 0 (count - (r.length - skip)) rs)
    by true e z later rest = later
    by false e true later rest = record {}
    by false e false later rest = (part-in c r skip count (leb-false r.length skip e) all.0, rest)

range-in : (c : Configuration) (adapter buffer from n : ℕ) → from + n ≤ bytes_of_buffer c adapter buffer
    → AllByRecursion (λ at. IsConfigured c (Byte_at (record { adapter = adapter; buffer = buffer; offset = at }))) (range_with_len from n)
range-in c adapter buffer from zero le = record {}
range-in c adapter buffer from (suc n) le =
    (lt-ltb from (bytes_of_buffer c adapter buffer) (omega (arith, le)), range-in c adapter buffer (from + 1) n (omega (arith, le)))

places-in : (c : Configuration) (rs : List Run) → AreRunsIn c rs → AllByRecursion (λ p. IsConfigured c (Byte_at p)) (places_of rs)
places-in c [] all = record {}
places-in c (r ∷ rs) all = all-joined (λ p. IsConfigured c (Byte_at p)) (run_places r) (places_of rs)
    (all-mapped (λ p. IsConfigured c (Byte_at p)) (λ at. record { adapter = r.adapter; buffer = r.buffer; offset = at }) (range_with_len r.offset r.length)
    (range-in c r.adapter r.buffer r.offset r.length all.0))
    (places-in c rs all.1)

-- the bytes of runs that lie in their buffers are configured
pub bytes-in : (c : Configuration) (rs : List Run) → AreRunsIn c rs → AreConfigured c (byte_names rs)
bytes-in c rs all = all-mapped (IsConfigured c) Byte_at (places_of rs) (places-in c rs all)

-- a grant of runs that lie in their buffers
abbrev pub GrantIn : Configuration → Option Grant → Type 0
GrantIn c g = IfSome g (λ g. AreRunsIn c g.runs)

runs-in : (c : Configuration) (adapter buffer : ℕ) (rs : List Run) → LieIn adapter buffer (bytes_of_buffer c adapter buffer) rs → AreRunsIn c rs
runs-in c adapter buffer [] all = record {}
runs-in c adapter buffer (r ∷ rs) all = (
  subst (λ a. r.offset + r.length ≤ bytes_of_buffer c a r.buffer) (sym all.0.0)
      (subst (λ b. r.offset + r.length ≤ bytes_of_buffer c adapter b) (sym all.0.1) all.0.2),
  runs-in c adapter buffer rs all.1,
)

region-in : (c : Configuration) (w : World) (s : Slot) → IsSoundWorld c w → GrantIn c (grant_of_region (w.region s))
region-in c w s sound = by (w.region s).state (sound.things (Region_of s))
  where
    by : (state : RegionState) → IsSoundState c s (w.region s).low state → GrantIn c (grant_in_state state)
    by NoRegion one = record {}
    by (Free pages) one = record {}
    by (Registered g) one = runs-in c s.domain.adapter one.buffer g.runs one.inside
    by (FastRegistered pages g) one = runs-in c s.domain.adapter one.buffer g.runs one.inside

fitting-in : (c : Configuration) (ask : Ask) (g : Option Grant) → GrantIn c g → GrantIn c (grant_if_fitting ask g)
fitting-in c ask None all = record {}
fitting-in c ask (Some g) all = by (fits ask g)
  where
    by : (b : Bool) → GrantIn c (if b then Some g else None)
    by true = all
    by false = record {}

over-in : (c : Configuration) (x : Window) (b : Binding) (r : Region) → GrantIn c (grant_of_region r) → GrantIn c (grant_over x b r)
over-in c x b r all = by (grant_of_region r) all
  where
    over : Option Grant → Option Grant
    over None = None
    over (Some g) = Some (grant_of_binding x b g)

    by : (g : Option Grant) → GrantIn c g → GrantIn c (over g)
    by None all = record {}
    by (Some g) all = cut-in c (b.address - g.address) b.length g.runs all

granted-in : (c : Configuration) (ask : Ask) (g : Option Grant) → GrantIn c g → AreRunsIn c (runs_by_grant ask g)
granted-in c ask None all = record {}
granted-in c ask (Some g) all = cut-in c (ask.address - g.address) ask.touch g.runs all

-- the slot that a key names is configured
pub named-region-in : (c : Configuration) (d : DomainId) (key : Key) → names_region c d key ≡ true → IsConfigured c (Region_of (slot_of_key d key))
named-region-in c d key has = (and_parts (not (is_window_key key) && is_key_of d key) (has_slot c (λ a. a.regions) (slot_of_key d key)) has).1

named-window-in : (c : Configuration) (d : DomainId) (key : Key) → names_window c d key ≡ true → IsConfigured c (Window_of (slot_of_key d key))
named-window-in c d key has = (and_parts (is_window_key key && is_key_of d key) (has_slot c (λ a. a.windows) (slot_of_key d key)) has).1

-- the region of a binding is configured
pub under-in : (c : Configuration) (w : World) (s : Slot) (b : Binding) → IsSoundWorld c w → IsPlacedBinding c s b → IsConfigured c (Region_of (region_under (w.window s) b))
under-in c w s b sound one =
    subst (λ (x : Slot). IsConfigured c (Region_of (record { domain = x.domain; slot = b.region }))) (sym (sound.things (Window_of s)).0) one.region

pub placed-grant : (c : Configuration) (w : World) (ask : Ask) (k : Option Grant → Plan) → IsFit c w
    → ((g : Option Grant) → GrantIn c g → IsPlacedPlan c w (k g)) → IsPlacedPlan c w (With_grant c ask k)
placed-grant c w ask k fit more = (
  λ named. (
    named-region-in c ask.domain ask.key named,
    more (grant_if_fitting ask (grant_of_region (w.region slot)))
        (fitting-in c ask (grant_of_region (w.region slot)) (region-in c w slot fit.sound)),
  ),
  λ none. (λ named. windows ask.local named, λ none. more None (record {})),
)
  where
    slot : Slot
    slot = slot_of_key ask.domain ask.key

    plan : Option Binding → Plan
    plan None = k None
    plan (Some b) = Look (Region_of (region_under (w.window slot) b)) (λ region. k (grant_if_fitting ask (grant_over (w.window slot) b region)))

    by : (o : Option Binding) → IfSome o (IsPlacedBinding c slot) → IsPlacedPlan c w (plan o)
    by None one = more None (record {})
    by (Some b) one = (
      under-in c w slot b fit.sound one,
      more (grant_if_fitting ask (grant_over (w.window slot) b (w.region (region_under (w.window slot) b))))
          (fitting-in c ask (grant_over (w.window slot) b (w.region (region_under (w.window slot) b)))
          (over-in c (w.window slot) b (w.region (region_under (w.window slot) b)) (region-in c w (region_under (w.window slot) b) fit.sound))),
    )

    windows : (b : Bool) → (if b then false else names_window c ask.domain ask.key) ≡ true → IsConfigured c (Window_of slot) × IsPlacedPlan c w (plan (w.window slot).binding)
    windows true e = absurd (true≢false (sym e))
    windows false e = (named-window-in c ask.domain ask.key e, by (w.window slot).binding (fit.placed.things (Window_of slot)))

abbrev GrantsIn : Configuration → List (Option Grant) → Type 0
GrantsIn c gs = AllByRecursion (GrantIn c) gs

placed-grants : (c : Configuration) (w : World) (asks : List Ask) (k : List (Option Grant) → Plan) → IsFit c w
    → ((gs : List (Option Grant)) → GrantsIn c gs → IsPlacedPlan c w (k gs)) → IsPlacedPlan c w (With_grants c asks k)
placed-grants c w [] k fit more = more [] (record {})
placed-grants c w (ask ∷ asks) k fit more = placed-grant c w ask (λ g. With_grants c asks (λ gs. k (g ∷ gs))) fit
    (λ g one. placed-grants c w asks (λ gs. k (g ∷ gs)) fit (λ gs rest. more (g ∷ gs) (one, rest)))

placed-bytes : (c : Configuration) (w : World) (asks : List Ask) (gs : List (Option Grant)) (k : List (List ℕ) → Plan) → GrantsIn c gs
    → ((bs : List (List ℕ)) → IsPlacedPlan c w (k bs)) → IsPlacedPlan c w (With_bytes asks gs k)
placed-bytes c w [] gs k all more = more []
placed-bytes c w (ask ∷ asks) [] k all more = more []
placed-bytes c w (ask ∷ asks) (g ∷ gs) k all more = (
  bytes-in c (runs_by_grant ask g) (granted-in c ask g all.0),
  placed-bytes c w asks gs (λ rest. k (bytes_at w.byte (runs_by_grant ask g) ∷ rest)) all.1 (λ rest. more (bytes_at w.byte (runs_by_grant ask g) ∷ rest)),
)

placed-writes : (c : Configuration) (w : World) (xs : List (Ask × List ℕ)) (k : List Write → Plan) → IsFit c w
    → ((ws : List Write) → AreConfigured c (names_written ws) → IsPlacedPlan c w (k ws)) → IsPlacedPlan c w (With_writes c xs k)
placed-writes c w [] k fit more = more [] (record {})
placed-writes c w (x ∷ xs) k fit more = placed-grant c w x.0 (λ g. With_writes c xs (λ rest. k (record { runs = runs_by_grant x.0 g; bytes = x.1 } ∷ rest))) fit
    (λ g one. placed-writes c w xs (λ rest. k (record { runs = runs_by_grant x.0 g; bytes = x.1 } ∷ rest)) fit
    (λ ws rest. more (record { runs = runs_by_grant x.0 g; bytes = x.1 } ∷ ws)
    (all-joined (IsConfigured c) (byte_names (runs_by_grant x.0 g)) (names_written ws) (bytes-in c (runs_by_grant x.0 g) (granted-in c x.0 g one)) rest)))

placed-invalidation : (c : Configuration) (w : World) (i : Option Invalidation) (k : Option OpRefusal → List Update → Plan) → IsFit c w
    → ((r : Option OpRefusal) (cs : List Update) → ArePlaced c cs → IsPlacedPlan c w (k r cs)) → IsPlacedPlan c w (With_invalidation c i k)
placed-invalidation c w None k fit more = more None [] (record {})
placed-invalidation c w (Some i) k fit more = (
  λ named. (named-region-in c i.domain i.key named, more _ _ ((named-region-in c i.domain i.key named, record {}), record {})),
  λ none. (
    λ named. (named-window-in c i.domain i.key named, by (w.window slot).binding (named-window-in c i.domain i.key named) (fit.placed.things (Window_of slot))),
    λ none. more _ [] (record {}),
  ),
)
  where
    slot : Slot
    slot = slot_of_key i.domain i.key

    plan : Option Binding → Plan
    plan None = k (window_refusal i.key i.queue (w.window slot)) []
    plan (Some b) = Look (Region_of (region_under (w.window slot) b)) (λ region.
        k (window_refusal i.key i.queue (w.window slot))
        ((Window_of slot := without_binding (w.window slot)) ∷ (Region_of (region_under (w.window slot) b) := with_window_unbound region) ∷ []))

    by : (o : Option Binding) → IsConfigured c (Window_of slot) → IfSome o (IsPlacedBinding c slot) → IsPlacedPlan c w (plan o)
    by None window one = more _ [] (record {})
    by (Some b) window one =
        (under-in c w slot b fit.sound one, more _ _ ((window, record {}), ((under-in c w slot b fit.sound one, record {}), record {})))

pub unless-placed : (c : Configuration) (r : Option OpRefusal) (cs : List Update) → ArePlaced c cs → ArePlaced c (unless_none r cs)
unless-placed c None cs all = all
unless-placed c (Some r) cs all = record {}

-- a row's plan touches configured things, and goes on with effects of the row, placed changes and configured bytes
pub placed-row : (c : Configuration) (w : World) (E : Effects → Type 0) (row : Row) (finish : Effects → List Update → List Write → Plan) → IsFit c w → RowDoes E row
    → ((e : Effects) (cs : List Update) (ws : List Write) → E e → ArePlaced c cs → AreConfigured c (names_written ws) → IsPlacedPlan c w (finish e cs ws))
    → IsPlacedPlan c w (Row_plan c row finish)
placed-row c w E row finish fit does more = placed-grants c w row.asks _ fit (λ gs all. by gs all (first_denied_by row.asks gs))
  where
    ending : (cs : List Update) (e : Ending) → ArePlaced c cs → EndingDoes E e → IsPlacedPlan c w (End_plan c finish cs e)
    ending cs (NotPossible reason) all does = record {}
    ending cs (Does e) all does = placed-writes c w e.writes (λ writes. finish e cs writes) fit (λ ws at. more e cs ws does all at)

    plan : List (Option Grant) → Option DeniedAsk → Plan
    plan gs (Some d) = End_plan c finish [] (row.denied d)
    plan gs None = With_bytes row.asks gs (λ bytes. With_invalidation c row.invalidation (λ refusal cs.
        End_plan c finish (unless_none refusal cs) (row.allowed bytes refusal)))

    by : (gs : List (Option Grant)) → GrantsIn c gs → (d : Option DeniedAsk) → IsPlacedPlan c w (plan gs d)
    by gs all (Some d) = ending [] (row.denied d) (record {}) (does.denied d)
    by gs all None = placed-bytes c w row.asks gs (λ bytes. With_invalidation c row.invalidation (λ refusal cs. End_plan c finish (unless_none refusal cs) (row.allowed bytes refusal))) all
        (λ bytes. placed-invalidation c w row.invalidation (λ refusal cs. End_plan c finish (unless_none refusal cs) (row.allowed bytes refusal)) fit
        (λ refusal cs placed. ending (unless_none refusal cs) (row.allowed bytes refusal) (unless-placed c refusal cs placed) (does.allowed bytes refusal)))
