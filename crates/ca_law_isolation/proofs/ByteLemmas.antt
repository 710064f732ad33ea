-- The bytes that a plan touches, where each has a property that the places of grants have. For proofs only.
use Rattle.std.proofs.Common.{◌≡◌, ℕ, zero, suc, ◌+◌, ◌-◌, ◌≤◌, min, nat_le, arith, Bool, true, false, List, [], ◌∷◌, ◌++◌, map, Option, None, Some, IfSome, ◌==◌, if◌then◌else◌, refl}
use Rattle.std.specs.List.{AllByRecursion, range_with_len}
use Rattle.ca_keys.specs.declared.access.Ask.{Ask}
use Rattle.ca_keys.specs.declared.grant.Grant.{Grant}
use Rattle.ca_keys.specs.declared.key.Key.{Key}
use Rattle.ca_keys.specs.declared.names.DomainId.{DomainId}
use Rattle.ca_keys.specs.declared.names.Slot.{Slot}
use Rattle.ca_keys.specs.declared.place.Place.{Place}
use Rattle.ca_keys.specs.declared.place.Run.{Run}
use Rattle.ca_base.specs.declared.refusals.OpRefusal.{OpRefusal}
use Rattle.ca_keys.specs.Allowed.{fits}
use Rattle.ca_base.specs.Configuration.{Configuration}
use Rattle.ca_keys.specs.Memory.{bytes_at, cut, is_in, places_of, run_part, run_places}
use Rattle.ca_base.specs.declared.denied_ask.DeniedAsk.{DeniedAsk}
use Rattle.ca_base.specs.Sight.{Invalidation, runs_by_grant}
use Rattle.ca_base.specs.objects.LocalRequest.{window_refusal}
use Rattle.ca_base.specs.objects.Region.{Region, grant_of_region, with_window_unbound}
use Rattle.ca_base.specs.objects.Slices.{names_region, names_window, slot_of_key}
use Rattle.ca_base.specs.objects.Window.{Binding, Window, grant_of_binding, without_binding}
use Rattle.ca_model.specs.machine.Plan.{Plan, Look, Update, ◌:=◌, Write, byte_names, names_updated, names_written}
use Rattle.ca_model.specs.machine.Row.{Ending, NotPossible, Does, Effects, Row, Row_plan, End_plan, With_grant, With_grants, With_bytes, With_writes, With_invalidation, first_denied_by, grant_if_fitting, grant_over, region_under, unless_none}
use Rattle.ca_model.specs.machine.Seen.{asks_window, grant_in}
use Rattle.ca_model.specs.machine.World.{World, Name, Byte_at, Region_of, Window_of}
use Rattle.ca_law_world.proofs.Sound.WorldLemmas.{EndingDoes, RowDoes}
use Rattle.std.proofs.lemmas.Bool.{leb-false}
use Rattle.ca_isolation.proofs.StretchLemmas.{InPlaces, run-made, run-parts}
use Rattle.ca_law_parts.proofs.Parts.TouchLemmas.{NamesIn, TouchesIn, names-append}

-- all places of a run have a property, and so of runs
abbrev pub InRun : (Name → Type 0) → Run → Type 0
InRun A r = (p : Place) → is_in r p ≡ true → A (Byte_at p)

abbrev pub InRuns : (Name → Type 0) → List Run → Type 0
InRuns A rs = AllByRecursion (InRun A) rs

part-in : (r : Run) (skip count : ℕ) (p : Place) → nat_le r.length skip ≡ false → is_in (run_part r skip (min count (r.length - skip))) p ≡ true → is_in r p ≡ true
part-in r skip count p some is = by (run-parts (run_part r skip (min count (r.length - skip))) p is)
  where
    by : InPlaces (run_part r skip (min count (r.length - skip))) p → is_in r p ≡ true
    by one = run-made r p (record {
      adapter = one.adapter;
      buffer = one.buffer;
      from = omega (arith, one.from);
      upto = omega (arith, one.upto, leb-false r.length skip some);
    })

cut-in : (A : Name → Type 0) (skip count : ℕ) (rs : List Run) → InRuns A rs → InRuns A (cut skip count rs)
cut-in A skip count [] all = record {}
cut-in A skip count (r ∷ rs) all = by (nat_le r.length skip) refl (count == 0) (cut-in A (skip - r.length) count rs all.1) (cut-in A 0 (count - (r.length - skip)) rs all.1)
  where
    by : (b : Bool) → nat_le r.length skip ≡ b → (z : Bool) → InRuns A (cut (skip - r.length) count rs) → InRuns A (cut 0 (count - (r.length - skip)) rs)
        → InRuns A (if b then cut (skip - r.length) count rs else if z then [] else run_part r skip (min count (r.length - skip)) ∷ cut 0 (count - (r.length - skip)) rs)
    by true e z later rest = later
    by false e true later rest = record {}
    by false e false later rest = ((λ p is. all.0 p (part-in r skip count p e is)), rest)

all-mapped : {X Y : Type 0} (P : Y → Type 0) (f : X → Y) (xs : List X) → AllByRecursion (λ x. P (f x)) xs → AllByRecursion P (map f xs)
all-mapped P f [] all = record {}
all-mapped P f (x ∷ xs) all = (all.0, all-mapped P f xs all.1)

all-joined : {X : Type 0} (P : X → Type 0) (xs ys : List X) → AllByRecursion P xs → AllByRecursion P ys → AllByRecursion P (xs ++ ys)
all-joined P [] ys one other = other
all-joined P (x ∷ xs) ys one other = (one.0, all-joined P xs ys one.1 other)

run-in : (A : Name → Type 0) (r : Run) (from n : ℕ) → InRun A r → r.offset ≤ from → from + n ≤ r.offset + r.length
    → AllByRecursion (λ p. A (Byte_at p)) (map (λ at. record { adapter = r.adapter; buffer = r.buffer; offset = at }) (range_with_len from n))
run-in A r from zero all low high = record {}
run-in A r from (suc n) all low high = (
  all (record { adapter = r.adapter; buffer = r.buffer; offset = from }) (run-made r (record { adapter = r.adapter; buffer = r.buffer; offset = from })
      (record { adapter = refl; buffer = refl; from = low; upto = omega (arith, high) })),
  run-in A r (from + 1) n all (omega (arith, low)) (omega (arith, high)),
)

places-in : (A : Name → Type 0) (rs : List Run) → InRuns A rs → AllByRecursion (λ p. A (Byte_at p)) (places_of rs)
places-in A [] all = record {}
places-in A (r ∷ rs) all = all-joined (λ p. A (Byte_at p)) (run_places r) (places_of rs) (run-in A r r.offset r.length all.0 (omega arith) (omega arith)) (places-in A rs all.1)

bytes-in : (A : Name → Type 0) (rs : List Run) → InRuns A rs → NamesIn A (byte_names rs)
bytes-in A rs all = all-mapped A Byte_at (places_of rs) (places-in A rs all)

-- a grant whose places lie in buffers that have the property
abbrev pub GrantIn : (Name → Type 0) → Option Grant → Type 0
GrantIn A g = IfSome g (λ g. InRuns A g.runs)

-- a region, and the buffer of its grant
pub record RegionIn (w : World) (A : Name → Type 0) (s : Slot) : Type 0 where
  pub region : A (Region_of s)
  pub buffer : GrantIn A (grant_of_region (w.region s))

-- what the key of an access names: a region, or a window and the region of its binding
pub record AskIn (c : Configuration) (w : World) (A : Name → Type 0) (ask : Ask) : Type 0 where
  pub region : names_region c ask.domain ask.key ≡ true → RegionIn w A (slot_of_key ask.domain ask.key)
  pub window : asks_window c ask ≡ true → A (Window_of (slot_of_key ask.domain ask.key))
  pub under : asks_window c ask ≡ true
      → IfSome (w.window (slot_of_key ask.domain ask.key)).binding (λ b. RegionIn w A (region_under (w.window (slot_of_key ask.domain ask.key)) b))

-- what a key names that ends: a region, or a window and the region of its binding, without their buffers
pub record EndingIn (c : Configuration) (w : World) (A : Name → Type 0) (d : DomainId) (key : Key) : Type 0 where
  pub region : names_region c d key ≡ true → A (Region_of (slot_of_key d key))
  pub window : names_window c d key ≡ true → A (Window_of (slot_of_key d key))
  pub under : names_window c d key ≡ true → IfSome (w.window (slot_of_key d key)).binding (λ b. A (Region_of (region_under (w.window (slot_of_key d key)) b)))

fitting-in : (A : Name → Type 0) (ask : Ask) (g : Option Grant) → GrantIn A g → GrantIn A (grant_if_fitting ask g)
fitting-in A ask None all = record {}
fitting-in A ask (Some g) all = by (fits ask g)
  where
    by : (b : Bool) → GrantIn A (if b then Some g else None)
    by true = all
    by false = record {}

over-in : (A : Name → Type 0) (x : Window) (b : Binding) (r : Region) → GrantIn A (grant_of_region r) → GrantIn A (grant_over x b r)
over-in A x b r all = by (grant_of_region r) all
  where
    over : Option Grant → Option Grant
    over None = None
    over (Some g) = Some (grant_of_binding x b g)

    by : (g : Option Grant) → GrantIn A g → GrantIn A (over g)
    by None all = record {}
    by (Some g) all = cut-in A (b.address - g.address) b.length g.runs all

touches-grant : (c : Configuration) (w : World) (A : Name → Type 0) (ask : Ask) (k : Option Grant → Plan) → AskIn c w A ask
    → ((g : Option Grant) → GrantIn A g → TouchesIn w A (k g)) → TouchesIn w A (With_grant c ask k)
touches-grant c w A ask k key more = (
  λ named. ((key.region named).region, more (grant_if_fitting ask (grant_of_region (w.region slot))) (fitting-in A ask (grant_of_region (w.region slot)) (key.region named).buffer)),
  λ none. (λ named. (key.window named, by (w.window slot).binding (key.under named)), λ none. more None (record {})),
)
  where
    slot : Slot
    slot = slot_of_key ask.domain ask.key

    plan : Option Binding → Plan
    plan None = k None
    plan (Some b) = Look (Region_of (region_under (w.window slot) b)) (λ region. k (grant_if_fitting ask (grant_over (w.window slot) b region)))

    by : (o : Option Binding) → IfSome o (λ b. RegionIn w A (region_under (w.window slot) b)) → TouchesIn w A (plan o)
    by None under = more None (record {})
    by (Some b) under = (
      under.region,
      more (grant_if_fitting ask (grant_over (w.window slot) b (w.region (region_under (w.window slot) b))))
          (fitting-in A ask (grant_over (w.window slot) b (w.region (region_under (w.window slot) b)))
          (over-in A (w.window slot) b (w.region (region_under (w.window slot) b)) under.buffer)),
    )

-- the grant that an ask goes by in the world
seen-in : (c : Configuration) (w : World) (A : Name → Type 0) (ask : Ask) → AskIn c w A ask → GrantIn A (grant_in c w ask)
seen-in c w A ask key = by (names_region c ask.domain ask.key) refl (asks_window c ask) refl
  where
    slot : Slot
    slot = slot_of_key ask.domain ask.key

    over : Option Binding → Option Grant
    over None = None
    over (Some b) = grant_if_fitting ask (grant_over (w.window slot) b (w.region (region_under (w.window slot) b)))

    bound : (o : Option Binding) → IfSome o (λ b. RegionIn w A (region_under (w.window slot) b)) → GrantIn A (over o)
    bound None under = record {}
    bound (Some b) under = fitting-in A ask (grant_over (w.window slot) b (w.region (region_under (w.window slot) b)))
        (over-in A (w.window slot) b (w.region (region_under (w.window slot) b)) under.buffer)

    by : (b : Bool) → names_region c ask.domain ask.key ≡ b → (z : Bool) → asks_window c ask ≡ z
        → GrantIn A (if b then grant_if_fitting ask (grant_of_region (w.region slot)) else if z then over (w.window slot).binding else None)
    by true named z e = fitting-in A ask (grant_of_region (w.region slot)) (key.region named).buffer
    by false none true named = bound (w.window slot).binding (key.under named)
    by false none false e = record {}

-- grants of asks, in order
abbrev GrantsIn : (Name → Type 0) → List (Option Grant) → Type 0
GrantsIn A gs = AllByRecursion (GrantIn A) gs

touches-grants : (c : Configuration) (w : World) (A : Name → Type 0) (asks : List Ask) (k : List (Option Grant) → Plan) → AllByRecursion (AskIn c w A) asks
    → ((gs : List (Option Grant)) → GrantsIn A gs → TouchesIn w A (k gs)) → TouchesIn w A (With_grants c asks k)
touches-grants c w A [] k all more = more [] (record {})
touches-grants c w A (ask ∷ asks) k all more = touches-grant c w A ask (λ g. With_grants c asks (λ gs. k (g ∷ gs))) all.0
    (λ g one. touches-grants c w A asks (λ gs. k (g ∷ gs)) all.1 (λ gs rest. more (g ∷ gs) (one, rest)))

granted-in : (A : Name → Type 0) (ask : Ask) (g : Option Grant) → GrantIn A g → InRuns A (runs_by_grant ask g)
granted-in A ask None all = record {}
granted-in A ask (Some g) all = cut-in A (ask.address - g.address) ask.touch g.runs all

touches-bytes : (w : World) (A : Name → Type 0) (asks : List Ask) (gs : List (Option Grant)) (k : List (List ℕ) → Plan) → GrantsIn A gs
    → ((bs : List (List ℕ)) → TouchesIn w A (k bs)) → TouchesIn w A (With_bytes asks gs k)
touches-bytes w A [] gs k all more = more []
touches-bytes w A (ask ∷ asks) [] k all more = more []
touches-bytes w A (ask ∷ asks) (g ∷ gs) k all more = (
  bytes-in A (runs_by_grant ask g) (granted-in A ask g all.0),
  touches-bytes w A asks gs (λ rest. k (bytes_at w.byte (runs_by_grant ask g) ∷ rest)) all.1 (λ rest. more (bytes_at w.byte (runs_by_grant ask g) ∷ rest)),
)

-- writes of bytes that have the property
abbrev pub WritesAt : (Name → Type 0) → List Write → Type 0
WritesAt A ws = NamesIn A (names_written ws)

touches-writes : (c : Configuration) (w : World) (A : Name → Type 0) (xs : List (Ask × List ℕ)) (k : List Write → Plan) → AllByRecursion (λ x. AskIn c w A x.0) xs
    → ((ws : List Write) → WritesAt A ws → TouchesIn w A (k ws)) → TouchesIn w A (With_writes c xs k)
touches-writes c w A [] k all more = more [] (record {})
touches-writes c w A (x ∷ xs) k all more = touches-grant c w A x.0 (λ g. With_writes c xs (λ rest. k (record { runs = runs_by_grant x.0 g; bytes = x.1 } ∷ rest))) all.0
    (λ g one. touches-writes c w A xs (λ rest. k (record { runs = runs_by_grant x.0 g; bytes = x.1 } ∷ rest)) all.1
    (λ ws rest. more (record { runs = runs_by_grant x.0 g; bytes = x.1 } ∷ ws)
    (names-append A (byte_names (runs_by_grant x.0 g)) (names_written ws) (bytes-in A (runs_by_grant x.0 g) (granted-in A x.0 g one)) rest)))

touches-invalidation : (c : Configuration) (w : World) (A : Name → Type 0) (i : Option Invalidation) (k : Option OpRefusal → List Update → Plan)
    → IfSome i (λ i. EndingIn c w A i.domain i.key) → ((r : Option OpRefusal) (cs : List Update) → NamesIn A (names_updated cs) → TouchesIn w A (k r cs))
    → TouchesIn w A (With_invalidation c i k)
touches-invalidation c w A None k key more = more None [] (record {})
touches-invalidation c w A (Some i) k key more = (
  λ named. (key.region named, more _ _ (key.region named, record {})),
  λ none. (λ named. (key.window named, by (w.window slot).binding (key.window named) (key.under named)), λ none. more _ [] (record {})),
)
  where
    slot : Slot
    slot = slot_of_key i.domain i.key

    plan : Option Binding → Plan
    plan None = k (window_refusal i.key i.queue (w.window slot)) []
    plan (Some b) = Look (Region_of (region_under (w.window slot) b)) (λ region.
        k (window_refusal i.key i.queue (w.window slot))
        ((Window_of slot := without_binding (w.window slot)) ∷ (Region_of (region_under (w.window slot) b) := with_window_unbound region) ∷ []))

    by : (o : Option Binding) → A (Window_of slot) → IfSome o (λ b. A (Region_of (region_under (w.window slot) b))) → TouchesIn w A (plan o)
    by None window under = more _ [] (record {})
    by (Some b) window under = (under, more _ _ (window, (under, record {})))

-- what a row's writes go by
abbrev pub WritesIn : (Ask → Type 0) → Effects → Type 0
WritesIn Q e = AllByRecursion (λ x. Q x.0) e.writes

unless-in : (A : Name → Type 0) (r : Option OpRefusal) (cs : List Update) → NamesIn A (names_updated cs) → NamesIn A (names_updated (unless_none r cs))
unless-in A None cs all = all
unless-in A (Some r) cs all = record {}

pub touches-row : (c : Configuration) (w : World) (A : Name → Type 0) (row : Row) (finish : Effects → List Update → List Write → Plan) → AllByRecursion (AskIn c w A) row.asks
    → IfSome row.invalidation (λ i. EndingIn c w A i.domain i.key) → RowDoes (WritesIn (AskIn c w A)) row
    → ((e : Effects) (cs : List Update) (ws : List Write) → NamesIn A (names_updated cs) → WritesAt A ws → TouchesIn w A (finish e cs ws)) → TouchesIn w A (Row_plan c row finish)
touches-row c w A row finish asks key does more = touches-grants c w A row.asks _ asks (λ gs all. by gs all (first_denied_by row.asks gs))
  where
    ending : (cs : List Update) (e : Ending) → NamesIn A (names_updated cs) → EndingDoes (WritesIn (AskIn c w A)) e → TouchesIn w A (End_plan c finish cs e)
    ending cs (NotPossible reason) all does = record {}
    ending cs (Does e) all does = touches-writes c w A e.writes (λ writes. finish e cs writes) does (λ ws at. more e cs ws all at)

    plan : List (Option Grant) → Option DeniedAsk → Plan
    plan gs (Some d) = End_plan c finish [] (row.denied d)
    plan gs None = With_bytes row.asks gs (λ bytes. With_invalidation c row.invalidation (λ refusal cs.
        End_plan c finish (unless_none refusal cs) (row.allowed bytes refusal)))

    by : (gs : List (Option Grant)) → GrantsIn A gs → (d : Option DeniedAsk) → TouchesIn w A (plan gs d)
    by gs all (Some d) = ending [] (row.denied d) (record {}) (does.denied d)
    by gs all None = touches-bytes w A row.asks gs (λ bytes. With_invalidation c row.invalidation (λ refusal cs. End_plan c finish (unless_none refusal cs) (row.allowed bytes refusal))) all
        (λ bytes. touches-invalidation c w A row.invalidation (λ refusal cs. End_plan c finish (unless_none refusal cs) (row.allowed bytes refusal)) key
        (λ refusal cs named. ending (unless_none refusal cs) (row.allowed bytes refusal) (unless-in A refusal cs named) (does.allowed bytes refusal)))
