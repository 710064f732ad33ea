-- What a row's plan touches behind its looks: what comes behind it with the row's ending. For proofs only.
use Rattle.std.proofs.Common.{◌≡◌, subst, ℕ, Bool, true, false, if◌then◌else◌, List, [], ◌∷◌, map, Option, None, Some}
use Rattle.std.specs.Option.{option_and_then, option_map_or}
use Rattle.ca_keys.specs.declared.access.Ask.{Ask}
use Rattle.ca_keys.specs.declared.grant.Grant.{Grant}
use Rattle.ca_keys.specs.declared.names.Slot.{Slot}
use Rattle.ca_base.specs.Configuration.{Configuration}
use Rattle.ca_base.specs.declared.denied_ask.DeniedAsk.{DeniedAsk}
use Rattle.ca_base.specs.declared.refusals.OpRefusal.{OpRefusal}
use Rattle.ca_base.specs.Sight.{Invalidation, bytes_in, first_denied, runs_by_grant, runs_in}
use Rattle.ca_base.specs.objects.LocalRequest.{region_refusal, unnamed_refusal, window_refusal}
use Rattle.ca_base.specs.objects.Region.{after_region_invalidation, with_window_unbound}
use Rattle.ca_base.specs.objects.Slices.{names_region, names_window, slot_of_key}
use Rattle.ca_base.specs.objects.Window.{Binding, without_binding}
use Rattle.ca_model.specs.machine.Frame.{AllPass}
use Rattle.ca_model.specs.machine.Plan.{Look, Plan, Update, Write, byte_names, touches, ◌:=◌}
use Rattle.ca_model.specs.machine.Row.{Does, Effects, Ending, End_plan, Row, Row_plan, With_bytes, With_invalidation, With_writes, ending_of, first_denied_by, region_under, unless_none}
use Rattle.ca_model.specs.machine.Seen.{ending_changes, grant_in, refusal_in, row_changes, sight_in, writes_in}
use Rattle.ca_model.specs.machine.World.{Name, Region_of, Window_of, World}
use Rattle.ca_adapter_reach_laws.proofs.RowLemmas.{behind-pass, denied-same, grant-passes, grants-pass}

-- behind the bytes that are read
bytes-behind : (test : Name → Bool) (c : Configuration) (w : World) (asks : List Ask) (k : List (List ℕ) → Plan)
    → AllPass test (touches w (With_bytes asks (map (grant_in c w) asks) k)) → AllPass test (touches w (k (map (bytes_in (sight_in c w)) asks)))
bytes-behind test c w [] k all = all
bytes-behind test c w (ask ∷ asks) k all =
    bytes-behind test c w asks (λ rest. k (bytes_in (sight_in c w) ask ∷ rest)) (behind-pass test (byte_names (runs_in (sight_in c w) ask)) _ all)

-- behind the looks for where bytes go
writes-behind : (test : Name → Bool) (c : Configuration) (w : World) (xs : List (Ask × List ℕ)) (k : List Write → Plan)
    → AllPass test (touches w (With_writes c xs k)) → AllPass test (touches w (k (writes_in (sight_in c w) xs)))
writes-behind test c w [] k all = all
writes-behind test c w (x ∷ xs) k all =
    writes-behind test c w xs (λ rest. k (record { runs = runs_by_grant x.0 (grant_in c w x.0); bytes = x.1 } ∷ rest))
    (grant-passes test c w x.0 (λ g. With_writes c xs (λ rest. k (record { runs = runs_by_grant x.0 g; bytes = x.1 } ∷ rest))) all)

-- behind an ending that does something
ending-behind : (test : Name → Bool) (c : Configuration) (w : World) (finish : Effects → List Update → List Write → Plan) (changes : List Update) (end : Ending) (e : Effects)
    → end ≡ Does e → AllPass test (touches w (End_plan c finish changes end)) → AllPass test (touches w (finish e changes (writes_in (sight_in c w) e.writes)))
ending-behind test c w finish changes end e is all =
    let P : Ending → Type 0 = λ end. AllPass test (touches w (End_plan c finish changes end)) in
    writes-behind test c w e.writes (λ writes. finish e changes writes) (subst P is all)

-- behind the looks for a key that ends
invalidation-behind : (test : Name → Bool) (c : Configuration) (w : World) (i : Invalidation) (rest : Option OpRefusal → List Update → Plan)
    → AllPass test (touches w (With_invalidation c (Some i) (λ refusal changes. rest refusal (unless_none refusal changes))))
    → AllPass test (touches w (rest (refusal_in c w i) (unless_none (refusal_in c w i) (ending_changes c w i))))
invalidation-behind test c w i rest = by (names_region c i.domain i.key) (names_window c i.domain i.key)
  where
    slot : Slot
    slot = slot_of_key i.domain i.key

    k : Option OpRefusal → List Update → Plan
    k refusal changes = rest refusal (unless_none refusal changes)

    refused : Option OpRefusal
    refused = window_refusal i.key i.queue (w.window slot)

    plan : Option Binding → Plan
    plan None = k refused []
    plan (Some b) = Look (Region_of (region_under (w.window slot) b)) (λ region.
        k refused ((Window_of slot := without_binding (w.window slot)) ∷ (Region_of (region_under (w.window slot) b) := with_window_unbound region) ∷ []))

    changed : Option Binding → List Update
    changed None = []
    changed (Some b) = (Window_of slot := without_binding (w.window slot)) ∷ (Region_of (region_under (w.window slot) b) := with_window_unbound (w.region (region_under (w.window slot) b))) ∷ []

    bound : (o : Option Binding) → AllPass test (touches w (plan o)) → AllPass test (touches w (k refused (changed o)))
    bound None all = all
    bound (Some b) all = all.1

    by : (b z : Bool)
        → AllPass test (if b then Region_of slot ∷ touches w (k (region_refusal i.key (w.region slot)) ((Region_of slot := after_region_invalidation (w.region slot)) ∷ []))
        else if z then Window_of slot ∷ touches w (plan (w.window slot).binding) else touches w (k (Some (unnamed_refusal i.key)) []))
        → AllPass test (touches w (k (if b then region_refusal i.key (w.region slot) else if z then refused else Some (unnamed_refusal i.key))
        (if b then (Region_of slot := after_region_invalidation (w.region slot)) ∷ [] else if z then changed (w.window slot).binding else [])))
    by true z all = all.1
    by false true all = bound (w.window slot).binding all.1
    by false false all = all

-- where all that a row's plan touches passes a test, so does all that comes behind the row
pub row-behind : (test : Name → Bool) (c : Configuration) (w : World) (row : Row) (finish : Effects → List Update → List Write → Plan) (e : Effects)
    → AllPass test (touches w (Row_plan c row finish)) → ending_of (sight_in c w) row ≡ Does e
    → AllPass test (touches w (finish e (row_changes c w row) (writes_in (sight_in c w) e.writes)))
row-behind test c w row finish e all =
    let P : Option DeniedAsk → Type 0 = λ d. AllPass test (touches w (plan d)) in
    by (first_denied (sight_in c w) row.asks)
    (subst P (denied-same c w row.asks) (grants-pass test c w row.asks (λ grants. at grants (first_denied_by row.asks grants)) all))
  where
    bytes_of : List (List ℕ)
    bytes_of = map (bytes_in (sight_in c w)) row.asks

    ending : Option Invalidation → List (List ℕ) → Plan
    ending i bytes = With_invalidation c i (λ refusal changes. End_plan c finish (unless_none refusal changes) (row.allowed bytes refusal))

    at : List (Option Grant) → Option DeniedAsk → Plan
    at grants (Some denied) = End_plan c finish [] (row.denied denied)
    at grants None = With_bytes row.asks grants (ending row.invalidation)

    plan : Option DeniedAsk → Plan
    plan (Some denied) = End_plan c finish [] (row.denied denied)
    plan None = With_bytes row.asks (map (grant_in c w) row.asks) (ending row.invalidation)

    changed : Option DeniedAsk → List Update
    changed (Some d) = []
    changed None = option_map_or (λ i. unless_none (refusal_in c w i) (ending_changes c w i)) row.invalidation []

    end : Option DeniedAsk → Ending
    end (Some d) = row.denied d
    end None = row.allowed bytes_of (option_and_then (refusal_in c w) row.invalidation)

    ends : (i : Option Invalidation) → AllPass test (touches w (ending i bytes_of)) → row.allowed bytes_of (option_and_then (refusal_in c w) i) ≡ Does e
        → AllPass test (touches w (finish e (option_map_or (λ i. unless_none (refusal_in c w i) (ending_changes c w i)) i []) (writes_in (sight_in c w) e.writes)))
    ends None all is = ending-behind test c w finish [] (row.allowed bytes_of None) e is all
    ends (Some i) all is =
        ending-behind test c w finish (unless_none (refusal_in c w i) (ending_changes c w i)) (row.allowed bytes_of (refusal_in c w i)) e is
        (invalidation-behind test c w i (λ refusal changes. End_plan c finish changes (row.allowed bytes_of refusal)) all)

    by : (d : Option DeniedAsk) → AllPass test (touches w (plan d)) → end d ≡ Does e
        → AllPass test (touches w (finish e (changed d) (writes_in (sight_in c w) e.writes)))
    by (Some d) all is = ending-behind test c w finish [] (row.denied d) e is all
    by None all is = ends row.invalidation (bytes-behind test c w row.asks (ending row.invalidation) all) is
