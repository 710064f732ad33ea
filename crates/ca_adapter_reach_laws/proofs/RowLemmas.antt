-- A row in the small world of the parts in hand: its asks are at hand where its plan's things are held, and what it leaves.
-- For proofs only.
use Rattle.std.proofs.Common.{◌≡◌, ◌∙◌, refl, sym, ap, subst, ℕ, Bool, true, false, if◌then◌else◌, List, [], ◌∷◌, ◌++◌, map, Option, None, Some, IfSome, is_none}
use Rattle.std.specs.List.{AllByRecursion}
use Rattle.std.specs.Option.{option_map_or}
use Rattle.ca_keys.specs.declared.access.Ask.{Ask}
use Rattle.ca_keys.specs.declared.grant.Grant.{Grant}
use Rattle.ca_keys.specs.declared.names.Slot.{Slot}
use Rattle.ca_base.specs.Configuration.{Configuration}
use Rattle.ca_base.specs.declared.denied_ask.DeniedAsk.{DeniedAsk}
use Rattle.ca_base.specs.declared.refusals.OpRefusal.{OpRefusal}
use Rattle.ca_base.specs.Sight.{Invalidation, Sight, denial_in, first_denied, or_denied, runs_in}
use Rattle.ca_base.specs.objects.Region.{grant_of_region}
use Rattle.ca_base.specs.objects.Slices.{names_region, slot_of_key}
use Rattle.ca_base.specs.objects.Window.{Binding, Window}
use Rattle.ca_adapter_reach.specs.ca_grant.Reaching.{AreAtHand}
use Rattle.ca_law_world.specs.Bindings.{IsBoundWorld}
use Rattle.ca_model.specs.machine.Frame.{AllPass}
use Rattle.ca_model.specs.machine.Parts.{ShowsHeld}
use Rattle.ca_model.specs.machine.Plan.{Look, Plan, Update, Write, byte_names, perform, put_all, touches, write_all}
use Rattle.ca_model.specs.machine.Row.{Effects, End_plan, Row, Row_plan, With_bytes, With_grant, With_grants, With_invalidation, ending_of, first_denied_by, grant_if_fitting, grant_over, region_under, unless_none}
use Rattle.ca_model.specs.machine.Seen.{asks_window, ending_changes, grant_in, perform_ending, refusal_in, row_changes, sight_in, writes_in}
use Rattle.ca_model.specs.machine.Sound.{IsSoundWorld}
use Rattle.ca_model.specs.machine.World.{Name, Region_of, Window_of, World}
use Rattle.ca_model.proofs.PerformLemmas.{row-performs}
use Rattle.ca_responder_operations.specs.Taking.{ended_by, unless_refused, without_key}
use Rattle.ca_responder_operations.specs.ca_qp_rows.Made.{written_all}
use Rattle.ca_adapter_reach.specs.declared.reached.Reached.{Reached}
use Rattle.ca_adapter_reach.specs.AtHand.{CanEnd, CanJudge, HasBytesAtHand}
use Rattle.ca_adapter_reach.specs.Changed.{after_end_of, after_write_by}
use Rattle.ca_adapter_reach.specs.Seen.{sight_of}
use Rattle.ca_adapter_parts.specs.declared.held.Held.{Held}
use Rattle.ca_adapter_parts.specs.HeldView.{holding}
use Rattle.ca_adapter_reach_laws.specs.Ties.{AreWritesAtHand, IsVacantOutside, with_reached}
use Rattle.ca_adapter_reach_laws.proofs.FitLemmas.{bytes-at-hand, parts-fit}
use Rattle.ca_adapter_reach_laws.proofs.LeftLemmas.{both-held, writes-held}
use Rattle.ca_adapter_reach_laws.proofs.SightLemmas.{sights-agree, vacant-outside}

pub front-pass : (test : Name → Bool) (xs ys : List Name) → AllPass test (xs ++ ys) → AllPass test xs
front-pass test [] ys all = tt
front-pass test (x ∷ xs) ys all = (all.0, front-pass test xs ys all.1)

pub behind-pass : (test : Name → Bool) (xs ys : List Name) → AllPass test (xs ++ ys) → AllPass test ys
behind-pass test [] ys all = all
behind-pass test (x ∷ xs) ys all = behind-pass test xs ys all.1

-- behind the looks for the grant of an ask
pub grant-passes : (test : Name → Bool) (c : Configuration) (w : World) (ask : Ask) (k : Option Grant → Plan)
    → AllPass test (touches w (With_grant c ask k)) → AllPass test (touches w (k (grant_in c w ask)))
grant-passes test c w ask k = by (names_region c ask.domain ask.key) (asks_window c ask)
  where
    slot : Slot
    slot = slot_of_key ask.domain ask.key

    plan : Window → Option Binding → Plan
    plan window None = k None
    plan window (Some b) = Look (Region_of (region_under window b)) (λ region. k (grant_if_fitting ask (grant_over window b region)))

    grant : Window → Option Binding → Option Grant
    grant window None = None
    grant window (Some b) = grant_if_fitting ask (grant_over window b (w.region (region_under window b)))

    bound : (o : Option Binding) → AllPass test (touches w (plan (w.window slot) o)) → AllPass test (touches w (k (grant (w.window slot) o)))
    bound None all = all
    bound (Some b) all = all.1

    by : (b z : Bool)
        → AllPass test (if b then Region_of slot ∷ touches w (k (grant_if_fitting ask (grant_of_region (w.region slot))))
        else if z then Window_of slot ∷ touches w (plan (w.window slot) (w.window slot).binding) else touches w (k None))
        → AllPass test (touches w (k (if b then grant_if_fitting ask (grant_of_region (w.region slot))
        else if z then grant (w.window slot) (w.window slot).binding else None)))
    by true z all = all.1
    by false true all = bound (w.window slot).binding all.1
    by false false all = all

pub grants-pass : (test : Name → Bool) (c : Configuration) (w : World) (asks : List Ask) (k : List (Option Grant) → Plan)
    → AllPass test (touches w (With_grants c asks k)) → AllPass test (touches w (k (map (grant_in c w) asks)))
grants-pass test c w [] k all = all
grants-pass test c w (ask ∷ asks) k all =
    grants-pass test c w asks (λ gs. k (grant_in c w ask ∷ gs)) (grant-passes test c w ask (λ g. With_grants c asks (λ gs. k (g ∷ gs))) all)

-- the bytes of each ask
bytes-pass : (test : Name → Bool) (c : Configuration) (w : World) (asks : List Ask) (k : List (List ℕ) → Plan)
    → AllPass test (touches w (With_bytes asks (map (grant_in c w) asks) k))
    → AllByRecursion (λ ask. AllPass test (byte_names (runs_in (sight_in c w) ask))) asks
bytes-pass test c w [] k all = tt
bytes-pass test c w (ask ∷ asks) k all = (
  front-pass test (byte_names (runs_in (sight_in c w) ask)) _ all,
  bytes-pass test c w asks _ (behind-pass test (byte_names (runs_in (sight_in c w) ask)) _ all),
)

pub denied-same : (c : Configuration) (w : World) (asks : List Ask) → first_denied_by asks (map (grant_in c w) asks) ≡ first_denied (sight_in c w) asks
denied-same c w [] = refl
denied-same c w (ask ∷ asks) = ap (or_denied ask (denial_in (sight_in c w) ask)) (denied-same c w asks)

-- where none of its asks is denied, a row's plan touches the bytes of each
row-bytes : (test : Name → Bool) (c : Configuration) (w : World) (row : Row) (finish : Effects → List Update → List Write → Plan)
    → AllPass test (touches w (Row_plan c row finish)) → first_denied (sight_in c w) row.asks ≡ None
    → AllByRecursion (λ ask. AllPass test (byte_names (runs_in (sight_in c w) ask))) row.asks
row-bytes test c w row finish all none =
    let P : Option DeniedAsk → Type 0 = λ d. AllPass test (touches w (plan d)) in
    bytes-pass test c w row.asks rest
    (subst P (denied-same c w row.asks ∙ none) (grants-pass test c w row.asks (λ grants. by grants (first_denied_by row.asks grants)) all))
  where
    rest : List (List ℕ) → Plan
    rest bytes = With_invalidation c row.invalidation (λ refusal changes. End_plan c finish (unless_none refusal changes) (row.allowed bytes refusal))

    by : List (Option Grant) → Option DeniedAsk → Plan
    by grants (Some denied) = End_plan c finish [] (row.denied denied)
    by grants None = With_bytes row.asks grants rest

    plan : Option DeniedAsk → Plan
    plan (Some denied) = End_plan c finish [] (row.denied denied)
    plan None = With_bytes row.asks (map (grant_in c w) row.asks) rest

-- all asks have what each has
each-at-hand : (h : Held) (s : Sight) → s ≡ sight_of h.reached → (asks : List Ask)
    → AllByRecursion (λ ask. AllPass (holding h).has (byte_names (runs_in s ask))) asks → AllByRecursion (HasBytesAtHand h.reached) asks
each-at-hand h s same [] all = tt
each-at-hand h s same (ask ∷ asks) all =
    let P : Sight → Type 0 = λ s. AllPass (holding h).has (byte_names (runs_in s ask)) in
    (bytes-at-hand h ask (subst P same all.0), each-at-hand h s same asks all.1)

each-judged : (r : Reached) (asks : List Ask) → ((ask : Ask) → CanJudge r ask) → AllByRecursion (CanJudge r) asks
each-judged r [] can = tt
each-judged r (ask ∷ asks) can = (can ask, each-judged r asks can)

pub rows-at-hand : (c : Configuration) (h : Held) (w : World) (row : Row) (finish : Effects → List Update → List Write → Plan)
    → IsSoundWorld c w → IsBoundWorld w → IsVacantOutside c w → ShowsHeld (holding h).parts (holding h).world w
    → AllPass (holding h).has (touches (holding h).world (Row_plan c row finish)) → AreAtHand sight_of CanJudge HasBytesAtHand h.reached row.asks
rows-at-hand c h w row finish sound bound out shows all =
    let same : sight_in c (holding h).world ≡ sight_of h.reached = sights-agree c h (vacant-outside c h w out shows) in
    record {
      keys = each-judged h.reached row.asks (λ ask. parts-fit c h w sound bound shows);
      bytes = λ none. each-at-hand h (sight_in c (holding h).world) same row.asks
          (row-bytes (holding h).has c (holding h).world row finish all (ap (λ s. first_denied s row.asks) same ∙ none));
    }

-- a row's plan does what the row does by what is seen of the parts in hand
pub row-seen : (c : Configuration) (h : Held) (row : Row) (finish : Effects → List Update → List Write → Plan) → IsVacantOutside c (holding h).world
    → perform (holding h).world (Row_plan c row finish)
    ≡ perform_ending (holding h).world (sight_of h.reached) finish (row_changes c (holding h).world row) (ending_of (sight_of h.reached) row)
row-seen c h row finish out =
    row-performs c (holding h).world row finish
    ∙ ap (λ (s : Sight). perform_ending (holding h).world s finish (row_changes c (holding h).world row) (ending_of s row)) (sights-agree c h out)

-- what a row's writes and the key that it ends leave
pub row-left : (c : Configuration) (h : Held) (row : Row) (xs : List (Ask × List ℕ)) → IsVacantOutside c (holding h).world
    → AreWritesAtHand h.reached xs → IfSome row.invalidation (CanEnd h.reached)
    → holding (with_reached h (without_key after_end_of (ended_by (sight_of h.reached) row) (written_all after_write_by h.reached xs)))
    ≡ record (holding h) { world = write_all (writes_in (sight_of h.reached) xs) (put_all (row_changes c (holding h).world row) (holding h).world) }
row-left c h row xs out can ends =
    left (first_denied s row.asks)
    ∙ ap (λ d. record (holding h) { world = write_all ws (put_all (changed d) w) }) (sym (ap (λ (s : Sight). first_denied s row.asks) same))
  where
    s : Sight
    s = sight_of h.reached

    w : World
    w = (holding h).world

    ws : List Write
    ws = writes_in (sight_of h.reached) xs

    same : sight_in c (holding h).world ≡ sight_of h.reached
    same = sights-agree c h out

    wrote : Reached
    wrote = written_all after_write_by h.reached xs

    changed : Option DeniedAsk → List Update
    changed (Some denied) = []
    changed None = option_map_or (λ i. unless_none (refusal_in c w i) (ending_changes c w i)) row.invalidation []

    ended : Option DeniedAsk → Option Invalidation
    ended (Some denied) = None
    ended None = unless_refused s row.invalidation

    refused : (i : Invalidation) → CanEnd h.reached i → (o : Option OpRefusal) → s.refusal i ≡ o
        → holding (with_reached h (without_key after_end_of (if is_none o then Some i else None) wrote))
        ≡ record (holding h) { world = write_all ws (put_all (unless_none o (ending_changes c w i)) w) }
    refused i can-end None e = both-held c h xs i out can can-end e
    refused i can-end (Some refusal) e = writes-held h xs can

    each : (o : Option Invalidation) → IfSome o (CanEnd h.reached)
        → holding (with_reached h (without_key after_end_of (unless_refused s o) wrote))
        ≡ record (holding h) { world = write_all ws (put_all (option_map_or (λ i. unless_none (refusal_in c w i) (ending_changes c w i)) o []) w) }
    each None end = writes-held h xs can
    each (Some i) end =
        refused i end (s.refusal i) refl
        ∙ ap (λ (o : Option OpRefusal). record (holding h) { world = write_all ws (put_all (unless_none o (ending_changes c w i)) w) })
        (sym (ap (λ (s : Sight). s.refusal i) same))

    left : (d : Option DeniedAsk)
        → holding (with_reached h (without_key after_end_of (ended d) wrote)) ≡ record (holding h) { world = write_all ws (put_all (changed d) w) }
    left (Some denied) = writes-held h xs can
    left None = each row.invalidation ends
