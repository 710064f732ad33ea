-- Rows whose endings are told with what is denied and refused: a denied ask is one of the row's, and an invalidation is
-- refused only where there is one. For proofs only.
use Rattle.std.proofs.Common.{◌≡◌, Bool, true, List, [], ◌∷◌, Option, None, Some, refl, ap, sym, ◌∙◌, true≢false, is_some}
use Rattle.std.proofs.lemmas.Bool.{and_parts}
use Rattle.std.proofs.lemmas.Option.{same_Some}
use Rattle.std.specs.List.{list_all}
use Rattle.ca_law_endings.proofs.LeadsLemmas.{AreAside, unless-aside}
use Rattle.ca_law_endings.specs.Runs.{Leads}
use Rattle.ca_base.specs.Configuration.{Configuration}
use Rattle.ca_base.specs.Sight.{Invalidation, denial_by_grant, or_denied, runs_by_grant}
use Rattle.ca_base.specs.declared.denied_ask.DeniedAsk.{DeniedAsk}
use Rattle.ca_base.specs.declared.refusals.OpRefusal.{OpRefusal}
use Rattle.ca_base.specs.objects.LocalRequest.{window_refusal}
use Rattle.ca_base.specs.objects.Region.{with_window_unbound}
use Rattle.ca_base.specs.objects.Slices.{slot_of_key}
use Rattle.ca_base.specs.objects.Window.{Binding, without_binding}
use Rattle.ca_keys.specs.declared.access.Ask.{Ask}
use Rattle.ca_keys.specs.declared.access.Denial.{Denial}
use Rattle.ca_keys.specs.declared.grant.Grant.{Grant}
use Rattle.ca_keys.specs.declared.names.Slot.{Slot}
use Rattle.ca_law_world.proofs.Sound.WorldLemmas.{EndingDoes, RowDoes}
use Rattle.ca_model.specs.declared.mark.Mark.{Mark}
use Rattle.ca_model.specs.machine.Plan.{Plan, Look, Update, ◌:=◌, Write}
use Rattle.ca_model.specs.machine.Row.{Does, Effects, Ending, End_plan, NotPossible, Row, Row_plan, With_bytes, With_invalidation, first_denied_by, region_under, unless_none}
use Rattle.ca_model.specs.machine.World.{Region_of, Window_of, World}
use Rattle.ca_keys.specs.Memory.{bytes_at}
use Rattle.ca_model.specs.machine.Row.{With_grant, With_grants, With_writes}
use Rattle.std.proofs.Common.{rules, ℕ}

-- what each ending of a row does; one that is denied is for an ask of the row, which has each test that all of them have,
-- and one with a refusal is of a row that ends a key
pub record RowSuch (E : Effects → Type 0) (row : Row) : Type 0 where
  pub denied : (d : DeniedAsk) → ((test : Ask → Bool) → list_all test row.asks ≡ true → test d.ask ≡ true) → EndingDoes E (row.denied d)
  pub allowed : (bytes : List (List ℕ)) (refusal : Option OpRefusal) → (row.invalidation ≡ None → refusal ≡ None) → EndingDoes E (row.allowed bytes refusal)

pub such-does : (E : Effects → Type 0) (row : Row) → RowDoes E row → RowSuch E row
such-does E row does = record { denied = λ d among. does.denied d; allowed = λ bytes refusal named. does.allowed bytes refusal }

among : (test : Ask → Bool) (asks : List Ask) (gs : List (Option Grant)) (d : DeniedAsk) → first_denied_by asks gs ≡ Some d → list_all test asks ≡ true → test d.ask ≡ true
among test [] gs d is all = absurd (true≢false (sym (ap is_some is)))
among test (ask ∷ asks) [] d is all = absurd (true≢false (sym (ap is_some is)))
among test (ask ∷ asks) (g ∷ gs) d is all = by (denial_by_grant ask g) is (λ later. among test asks gs d later (and_parts (test ask) _ all).1)
  where
    by : (o : Option Denial) → or_denied ask o (first_denied_by asks gs) ≡ Some d → (first_denied_by asks gs ≡ Some d → test d.ask ≡ true) → test d.ask ≡ true
    by None is rest = rest is
    by (Some denial) is rest = ap (λ (x : DeniedAsk). test x.ask) (sym (same_Some (record { ask = ask; denial = denial }) d is)) ∙ (and_parts (test ask) _ all).0

leads-grant : (c : Configuration) (w : World) (P : World → List Mark → Type 0) (ask : Ask) (k : Option Grant → Plan) → ((g : Option Grant) → Leads w P (k g)) → Leads w P (With_grant c ask k)
leads-grant c w P ask k more = search rules

leads-grants : (c : Configuration) (w : World) (P : World → List Mark → Type 0) (asks : List Ask) (k : List (Option Grant) → Plan) → ((gs : List (Option Grant)) → Leads w P (k gs))
    → Leads w P (With_grants c asks k)
leads-grants c w P [] k more = more []
leads-grants c w P (ask ∷ asks) k more =
    leads-grant c w P ask (λ g. With_grants c asks (λ gs. k (g ∷ gs))) (λ g. leads-grants c w P asks (λ gs. k (g ∷ gs)) (λ gs. more (g ∷ gs)))

leads-bytes : (w : World) (P : World → List Mark → Type 0) (asks : List Ask) (gs : List (Option Grant)) (k : List (List ℕ) → Plan) → ((bs : List (List ℕ)) → Leads w P (k bs))
    → Leads w P (With_bytes asks gs k)
leads-bytes w P [] gs k more = more []
leads-bytes w P (ask ∷ asks) [] k more = more []
leads-bytes w P (ask ∷ asks) (g ∷ gs) k more =
    leads-bytes w P asks gs (λ rest. k (bytes_at w.byte (runs_by_grant ask g) ∷ rest)) (λ rest. more (bytes_at w.byte (runs_by_grant ask g) ∷ rest))

leads-writes : (c : Configuration) (w : World) (P : World → List Mark → Type 0) (xs : List (Ask × List ℕ)) (k : List Write → Plan) → ((ws : List Write) → Leads w P (k ws))
    → Leads w P (With_writes c xs k)
leads-writes c w P [] k more = more []
leads-writes c w P (x ∷ xs) k more =
    leads-grant c w P x.0 (λ g. With_writes c xs (λ rest. k (record { runs = runs_by_grant x.0 g; bytes = x.1 } ∷ rest)))
    (λ g. leads-writes c w P xs _ (λ ws. more (record { runs = runs_by_grant x.0 g; bytes = x.1 } ∷ ws)))

leads-invalidation : (c : Configuration) (w : World) (P : World → List Mark → Type 0) (i : Option Invalidation) (k : Option OpRefusal → List Update → Plan)
    → ((r : Option OpRefusal) (cs : List Update) → (i ≡ None → r ≡ None) → AreAside cs → Leads w P (k r cs)) → Leads w P (With_invalidation c i k)
leads-invalidation c w P None k more = more None [] (λ none. refl) (record {})
leads-invalidation c w P (Some i) k more = (λ named. more _ _ some (record {}, record {}), λ none. (λ named. by (w.window slot).binding, λ none. more _ [] some (record {})))
  where
    slot : Slot
    slot = slot_of_key i.domain i.key

    some : {r : Option OpRefusal} → Some i ≡ None → r ≡ None
    some is = absurd (true≢false (ap is_some is))

    plan : Option Binding → Plan
    plan None = k (window_refusal i.key i.queue (w.window slot)) []
    plan (Some b) = Look (Region_of (region_under (w.window slot) b)) (λ region.
        k (window_refusal i.key i.queue (w.window slot))
        ((Window_of slot := without_binding (w.window slot)) ∷ (Region_of (region_under (w.window slot) b) := with_window_unbound region) ∷ []))

    by : (o : Option Binding) → Leads w P (plan o)
    by None = more _ [] some (record {})
    by (Some b) = more _ _ some (record {}, (record {}, record {}))

-- a row's plan leads where each of its endings does, with what the end of its key changes
pub leads-such : (c : Configuration) (w : World) (P : World → List Mark → Type 0) (E : Effects → Type 0) (row : Row) (finish : Effects → List Update → List Write → Plan) → RowSuch E row
    → ((e : Effects) (cs : List Update) (ws : List Write) → E e → AreAside cs → Leads w P (finish e cs ws)) → Leads w P (Row_plan c row finish)
leads-such c w P E row finish does more = leads-grants c w P row.asks _ (λ gs. by gs (first_denied_by row.asks gs) refl)
  where
    ending : (cs : List Update) (e : Ending) → AreAside cs → EndingDoes E e → Leads w P (End_plan c finish cs e)
    ending cs (NotPossible reason) aside does = record {}
    ending cs (Does e) aside does = leads-writes c w P e.writes (λ writes. finish e cs writes) (λ ws. more e cs ws does aside)

    plan : List (Option Grant) → Option DeniedAsk → Plan
    plan gs (Some d) = End_plan c finish [] (row.denied d)
    plan gs None = With_bytes row.asks gs (λ bytes. With_invalidation c row.invalidation (λ refusal cs.
        End_plan c finish (unless_none refusal cs) (row.allowed bytes refusal)))

    by : (gs : List (Option Grant)) (d : Option DeniedAsk) → first_denied_by row.asks gs ≡ d → Leads w P (plan gs d)
    by gs (Some d) is = ending [] (row.denied d) (record {}) (does.denied d (λ test all. among test row.asks gs d is all))
    by gs None is = leads-bytes w P row.asks gs (λ bytes. With_invalidation c row.invalidation (λ refusal cs. End_plan c finish (unless_none refusal cs) (row.allowed bytes refusal)))
        (λ bytes. leads-invalidation c w P row.invalidation (λ refusal cs. End_plan c finish (unless_none refusal cs) (row.allowed bytes refusal))
        (λ refusal cs named aside. ending (unless_none refusal cs) (row.allowed bytes refusal) (unless-aside refusal cs aside) (does.allowed bytes refusal named)))
