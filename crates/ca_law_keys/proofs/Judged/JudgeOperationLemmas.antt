-- A local operation grants what is whole, and its other marks are judged whatever came before. For proofs only.
use Rattle.std.proofs.Common.{◌∙◌, length, ◌≡◌, ℕ, suc, Bool, true, false, if◌then◌else◌, List, [], ◌∷◌, ◌++◌, map, Option, None, Some, refl, sym, ap, subst, true≢false, IfSome, ◌==◌, not, is_some}
use Rattle.std.specs.Option.{option_and_then, option_map_or, option_map}
use Rattle.ca_law_endings.proofs.LeadsLemmas.{comes}
use Rattle.ca_law_endings.specs.Runs.{Comes, Leads}
use Rattle.ca_law_keys.proofs.Judged.JudgeLemmas.{Judges, RowJudged, both-true, plain-judged}
use Rattle.ca_law_endings.proofs.Leading.{leads-from}
use Rattle.ca_law_keys.proofs.Judged.JudgeRowLemmas.{invalidate-judged}
use Rattle.ca_law_keys.proofs.Keys.PlainLemmas.{failure-plain, success-plain}
use Rattle.ca_base.specs.Configuration.{Configuration}
use Rattle.ca_base.specs.Sight.{Sight, bytes_in, first_denied}
use Rattle.ca_base.specs.declared.completion.WcStatus.TheVariants.{MemoryManagement}
use Rattle.ca_base.specs.declared.denied_ask.DeniedAsk.{DeniedAsk}
use Rattle.ca_base.specs.declared.refusals.OpRefusal.{OpRefusal}
use Rattle.ca_base.specs.declared.request.SendOp.{SendOp}
use Rattle.ca_base.specs.declared.request.SendOp.TheVariants as ops
use Rattle.ca_base.specs.objects.LocalRequest.{LocalMarks, bind1_request_refusals, bind2_request_refusals, fast_request_refusals, of_window}
use Rattle.ca_base.specs.objects.QueuePair.{QueuePair}
use Rattle.ca_base.specs.objects.Window.{Binding, Window, binding_refusals, is_within}
use Rattle.ca_keys.specs.declared.grant.Grant.{Grant}
use Rattle.ca_keys.specs.declared.key.Key.{Key}
use Rattle.ca_keys.specs.declared.names.DomainId.{DomainId}
use Rattle.ca_keys.specs.declared.names.QueueId.{QueueId}
use Rattle.ca_keys.specs.declared.rights.Rights.{Rights}
use Rattle.ca_law_world.proofs.Sound.WorldLemmas.{EndingDoes}
use Rattle.ca_model.proofs.PerformLemmas.{row-performs}
use Rattle.ca_model.specs.Past.{Past, each_mark}
use Rattle.ca_model.specs.declared.mark.Mark.{Mark}
use Rattle.ca_model.specs.declared.mark.Mark.TheVariants as marks
use Rattle.ca_model.specs.machine.Acknowledgements.{failure_effects}
use Rattle.ca_model.specs.machine.Completions.{success_marks}
use Rattle.ca_model.specs.machine.LocalOperations.{Bind1_plan, Bind2_plan, Finishing, Perform_op, PlacedRegion, With_former, With_named, bind1_changes, bind1_marks, bind1_refusal, bind2_changes, bind2_marks, bind2_refusal, drawn_by, fast_marks, fast_refusal, invalidate_row, operation_effects, region_slot, window_slot, bind_grant, view_named}
use Rattle.ca_model.specs.machine.Numbering.{Numbered}
use Rattle.ca_model.specs.machine.Plan.{Plan, Look, Update, Write}
use Rattle.ca_model.specs.machine.Row.{Ending, NotPossible, Does, Effects, Row, Row_plan, queue_and_marks, region_under, unless_none}
use Rattle.ca_model.specs.machine.Seen.{ending_changes, perform_ending, refusal_in, sight_in, writes_in}
use Rattle.ca_model.specs.machine.Sound.{IsSoundWorld}
use Rattle.ca_model.specs.machine.World.{Region_of, World}
use Rattle.std.proofs.lemmas.Bool.{eq-eqb, eqb-true, not-false, or_parts}
use Rattle.ca_law_keys.proofs.Judged.WholeLemmas.{IsWhole, part-whole, region-whole, some-path}
use Rattle.ca_keys.specs.Memory.{places_count}
use Rattle.ca_keys.specs.declared.names.Slot.{Slot}
use Rattle.ca_law_world.proofs.Sound.RegionLemmas.{sound-fast}
use Rattle.ca_law_world.proofs.Sound.TurnLemmas.{all-fail}
use Rattle.ca_law_world.proofs.Windows.WindowBindLemmas.{IsInside, named-within}
use Rattle.ca_model.specs.Judged.{is_judged}
use Rattle.ca_base.specs.objects.Region.{Region, grant_of_region, pages_needed}
use Rattle.ca_base.specs.objects.Slices.{buffer_length, slot_of_key}
use Rattle.ca_base.specs.Grants.{grant_of_bind, grant_of_fast_registration}
use Rattle.ca_keys.specs.Refusals.{AllFail}

-- a row's plan leads on with marks that are judged
pub leads-judged : (c : Configuration) (w : World) (P : World → List Mark → Type 0) (I : Past → Type 0) (row : Row) (finish : Effects → List Update → List Write → Plan) → RowJudged (sight_in c w) I row
    → ((e : Effects) (cs : List Update) (ws : List Write) → Judges I e.marks → Leads w P (finish e cs ws)) → Leads w P (Row_plan c row finish)
leads-judged c w P I row finish judged more = leads-from w P (Row_plan c row finish) (subst (Comes P) (sym (row-performs c w row finish)) (by (first_denied s row.asks) refl))
  where
    s : Sight
    s = sight_in c w

    bytes : List (List ℕ)
    bytes = map (bytes_in s) row.asks

    changed : Option DeniedAsk → List Update
    changed (Some d) = []
    changed None = option_map_or (λ i. unless_none (refusal_in c w i) (ending_changes c w i)) row.invalidation []

    end : Option DeniedAsk → Ending
    end (Some d) = row.denied d
    end None = row.allowed bytes (option_and_then (refusal_in c w) row.invalidation)

    ends : (cs : List Update) (e : Ending) → EndingDoes (λ e. Judges I e.marks) e → Comes P (perform_ending w s finish cs e)
    ends cs (NotPossible reason) does = record {}
    ends cs (Does e) does = comes w P (finish e cs (writes_in s e.writes)) (more e cs (writes_in s e.writes) does)

    by : (d : Option DeniedAsk) → first_denied s row.asks ≡ d → Comes P (perform_ending w s finish (changed d) (end d))
    by (Some d) is = ends [] (row.denied d) (judged.denied d is)
    by None is = ends (changed None) (end None) (judged.allowed is (option_and_then (refusal_in c w) row.invalidation))

-- what an operation grants is whole, and the rest of its marks are plain
operation-judged : (q after : QueuePair) (n : Numbered) (m : LocalMarks) (refusal : Option OpRefusal) → (refusal ≡ None → (g : Grant) → m.granted ≡ Some g → IsWhole g)
    → (p : Past) → each_mark is_judged p (operation_effects q n after m refusal).marks ≡ true
operation-judged q after n m (Some cause) whole p = plain-judged (failure_effects MemoryManagement (Some cause) q).marks (failure-plain MemoryManagement (Some cause) q).marks p
operation-judged q after n m None whole p = by m.revoked m.granted refl
  where
    ms : List Mark
    ms = success_marks q.queue n.place n.request

    rest : (x : Past) → each_mark is_judged x ms ≡ true
    rest x = plain-judged ms (success-plain q.queue n.place n.request) x

    by : (o : Option Key) (r : Option Grant) → m.granted ≡ r
        → each_mark is_judged p ((option_map_or (λ key. marks.Revoked q.queue.adapter key ∷ []) o [] ++ option_map_or (λ g. marks.Granted g ∷ []) r []) ++ ms) ≡ true
    by None None e = rest p
    by None (Some g) e = both-true (places_count g.runs == g.length) _ (eq-eqb (places_count g.runs) g.length (whole refl g e)) (rest _)
    by (Some key) None e = rest _
    by (Some key) (Some g) e = both-true (places_count g.runs == g.length) _ (eq-eqb (places_count g.runs) g.length (whole refl g e)) (rest _)

-- how an operation's plan may go on
abbrev pub GoesOn : World → (World → List Mark → Type 0) → Finishing → Type 0
GoesOn w P finish = (e : Effects) (cs : List Update) (ws : List Write) → ((p : Past) → each_mark is_judged p e.marks ≡ true) → Leads w P (finish e cs ws)

-- a region that is named stands for a whole grant
abbrev IsNamedWhole : Option PlacedRegion → Type 0
IsNamedWhole named = IfSome named (λ n. (h : Grant) → grant_of_region n.region ≡ Some h → IsWhole h)

leads-named : (c : Configuration) (w : World) (P : World → List Mark → Type 0) (d : DomainId) (key : Key) (k : Option PlacedRegion → Plan) → IsSoundWorld c w
    → ((r : Option PlacedRegion) → IsNamedWhole r → Leads w P (k r)) → Leads w P (With_named c d key k)
leads-named c w P d key k sound more = (λ named. more _ (λ h is. region-whole c slot (w.region slot).low (w.region slot).state h (sound.things (Region_of slot)) is), λ none. more None (record {}))
  where
    slot : Slot
    slot = slot_of_key d key

leads-former : (w : World) (P : World → List Mark → Type 0) (x : Window) (k : Option PlacedRegion → Plan) → ((r : Option PlacedRegion) → Leads w P (k r)) → Leads w P (With_former x k)
leads-former w P x k more = by x.binding
  where
    former : Option Binding → Plan
    former None = k None
    former (Some b) = Look (Region_of (region_under x b)) (λ region. k (Some (record { slot = region_under x b; region = region })))

    by : (o : Option Binding) → Leads w P (former o)
    by None = more None
    by (Some b) = more _

-- the grant of a bind within a region
bind-whole : (slot : Slot) (low : ℕ) (queue : Option QueueId) (named : Option PlacedRegion) (key : Key) (address count : ℕ) (rights : Rights) → IsNamedWhole named
    → option_map_or (is_within address count) (view_named key named) false ≡ true → (g : Grant) → bind_grant slot low queue named address count rights ≡ Some g → IsWhole g
bind-whole slot low queue None key address count rights whole within g is = absurd (true≢false (sym (ap is_some is)))
bind-whole slot low queue (Some n) key address count rights whole within g is = subst IsWhole (some-path bound g (sym (ap (option_map (λ h. grant_of_bind slot low queue h address count rights)) inside.is) ∙ is))
    (part-whole inside.grant address count (whole inside.grant inside.is) inside.low inside.high)
  where
    inside : IsInside address count n.region
    inside = (named-within key (Some n) address count within).0

    bound : Grant
    bound = grant_of_bind slot low queue inside.grant address count rights

leads-bind1 : (c : Configuration) (w : World) (P : World → List Mark → Type 0) (q : QueuePair) (n : Numbered) (window : ℕ) (key : Key) (address count : ℕ) (rights : Rights) (finish : Finishing) → IsSoundWorld c w
    → GoesOn w P finish → Leads w P (Bind1_plan c q n window key address count rights finish)
leads-bind1 c w P q n window key address count rights finish sound more = leads-named c w P q.domain key (λ named. With_former x (λ former. ending named former)) sound (λ named whole.
    leads-former w P x (λ former. ending named former) (λ former. more (operation_effects q n q (bind1_marks q n window named address count rights x) (bind1_refusal n key named address count rights x)) _ []
    (operation-judged q q n (bind1_marks q n window named address count rights x) (bind1_refusal n key named address count rights x) (told named whole))))
  where
    x : Window
    x = w.window (window_slot q window)

    ending : Option PlacedRegion → Option PlacedRegion → Plan
    ending named former = finish (operation_effects q n q (bind1_marks q n window named address count rights x) (bind1_refusal n key named address count rights x))
        (unless_none (bind1_refusal n key named address count rights x) (bind1_changes (window_slot q window) (drawn_by n) x former named address count rights)) []

    told : (named : Option PlacedRegion) → IsNamedWhole named → bind1_refusal n key named address count rights x ≡ None → (g : Grant) → (bind1_marks q n window named address count rights x).granted ≡ Some g → IsWhole g
    told named whole none g is = by (count == 0) (all-fail (bind1_request_refusals n.drawn (view_named key named) address count rights x) none).1.1.1 is
      where
        by : (b : Bool) → AllFail (of_window (if b then [] else binding_refusals (view_named key named) address count rights))
            → (if b then None else bind_grant (window_slot q window) (drawn_by n) None named address count rights) ≡ Some g → IsWhole g
        by true fails is = absurd (true≢false (sym (ap is_some is)))
        by false fails is = bind-whole (window_slot q window) (drawn_by n) None named key address count rights whole
            (not-false (option_map_or (is_within address count) (view_named key named) false) fails.1.1.1.0) g is

leads-bind2 : (c : Configuration) (w : World) (P : World → List Mark → Type 0) (q : QueuePair) (n : Numbered) (window : ℕ) (key : Key) (low address count : ℕ) (rights : Rights) (finish : Finishing) → IsSoundWorld c w
    → GoesOn w P finish → Leads w P (Bind2_plan c q n window key low address count rights finish)
leads-bind2 c w P q n window key low address count rights finish sound more = leads-named c w P q.domain key (λ named. With_former x (λ former. ending named)) sound (λ named whole.
    leads-former w P x (λ former. ending named) (λ former. more (operation_effects q n (record q { windows = suc q.windows }) (bind2_marks q window low named address count rights) (bind2_refusal key named address count rights x)) _ []
    (operation-judged q (record q { windows = suc q.windows }) n (bind2_marks q window low named address count rights) (bind2_refusal key named address count rights x) (told named whole))))
  where
    x : Window
    x = w.window (window_slot q window)

    ending : Option PlacedRegion → Plan
    ending named = finish (operation_effects q n (record q { windows = suc q.windows }) (bind2_marks q window low named address count rights) (bind2_refusal key named address count rights x))
        (unless_none (bind2_refusal key named address count rights x) (bind2_changes (window_slot q window) low q.queue x named address count rights)) []

    told : (named : Option PlacedRegion) → IsNamedWhole named → bind2_refusal key named address count rights x ≡ None → (g : Grant) → (bind2_marks q window low named address count rights).granted ≡ Some g → IsWhole g
    told named whole none g is = bind-whole (window_slot q window) low (Some q.queue) named key address count rights whole
        (not-false (option_map_or (is_within address count) (view_named key named) false)
        (all-fail (bind2_request_refusals (view_named key named) address count rights x) none).1.1.1.1.1.1.1.0) g is

-- what a fast registration grants
fast-whole : (c : Configuration) (q : QueuePair) (region low buffer address count : ℕ) (rights : Rights) (pages : List ℕ) (r : Region) → fast_refusal c q region buffer address count rights pages r ≡ None
    → (g : Grant) → (fast_marks q region low buffer address count rights pages).granted ≡ Some g → IsWhole g
fast-whole c q region low buffer address count rights pages r none g is = subst IsWhole (some-path (grant_of_fast_registration (region_slot q region) low buffer address count rights pages) g is)
    (sound-fast c (region_slot q region) low buffer address count rights pages
    (eqb-true (length pages) (pages_needed address count) (not-false (length pages == pages_needed address count) (or_parts _ (not (length pages == pages_needed address count)) fails.1.1.0).1)) fails.1.1.1.0).places
  where
    fails : AllFail (fast_request_refusals (region_slot q region) buffer (buffer_length c q.domain.adapter buffer) address count rights pages r)
    fails = all-fail (fast_request_refusals (region_slot q region) buffer (buffer_length c q.domain.adapter buffer) address count rights pages r) none

pub leads-perform : (c : Configuration) (w : World) (P : World → List Mark → Type 0) (q : QueuePair) (n : Numbered) (finish : Finishing) (op : SendOp) → IsSoundWorld c w → GoesOn w P finish → Leads w P (Perform_op c q n finish op)
leads-perform c w P q n finish (ops.Bind1 window key address count rights) sound more = leads-bind1 c w P q n window key address count rights finish sound more
leads-perform c w P q n finish (ops.Bind2 window key low address count rights) sound more = leads-bind2 c w P q n window key low address count rights finish sound more
leads-perform c w P q n finish (ops.FastReg region low buffer address count rights pages) sound more =
    more (operation_effects q n q (fast_marks q region low buffer address count rights pages) (fast_refusal c q region buffer address count rights pages r)) _ []
    (operation-judged q q n (fast_marks q region low buffer address count rights pages) (fast_refusal c q region buffer address count rights pages r) (fast-whole c q region low buffer address count rights pages r))
  where
    r : Region
    r = w.region (region_slot q region)
leads-perform c w P q n finish (ops.LocalInv key) sound more = leads-judged c w P (λ p. Unit {0}) (invalidate_row q n key) finish (invalidate-judged (sight_in c w) (λ p. Unit {0}) q n key) (λ e cs ws judged. more e cs ws (λ p. judged p (record {})))
leads-perform c w P q n finish (ops.Send list) sound more = more (queue_and_marks q []) [] [] (λ p. refl)
leads-perform c w P q n finish (ops.SendImm imm list) sound more = more (queue_and_marks q []) [] [] (λ p. refl)
leads-perform c w P q n finish (ops.SendInv key list) sound more = more (queue_and_marks q []) [] [] (λ p. refl)
leads-perform c w P q n finish (ops.Write address key list) sound more = more (queue_and_marks q []) [] [] (λ p. refl)
leads-perform c w P q n finish (ops.WriteImm address key imm list) sound more = more (queue_and_marks q []) [] [] (λ p. refl)
leads-perform c w P q n finish (ops.Read address key list) sound more = more (queue_and_marks q []) [] [] (λ p. refl)
leads-perform c w P q n finish (ops.CmpSwap address key compare swap list) sound more = more (queue_and_marks q []) [] [] (λ p. refl)
leads-perform c w P q n finish (ops.FetchAdd address key add list) sound more = more (queue_and_marks q []) [] [] (λ p. refl)
