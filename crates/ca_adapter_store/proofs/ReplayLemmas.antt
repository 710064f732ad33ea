-- A list of events made one after another is what the machine runs. For proofs only.
use Rattle.std.proofs.Common.{get_or, ◌≡◌, ◌∙◌, refl, sym, ap, subst, ℕ, suc, ◌+◌, ◌<◌, ◌-◌, ◌^◌, arith, List, [], ◌∷◌, ◌++◌, drop, length, map, Result, Ok, Err, IfOk, OnOk}
use Rattle.std.proofs.lemmas.List.{drop_more}
use Rattle.std.specs.Global.{Vec}
use Rattle.std.specs.List.{AllByRecursion}
use Rattle.ca_law_endings.proofs.EventFitLemmas.{followed-is-history}
use Rattle.ca_law_endings.specs.Runs.{AreStamped}
use Rattle.ca_base.specs.Configuration.{Configuration}
use Rattle.ca_base.specs.declared.step.Reason.{Reason}
use Rattle.ca_base.specs.declared.step.ActError.{ActError}
use Rattle.ca_base.specs.declared.step.ActError.TheVariants as steps
use Rattle.ca_keys.specs.Memory.{ByteMap}
use Rattle.ca_model.specs.Entries.{EntryValue}
use Rattle.ca_model.specs.History.{IsHistory}
use Rattle.ca_model.specs.Marks.{MarkList}
use Rattle.ca_model.specs.declared.event.Event.{Event}
use Rattle.ca_model.specs.declared.mark.Mark.{Mark}
use Rattle.ca_model.specs.machine.Plan.{Did, NotReady, Outcome}
use Rattle.ca_model.specs.machine.Run.{Follows, Ran, go_on, run_from, run_over, with_marks}
use Rattle.ca_model.specs.machine.Sound.{AreLimited, CanBeMade}
use Rattle.ca_model.specs.machine.Step.{step}
use Rattle.ca_model.specs.machine.World.{World, opening_world}
use Rattle.ca_adapter_store.specs.declared.events.ReplayError.{ReplayError}
use Rattle.ca_adapter_store.specs.declared.events.ReplayError.TheVariants as errors
use Rattle.ca_adapter_store.specs.declared.row.Row.{Row}
use Rattle.ca_adapter_store.specs.Replaying.{IsReplaying, RunsOn, marks_before}
use Rattle.ca_adapter_store.specs.Replays.{IsReplay, entries_from, history_of, marks_of_each, stop_at}
use Rattle.ca_adapter_store.specs.Rows.{IsMade, IsRow, IsRowOf, count_after}

-- nothing was made yet
pub begins : (row : Row) (events : List Event) → IsRow row → IsReplaying row events row [] events
begins row events is = record {
  stands = is;
  count = refl;
  made = λ all. all;
  runs = λ c w of. record { world = w; of = of; runs = refl };
}

before-one : (all : List MarkList) (m : MarkList) (ran : Ran) → marks_before (marks_of_each (all ++ m ∷ [])) ran ≡ marks_before (marks_of_each all) (with_marks m.marks ran)
before-one [] m ran = refl
before-one (x ∷ xs) m ran = ap (with_marks x.marks) (before-one xs m ran)

-- one event more was made
runs-on : (c : Configuration) (w : World) (n : ℕ) (events : List Event) (row new : Row) (all : List MarkList) (event : Event) (rest : List Event) (m : MarkList)
    → RunsOn c w n events row all (event ∷ rest) → new.count ≡ suc row.count
    → ((v : World) → IsRowOf c v row → IsMade (Ok m) (step c v event) v (λ u. IsRowOf c u new))
    → RunsOn c w n events new (all ++ m ∷ []) rest
runs-on c w n events row new all event rest m so count step-made = by (step c so.world event) refl (step-made so.world so.of)
  where
    by : (o : Outcome) → step c so.world event ≡ o → IsMade (Ok m) o so.world (λ u. IsRowOf c u new) → RunsOn c w n events new (all ++ m ∷ []) rest
    by (NotReady reason) is made = absurd made
    by (Did v ms) is made = record {
      world = v;
      of = made.1;
      runs = so.runs ∙ ap (marks_before (marks_of_each all)) (
          ap (λ o. go_on row.count o (λ v. run_from c (suc row.count) v rest)) is
          ∙ ap (λ xs. with_marks xs (run_from c (suc row.count) v rest)) (sym made.0)
          ∙ ap (λ k. with_marks m.marks (run_from c k v rest)) (sym count)
          ) ∙ sym (before-one all m (run_from c new.count v rest));
    }

-- the event to come
pub at_event : (old row : Row) (events : List Event) (all : List MarkList) (index : ℕ) (event : Event) → index < length events → event ≡ get_or events index event
    → IsReplaying old events row all (drop index events) → IsReplaying old events row all (event ∷ drop (index + 1) events)
at_event old row events all index event more is so =
    subst (IsReplaying old events row all) (drop_more events index event more ∙ ap (λ x. x ∷ drop (index + 1) events) (sym is)) so

pub goes_on : (old row new : Row) (events : List Event) (all : List MarkList) (event : Event) (rest : List Event) (m : MarkList)
    → IsReplaying old events row all (event ∷ rest) → IsRow new → CanBeMade event → new.count ≡ count_after (Ok m) row.count
    → ((c : Configuration) (v : World) → IsRowOf c v row → IsMade (Ok m) (step c v event) v (λ u. IsRowOf c u new))
    → (now : List MarkList) → now ≡ all ++ m ∷ [] → IsReplaying old events new now rest
goes_on old row new events all event rest m so is can count made now added = subst (λ xs. IsReplaying old events new xs rest) (sym added) (record {
  stands = is;
  count = ap (λ n. n + length rest) count ∙ one-less row.count (length rest) ∙ so.count;
  made = λ more. so.made (can, more);
  runs = λ c w of. runs-on c w old.count events row new all event rest m (so.runs c w of) count (made c);
})
  where
    one-less : (a b : ℕ) → suc a + b ≡ a + suc b
    one-less a b = omega arith

-- the count of a row on which more events are to come
pub few_left : (old row : Row) (events rest : List Event) (event : Event) (all : List MarkList) → IsReplaying old events row all (event ∷ rest)
    → old.count + length events < 2 ^ 32 - 1 → row.count < 2 ^ 32 - 2
few_left old row events rest event all so few = by (length rest) so.count
  where
    by : (k : ℕ) → row.count + suc k ≡ old.count + length events → row.count < 2 ^ 32 - 2
    by k count = omega (arith, count, few)

-- all were made
all-before : (all : List MarkList) → marks_before (marks_of_each all) (Ok []) ≡ Ok (marks_of_each all)
all-before [] = refl
all-before (x ∷ xs) = ap (with_marks x.marks) (all-before xs)

pub ends : (old row : Row) (events : List Event) (all : Vec MarkList) → IsReplaying old events row all.items []
    → (c : Configuration) (w : World) → IsRowOf c w old → IsReplay (Ok all) (run_from c old.count w events)
ends old row events all so c w of = (so.runs c w of).runs ∙ all-before all.items

-- an event is not possible
stops-before : (all : List (List Mark)) (place : ℕ) (reason : Reason) → marks_before all (Err (place, reason)) ≡ Err (place, reason)
stops-before [] place reason = refl
stops-before (x ∷ xs) place reason = ap (with_marks x) (stops-before xs place reason)

pub stops : (old row new : Row) (events : List Event) (all : List MarkList) (event : Event) (rest : List Event) (error : ActError)
    → IsReplaying old events row all (event ∷ rest) → new.count ≡ count_after (Err error) row.count
    → ((c : Configuration) (v : World) → IsRowOf c v row → IsMade (Err error) (step c v event) v (λ u. IsRowOf c u new))
    → (said : ReplayError) → said ≡ stop_at new.count error → (c : Configuration) (w : World) → IsRowOf c w old → IsReplay (Err said) (run_from c old.count w events)
stops old row new events all event rest steps.Memory so count made said is c w of = subst (λ e. IsReplay (Err e) (run_from c old.count w events)) (sym is) (record {})
stops old row new events all event rest (steps.NotReady reason) so count made said is c w of =
    subst (λ e. IsReplay (Err e) (run_from c old.count w events)) (sym is) (by (step c at.world event) refl (made c at.world at.of))
  where
    at : RunsOn c w old.count events row all (event ∷ rest)
    at = so.runs c w of

    by : (o : Outcome) → step c at.world event ≡ o → IsMade (Err (steps.NotReady reason)) o at.world (λ u. IsRowOf c u new)
        → IsReplay (Err (errors.NotReady new.count reason)) (run_from c old.count w events)
    by (Did v ms) is made = absurd made
    by (NotReady why) is made =
        at.runs ∙ ap (λ o. marks_before (marks_of_each all) (go_on row.count o (λ v. run_from c (suc row.count) v rest))) is
        ∙ stops-before (marks_of_each all) row.count why ∙ (λ i. Err (sym count i, sym made.0 i))

-- a run that ends well has the marks of each event
ran-length : (c : Configuration) (n : ℕ) (w : World) (events : List Event) (each : List (List Mark)) → run_from c n w events ≡ Ok each → length events ≡ length each
ran-length c n w [] [] ran = refl
ran-length c n w [] (ms ∷ each) ran = absurd (nothing (Ok []) ran (record {}))
  where
    case : Ran → Type 0
    case (Ok []) = Unit {0}
    case (Ok (x ∷ xs)) = ⊥
    case (Err stop) = Unit {0}

    nothing : (r : Ran) → r ≡ Ok (ms ∷ each) → case r → ⊥
    nothing r is at = subst case is at
ran-length c n w (event ∷ events) each ran = by (λ v rest. ran-length c (suc n) v events rest) (step c w event) ran
  where
    marked : ((v : World) (rest : List (List Mark)) → run_from c (suc n) v events ≡ Ok rest → length events ≡ length rest)
        → (ms : List Mark) (v : World) (r : Ran) → run_from c (suc n) v events ≡ r → (xs : List (List Mark)) → with_marks ms r ≡ Ok xs → suc (length events) ≡ length xs
    marked again ms v (Err stop) is xs ok = absurd (subst case ok (record {}))
      where
        case : Ran → Type 0
        case (Ok xs) = ⊥
        case (Err stop) = Unit {0}
    marked again ms v (Ok rest) is xs ok = ap suc (again v rest is) ∙ subst case ok refl
      where
        case : Ran → Type 0
        case (Ok xs) = suc (length rest) ≡ length xs
        case (Err stop) = Unit {0}

    by : ((v : World) (rest : List (List Mark)) → run_from c (suc n) v events ≡ Ok rest → length events ≡ length rest)
        → (o : Outcome) → go_on n o (λ v. run_from c (suc n) v events) ≡ Ok each → suc (length events) ≡ length each
    by again (NotReady reason) ok = absurd (subst case ok (record {}))
      where
        case : Ran → Type 0
        case (Ok xs) = ⊥
        case (Err stop) = Unit {0}
    by again (Did v ms) ok = marked again ms v (run_from c (suc n) v events) refl each ok

events-kept : (n : ℕ) (events : List Event) (all : List MarkList) → length events ≡ length all → map (λ (e : EntryValue). e.event) (entries_from n events all) ≡ events
events-kept n [] [] same = refl
events-kept n [] (m ∷ all) same = absurd (nat-none same)
  where
    nat-none : 0 ≡ suc (length all) → ⊥
    nat-none is = omega (arith, is)
events-kept n (event ∷ events) [] same = absurd (nat-none same)
  where
    nat-none : suc (length events) ≡ 0 → ⊥
    nat-none is = omega (arith, is)
events-kept n (event ∷ events) (m ∷ all) same = ap (λ xs. event ∷ xs) (events-kept (suc n) events all (omega (arith, same)))

marks-kept : (n : ℕ) (events : List Event) (all : List MarkList) → length events ≡ length all → map (λ (e : EntryValue). e.marks) (entries_from n events all) ≡ marks_of_each all
marks-kept n [] [] same = refl
marks-kept n [] (m ∷ all) same = absurd (nat-none same)
  where
    nat-none : 0 ≡ suc (length all) → ⊥
    nat-none is = omega (arith, is)
marks-kept n (event ∷ events) [] same = absurd (nat-none same)
  where
    nat-none : suc (length events) ≡ 0 → ⊥
    nat-none is = omega (arith, is)
marks-kept n (event ∷ events) (m ∷ all) same = ap (λ xs. m.marks ∷ xs) (marks-kept (suc n) events all (omega (arith, same)))

stamped : (n : ℕ) (events : List Event) (all : List MarkList) → AreStamped n (entries_from n events all)
stamped n [] all = record {}
stamped n (event ∷ events) [] = record {}
stamped n (event ∷ events) (m ∷ all) = (refl, stamped (suc n) events all)

pub history_stamped : (events : List Event) (all : List MarkList) → AreStamped 0 (history_of events all)
history_stamped events all = stamped 0 events all

-- the history of events with the marks that the machine gives them follows it
pub history_follows : (c : Configuration) (bytes : ByteMap) (events : List Event) (all : Vec MarkList) → IsReplay (Ok all) (run_over c bytes events)
    → Follows c bytes (history_of events all.items)
history_follows c bytes events all is =
    ap (run_over c bytes) (events-kept 0 events all.items same) ∙ is ∙ ap Ok (sym (marks-kept 0 events all.items same))
  where
    map-length : (xs : List MarkList) → length (marks_of_each xs) ≡ length xs
    map-length [] = refl
    map-length (x ∷ xs) = ap suc (map-length xs)

    same : length events ≡ length all.items
    same = ran-length c 0 (opening_world bytes) events (marks_of_each all.items) is ∙ map-length all.items

entries-made : (n : ℕ) (events : List Event) (all : List MarkList) → AllByRecursion CanBeMade events → AllByRecursion (λ (e : EntryValue). CanBeMade e.event) (entries_from n events all)
entries-made n [] all made = record {}
entries-made n (event ∷ events) [] made = record {}
entries-made n (event ∷ events) (m ∷ all) made = (made.0, entries-made (suc n) events all made.1)

pub history_made : (events : List Event) (all : List MarkList) → AllByRecursion CanBeMade events → AllByRecursion (λ (e : EntryValue). CanBeMade e.event) (history_of events all)
history_made events all made = entries-made 0 events all made

-- a row that was opened
pub from_opening : (c : Configuration) (bytes : ByteMap) (row : Row) (events : List Event) (result : Result (Vec MarkList) ReplayError) → row.count ≡ 0
    → IsReplay result (run_from c row.count (opening_world bytes) events) → IsReplay result (run_over c bytes events)
from_opening c bytes row events result zero is = subst (λ n. IsReplay result (run_from c n (opening_world bytes) events)) zero is

-- what was replayed is a history
pub makes_history : (c : Configuration) (bytes : ByteMap) (events : List Event) (result : Result (Vec MarkList) ReplayError) → IsReplay result (run_over c bytes events)
    → IfOk result (λ all. IsHistory (history_of events all.items))
makes_history c bytes events (Ok all) is = followed-is-history c bytes (history_of events all.items) (history_stamped events all.items) (history_follows c bytes events all is)
makes_history c bytes events (Err error) is = record {}

-- and is what every history is which follows the machine
abbrev pub HasLaw : (Configuration → ByteMap → List EntryValue → Type 0) → Type 0
HasLaw Is = (c : Configuration) (bytes : ByteMap) (es : List EntryValue) → AreLimited c → AllByRecursion (λ e. CanBeMade e.event) es → Follows c bytes es → Is c bytes es

pub is_lawful : (Is : Configuration → ByteMap → List EntryValue → Type 0) → HasLaw Is → (c : Configuration) (bytes : ByteMap) (events : List Event) (result : Result (Vec MarkList) ReplayError) → AreLimited c
    → IsReplay result (run_over c bytes events) → OnOk result (AllByRecursion CanBeMade events) → IfOk result (λ all. Is c bytes (history_of events all.items))
is_lawful Is law c bytes events (Ok all) limited is made = law c bytes (history_of events all.items) limited (history_made events all.items made) (history_follows c bytes events all is)
is_lawful Is law c bytes events (Err error) limited is made = record {}
