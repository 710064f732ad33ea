-- A history of a group's lone events from zeros is its lone run. For proofs only.
use Rattle.std.proofs.Common.{◌≡◌, ◌∙◌, ℕ, arith, Bool, true, false, if◌then◌else◌, List, [], ◌∷◌, ◌++◌, drop, filter, length, map, slice_index_or, Result, Ok, Err, IfOk, ap, ap₂, refl, subst, sym, true≢false}
use Rattle.std.specs.Global.{Vec}
use Rattle.std.specs.List.{AllByRecursion}
use Rattle.ca_run_alone.specs.Lone.{IsLoneRun}
use Rattle.ca_base.specs.Configuration.{Configuration}
use Rattle.ca_base.specs.declared.step.Reason.{Reason}
use Rattle.ca_isolation.specs.Alone.{Isolated, alone_bytes, alone_entries, alone_events}
use Rattle.ca_isolation.specs.Groups.{Group, covered, is_closed, is_of, is_reply, replies_of}
use Rattle.ca_keys.specs.Memory.{ByteMap, zeros}
use Rattle.ca_model.specs.Entries.{EntryValue, entry_of}
use Rattle.ca_model.specs.Marks.{MarkList}
use Rattle.ca_model.specs.declared.entry.Entry.{Entry}
use Rattle.ca_model.specs.declared.event.Event.{Event}
use Rattle.ca_model.specs.declared.mark.Mark.{Mark}
use Rattle.ca_model.specs.machine.Run.{Follows, Ran, run_over}
use Rattle.ca_model.specs.machine.Sound.{CanBeMade}
use Rattle.ca_script_run.specs.ca_adapter_store.Replays.{IsReplay}
use Rattle.ca_script_run.specs.ca_adapter_store.declared.events.ReplayError.{ReplayError}
use Rattle.ca_script_run.specs.ca_adapter_store.declared.events.ReplayError.TheVariants as errors

-- over zeros the lone run begins with zeros
pub lone-zeros : (group : Group) (es : List EntryValue) → alone_bytes group zeros es ≡ zeros
lone-zeros group es i p = by (covered group es p) i
  where
    by : (b : Bool) → let none : ℕ = 0 in (if b then none else none) ≡ none
    by true = refl
    by false = refl

-- the same events with the same marks have the same replies
same-replies : (group : Group) (es fs : List EntryValue) → map (λ (e : EntryValue). e.event) es ≡ map (λ (e : EntryValue). e.event) fs
    → map (λ (e : EntryValue). e.marks) es ≡ map (λ (e : EntryValue). e.marks) fs → replies_of group es ≡ replies_of group fs
same-replies group [] [] events marks = refl
same-replies group [] (f ∷ fs) events marks = absurd (omega (arith, ap length events))
same-replies group (e ∷ es) [] events marks = absurd (omega (arith, ap length events))
same-replies group (e ∷ es) (f ∷ fs) events marks =
    ap₂ (λ (x : List Mark) (y : List Mark). x ++ y)
    (ap₂ (λ (x : Event) (ms : List Mark). if is_of group x then filter is_reply ms else [])
    (ap (λ (xs : List Event). slice_index_or xs 0 e.event) events) (ap (λ (xs : List (List Mark)). slice_index_or xs 0 e.marks) marks))
    (same-replies group es fs (ap (λ (xs : List Event). drop 1 xs) events) (ap (λ (xs : List (List Mark)). drop 1 xs) marks))

abbrev told-of : Ran → List (List Mark)
told-of (Ok told) = told
told-of other = []

-- from zeros the events of the lone run are all possible
pub lone-possible : (c : Configuration) (group : Group) (es : List EntryValue) → Isolated c zeros es → is_closed group es ≡ true
    → run_over c zeros (alone_events group zeros es) ≡ Ok (map (λ (e : EntryValue). e.marks) (alone_entries group zeros es))
lone-possible c group es isolated closed = subst (λ (b : ByteMap). Follows c b (alone_entries group zeros es)) (lone-zeros group es) (isolated group closed)

pub lone-one : (c : Configuration) (group : Group) (es lone : List EntryValue) → Isolated c zeros es → is_closed group es ≡ true
    → replies_of group (alone_entries group zeros es) ≡ replies_of group es
    → map (λ (e : EntryValue). e.event) lone ≡ alone_events group zeros es → Follows c zeros lone → IsLoneRun c group es lone
lone-one c group es lone isolated closed replies events follows = record {
  events = events;
  follows = subst (λ (b : ByteMap). Follows c b lone) (sym (lone-zeros group es)) follows;
  same_replies = same-replies group lone (alone_entries group zeros es) events
      (ap told-of (sym follows ∙ ap (run_over c zeros) events ∙ lone-possible c group es isolated closed)) ∙ replies;
}

-- events that are possible are not refused
pub never-refused : (ran : Ran) (r : Result (Vec MarkList) ReplayError) (told : List (List Mark)) (place : ℕ) (reason : Reason) → ran ≡ Ok told
    → r ≡ Err (errors.NotReady place reason) → IsReplay r ran → ⊥
never-refused ran r told place reason possible is replayed = true≢false (ap is-well (sym possible ∙ subst (λ x. IsReplay x ran) is replayed))
  where
    is-well : Ran → Bool
    is-well (Ok told) = true
    is-well (Err stop) = false

-- the same events over the same bytes run the same
pub runs-same : (c : Configuration) (bytes : ByteMap) (events lone : List Event) (told : List (List Mark)) → bytes ≡ zeros → events ≡ lone
    → run_over c zeros lone ≡ Ok told → run_over c bytes events ≡ Ok told
runs-same c bytes events lone told blank same ran = ap (λ (b : ByteMap). run_over c b events) blank ∙ ap (run_over c zeros) same ∙ ran

-- what holds where a call ends well
pub if-ok : {A E : Type 0} (r : Result A E) (P Q : A → Type 0) → ((x : A) → P x → Q x) → IfOk r P → IfOk r Q
if-ok (Ok x) P Q f p = f x p
if-ok (Err e) P Q f p = record {}

-- the events of entries as they are kept can be made
pub made-kept : (es : List Entry) → AllByRecursion (λ (e : Entry). CanBeMade e.event) es → AllByRecursion (λ (e : EntryValue). CanBeMade e.event) (map entry_of es)
made-kept [] made = record {}
made-kept (e ∷ es) made = (made.0, made-kept es made.1)
