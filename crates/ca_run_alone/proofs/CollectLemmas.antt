-- The history of events with their marks, put together from the first on. For proofs only.
use Rattle.std.proofs.Common.{◌≡◌, ◌∙◌, ℕ, suc, ◌+◌, arith, List, [], ◌∷◌, ◌++◌, length, map, reverse, Ok, Err, ap, refl, subst, sym, length-append}
use Rattle.std.proofs.lemmas.List.{append-nil, append_assoc, reverse-append, reverse-reverse}
use Rattle.ca_base.specs.Configuration.{Configuration}
use Rattle.ca_keys.specs.Memory.{ByteMap}
use Rattle.ca_model.specs.Entries.{EntryValue}
use Rattle.ca_model.specs.History.{IsEntry, IsHistory, IsHistoryFrom}
use Rattle.ca_model.specs.Marks.{MarkList}
use Rattle.ca_model.specs.declared.event.Event.{Event}
use Rattle.ca_model.specs.declared.mark.Mark.{Mark}
use Rattle.ca_model.specs.machine.Plan.{Did, NotReady, Outcome}
use Rattle.ca_model.specs.machine.Run.{Follows, Ran, go_on, run_from, run_over, with_marks}
use Rattle.ca_model.specs.machine.Step.{step}
use Rattle.ca_model.specs.machine.World.{World, opening_world}
use Rattle.ca_script_run.specs.ca_adapter_store.Replays.{entries_from, history_of, marks_of_each}

-- ---- putting together

-- a history so far, and those events and marks, the last first, that are to come
abbrev pub IsCollecting : List EntryValue → List EntryValue → List Event → List MarkList → Type 0
IsCollecting whole history events all = history ++ entries_from (length history) (reverse events) (reverse all) ≡ whole

pub collect-first : (events : List Event) (all : List MarkList) → IsCollecting (history_of events all) [] (reverse events) (reverse all)
collect-first events all i = entries_from 0 (reverse-reverse events i) (reverse-reverse all i)

abbrev entry_at : ℕ → Event → MarkList → EntryValue
entry_at n e m = record { stamp = n; pass = 0; event = e; marks = m.marks }

-- the whole history, with the entry to come
splits : (whole history : List EntryValue) (events : List Event) (all : List MarkList) (e : Event) (m : MarkList) → IsCollecting whole history (events ++ e ∷ []) (all ++ m ∷ [])
    → history ++ entry_at (length history) e m ∷ entries_from (suc (length history)) (reverse events) (reverse all) ≡ whole
splits whole history events all e m so =
    sym (ap (λ (es : List Event). history ++ entries_from (length history) es (reverse (all ++ m ∷ []))) (reverse-append events (e ∷ []))
    ∙ ap (λ (ms : List MarkList). history ++ entries_from (length history) (e ∷ reverse events) ms) (reverse-append all (m ∷ [])))
    ∙ so

entry-in : (n : ℕ) (xs : List EntryValue) (x : EntryValue) (rest : List EntryValue) → IsHistoryFrom n (xs ++ x ∷ rest) → IsEntry (n + length xs) x
entry-in n [] x rest is = subst (λ k. IsEntry k x) same is.0
  where
    same : n ≡ n + 0
    same = omega arith
entry-in n (y ∷ xs) x rest is = subst (λ k. IsEntry k x) same (entry-in (suc n) xs x rest is.1)
  where
    same : suc n + length xs ≡ n + suc (length xs)
    same = omega arith

-- the entry to come may stand there
pub collect-entry : (whole history : List EntryValue) (events : List Event) (all : List MarkList) (e : Event) (m : MarkList) → IsCollecting whole history (events ++ e ∷ []) (all ++ m ∷ [])
    → IsHistory whole → IsEntry (length history) (entry_at (length history) e m)
collect-entry whole history events all e m so is = subst (λ k. IsEntry k (entry_at (length history) e m)) same
    (entry-in 0 history (entry_at (length history) e m) (entries_from (suc (length history)) (reverse events) (reverse all)) (subst IsHistory (sym (splits whole history events all e m so)) is))
  where
    same : 0 + length history ≡ length history
    same = omega arith

-- the entry is put there
pub collect-more : (whole history : List EntryValue) (events : List Event) (all : List MarkList) (e : Event) (m : MarkList) → IsCollecting whole history (events ++ e ∷ []) (all ++ m ∷ [])
    → IsCollecting whole (history ++ entry_at (length history) e m ∷ []) events all
collect-more whole history events all e m so =
    ap (λ n. (history ++ entry_at (length history) e m ∷ []) ++ entries_from n (reverse events) (reverse all)) same
    ∙ append_assoc history (entry_at (length history) e m ∷ []) (entries_from (suc (length history)) (reverse events) (reverse all))
    ∙ splits whole history events all e m so
  where
    same : length (history ++ entry_at (length history) e m ∷ []) ≡ suc (length history)
    same = omega (arith, length-append history (entry_at (length history) e m ∷ []))

-- no event is to come
pub collect-last : (whole history : List EntryValue) (all : List MarkList) → IsCollecting whole history [] all → history ≡ whole
collect-last whole history all so = sym (append-nil history) ∙ so

no-marks : (n : ℕ) (events : List Event) → entries_from n events [] ≡ []
no-marks n [] = refl
no-marks n (e ∷ events) = refl

-- no marks are to come
pub collect-short : (whole history : List EntryValue) (events : List Event) → IsCollecting whole history events [] → history ≡ whole
collect-short whole history events so = sym (append-nil history) ∙ ap (λ es. history ++ es) (sym (no-marks (length history) (reverse events))) ∙ so

-- ---- what was replayed

-- a run that ends well has the marks of each event
ran-length : (c : Configuration) (n : ℕ) (w : World) (events : List Event) (each : List (List Mark)) → run_from c n w events ≡ Ok each → length events ≡ length each
ran-length c n w [] [] ran = refl
ran-length c n w [] (ms ∷ each) ran = absurd (nothing (Ok []) ran (record {}))
  where
    case : Ran → Type 0
    case (Ok []) = Unit {0}
    case (Ok (x ∷ xs)) = ⊥
    case (Err stop) = Unit {0}

    nothing : (r : Ran) → r ≡ Ok (ms ∷ each) → case r → ⊥
    nothing r is at = subst case is at
ran-length c n w (event ∷ events) each ran = by (λ v rest. ran-length c (suc n) v events rest) (step c w event) ran
  where
    marked : ((v : World) (rest : List (List Mark)) → run_from c (suc n) v events ≡ Ok rest → length events ≡ length rest)
        → (ms : List Mark) (v : World) (r : Ran) → run_from c (suc n) v events ≡ r → (xs : List (List Mark)) → with_marks ms r ≡ Ok xs → suc (length events) ≡ length xs
    marked again ms v (Err stop) is xs ok = absurd (subst case ok (record {}))
      where
        case : Ran → Type 0
        case (Ok xs) = ⊥
        case (Err stop) = Unit {0}
    marked again ms v (Ok rest) is xs ok = ap suc (again v rest is) ∙ subst case ok refl
      where
        case : Ran → Type 0
        case (Ok xs) = suc (length rest) ≡ length xs
        case (Err stop) = Unit {0}

    by : ((v : World) (rest : List (List Mark)) → run_from c (suc n) v events ≡ Ok rest → length events ≡ length rest)
        → (o : Outcome) → go_on n o (λ v. run_from c (suc n) v events) ≡ Ok each → suc (length events) ≡ length each
    by again (NotReady reason) ok = absurd (subst case ok (record {}))
      where
        case : Ran → Type 0
        case (Ok xs) = ⊥
        case (Err stop) = Unit {0}
    by again (Did v ms) ok = marked again ms v (run_from c (suc n) v events) refl each ok

events-kept : (n : ℕ) (events : List Event) (all : List MarkList) → length events ≡ length all → map (λ (e : EntryValue). e.event) (entries_from n events all) ≡ events
events-kept n [] [] same = refl
events-kept n [] (m ∷ all) same = absurd (omega (arith, same))
events-kept n (event ∷ events) [] same = absurd (omega (arith, same))
events-kept n (event ∷ events) (m ∷ all) same = ap (λ xs. event ∷ xs) (events-kept (suc n) events all (omega (arith, same)))

marks-kept : (n : ℕ) (events : List Event) (all : List MarkList) → length events ≡ length all → map (λ (e : EntryValue). e.marks) (entries_from n events all) ≡ marks_of_each all
marks-kept n [] [] same = refl
marks-kept n [] (m ∷ all) same = absurd (omega (arith, same))
marks-kept n (event ∷ events) [] same = absurd (omega (arith, same))
marks-kept n (event ∷ events) (m ∷ all) same = ap (λ xs. m.marks ∷ xs) (marks-kept (suc n) events all (omega (arith, same)))

same-length : (c : Configuration) (bytes : ByteMap) (events : List Event) (all : List MarkList) → run_over c bytes events ≡ Ok (marks_of_each all) → length events ≡ length all
same-length c bytes events all is = ran-length c 0 (opening_world bytes) events (marks_of_each all) is ∙ map-length all
  where
    map-length : (xs : List MarkList) → length (marks_of_each xs) ≡ length xs
    map-length [] = refl
    map-length (x ∷ xs) = ap suc (map-length xs)

-- the history has the events
pub collected-events : (c : Configuration) (bytes : ByteMap) (events : List Event) (all : List MarkList) → run_over c bytes events ≡ Ok (marks_of_each all)
    → map (λ (e : EntryValue). e.event) (history_of events all) ≡ events
collected-events c bytes events all is = events-kept 0 events all (same-length c bytes events all is)

-- and follows the machine
pub collected-follows : (c : Configuration) (bytes : ByteMap) (events : List Event) (all : List MarkList) → run_over c bytes events ≡ Ok (marks_of_each all)
    → Follows c bytes (history_of events all)
collected-follows c bytes events all is =
    ap (run_over c bytes) (events-kept 0 events all (same-length c bytes events all is)) ∙ is ∙ ap Ok (sym (marks-kept 0 events all (same-length c bytes events all is)))
