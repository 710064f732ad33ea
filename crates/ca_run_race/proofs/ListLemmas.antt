-- Lists of calls and of lines with one more behind them, and lists in two halves. For proofs only.
use Rattle.std.proofs.Common.{◌≡◌, ◌∙◌, refl, sym, ap, subst, ℕ, zero, suc, ◌+◌, ◌<◌, ◌≤◌, arith, inl, inr, Bool, true, false, if◌then◌else◌, ◌==◌, List, [], ◌∷◌, ◌++◌, length, drop, slice_index}
use Rattle.std.proofs.lemmas.List.{append_assoc, drop-drop, drop_at, length_push}
use Rattle.std.specs.List.{AllByRecursion}
use Rattle.ca_verbs_machine.specs.declared.asked.Asked.{Asked}
use Rattle.ca_verbs_machine.specs.declared.asked.Asked.TheVariants as asks
use Rattle.ca_verbs_machine.specs.declared.asked.Told.{Told}
use Rattle.ca_model.specs.declared.event.Event.{Event}
use Rattle.ca_model.specs.declared.event.Event.TheVariants as events
use Rattle.ca_model.specs.declared.verb.Verb.{Verb}
use Rattle.ca_script_order.specs.Order.{lines_of}
use Rattle.ca_parts.specs.Lists.{Has}
use Rattle.ca_run_race.specs.Calls.{AllWait, IsNextCall, Waits}
use Rattle.ca_verbs_scripts.specs.Work.{AreDoneBy, AreInOrder, Call, IsDoneBy, IsNotBefore, call_by, call_in, calls_of}
use Rattle.ca_script_lines.specs.declared.Line.{Line}
use Rattle.ca_script_lines.specs.declared.what.What.{What}
use Rattle.ca_script_lines.specs.declared.what.What.TheVariants as whats
use Rattle.ca_script_run.specs.Progress.{lines_behind}

-- ---- any lists

pub all-append : {A : Type 0} (P : A → Type 0) (xs ys : List A) → AllByRecursion P xs → AllByRecursion P ys → AllByRecursion P (xs ++ ys)
all-append P [] ys p q = q
all-append P (x ∷ xs) ys p q = (p.0, all-append P xs ys p.1 q)

-- what holds of all that stands in a list
pub all-of : {A : Type 0} (P : A → Type 0) (xs : List A) → ((a : A) → Has a xs → P a) → AllByRecursion P xs
all-of P [] each = record {}
all-of P (x ∷ xs) each = (each x (inl refl), all-of P xs (λ a has. each a (inr has)))

-- ---- calls

pub calls-append : (k : ℕ) (xs ys : List (ℕ × Told)) → calls_of k (xs ++ ys) ≡ calls_of k xs ++ calls_of k ys
calls-append k [] ys = refl
calls-append k (x ∷ xs) ys = ap (λ (cs : List Call). call_in k x.0 x.1.asked ++ cs) (calls-append k xs ys)
    ∙ sym (append_assoc (call_in k x.0 x.1.asked) (calls_of k xs) (calls_of k ys))

abbrev AreBelow : ℕ → List Call → Type 0
AreBelow n calls = AllByRecursion (λ (c : Call). c.0 < n) calls

one-below : (k m n : ℕ) (asked : Asked) → m < n → AreBelow n (call_in k m asked)
one-below k m n (asks.Turn turn weather) less = record {}
one-below k m n (asks.Event event) less = by event
  where
    one : (b : Bool) (verb : Verb) → AreBelow n (if b then (m, verb) ∷ [] else [])
    one true verb = (less, record {})
    one false verb = record {}

    by : (event : Event) → AreBelow n (call_by k m event)
    by (events.Verb j verb) = one (j == k) verb
    by (events.Request q lot) = record {}
    by (events.Deliver q index) = record {}
    by (events.Respond q lot) = record {}
    by (events.Timeout q hasten) = record {}
    by (events.RnrWake q) = record {}

-- the calls of entries with lower stamps have lower stamps
pub calls-below : (k n : ℕ) (entries : List (ℕ × Told)) → AllByRecursion (λ (e : ℕ × Told). e.0 < n) entries → AreBelow n (calls_of k entries)
calls-below k n [] all = record {}
calls-below k n (e ∷ es) all = all-append (λ (c : Call). c.0 < n) (call_in k e.0 e.1.asked) (calls_of k es) (one-below k e.0 n e.1.asked all.0) (calls-below k n es all.1)

-- one call more, with a higher stamp
pub order-more : (from n : ℕ) (verb : Verb) (calls : List Call) → AreInOrder from calls → AreBelow n calls → from ≤ n → AreInOrder from (calls ++ (n, verb) ∷ [])
order-more from n verb [] order below low = (low, record {})
order-more from n verb (c ∷ cs) order below low = (order.0, order-more (suc c.0) n verb cs order.1 below.1 (omega (arith, below.0)))

-- ---- lines that are done

not-before-more : (t : ℕ) (cs ds : List Call) → IsNotBefore t cs → IsNotBefore t (cs ++ ds)
not-before-more t [] ds before = absurd before
not-before-more t (c ∷ cs) ds before = before

module _ (clock n : ℕ) (verb : Verb) (line : Line) (low : clock ≤ n) (is : line.what ≡ whats.Verb verb) where
  -- lines that waited are done by the call behind them
  waited : (waiting : List Line) → AllWait clock waiting → AreDoneBy (waiting ++ line ∷ []) ((n, verb) ∷ [])
  waited [] waits = subst (λ what. IsDoneBy what ((n, verb) ∷ []) (AreDoneBy [])) (sym is) (refl, record {})
  waited (w ∷ ws) waits = by w.what waits.0 (waited ws waits.1)
    where
      by : (what : What) → Waits clock what → AreDoneBy (ws ++ line ∷ []) ((n, verb) ∷ []) → IsDoneBy what ((n, verb) ∷ []) (AreDoneBy (ws ++ line ∷ []))
      by (whats.Verb v) bad rest = absurd bad
      by (whats.At t) less rest = (omega (arith, less, low), rest)

  -- and so are those before them, by the calls before it
  pub done-more : (waiting : List Line) → AllWait clock waiting → (done : List Line) (calls : List Call) → AreDoneBy done calls
      → AreDoneBy (done ++ (waiting ++ line ∷ [])) (calls ++ (n, verb) ∷ [])
  done-more waiting waits [] [] by = waited waiting waits
  done-more waiting waits [] (c ∷ cs) by = absurd by
  done-more waiting waits (l ∷ ls) calls by = of l.what calls by (λ cs done. done-more waiting waits ls cs done)
    where
      of : (what : What) (cs : List Call) → IsDoneBy what cs (AreDoneBy ls) → ((ds : List Call) → AreDoneBy ls ds → AreDoneBy (ls ++ (waiting ++ line ∷ [])) (ds ++ (n, verb) ∷ []))
          → IsDoneBy what (cs ++ (n, verb) ∷ []) (AreDoneBy (ls ++ (waiting ++ line ∷ [])))
      of (whats.Verb v) [] done rest = absurd done
      of (whats.Verb v) (c ∷ cs) done rest = (done.0, rest cs done.1)
      of (whats.At t) cs done rest = (not-before-more t cs ((n, verb) ∷ []) done.0, rest cs done.1)

-- ---- lines that are left

drop-nothing : (n : ℕ) → drop {A = Line} n [] ≡ []
drop-nothing zero = refl
drop-nothing (suc n) = refl

-- of each consumer the lines are left behind as many as it has done
pub left-of : (consumers : List (List Line)) (done : List ℕ) (k : ℕ) → length done ≡ length consumers
    → lines_of k (lines_behind consumers done) ≡ drop (slice_index done k) (lines_of k consumers)
left-of [] [] k same = sym (drop-nothing (slice_index [] k))
left-of [] (d ∷ ds) k same = absurd (omega (arith, same))
left-of (c ∷ cs) [] k same = absurd (omega (arith, same))
left-of (c ∷ cs) (d ∷ ds) zero same = refl
left-of (c ∷ cs) (d ∷ ds) (suc k) same = left-of cs ds k (omega (arith, same))

-- behind the next call
pub left-behind : (lines : List Line) (passed at clock : ℕ) (verb : Verb) → (next : IsNextCall lines passed at clock verb) → drop (at + 1) lines ≡ next.rest
left-behind lines passed at clock verb next =
    let n : ℕ = length next.waiting + 1 in
    let place : at + 1 ≡ passed + n = omega (arith, next.place) in
    ap (λ (k : ℕ). drop k lines) place
    ∙ sym (drop-drop n passed lines)
    ∙ ap (drop n) (next.is ∙ sym (append_assoc next.waiting (next.line ∷ []) next.rest))
    ∙ drop_at (next.waiting ++ next.line ∷ []) next.rest n (length_push next.waiting next.line)
