-- The events of an order can be made, since the lines that call them can. For proofs only.
use Rattle.std.proofs.Common.{◌≡◌, ℕ, zero, suc, ◌==◌, true, List, [], ◌∷◌, ◌++◌, length, take, refl, sym, subst}
use Rattle.std.proofs.lemmas.Bool.{eq-eqb}
use Rattle.std.specs.List.{AllByRecursion}
use Rattle.ca_model.specs.Entries.{EntryValue}
use Rattle.ca_model.specs.declared.event.Event.{Event}
use Rattle.ca_model.specs.declared.event.Event.TheVariants as events
use Rattle.ca_model.specs.declared.verb.Verb.{Verb}
use Rattle.ca_model.specs.machine.Sound.{CanBeMade, HasFewPieces}
use Rattle.ca_script_order.proofs.ScriptLemmas.{order-told}
use Rattle.ca_script_order.specs.OfScript.{LeadsTo, calls_by, verbs_in}
use Rattle.ca_script_order.specs.Order.{Stage, ending, lines_of, order}
use Rattle.ca_law_scripts.proofs.Rest.ScriptLemmas.{lines-callable}
use Rattle.ca_law_scripts.specs.Rest.{AreCallable, IsCallable}
use Rattle.ca_script.specs.Script.{ScriptValue}
use Rattle.ca_script_lines.specs.declared.Line.{Line}
use Rattle.ca_script_lines.specs.declared.what.What.{What}
use Rattle.ca_script_lines.specs.declared.what.What.TheVariants as whats

-- ---- lists

all-of-front : {X : Type 0} (P : X → Type 0) (n : ℕ) (xs : List X) → AllByRecursion P xs → AllByRecursion P (take n xs)
all-of-front P zero xs all = record {}
all-of-front P (suc n) [] all = record {}
all-of-front P (suc n) (x ∷ xs) all = (all.0, all-of-front P n xs all.1)

all-behind : {X : Type 0} (P : X → Type 0) (xs ys : List X) → AllByRecursion P (xs ++ ys) → AllByRecursion P ys
all-behind P [] ys all = all
all-behind P (x ∷ xs) ys all = all-behind P xs ys all.1

-- ---- verbs of lines

-- each verb has few enough pieces
abbrev AreFew : List Verb → Type 0
AreFew verbs = AllByRecursion HasFewPieces verbs

verbs-few : (lines : List Line) → AllByRecursion (λ line. IsCallable line.what) lines → AreFew (verbs_in lines)
verbs-few [] all = record {}
verbs-few (line ∷ lines) all = by line.what all.0 (verbs-few lines all.1)
  where
    by : (what : What) → IsCallable what → AreFew (verbs_in lines) → AreFew (verbs_in (record line { what = what } ∷ lines))
    by (whats.Verb verb) can rest = (can, rest)
    by (whats.At t) can rest = rest

-- ---- events of entries

abbrev pub AreMade : List EntryValue → Type 0
AreMade es = AllByRecursion (λ e. CanBeMade e.event) es

-- an event, where what each consumer called in its entry and those behind it is few
call-made : (e : EntryValue) (es : List EntryValue) → ((k : ℕ) → AreFew (calls_by k (e ∷ es))) → CanBeMade e.event
call-made e es few = by e.event few
  where
    by : (event : Event) → ((k : ℕ) → AreFew (calls_by k (record e { event = event } ∷ es))) → CanBeMade event
    by (events.Verb k verb) few = let same : (k == k) ≡ true = eq-eqb k k refl in (rw same at (few k)).0
    by (events.Request q lot) few = record {}
    by (events.Respond q lot) few = record {}
    by (events.Deliver q index) few = record {}
    by (events.Timeout q hasten) few = record {}
    by (events.RnrWake q) few = record {}

called-made : (es : List EntryValue) → ((k : ℕ) → AreFew (calls_by k es)) → AreMade es
called-made [] few = record {}
called-made (e ∷ es) few = (call-made e es few, called-made es (λ k. all-behind HasFewPieces _ (calls_by k es) (few k)))

pub script-made : (s : ScriptValue) (es : List EntryValue) (end : Stage) → AreCallable s.consumers → LeadsTo s es end → AreMade es
script-made s es end callable leads = called-made es (λ k. subst AreFew (sym (leads.of_script.calls k))
    (all-of-front HasFewPieces (length (calls_by k es)) (verbs_in (lines_of k s.consumers)) (verbs-few (lines_of k s.consumers) (lines-callable k s.consumers callable))))

pub order-made : (s : ScriptValue) → AreCallable s.consumers → AreMade (order s)
order-made s callable = script-made s (order s) (ending s) callable (order-told s)
