-- What holds of the verbs of a script's lines holds of those in its histories, and they cost no more. For proofs only.
use Rattle.std.proofs.Common.{◌≡◌, ℕ, zero, suc, ◌+◌, ◌*◌, ◌==◌, ◌≤◌, ◌<◌, Bool, true, false, nat_le, List, [], ◌∷◌, ◌++◌, length, take, refl, ap, sym, subst, ◌∙◌, arith, eqb-true, leb-false, leb-true}
use Rattle.std.proofs.lemmas.Bool.{eq-eqb}
use Rattle.std.proofs.lemmas.List.Sums.{sum_by-cons, sum_by-take-le}
use Rattle.std.specs.List.{AllByRecursion, sum_by}
use Rattle.ca_law_scripts.specs.CalmScripts.{AreNoInjections, IsNoInjection, packets_of_lines, packets_on}
use Rattle.ca_model.specs.Entries.{EntryValue}
use Rattle.ca_model.specs.declared.event.Event.{Event}
use Rattle.ca_model.specs.declared.event.Event.TheVariants as events
use Rattle.ca_model.specs.declared.verb.Verb.{Verb}
use Rattle.ca_model.specs.machine.Sound.{CanBeMade, HasFewPieces}
use Rattle.ca_script_order.specs.OfScript.{calls_by, verbs_in as verbs_of}
use Rattle.ca_script_order.specs.Order.{lines_of}
use Rattle.ca_law_scripts.specs.Rest.{AreCallable, IsCallable}
use Rattle.ca_script_lines.specs.declared.Line.{Line}
use Rattle.ca_script_lines.specs.declared.what.What.{What}
use Rattle.ca_script_lines.specs.declared.what.What.TheVariants as whats
use Rattle.ca_law_bounds.specs.Forward.{packets_in, verbs_in}
use Rattle.ca_law_bounds.specs.PostWeights.{InjectsNothing, packets_posted}

-- ---- what each verb is

-- the verb can be made, and injects nothing
abbrev pub IsGood : Verb → Type 0
IsGood verb = HasFewPieces verb × InjectsNothing verb

abbrev pub IsGoodEvent : Event → Type 0
IsGoodEvent (events.Verb by verb) = IsGood verb
IsGoodEvent event = Unit {0}

-- each consumer called the first verbs of its lines
abbrev pub AreCalled : List (List Line) → List EntryValue → Type 0
AreCalled consumers es = (k : ℕ) → calls_by k es ≡ take (length (calls_by k es)) (verbs_of (lines_of k consumers))

all-of-front : {X : Type 0} (P : X → Type 0) (n : ℕ) (xs : List X) → AllByRecursion P xs → AllByRecursion P (take n xs)
all-of-front P zero xs all = tt
all-of-front P (suc n) [] all = tt
all-of-front P (suc n) (x ∷ xs) all = (all.0, all-of-front P n xs all.1)

all-behind : {X : Type 0} (P : X → Type 0) (xs ys : List X) → AllByRecursion P (xs ++ ys) → AllByRecursion P ys
all-behind P [] ys all = all
all-behind P (x ∷ xs) ys all = all-behind P xs ys all.1

lines-good : (lines : List Line) → AllByRecursion (λ line. IsCallable line.what) lines → AreNoInjections lines → AllByRecursion IsGood (verbs_of lines)
lines-good [] few none = tt
lines-good (line ∷ lines) few none = by line.what few.0 none.0 (lines-good lines few.1 none.1)
  where
    by : (what : What) → IsCallable what → IsNoInjection what → AllByRecursion IsGood (verbs_of lines) → AllByRecursion IsGood (verbs_of (record line { what = what } ∷ lines))
    by (whats.Verb verb) few none rest = ((few, none), rest)
    by (whats.At t) few none rest = rest

-- so of each consumer
consumers-good : (k : ℕ) (consumers : List (List Line)) → AreCallable consumers → AllByRecursion AreNoInjections consumers → AllByRecursion IsGood (verbs_of (lines_of k consumers))
consumers-good k [] few none = tt
consumers-good zero (lines ∷ more) few none = lines-good lines few.0 none.0
consumers-good (suc k) (lines ∷ more) few none = consumers-good k more few.1 none.1

event-good : (e : EntryValue) (es : List EntryValue) → ((k : ℕ) → AllByRecursion IsGood (calls_by k (e ∷ es))) → IsGoodEvent e.event
event-good e es good = by e.event good
  where
    by : (event : Event) → ((k : ℕ) → AllByRecursion IsGood (calls_by k (record e { event = event } ∷ es))) → IsGoodEvent event
    by (events.Verb k verb) good = let same : (k == k) ≡ true = eq-eqb k k refl in (rw same at (good k)).0
    by (events.Request q lot) good = tt
    by (events.Respond q lot) good = tt
    by (events.Deliver q index) good = tt
    by (events.Timeout q hasten) good = tt
    by (events.RnrWake q) good = tt

events-good : (es : List EntryValue) → ((k : ℕ) → AllByRecursion IsGood (calls_by k es)) → AllByRecursion (λ e. IsGoodEvent e.event) es
events-good [] good = tt
events-good (e ∷ es) good = (event-good e es good, events-good es (λ k. all-behind IsGood _ (calls_by k es) (good k)))

pub called-good : (consumers : List (List Line)) (es : List EntryValue) → AreCallable consumers → AllByRecursion AreNoInjections consumers → AreCalled consumers es → AllByRecursion (λ e. IsGoodEvent e.event) es
called-good consumers es few none called = events-good es (λ k. subst (AllByRecursion IsGood) (sym (called k))
    (all-of-front IsGood (length (calls_by k es)) (verbs_of (lines_of k consumers)) (consumers-good k consumers few none)))

pub good-made : (es : List EntryValue) → AllByRecursion (λ e. IsGoodEvent e.event) es → AllByRecursion (λ e. CanBeMade e.event) es
good-made [] good = tt
good-made (e ∷ es) good = (by e.event good.0, good-made es good.1)
  where
    by : (event : Event) → IsGoodEvent event → CanBeMade event
    by (events.Verb k verb) good = good.0
    by (events.Request q lot) good = tt
    by (events.Respond q lot) good = tt
    by (events.Deliver q index) good = tt
    by (events.Timeout q hasten) good = tt
    by (events.RnrWake q) good = tt

-- ---- what they cost

-- the sum of the first numbers of a function
abbrev sum_first : (ℕ → ℕ) → ℕ → ℕ
sum_first f zero = 0
sum_first f (suc n) = f 0 + sum_first (λ k. f (suc k)) n

sum-mono : (f g : ℕ → ℕ) (n : ℕ) → ((k : ℕ) → f k ≤ g k) → sum_first f n ≤ sum_first g n
sum-mono f g zero less = omega arith
sum-mono f g (suc n) less = omega (arith, less 0, sum-mono (λ k. f (suc k)) (λ k. g (suc k)) n (λ k. less (suc k)))

sum-more : (f g : ℕ → ℕ) (x by n : ℕ) → by < n → x + f by ≤ g by → ((k : ℕ) → f k ≤ g k) → x + sum_first f n ≤ sum_first g n
sum-more f g x by zero below more less = absurd (omega (arith, below))
sum-more f g x zero (suc n) below more less = omega (arith, more, sum-mono (λ k. f (suc k)) (λ k. g (suc k)) n (λ k. less (suc k)))
sum-more f g x (suc by) (suc n) below more less =
    let rest : x + sum_first (λ k. f (suc k)) n ≤ sum_first (λ k. g (suc k)) n =
    sum-more (λ k. f (suc k)) (λ k. g (suc k)) x by n (omega (arith, below)) more (λ k. less (suc k)) in
    omega (arith, rest, less 0)

-- a verb is an entry, and four for each packet that it posts
abbrev cost : Verb → ℕ
cost verb = 1 + 4 * packets_posted verb

abbrev calls_cost : List EntryValue → ℕ → ℕ
calls_cost es k = sum_by cost (calls_by k es)

abbrev event_cost : Event → ℕ
event_cost event = verbs_in event + 4 * packets_in event

-- nobody beyond this number called a verb
abbrev NoneBeyond : ℕ → List EntryValue → Type 0
NoneBeyond n es = (k : ℕ) → n ≤ k → calls_by k es ≡ []

nil-behind : {X : Type 0} (xs ys : List X) → (xs ++ ys) ≡ [] → ys ≡ []
nil-behind [] ys is = is
nil-behind (x ∷ xs) ys is = absurd (omega (arith, ap length is))

-- a verb costs its consumer what it costs, and nobody else
verb-here : (k : ℕ) (verb : Verb) (x : EntryValue) (es : List EntryValue) → x.event ≡ events.Verb k verb → calls_cost (x ∷ es) k ≡ cost verb + calls_cost es k
verb-here k verb x es is = let same : (k == k) ≡ true = eq-eqb k k refl in let here : calls_by k (x ∷ es) ≡ verb ∷ calls_by k es = rw (is, same) refl in
    ap (sum_by cost) here ∙ sum_by-cons cost verb (calls_by k es)

verb-anywhere : (k by : ℕ) (verb : Verb) (x : EntryValue) (es : List EntryValue) → x.event ≡ events.Verb by verb → calls_cost es k ≤ calls_cost (x ∷ es) k
verb-anywhere k by verb x es is = at (by == k) refl
  where
    at : (b : Bool) → (by == k) ≡ b → calls_cost es k ≤ calls_cost (x ∷ es) k
    at true same = let here : calls_cost (x ∷ es) k ≡ cost verb + calls_cost es k = verb-here k verb x es (is ∙ ap (λ n. events.Verb n verb) (eqb-true by k same)) in omega (arith, here)
    at false other = let calls : calls_by k (x ∷ es) ≡ calls_by k es = rw (is, other) refl in let here : calls_cost (x ∷ es) k ≡ calls_cost es k = ap (sum_by cost) calls in omega (arith, here)

verb-costs : (n by : ℕ) (verb : Verb) (x : EntryValue) (es : List EntryValue) → x.event ≡ events.Verb by verb → NoneBeyond n (x ∷ es) → cost verb + sum_first (calls_cost es) n ≤ sum_first (calls_cost (x ∷ es)) n
verb-costs n by verb x es is beyond = sum-more (calls_cost es) (calls_cost (x ∷ es)) (cost verb) by n (below (nat_le n by) refl) (omega (arith, here)) (λ k. verb-anywhere k by verb x es is)
  where
    here : calls_cost (x ∷ es) by ≡ cost verb + calls_cost es by
    here = verb-here by verb x es is

    below : (b : Bool) → nat_le n by ≡ b → by < n
    below true far = let none : calls_cost (x ∷ es) by ≡ 0 = ap (sum_by cost) (beyond by (leb-true n by far)) in absurd (omega (arith, none, here))
    below false near = leb-false n by near

called-costs : (n : ℕ) (es : List EntryValue) → NoneBeyond n es → sum_by (λ e. event_cost e.event) es ≤ sum_first (calls_cost es) n
called-costs n [] beyond = omega arith
called-costs n (e ∷ es) beyond = by e.event beyond (called-costs n es (λ k far. nil-behind _ (calls_by k es) (beyond k far)))
  where
    first : (x : EntryValue) → sum_by (λ e. event_cost e.event) (x ∷ es) ≡ event_cost x.event + sum_by (λ e. event_cost e.event) es
    first x = sum_by-cons (λ (e : EntryValue). event_cost e.event) x es

    Costs : EntryValue → Type 0
    Costs x = sum_by (λ e. event_cost e.event) (x ∷ es) ≤ sum_first (calls_cost (x ∷ es)) n

    by : (event : Event) → NoneBeyond n (record e { event = event } ∷ es) → sum_by (λ e. event_cost e.event) es ≤ sum_first (calls_cost es) n → Costs (record e { event = event })
    by (events.Verb k verb) beyond rest = omega (arith, rest, first (record e { event = events.Verb k verb }), verb-costs n k verb (record e { event = events.Verb k verb }) es refl beyond)
    by (events.Request q lot) beyond rest = omega (arith, rest, first (record e { event = events.Request q lot }))
    by (events.Respond q lot) beyond rest = omega (arith, rest, first (record e { event = events.Respond q lot }))
    by (events.Deliver q index) beyond rest = omega (arith, rest, first (record e { event = events.Deliver q index }))
    by (events.Timeout q hasten) beyond rest = omega (arith, rest, first (record e { event = events.Timeout q hasten }))
    by (events.RnrWake q) beyond rest = omega (arith, rest, first (record e { event = events.RnrWake q }))

-- the verbs of lines cost what they post, and one for each line at most
lines-cost : (lines : List Line) → sum_by cost (verbs_of lines) ≤ length lines + 4 * packets_of_lines lines
lines-cost [] = omega arith
lines-cost (line ∷ lines) = by line.what (lines-cost lines)
  where
    first : (x : Line) → packets_of_lines (x ∷ lines) ≡ packets_on x.what + packets_of_lines lines
    first x = sum_by-cons (λ (line : Line). packets_on line.what) x lines

    by : (what : What) → sum_by cost (verbs_of lines) ≤ length lines + 4 * packets_of_lines lines
        → sum_by cost (verbs_of (record line { what = what } ∷ lines)) ≤ length (record line { what = what } ∷ lines) + 4 * packets_of_lines (record line { what = what } ∷ lines)
    by (whats.Verb verb) rest =
        let one : sum_by cost (verbs_of (record line { what = whats.Verb verb } ∷ lines)) ≡ cost verb + sum_by cost (verbs_of lines) = sum_by-cons cost verb (verbs_of lines) in
        omega (arith, rest, one, first (record line { what = whats.Verb verb }))
    by (whats.At t) rest =
        let none : sum_by cost (verbs_of (record line { what = whats.At t } ∷ lines)) ≡ sum_by cost (verbs_of lines) = refl in
        omega (arith, rest, none, first (record line { what = whats.At t }))

abbrev line_costs : List (List Line) → ℕ → ℕ
line_costs consumers k = sum_by cost (verbs_of (lines_of k consumers))

consumers-cost : (consumers : List (List Line)) → sum_first (line_costs consumers) (length consumers) ≤ 4 * sum_by packets_of_lines consumers + sum_by (λ (lines : List Line). length lines) consumers
consumers-cost [] = omega arith
consumers-cost (lines ∷ more) =
    let front : sum_first (line_costs (lines ∷ more)) (length (lines ∷ more)) ≡ sum_by cost (verbs_of lines) + sum_first (line_costs more) (length more) = refl in
    omega (arith, front, lines-cost lines, consumers-cost more, sum_by-cons packets_of_lines lines more, sum_by-cons (λ (lines : List Line). length lines) lines more)

-- who is beyond the consumers has no lines
lines-beyond : (k : ℕ) (consumers : List (List Line)) → length consumers ≤ k → lines_of k consumers ≡ []
lines-beyond k [] far = refl
lines-beyond zero (lines ∷ more) far = absurd (omega (arith, far))
lines-beyond (suc k) (lines ∷ more) far = lines-beyond k more (omega (arith, far))

take-none : (n : ℕ) (vs : List Verb) → vs ≡ [] → take n vs ≡ []
take-none zero vs is = refl
take-none (suc n) [] is = refl
take-none (suc n) (v ∷ vs) is = absurd (omega (arith, ap length is))

split-costs : (es : List EntryValue) → sum_by (λ e. verbs_in e.event) es + 4 * sum_by (λ e. packets_in e.event) es ≡ sum_by (λ e. event_cost e.event) es
split-costs [] = refl
split-costs (e ∷ es) = omega (
  arith,
  split-costs es,
  sum_by-cons (λ (e : EntryValue). verbs_in e.event) e es,
  sum_by-cons (λ (e : EntryValue). packets_in e.event) e es,
  sum_by-cons (λ (e : EntryValue). event_cost e.event) e es,
)

pub calls-bounded : (consumers : List (List Line)) (es : List EntryValue) → AreCalled consumers es
    → sum_by (λ e. verbs_in e.event) es + 4 * sum_by (λ e. packets_in e.event) es ≤ 4 * sum_by packets_of_lines consumers + sum_by (λ (lines : List Line). length lines) consumers
calls-bounded consumers es called = omega (arith, split-costs es, called-costs (length consumers) es beyond, below, consumers-cost consumers)
  where
    beyond : NoneBeyond (length consumers) es
    beyond k far = called k ∙ take-none (length (calls_by k es)) (verbs_of (lines_of k consumers)) (ap verbs_of (lines-beyond k consumers far))

    one : (k : ℕ) → calls_cost es k ≤ line_costs consumers k
    one k = subst (λ vs. sum_by cost vs ≤ sum_by cost (verbs_of (lines_of k consumers))) (sym (called k)) (sum_by-take-le cost (verbs_of (lines_of k consumers)) (length (calls_by k es)))

    below : sum_first (calls_cost es) (length consumers) ≤ sum_first (line_costs consumers) (length consumers)
    below = sum-mono (calls_cost es) (line_costs consumers) (length consumers) one
