-- Calls in order that stand in two lists are the same list. For proofs only.
use Rattle.std.proofs.Common.{◌≡◌, ℕ, zero, suc, ◌+◌, ◌≤◌, ◌⊎◌, inl, inr, ⊎_elim, ◌==◌, Bool, true, false, if◌then◌else◌, List, [], ◌∷◌, ◌++◌, Some, slice_get, refl, ap, sym, ◌∙◌, arith, subst}
use Rattle.std.specs.List.{AllByRecursion}
use Rattle.std.specs.Option.{option_map_or}
use Rattle.ca_verbs_machine.specs.declared.asked.Asked.{Asked}
use Rattle.ca_verbs_machine.specs.declared.asked.Asked.TheVariants as asks
use Rattle.ca_verbs_machine.specs.declared.asked.Told.{Told}
use Rattle.ca_model.specs.declared.event.Event.{Event}
use Rattle.ca_model.specs.declared.event.Event.TheVariants as events
use Rattle.ca_model.specs.declared.verb.Verb.{Verb}
use Rattle.ca_script_order.specs.Order.{lines_of}
use Rattle.ca_parts.specs.Lists.{Has}
use Rattle.ca_verbs_scripts.specs.Work.{AreInOrder, Call, HasCalled, HasWorked, IsAsked, call_by, call_in, calls_of, numbered}
use Rattle.ca_script.specs.Script.{ScriptValue}
use Rattle.ca_script_lines.specs.declared.Line.{Line}

-- ---- calls in order

later : (from : ℕ) (cs : List Call) (c : Call) → AreInOrder from cs → Has c cs → from ≤ c.0
later from [] c order has = absurd has
later from (x ∷ xs) c order has = ⊎_elim
    (λ (is : c ≡ x). subst (λ (y : Call). from ≤ y.0) (sym is) order.0)
    (λ (t : Has c xs). let r : suc x.0 ≤ c.0 = later (suc x.0) xs c order.1 t in omega (arith, r, order.0)) has

other-there : (from : ℕ) (x : Call) (xs : List Call) (c : Call) → AreInOrder (suc x.0) xs → suc x.0 ≤ c.0 → Has c (x ∷ xs) → Has c xs
other-there from x xs c order above has = ⊎_elim
    (λ (is : c ≡ x). let same : c.0 ≡ x.0 = ap (λ (y : Call). y.0) is in absurd (omega (arith, same, above)))
    (λ (t : Has c xs). t) has

heads : (x y : Call) (xs ys : List Call) → AreInOrder (suc x.0) xs → AreInOrder (suc y.0) ys → Has x (y ∷ ys) → Has y (x ∷ xs) → x ≡ y
heads x y xs ys ox oy hx hy = ⊎_elim
    (λ (is : x ≡ y). is)
    (λ (t : Has x ys). ⊎_elim
    (λ (is : y ≡ x). sym is)
    (λ (u : Has y xs). let one : suc y.0 ≤ x.0 = later (suc y.0) ys x oy t in let two : suc x.0 ≤ y.0 = later (suc x.0) xs y ox u in absurd (omega (arith, one, two))) hy) hx

pub same-calls : (n m : ℕ) (xs ys : List Call) → AreInOrder n xs → AreInOrder m ys → ((c : Call) → Has c xs → Has c ys) → ((c : Call) → Has c ys → Has c xs) → xs ≡ ys
same-calls n m [] [] ox oy to from = refl
same-calls n m [] (y ∷ ys) ox oy to from = absurd (from y (inl refl))
same-calls n m (x ∷ xs) [] ox oy to from = absurd (to x (inl refl))
same-calls n m (x ∷ xs) (y ∷ ys) ox oy to from =
    let head : x ≡ y = heads x y xs ys ox.1 oy.1 (to x (inl refl)) (from y (inl refl)) in
    let stamp : x.0 ≡ y.0 = ap (λ (c : Call). c.0) head in
    let tails : xs ≡ ys = same-calls (suc x.0) (suc y.0) xs ys ox.1 oy.1
    (λ c h. let above : suc x.0 ≤ c.0 = later (suc x.0) xs c ox.1 h in other-there m y ys c oy.1 (omega (arith, above, stamp)) (to c (inr h)))
    (λ c h. let above : suc y.0 ≤ c.0 = later (suc y.0) ys c oy.1 h in other-there n x xs c ox.1 (omega (arith, above, stamp)) (from c (inr h))) in
    ap (λ (c : Call). c ∷ xs) head ∙ ap (λ (l : List Call). y ∷ l) tails

-- ---- calls and entries

has-append : {A : Type 0} (a : A) (xs ys : List A) → Has a (xs ++ ys) → Has a xs ⊎ Has a ys
has-append a [] ys has = inr has
has-append a (x ∷ xs) ys has = ⊎_elim (λ (is : a ≡ x). inl (inl is))
    (λ (t : Has a (xs ++ ys)). ⊎_elim (λ (l : Has a xs). inl (inr l)) (λ (r : Has a ys). inr r) (has-append a xs ys t)) has

has-left : {A : Type 0} (a : A) (xs ys : List A) → Has a xs → Has a (xs ++ ys)
has-left a [] ys has = absurd has
has-left a (x ∷ xs) ys has = ⊎_elim (λ (is : a ≡ x). inl is) (λ (t : Has a xs). inr (has-left a xs ys t)) has

has-right : {A : Type 0} (a : A) (xs ys : List A) → Has a ys → Has a (xs ++ ys)
has-right a [] ys has = has
has-right a (x ∷ xs) ys has = inr (has-right a xs ys has)

-- a call is of an entry with its stamp and its verb
record IsOf (k : ℕ) (c : Call) (entries : List (ℕ × Told)) : Type 0 where
  entry : ℕ × Told
  there : Has entry entries
  call : call_in k entry.0 entry.1.asked ≡ c ∷ []

one-by : (k n : ℕ) (event : Event) (c : Call) → Has c (call_by k n event) → call_by k n event ≡ c ∷ []
one-by k n (events.Verb by verb) c has = of (by == k) has
  where
    of : (b : Bool) → Has c (if b then (n, verb) ∷ [] else []) → (if b then (n, verb) ∷ [] else []) ≡ c ∷ []
    of true h = ⊎_elim (λ (is : c ≡ (n, verb)). ap (λ (x : Call). x ∷ []) (sym is)) (λ (t : ⊥). absurd t) h
    of false h = absurd h
one-by k n (events.Request q lot) c has = absurd has
one-by k n (events.Deliver q index) c has = absurd has
one-by k n (events.Respond q lot) c has = absurd has
one-by k n (events.Timeout q hasten) c has = absurd has
one-by k n (events.RnrWake q) c has = absurd has

one-call : (k n : ℕ) (asked : Asked) (c : Call) → Has c (call_in k n asked) → call_in k n asked ≡ c ∷ []
one-call k n (asks.Event event) c has = one-by k n event c has
one-call k n (asks.Turn turn weather) c has = absurd has

call-entry : (k : ℕ) (c : Call) (entries : List (ℕ × Told)) → Has c (calls_of k entries) → IsOf k c entries
call-entry k c [] has = absurd has
call-entry k c (e ∷ es) has = ⊎_elim
    (λ (h : Has c (call_in k e.0 e.1.asked)). record { entry = e; there = inl refl; call = one-call k e.0 e.1.asked c h })
    (λ (t : Has c (calls_of k es)). let r : IsOf k c es = call-entry k c es t in record { entry = r.entry; there = inr r.there; call = r.call })
    (has-append c (call_in k e.0 e.1.asked) (calls_of k es) has)

entry-call : (k : ℕ) (c : Call) (entries : List (ℕ × Told)) (e : ℕ × Told) → Has e entries → call_in k e.0 e.1.asked ≡ c ∷ [] → Has c (calls_of k entries)
entry-call k c [] e has is = absurd has
entry-call k c (x ∷ xs) e has is = ⊎_elim
    (λ (same : e ≡ x). let call : call_in k x.0 x.1.asked ≡ c ∷ [] = subst (λ (y : ℕ × Told). call_in k y.0 y.1.asked ≡ c ∷ []) same is in
    has-left c (call_in k x.0 x.1.asked) (calls_of k xs) (subst (Has c) (sym call) (inl refl)))
    (λ (t : Has e xs). has-right c (call_in k x.0 x.1.asked) (calls_of k xs) (entry-call k c xs e t is)) has

-- the entries of a list with their stamps
some-is : {A : Type 0} (a b : A) → Some a ≡ Some b → a ≡ b
some-is a b is = ap (λ o. option_map_or (λ x. x) o a) is

at-stamp : (n : ℕ) (log : List Told) (m : ℕ) (e : Told) → Has (m, e) (numbered n log) → (i : ℕ) × (m ≡ n + i) × (slice_get log i ≡ Some e)
at-stamp n [] m e has = absurd has
at-stamp n (t ∷ ts) m e has = ⊎_elim
    (λ (is : (m, e) ≡ (n, t)). let stamp : m ≡ n = ap (λ (x : ℕ × Told). x.0) is in (0, (let z : m ≡ n + 0 = omega (arith, stamp) in z), ap (λ (x : ℕ × Told). Some x.1) (sym is)))
    (λ (h : Has (m, e) (numbered (suc n) ts)). let r = at-stamp (suc n) ts m e h in (suc r.0, (let z : m ≡ n + suc r.0 = omega (arith, r.1) in z), r.2)) has

stamp-at : (n : ℕ) (log : List Told) (i : ℕ) (e : Told) → slice_get log i ≡ Some e → Has (n + i, e) (numbered n log)
stamp-at n [] i e at = absurd cc
stamp-at n (t ∷ ts) zero e at = inl (ap (λ (x : Told). (n + 0, x)) (sym (some-is t e at)) ∙ ap (λ (m : ℕ). (m, t)) (let z : n + 0 ≡ n = omega arith in z))
stamp-at n (t ∷ ts) (suc i) e at = inr (subst (λ (m : ℕ). Has (m, e) (numbered (suc n) ts)) (let z : suc n + i ≡ n + suc i = omega arith in z) (stamp-at (suc n) ts i e at))

lower : (m from : ℕ) (cs : List Call) → m ≤ from → AreInOrder from cs → AreInOrder m cs
lower m from [] low order = record {}
lower m from (c ∷ cs) low order = (let z : m ≤ c.0 = omega (arith, low, order.0) in z, order.1)

-- the calls of an entry, before later ones
one-before : (k n : ℕ) (asked : Asked) (cs : List Call) → AreInOrder (suc n) cs → AreInOrder n (call_in k n asked ++ cs)
one-before k n asked cs rest = by asked
  where
    later-ones : AreInOrder n cs
    later-ones = lower n (suc n) cs (omega arith) rest

    one : (b : Bool) (verb : Verb) → AreInOrder n ((if b then (n, verb) ∷ [] else []) ++ cs)
    one true verb = (let z : n ≤ n = omega arith in z, rest)
    one false verb = later-ones

    of : (event : Event) → AreInOrder n (call_by k n event ++ cs)
    of (events.Verb by verb) = one (by == k) verb
    of (events.Request q lot) = later-ones
    of (events.Deliver q index) = later-ones
    of (events.Respond q lot) = later-ones
    of (events.Timeout q hasten) = later-ones
    of (events.RnrWake q) = later-ones

    by : (asked : Asked) → AreInOrder n (call_in k n asked ++ cs)
    by (asks.Event event) = of event
    by (asks.Turn turn weather) = later-ones

numbered-order : (k n : ℕ) (log : List Told) → AreInOrder n (calls_of k (numbered n log))
numbered-order k n [] = record {}
numbered-order k n (t ∷ ts) = one-before k n t.asked (calls_of k (numbered (suc n) ts)) (numbered-order k (suc n) ts)

-- ---- the work of a script, in the order of the list

all-has : {A : Type 0} (P : A → Type 0) (xs : List A) (a : A) → AllByRecursion P xs → Has a xs → P a
all-has P [] a all has = absurd has
all-has P (x ∷ xs) a all has = ⊎_elim (λ (is : a ≡ x). subst P (sym is) all.0) (λ (t : Has a xs). all-has P xs a all.1 t) has

has-all : {A : Type 0} (P : A → Type 0) (xs : List A) → ((a : A) → Has a xs → P a) → AllByRecursion P xs
has-all P [] each = record {}
has-all P (x ∷ xs) each = (each x (inl refl), has-all P xs (λ a h. each a (inr h)))

module _ (s : ScriptValue) (entries : List (ℕ × Told)) (log : List Told) (there : (m : ℕ) (e : Told) → Has (m, e) entries → slice_get log m ≡ Some e) (all : (m : ℕ) (e : Told) → slice_get log m ≡ Some e → Has (m, e) entries) where
  to-list : (e : ℕ × Told) → Has e entries → Has e (numbered 0 log)
  to-list e has = subst (λ (m : ℕ). Has (m, e.1) (numbered 0 log)) (let z : 0 + e.0 ≡ e.0 = omega arith in z) (stamp-at 0 log e.0 e.1 (there e.0 e.1 has))

  from-list : (e : ℕ × Told) → Has e (numbered 0 log) → Has e entries
  from-list e has =
      let r = at-stamp 0 log e.0 e.1 has in
      all e.0 e.1 (ap (slice_get log) (let z : e.0 ≡ r.0 = omega (arith, r.1) in z) ∙ r.2)

  same : (k : ℕ) → AreInOrder 0 (calls_of k entries) → calls_of k entries ≡ calls_of k (numbered 0 log)
  same k order = same-calls 0 0 (calls_of k entries) (calls_of k (numbered 0 log)) order (numbered-order k 0 log)
      (λ c h. let r : IsOf k c entries = call-entry k c entries h in entry-call k c (numbered 0 log) r.entry (to-list r.entry r.there) r.call)
      (λ c h. let r : IsOf k c (numbered 0 log) = call-entry k c (numbered 0 log) h in entry-call k c entries r.entry (from-list r.entry r.there) r.call)

  pub in-list : (left : List (List Line)) → HasWorked s entries left → HasWorked s (numbered 0 log) left
  in-list left worked = record {
    asked = has-all (λ (e : ℕ × Told). IsAsked s.weather e.1.asked) (numbered 0 log)
        (λ e h. all-has (λ (x : ℕ × Told). IsAsked s.weather x.1.asked) entries e worked.asked (from-list e h));
    called = λ k. let c = worked.called k in subst (HasCalled (lines_of k s.consumers) (lines_of k left)) (same k c.ordered) c;
  }
