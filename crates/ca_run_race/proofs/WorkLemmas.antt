-- What workers did, with one entry more, and of two of them together. For proofs only.
use Rattle.std.proofs.Common.{◌≡◌, ◌∙◌, ◌≢◌, refl, sym, ap, subst, ℕ, zero, suc, ◌+◌, ◌%◌, ◌<◌, ◌≤◌, arith, Bool, true, false, true≢false, if◌then◌else◌, ◌==◌, List, [], ◌∷◌, ◌++◌, length, drop, replicate, slice_index, slice_set}
use Rattle.std.proofs.lemmas.Bool.{eq-eqb, eqb-true}
use Rattle.std.proofs.lemmas.List.{append-nil, append_assoc, append_cancel_right, get_or-set_other, get_or-set_same, length-replicate, length-set}
use Rattle.std.specs.List.{AllByRecursion}
use Rattle.ca_verbs_machine.specs.declared.asked.Asked.TheVariants as asks
use Rattle.ca_verbs_machine.specs.declared.asked.Told.{Told}
use Rattle.ca_model.specs.declared.event.Event.{Event}
use Rattle.ca_model.specs.declared.event.Event.TheVariants as events
use Rattle.ca_model.specs.declared.mark.Mark.{Mark}
use Rattle.ca_model.specs.declared.verb.Verb.{Verb}
use Rattle.ca_script_order.specs.Order.{lines_of}
use Rattle.ca_parts.specs.Lists.{Has}
use Rattle.ca_run_race.proofs.ListLemmas.{all-append, all-of, calls-append, calls-below, done-more, left-behind, left-of, order-more}
use Rattle.ca_run_race.specs.Calls.{IsNextCall}
use Rattle.ca_run_race.specs.Workers.{AreBoth, AreOwn}
use Rattle.ca_verbs_scripts.specs.Work.{AreDoneBy, Call, HasCalled, HasWorked, IsAsked, IsWorkersTurn, call_in, calls_of}
use Rattle.ca_script.specs.Script.{ScriptValue}
use Rattle.ca_script_lines.specs.declared.Line.{Line}
use Rattle.ca_script_run.specs.Progress.{lines_behind}
use Rattle.ca_base.specs.declared.step.Turn.{Turn}
use Rattle.ca_verbs.specs.Tried.{told_of}

-- ---- nothing is done yet

index-none : (n k : ℕ) → slice_index (replicate n 0) k ≡ 0
index-none zero k = refl
index-none (suc n) zero = refl
index-none (suc n) (suc k) = index-none n k

pub begun : (s : ScriptValue) → HasWorked s [] (lines_behind s.consumers (replicate (length s.consumers) 0))
begun s = record {
  asked = record {};
  called = λ k. record {
    done = [];
    is = sym (left-of s.consumers (replicate (length s.consumers) 0) k (length-replicate (length s.consumers) 0)
        ∙ ap (λ (n : ℕ). drop n (lines_of k s.consumers)) (index-none (length s.consumers) k));
    by = record {};
    ordered = record {};
  };
}

pub begun-own : (first end workers n : ℕ) → AreOwn first end workers (replicate n 0)
begun-own first end workers n k some = absurd (some (index-none n k))

-- ---- a turn was made

pub turn-made : (s : ScriptValue) (entries : List (ℕ × Told)) (left : List (List Line)) (n : ℕ) (turn : Turn) (event : Event) (marks : List Mark) → HasWorked s entries left → IsWorkersTurn turn
    → HasWorked s (entries ++ (n, told_of (asks.Turn turn s.weather) event marks) ∷ []) left
turn-made s entries left n turn event marks worked fair = record {
  asked = all-append (λ (e : ℕ × Told). IsAsked s.weather e.1.asked) entries ((n, told_of (asks.Turn turn s.weather) event marks) ∷ []) worked.asked ((fair, refl), record {});
  called = λ k. subst (HasCalled (lines_of k s.consumers) (lines_of k left))
      (sym (calls-append k entries ((n, told_of (asks.Turn turn s.weather) event marks) ∷ []) ∙ append-nil (calls_of k entries))) (worked.called k);
}

-- ---- a verb was called

module _ (s : ScriptValue) (entries : List (ℕ × Told)) (done : List ℕ) (k n at clock : ℕ) (verb : Verb) (marks : List Mark)
    (worked : HasWorked s entries (lines_behind s.consumers done)) (count : length done ≡ length s.consumers) (there : k < length done)
    (next : IsNextCall (lines_of k s.consumers) (slice_index done k) at clock verb)
    (later : (m : ℕ) (e : Told) → Has (m, e) entries → m < n) (low : clock ≤ n) where
  abbrev pub entry : ℕ × Told
  entry = (n, told_of (asks.Event (events.Verb k verb)) (events.Verb k verb) marks)

  abbrev pub after : List ℕ
  after = slice_set done k (at + 1)

  count-after : length after ≡ length s.consumers
  count-after = length-set done k (at + 1) ∙ count

  below : AllByRecursion (λ (e : ℕ × Told). e.0 < n) entries
  below = all-of (λ (e : ℕ × Told). e.0 < n) entries (λ e has. later e.0 e.1 has)

  calls-now : (j : ℕ) (b : Bool) → (k == j) ≡ b → calls_of j (entries ++ entry ∷ []) ≡ calls_of j entries ++ (if b then (n, verb) ∷ [] else [])
  calls-now j b test = calls-append j entries (entry ∷ [])
      ∙ ap (λ (cs : List Call). calls_of j entries ++ cs) (append-nil (call_in j n (asks.Event (events.Verb k verb))) ∙ ap (λ (c : Bool). if c then (n, verb) ∷ [] else []) test)

  own : HasCalled (lines_of k s.consumers) (lines_of k (lines_behind s.consumers after)) (calls_of k entries ++ (n, verb) ∷ [])
  own = record {
    done = c.done ++ (next.waiting ++ next.line ∷ []);
    is = c.is
        ∙ ap (λ (l : List Line). c.done ++ l) (left-of s.consumers done k count ∙ next.is ∙ sym (append_assoc next.waiting (next.line ∷ []) next.rest))
        ∙ sym (append_assoc c.done (next.waiting ++ next.line ∷ []) next.rest)
        ∙ ap (λ (l : List Line). (c.done ++ (next.waiting ++ next.line ∷ [])) ++ l) (sym rest);
    by = done-more clock n verb next.line low next.calls next.waiting next.waits c.done (calls_of k entries) c.by;
    ordered = order-more 0 n verb (calls_of k entries) c.ordered (calls-below k n entries below) (omega arith);
  }
    where
      c : HasCalled (lines_of k s.consumers) (lines_of k (lines_behind s.consumers done)) (calls_of k entries)
      c = worked.called k

      rest : lines_of k (lines_behind s.consumers after) ≡ next.rest
      rest = left-of s.consumers after k count-after
          ∙ ap (λ (i : ℕ). drop i (lines_of k s.consumers)) (get_or-set_same done k (at + 1) 0 there)
          ∙ left-behind (lines_of k s.consumers) (slice_index done k) at clock verb next

  others : (j : ℕ) → j ≢ k → lines_of j (lines_behind s.consumers after) ≡ lines_of j (lines_behind s.consumers done)
  others j apart = left-of s.consumers after j count-after
      ∙ ap (λ (i : ℕ). drop i (lines_of j s.consumers)) (get_or-set_other done k j (at + 1) 0 apart)
      ∙ sym (left-of s.consumers done j count)

  called : (j : ℕ) (b : Bool) → (k == j) ≡ b → HasCalled (lines_of j s.consumers) (lines_of j (lines_behind s.consumers after)) (calls_of j (entries ++ entry ∷ []))
  called j true test = subst (HasCalled (lines_of j s.consumers) (lines_of j (lines_behind s.consumers after))) (sym (calls-now j true test))
      (subst (λ (i : ℕ). HasCalled (lines_of i s.consumers) (lines_of i (lines_behind s.consumers after)) (calls_of i entries ++ (n, verb) ∷ [])) (eqb-true k j test) own)
  called j false test =
      let apart : j ≢ k = λ same. true≢false (sym (eq-eqb k j (sym same)) ∙ test) in
      subst (HasCalled (lines_of j s.consumers) (lines_of j (lines_behind s.consumers after))) (sym (calls-now j false test ∙ append-nil (calls_of j entries)))
      (subst (λ (l : List Line). HasCalled (lines_of j s.consumers) l (calls_of j entries)) (sym (others j apart)) (worked.called j))

  pub verb-called : HasWorked s (entries ++ entry ∷ []) (lines_behind s.consumers after)
  verb-called = record {
    asked = all-append (λ (e : ℕ × Told). IsAsked s.weather e.1.asked) entries (entry ∷ []) worked.asked (record {}, record {});
    called = λ j. called j (k == j) refl;
  }

-- lines of one consumer more are done, which is one of these workers'
pub own-more : (first end workers : ℕ) (done : List ℕ) (k n : ℕ) → AreOwn first end workers done → first ≤ k % workers → k % workers < end → AreOwn first end workers (slice_set done k n)
own-more first end workers done k n own low high j some = by (k == j) refl
  where
    by : (b : Bool) → (k == j) ≡ b → (first ≤ j % workers) × (j % workers < end)
    by true test = subst (λ (i : ℕ). (first ≤ i % workers) × (i % workers < end)) (eqb-true k j test) (low, high)
    by false test = own j (λ none. some (get_or-set_other done k j n 0 (λ same. true≢false (sym (eq-eqb k j (sym same)) ∙ test)) ∙ none))

-- ---- two together

pub both-own : (first middle end workers : ℕ) (lower upper both : List ℕ) → AreOwn first middle workers lower → AreOwn middle end workers upper → AreBoth lower upper both → first ≤ middle → middle ≤ end
    → AreOwn first end workers both
both-own first middle end workers lower upper both low up are one two k some = by (slice_index lower k == 0) refl
  where
    by : (b : Bool) → (slice_index lower k == 0) ≡ b → (first ≤ k % workers) × (k % workers < end)
    by true test = let u = up k (λ none. some (are.each k ∙ ap (λ c. if c then slice_index upper k else slice_index lower k) test ∙ none)) in (omega (arith, u.0, one), u.1)
    by false test = let l = low k (λ none. true≢false (sym (eq-eqb (slice_index lower k) 0 none) ∙ test)) in (l.0, omega (arith, l.1, two))

module _ (s : ScriptValue) (xs ys : List (ℕ × Told)) (first middle end workers : ℕ) (lower upper both : List ℕ)
    (one : HasWorked s xs (lines_behind s.consumers lower)) (two : HasWorked s ys (lines_behind s.consumers upper))
    (low : AreOwn first middle workers lower) (up : AreOwn middle end workers upper) (count : length lower ≡ length s.consumers) (count-up : length upper ≡ length s.consumers)
    (are : AreBoth lower upper both) where
  count-both : length both ≡ length s.consumers
  count-both = are.count ∙ count

  -- who has done no line called nothing
  none-called : (entries : List (ℕ × Told)) (done : List ℕ) → HasWorked s entries (lines_behind s.consumers done) → length done ≡ length s.consumers → (k : ℕ) → slice_index done k ≡ 0
      → calls_of k entries ≡ []
  none-called entries done worked same k none = silent c.done (calls_of k entries) (nothing c.done (lines_of k s.consumers) (c.is ∙ ap (λ (l : List Line). c.done ++ l) whole)) c.by
    where
      c : HasCalled (lines_of k s.consumers) (lines_of k (lines_behind s.consumers done)) (calls_of k entries)
      c = worked.called k

      whole : lines_of k (lines_behind s.consumers done) ≡ lines_of k s.consumers
      whole = left-of s.consumers done k same ∙ ap (λ (i : ℕ). drop i (lines_of k s.consumers)) none

      nothing : (ls all : List Line) → all ≡ ls ++ all → ls ≡ []
      nothing ls all is = append_cancel_right ls [] all (sym is)

      silent : (ls : List Line) (calls : List Call) → ls ≡ [] → AreDoneBy ls calls → calls ≡ []
      silent ls [] is by = refl
      silent ls (x ∷ xs) is by = absurd (subst (λ l. AreDoneBy l (x ∷ xs)) is by)

  joined : (k : ℕ) (b : Bool) → (slice_index lower k == 0) ≡ b → HasCalled (lines_of k s.consumers) (lines_of k (lines_behind s.consumers both)) (calls_of k xs ++ calls_of k ys)
  joined k true test =
      let none : slice_index lower k ≡ 0 = eqb-true (slice_index lower k) 0 test in
      let left : lines_of k (lines_behind s.consumers upper) ≡ lines_of k (lines_behind s.consumers both) = left-of s.consumers upper k count-up
      ∙ ap (λ (i : ℕ). drop i (lines_of k s.consumers)) (sym (are.each k ∙ ap (λ c. if c then slice_index upper k else slice_index lower k) test)) ∙ sym (left-of s.consumers both k count-both) in
      let calls : calls_of k ys ≡ calls_of k xs ++ calls_of k ys = ap (λ (cs : List Call). cs ++ calls_of k ys) (sym (none-called xs lower one count k none)) in
      subst (HasCalled (lines_of k s.consumers) (lines_of k (lines_behind s.consumers both))) calls
      (subst (λ (l : List Line). HasCalled (lines_of k s.consumers) l (calls_of k ys)) left (two.called k))
  joined k false test =
      let some : slice_index lower k ≢ 0 = λ none. true≢false (sym (eq-eqb (slice_index lower k) 0 none) ∙ test) in
      let left : lines_of k (lines_behind s.consumers lower) ≡ lines_of k (lines_behind s.consumers both) = left-of s.consumers lower k count
      ∙ ap (λ (i : ℕ). drop i (lines_of k s.consumers)) (sym (are.each k ∙ ap (λ c. if c then slice_index upper k else slice_index lower k) test)) ∙ sym (left-of s.consumers both k count-both) in
      let calls : calls_of k xs ≡ calls_of k xs ++ calls_of k ys = sym (append-nil (calls_of k xs)) ∙ ap (λ (cs : List Call). calls_of k xs ++ cs) (sym (none-called ys upper two count-up k (no-upper k some))) in
      subst (HasCalled (lines_of k s.consumers) (lines_of k (lines_behind s.consumers both))) calls
      (subst (λ (l : List Line). HasCalled (lines_of k s.consumers) l (calls_of k xs)) left (one.called k))
    where
      no-upper : (k : ℕ) → slice_index lower k ≢ 0 → slice_index upper k ≡ 0
      no-upper k some = by (slice_index upper k == 0) refl
        where
          by : (b : Bool) → (slice_index upper k == 0) ≡ b → slice_index upper k ≡ 0
          by true t = eqb-true (slice_index upper k) 0 t
          by false t =
              let l = low k some in
              let u = up k (λ none. true≢false (sym (eq-eqb (slice_index upper k) 0 none) ∙ t)) in
              absurd (omega (arith, l.1, u.0))

  pub both-worked : HasWorked s (xs ++ ys) (lines_behind s.consumers both)
  both-worked = record {
    asked = all-append (λ (e : ℕ × Told). IsAsked s.weather e.1.asked) xs ys one.asked two.asked;
    called = λ k. subst (HasCalled (lines_of k s.consumers) (lines_of k (lines_behind s.consumers both))) (sym (calls-append k xs ys)) (joined k (slice_index lower k == 0) refl);
  }
