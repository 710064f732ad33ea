-- How many lines are done by some workers and others. For proofs only.
use Rattle.std.proofs.Common.{◌≡◌, ◌∙◌, ◌≢◌, refl, sym, ap, subst, ℕ, ◌+◌, ◌<◌, ◌≤◌, arith, Bool, true, false, true≢false, nat_lt, if◌then◌else◌, ◌==◌, List, length, slice_index, slice_set, Result, Ok, Err, OnOk, is_err}
use Rattle.std.proofs.lemmas.Bool.{eq-eqb, eqb-true, ltb-true}
use Rattle.std.proofs.lemmas.Bool.Decides.{nat_tests}
use Rattle.std.proofs.lemmas.List.{get_or-set_other, get_or-set_same, get_or_past, length-set}
use Rattle.ca_run_race.proofs.WorkLemmas.{both-own, both-worked}
use Rattle.ca_run_race.specs.Workers.{AreBoth, IsWorkOf}
use Rattle.ca_run_race.specs.declared.work.Work.{Work}
use Rattle.ca_verbs_scripts.specs.Work.{HasWorked}
use Rattle.ca_script.specs.Script.{ScriptValue}
use Rattle.ca_script_run.specs.Progress.{lines_behind}
use Rattle.ca_verbs.specs.ca_verbs_taking.Holding.{Known}
use Rattle.ca_parts.specs.Views.{joined_with}
use Rattle.ca_verbs.specs.Passes.{IsOf, known_of}
use Rattle.ca_verbs.specs.declared.fabric.Fabric.{Fabric}

abbrev pub one-or-other : List ℕ → List ℕ → ℕ → ℕ
one-or-other lower upper k = if slice_index lower k == 0 then slice_index upper k else slice_index lower k

-- up to a place the numbers of both are there, and behind it those of one
pub record IsMerging (lower upper now : List ℕ) (n : ℕ) : Type 0 where
  pub count : length now ≡ length lower
  pub front : (k : ℕ) → k < n → slice_index now k ≡ one-or-other lower upper k
  pub behind : (k : ℕ) → n ≤ k → slice_index now k ≡ slice_index lower k

pub merging-none : (lower upper : List ℕ) → IsMerging lower upper lower 0
merging-none lower upper = record { count = refl; front = λ k less. absurd (omega (arith, less)); behind = λ k less. refl }

module _ (lower upper now : List ℕ) (n : ℕ) (so : IsMerging lower upper now n) where
  -- a number stays
  pub merging-kept : slice_index now n ≢ 0 → IsMerging lower upper now (n + 1)
  merging-kept some = record {
    count = so.count;
    front = λ k less. by k less (n == k) refl;
    behind = λ k less. so.behind k (omega (arith, less));
  }
    where
      by : (k : ℕ) → k < n + 1 → (b : Bool) → (n == k) ≡ b → slice_index now k ≡ one-or-other lower upper k
      by k less true same =
          let here : n ≡ k = eqb-true n k same in
          let old : slice_index now k ≡ slice_index lower k = so.behind k (omega (arith, here)) in
          let not_none : slice_index lower k ≢ 0 = λ none. some (ap (slice_index now) here ∙ (old ∙ none)) in
          old ∙ sym (ap (λ b. if b then slice_index upper k else slice_index lower k) (differs (slice_index lower k) not_none))
        where
          differs : (m : ℕ) → m ≢ 0 → (m == 0) ≡ false
          differs m apart = pick (m == 0) refl
            where
              pick : (b : Bool) → (m == 0) ≡ b → (m == 0) ≡ false
              pick true e = absurd (apart (eqb-true m 0 e))
              pick false e = e
      by k less false apart = so.front k (omega (arith, less, other))
        where
          other : k ≢ n
          other same = true≢false (sym (eq-eqb n k (sym same)) ∙ apart)

  -- or the other's is taken over
  pub merging-taken : slice_index now n ≡ 0 → n < length now → IsMerging lower upper (slice_set now n (slice_index upper n)) (n + 1)
  merging-taken none less = record {
    count = length-set now n (slice_index upper n) ∙ so.count;
    front = λ k below. by k below (n == k) refl;
    behind = λ k above. get_or-set_other now n k (slice_index upper n) 0 (λ same. absurd (omega (arith, same, above))) ∙ so.behind k (omega (arith, above));
  }
    where
      by : (k : ℕ) → k < n + 1 → (b : Bool) → (n == k) ≡ b → slice_index (slice_set now n (slice_index upper n)) k ≡ one-or-other lower upper k
      by k below true same =
          let here : n ≡ k = eqb-true n k same in
          let zero_there : slice_index lower n ≡ 0 = sym (so.behind n (omega arith)) ∙ none in
          subst (λ i. slice_index (slice_set now n (slice_index upper n)) i ≡ one-or-other lower upper i) here
          (get_or-set_same now n (slice_index upper n) 0 less ∙ sym (ap (λ b. if b then slice_index upper n else slice_index lower n) (eq-eqb (slice_index lower n) 0 zero_there)))
      by k below false apart = get_or-set_other now n k (slice_index upper n) 0 other ∙ so.front k (omega (arith, below, other))
        where
          other : k ≢ n
          other same = true≢false (sym (eq-eqb n k (sym same)) ∙ apart)

-- all of them
pub merged : (lower upper now : List ℕ) (n : ℕ) → IsMerging lower upper now n → length lower ≤ n → length upper ≤ n → AreBoth lower upper now
merged lower upper now n so low up = record { count = so.count; each = λ k. by k (nat_lt k n) refl }
  where
    behind-all : (k : ℕ) → n ≤ k → slice_index now k ≡ one-or-other lower upper k
    behind-all k above =
        let none : slice_index lower k ≡ 0 = get_or_past lower k 0 (omega (arith, above, low)) in
        so.behind k above ∙ none ∙ sym (get_or_past upper k 0 (omega (arith, above, up))) ∙ sym (ap (λ b. if b then slice_index upper k else slice_index lower k) (eq-eqb (slice_index lower k) 0 none))

    by : (k : ℕ) (b : Bool) → nat_lt k n ≡ b → slice_index now k ≡ one-or-other lower upper k
    by k true less = so.front k (ltb-true k n less)
    by k false more = behind-all k (grind (arith, nat_tests, more))

-- ---- what both did

-- what is ensured where a call did not fail
pub when-ok : {A E P : Type 0} (r : Result A E) (b : Bool) → b ≡ is_err r → b ≡ false → OnOk r P → P
when-ok (Ok a) b is none holds = holds
when-ok (Err e) b is none holds = absurd (true≢false (sym is ∙ none))

-- the work of two teams, one beside the other
pub merged-work : (fabric : Fabric) (s : ScriptValue) (first middle end workers : ℕ) (lower upper both : Work) → IsWorkOf fabric s first middle workers lower → IsWorkOf fabric s middle end workers upper
    → first ≤ middle → middle ≤ end → IsOf fabric both.pass → known_of both.pass ≡ joined_with (known_of lower.pass) (known_of upper.pass) → AreBoth lower.done.items upper.done.items both.done.items
    → IsWorkOf fabric s first end workers both
merged-work fabric s first middle end workers lower upper both one two low high of joined are = record {
  pass = of;
  worked = subst (λ es. HasWorked s es (lines_behind s.consumers both.done.items)) (sym (ap (λ (v : Known). v.entries) joined))
      (both-worked s (known_of lower.pass).entries (known_of upper.pass).entries first middle end workers lower.done.items upper.done.items both.done.items one.worked two.worked one.own two.own one.count two.count are);
  own = both-own first middle end workers lower.done.items upper.done.items both.done.items one.own two.own are low high;
  count = are.count ∙ one.count;
}
