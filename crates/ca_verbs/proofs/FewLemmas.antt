-- A pass has at most as many entries that reach the limit of events as it is made of passes: each call reads less than the
-- limit, and its stamp is above those that the pass has. For proofs only.
use Rattle.std.proofs.Common.{◌≡◌, ◌∙◌, refl, sym, ap, subst, ℕ, suc, ◌+◌, ◌<◌, ◌≤◌, inl, inr, arith, Bool, true, false, nat_le, if◌then◌else◌, List, [], ◌∷◌, ◌++◌, Some}
use Rattle.std.proofs.lemmas.Bool.{lt-leb}
use Rattle.std.proofs.lemmas.Option.{same_Some}
use Rattle.ca_base.specs.declared.settings.Settings.{Settings}
use Rattle.ca_parts.specs.Lists.{Has}
use Rattle.ca_parts.specs.Views.{first_view, joined_with, lower_half, upper_half, with_look}
use Rattle.ca_verbs_machine.specs.declared.asked.Told.{Told}
use Rattle.ca_verbs_taking.specs.Holding.{Known}
use Rattle.ca_verbs_taking.specs.Taking.{SameRecord}
use Rattle.ca_verbs.specs.Kept.{AreFew, late_count}
use Rattle.ca_verbs.specs.Tried.{IsMade}

late-append : (limit : ℕ) (xs ys : List (ℕ × Told)) → late_count limit (xs ++ ys) ≡ late_count limit xs + late_count limit ys
late-append limit [] ys = omega arith
late-append limit (x ∷ xs) ys = omega (arith, late-append limit xs ys)

none-more : (n : ℕ) → 0 + n ≡ n
none-more n = omega arith

-- entries below a number that is below the limit are not late
none-late : (limit n : ℕ) (ts : List (ℕ × Told)) → n < limit → ((m : ℕ) (e : Told) → Has (m, e) ts → m < n) → late_count limit ts ≡ 0
none-late limit n [] under below = refl
none-late limit n (t ∷ ts) under below =
    let here : t.0 < n = below t.0 t.1 (inl refl) in
    let early : nat_le limit (suc t.0) ≡ false = lt-leb limit (suc t.0) (omega (arith, here, under)) in
    ap (λ (b : Bool). (if b then 1 else 0) + late_count limit ts) early ∙ none-more (late_count limit ts) ∙ none-late limit n ts under (λ m e has. below m e (inr has))

one-late : (limit n : ℕ) (e : Told) → late_count limit ((n, e) ∷ []) ≤ 1
one-late limit n e = by (nat_le limit (suc n))
  where
    by : (b : Bool) → (if b then 1 else 0) + 0 ≤ 1
    by true = omega arith
    by false = omega arith

pub few-first : (key : Settings) → AreFew (first_view key)
few-first key = record { late = λ k is. omega arith; some = omega arith }

pub few-look : (n : ℕ) (v : Known) → AreFew v → AreFew (with_look n v)
few-look n v few = record { late = few.late; some = few.some }

pub few-lower : (v : Known) → AreFew v → AreFew (lower_half v)
few-lower v few = record { late = few.late; some = few.some }

pub few-upper : (v : Known) → AreFew (upper_half v)
few-upper v = record { late = λ k is. omega arith; some = omega arith }

module _ (key : Settings) (old new : Known) (was : old.settings ≡ Some key) (is : new.settings ≡ Some key) (few : AreFew old) where
  before : (k : Settings) → new.settings ≡ Some k → late_count k.events old.entries ≤ old.passes
  before k same = few.late k (was ∙ sym is ∙ same)

  pub few-same : SameRecord old new → AreFew new
  few-same same = record {
    late = λ k at. subst (λ es. late_count k.events es ≤ new.passes) (sym same.1) (subst (λ n. late_count k.events old.entries ≤ n) (sym same.0.1) (before k at));
    some = subst (λ n. 1 ≤ n) (sym same.0.1) few.some;
  }

  pub few-made : (e : Told) (stamp : ℕ) → IsMade key e stamp old new → AreFew new
  few-made e stamp made = record {
    late = λ k at. subst (λ (z : Settings). late_count z.events new.entries ≤ new.passes) (same_Some key k (sym is ∙ at)) all;
    some = some;
  }
    where
      some : 1 ≤ new.passes
      some = subst (λ n. 1 ≤ n) (sym made.passes) few.some

      none : late_count key.events old.entries ≡ 0
      none = none-late key.events made.looked old.entries made.under made.noted.later

      all : late_count key.events new.entries ≤ new.passes
      all = omega (arith, some, none, one-late key.events stamp e, late-append key.events old.entries ((stamp, e) ∷ []), ap (late_count key.events) made.added)

pub few-joined : (key : Settings) (v w : Known) → v.settings ≡ Some key → w.settings ≡ Some key → AreFew v → AreFew w → AreFew (joined_with v w)
few-joined key v w first other few more = record {
  late = λ k at.
      let mine : late_count k.events v.entries ≤ v.passes = few.late k at in
      let others : late_count k.events w.entries ≤ w.passes = more.late k (other ∙ sym first ∙ at) in
      omega (arith, mine, others, late-append k.events v.entries w.entries);
  some = omega (arith, few.some);
}
