-- The lines of a consumer in front of the verb that it calls next. For proofs only.
use Rattle.std.proofs.Common.{◌≡◌, ◌∙◌, refl, sym, ap, subst, ℕ, ◌+◌, ◌<◌, ◌≤◌, arith, Bool, true, false, cond, nat_cmp, List, [], ◌∷◌, ◌++◌, drop}
use Rattle.std.proofs.lemmas.Bool.Decides.{nat_tests}
use Rattle.std.proofs.lemmas.List.{append_assoc, length_push}
use Rattle.std.specs.Ordering.{is_lt, ord_max}
use Rattle.ca_model.specs.declared.verb.Verb.{Verb}
use Rattle.ca_run_race.proofs.ListLemmas.{all-append}
use Rattle.ca_run_race.specs.Calls.{AllWait, AreWaiting, IsNextCall, Waits}
use Rattle.ca_script_lines.specs.declared.Line.{Line}
use Rattle.ca_script_lines.specs.declared.what.What.{What}
use Rattle.ca_script_lines.specs.declared.what.What.TheVariants as whats

-- none is in front
pub waiting-none : (lines : List Line) (passed clock : ℕ) → AreWaiting lines passed passed clock
waiting-none lines passed clock = record { waiting = []; is = refl; waits = record {}; place = omega arith }

-- who waits for a clock waits for none that is later
later-clock : (clock more : ℕ) (lines : List Line) → clock ≤ more → AllWait clock lines → AllWait more lines
later-clock clock more [] less all = record {}
later-clock clock more (line ∷ lines) less all = (by line.what all.0, later-clock clock more lines less all.1)
  where
    by : (what : What) → Waits clock what → Waits more what
    by (whats.Verb verb) bad = bad
    by (whats.At t) low = omega (arith, low, less)

-- two clocks are not behind the later of them
pub behind-later : (a b : ℕ) → (a ≤ ord_max nat_cmp a b) × (b ≤ ord_max nat_cmp a b)
behind-later a b = by (is_lt (nat_cmp b a)) refl
  where
    by : (c : Bool) → is_lt (nat_cmp b a) ≡ c → (a ≤ ord_max nat_cmp a b) × (b ≤ ord_max nat_cmp a b)
    by true e =
        let is : ord_max nat_cmp a b ≡ a = ap (λ x. cond x a b) e in
        let less : b < a = grind (arith, nat_tests, e) in
        (omega (arith, is), omega (arith, is, less))
    by false e =
        let is : ord_max nat_cmp a b ≡ b = ap (λ x. cond x a b) e in
        let less : a ≤ b = grind (arith, nat_tests, e) in
        (omega (arith, is, less), omega (arith, is))

module _ (lines : List Line) (passed at clock : ℕ) (so : AreWaiting lines passed at clock) (line : Line) (rest : List Line) (there : drop at lines ≡ line ∷ rest) where
  -- a line more that waits
  pub waiting-more : (t more : ℕ) → rest ≡ drop (at + 1) lines → line.what ≡ whats.At t → clock ≤ more → t ≤ more → AreWaiting lines passed (at + 1) more
  waiting-more t more behind is low high = record {
    waiting = so.waiting ++ line ∷ [];
    is = so.is ∙ ap (λ (l : List Line). so.waiting ++ l) (there ∙ ap (λ (l : List Line). line ∷ l) behind) ∙ sym (append_assoc so.waiting (line ∷ []) (drop (at + 1) lines));
    waits = all-append (λ (l : Line). Waits more l.what) so.waiting (line ∷ []) (later-clock clock more so.waiting low so.waits) (subst (Waits more) (sym is) high, record {});
    place = omega (arith, so.place, length_push so.waiting line);
  }

  -- the verb behind them
  pub next-found : (verb : Verb) → line.what ≡ whats.Verb verb → IsNextCall lines passed at clock verb
  next-found verb is = record {
    waiting = so.waiting;
    line = line;
    rest = rest;
    is = so.is ∙ ap (λ (l : List Line). so.waiting ++ l) there;
    waits = so.waits;
    calls = is;
    place = so.place;
  }
