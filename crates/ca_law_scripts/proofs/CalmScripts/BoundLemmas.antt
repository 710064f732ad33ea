-- A history of a script in calm weather that nothing befalls is bounded, and does not spend its events. For proofs only.
use Rattle.std.proofs.Common.{◌≡◌, ℕ, suc, ◌≤◌, ◌<◌, Bool, true, false, if◌then◌else◌, nat_le, List, [], ◌∷◌, length, refl, ap, sym, ◌∙◌, arith, leb-true, true≢false}
use Rattle.std.specs.List.{AllByRecursion}
use Rattle.ca_law_bounds.proofs.ForwardLemmas.{runs-bounded}
use Rattle.ca_law_bounds.proofs.RunCalm.{entries-spared}
use Rattle.ca_law_bounds.specs.CalmRuns.{AreAllClean}
use Rattle.ca_law_scripts.proofs.CalmScripts.CallLemmas.{IsGoodEvent, called-good, calls-bounded, good-made}
use Rattle.ca_law_scripts.proofs.CalmScripts.CalmLemmas.{entries-asked, reach-count, run-calm}
use Rattle.ca_law_scripts.specs.CalmScripts.{AreUntroubled, IsCalmScript, most_entries}
use Rattle.ca_keys.specs.Memory.{zeros}
use Rattle.ca_model.specs.Entries.{EntryValue}
use Rattle.ca_model.specs.Past.{after_entries, opening_past}
use Rattle.ca_model.specs.machine.Run.{Follows}
use Rattle.ca_model.specs.machine.Sound.{AreLimited}
use Rattle.ca_law_once.proofs.Once.RunLemmas.{walk-along}
use Rattle.ca_script_order.proofs.FollowLemmas.{order-follows}
use Rattle.ca_script_order.proofs.ScriptLemmas.{order-told}
use Rattle.ca_script_order.specs.OfScript.{BudgetSpent, Fine, LeadsTo, Stalled, Status, lines_at, opening_reach, stalled_at, stalled_from, status_of}
use Rattle.ca_script_order.specs.Order.{Stage, ending, order}
use Rattle.ca_law_scripts.specs.Rest.{AreCallable}
use Rattle.ca_script.specs.Script.{ScriptValue}
use Rattle.ca_script_lines.specs.declared.Line.{Line}

pub script-bounded : (s : ScriptValue) (es : List EntryValue) (end : Stage) → AreLimited s.config → AreCallable s.consumers → IsCalmScript s → LeadsTo s es end → Follows s.config zeros es → AreUntroubled es
    → AreAllClean (after_entries es (opening_past zeros)) → length es ≤ most_entries s
script-bounded s es end limited callable calm leads follows untroubled clean = omega (
  arith,
  runs-bounded s.config zeros es limited (good-made es good) follows (run-calm s (opening_past zeros) (opening_reach s) _ es calm.weather good untroubled
      (entries-spared s.config zeros es limited (good-made es good) follows (entries-asked es good untroubled)) (walk-along s.config zeros es limited (good-made es good) follows) leads.of_script.stand) clean,
  calls-bounded s.consumers es leads.of_script.calls,
)
  where
    good : AllByRecursion (λ e. IsGoodEvent e.event) es
    good = called-good s.consumers es callable calm.injects leads.of_script.calls

-- ---- the status

abbrev is_spent : Status → Bool
is_spent Fine = false
is_spent (Stalled k number) = false
is_spent (BudgetSpent n) = true

not-spent : (count k : ℕ) (left : List (List Line)) → is_spent (stalled_from count k left) ≡ false
not-spent count k [] = refl
not-spent count k (lines ∷ more) = by (lines_at count lines) (not-spent count (suc k) more)
  where
    by : (ls : List Line) → is_spent (stalled_from count (suc k) more) ≡ false → is_spent (stalled_at k ls (stalled_from count (suc k) more)) ≡ false
    by [] others = others
    by (line ∷ rest) others = refl

pub script-not-spent : (s : ScriptValue) (es : List EntryValue) (end : Stage) → AreLimited s.config → AreCallable s.consumers → IsCalmScript s → LeadsTo s es end → Follows s.config zeros es → AreUntroubled es
    → AreAllClean (after_entries es (opening_past zeros)) → most_entries s < s.config.events → (n : ℕ) → status_of s end ≡ BudgetSpent n → ⊥
script-not-spent s es end limited callable calm leads follows untroubled clean more n is = by (nat_le s.config.events end.count) refl
  where
    few : length es ≤ most_entries s
    few = script-bounded s es end limited callable calm leads follows untroubled clean

    counted : end.count ≡ length es
    counted = omega (arith, reach-count s (opening_reach s) (record { world = end.world; count = end.count; left = leads.left }) es leads.of_script.stand)

    by : (b : Bool) → nat_le s.config.events end.count ≡ b → ⊥
    by true spent = omega (arith, few, counted, more, leb-true s.config.events end.count spent)
    by false none = true≢false (sym (ap is_spent is) ∙ ap (λ b. is_spent (if b then BudgetSpent end.count else stalled_from end.count 0 end.left)) none ∙ not-spent end.count 0 end.left)

pub order-not-spent : (s : ScriptValue) → AreLimited s.config → AreCallable s.consumers → IsCalmScript s → AreUntroubled (order s) → AreAllClean (after_entries (order s) (opening_past zeros)) → most_entries s < s.config.events
    → (n : ℕ) → status_of s (ending s) ≡ BudgetSpent n → ⊥
order-not-spent s limited callable calm untroubled clean more n is =
    script-not-spent s (order s) (ending s) limited callable calm (order-told s) (order-follows s) untroubled clean more n is
