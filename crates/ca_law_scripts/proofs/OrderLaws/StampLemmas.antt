-- The entries of an order have the stamps 0, 1, 2 and so on. For proofs only.
use Rattle.std.proofs.Common.{◌≡◌, ℕ, suc, ◌+◌, List, [], ◌∷◌, ◌++◌, length, reverse, refl, sym, subst, arith}
use Rattle.std.proofs.lemmas.List.{length-reverse, reverse-append}
use Rattle.ca_law_endings.specs.Runs.{AreStamped}
use Rattle.ca_model.specs.Entries.{EntryValue}
use Rattle.ca_model.specs.declared.event.Event.{Event}
use Rattle.ca_model.specs.machine.Plan.{Did, NotReady, Outcome}
use Rattle.ca_model.specs.machine.Step.{step}
use Rattle.ca_script_order.proofs.KeepLemmas.{IsKept, kept-rounds, kept-visit}
use Rattle.ca_script_order.specs.Order.{Stage, after_event, after_outcome, most_rounds, opening_stage, order, with_lines_left}
use Rattle.ca_script.specs.Script.{ScriptValue}

stamped-more : (n : ℕ) (es : List EntryValue) (e : EntryValue) → AreStamped n es → e.stamp ≡ n + length es → AreStamped n (es ++ e ∷ [])
stamped-more n [] e stamped next = (omega (arith, next), record {})
stamped-more n (x ∷ es) e stamped next = (stamped.0, stamped-more (suc n) es e stamped.1 (omega (arith, next)))

-- the entries so far are stamped, and as many as are counted
record IsStamped (g : Stage) : Type 0 where
  stamps : AreStamped 0 (reverse g.past)
  counted : length g.past ≡ g.count

stamped-made : (s : ScriptValue) (event : Event) (done : Stage → Stage) → ((g : Stage) → IsStamped g → IsStamped (done g)) → (g : Stage) → IsStamped g → IsStamped (after_event s event done g)
stamped-made s event done also g is = by (step s.config g.world event)
  where
    by : (o : Outcome) → IsStamped (after_outcome event o done g)
    by (NotReady reason) = is
    by (Did w ms) = also _ (record {
      stamps = subst (AreStamped 0) (sym (reverse-append (record { stamp = g.count; pass = 0; event = event; marks = ms } ∷ []) g.past))
          (stamped-more 0 (reverse g.past) (record { stamp = g.count; pass = 0; event = event; marks = ms }) is.stamps (omega (arith, is.counted, length-reverse g.past)));
      counted = omega (arith, is.counted);
    })

stamped-kept : (s : ScriptValue) → IsKept s IsStamped
stamped-kept s = record {
  makes = λ event g is. stamped-made s event (λ h. h) (λ h so. so) g is;
  calls = λ event k rest g is. stamped-made s event (with_lines_left k rest) (λ h so. record { stamps = so.stamps; counted = so.counted }) g is;
  passes = λ k rest g is. record { stamps = is.stamps; counted = is.counted };
}

pub order-stamped : (s : ScriptValue) → AreStamped 0 (order s)
order-stamped s = (kept-rounds s IsStamped (λ g is. record { stamps = is.stamps; counted = is.counted }) (kept-visit s IsStamped (stamped-kept s)) (most_rounds s) (opening_stage s)
    (record { stamps = record {}; counted = refl })).stamps
