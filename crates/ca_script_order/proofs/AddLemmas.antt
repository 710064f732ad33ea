-- Rounds add entries, and leave those that were there. For proofs only.
use Rattle.std.proofs.Common.{◌≡◌, ℕ, false, [], ◌∷◌, refl, ap, ◌∙◌}
use Rattle.ca_model.specs.declared.event.Event.{Event}
use Rattle.ca_model.specs.machine.Plan.{Outcome, NotReady, Did}
use Rattle.ca_model.specs.machine.Step.{step}
use Rattle.ca_script.specs.Script.{ScriptValue}
use Rattle.ca_script_order.specs.Order.{AddsEntries, Stage, after_event, after_outcome, after_rounds, with_lines_left}
use Rattle.ca_script_order.proofs.KeepLemmas.{IsKept, kept-rounds, kept-visit}

adds-made : (s : ScriptValue) (f : Stage) (event : Event) (done : Stage → Stage) → ((g : Stage) → AddsEntries f g → AddsEntries f (done g)) → (g : Stage) → AddsEntries f g
    → AddsEntries f (after_event s event done g)
adds-made s f event done also g adds = by (step s.config g.world event)
  where
    by : (o : Outcome) → AddsEntries f (after_outcome event o done g)
    by (NotReady reason) = adds
    by (Did w ms) = also _ (record {
      more = record { stamp = g.count; pass = 0; event = event; marks = ms } ∷ adds.more;
      past = ap (λ es. record { stamp = g.count; pass = 0; event = event; marks = ms } ∷ es) adds.past;
      pass = (refl, adds.pass);
    })

-- the lines of a consumer are no entries
adds-lines : (f g : Stage) (h : Stage) → h.past ≡ g.past → AddsEntries f g → AddsEntries f h
adds-lines f g h same adds = record { more = adds.more; past = same ∙ adds.past; pass = adds.pass }

adds-kept : (s : ScriptValue) (f : Stage) → IsKept s (AddsEntries f)
adds-kept s f = record {
  makes = λ event g adds. adds-made s f event (λ h. h) (λ h so. so) g adds;
  calls = λ event k rest g adds. adds-made s f event (with_lines_left k rest) (λ h so. adds-lines f h (with_lines_left k rest h) refl so) g adds;
  passes = λ k rest g adds. adds-lines f g (with_lines_left k rest g) refl adds;
}

pub rounds-add : (s : ScriptValue) (n : ℕ) (g : Stage) → AddsEntries g (after_rounds s n g)
rounds-add s n g = kept-rounds s (AddsEntries g) (λ h adds. adds-lines g h (record h { happened = false }) refl adds) (kept-visit s (AddsEntries g) (adds-kept s g)) n g
    (record { more = []; past = refl; pass = record {} })
