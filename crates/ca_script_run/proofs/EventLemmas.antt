-- An event that is tried on what is kept does what it does of the stage. For proofs only.
use Rattle.std.proofs.Common.{◌≡◌, ◌∙◌, refl, sym, ap, subst, ℕ, suc, List, [], ◌∷◌, ◌++◌, length, Ok, Err}
use Rattle.std.proofs.lemmas.List.{length-reverse, reverse-append}
use Rattle.ca_adapter_store.proofs.of_ca_law_endings.EventFitLemmas.{event-fits}
use Rattle.ca_adapter_store.specs.ca_law_endings.Runs.{Comes}
use Rattle.ca_base.specs.declared.step.Reason.{Reason}
use Rattle.ca_base.specs.declared.step.ActError.TheVariants as steps
use Rattle.ca_engine.specs.declared.outcome.Outcome as outcomes-of
use Rattle.ca_engine.specs.declared.outcome.Outcome.TheVariants as outcomes
use Rattle.ca_model.specs.Entries.{EntryValue}
use Rattle.ca_model.specs.History.{FitTheEvent, IsEntry}
use Rattle.ca_model.specs.Marks.{MarkList}
use Rattle.ca_model.specs.declared.event.Event.{Event}
use Rattle.ca_model.specs.machine.Plan.{Did, NotReady, Outcome}
use Rattle.ca_model.specs.machine.Step.{step}
use Rattle.ca_script_order.specs.Order.{Stage, after_outcome, at_round}
use Rattle.ca_adapter_store.specs.Rest.{KeepsRow}
use Rattle.ca_adapter_store.specs.Rows.{IsMade, IsRow, IsRowOf}
use Rattle.ca_adapter_store.specs.declared.row.Row.{Row}
use Rattle.ca_script.specs.Script.{ScriptValue}
use Rattle.ca_script_run.specs.Progress.{IsAt, IsLeftBy, IsTried, IsUnderWay, told_of}
use Rattle.ca_script_run.specs.declared.progress.Progress.{Progress}

-- what is left where no event was made
pub left_otherwise : (outcome : outcomes-of.Outcome) (old new : Row) → (outcome ≡ outcomes.Did → ⊥) → IsLeftBy (Ok outcome) old new → KeepsRow [] old new
left_otherwise outcomes.Did old new not_did left = absurd (not_did refl)
left_otherwise (outcomes.NotReady now) old new not_did left = left
left_otherwise outcomes.Busy old new not_did left = left
left_otherwise outcomes.Ended old new not_did left = left

pub row_stands : (p : Progress) → IsUnderWay p → IsRow p.row
row_stands p is = record {
  world = is.stage.world;
  of = subst (λ c. IsRowOf c is.stage.world p.row) (sym is.at.row.settings) is.at.row;
}

-- the entry of an event that was made may stand where it is added
pub entry_stands : (p : Progress) (row : Row) (event : Event) (m : MarkList) (stamp : ℕ) → IsUnderWay p
    → ((s : ScriptValue) (g : Stage) → IsAt s g p → IsMade (Ok m) (step s.config g.world event) g.world (λ v. IsRowOf s.config v row))
    → stamp ≡ p.row.count → IsEntry (length p.history) (record { stamp = stamp; pass = 0; event = event; marks = m.marks })
entry_stands p row event m stamp is made numbered = record {
  stamp = numbered ∙ is.at.count ∙ sym is.at.numbered ∙ sym (length-reverse is.stage.past) ∙ sym (ap length is.at.past);
  marks = by (step is.script.config is.stage.world event) (event-fits is.script.config event is.stage.world) (made is.script is.stage is.at);
}
  where
    by : (o : Outcome) → Comes (λ v ms. FitTheEvent event ms) o → IsMade (Ok m) o is.stage.world (λ v. IsRowOf is.script.config v row) → FitTheEvent event m.marks
    by (NotReady reason) comes made = absurd made
    by (Did v ms) comes made = subst (FitTheEvent event) (sym made.0) comes

module _ (s : ScriptValue) (g : Stage) (p : Progress) (at : IsAt s g p) (event : Event) (row : Row) where
  -- it was made
  pub tried_made : (m : MarkList) (stamp : ℕ) (history : List EntryValue)
      → IsMade (Ok m) (step s.config g.world event) g.world (λ v. IsRowOf s.config v row) → row.count ≡ suc p.row.count → stamp ≡ p.row.count
      → history ≡ p.history ++ record { stamp = stamp; pass = 0; event = event; marks = m.marks } ∷ []
      → IsTried s event g (record p { row = row; history = history }) (Ok outcomes.Did)
  tried_made m stamp history made count numbered added = by (step s.config g.world event) made
    where
      by : (o : Outcome) → IsMade (Ok m) o g.world (λ v. IsRowOf s.config v row)
          → IsAt s (after_outcome event o (λ h. h) (at_round g)) (record p { row = row; history = history })
          × (outcomes.Did ≡ told_of g (after_outcome event o (λ h. h) (at_round g)))
      by (NotReady reason) made = absurd made
      by (Did v ms) made = (
        record {
          row = made.1;
          count = count ∙ ap suc at.count;
          numbered = ap suc at.numbered;
          past = added ∙ (λ i. at.past i ++ record { stamp = (numbered ∙ at.count) i; pass = 0; event = event; marks = made.0 i } ∷ [])
              ∙ sym (reverse-append (record { stamp = g.count; pass = 0; event = event; marks = ms } ∷ []) g.past);
          left = at.left;
        },
        refl,
      )

  -- it was not possible
  pub tried_in_vain : (reason : Reason) (stamp : ℕ)
      → IsMade (Err (steps.NotReady reason)) (step s.config g.world event) g.world (λ v. IsRowOf s.config v row) → row.count ≡ p.row.count → stamp ≡ p.row.count
      → IsTried s event g (record p { row = row }) (Ok (outcomes.NotReady stamp))
  tried_in_vain reason stamp made count numbered = by (step s.config g.world event) made
    where
      by : (o : Outcome) → IsMade (Err (steps.NotReady reason)) o g.world (λ v. IsRowOf s.config v row)
          → IsAt s (after_outcome event o (λ h. h) (at_round g)) (record p { row = row })
          × (outcomes.NotReady stamp ≡ told_of g (after_outcome event o (λ h. h) (at_round g)))
      by (Did v ms) made = absurd made
      by (NotReady why) made = (
        record {
          row = made.1;
          count = count ∙ at.count;
          numbered = at.numbered;
          past = at.past;
          left = at.left;
        },
        ap outcomes.NotReady (numbered ∙ at.count),
      )
