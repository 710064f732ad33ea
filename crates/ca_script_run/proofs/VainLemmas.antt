-- A turn that is in vain leaves all as it was. For proofs only.
use Rattle.std.proofs.Common.{◌≡◌, ◌∙◌, refl, ap, ℕ, false, true≢false, Option, None, Some, Ok}
use Rattle.std.specs.Option.{option_map_or}
use Rattle.ca_engine.specs.declared.outcome.Outcome.TheVariants as outcomes
use Rattle.ca_engine.specs.Loop.{outcome_of}
use Rattle.ca_model.specs.declared.event.Event.{Event}
use Rattle.ca_model.specs.machine.Plan as plans
use Rattle.ca_model.specs.machine.Step.{step}
use Rattle.ca_script_order.specs.OfScript.{is_possible}
use Rattle.ca_script_order.specs.Order.{Stage, after_event, after_outcome, at_round}
use Rattle.ca_script_order.specs.Visits as visits
use Rattle.ca_script.specs.Script.{ScriptValue}
use Rattle.ca_script_run.specs.Progress.{IsAt, IsVisited}
use Rattle.ca_script_run.specs.Vain.{IsInVain}
use Rattle.ca_script_run.specs.declared.progress.Progress.{Progress}
use Rattle.ca_model_places.specs.Turns.{event_of}
use Rattle.ca_base.specs.declared.step.Turn.{Turn}

module _ (s : ScriptValue) (g : Stage) (turn : Turn) (p : Progress) (count : ℕ) (at : IsAt s g p) (numbered : count ≡ p.row.count) where
  at-round : IsAt s (at_round g) p
  at-round = record { row = at.row; count = at.count; numbered = at.numbered; past = at.past; left = at.left }

  abbrev Is_left : Stage → Type 0
  Is_left h = IsAt s h p × (outcomes.NotReady count ≡ outcome_of (visits.Engine turn) g h)

  as-it-was : Is_left (at_round g)
  as-it-was = (at-round, ap outcomes.NotReady (numbered ∙ at.count))

  after-none : (event : Event) (o : plans.Outcome) → is_possible o ≡ false → Is_left (after_outcome event o (λ h. h) (at_round g))
  after-none event (plans.NotReady reason) none = as-it-was
  after-none event (plans.Did v ms) none = absurd (true≢false none)

  pub engine_idle : IsInVain s.config g.world turn → IsVisited s (visits.Engine turn) g p (Ok (outcomes.NotReady count))
  engine_idle none = by (event_of s.weather g.world turn) refl
    where
      by : (o : Option Event) → event_of s.weather g.world turn ≡ o → Is_left (option_map_or (λ event. after_event s event (λ h. h) (at_round g)) o (at_round g))
      by None is = as-it-was
      by (Some event) is = after-none event (step s.config g.world event) (none s.weather event is)
