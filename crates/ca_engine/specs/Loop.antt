-- A loop that takes what an engine offers, makes it where it is possible, and tells what came of it. Contracts cite it.
use Rattle.std.specs.Prelude.{ℕ, zero, suc, ◌+◌, ◌*◌, ◌||◌, Bool, true, false, if◌then◌else◌, List, [], ◌∷◌, length, Option, None, Some}
use Rattle.ca_engine.specs.Engine.{EngineValue, engine_after, offer_of, opening_engine}
use Rattle.ca_engine.specs.Offers.{offers_of_round, offers_of_timers}
use Rattle.ca_engine.specs.declared.offer.Offer.{Offer}
use Rattle.ca_engine.specs.declared.offer.Offer.TheVariants as offers
use Rattle.ca_engine.specs.declared.outcome.Outcome.{Outcome}
use Rattle.ca_engine.specs.declared.outcome.Outcome.TheVariants as outcomes
use Rattle.ca_script_order.specs.Order.{Stage, at_round, has_no_event_left, lines_of, most_rounds, opening_stage, after_visit}
use Rattle.ca_script_order.specs.Visits.{Visit, Consumer, Engine}
use Rattle.ca_script_order.specs.ca_script.Script.{ScriptValue}
use Rattle.ca_script_order.specs.ca_script_lines.declared.Line.{Line}

-- an engine, and how far the script is worked
pub record Work : Type 0 where
  pub engine : EngineValue
  pub stage : Stage

-- before the first offer, where the script is worked as far as a stage
abbrev pub work_from : ScriptValue → Stage → Work
work_from s g = record { engine = opening_engine s.config (length s.consumers); stage = g }

-- before the first offer of all
abbrev pub opening_work : ScriptValue → Work
opening_work s = work_from s (opening_stage s)

-- the visit that is offered; none where Quiet is
abbrev pub visit_of : Offer → Option Visit
visit_of (offers.Consumer k) = Some (Consumer k)
visit_of (offers.Turn turn) = Some (Engine turn)
visit_of offers.Quiet = None

-- no line is left
abbrev pub is_none_left : List Line → Bool
is_none_left [] = true
is_none_left (line ∷ rest) = false

-- a consumer is at its end
abbrev pub is_at_end : Visit → Stage → Bool
is_at_end (Consumer k) g = is_none_left (lines_of k g.left)
is_at_end (Engine turn) g = false

-- what is told of a visit in which nothing happened
abbrev pub outcome_of_nothing : Visit → Stage → Outcome
outcome_of_nothing v g = if is_at_end v g then outcomes.Ended else outcomes.NotReady g.count

-- what is told of a visit, by the stages before and after it
abbrev pub outcome_of : Visit → Stage → Stage → Outcome
outcome_of v before after = if after.happened then outcomes.Did else outcome_of_nothing v before

-- a visit is made where it is possible, and what came of it is told
abbrev pub work_after_visit : ScriptValue → Visit → Work → Work
work_after_visit s v w = record {
  engine = engine_after w.engine (outcome_of v w.stage (after_visit s v (at_round w.stage)));
  stage = after_visit s v (at_round w.stage);
}

-- what is offered is done
abbrev pub work_after : ScriptValue → Work → Work
work_after s w = by (visit_of (offer_of w.engine))
  where
    by : Option Visit → Work
    by None = w
    by (Some v) = work_after_visit s v w

abbrev pub is_quiet_offer : Offer → Bool
is_quiet_offer (offers.Consumer k) = false
is_quiet_offer (offers.Turn turn) = false
is_quiet_offer offers.Quiet = true

-- the loop has ended: as many events were made as the script allows, or Quiet is offered
abbrev pub has_ended : ScriptValue → Work → Bool
has_ended s w = has_no_event_left s w.stage || is_quiet_offer (offer_of w.engine)

-- so many offers are taken, until the loop has ended
abbrev pub work_after_all : ScriptValue → ℕ → Work → Work
work_after_all s zero w = w
work_after_all s (suc n) w = if has_ended s w then w else work_after_all s n (work_after s w)

-- more offers than there can be: those of a round and of a timer pass, for each round that there can be
abbrev pub most_offers : ScriptValue → ℕ
most_offers s =
    most_rounds s * (length (offers_of_round s.config (length s.consumers)) + length (offers_of_timers s.config))
