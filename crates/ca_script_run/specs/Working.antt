-- A script that is worked offer by offer to its end. Contracts cite it.
use Rattle.std.specs.Prelude.{◌≡◌, ℕ, ◌<◌, ◌≤◌, ◌^◌, true, length, Option, None, Some, Result, Ok, Err}
use Rattle.ca_engine.specs.Engine.{EngineValue}
use Rattle.ca_engine.specs.declared.offer.Offer.{Offer}
use Rattle.ca_engine.specs.declared.offer.Offer.TheVariants as offers
use Rattle.ca_engine.specs.declared.outcome.Outcome.{Outcome}
use Rattle.ca_engine.specs.Loop.{Work, has_ended, most_offers, work_after_all, work_from}
use Rattle.ca_keys.specs.declared.memory.Memory.{Memory}
use Rattle.ca_model.specs.machine.Sound.{AreLimited}
use Rattle.ca_script_order.specs.Order.{Stage}
use Rattle.ca_script_order.specs.Visits.{Consumer, Engine}
use Rattle.ca_script.specs.Script.{ScriptValue}
use Rattle.ca_script_run.specs.Known.{AreKnown}
use Rattle.ca_script_run.specs.Progress.{IsAt, IsVisited}
use Rattle.ca_script_run.specs.declared.known.Known.{Known}
use Rattle.ca_script_run.specs.declared.progress.Progress.{Progress}

-- A script can be worked: its configuration keeps to the limits, and there are not too many consumers and offers to count.
pub record IsWorkable (s : ScriptValue) : Type 0 where
  pub limited : AreLimited s.config
  pub consumers : length s.consumers < 2 ^ 32
  pub offers : most_offers s < 2 ^ 64

-- What was offered was visited as the order has it; where Quiet was, nothing is done. Where memory ended nothing is said.
abbrev pub IsOffered : ScriptValue → Offer → Stage → Progress → Result (Option Outcome) Memory → Type 0
IsOffered s (offers.Consumer k) g p (Ok (Some outcome)) = IsVisited s (Consumer k) g p (Ok outcome)
IsOffered s (offers.Turn turn) g p (Ok (Some outcome)) = IsVisited s (Engine turn) g p (Ok outcome)
IsOffered s offers.Quiet g p (Ok None) = IsAt s g p
IsOffered s offer g p (Ok o) = ⊥
IsOffered s offer g p (Err error) = Unit {0}

-- the script after so many offers from a stage on
abbrev pub work_at : ScriptValue → Stage → ℕ → Work
work_at s g n = work_after_all s n (work_from s g)

-- an engine, and what is kept, are those of a loop
pub record IsWorking (s : ScriptValue) (w : Work) (e : EngineValue) (p : Progress) : Type 0 where
  pub engine : e ≡ w.engine
  pub at : IsAt s w.stage p

-- An engine, what is kept, and what is known of turns in vain, are those of the loop from a stage on, after at least so many
-- offers.
pub record IsWorkingOn (s : ScriptValue) (g : Stage) (count : ℕ) (e : EngineValue) (p : Progress) (k : Known) : Type 0 where
  pub offers : ℕ
  pub enough : count ≤ offers
  pub working : IsWorking s (work_at s g offers) e p
  pub known : AreKnown e.round (work_at s g offers).stage.world k

-- what is kept is that of the loop from a stage on, where it has ended
pub record IsWorked (s : ScriptValue) (g : Stage) (p : Progress) : Type 0 where
  pub offers : ℕ
  pub ended : has_ended s (work_at s g offers) ≡ true
  pub at : IsAt s (work_at s g offers).stage p
