-- What a local operation makes of what is held, and what its end does. Contracts cite it.
use Rattle.std.specs.Prelude.{◌≡◌, ◌++◌, List, [], None, Result, Ok, Err}
use Rattle.ca_adapter_turns.specs.ca_adapter_acts.Binders.{changed_by}
use Rattle.ca_adapter_local.specs.Local.{LocalEnd}
use Rattle.ca_adapter_local.specs.declared.made.Made.{Made}
use Rattle.ca_base.specs.objects.QueuePair.{Present}
use Rattle.ca_adapter_parts.specs.HeldView.{Holding, hold, holding}
use Rattle.ca_adapter_parts.specs.declared.held.Held.{Held}
use Rattle.ca_adapter_reach.specs.declared.reached.Reached.{Reached}
use Rattle.ca_keys.specs.declared.names.QueueId.{QueueId}
use Rattle.ca_localops.specs.Errors.{FailsBy}
use Rattle.ca_localops.specs.declared.marks.OpError.{OpError}
use Rattle.ca_model.specs.Marks.{MarkList}
use Rattle.ca_model.specs.machine.Plan.{Update}
use Rattle.ca_model.specs.machine.Row.{Effects}
use Rattle.ca_model.specs.machine.World.{Queue_of}
use Rattle.ca_adapter_turns.specs.ca_adapter_reach_laws.Ties.{with_reached}

-- what an operation made is what it comes to: it was not refused, and all its changes are there
pub record IsMadeBy (made : Made) (end : LocalEnd) (h : Held) (after : Reached) : Type 0 where
  pub accepted : end.refusal ≡ None
  pub revoked : made.marks.revoked ≡ end.marks.revoked
  pub granted : made.marks.granted ≡ end.marks.granted
  pub windows : made.windows.count ≡ end.windows
  pub changed : holding (with_reached h after) ≡ changed_by end.changes (holding h)

-- an operation was performed over what is held; or it failed, and nothing has changed
abbrev pub HasPerformed : Result Made OpError → LocalEnd → Held → Reached → Type 0
HasPerformed (Ok made) end h after = IsMadeBy made end h after
HasPerformed (Err error) end h after = FailsBy end.refusal error × (after ≡ h.reached)

-- an operation of the queue pair of a name was performed, and has ended with its marks; or nothing has changed
abbrev pub HasStepped : {A E : Type 0} → Result A E → QueueId → Effects → List Update → Holding → Holding → MarkList → MarkList → Type 0
HasStepped (Ok done) name e changes old new before after =
    (new ≡ hold (changed_by changes old) (Queue_of name) (Present e.queue)) × (after.marks ≡ before.marks ++ e.marks)
HasStepped (Err error) name e changes old new before after = new ≡ old

-- the operation of a queue pair that is held has failed, with its marks; or nothing has changed
abbrev pub HasFailed : {A E : Type 0} → Result A E → QueueId → Effects → Holding → Holding → MarkList → MarkList → Type 0
HasFailed result name e old new before after = HasStepped result name e [] old new before after
