-- The queue pair through which a window is bound, and what its end changes there. Contracts cite it.
use Rattle.std.specs.Prelude.{Bool, true, List, [], Option, None, Some}
use Rattle.ca_keys.specs.declared.names.QueueId.{QueueId}
use Rattle.ca_adapter_parts.specs.declared.held.Held.{Held}
use Rattle.ca_adapter_parts.specs.HeldView.{Holding, holding}
use Rattle.ca_model.specs.machine.Plan.{Update, put_all}
use Rattle.ca_model.specs.machine.WindowVerbs.{queue_updates}
use Rattle.ca_model.specs.machine.World.{Queue_of, World}

-- what is held, with these changes
abbrev pub changed_by : List Update → Holding → Holding
changed_by changes h = record h { world = put_all changes h.world }

-- it has one window fewer
abbrev pub binder_updates : World → Option QueueId → List Update
binder_updates w None = []
binder_updates w (Some q) = queue_updates q (w.queue q)

-- it is held, where there is one
abbrev pub is_binder_held : Held → Option QueueId → Bool
is_binder_held h None = true
is_binder_held h (Some q) = (holding h).has (Queue_of q)
