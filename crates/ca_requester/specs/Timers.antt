-- What a step of a timer makes, or why it does nothing. Contracts cite it.
use Rattle.std.specs.Prelude.{◌≡◌, Option, None, Some, Result, Ok, Err}
use Rattle.ca_base.specs.declared.step.Reason.{Reason}
use Rattle.ca_base.specs.declared.step.ActError.{ActError}
use Rattle.ca_base.specs.declared.step.ActError.TheVariants as steps
use Rattle.ca_base.specs.objects.QueuePair.{QueuePair}
use Rattle.ca_model.specs.Marks.{MarkList}
use Rattle.ca_model.specs.machine.Row.{Effects}
use Rattle.ca_requester_sends.specs.ca_qp_rows.Made.{HasMade, IsUnchanged}

-- the reason for which a step is not possible now; none where memory ended
abbrev pub reason_of : ActError → Option Reason
reason_of (steps.NotReady reason) = Some reason
reason_of steps.Memory = None

-- a step made these effects, where no reason stands against it, or nothing
abbrev pub IsStep : {A : Type 0} → Result A ActError → Option Reason → Effects → QueuePair → QueuePair → MarkList → MarkList → Type 0
IsStep (Ok done) refusal e queue_before queue_after before after = (refusal ≡ None) × HasMade e queue_after before after
IsStep (Err error) refusal e queue_before queue_after before after =
    (refusal ≡ reason_of error) × IsUnchanged queue_before queue_after before after

-- a step with no marks, that takes no memory
abbrev pub IsPlainStep : {A : Type 0} → Result A Reason → Option Reason → Effects → QueuePair → QueuePair → Type 0
IsPlainStep (Ok done) refusal e queue_before queue_after = (refusal ≡ None) × (queue_after ≡ e.queue)
IsPlainStep (Err reason) refusal e queue_before queue_after = (refusal ≡ Some reason) × (queue_after ≡ queue_before)
