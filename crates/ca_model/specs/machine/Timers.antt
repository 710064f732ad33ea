-- The requester's timer and the wake after an RNR NAK. Contracts cite it.
use Rattle.std.specs.Prelude.{suc, ◌==◌, ◌&&◌, ◌||◌, Bool, false, not, List, [], ◌∷◌}
use Rattle.ca_base.specs.declared.change.State.TheVariants as states
use Rattle.ca_base.specs.declared.limits.TheConstants.{MAX_RETRY}
use Rattle.ca_base.specs.declared.step.Reason.{Reason}
use Rattle.ca_base.specs.declared.step.Reason.TheVariants as reasons
use Rattle.ca_base.specs.objects.QueuePair.{QueuePair}
use Rattle.ca_base.specs.objects.StateTable.{is_among}
use Rattle.ca_model.specs.declared.mark.Mark.TheVariants as marks
use Rattle.ca_model.specs.machine.Acknowledgements.{one_retry, with_requester}
use Rattle.ca_model.specs.machine.Requester.{is_outstanding}
use Rattle.ca_model.specs.machine.Row.{Effects, queue_and_marks}

-- why a timer does not fire, in order
abbrev pub timeout_refusals : Bool → Bool → QueuePair → List (Bool × Reason)
timeout_refusals silent hasten q =
    (not (is_among (states.Rts ∷ states.Sqd ∷ []) q.state), reasons.State)
    ∷ (not (is_outstanding q), reasons.Empty)
    ∷ (not (silent || hasten), reasons.NotDue)
    ∷ []

-- a timer fires: one retry, back to the first PSN that is outstanding
abbrev pub after_timeout : Bool → QueuePair → Effects
after_timeout silent q = by (one_retry q.requester.una (counted q))
  where
    counted : QueuePair → QueuePair
    counted q = with_requester (record q.requester { timers = suc q.requester.timers }) q

    by : Effects → Effects
    by e = record e { marks = marks.Timer q.queue silent ∷ e.marks }

-- why a wake is not possible, in order; `peer_empty` where the path exists and the peer has no receive to take
abbrev pub wake_refusals : Bool → QueuePair → List (Bool × Reason)
wake_refusals peer_empty q =
    (not (is_among (states.Rts ∷ states.Sqd ∷ []) q.state), reasons.State)
    ∷ (not q.requester.waiting, reasons.Empty)
    ∷ ((q.requester.rnr_retry == MAX_RETRY) && peer_empty, reasons.RnrWait)
    ∷ []

-- the waiting ends
abbrev pub after_wake : QueuePair → Effects
after_wake q = queue_and_marks (with_requester (record q.requester { waiting = false }) q) []
