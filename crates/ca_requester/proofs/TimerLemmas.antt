-- A timer that fires: its mark, and one retry.
use Rattle.std.proofs.Common.{◌≡◌, ℕ, suc, ap, ◌∙◌, Bool, [], ◌∷◌}
use Rattle.ca_base.specs.declared.queue_numbers.RequesterNumbers.{RequesterNumbers}
use Rattle.ca_keys.specs.declared.names.QueueId.{QueueId}
use Rattle.ca_base.specs.objects.QueuePair.{QueuePair}
use Rattle.ca_model.specs.declared.mark.Mark.TheVariants as marks
use Rattle.ca_model.specs.machine.Acknowledgements.{one_retry}
use Rattle.ca_model.specs.machine.Expected.{behind_marks}
use Rattle.ca_model.specs.machine.Timers.{after_timeout}
use Rattle.ca_requester_sends.proofs.FinishedLemmas.{nothing-between}
use Rattle.ca_requester_sends.specs.Outcome.{IsUnder, effects_behind, numbers_of, outcome_effects}
use Rattle.ca_requester_sends.specs.declared.outcome.Outcome.{Outcome}

retried : (q : QueuePair) (silent : Bool) (o : Outcome) → IsUnder (record q.requester { timers = suc q.requester.timers }) (one_retry q.requester.una) o
    → effects_behind (marks.Timer q.queue silent ∷ []) o q ≡ after_timeout silent q
retried q silent o under =
    ap (λ ms. behind_marks ms (behind_marks (marks.Timer q.queue silent ∷ []) (outcome_effects o q)))
    (nothing-between q q.requester.oldest (numbers_of o).oldest under.oldest)
    ∙ ap (λ e. behind_marks (marks.Timer q.queue silent ∷ []) e) (under.effects q)

pub timer_retries : (q : QueuePair) (r : RequesterNumbers) (count : ℕ) (queue : QueueId) (silent : Bool) (o : Outcome) → r ≡ q.requester → queue ≡ q.queue
    → count ≡ suc r.timers → IsUnder (record r { timers = count }) (one_retry r.una) o
    → effects_behind (marks.Timer queue silent ∷ []) o q ≡ after_timeout silent q
timer_retries q r count queue silent o same name one under =
    rw name (retried q silent o (rw (← same, ← one) under))
