-- What an acknowledgement, a retry and a failure make of a requester. Contracts cite it.
use Rattle.std.specs.Prelude.{ℕ, suc, ◌+◌, ◌&&◌, nat_le, nat_lt, max, Bool, true, false, if◌then◌else◌, List, [], ◌∷◌, ◌++◌, length, sum_by, Option, None, Some}
use Rattle.std.specs.List.{flat_map, take_while}
use Rattle.ca_base.specs.declared.completion.WcStatus.{WcStatus}
use Rattle.ca_base.specs.declared.completion.WcStatus.TheVariants.{RetryExceeded}
use Rattle.ca_base.specs.declared.queue_numbers.RequesterNumbers.{RequesterNumbers}
use Rattle.ca_base.specs.declared.refusals.OpRefusal.{OpRefusal}
use Rattle.ca_base.specs.declared.request.PostedSend.{PostedSend}
use Rattle.ca_base.specs.objects.QueuePair.{QueuePair, in_error, without_answers}
use Rattle.ca_base.specs.objects.WorkQueue.{items_from}
use Rattle.ca_model.specs.declared.mark.Mark.{Mark}
use Rattle.ca_model.specs.machine.Completions.{failure_mark, flush_marks, success_marks}
use Rattle.ca_model.specs.machine.Numbering.{Numbered, begun_requests, psn_end, is_answered_op}
use Rattle.ca_model.specs.machine.Row.{Effects, queue_and_marks}

abbrev pub with_requester : RequesterNumbers → QueuePair → QueuePair
with_requester numbers q = record q { requester = numbers }

-- the requests without the oldest unfinished one
abbrev pub without_oldest : QueuePair → QueuePair
without_oldest q = with_requester (record q.requester { oldest = suc q.requester.oldest }) q

-- the oldest unfinished request fails: it completes, all that is posted behind it is flushed, the queue pair moves to
-- Error and its response queue is emptied
abbrev pub failure_effects : WcStatus → Option OpRefusal → QueuePair → Effects
failure_effects status cause q =
    queue_and_marks (without_answers (in_error q)) (by (items_from q.requester.oldest q.sends))
  where
    by : List PostedSend → List Mark
    by [] = flush_marks q
    by (p ∷ ps) = failure_mark q.queue q.requester.oldest p.request status cause ∷ flush_marks (without_oldest q)

-- the requests that have begun and whose PSNs all lie below `una`
abbrev pub finished_requests : QueuePair → List Numbered
finished_requests q = take_while (λ n. nat_le (psn_end n) q.requester.una) (begun_requests q)

-- those requests are finished
abbrev pub after_finished : QueuePair → QueuePair
after_finished q = with_requester (record q.requester {
  oldest = q.requester.oldest + length (finished_requests q);
  oldest_psn = q.requester.oldest_psn + sum_by (λ n. n.count) (finished_requests q);
}) q

abbrev pub finished_marks : QueuePair → List Mark
finished_marks q = flat_map (λ n. success_marks q.queue n.place n.request) (finished_requests q)

-- `una` grows to a PSN, if it is above it; where it grew, retries are counted anew
abbrev pub with_una : ℕ → QueuePair → QueuePair
with_una psn q =
    if nat_lt q.requester.una psn
    then with_requester (record q.requester { una = psn; retries = 0; rnrs = 0 }) q
    else q

-- all below a PSN is acknowledged, and what is finished completes
abbrev pub progress_to : ℕ → QueuePair → Effects
progress_to psn q = queue_and_marks (after_finished (with_una psn q)) (finished_marks (with_una psn q))

-- what comes after an effect that only changed the queue pair and made marks
abbrev pub and_then : Effects → (QueuePair → Effects) → Effects
and_then e f = record (f e.queue) { marks = e.marks ++ (f e.queue).marks }

-- the next packet is the one of this PSN
abbrev pub with_cursor : ℕ → QueuePair → QueuePair
with_cursor psn q = with_requester (record q.requester { cursor = psn }) q

-- one retry, and back to a PSN: where the count of retries is used up, the oldest unfinished request fails
abbrev pub one_retry : ℕ → QueuePair → Effects
one_retry psn q =
    if nat_le q.requester.retry q.requester.retries
    then failure_effects RetryExceeded None (counted q)
    else queue_and_marks (with_cursor psn (counted q)) []
  where
    counted : QueuePair → QueuePair
    counted q = with_requester (record q.requester { retries = suc q.requester.retries }) q

-- the first PSN of a READ or an atomic from `una` on and below this one
abbrev pub first_unanswered : ℕ → ℕ → List Numbered → Option ℕ
first_unanswered una psn [] = None
first_unanswered una psn (n ∷ ns) =
    if is_answered_op n.request.op && nat_lt una (psn_end n) && nat_lt (max una n.first) psn
    then Some (max una n.first)
    else first_unanswered una psn ns

-- what an acknowledgement of all below a PSN makes, and whether it went back
pub record Acknowledgement : Type 0 where
  pub effects : Effects
  pub went_back : Bool

-- All below a PSN is acknowledged. A READ or an atomic there that was not answered is an implied NAK: the requester goes
-- back to it.
abbrev pub acknowledgement_below : ℕ → QueuePair → Acknowledgement
acknowledgement_below psn q = by (first_unanswered q.requester.una psn (begun_requests q))
  where
    by : Option ℕ → Acknowledgement
    by None = record { effects = progress_to psn q; went_back = false }
    by (Some back) = record { effects = and_then (progress_to back q) (one_retry back); went_back = true }
