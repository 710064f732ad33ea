-- How far an acknowledgement brings a requester. Contracts cite it.
use Rattle.std.specs.Prelude.{◌≡◌, ℕ, ◌+◌, ◌≤◌, ◌<◌, nat_le, nat_lt, max, Bool, true, false, if◌then◌else◌, List, [], length, sum_by, Option, IfSome, None, Some}
use Rattle.std.specs.List.{flat_map, take_while}
use Rattle.ca_base.specs.declared.queue_numbers.RequesterNumbers.{RequesterNumbers}
use Rattle.ca_base.specs.objects.QueuePair.{QueuePair}
use Rattle.ca_model.specs.declared.mark.Mark.{Mark}
use Rattle.ca_model.specs.machine.Acknowledgements.{Acknowledgement, acknowledgement_below, and_then, first_unanswered, one_retry, progress_to, with_requester}
use Rattle.ca_model.specs.machine.Completions.{success_marks}
use Rattle.ca_model.specs.machine.Numbering.{Numbered, has_psn, psn_end, request_at}
use Rattle.ca_requester.specs.declared.progress.Acknowledged.{Acknowledged}
use Rattle.ca_requester.specs.declared.progress.Reached.{Reached}
use Rattle.ca_requester_sends.specs.Finished.{success_between}
use Rattle.ca_requester_sends.specs.Numbering.{AreNumbers, IsNumbered, IsWithin, begun_from}

-- those of the requests from a posting place on that have begun and whose PSNs all lie below one
abbrev pub finished_from : ℕ → ℕ → ℕ → QueuePair → List Numbered
finished_from posting psn una q = take_while (λ n. nat_le (psn_end n) una) (begun_from posting psn q)

-- their completions
abbrev pub finished_marks_from : ℕ → ℕ → ℕ → QueuePair → List Mark
finished_marks_from posting psn una q = flat_map (λ n. success_marks q.queue n.place n.request) (finished_from posting psn una q)

-- `una` after all below a PSN is acknowledged, or after going back to one
abbrev pub una_behind : ℕ → ℕ → Option ℕ → ℕ
una_behind una psn None = max una psn
una_behind una psn (Some back) = back

-- the request at a posting place, where it has begun
abbrev pub IsBegunAt : ℕ → ℕ → QueuePair → Option Numbered → Type 0
IsBegunAt posting psn q None = begun_from posting psn q ≡ []
IsBegunAt posting psn q (Some n) = IsNumbered posting psn q n × (posting < q.requester.next)

-- how far an acknowledgement of all below a PSN goes among the requests from a posting place on
pub record IsReached (start first una psn : ℕ) (q : QueuePair) (r : Reached) : Type 0 where
  pub back : r.back ≡ first_unanswered una psn (begun_from start first q)
  pub behind : IfSome r.back (λ back. (una ≤ back) × (first ≤ back))
  pub posting : r.posting ≡ start + length (finished_from start first (una_behind una psn r.back) q)
  pub at : r.first ≡ first + sum_by (λ n. n.count) (finished_from start first (una_behind una psn r.back) q)
  pub within : IsWithin r.posting r.first q
  pub begun : start ≤ q.requester.next → r.posting ≤ q.requester.next
  pub request : IsBegunAt r.posting r.first q r.request
  pub ends : r.back ≡ None → IfSome r.request (λ n. max una psn < psn_end n)

-- `una` grows to a PSN, if it is above it; where it grew, retries are counted anew
abbrev pub numbers_with_una : ℕ → RequesterNumbers → RequesterNumbers
numbers_with_una psn r = if nat_lt r.una psn then record r { una = psn; retries = 0; rnrs = 0 } else r

-- the same, with the oldest unfinished request that was reached
abbrev pub reached_numbers : ℕ → ℕ → ℕ → RequesterNumbers → RequesterNumbers
reached_numbers psn posting first r = record (numbers_with_una psn r) { oldest = posting; oldest_psn = first }

-- the numbers of a queue pair behind an acknowledgement
abbrev pub numbers_behind : Acknowledged → QueuePair → RequesterNumbers
numbers_behind a q = reached_numbers a.until a.posting a.first q.requester

-- numbers that a queue pair may go on with after all below a PSN is acknowledged, from others that it may go on with
pub record IsProgress (psn : ℕ) (from numbers : RequesterNumbers) (q : QueuePair) : Type 0 where
  pub may : AreNumbers q numbers
  pub later : from.oldest ≤ numbers.oldest
  pub queue : with_requester numbers q ≡ (progress_to psn (with_requester from q)).queue
  pub finished : (progress_to psn (with_requester from q)).marks ≡ success_between from.oldest numbers.oldest q

-- what an acknowledgement makes, by how far it goes and whether it went back
abbrev pub acknowledgement_of : Bool → ℕ → QueuePair → Acknowledgement
acknowledgement_of true until q = record { effects = and_then (progress_to until q) (one_retry until); went_back = true }
acknowledgement_of false until q = record { effects = progress_to until q; went_back = false }

-- all below a PSN is acknowledged: how far that goes, and whether it goes back
pub record IsAcknowledged (psn : ℕ) (q : QueuePair) (a : Acknowledged) : Type 0 where
  pub makes : acknowledgement_below psn q ≡ acknowledgement_of a.went_back a.until q
  pub progress : IsProgress a.until q.requester (numbers_behind a q) q
  pub on : a.went_back ≡ false → a.until ≡ psn

-- a request, if it has this PSN
abbrev pub if_has_psn : ℕ → Option Numbered → Option Numbered
if_has_psn psn None = None
if_has_psn psn (Some n) = if has_psn psn n then Some n else None

-- the oldest unfinished request behind an acknowledgement of all below a PSN, where it has begun; where nothing is gone
-- back to, no other request has that PSN
pub record IsOldest (psn : ℕ) (q : QueuePair) (a : Acknowledged) (oldest : Option Numbered) : Type 0 where
  pub at : IsBegunAt a.posting a.first q oldest
  pub has : a.went_back ≡ false → if_has_psn psn oldest ≡ request_at psn (with_requester (numbers_behind a q) q)
