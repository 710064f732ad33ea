-- The request that fails, before all that is flushed behind it; and the oldest unfinished one, which is ahead.
use Rattle.std.proofs.Common.{◌≡◌, ℕ, suc, ◌+◌, ◌-◌, ◌≤◌, arith, sym, ap, ◌∙◌, List, [], ◌∷◌, ◌++◌, Option, None, Some, append-nil, append_assoc, length}
use Rattle.ca_base.specs.declared.completion.WcStatus.{WcStatus}
use Rattle.ca_base.specs.declared.refusals.OpRefusal.{OpRefusal}
use Rattle.ca_base.specs.declared.queue_numbers.RequesterNumbers.{RequesterNumbers}
use Rattle.ca_base.specs.declared.request.PostedSend.{PostedSend}
use Rattle.ca_base.specs.objects.QueuePair.{QueuePair}
use Rattle.ca_base.specs.objects.WorkQueue.{item_at}
use Rattle.ca_model.specs.declared.mark.Mark.{Mark}
use Rattle.ca_model.specs.machine.Acknowledgements.{failure_effects, without_oldest}
use Rattle.ca_model.specs.machine.Completions.{failure_mark, flush_marks}
use Rattle.ca_model.specs.Marks.{MarkList}
use Rattle.ca_model.specs.machine.Invariants.{IsQueue}
use Rattle.ca_model.specs.declared.marks.TheConstants.{SPARE_MARKS}
use Rattle.ca_qp_rows.specs.Made.{AreAdded, HasMade}
use Rattle.ca_requester_sends.proofs.FinishedLemmas.{added_behind, few_finished}
use Rattle.ca_requester_sends.specs.Finished.{IsAhead, success_between}
use Rattle.ca_requester_sends.specs.Outcome.{effects_behind, marks_of, numbers_of, outcome_effects}
use Rattle.ca_requester_sends.specs.declared.outcome.Outcome.{Outcome}
use Rattle.ca_requester_sends.specs.Numbering.{AreNumbers}
use Rattle.ca_qp_rows.proofs.QueueLemmas.{items_step}
use Rattle.ca_qp_rows.specs.Flush.{with_oldest}

pub failure-flushed : (q : QueuePair) (oldest next : ℕ) (p : PostedSend) (status : WcStatus) (cause : Option OpRefusal) (before pushed : List Mark)
    → next ≡ suc oldest → q.sends.first ≤ oldest → item_at oldest q.sends ≡ Some p
    → pushed ≡ before ++ failure_mark q.queue oldest p.request status cause ∷ []
    → before ++ (failure_effects status cause (with_oldest oldest q)).marks ≡ pushed ++ flush_marks (with_oldest next q)
failure-flushed q oldest next p status cause before pushed one le there made =
    ap (λ xs. before ++ by xs) (items_step q.sends oldest p le there)
    ∙ sym (append_assoc before (failure_mark q.queue oldest p.request status cause ∷ []) (flush_marks (with_oldest (suc oldest) q)))
    ∙ ap (λ ms. ms ++ flush_marks (with_oldest (suc oldest) q)) (sym made)
    ∙ ap (λ n. pushed ++ flush_marks (with_oldest n q)) (sym one)
  where
    by : List PostedSend → List Mark
    by [] = flush_marks (with_oldest oldest q)
    by (p ∷ ps) = failure_mark q.queue oldest p.request status cause ∷ flush_marks (without_oldest (with_oldest oldest q))

-- an oldest unfinished request that numbers may go on with is ahead
pub is_ahead : (q : QueuePair) (numbers : RequesterNumbers) (place : ℕ) → AreNumbers q numbers → place ≡ numbers.oldest → IsAhead place q
is_ahead q numbers place are e = record {
  queue = are.within.queue;
  oldest = omega (arith, are.oldest, e);
  posted = omega (arith, are.begun, are.next, are.within.queue.requester.waiting, e);
}

-- the one that is the oldest now is ahead
pub is_ahead_now : (q : QueuePair) (place : ℕ) → IsQueue q → place ≡ q.requester.oldest → IsAhead place q
is_ahead_now q place is e = record {
  queue = is;
  oldest = omega (arith, e);
  posted = omega (arith, e, is.requester.begun, is.requester.waiting);
}

-- one mark at most
pub few_mark : (first : Option Mark) → length (marks_of first) ≤ 1
few_mark None = omega arith
few_mark (Some m) = omega arith

-- where nothing is added
pub none_added : (marks : MarkList) → AreAdded [] marks marks
none_added marks = record { marks = sym (append-nil marks.marks); room = omega arith }

-- in the room that was reserved come the completions of what is finished, one mark more at most, and those of the outcome
pub has_made : (o : Outcome) (q after : QueuePair) (first : Option Mark) (made : List Mark) (old reserved one two new : MarkList)
    → reserved.marks ≡ old.marks → (numbers_of o).oldest - q.requester.oldest + 1 + length made + SPARE_MARKS ≤ reserved.room
    → AreAdded (success_between q.requester.oldest (numbers_of o).oldest q) reserved one → AreAdded (marks_of first) one two → AreAdded made two new
    → after ≡ (outcome_effects o q).queue → made ≡ (outcome_effects o q).marks
    → HasMade (effects_behind (marks_of first) o q) after old new
has_made o q after first made old reserved one two new same room a b c queue marks = record {
  queue = queue;
  marks =
      all.marks
      ∙ ap (λ ms. ms ++ (success_between q.requester.oldest (numbers_of o).oldest q ++ (marks_of first ++ made))) same
      ∙ ap (λ ms. old.marks ++ (success_between q.requester.oldest (numbers_of o).oldest q ++ (marks_of first ++ ms))) marks;
  room = omega (
    arith,
    room,
    a.room,
    b.room,
    c.room,
    few_mark first,
    few_finished q q.requester.oldest (numbers_of o).oldest,
  );
}
  where
    all : AreAdded (success_between q.requester.oldest (numbers_of o).oldest q ++ (marks_of first ++ made)) reserved new
    all = added_behind {before = reserved} {between = one} {after = new} a (added_behind {before = one} {between = two} {after = new} b c)
