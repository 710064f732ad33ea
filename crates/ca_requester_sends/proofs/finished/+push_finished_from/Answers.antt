use Rattle.std.proofs.Common.{◌≡◌, Some, None, rules, arith, ◌+◌, subst}
use Rattle.ca_base.specs.objects.QueuePair.{QueuePair}
use Rattle.ca_base.specs.objects.WorkQueue.{item_at}
use Rattle.ca_requester_sends.proofs.FinishedLemmas.{success-more, success-none}
use Rattle.ca_requester_sends.proofs.NumberingLemmas.{step_list}
use Rattle.ca_requester_sends.proofs.finished.+push_finished_from.Goals as goal

pub returns-in_default : goal.returns-in_default
returns-in_default t c =
    let P : QueuePair → Type 0 = λ q. None ≡ item_at c.args.posting q.sends in
    success-none c.args.q.now c.args.posting c.args.end c.args.marks.now (search rules) (subst P c.q.view_is (search rules))

pub push_success-requires-clause-list : goal.push_success-requires-clause-list
push_success-requires-clause-list t c =
    let Q : QueuePair → Type 0 = λ q. Some c.in-Some.posted.now ≡ item_at c.args.posting q.sends in
    step_list c.args.q.now c.args.posting c.in-Some.posted.now (search rules) (search rules) (subst Q c.q.view_is (search rules))

pub returns : goal.returns
returns t c =
    let Q : QueuePair → Type 0 = λ q. Some c.in-Some.posted.now ≡ item_at c.args.posting q.sends in
    success-more c.args.q.now c.args.posting (c.args.posting + 1) c.args.end c.in-Some.posted.now c.args.marks.now c.push_success.new.marks c.push_finished_from.new.marks
    (omega arith) (search rules) (search rules) (subst Q c.q.view_is (search rules)) (search rules) c.push_finished_from.ensures
