use Rattle.std.proofs.Common.{[], ap, rules, arith, refl, subst}
use Rattle.ca_base.specs.objects.QueuePair.{QueuePair}
use Rattle.ca_qp_rows.specs.Made.{AreAdded}
use Rattle.ca_requester_sends.specs.Finished.{success_between}
use Rattle.ca_requester_sends.specs.declared.outcome.Outcome.TheVariants.{Goes}
use Rattle.ca_requester_sends.proofs.FinishedLemmas.{few_finished}
use Rattle.ca_requester_sends.proofs.OutcomeLemmas.{has_made, none_added}
use Rattle.ca_requester_sends.proofs.outcome.go.Goals as goal

pub push_first-requires : goal.push_first-requires
push_first-requires c = omega (arith, c.in_ok-reserve.ensures.room, c.push_finished.ensures.room, few_finished c.args.q.now c.q.inside.requester.oldest c.args.numbers.now.oldest, ap (λ (q : QueuePair). q.requester.oldest) c.q.view_is)

pub returns : goal.returns
returns c =
    let P : QueuePair → Type 0 = λ q. AreAdded (success_between q.requester.oldest c.args.numbers.now.oldest c.args.q.now) c.reserve.new.self c.push_finished.new.marks in
    has_made (Goes c.args.numbers.now) c.args.q.now _ c.args.first [] c.args.marks.now c.reserve.new.self c.push_finished.new.marks c.push_first.new.marks c.push_first.new.marks
    (search rules) (omega (arith, c.in_ok-reserve.ensures.room)) (subst P c.q.view_is c.push_finished.ensures) c.push_first.ensures (none_added c.push_first.new.marks)
    (rw (← c.q.view_is) refl) refl
