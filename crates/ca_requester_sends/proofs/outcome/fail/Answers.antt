use Rattle.std.proofs.Common.{ap, rules, arith, subst}
use Rattle.ca_base.specs.objects.QueuePair.{QueuePair}
use Rattle.ca_qp_rows.specs.Made.{AreAdded}
use Rattle.ca_requester_sends.specs.Finished.{success_between}
use Rattle.ca_requester_sends.specs.declared.outcome.Outcome.TheVariants.{Fails}
use Rattle.ca_requester_sends.proofs.FinishedLemmas.{few_finished}
use Rattle.ca_requester_sends.proofs.OutcomeLemmas.{few_mark, has_made}
use Rattle.ca_requester_sends.proofs.outcome.fail.Goals as goal

pub push_first-requires : goal.push_first-requires
push_first-requires c = omega (arith, c.in_ok-reserve_for.ensures.room, c.push_finished.ensures.room, few_finished c.args.q.now c.q.inside.requester.oldest c.args.failure.now.numbers.oldest, ap (λ (q : QueuePair). q.requester.oldest) c.q.view_is)

pub append-requires : goal.append-requires
append-requires c = omega (
  arith,
  c.in_ok-reserve_for.ensures.room,
  c.push_finished.ensures.room,
  c.push_first.ensures.room,
  few_mark c.args.first,
  few_finished c.args.q.now c.q.inside.requester.oldest c.args.failure.now.numbers.oldest,
  ap (λ (q : QueuePair). q.requester.oldest) c.q.view_is,
)

pub returns : goal.returns
returns c =
    let P : QueuePair → Type 0 = λ q. AreAdded (success_between q.requester.oldest c.args.failure.now.numbers.oldest c.args.q.now) c.reserve_for.new.marks c.push_finished.new.marks in
    has_made (Fails c.args.failure.now) c.args.q.now _ c.args.first c.push_failure.new.made.items c.args.marks.now c.reserve_for.new.marks c.push_finished.new.marks c.push_first.new.marks c.append.new.self
    (search rules) (omega (arith, c.in_ok-reserve_for.ensures.room)) (subst P c.q.view_is c.push_finished.ensures) c.push_first.ensures
    (record { marks = c.append.ensures.marks; room = c.append.ensures.room }) (search rules) (search rules)
