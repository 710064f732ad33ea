use Rattle.std.proofs.Common.{◌+◌, ap, arith, rules, subst}
use Rattle.ca_base.specs.objects.QueuePair.{QueuePair}
use Rattle.ca_model.specs.machine.Row.{Effects}
use Rattle.ca_requester_sends.specs.ca_qp_rows.Made.{HasMade}
use Rattle.ca_requester.proofs.TimerLemmas.{timer_retries}
use Rattle.ca_requester.proofs.timers.on_timeout.Goals as goal

pub returns : goal.returns
returns c =
    let P : Effects → Type 0 = λ e. HasMade e c.make.new.q c.args.marks.now c.make.new.marks in (
      search rules,
      subst P
          (timer_retries c.args.q.now c.q.inside.requester (c.q.inside.requester.timers + 1) c.q.inside.queue c.args.silent c.one_retry-outcome.result
          (ap (λ (q : QueuePair). q.requester) c.q.view_is) (ap (λ (q : QueuePair). q.queue) c.q.view_is) (omega arith) c.one_retry-outcome.ensures)
          c.in_ok-make.ensures,
    )
