use Rattle.std.proofs.Common.{◌≤◌, ap, arith, refl, subst}
use Rattle.ca_base.specs.objects.QueuePair.{QueuePair}
use Rattle.ca_requester_sends.proofs.of_ca_qp_rows.WriteLemmas.{marks-count}
use Rattle.ca_requester_sends.specs.ca_qp_rows.Made.{AreAdded}
use Rattle.ca_requester_sends.proofs.FinishedLemmas.{few_finished}
use Rattle.ca_requester_sends.specs.Finished.{success_between}
use Rattle.ca_requester.proofs.TakingLemmas.{has_answered}
use Rattle.ca_requester.specs.Progress.{numbers_behind}
use Rattle.ca_requester.proofs.taking.place_bytes.Goals as goal

pub push_writes-requires-clause-room : goal.push_writes-requires-clause-room
push_writes-requires-clause-room g c =
    let later : c.args.taken.before.posting ≤ c.args.taken.after.posting = c.requires.taken.after.later in
    omega (
      arith,
      c.in_ok-reserve.ensures.room,
      c.finished_count.ensures.value,
      c.push_finished.ensures.room,
      later,
      few_finished c.args.q.now c.q.inside.requester.oldest c.args.taken.before.posting,
      ap (λ (q : QueuePair). q.requester.oldest) c.q.view_is,
    )

pub push_finished-requires-2-clause-spare : goal.push_finished-requires-2-clause-spare
push_finished-requires-2-clause-spare g c =
    let later : c.args.taken.before.posting ≤ c.args.taken.after.posting = c.requires.taken.after.later in
    let below : c.args.q.now.requester.oldest ≤ c.args.taken.before.posting = c.requires.taken.before.later in
    omega (
      arith,
      c.in_ok-reserve.ensures.room,
      c.finished_count.ensures.value,
      c.push_finished.ensures.room,
      c.in_default.ensures.added.room,
      marks-count c.args.judged.now.asks.now c.args.bytes.now,
      later,
      below,
      few_finished c.args.q.now c.q.inside.requester.oldest c.args.taken.before.posting,
      ap (λ (q : QueuePair). q.requester.oldest) c.q.view_is,
    )

pub returns : goal.returns
returns g c =
    let P : QueuePair → Type 0 = λ q. AreAdded (success_between q.requester.oldest c.args.taken.before.posting c.args.q.now) c.reserve.new.self c.push_finished.new.marks in (
      has_answered c.args.q.now _ c.args.taken.before.until c.args.bytes.now c.args.judged.now.asks.now
          (numbers_behind c.args.taken.before c.args.q.now) (numbers_behind c.args.taken.after c.args.q.now)
          c.args.marks.now c.reserve.new.self c.push_finished.new.marks c.push_writes.new.marks c.push_finished-2.new.marks
          c.requires.taken.before c.requires.taken.after c.reserve.ensures.same
          (omega (arith, c.in_ok-reserve.ensures.room, c.finished_count.ensures.value))
          (subst P c.q.view_is c.push_finished.ensures) c.in_default.ensures.added c.push_finished-2.ensures (rw (c.numbers_after-q-inside.ensures, ← c.q.view_is) refl),
      c.write_judged.ensures.wrote,
    )
