use Rattle.std.proofs.Common.{◌-◌, ◌+◌, drop, sym, arith}
use Rattle.std.proofs.lemmas.Grind.{common_steps}
use Rattle.ca_mailbox.proofs.Envelopes.{drop-slice_get, slice_get-none}
use Rattle.ca_mailbox.proofs.Due.{due_from-step}
use Rattle.ca_mailbox.proofs.order.first_ready.Goals as goal
use Rattle.ca_mailbox.proofs.order.first_ready.Goals.{in-Some, in_default}

pub loop-place-preserved : goal.loop-place-preserved
loop-place-preserved c = elim c.match-get.branch [
  | in-Some w ↦
      grind (
        arith,
        common_steps,
        c.loop-place.invariant,
        drop-slice_get c.loop-place.place c.args.envelopes.now.items w.in-Some.envelope.now (sym w.in-Some.ensures),
        due_from-step c.only_holds-all_held.result (c.args.next - c.loop-place.place) c.loop-place.later w.in-Some.envelope.now (drop (c.loop-place.place + 1) c.args.envelopes.now.items) c.loop-place.found,
      )
  | in_default w ↦ grind (arith, common_steps, slice_get-none c.loop-place.place c.args.envelopes.now.items)
]
