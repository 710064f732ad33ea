use Rattle.std.proofs.Common.{sym, arith}
use Rattle.std.proofs.lemmas.Grind.{common_steps}
use Rattle.ca_mailbox.proofs.Envelopes.{drop-slice_get, slice_get-none}
use Rattle.ca_mailbox.proofs.order.only_holds.Goals as goal
use Rattle.ca_mailbox.proofs.order.only_holds.Goals.{in-Some+else-is_unheld, in_default}

pub returns-then-is_unheld : goal.returns-then-is_unheld
returns-then-is_unheld c =
    grind (
      arith,
      common_steps,
      c.loop-place.invariant,
      c.is_unheld.ensures,
      c.if-is_unheld.true,
      drop-slice_get c.loop-place.place c.args.envelopes.now.items c.in-Some.envelope.now (sym c.in-Some.ensures),
    )

pub loop-place-preserved : goal.loop-place-preserved
loop-place-preserved c = elim c.match-get.branch [
  | in-Some+else-is_unheld w ↦
      grind (
        arith,
        common_steps,
        c.loop-place.invariant,
        w.is_unheld.ensures,
        w.if-is_unheld.false,
        drop-slice_get c.loop-place.place c.args.envelopes.now.items w.in-Some.envelope.now (sym w.in-Some.ensures),
      )
  | in_default w ↦ grind (arith, common_steps, slice_get-none c.loop-place.place c.args.envelopes.now.items)
]
