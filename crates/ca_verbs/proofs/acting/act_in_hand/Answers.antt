use Rattle.std.proofs.Common.{subst, sym, Err, Ok}
use Rattle.ca_parts.specs.Rows.{settings_of, view_of}
use Rattle.ca_verbs_taking.proofs.UnpackLemmas.{back-apart, placed-of}
use Rattle.ca_verbs_taking.specs.Asking.{asked_of}
use Rattle.ca_verbs.proofs.ActedLemmas as acted
use Rattle.ca_verbs.specs.Tried.{WasNotMade}
use Rattle.ca_verbs.proofs.acting.act_in_hand.Goals as goal

pub act-requires : goal.act-requires
act-requires c = record { ready = acted.ready-key _ _ _ _ c.settings.ensures (acted.ready _ _ _ _ _ _ _ _ c.requires.holding c.requires.took.1 c.requires.made c.requires.event) }

pub unpack-requires-clause-placed : goal.unpack-requires-clause-placed
unpack-requires-clause-placed c = placed-of _ _ _ _ _ c.settings.ensures c.requires.limits c.requires.holding

pub mark-stamp-requires-clause-may : goal.mark-stamp-requires-clause-may
mark-stamp-requires-clause-may c = acted.may-stamp _ _ _ _ _ _ _ _ c.requires.holding c.requires.took.1 c.requires.made c.requires.event
    _ c.in-Ok.marks (acted.own-key _ _ c.args.event.now (Ok c.in-Ok.marks) c.args.held.now c.act.new.held c.settings.ensures c.in-Ok.ensures.act) (acted.steps-key _ _ c.args.event.now (Ok c.in-Ok.marks) c.args.held.now c.act.new.held c.settings.ensures c.in-Ok.ensures.step)
    _ (acted.shown-key _ _ _ _ _ _ c.settings.ensures c.as_slice.ensures.value c.unpack.ensures.shown)

pub give_all-requires-clause-apart : goal.give_all-requires-clause-apart
give_all-requires-clause-apart c = back-apart _ _ _ _ _ c.settings.ensures c.requires.limits c.requires.holding.apart c.unpack.ensures.shown

pub returns-in-Ok-clause-made : goal.returns-in-Ok-clause-made
returns-in-Ok-clause-made c = λ first took before. acted.made-of _ _ _ first _ _ _ _ c.requires.holding took c.requires.made c.requires.event
    _ c.in-Ok.marks (acted.own-key _ _ c.args.event.now (Ok c.in-Ok.marks) c.args.held.now c.act.new.held c.settings.ensures c.in-Ok.ensures.act) (acted.steps-key _ _ c.args.event.now (Ok c.in-Ok.marks) c.args.held.now c.act.new.held c.settings.ensures c.in-Ok.ensures.step)
    _ (acted.shown-key _ _ _ _ _ _ c.settings.ensures c.as_slice.ensures.value c.unpack.ensures.shown) _ _ _ c.mark-stamp.ensures.added c.mark-stamp.ensures.sees
    c.give_all.ensures.same.0 c.give_all.ensures.same.1.0 c.give_all.ensures.same.1.1 before

pub returns-in-Err-clause-kept : goal.returns-in-Err-clause-kept
returns-in-Err-clause-kept c = λ first took. subst (λ e. WasNotMade (settings_of c.args.parts.now) (asked_of c.args.ask) e first (view_of c.put_back.new.pass)) (sym c.refusal.ensures)
    (acted.not-made _ _ _ first _ _ _ _ c.requires.holding took c.requires.made c.requires.event _ c.in-Err.error _
    (acted.steps-key _ _ c.args.event.now (Err c.in-Err.error) c.args.held.now c.act.new.held c.settings.ensures c.in-Err.ensures.step) c.put_back.ensures.same.1.0 c.put_back.ensures.same.1.1)
