use Rattle.std.proofs.Common.{subst, sym}
use Rattle.ca_parts.specs.Rows.{settings_of, view_of}
use Rattle.ca_verbs_taking.specs.Asking.{asked_of}
use Rattle.ca_verbs.proofs.ActedLemmas.{stopped-as}
use Rattle.ca_verbs.specs.Tried.{WasNotMade}
use Rattle.ca_verbs.proofs.trying.try_event.Goals as goal

pub act_in_hand-requires-clause-event : goal.act_in_hand-requires-clause-event
act_in_hand-requires-clause-event c = c.requires.event _

pub returns-in-Err-clause-not_made : goal.returns-in-Err-clause-not_made
returns-in-Err-clause-not_made c = subst (λ e. WasNotMade (settings_of c.args.parts.now) (asked_of c.args.ask) e (view_of c.args.pass.now) (view_of c.put_back.new.pass)) (sym c.error_of.ensures)
    (stopped-as _ _ c.in-Err.error _ _ _ c.in-Err.ensures.stopped c.put_back.ensures.same.1.0 c.put_back.ensures.same.1.1)
