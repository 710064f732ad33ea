use Rattle.std.proofs.Common.{sym, subst}
use Rattle.ca_verbs_machine.specs.declared.asked.Asked.TheVariants as asks
use Rattle.ca_parts.specs.Rows.{settings_of, view_of}
use Rattle.ca_verbs.proofs.ActedLemmas.{none-due, stopped-as, turn-event}
use Rattle.ca_verbs.specs.Tried.{WasNotMade}
use Rattle.ca_verbs.proofs.trying.try_turn_event.Goals as goal

pub returns-in_default-clause-not_made : goal.returns-in_default-clause-not_made
returns-in_default-clause-not_made c = none-due _ c.args.turn c.args.weather.now _ _ _ c.take_all.new.held _ c.in-Ok.ensures.holding c.in-Ok.ensures.took _ _ c.event_of.ensures c.in_default.is
    c.put_back-in_default.ensures.same.1.0 c.put_back-in_default.ensures.same.1.1

pub act_in_hand-requires-clause-event : goal.act_in_hand-requires-clause-event
act_in_hand-requires-clause-event c = turn-event _ c.args.turn c.args.weather.now _ _ _ c.take_all.new.held _ c.in-Ok.ensures.holding c.in-Ok.ensures.took _ _ c.event_of.ensures c.in-Some.is

pub returns-in-Err-clause-not_made : goal.returns-in-Err-clause-not_made
returns-in-Err-clause-not_made c = subst (λ e. WasNotMade (settings_of c.args.parts.now) (asks.Turn c.args.turn c.args.weather.now) e (view_of c.args.pass.now) (view_of c.put_back.new.pass)) (sym c.error_of.ensures)
    (stopped-as _ _ c.in-Err.error _ _ _ c.in-Err.ensures.stopped c.put_back.ensures.same.1.0 c.put_back.ensures.same.1.1)
