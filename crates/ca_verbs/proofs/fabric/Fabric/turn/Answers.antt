use Rattle.std.proofs.Common.{◌∙◌, subst}
use Rattle.ca_verbs_machine.specs.declared.asked.Asked.TheVariants as asks
use Rattle.ca_verbs.specs.Passes.{known_of, settings_in}
use Rattle.ca_verbs.specs.Tried.{WasNotMade}
use Rattle.ca_verbs.proofs.fabric.Fabric.turn.Goals as goal

pub returns-in-Ok-clause-made : goal.returns-in-Ok-clause-made
returns-in-Ok-clause-made g c = (c.in-Ok.ensures.made.0, record { last = c.loop.pass; same = c.loop.invariant.same; kept = c.loop.invariant.kept; made = c.in-Ok.ensures.made.1 })

pub returns-in-Err-HistoryFull-clause-refused : goal.returns-in-Err-HistoryFull-clause-refused
returns-in-Err-HistoryFull-clause-refused g c = record {
  last = c.loop.pass;
  same = c.loop.invariant.same;
  kept = c.in-Err-HistoryFull.ensures.same.2 ∙ c.loop.invariant.kept;
  not_busy = record {};
  cause = subst (λ e. WasNotMade (settings_in c.args.self.now) (asks.Turn c.args.turn c.args.w.now) e (known_of c.loop.pass) (known_of c.try_turn.new.pass)) c.in-Err-HistoryFull.field-0-is c.in-Err-HistoryFull.ensures.not_made;
}

pub returns-in-Err-NotReady-clause-refused : goal.returns-in-Err-NotReady-clause-refused
returns-in-Err-NotReady-clause-refused g c = record {
  last = c.loop.pass;
  same = c.loop.invariant.same;
  kept = c.in-Err-NotReady.ensures.same.2 ∙ c.loop.invariant.kept;
  not_busy = record {};
  cause = subst (λ e. WasNotMade (settings_in c.args.self.now) (asks.Turn c.args.turn c.args.w.now) e (known_of c.loop.pass) (known_of c.try_turn.new.pass)) c.in-Err-NotReady.field-0-is c.in-Err-NotReady.ensures.not_made;
}

pub returns-in-Err-Memory-clause-refused : goal.returns-in-Err-Memory-clause-refused
returns-in-Err-Memory-clause-refused g c = record {
  last = c.loop.pass;
  same = c.loop.invariant.same;
  kept = c.in-Err-Memory.ensures.same.2 ∙ c.loop.invariant.kept;
  not_busy = record {};
  cause = subst (λ e. WasNotMade (settings_in c.args.self.now) (asks.Turn c.args.turn c.args.w.now) e (known_of c.loop.pass) (known_of c.try_turn.new.pass)) c.in-Err-Memory.field-0-is c.in-Err-Memory.ensures.not_made;
}
