use Rattle.ca_script.specs.Script.{script_value}
use Rattle.ca_script_run.proofs.KnownLemmas.{on_ok, same_known}
use Rattle.ca_script_run.proofs.TurnLemmas.{idle_none, in_vain}
use Rattle.ca_script_run.proofs.VainLemmas.{engine_idle}
use Rattle.ca_script_run.proofs.VisitLemmas.{engine_tried}
use Rattle.ca_script_run.proofs.visits.visit_engine.Goals as goal

pub returns-in-Some-clause-visited : goal.returns-in-Some-clause-visited
returns-in-Some-clause-visited c = λ g at. engine_tried (script_value c.args.script.now) g c.args.turn c.make_known.new.progress c.in-Some.event c.make_known.result
    (c.in-Some.ensures (script_value c.args.script.now).config g.world at.row) (c.make_known.ensures.tried (script_value c.args.script.now) g at)

pub returns-in-Some-clause-known : goal.returns-in-Some-clause-known
returns-in-Some-clause-known c = on_ok c.make_known.result (λ keeps round offered. keeps round) c.make_known.ensures.known

pub returns-then-is_in_vain-clause-visited : goal.returns-then-is_in_vain-clause-visited
returns-then-is_in_vain-clause-visited c = λ g at. engine_idle (script_value c.args.script.now) g c.args.turn c.args.progress.now c.from.result at c.from.ensures
    (in_vain (script_value c.args.script.now).config g.world c.args.turn (c.is_in_vain.ensures c.if-is_in_vain.true (script_value c.args.script.now).config g.world at.row))

pub returns-then-is_in_vain-clause-known : goal.returns-then-is_in_vain-clause-known
returns-then-is_in_vain-clause-known c = λ round offered k w v one other known. c.note.ensures round v
    (same_known round c.args.progress.now.row c.args.known.now k w v one other known) offered (c.is_in_vain.ensures c.if-is_in_vain.true k v other)

pub returns-in-None-clause-known : goal.returns-in-None-clause-known
returns-in-None-clause-known c = λ round offered k w v one other known. c.note-in-None.ensures round v
    (same_known round c.args.progress.now.row c.args.known.now k w v one other known) offered
    (idle_none c.args.script.now.weather v c.args.turn (c.in-None.ensures k v other))
