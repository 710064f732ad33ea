use Rattle.std.proofs.Common.{subst, Err}
use Rattle.ca_model.specs.machine.Step.{step}
use Rattle.ca_adapter_store.specs.Rows.{IsMade, IsRowOf}
use Rattle.ca_script_run.proofs.EventLemmas.{entry_stands, tried_in_vain, tried_made}
use Rattle.ca_script_run.proofs.events.make.Goals as goal

pub push-requires : goal.push-requires
push-requires c = entry_stands c.args.progress.now c.make.new.self c.args.event c.in-Ok.marks c.from-stamp.result c.requires.under_way
    (λ s g at. c.in-Ok.ensures.step s.config g.world at.row) c.from-stamp.ensures

pub returns-in-Ok-clause-tried : goal.returns-in-Ok-clause-tried
returns-in-Ok-clause-tried c = λ s g at. tried_made s g c.args.progress.now at c.args.event c.make.new.self c.in-Ok.marks c.from-stamp.result c.push.new.self
    (c.in-Ok.ensures.step s.config g.world at.row) c.in-Ok.ensures.count c.from-stamp.ensures c.in_ok-push-in-Ok.ensures.ok

pub returns-in-Err-NotReady-clause-tried : goal.returns-in-Err-NotReady-clause-tried
returns-in-Err-NotReady-clause-tried c = λ s g at. tried_in_vain s g c.args.progress.now at c.args.event c.make.new.self c.in-Err-NotReady.field-0-0 c.from-stamp.result
    (subst (λ e. IsMade (Err e) (step s.config g.world c.args.event) g.world (λ v. IsRowOf s.config v c.make.new.self)) c.in-Err-NotReady.field-0-is
    (c.in-Err-NotReady.ensures.step s.config g.world at.row)) c.in-Err-NotReady.ensures.count c.from-stamp.ensures

pub returns-in-Ok-clause-rest : goal.returns-in-Ok-clause-rest
returns-in-Ok-clause-rest c = c.in-Ok.ensures.rest

pub returns-in-Err-NotReady-clause-rest : goal.returns-in-Err-NotReady-clause-rest
returns-in-Err-NotReady-clause-rest c = c.in-Err-NotReady.ensures.rest
