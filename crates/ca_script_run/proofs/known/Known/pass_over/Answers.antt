use Rattle.ca_script_run.proofs.PassLemmas.{passes_none, passes_some}
use Rattle.ca_script_run.proofs.known.Known.pass_over.Goals as goal

pub returns-in-Some-clause-engine : goal.returns-in-Some-clause-engine
returns-in-Some-clause-engine c = λ w known. passes_some w c.args.now c.args.self.now.starts.items c.args.engine.now c.pass_over.new.self c.in-Some.place c.end_from-upto.result
    c.in-Some.ensures.some.0 c.in-Some.ensures.some.1 (c.end_from-upto.ensures.between c.args.engine.now.round w known) c.end_from-upto.ensures.within c.pass_over.ensures

pub returns-in_default-clause-engine : goal.returns-in_default-clause-engine
returns-in_default-clause-engine c = λ w known. passes_none w c.args.now c.args.engine.now
