use Rattle.ca_engine.proofs.PassingLemmas.{passed_at_once}
use Rattle.ca_engine.proofs.engine.Engine.pass_over.Goals as goal

pub returns-then-passed-gt0 : goal.returns-then-passed-gt0
returns-then-passed-gt0 c = passed_at_once c.args.self.now c.go_past_all.new.self c.most_passed-passed.result c.args.count c.args.now c.most_passed-passed.ensures
    c.if-passed-gt0.true c.go_past_all.ensures
