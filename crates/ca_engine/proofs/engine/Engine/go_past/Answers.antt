use Rattle.ca_engine.proofs.EngineLemmas.{gone_past}
use Rattle.ca_engine.proofs.engine.Engine.go_past.Goals as goal

pub returns : goal.returns
returns c =
    gone_past c.self.inside.round.items c.self.inside.timers.items c.self.inside.pass c.self.inside.place c.self.inside.happened _ c.self.inside.clock _ c.args.self.now c.self.view_is
