use Rattle.std.proofs.Common.{refl}
use Rattle.ca_parts.proofs.Stamping.{sees_of}
use Rattle.ca_parts.proofs.parts.Parts.stamp.Goals as goal

pub returns-clause-added : goal.returns-clause-added
returns-clause-added g c = c.add.ensures.added g.plan.0 g.plan.1 refl

pub returns-clause-sees : goal.returns-clause-sees
returns-clause-sees g c = sees_of g.T.Machine.needs g.T.Machine.steps g.T.Machine.stands c.args.self.now.settings c.add.result c.args.pass.now.seat.me.0 c.add.ensures.moment
