use Rattle.std.proofs.Common.{Some, sym, ap, ◌∙◌, arith}
use Rattle.ca_parts.proofs.Seats.{looks_at}
use Rattle.ca_parts.proofs.Stamping.{sees_of}
use Rattle.ca_parts.proofs.parts.Parts.look.Goals as goal

pub load-requires : goal.load-requires
load-requires g c = let of = c.requires.of in let pass = c.args.pass.now in let row = c.args.self.now in let words = row.words_are in let known = pass.known in let some = pass.bounded in
    (of.0, omega arith, looks_at g.T.Machine.needs g.T.Machine.steps g.T.Machine.stands row.table.shared.key row.table.shared.table_id.slots pass.seat.id pass.seat.me of.1 (of.2 ∙ ap Some (sym of.4)) (omega arith))

pub returns-clause-sees : goal.returns-clause-sees
returns-clause-sees g c = let of = c.requires.of in let pass = c.args.pass.now in sees_of g.T.Machine.needs g.T.Machine.steps g.T.Machine.stands c.args.self.now.settings c.load.result pass.seat.me.0 (c.load.ensures.2.1 c.args.self.now.settings of.2)
