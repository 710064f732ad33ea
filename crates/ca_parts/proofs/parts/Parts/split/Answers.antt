use Rattle.std.proofs.Common.{arith}
use Rattle.std.proofs.lemmas.Grind.{common_steps}
use Rattle.ca_parts.proofs.Ranges.{splits}
use Rattle.ca_parts.proofs.parts.Parts.split.Goals as goal

pub split_seat-seat-requires : goal.split_seat-seat-requires
split_seat-seat-requires g c = let of = c.requires.of in let pass = c.args.pass.now in let row = c.args.self.now in let words = row.words_are in let known = pass.known in let some = pass.bounded in
    (of.0, omega arith, splits g.T.Machine.needs g.T.Machine.steps g.T.Machine.stands row.table.shared.key pass.seat.id pass.seat.me.0 (omega arith))

pub invariant_of-pass : goal.invariant_of-pass
invariant_of-pass c = grind (arith, common_steps)
