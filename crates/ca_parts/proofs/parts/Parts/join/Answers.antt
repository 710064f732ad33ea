use Rattle.std.proofs.Common.{ap, ◌∙◌, arith}
use Rattle.std.proofs.lemmas.Grind.{common_steps}
use Rattle.ca_parts.proofs.Ranges.{joins}
use Rattle.ca_parts.proofs.Seats.{weighs_at}
use Rattle.ca_parts.proofs.parts.Parts.join.Goals as goal

pub join_seat-requires : goal.join_seat-requires
join_seat-requires g c = let of = c.requires.into in let other = c.requires.other in let into = c.args.into.now in let row = c.args.self.now in let words = row.words_are in let known = into.known in let some = into.bounded in
    (of.0, other.0, other.1, omega arith, joins g.T.Machine.needs g.T.Machine.steps g.T.Machine.stands row.table.shared.key into.seat.id c.args.other.seat.id into.seat.me.0 c.args.other.seat.me.0 (omega arith) c.requires.no_part.1)

pub load-requires : goal.load-requires
load-requires g c = let of = c.requires.into in let row = c.args.self.now in let words = row.words_are in let seat = c.join_seat.new.seat in let joined = c.join_seat.ensures in
    (joined.0 ∙ of.0, omega arith, weighs_at g.T.Machine.needs g.T.Machine.steps g.T.Machine.stands row.table.shared.key row.table.shared.table_id.slots seat.id seat.me (ap (λ m. m.1) joined.2 ∙ of.1))

pub invariant_of-into : goal.invariant_of-into
invariant_of-into c = grind (arith, common_steps)
