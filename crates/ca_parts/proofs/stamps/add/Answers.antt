use Rattle.std.proofs.Common.{◌<◌, Some, sym, ap, ◌∙◌, subst, arith}
use Rattle.ca_parts.specs.Calls.{MayStamp}
use Rattle.ca_parts.specs.Facts.{held}
use Rattle.ca_parts.proofs.Seats.{stamps_at, stamped_inside}
use Rattle.ca_parts.proofs.stamps.add.Goals as goal

pub fetch_add-requires : goal.fetch_add-requires
fetch_add-requires g c = let of = c.requires.of in let pass = c.args.pass.now in let row = c.args.row.now in let words = row.words_are in let known = pass.known in let some = pass.bounded in let may = c.requires.may in let key = row.table.shared.key in (
  of.0,
  omega arith,
  stamps_at g.T.Machine.needs g.T.Machine.steps g.T.Machine.stands key row.table.shared.table_id.slots pass.seat.id pass.seat.me g.T.Machine.records (λ log entry event hand k x. g.T.Machine.frame key log entry event hand k x) g.K.Plan.plan may.0 may.1 may.2 of.1 (of.2 ∙ ap Some (sym of.4)) of.3 (omega arith)
      (subst (λ k. MayStamp g.T.Machine.records g.T.Machine.needs g.T.Machine.steps g.T.Machine.stands k may.0 may.1 pass.seat.me.0) (sym of.4) may.3),
)

pub invariant_of-pass : goal.invariant_of-pass
invariant_of-pass g c = let known = c.args.pass.now.known in let may = c.requires.may in let r = c.fetch_add.ensures.2.0 may.0 may.1 may.2 in
    record { known = (ap (λ m. m.0.first) r ∙ known.0, ap (λ m. m.0.count) r ∙ known.1, ap (λ m. m.0.share) r ∙ known.2); bounded = c.args.pass.now.bounded }

pub returns-clause-of : goal.returns-clause-of
returns-clause-of g c = let of = c.requires.of in let may = c.requires.may in let r = c.fetch_add.ensures.2.0 may.0 may.1 may.2 in (
  c.fetch_add.ensures.0 ∙ of.0,
  ap (λ m. m.1) r ∙ of.1,
  ap (λ m. m.0.settings) r ∙ of.2,
  ap (λ m. m.0.out) r ∙ of.3,
  of.4,
  λ k some. stamped_inside c.args.row.now.table.shared.table_id.slots c.args.pass.now.seat.me.0.hand may.1 may.3.same_parts of.5 k (subst (λ n. 0 < n) (ap (λ m. held k m.0) r) some),
)
