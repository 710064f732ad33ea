use Rattle.std.proofs.Common.{◌<◌, ◌∷◌, Some, None, sym, ap, ◌∙◌, subst, arith}
use Rattle.atomic_table.specs.Table.{rest}
use Rattle.ca_parts.specs.Facts.{held}
use Rattle.ca_parts.specs.Lists.{Has}
use Rattle.ca_parts.specs.Views.{without_part}
use Rattle.ca_parts.specs.Told.{settled}
use Rattle.ca_parts.proofs.Lists.{has_times}
use Rattle.ca_parts.proofs.Seats.{fetches_at, gives_at, first_slot, same_slot, rest_of, settled_is, given_inside}
use Rattle.ca_parts.proofs.parts.Parts.give.Goals as goal

pub load-requires : goal.load-requires
load-requires g c = let of = c.requires.of in let row = c.args.self.now in let words = row.words_are in let pass = c.args.pass.now in let part = c.args.t.part in let has = c.requires.in_hand in let inside = of.5 part (has_times part c.args.t.value pass.seat.me.0.hand has) in
    (of.0, omega arith, fetches_at g.T.Machine.needs g.T.Machine.steps g.T.Machine.stands row.table.shared.key row.table.shared.table_id.slots pass.seat.id pass.seat.me c.place_of_word-word.result part c.place_of_word-word.ensures c.args.t.value of.1 has of.3)

pub exchange-nothing-requires : goal.exchange-nothing-requires
exchange-nothing-requires g c = let of = c.requires.of in let part = c.args.t.part in let l = c.load.ensures in let t = l.2 part c.place_of_word-word.ensures in
    (l.0 ∙ of.0, (None, first_slot c.load.new.seat.me.1 c.args.pass.now.seat.me.1 (part, None) (ap (λ m. m.1) t)))

pub unreachable-requires : goal.unreachable-requires
unreachable-requires g c = let t = c.load.ensures.2 c.args.t.part c.place_of_word-word.ensures in c.in_default.not-None (same_slot c.load.new.seat.me.1 c.args.pass.now.seat.me.1 c.args.t.part None c.exchange-nothing.result (ap (λ m. m.1) t) c.exchange-nothing.ensures.2)

pub store-requires : goal.store-requires
store-requires g c = let of = c.requires.of in let row = c.args.self.now in let words = row.words_are in let pass = c.args.pass.now in let part = c.args.t.part in let value = c.args.t.value in let has = c.requires.in_hand in let inside = of.5 part (has_times part value pass.seat.me.0.hand has) in
    let l = c.load.ensures in let t = l.2 part c.place_of_word-word.ensures in let x = c.exchange-nothing.ensures in let seat = c.exchange-nothing.new.seat in (
      x.0 ∙ (l.0 ∙ of.0),
      omega arith,
      gives_at g.T.Machine.needs g.T.Machine.steps g.T.Machine.stands row.table.shared.key row.table.shared.table_id.slots seat.id seat.me c.place_of_word-word.result part c.place_of_word-word.ensures value
          (ap (λ m. m.1) x.3 ∙ ap (λ r. (part, Some value) ∷ r) (rest_of c.load.new.seat.me.1 pass.seat.me.1 (part, None) (ap (λ m. m.1) t) of.1))
          (subst (λ h. Has (part, value) h) (sym (ap (λ m. m.0.hand) x.3 ∙ ap (λ m. m.0.hand) t)) has)
          (ap (λ m. m.0.out) x.3 ∙ ap (λ m. m.0.out) t),
    )

pub invariant_of-pass : goal.invariant_of-pass
invariant_of-pass g c = let known = c.args.pass.now.known in let part = c.args.t.part in let t = c.load.ensures.2 part c.place_of_word-word.ensures in let x = c.exchange-nothing.ensures.3 in let s = c.store.ensures.2 part c.place_of_word-word.ensures in
    record { known = (ap (λ m. m.0.first) s ∙ (ap (λ m. m.0.first) x ∙ (ap (λ m. m.0.first) t ∙ known.0)), ap (λ m. m.0.count) s ∙ (ap (λ m. m.0.count) x ∙ (ap (λ m. m.0.count) t ∙ known.1)), ap (λ m. m.0.share) s ∙ (ap (λ m. m.0.share) x ∙ (ap (λ m. m.0.share) t ∙ known.2))); bounded = c.args.pass.now.bounded }

pub returns-clause-of : goal.returns-clause-of
returns-clause-of g c = let of = c.requires.of in let part = c.args.t.part in let value = c.args.t.value in let pass = c.args.pass.now in let l = c.load.ensures in let t = l.2 part c.place_of_word-word.ensures in let x = c.exchange-nothing.ensures in let s = c.store.ensures in let u = s.2 part c.place_of_word-word.ensures in
    let slot = ap (λ m. m.1) x.3 ∙ ap (λ r. (part, Some value) ∷ r) (rest_of c.load.new.seat.me.1 pass.seat.me.1 (part, None) (ap (λ m. m.1) t) of.1) in (
      s.0 ∙ (x.0 ∙ (l.0 ∙ of.0)),
      ap (λ m. m.1) u ∙ ap rest slot,
      ap (λ m. m.0.settings) u ∙ (ap (λ m. m.0.settings) x.3 ∙ (ap (λ m. m.0.settings) t ∙ of.2)),
      ap (λ m. m.0.out) u,
      of.4,
      λ k some. given_inside c.args.self.now.table.shared.table_id.slots part value pass.seat.me.0.hand c.requires.in_hand of.5 k (subst (λ n. 0 < n) (ap (λ m. held k m.0) u ∙ (ap (λ m. held k (without_part part m.0)) x.3 ∙ ap (λ m. held k (without_part part m.0)) t)) some),
    )

pub returns-clause-gave : goal.returns-clause-gave
returns-clause-gave g c = let of = c.requires.of in let part = c.args.t.part in let view = c.args.pass.now.seat.me.0 in let t = c.load.ensures.2 part c.place_of_word-word.ensures in let x = c.exchange-nothing.ensures in let u = c.store.ensures.2 part c.place_of_word-word.ensures in
    ap (λ m. m.0) u ∙ (ap (λ m. settled (without_part part m.0)) x.3 ∙ (ap (λ m. settled (without_part part m.0)) t ∙ settled_is (without_part part view) of.3))
