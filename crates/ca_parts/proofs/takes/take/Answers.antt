use Rattle.std.proofs.Common.{rules, ◌≡◌, ◌<◌, ◌+◌, ◌∷◌, Some, None, refl, sym, ap, ◌∙◌, subst, arith}
use Rattle.atomic_table.specs.Table.{rest}
use Rattle.ca_parts.specs.Calls.{MayTake}
use Rattle.ca_parts.specs.Facts.{held}
use Rattle.ca_parts.specs.Views.{with_part}
use Rattle.ca_parts.specs.Told.{settled}
use Rattle.ca_parts.proofs.Seats.{takes_at, shelves_at, first_slot, same_slot, rest_of, settled_is, taken_inside}
use Rattle.ca_parts.proofs.takes.take.Goals as goal

pub compare_exchange-found-requires : goal.compare_exchange-found-requires
compare_exchange-found-requires g c = let of = c.requires.of in let pass = c.args.pass.now in let row = c.args.row.now in let words = row.words_are in let known = pass.known in let some = pass.bounded in let may = c.requires.may in let part = c.args.part in let inside = c.requires.part in
    let key = row.table.shared.key in (
      of.0,
      omega arith,
      takes_at g.T.Machine.needs g.T.Machine.steps g.T.Machine.stands key row.table.shared.table_id.slots pass.seat.id pass.seat.me c.place_of_word-word.result part c.place_of_word-word.ensures (λ e h k. g.T.Machine.apart key e h k) (pass.number + 1) g.K.Asked.event may.0 may.1 inside (omega arith) of.1 (of.2 ∙ ap Some (sym of.4)) of.3 (omega arith)
          (subst (λ k. MayTake g.T.Machine.needs k may.0 part pass.seat.me.0) (sym of.4) may.2),
    )

pub invariant_of-pass : goal.invariant_of-pass
invariant_of-pass g c = let known = c.args.pass.now.known in let r = ((c.compare_exchange-found.ensures.2 c.args.part c.place_of_word-word.ensures).1 c.if-found-ne0.true).0 in
    record { known = (ap (λ m. m.0.first) r ∙ known.0, ap (λ m. m.0.count) r ∙ known.1, ap (λ m. m.0.share) r ∙ known.2); bounded = c.args.pass.now.bounded }

pub returns-then-found-ne0-clause-of : goal.returns-then-found-ne0-clause-of
returns-then-found-ne0-clause-of g c = let of = c.requires.of in let found = c.compare_exchange-found.ensures in let r = ((found.2 c.args.part c.place_of_word-word.ensures).1 c.if-found-ne0.true).0 in
    (found.0 ∙ of.0, ap (λ m. m.1) r ∙ of.1, ap (λ m. m.0.settings) r ∙ of.2, ap (λ m. m.0.out) r ∙ of.3, of.4, λ k some. of.5 k (subst (λ n. 0 < n) (ap (λ m. held k m.0) r) some))

pub returns-then-found-ne0-clause-busy : goal.returns-then-found-ne0-clause-busy
returns-then-found-ne0-clause-busy g c = ((c.compare_exchange-found.ensures.2 c.args.part c.place_of_word-word.ensures).1 c.if-found-ne0.true).1 c.args.row.now.settings c.requires.of.2

pub returns-then-found-ne0-clause-not_alone : goal.returns-then-found-ne0-clause-not_alone
returns-then-found-ne0-clause-not_alone g c = ((c.compare_exchange-found.ensures.2 c.args.part c.place_of_word-word.ensures).1 c.if-found-ne0.true).2

pub exchange-slot-requires : goal.exchange-slot-requires
exchange-slot-requires g c = let of = c.requires.of in let found = c.compare_exchange-found.ensures in let may = c.requires.may in let t = (found.2 c.args.part c.place_of_word-word.ensures).0 c.if-found-ne0.false may.0 may.1 in
    (found.0 ∙ of.0, (Some t.0, first_slot c.compare_exchange-found.new.seat.me.1 c.args.pass.now.seat.me.1 (c.args.part, Some t.0) t.2))

pub load-requires : goal.load-requires
load-requires g c = let of = c.requires.of in let row = c.args.row.now in let words = row.words_are in let inside = c.requires.part in let found = c.compare_exchange-found.ensures in let may = c.requires.may in let part = c.args.part in
    let t = (found.2 part c.place_of_word-word.ensures).0 c.if-found-ne0.false may.0 may.1 in let x = c.exchange-slot.ensures in let seat = c.exchange-slot.new.seat in (
      x.0 ∙ (found.0 ∙ of.0),
      omega arith,
      shelves_at g.T.Machine.needs g.T.Machine.steps g.T.Machine.stands row.table.shared.key row.table.shared.table_id.slots seat.id seat.me c.place_of_word-word.result part c.place_of_word-word.ensures
          (ap (λ m. m.1) x.3 ∙ ap (λ l. (part, None) ∷ l) (rest_of c.compare_exchange-found.new.seat.me.1 c.args.pass.now.seat.me.1 (part, Some t.0) t.2 of.1))
          (ap (λ m. m.0.out) x.3 ∙ ap (λ u. u.out) t.1),
    )

pub invariant_of-pass-2 : goal.invariant_of-pass-2
invariant_of-pass-2 g c = let known = c.args.pass.now.known in let may = c.requires.may in let t = (c.compare_exchange-found.ensures.2 c.args.part c.place_of_word-word.ensures).0 c.if-found-ne0.false may.0 may.1 in let x = c.exchange-slot.ensures.3 in let l = c.load.ensures.2 in
    record { known = (ap (λ m. m.0.first) l ∙ (ap (λ m. m.0.first) x ∙ (ap (λ u. u.first) t.1 ∙ known.0)), ap (λ m. m.0.count) l ∙ (ap (λ m. m.0.count) x ∙ (ap (λ u. u.count) t.1 ∙ known.1)), ap (λ m. m.0.share) l ∙ (ap (λ m. m.0.share) x ∙ (ap (λ u. u.share) t.1 ∙ known.2))); bounded = c.args.pass.now.bounded }

pub unwrap-requires : goal.unwrap-requires
unwrap-requires g c = let may = c.requires.may in let t = (c.compare_exchange-found.ensures.2 c.args.part c.place_of_word-word.ensures).0 c.if-found-ne0.false may.0 may.1 in
    let is : c.exchange-slot.result ≡ Some t.0 = same_slot c.compare_exchange-found.new.seat.me.1 c.args.pass.now.seat.me.1 c.args.part (Some t.0) c.exchange-slot.result t.2 c.exchange-slot.ensures.2 in search rules

pub returns-clause-of : goal.returns-clause-of
returns-clause-of g c = let of = c.requires.of in let found = c.compare_exchange-found.ensures in let may = c.requires.may in let part = c.args.part in
    let t = (found.2 part c.place_of_word-word.ensures).0 c.if-found-ne0.false may.0 may.1 in let x = c.exchange-slot.ensures in let l = c.load.ensures in
    let slot = ap (λ m. m.1) x.3 ∙ ap (λ r. (part, None) ∷ r) (rest_of c.compare_exchange-found.new.seat.me.1 c.args.pass.now.seat.me.1 (part, Some t.0) t.2 of.1) in (
      l.0 ∙ (x.0 ∙ (found.0 ∙ of.0)),
      ap (λ m. m.1) l.2 ∙ ap rest slot,
      ap (λ m. m.0.settings) l.2 ∙ (ap (λ m. m.0.settings) x.3 ∙ (ap (λ u. u.settings) t.1 ∙ of.2)),
      ap (λ m. m.0.out) l.2,
      of.4,
      λ k some. taken_inside c.args.row.now.table.shared.table_id.slots part t.0 c.args.pass.now.seat.me.0.hand c.requires.part of.5 k (subst (λ n. 0 < n) (ap (λ m. held k m.0) l.2 ∙ (ap (λ m. held k m.0) x.3 ∙ ap (λ u. held k u) t.1)) some),
    )

pub returns-clause-took : goal.returns-clause-took
returns-clause-took g c = (
  refl,
  λ event asked. let of = c.requires.of in let part = c.args.part in let view = c.args.pass.now.seat.me.0 in let t = (c.compare_exchange-found.ensures.2 part c.place_of_word-word.ensures).0 c.if-found-ne0.false event asked in
      let x = c.exchange-slot.ensures in let l = c.load.ensures in
      let is : c.exchange-slot.result ≡ Some t.0 = same_slot c.compare_exchange-found.new.seat.me.1 c.args.pass.now.seat.me.1 part (Some t.0) c.exchange-slot.result t.2 x.2 in
      let was : c.exchange-slot.result ≡ Some c.unwrap.result = c.unwrap.ensures in
      let value : t.0 ≡ c.unwrap.result = cc in
      ap (λ m. m.0) l.2 ∙ (ap settled (ap (λ m. m.0) x.3 ∙ t.1) ∙ (settled_is (with_part event part t.0 view) of.3 ∙ ap (λ y. with_part event part y view) value)),
)
