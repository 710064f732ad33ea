use Rattle.std.proofs.Common.{◌∷◌, ◌++◌, [], List, ℕ, ap, ◌∙◌, arith}
use Rattle.test_parts.specs.declared.amount.Amount.{Amount}
use Rattle.test_parts.proofs.Marks.{two_of, may_mark}
use Rattle.test_parts.proofs.moving.try_move.Goals as goal

pub returns-then-from_value-m-clause-refused : goal.returns-then-from_value-m-clause-refused
returns-then-from_value-m-clause-refused c = let back = c.give_both-then-from_value-m.ensures.same.0 in let look = c.look-n.ensures.noted in let took = c.in-Ok.ensures in let both = c.both.ensures in let r = c.both.result in
    let hand = took.took.0 ∙ (both.hand ∙ (λ i. (both.parts.0 i, r.0.value) ∷ (both.parts.1 i, r.1.value) ∷ [])) in (
      (r.0.value, r.1.value, c.if-from_value-m.true, back.2 ∙ (ap (λ v. v.notes) look ∙ (ap (λ (l : _). l ++ (c.look-n.result, c.take_parts.new.pass.seat.me.0.hand) ∷ []) took.same.2 ∙ ap (λ (h : List (ℕ × Amount)). c.args.pass.now.seat.me.0.notes ++ (c.look-n.result, h) ∷ []) hand))),
      back.1 ∙ (ap (λ v. v.entries) look ∙ took.same.1),
    )

pub overflow_add-to_value : goal.overflow_add-to_value
overflow_add-to_value c = let both = c.both.ensures in let r = c.both.result in let sees = c.look-n.ensures.sees in let enough = c.if-from_value-m.false in
    let sum = two_of c.args.parts.now.settings c.args.m sees.log c.take_parts.new.pass.seat.me.0.hand r.0 r.1 sees.follows sees.hand_stands (c.in-Ok.ensures.took.0 ∙ both.hand) both.parts.0 both.parts.1 c.requires.is_move.2 in
    let bounded = c.requires.bounded in omega arith

pub mark-stamp-requires : goal.mark-stamp-requires
mark-stamp-requires c = let both = c.both.ensures in let r = c.both.result in let look = c.look-n.ensures.noted in let took = c.in-Ok.ensures in
    let from = c.with_value-from in let to = c.with_value-to in (
      c.look-n.ensures.of,
      may_mark c.args.parts.now.settings c.args.m c.look-n.new.pass.seat.me.0 c.look-n.result r.0 r.1 from.result to.result (ap (λ v. v.looked) look) c.if-n-ge-LATE_STAMP.false
          (ap (λ v. v.giving) look ∙ took.taking.0) (ap (λ v. v.event) look ∙ took.taking.1) (ap (λ v. v.hand) look ∙ (took.took.0 ∙ both.hand)) both.parts.0 both.parts.1 c.requires.is_move c.if-from_value-m.false from.ensures.0 from.ensures.1 to.ensures.0 to.ensures.1,
    )
