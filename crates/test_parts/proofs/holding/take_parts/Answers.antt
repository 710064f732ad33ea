use Rattle.std.proofs.Common.{◌≡◌, ◌∷◌, ◌++◌, [], vec_len, Some, inr, sym, ap, ◌∙◌, arith}
use Rattle.std.proofs.lemmas.List.{map-append}
use Rattle.ca_parts.specs.Lists.{numbers_of}
use Rattle.test_parts.specs.Held.{hand_of, first_parts}
use Rattle.test_parts.specs.Numbers.{next_of}
use Rattle.test_parts.proofs.Hands.{hand_last, next_number, apart_of}
use Rattle.test_parts.proofs.holding.take_parts.Goals as goal

pub loop-part-preserved : goal.loop-part-preserved
loop-part-preserved c = let inv = c.loop-part.invariant in let held = c.loop-part.held in let t = c.in-Ok.t in let part = c.in-Some.part in let took = c.in-Ok.ensures.took in let pushed = c.push_reserved.ensures in
    let next : next_of c.args.m (hand_of held.items) ≡ Some part = ap (λ l. next_of c.args.m (hand_of l)) (sym c.as_slice.ensures.value) ∙ sym c.in-Some.ensures in
    let move = next_number c.args.m (vec_len held) part (hand_of held.items) inv.few c.requires.is_move.2 inv.numbers next in
    let last = hand_last c.push_reserved.new.self.items held.items t pushed.items in let few = move.0 in let len = pushed.len in
    record {
      of = c.in-Ok.ensures.of;
      hand = ap (λ v. v.hand) took.1 ∙ (ap (λ h. h ++ (part, t.value) ∷ []) inv.hand ∙ (ap (λ p. hand_of held.items ++ (p, t.value) ∷ []) (sym took.0) ∙ sym last));
      numbers = ap numbers_of last ∙ (map-append (λ x. x.0) (hand_of held.items) ((t.part, t.value) ∷ []) ∙ (ap (λ p. numbers_of (hand_of held.items) ++ p ∷ []) took.0 ∙ (move.1 ∙ ap (λ n. first_parts c.args.m n) (sym len))));
      few = omega arith;
      taking = inr (ap (λ v. v.giving) took.1, ap (λ v. v.event) took.1);
      room = pushed.capacity ∙ inv.room;
      refused = ap (λ v. v.refused) took.1 ∙ inv.refused;
      same = (ap (λ v. v.share) took.1 ∙ inv.same.0, ap (λ v. v.entries) took.1 ∙ inv.same.1, ap (λ v. v.notes) took.1 ∙ inv.same.2);
    }

pub give_all-requires-clause-hand : goal.give_all-requires-clause-hand
give_all-requires-clause-hand c = let inv = c.loop-part.invariant in let held = c.loop-part.held in
    (ap (λ v. v.hand) c.in-Err.ensures.refusal ∙ inv.hand, apart_of c.args.m.from c.args.m.to (vec_len held) (hand_of held.items) inv.few c.requires.is_move.2 inv.numbers)
