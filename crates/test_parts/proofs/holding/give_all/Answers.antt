use Rattle.std.proofs.Common.{ap, ◌∙◌}
use Rattle.ca_parts.specs.Lists.{without}
use Rattle.test_parts.specs.Held.{hand_of}
use Rattle.test_parts.proofs.Hands.{hand_last, last_has, without_last, apart_last}
use Rattle.test_parts.proofs.holding.give_all.Goals as goal

pub give-requires-clause-in_hand : goal.give-requires-clause-in_hand
give-requires-clause-in_hand c = let inv = c.loop-t.invariant in let t = c.in-Some.t in let rest = c.pop.new.self.items in
    last_has _ (hand_of rest) (t.part, t.value) (inv.hand ∙ hand_last c.loop-t.held.items rest t c.in-Some.ensures.items)

pub loop-t-preserved : goal.loop-t-preserved
loop-t-preserved c = let inv = c.loop-t.invariant in let t = c.in-Some.t in let rest = c.pop.new.self.items in let gave = c.give.ensures.gave in
    let last = hand_last c.loop-t.held.items rest t c.in-Some.ensures.items in let apart = apart_last (hand_of c.loop-t.held.items) (hand_of rest) (t.part, t.value) last inv.apart in
    record {
      of = c.give.ensures.of;
      hand = ap (λ v. v.hand) gave ∙ (ap (λ h. without t.part h) (inv.hand ∙ last) ∙ without_last t.part t.value (hand_of rest) apart.1);
      apart = apart.0;
      room = c.pop.ensures.capacity ∙ inv.room;
      same = (ap (λ v. v.share) gave ∙ inv.same.0, ap (λ v. v.entries) gave ∙ inv.same.1, ap (λ v. v.notes) gave ∙ inv.same.2);
      refused = ap (λ v. v.refused) gave ∙ inv.refused;
    }
