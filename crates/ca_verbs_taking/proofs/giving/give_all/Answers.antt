use Rattle.std.proofs.Common.{◌∙◌, ap}
use Rattle.ca_parts.specs.Lists.{without}
use Rattle.ca_verbs_taking.proofs.GiveLemmas.{apart-before, apart-last, hand-last, last-has, without-last}
use Rattle.ca_verbs_taking.specs.Holding.{hand_of}
use Rattle.ca_verbs_taking.proofs.giving.give_all.Goals as goal

pub give-requires-clause-in_hand : goal.give-requires-clause-in_hand
give-requires-clause-in_hand c = let inv = c.loop-t.invariant in let t = c.in-Some.t in let rest = c.pop.new.self.items in
    last-has _ (hand_of rest) (t.part, t.value) (inv.hand ∙ hand-last c.loop-t.out.items rest t c.in-Some.ensures.items)

pub loop-t-preserved : goal.loop-t-preserved
loop-t-preserved c = let inv = c.loop-t.invariant in let t = c.in-Some.t in let rest = c.pop.new.self.items in let gave = c.give.ensures.gave in
    let last = hand-last c.loop-t.out.items rest t c.in-Some.ensures.items in
    record {
      of = c.give.ensures.of;
      hand = ap (λ v. v.hand) gave ∙ (ap (λ h. without t.part h) (inv.hand ∙ last) ∙ without-last t.part t.value (hand_of rest) (apart-last (hand_of c.loop-t.out.items) (hand_of rest) (t.part, t.value) last inv.apart));
      apart = apart-before (hand_of c.loop-t.out.items) (hand_of rest) (t.part, t.value) last inv.apart;
      same = ((ap (λ v. v.share) gave ∙ inv.same.0.0, ap (λ v. v.passes) gave ∙ inv.same.0.1), ap (λ v. v.entries) gave ∙ inv.same.1);
      notes = (ap (λ v. v.notes) gave ∙ inv.notes.0, ap (λ v. v.refused) gave ∙ inv.notes.1);
    }
