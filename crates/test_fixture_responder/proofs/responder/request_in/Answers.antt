use Rattle.std.proofs.Common.{IfSome, rules, subst}
use Rattle.ca_responder_operations.specs.Taking.{MayEnd}
use Rattle.test_fixture_reach.specs.SmallReach.{IsEndHere, sight_of}
use Rattle.test_fixture_responder.proofs.responder.request_in.Goals as goal

pub returns-clause-at_hand : goal.returns-clause-at_hand
returns-clause-at_hand c = λ envelope. record {
  asks = search rules;
  ended = subst (λ i. IfSome i (MayEnd sight_of IsEndHere c.args.reach.now c.args.q.now)) (c.request_key.ensures envelope)
      (c.may_end.ensures (search rules));
}
