use Rattle.std.proofs.Common.{ap, ◌∙◌}
use Rattle.ca_grant.specs.Reaching.{invalidation_by}
use Rattle.test_fixture_reach.specs.SmallLaws.{small-end}
use Rattle.test_fixture_reach.specs.SmallReach.{sight_of}
use Rattle.test_fixture_reach.specs.declared.small_reach.SmallReach.{SmallReach}
use Rattle.test_fixture_reach.proofs.small_reach.SmallReachReach.invalidate.Goals as goal

pub returns-clause-grants : goal.returns-clause-grants
returns-clause-grants c = λ x.
    ap (λ (s : SmallReach). (sight_of s).grant x) c.in_ok-end_key.ensures.revoked
    ∙ small-end c.args.self.now (invalidation_by c.args.key c.args.queue) c.requires.at_hand c.in_ok-end_key.ensures.accepted x
