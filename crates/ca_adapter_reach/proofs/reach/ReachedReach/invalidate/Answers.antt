use Rattle.ca_grant.specs.Reaching.{invalidation_by}
use Rattle.ca_adapter_reach.proofs.GrantLemmas.{ended_grants}
use Rattle.ca_adapter_reach.proofs.reach.ReachedReach.invalidate.Goals as goal

pub returns-clause-grants : goal.returns-clause-grants
returns-clause-grants c =
    ended_grants c.end_key.result c.args.self.now c.end_key.new.self (invalidation_by c.args.key c.args.queue)
    c.requires.at_hand c.end_key.ensures.accepted c.end_key.ensures.revoked
