use Rattle.std.proofs.Common.{rules}
use Rattle.test_fixture_responder.proofs.Kept.{posted_kept}
use Rattle.test_fixture_responder.proofs.responder.push_shared.Goals as goal

pub returns-in-Ok-clause-shared : goal.returns-in-Ok-clause-shared
returns-in-Ok-clause-shared c = posted_kept c.args.request c.args.srq.now c.post.new.self c.requires.shared c.requires.receive
    (c.post.ensures.variant.0 (search rules)) (search rules)
