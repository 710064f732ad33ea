use Rattle.std.proofs.Common.{refl, subst, sym}
use Rattle.test_fixture_requester.proofs.Kept.{posted_kept}
use Rattle.ca_model.specs.machine.Invariants.{IsQueue}
use Rattle.test_fixture_requester.proofs.bed.push.Goals as goal

pub returns : goal.returns
returns c = posted_kept _ _ c.args.request c.post.result c.post.new.self (subst IsQueue (sym c.q.view_is) c.requires.queue) c.requires.list
    c.post.ensures.variant.0 c.post.ensures.ok c.post.ensures.full refl
