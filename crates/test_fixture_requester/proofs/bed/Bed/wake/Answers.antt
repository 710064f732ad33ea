use Rattle.test_fixture_requester.proofs.Kept.{wake_kept}
use Rattle.test_fixture_requester.proofs.bed.Bed.wake.Goals as goal

pub returns : goal.returns
returns c = record {
  queue = wake_kept c.on_rnr_wake.result _ c.args.self.now.queue c.on_rnr_wake.new.q c.requires.queue c.on_rnr_wake.ensures;
  reach = c.requires.reach;
}
