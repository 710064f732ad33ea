use Rattle.test_fixture_requester.proofs.Kept.{timeout_kept}
use Rattle.test_fixture_requester.proofs.bed.fire.Goals as goal

pub returns : goal.returns
returns c = timeout_kept c.on_timeout.result c.args.silent c.args.hasten c.args.q.now c.on_timeout.new.q c.args.marks.now c.on_timeout.new.marks
    c.requires.queue c.on_timeout.ensures
