use Rattle.test_fixture_requester.proofs.Kept.{operation_kept}
use Rattle.test_fixture_requester.proofs.bed.finish.Goals as goal

pub returns : goal.returns
returns c = operation_kept c.local_done.result c.args.cause c.args.q.now c.local_done.new.q c.reserve.new.self c.local_done.new.marks
    c.requires.step.queue c.local_done.ensures
