use Rattle.test_queues.proofs.Counted.{counted}
use Rattle.test_queues.proofs.tests.mailboxes.deliver.Goals as goal

pub count-requires : goal.count-requires
count-requires g c =
    rw (c.in-Ok.ensures.ok.0, c.in-Ok.ensures.ok.1) (counted c.args.mailbox.now c.args.lot _ c.requires.lot)
