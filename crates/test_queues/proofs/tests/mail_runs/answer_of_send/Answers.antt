use Rattle.test_queues.proofs.DeliveredLemmas.{most_after_send}
use Rattle.test_queues.proofs.tests.mail_runs.answer_of_send.Goals as goal

pub returns-in-Ok-clause-most : goal.returns-in-Ok-clause-most
returns-in-Ok-clause-most c = rw c.in-Ok.ensures.ok.1 (most_after_send c.args.lot c.args.bytes c.args.mailbox.now)
