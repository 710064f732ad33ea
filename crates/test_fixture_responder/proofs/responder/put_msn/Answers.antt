use Rattle.ca_qpstate.specs.Seen.{queue_seen}
use Rattle.test_fixture_responder.proofs.Kept.{msn_kept}
use Rattle.test_fixture_responder.proofs.responder.put_msn.Goals as goal

pub returns : goal.returns
returns c = msn_kept (queue_seen c.q.inside) c.args.msn (rw c.q.view_is c.requires.queue) c.requires.bits
