use Rattle.std.proofs.Common.{◌+◌}
use Rattle.ca_law_world.proofs.Sound.TurnLemmas.{windows-queue}
use Rattle.ca_qpstate.specs.Seen.{queue_seen}
use Rattle.test_fixture_responder.proofs.responder.count_window.Goals as goal

pub returns : goal.returns
returns c = windows-queue (queue_seen c.q.inside) (c.q.inside.windows.count + 1) (rw c.q.view_is c.requires)
