use Rattle.std.proofs.Common.{◌∙◌, rules}
use Rattle.test_fixture_reach.specs.SmallReach.{sight_of}
use Rattle.test_fixture_requester.proofs.Kept.{at_hand, stands_by, turn_kept}
use Rattle.test_fixture_requester.proofs.bed.Bed.send.Goals as goal

pub next_packet-requires-clause-at_hand : goal.next_packet-requires-clause-at_hand
next_packet-requires-clause-at_hand c = at_hand c.args.self.now.reach (c.as_slice.ensures.value ∙ c.next_asks-asks.ensures c.args.room)
    (search rules) (search rules)

pub returns : goal.returns
returns c = stands_by record { queue = c.next_packet.new.q; reach = c.next_packet.new.reach } (turn_kept c.next_packet.result (sight_of c.args.self.now.reach) c.args.room
    c.args.self.now.queue c.next_packet.new.q c.args.marks.now c.next_packet.new.marks c.args.self.now.reach c.next_packet.new.reach
    c.args.out.now.items c.next_packet.new.out.items
    (record { queue = c.requires.queue; reach = c.requires.reach }) c.next_packet.ensures.turn)
