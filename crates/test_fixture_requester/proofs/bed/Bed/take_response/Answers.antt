use Rattle.std.proofs.Common.{◌∙◌, rules}
use Rattle.test_fixture_reach.specs.SmallReach.{sight_of}
use Rattle.test_fixture_requester.proofs.Kept.{at_hand, stands_by, taking_kept}
use Rattle.test_fixture_requester.proofs.bed.Bed.take_response.Goals as goal

pub on_response-requires-clause-at_hand : goal.on_response-requires-clause-at_hand
on_response-requires-clause-at_hand c = at_hand c.args.self.now.reach (c.as_slice.ensures.value ∙ c.response_asks-asks.ensures)
    (search rules) (search rules)

pub returns : goal.returns
returns c = stands_by record { queue = c.on_response.new.q; reach = c.on_response.new.reach } (taking_kept c.on_response.result (sight_of c.args.self.now.reach) c.args.p.now
    c.args.self.now.queue c.on_response.new.q c.args.marks.now c.on_response.new.marks c.args.self.now.reach c.on_response.new.reach
    (record { queue = c.requires.stands.queue; reach = c.requires.stands.reach }) c.on_response.ensures)
