use Rattle.test_fixture_reach.specs.SmallReach.{sight_of}
use Rattle.test_fixture_responder.proofs.Kept.{respond_kept, stands_by}
use Rattle.test_fixture_responder.proofs.responder.respond.Goals as goal

pub returns : goal.returns
returns c =
    let bed = c.args.bed.now in
    stands_by (record { queue = c.next_response.new.q; reach = c.next_response.new.reach })
    (respond_kept c.next_response.result (sight_of bed.reach) c.args.room bed.queue c.next_response.new.q c.args.marks.now c.next_response.new.marks
    bed.reach c.next_response.new.reach c.args.out.now.items c.next_response.new.out.items c.requires.queue c.requires.reach c.next_response.ensures.turn)
