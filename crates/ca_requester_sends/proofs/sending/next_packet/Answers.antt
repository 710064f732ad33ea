use Rattle.std.proofs.Common.{rules, ◌≡◌}
use Rattle.ca_requester_sends.proofs.TurnLemmas.{turn_before}
use Rattle.ca_requester_sends.proofs.sending.next_packet.Goals as goal

pub returns-then-not-room-clause-turn : goal.returns-then-not-room-clause-turn
returns-then-not-room-clause-turn g c =
    rw (c.sending_of-next.ensures.row c.args.room)
    (c.send_nothing.ensures c.sending_of-next.result.request c.args.out.now.items (search rules) (search rules))

pub returns-in-Denied-clause-turn : goal.returns-in-Denied-clause-turn
returns-in-Denied-clause-turn g c =
    let out-same : c.read_and_spell.new.out.items ≡ c.args.out.now.items = search rules in
    let reach-same : c.args.reach.now ≡ c.read_and_spell.new.reach = search rules in
    rw (c.sending_of-next.ensures.row c.args.room, out-same, reach-same)
    (turn_before g.R.Reach.written c.send_nothing-in-Denied.result _ c.args.q.now c.send_nothing-in-Denied.new.q c.args.marks.now c.read_and_spell.new.marks c.send_nothing-in-Denied.new.marks
    c.read_and_spell.new.reach c.read_and_spell.new.reach c.args.out.now.items c.args.out.now.items (search rules)
    (c.send_nothing-in-Denied.ensures c.sending_of-next.result.request c.args.out.now.items (search rules) (search rules)))
