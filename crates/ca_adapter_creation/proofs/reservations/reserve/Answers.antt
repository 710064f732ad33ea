use Rattle.std.proofs.Common.{rules}
use Rattle.ca_adapter_parts.specs.HeldView.{holding}
use Rattle.ca_adapter_creation.proofs.ReservationLemmas.{both-reserved, given-back}
use Rattle.ca_adapter_creation.proofs.reservations.reserve.Goals as goal

pub returns-in-Ok-clause-ok : goal.returns-in-Ok-clause-ok
returns-in-Ok-clause-ok c = both-reserved c.args.creation.now c.args.room c.creation.inside.send_depth (holding c.args.held.now)
    (holding c.reserve_in.new.held) (holding c.reserve_in-2.new.held) c.send_slot-send.result c.recv_slot.result
    c.send_reserve-sends.result c.receive_reserve.result (search rules) c.send_slot-send.ensures c.recv_slot.ensures
    c.send_reserve-sends.ensures c.receive_reserve.ensures c.in_ok-reserve_in.ensures.ok c.in-Ok.ensures.ok

pub returns-in-Err-clause-err : goal.returns-in-Err-clause-err
returns-in-Err-clause-err c = given-back (holding c.args.held.now) (holding c.reserve_in.new.held)
    (holding c.reserve_in-2.new.held) (holding c.release_in.new.held) c.send_slot-send.result c.send_reserve-sends.result
    c.creation.inside.send_depth c.in_ok-reserve_in.ensures.ok c.in-Err.ensures.err
    c.release_in.ensures (rw (c.send_slot-send.ensures, c.send_reserve-sends.ensures) c.requires.new)
