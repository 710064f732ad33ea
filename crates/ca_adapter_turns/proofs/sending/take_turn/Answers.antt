use Rattle.std.proofs.Common.{◌∙◌, sym, ap, arith}
use Rattle.std.proofs.lemmas.Result.{err_from_is_err_and}
use Rattle.ca_base.specs.Configuration.{configuration_in}
use Rattle.ca_adapter_parts.specs.HeldView.{holding}
use Rattle.ca_adapter_parts.specs.Parts.{slot_of}
use Rattle.ca_adapter_turns.proofs.TakingLemmas.{Ended, Takes, ended-acts, ended-mail, ended-next, ended-receives, ended-recv, ended-room, ended-send, ended-sends, ended-spare, takes-at-hand, takes-unready}
use Rattle.ca_adapter_turns.proofs.sending.take_turn.Goals as goal

pub turn_held-requires-clause-at_hand : goal.turn_held-requires-clause-at_hand
turn_held-requires-clause-at_hand c =
    let t : Takes (configuration_in c.args.settings.now) c.args.held.now c.args.queue c.args.lot c.args.sender c.in-Present.q c.in-Some.peer c.has_room_for-room.result
    = record { has = sym c.has_queue.ensures.value ∙ c.if-not-has_queue.false; there = sym c.queue.ensures ∙ ap slot_of c.in-Present.is; peer = sym c.peer_of.ensures ∙ c.in-Some.is; is-room = c.has_room_for-room.ensures; can = c.requires.can; named = c.requires.named; parts = c.requires.parts }
    in takes-at-hand t c.requires.suffices

pub put_done-requires-clause-send : goal.put_done-requires-clause-send
put_done-requires-clause-send c =
    let t : Takes (configuration_in c.args.settings.now) c.args.held.now c.args.queue c.args.lot c.args.sender c.in-Present.q c.in-Some.peer c.has_room_for-room.result
    = record { has = sym c.has_queue.ensures.value ∙ c.if-not-has_queue.false; there = sym c.queue.ensures ∙ ap slot_of c.in-Present.is; peer = sym c.peer_of.ensures ∙ c.in-Some.is; is-room = c.has_room_for-room.ensures; can = c.requires.can; named = c.requires.named; parts = c.requires.parts }
    in let d : Ended (configuration_in c.args.settings.now) c.args.held.now c.args.queue c.args.lot c.args.sender c.in-Present.q c.in-Some.peer c.has_room_for-room.result
    c.in_ok-sent.sent (holding c.turn_held.new.held) c.empty-marks.result c.turn_held.new.marks c.turn_held.new.out.items c.of-to.result c.as_slice.result.now
    = record { takes = t; suffices = c.requires.suffices; fits = c.requires.fits; none = c.empty-marks.ensures; is-ms = c.as_slice.ensures; outlets = c.of-to.ensures; turn = c.in_ok-sent.ensures.turned }
    in ended-send d

pub put_done-requires-clause-recv : goal.put_done-requires-clause-recv
put_done-requires-clause-recv c =
    let t : Takes (configuration_in c.args.settings.now) c.args.held.now c.args.queue c.args.lot c.args.sender c.in-Present.q c.in-Some.peer c.has_room_for-room.result
    = record { has = sym c.has_queue.ensures.value ∙ c.if-not-has_queue.false; there = sym c.queue.ensures ∙ ap slot_of c.in-Present.is; peer = sym c.peer_of.ensures ∙ c.in-Some.is; is-room = c.has_room_for-room.ensures; can = c.requires.can; named = c.requires.named; parts = c.requires.parts }
    in let d : Ended (configuration_in c.args.settings.now) c.args.held.now c.args.queue c.args.lot c.args.sender c.in-Present.q c.in-Some.peer c.has_room_for-room.result
    c.in_ok-sent.sent (holding c.turn_held.new.held) c.empty-marks.result c.turn_held.new.marks c.turn_held.new.out.items c.of-to.result c.as_slice.result.now
    = record { takes = t; suffices = c.requires.suffices; fits = c.requires.fits; none = c.empty-marks.ensures; is-ms = c.as_slice.ensures; outlets = c.of-to.ensures; turn = c.in_ok-sent.ensures.turned }
    in ended-recv d

pub put_done-requires-clause-sends : goal.put_done-requires-clause-sends
put_done-requires-clause-sends c =
    let t : Takes (configuration_in c.args.settings.now) c.args.held.now c.args.queue c.args.lot c.args.sender c.in-Present.q c.in-Some.peer c.has_room_for-room.result
    = record { has = sym c.has_queue.ensures.value ∙ c.if-not-has_queue.false; there = sym c.queue.ensures ∙ ap slot_of c.in-Present.is; peer = sym c.peer_of.ensures ∙ c.in-Some.is; is-room = c.has_room_for-room.ensures; can = c.requires.can; named = c.requires.named; parts = c.requires.parts }
    in let d : Ended (configuration_in c.args.settings.now) c.args.held.now c.args.queue c.args.lot c.args.sender c.in-Present.q c.in-Some.peer c.has_room_for-room.result
    c.in_ok-sent.sent (holding c.turn_held.new.held) c.empty-marks.result c.turn_held.new.marks c.turn_held.new.out.items c.of-to.result c.as_slice.result.now
    = record { takes = t; suffices = c.requires.suffices; fits = c.requires.fits; none = c.empty-marks.ensures; is-ms = c.as_slice.ensures; outlets = c.of-to.ensures; turn = c.in_ok-sent.ensures.turned }
    in ended-sends d

pub put_done-requires-clause-receives : goal.put_done-requires-clause-receives
put_done-requires-clause-receives c =
    let t : Takes (configuration_in c.args.settings.now) c.args.held.now c.args.queue c.args.lot c.args.sender c.in-Present.q c.in-Some.peer c.has_room_for-room.result
    = record { has = sym c.has_queue.ensures.value ∙ c.if-not-has_queue.false; there = sym c.queue.ensures ∙ ap slot_of c.in-Present.is; peer = sym c.peer_of.ensures ∙ c.in-Some.is; is-room = c.has_room_for-room.ensures; can = c.requires.can; named = c.requires.named; parts = c.requires.parts }
    in let d : Ended (configuration_in c.args.settings.now) c.args.held.now c.args.queue c.args.lot c.args.sender c.in-Present.q c.in-Some.peer c.has_room_for-room.result
    c.in_ok-sent.sent (holding c.turn_held.new.held) c.empty-marks.result c.turn_held.new.marks c.turn_held.new.out.items c.of-to.result c.as_slice.result.now
    = record { takes = t; suffices = c.requires.suffices; fits = c.requires.fits; none = c.empty-marks.ensures; is-ms = c.as_slice.ensures; outlets = c.of-to.ensures; turn = c.in_ok-sent.ensures.turned }
    in ended-receives d

pub leave-requires-clause-held : goal.leave-requires-clause-held
leave-requires-clause-held c =
    let t : Takes (configuration_in c.args.settings.now) c.args.held.now c.args.queue c.args.lot c.args.sender c.in-Present.q c.in-Some.peer c.has_room_for-room.result
    = record { has = sym c.has_queue.ensures.value ∙ c.if-not-has_queue.false; there = sym c.queue.ensures ∙ ap slot_of c.in-Present.is; peer = sym c.peer_of.ensures ∙ c.in-Some.is; is-room = c.has_room_for-room.ensures; can = c.requires.can; named = c.requires.named; parts = c.requires.parts }
    in let d : Ended (configuration_in c.args.settings.now) c.args.held.now c.args.queue c.args.lot c.args.sender c.in-Present.q c.in-Some.peer c.has_room_for-room.result
    c.in_ok-sent.sent (holding c.turn_held.new.held) c.empty-marks.result c.turn_held.new.marks c.turn_held.new.out.items c.of-to.result c.as_slice.result.now
    = record { takes = t; suffices = c.requires.suffices; fits = c.requires.fits; none = c.empty-marks.ensures; is-ms = c.as_slice.ensures; outlets = c.of-to.ensures; turn = c.in_ok-sent.ensures.turned }
    in ended-mail d (holding c.put_done.new.held) c.put_done.ensures

pub leave-requires-clause-next : goal.leave-requires-clause-next
leave-requires-clause-next c =
    let t : Takes (configuration_in c.args.settings.now) c.args.held.now c.args.queue c.args.lot c.args.sender c.in-Present.q c.in-Some.peer c.has_room_for-room.result
    = record { has = sym c.has_queue.ensures.value ∙ c.if-not-has_queue.false; there = sym c.queue.ensures ∙ ap slot_of c.in-Present.is; peer = sym c.peer_of.ensures ∙ c.in-Some.is; is-room = c.has_room_for-room.ensures; can = c.requires.can; named = c.requires.named; parts = c.requires.parts }
    in let d : Ended (configuration_in c.args.settings.now) c.args.held.now c.args.queue c.args.lot c.args.sender c.in-Present.q c.in-Some.peer c.has_room_for-room.result
    c.in_ok-sent.sent (holding c.turn_held.new.held) c.empty-marks.result c.turn_held.new.marks c.turn_held.new.out.items c.of-to.result c.as_slice.result.now
    = record { takes = t; suffices = c.requires.suffices; fits = c.requires.fits; none = c.empty-marks.ensures; is-ms = c.as_slice.ensures; outlets = c.of-to.ensures; turn = c.in_ok-sent.ensures.turned }
    in ended-next d (holding c.put_done.new.held) c.put_done.ensures (c.requires.next c.in-Some.peer.queue)

pub leave-requires-clause-room : goal.leave-requires-clause-room
leave-requires-clause-room c = λ request is.
    let t : Takes (configuration_in c.args.settings.now) c.args.held.now c.args.queue c.args.lot c.args.sender c.in-Present.q c.in-Some.peer c.has_room_for-room.result
    = record { has = sym c.has_queue.ensures.value ∙ c.if-not-has_queue.false; there = sym c.queue.ensures ∙ ap slot_of c.in-Present.is; peer = sym c.peer_of.ensures ∙ c.in-Some.is; is-room = c.has_room_for-room.ensures; can = c.requires.can; named = c.requires.named; parts = c.requires.parts }
    in let d : Ended (configuration_in c.args.settings.now) c.args.held.now c.args.queue c.args.lot c.args.sender c.in-Present.q c.in-Some.peer c.has_room_for-room.result
    c.in_ok-sent.sent (holding c.turn_held.new.held) c.empty-marks.result c.turn_held.new.marks c.turn_held.new.out.items c.of-to.result c.as_slice.result.now
    = record { takes = t; suffices = c.requires.suffices; fits = c.requires.fits; none = c.empty-marks.ensures; is-ms = c.as_slice.ensures; outlets = c.of-to.ensures; turn = c.in_ok-sent.ensures.turned }
    in ended-room d (holding c.put_done.new.held) c.put_done.ensures c.own_of.result c.own_of.ensures

pub leave-requires-clause-spare : goal.leave-requires-clause-spare
leave-requires-clause-spare c =
    let t : Takes (configuration_in c.args.settings.now) c.args.held.now c.args.queue c.args.lot c.args.sender c.in-Present.q c.in-Some.peer c.has_room_for-room.result
    = record { has = sym c.has_queue.ensures.value ∙ c.if-not-has_queue.false; there = sym c.queue.ensures ∙ ap slot_of c.in-Present.is; peer = sym c.peer_of.ensures ∙ c.in-Some.is; is-room = c.has_room_for-room.ensures; can = c.requires.can; named = c.requires.named; parts = c.requires.parts }
    in let d : Ended (configuration_in c.args.settings.now) c.args.held.now c.args.queue c.args.lot c.args.sender c.in-Present.q c.in-Some.peer c.has_room_for-room.result
    c.in_ok-sent.sent (holding c.turn_held.new.held) c.empty-marks.result c.turn_held.new.marks c.turn_held.new.out.items c.of-to.result c.as_slice.result.now
    = record { takes = t; suffices = c.requires.suffices; fits = c.requires.fits; none = c.empty-marks.ensures; is-ms = c.as_slice.ensures; outlets = c.of-to.ensures; turn = c.in_ok-sent.ensures.turned }
    in ended-spare d

pub returns : goal.returns
returns c =
    let t : Takes (configuration_in c.args.settings.now) c.args.held.now c.args.queue c.args.lot c.args.sender c.in-Present.q c.in-Some.peer c.has_room_for-room.result
    = record { has = sym c.has_queue.ensures.value ∙ c.if-not-has_queue.false; there = sym c.queue.ensures ∙ ap slot_of c.in-Present.is; peer = sym c.peer_of.ensures ∙ c.in-Some.is; is-room = c.has_room_for-room.ensures; can = c.requires.can; named = c.requires.named; parts = c.requires.parts }
    in let d : Ended (configuration_in c.args.settings.now) c.args.held.now c.args.queue c.args.lot c.args.sender c.in-Present.q c.in-Some.peer c.has_room_for-room.result
    c.in_ok-sent.sent (holding c.turn_held.new.held) c.empty-marks.result c.turn_held.new.marks c.turn_held.new.out.items c.of-to.result c.as_slice.result.now
    = record { takes = t; suffices = c.requires.suffices; fits = c.requires.fits; none = c.empty-marks.ensures; is-ms = c.as_slice.ensures; outlets = c.of-to.ensures; turn = c.in_ok-sent.ensures.turned }
    in record {
      act = ended-acts d (holding c.put_done.new.held) c.put_done.ensures (holding c.leave.new.held) c.leave.new.marks
          (c.leave.ensures.held c.in-Present.q (sym c.own_of.ensures)) (c.leave.ensures.marks c.in-Present.q (sym c.own_of.ensures));
    }

pub returns-in_err-sent : goal.returns-in_err-sent
returns-in_err-sent c =
    let t : Takes (configuration_in c.args.settings.now) c.args.held.now c.args.queue c.args.lot c.args.sender c.in-Present.q c.in-Some.peer c.has_room_for-room.result
    = record { has = sym c.has_queue.ensures.value ∙ c.if-not-has_queue.false; there = sym c.queue.ensures ∙ ap slot_of c.in-Present.is; peer = sym c.peer_of.ensures ∙ c.in-Some.is; is-room = c.has_room_for-room.ensures; can = c.requires.can; named = c.requires.named; parts = c.requires.parts }
    in let p = err_from_is_err_and c.from_residual.result c.from_residual.ensures.1
    in record {
      act = rw (p.1, p.2) (takes-unready t (holding c.turn_held.new.held) c.empty-marks.result c.turn_held.new.marks c.turn_held.new.out.items c.in_err-sent.field-0.0 c.in_err-sent.ensures.turned);
    }

pub leave-requires-clause-fits : goal.leave-requires-clause-fits
leave-requires-clause-fits c = λ request is.
    omega (arith, c.in_ok-sent.ensures.size c.in-Present.q (sym c.queue.ensures ∙ ap slot_of c.in-Present.is), c.most.ensures c.has_room_for-room.result, c.in-Ok.ensures.capacity)
