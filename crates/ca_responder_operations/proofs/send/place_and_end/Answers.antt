use Rattle.std.specs.List.{AllByRecursion}
use Rattle.ca_keys.specs.declared.access.Ask.{Ask}
use Rattle.ca_base.specs.Sight.{first_denied}
use Rattle.ca_base.specs.objects.Answers.{with_ack_at_end}
use Rattle.ca_wire.specs.Packet.{Fields}
use Rattle.ca_model.specs.machine.Invariants.{IsAnswer}
use Rattle.std.proofs.Common.{◌≡◌, [], ◌∷◌, ◌++◌, arith, ap, sym, subst, ◌∙◌, if◌then◌else◌, List, false, None, Some}
use Rattle.ca_base.specs.objects.QueuePair.{QueuePair}
use Rattle.ca_model.specs.declared.mark.Mark.{Mark}
use Rattle.ca_base.specs.declared.completion.WcStatus.TheVariants.{MemoryManagement}
use Rattle.ca_model.specs.machine.Arrivals.{has_shared, with_flag, with_message}
use Rattle.ca_model.specs.machine.Completions.{flush_marks, receive_failure}
use Rattle.ca_responder_answers.specs.Flush.{left_to_flush}
use Rattle.ca_responder_answers.specs.Numbers.{without_taken_receive}
use Rattle.ca_model.specs.machine.Expected.{receive_asks, send_row}
use Rattle.ca_responder_answers.specs.ca_qp_rows.Made.{written_all}
use Rattle.ca_model.specs.machine.Responses.{local_writes, writes_by}
use Rattle.ca_responder_answers.specs.ca_qpstate.Seen.{queue_seen}
use Rattle.ca_responder_operations.specs.Sends.{key_end, outcome_of_send, receiving}
use Rattle.ca_responder_operations.specs.Taking.{HasTaken, is_taken, outcome_in}
use Rattle.ca_responder_operations.proofs.EndLemmas.{ended-taken, refused-taken}
use Rattle.ca_responder_answers.proofs.of_ca_qp_rows.WriteLemmas.{marks-count}
use Rattle.ca_responder_operations.proofs.StandInLemmas.{are_until}
use Rattle.ca_responder_operations.proofs.send.place_and_end.Goals as goal

pub returns : goal.returns
unfolding outcome_of_send
returns g c =
    let q : QueuePair = queue_seen c.q.inside in
    let s = c.args.s.now in
    let p = s.packet.now in
    let r = receiving s in
    let ws = writes_by c.args.judged.now.asks.now p.payload in
    let added : c.push_writes.new.marks.marks ≡ c.reserve_for.new.marks.marks ++ local_writes ws =
    c.in_ok-push_writes.ensures.added.marks ∙ ap (λ (f : Fields). c.reserve_for.new.marks.marks ++ local_writes (writes_by c.args.judged.now.asks.now f.payload)) c.p.view_is in
    let wrote : c.write_judged.new.reach ≡ written_all g.R.Reach.written c.args.reach.now ws =
    c.write_judged.ensures.wrote ∙ ap (λ (f : Fields). written_all g.R.Reach.written c.args.reach.now (writes_by c.args.judged.now.asks.now f.payload)) c.p.view_is in
    let can = c.requires.can in
    let back : c.args.q.now ≡ q = sym c.q.view_is in
    record {
      taken = subst (λ (x : QueuePair). HasTaken g.R.Reach.written g.R.Reach.revoked c.taken_shared-shared.result
          (outcome_in (g.R.Reach.sight c.args.reach.now) (send_row (with_flag false x) p s.position r)).ending
          (outcome_in (g.R.Reach.sight c.args.reach.now) (send_row (with_flag false x) p s.position r)).ended
          c.end_send.new.q c.args.marks.now c.end_send.new.marks c.args.reach.now c.end_key.new.reach) c.q.view_is
          (ended-taken g.R.Reach.written g.R.Reach.revoked g.R.Reach.sight q (queue_seen c.q-2.inside) c.end_send.new.q c.queue_stand_in.new.answers c.replace_by_ack.new.answers
          p s.position r ws c.args.key c.taken_shared-shared.result c.args.marks.now c.push_writes.new.marks c.push-2.new.self c.end_send.new.marks
          c.args.reach.now c.write_judged.new.reach c.end_key.new.reach
          (record { fits = can.fits; none = subst (λ (x : QueuePair). first_denied (g.R.Reach.sight c.args.reach.now) (receive_asks x p r) ≡ None) back can.none; cut = subst (λ (x : QueuePair). ws ≡ writes_by (receive_asks x p r) p.payload) back (ap (λ (xs : List Ask). writes_by xs p.payload) can.asks_are); key_is = c.requires.key })
          (subst (λ (x : QueuePair). is_taken c.taken_shared-shared.result ≡ (if r.taken then has_shared x else false)) back c.taken_shared-shared.ensures)
          (c.q-2.view_is ∙ c.in_default-end_key.ensures.1.0)
          (c.replace_by_ack.ensures q.responder.answers (ap (λ (x : QueuePair). x.responder.answers) (c.q-2.view_is ∙ c.in_default-end_key.ensures.1.0) ∙ c.in_default.ensures)
          (are_until q.responder.mtu q.responder.expected q.responder.answers
          (subst (λ (x : QueuePair). AllByRecursion (IsAnswer x.responder.mtu x.responder.expected) x.responder.answers) back c.requires.step.queue.responder.answers))
          ∙ ap (λ (f : Fields). if f.ack then with_ack_at_end q.responder.expected q.responder.answers else q.responder.answers) c.p.view_is)
          (added ∙ ap (λ (ms : List Mark). ms ++ local_writes ws) c.reserve_for.ensures.same)
          c.push-2.ensures.marks
          c.end_send.ensures
          (sym (c.write_judged.ensures.keys.refusal (key_end q c.args.key)) ∙ c.in_default-end_key.ensures.0)
          wrote c.in_default-end_key.ensures.1.1);
    }

pub returns-in-Err-end_key : goal.returns-in-Err-end_key
unfolding outcome_of_send
returns-in-Err-end_key g c =
    let q : QueuePair = queue_seen c.q.inside in
    let s = c.args.s.now in
    let p = s.packet.now in
    let r = receiving s in
    let ws = writes_by c.args.judged.now.asks.now p.payload in
    let added : c.push_writes.new.marks.marks ≡ c.reserve_for.new.marks.marks ++ local_writes ws =
    c.in_ok-push_writes.ensures.added.marks ∙ ap (λ (f : Fields). c.reserve_for.new.marks.marks ++ local_writes (writes_by c.args.judged.now.asks.now f.payload)) c.p.view_is in
    let wrote : c.write_judged.new.reach ≡ written_all g.R.Reach.written c.args.reach.now ws =
    c.write_judged.ensures.wrote ∙ ap (λ (f : Fields). written_all g.R.Reach.written c.args.reach.now (writes_by c.args.judged.now.asks.now f.payload)) c.p.view_is in
    let can = c.requires.can in
    let back : c.args.q.now ≡ q = sym c.q.view_is in
    record {
      taken = subst (λ (x : QueuePair). HasTaken g.R.Reach.written g.R.Reach.revoked c.taken_shared-shared.result
          (outcome_in (g.R.Reach.sight c.args.reach.now) (send_row (with_flag false x) p s.position r)).ending
          (outcome_in (g.R.Reach.sight c.args.reach.now) (send_row (with_flag false x) p s.position r)).ended
          c.move_to_error.new.self c.args.marks.now c.append.new.self c.args.reach.now c.end_key.new.reach) c.q.view_is
          (refused-taken g.R.Reach.written g.R.Reach.revoked g.R.Reach.sight q (queue_seen c.q-in-Err-end_key.inside) c.move_to_error.new.self c.queue_stand_in.new.answers c.replace_by_nak.new.answers
          p s.position r ws c.args.key c.in-Err-end_key.cause c.taken_shared-shared.result c.args.marks.now c.push_writes.new.marks c.push.new.self c.append.new.self
          c.push_flush.new.made.items c.args.reach.now c.write_judged.new.reach c.end_key.new.reach
          (record { fits = can.fits; none = subst (λ (x : QueuePair). first_denied (g.R.Reach.sight c.args.reach.now) (receive_asks x p r) ≡ None) back can.none; cut = subst (λ (x : QueuePair). ws ≡ writes_by (receive_asks x p r) p.payload) back (ap (λ (xs : List Ask). writes_by xs p.payload) can.asks_are); key_is = c.requires.key })
          (subst (λ (x : QueuePair). is_taken c.taken_shared-shared.result ≡ (if r.taken then has_shared x else false)) back c.taken_shared-shared.ensures)
          (c.q-in-Err-end_key.view_is ∙ c.in-Err-end_key.ensures.1.0)
          (c.replace_by_nak.ensures q.responder.answers (ap (λ (x : QueuePair). x.responder.answers) (c.q-in-Err-end_key.view_is ∙ c.in-Err-end_key.ensures.1.0) ∙ c.in_default.ensures))
          c.move_to_error.ensures
          (added ∙ ap (λ (ms : List Mark). ms ++ local_writes ws) c.reserve_for.ensures.same)
          (c.push.ensures.marks ∙ ap (λ (m : Mark). c.push_writes.new.marks.marks ++ m ∷ [])
          (c.refused_receive.ensures ∙ ap (λ (x : QueuePair). receive_failure x.queue r.receive.place r.receive.receive MemoryManagement (Some c.in-Err-end_key.cause)) (sym c.q-in-Err-end_key.view_is)))
          (c.in_ok-push_flush.ensures ∙ ap (λ (ms : List Mark). ms ++ flush_marks (left_to_flush c.flushed_behind.result c.args.q.now)) c.new-flushed.ensures.items
          ∙ ap flush_marks (c.flushed_behind.ensures.left c.args.q.now) ∙ ap (λ (x : QueuePair). flush_marks (with_message None (without_taken_receive r.taken x))) back)
          c.append.ensures.marks
          (omega (arith, c.in_ok-reserve_for.ensures.room, c.in_ok-push_writes.ensures.added.room, c.requires.can.few, marks-count c.args.judged.now.asks.now c.p.inside.payload.now, c.push.ensures.room, c.append.ensures.room))
          (sym (c.write_judged.ensures.keys.refusal (key_end q c.args.key)) ∙ c.in-Err-end_key.ensures.0)
          wrote c.in-Err-end_key.ensures.1.1);
    }

pub push-requires : goal.push-requires
push-requires g c = omega (arith, c.in_ok-reserve_for.ensures.room, c.in_ok-push_writes.ensures.added.room, c.requires.can.few, marks-count c.args.judged.now.asks.now c.p.inside.payload.now)

pub append-requires : goal.append-requires
append-requires g c = omega (arith, c.in_ok-reserve_for.ensures.room, c.in_ok-push_writes.ensures.added.room, c.requires.can.few, marks-count c.args.judged.now.asks.now c.p.inside.payload.now, c.push.ensures.room)

pub push-requires-2 : goal.push-requires-2
push-requires-2 g c = omega (arith, c.in_ok-reserve_for.ensures.room, c.in_ok-push_writes.ensures.added.room, c.requires.can.few, marks-count c.args.judged.now.asks.now c.p.inside.payload.now)

pub end_send-requires-clause-room : goal.end_send-requires-clause-room
end_send-requires-clause-room g c = omega (arith, c.in_ok-reserve_for.ensures.room, c.in_ok-push_writes.ensures.added.room, c.requires.can.few, marks-count c.args.judged.now.asks.now c.p.inside.payload.now, c.push-2.ensures.room)
