use Rattle.std.proofs.Common.{◌≡◌, ◌++◌, arith, ap, refl, sym, subst, ◌∙◌, List, None, false, append_assoc}
use Rattle.ca_keys.specs.declared.access.Ask.{Ask}
use Rattle.ca_base.specs.objects.QueuePair.{QueuePair}
use Rattle.ca_wire.specs.Packet.{Fields}
use Rattle.ca_model.specs.declared.mark.Mark.{Mark}
use Rattle.ca_model.specs.machine.Arrivals.{with_flag}
use Rattle.ca_model.specs.machine.Expected.{after_send_packet}
use Rattle.ca_responder_answers.specs.ca_qp_rows.Made.{written_all}
use Rattle.ca_model.specs.machine.Responses.{local_writes, writes_by}
use Rattle.ca_model.specs.machine.Row.{Effects}
use Rattle.ca_responder_answers.specs.Numbers.{CanPass, without_ack_request, without_taken_receive}
use Rattle.ca_responder_operations.specs.Sends.{IsFitting, outcome_of_send, receiving}
use Rattle.ca_responder_operations.proofs.OutcomeLemmas.{taken-as}
use Rattle.ca_responder_answers.proofs.of_ca_qp_rows.WriteLemmas.{marks-count}
use Rattle.ca_responder_operations.proofs.SendLemmas.{acknowledged-send, placed, sent}
use Rattle.ca_responder_operations.proofs.send.place_send.Goals as goal

pub end_send-requires-clause-numbers : goal.end_send-requires-clause-numbers
end_send-requires-clause-numbers g c =
    subst (λ (x : QueuePair). CanPass x) (sym c.in_default.ensures) (record { expected = c.requires.step.narrow.expected; msn = c.requires.step.queue.responder.msn })

pub end_send-requires-clause-fits : goal.end_send-requires-clause-fits
end_send-requires-clause-fits g c =
    subst (λ (x : QueuePair). IsFitting x c.args.s.now) (sym c.in_default.ensures) (record { most = c.requires.can.fitting.most; receive = c.requires.can.fitting.receive })

pub end_send-requires-clause-room : goal.end_send-requires-clause-room
end_send-requires-clause-room g c = omega (arith, c.in_ok-reserve.ensures.room, c.in_ok-push_writes.ensures.added.room, c.requires.can.few, marks-count c.args.judged.now.asks.now c.p.inside.payload.now)

pub push_writes-requires-clause-room : goal.push_writes-requires-clause-room
push_writes-requires-clause-room g c = omega (arith, c.in_ok-reserve.ensures.room, c.requires.can.few)

pub returns : goal.returns
unfolding outcome_of_send
returns g c =
    let q = c.args.q.now in
    let s = c.args.s.now in
    let p = s.packet.now in
    let r = receiving s in
    let ws = writes_by c.args.judged.now.asks.now p.payload in
    let added : c.push_writes.new.marks.marks ≡ c.reserve.new.self.marks ++ local_writes ws =
    c.in_ok-push_writes.ensures.added.marks ∙ ap (λ (f : Fields). c.reserve.new.self.marks ++ local_writes (writes_by c.args.judged.now.asks.now f.payload)) c.p.view_is in
    let wrote : c.write_judged.new.reach ≡ written_all g.R.Reach.written c.args.reach.now ws =
    c.write_judged.ensures.wrote ∙ ap (λ (f : Fields). written_all g.R.Reach.written c.args.reach.now (writes_by c.args.judged.now.asks.now f.payload)) c.p.view_is in
    let effects : Effects = after_send_packet (without_taken_receive r.taken (with_flag false q)) p s.position r in
    let same : after_send_packet (without_taken_receive r.taken (with_flag false c.queue_ack.new.q)) (without_ack_request p) s.position r ≡ effects =
    ap (λ (x : QueuePair). after_send_packet (without_taken_receive r.taken (with_flag false x)) (without_ack_request p) s.position r) c.in_default.ensures
    ∙ acknowledged-send r.taken q p s.position r in
    record {
      taken = taken-as g.R.Reach.written g.R.Reach.revoked _ (placed q r ws effects) None c.end_send.new.q c.args.marks.now c.end_send.new.marks
          c.args.reach.now c.write_judged.new.reach c.taken_shared-shared.result
          (sent (g.R.Reach.sight c.args.reach.now) q p s.position r ws r.taken c.requires.can.fits refl c.requires.can.none (ap (λ (xs : List Ask). writes_by xs p.payload) c.requires.can.asks_are) c.requires.no_key)
          c.taken_shared-shared.ensures
          (c.end_send.ensures.queue ∙ ap (λ (x : Effects). x.queue) same)
          (c.end_send.ensures.marks ∙ ap (λ (x : Effects). c.push_writes.new.marks.marks ++ x.marks) same
          ∙ ap (λ (ms : List Mark). ms ++ effects.marks) (added ∙ ap (λ (ms : List Mark). ms ++ local_writes ws) c.reserve.ensures.same)
          ∙ append_assoc c.args.marks.now.marks (local_writes ws) effects.marks)
          c.end_send.ensures.room wrote;
    }
