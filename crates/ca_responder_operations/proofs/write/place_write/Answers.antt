use Rattle.std.proofs.Common.{◌≡◌, ◌++◌, ◌∷◌, [], arith}
use Rattle.std.proofs.lemmas.Grind.{common_steps}
use Rattle.ca_keys.specs.declared.verdict.Verdict.TheVariants.{Wrote}
use Rattle.ca_model.specs.machine.Arrivals.{remote_mark}
use Rattle.ca_responder_operations.proofs.WriteLemmas.{write-placed}
use Rattle.ca_responder_operations.proofs.write.place_write.Goals as goal

pub returns : goal.returns
returns g c =
    let mark : c.push.new.self.marks ≡ c.args.marks.now.marks ++ remote_mark c.args.judged.now.ask c.args.w.now.envelope (Wrote c.args.w.now.packet.now.payload) ∷ [] = grind (arith, common_steps) in
    record {
      taken = write-placed g.R.Reach.written g.R.Reach.revoked (g.R.Reach.sight c.args.reach.now) c.args.q.now c.queue_ack.new.q c.end_write.new.q c.args.w.now.packet.now
          c.args.w.now.envelope c.args.w.now.position c.args.w.now.target c.args.next.now c.args.judged.now.ask c.args.marks.now c.push.new.self c.end_write.new.marks
          c.args.reach.now c.write_bytes.new.reach c.end_write.result c.requires.ask c.requires.allowed.none c.in_ok-queue_ack.ensures mark
          c.end_write.ensures.made c.end_write.ensures.shared (grind (arith, common_steps));
    }
