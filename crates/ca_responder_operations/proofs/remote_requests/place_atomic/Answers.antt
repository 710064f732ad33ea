use Rattle.std.proofs.Common.{◌≡◌, ◌++◌, ◌∷◌, [], arith, false}
use Rattle.std.proofs.lemmas.Grind.{common_steps}
use Rattle.ca_keys.specs.Memory.{little_endian}
use Rattle.ca_base.specs.declared.queue_numbers.Queued.TheVariants.{Atomic}
use Rattle.ca_base.specs.Sight.{bytes_in}
use Rattle.ca_keys.specs.declared.verdict.Verdict.TheVariants.{Swapped}
use Rattle.ca_model.specs.machine.Arrivals.{remote_mark}
use Rattle.ca_responder_answers.proofs.EndLemmas.{end-set}
use Rattle.ca_responder_operations.proofs.AtomicLemmas.{after_atomic, atomic-placed}
use Rattle.ca_responder_operations.specs.Atomics.{number_left}
use Rattle.ca_responder_operations.proofs.remote_requests.place_atomic.Goals as goal

pub returns : goal.returns
returns g c =
    let found = little_endian (bytes_in (g.R.Reach.sight c.args.reach.now) c.args.access.now.ask) in
    let set = end-set c.args.q.now.responder.answers (Atomic c.args.q.now.responder.expected 0 false) (Atomic c.args.q.now.responder.expected found false) in
    let queue : c.pass.new.q ≡ after_atomic found c.args.q.now = grind (arith, common_steps) in
    let marks : c.push-2.new.self.marks ≡ c.args.marks.now.marks ++ remote_mark c.args.access.now.ask c.args.request.now.envelope (Swapped found (number_left c.args.access.now.ask.kind c.args.access.now.operands found)) ∷ [] = grind (arith, common_steps) in
    record {
      taken = atomic-placed g.R.Reach.written g.R.Reach.revoked (g.R.Reach.sight c.args.reach.now) c.args.q.now c.pass.new.q c.args.request.now.packet.now
          c.args.request.now.envelope c.args.access.now.ask.kind c.args.access.now.operands c.args.access.now.ask c.args.marks.now c.push-2.new.self c.args.reach.now c.act-verdict.new.reach
          c.requires.ask c.requires.atomic.allowed (record { queue = queue; marks = marks; room = omega (arith, c.in_ok-reserve.ensures.room, c.push-2.ensures.room) }) c.act-verdict.ensures.wrote;
    }
