use Rattle.std.proofs.Common.{rules, arith, ◌∙◌, ℕ, List, ap, length, subst}
use Rattle.ca_model.specs.machine.Requester.{spelt_packet}
use Rattle.ca_qp_rows.specs.Asks.{touched_by}
use Rattle.ca_qp_rows.specs.Made.{IsSpelt}
use Rattle.ca_qp_rows.specs.Reading.{AreRead}
use Rattle.ca_requester_sends.proofs.PacketLemmas.{few_spelt}
use Rattle.ca_requester_sends.proofs.TurnLemmas.{marks_read, payload-read, reads-joined}
use Rattle.ca_requester_sends.proofs.sending.read_then_spell.Goals as goal

pub spell-requires-clause-payload : goal.spell-requires-clause-payload
spell-requires-clause-payload g c =
    let read : AreRead (g.R.Reach.sight c.args.reach.now) c.args.asks.now c.args.marks.now c.read_granted.new.marks = search rules in
    omega (
      arith,
      read.count,
      c.requires.asks.touched,
      ap length (payload-read (g.R.Reach.sight c.args.reach.now) c.args.asks.now c.args.marks.now.marks c.read_granted.new.marks.marks
          (length c.as_slice-count.result.now) c.in_ok-payload.payload.now (search rules) read.marks (search rules)),
    )

pub returns-clause-spelt : goal.returns-clause-spelt
returns-clause-spelt g c =
    let read : AreRead (g.R.Reach.sight c.args.reach.now) c.args.asks.now c.args.marks.now c.read_granted.new.marks = search rules in
    let P : List ℕ → Type 0 = λ bytes. IsSpelt (spelt_packet c.args.q.now c.args.n.now bytes) c.args.out.now.items c.spell.new.out.items in
    record {
      granted = read.granted;
      marks = rw (marks_read (g.R.Reach.sight c.args.reach.now) c.args.asks.now) read.marks;
      room = omega (arith, read.room, c.requires.spare);
      out = subst P (payload-read (g.R.Reach.sight c.args.reach.now) c.args.asks.now c.args.marks.now.marks c.read_granted.new.marks.marks
          (length c.as_slice-count.result.now) c.in_ok-payload.payload.now (search rules) read.marks (search rules)
          ∙ reads-joined (g.R.Reach.sight c.args.reach.now) c.args.asks.now) c.in_ok-spell.ensures.spelt;
    }

pub returns-clause-size : goal.returns-clause-size
returns-clause-size g c =
    let read : AreRead (g.R.Reach.sight c.args.reach.now) c.args.asks.now c.args.marks.now c.read_granted.new.marks = search rules in
    few_spelt _ _ (length c.in_ok-payload.payload.now) (touched_by c.args.asks.now)
    (omega (
      arith,
      read.count,
      ap length (payload-read (g.R.Reach.sight c.args.reach.now) c.args.asks.now c.args.marks.now.marks c.read_granted.new.marks.marks
          (length c.as_slice-count.result.now) c.in_ok-payload.payload.now (search rules) read.marks (search rules)),
    ))
    c.in_ok-spell.ensures.size
