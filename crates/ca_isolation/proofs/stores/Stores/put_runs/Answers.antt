use Rattle.std.proofs.Common.{◌+◌, ◌-◌, arith, drop, length, slice_range, subst}
use Rattle.ca_isolation.specs.Alone.{cells_from, cells_of}
use Rattle.ca_keys.specs.Memory.{cut}
use Rattle.ca_isolation.proofs.CoverLemmas.{run-there, run_at}
use Rattle.ca_isolation.proofs.RunLemmas.{left-as, left-past, left-put, range-taken}
use Rattle.ca_isolation.proofs.stores.Stores.put_runs.Goals as goal
use Rattle.ca_isolation.proofs.stores.Stores.put_runs.Goals.{then-length-skip, else-length-skip+in_ok-put_bytes}
use Rattle.ca_isolation.specs.Cover.{covers}
use Rattle.ca_isolation.specs.Putting.{HasPut}

pub loop-run-preserved : goal.loop-run-preserved
loop-run-preserved c =
    let cover = covers c.args.cover.now in
    let all = cells_of (cut c.args.before (length c.args.bytes.now) c.args.runs.now) c.args.bytes.now in
    let r = run_at c.args.runs.now c.loop-run.run-index in
    elim c.if-length-skip.branch [
      | then-length-skip w ↦ left-as cover all c.args.self.now c.loop-run.self c.if-length-skip.self (c.loop-run.skip - r.length) c.if-length-skip.skip c.loop-run.done c.if-length-skip.done
          (drop (c.loop-run.run-index + 1) c.args.runs.now) c.args.bytes.now w.self-is (omega (arith, w.skip-is, c.from-length.ensures)) w.done-is
          (left-past cover all c.args.self.now c.loop-run.self c.loop-run.skip c.loop-run.done c.args.runs.now c.loop-run.run-index r c.args.bytes.now
          c.loop-run-test.true (run-there c.args.runs.now c.loop-run.run-index c.loop-run-test.true) (omega (arith, c.from-length.ensures, w.if-length-skip.true)) c.loop-run.invariant)
      | else-length-skip+in_ok-put_bytes w ↦ left-as cover all c.args.self.now w.put_bytes.new.self c.if-length-skip.self 0 c.if-length-skip.skip (c.loop-run.done + w.min-count.result) c.if-length-skip.done
          (drop (c.loop-run.run-index + 1) c.args.runs.now) c.args.bytes.now w.self-is w.skip-is w.done-is
          (left-put cover all c.args.self.now c.loop-run.self w.put_bytes.new.self c.loop-run.skip c.loop-run.done w.min-count.result c.args.runs.now c.loop-run.run-index r c.args.bytes.now
          (slice_range c.args.bytes.now c.loop-run.done (c.loop-run.done + w.min-count.result))
          c.loop-run-test.true (run-there c.args.runs.now c.loop-run.run-index c.loop-run-test.true) (omega (arith, c.from-length.ensures, w.if-length-skip.false))
          (omega (arith, w.min-count.ensures, c.from-length.ensures))
          (range-taken c.args.bytes.now c.loop-run.done w.min-count.result (omega (arith, w.min-count.ensures, c.loop-run.invariant.within)))
          (subst (λ o. HasPut cover (cells_from (record { adapter = r.adapter; buffer = r.buffer; offset = o + c.loop-run.skip })
          (length (slice_range c.args.bytes.now c.loop-run.done (c.loop-run.done + w.min-count.result))) (slice_range c.args.bytes.now c.loop-run.done (c.loop-run.done + w.min-count.result)))
          c.loop-run.self w.put_bytes.new.self) w.from.ensures w.in_ok-put_bytes.ensures)
          c.loop-run.invariant)
    ]
