use Rattle.std.proofs.Common.{◌+◌, arith, slice_range}
use Rattle.ca_isolation.proofs.RunLemmas.{put-bytes-more, range-taken}
use Rattle.ca_isolation.proofs.stores.Stores.put_bytes.Goals as goal
use Rattle.ca_isolation.specs.Cover.{covers}
use Rattle.ca_isolation.specs.Extents.{place_of}

pub loop-done-preserved : goal.loop-done-preserved
loop-done-preserved c = (
  omega (arith, c.count_of-count.ensures),
  put-bytes-more (covers c.args.cover.now) (place_of c.args.at) c.args.bytes.now (slice_range c.args.bytes.now c.loop-done.done (c.loop-done.done + c.count_of-count.result)) c.loop-done.done c.count_of-count.result
      c.args.self.now c.loop-done.self c.put_extent.new.self
      (range-taken c.args.bytes.now c.loop-done.done c.count_of-count.result (omega (arith, c.count_of-count.ensures)))
      c.loop-done.invariant.1
      (c.in_ok-put_extent.ensures (covers c.args.cover.now) c.extent_at-extent.ensures),
)
