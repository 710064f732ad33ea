use Rattle.std.proofs.Common.{◌∙◌, ◌+◌, ap}
use Rattle.ca_verbs_taking.proofs.UnpackLemmas.{unpacked-on}
use Rattle.ca_verbs_taking.proofs.giving.unpack.Goals as goal

pub loop-name-preserved : goal.loop-name-preserved
loop-name-preserved c = record {
  parts = unpacked-on _ _ _ _ c.args.names.now c.loop-name.name-index _ _ _ _ c.loop-name.invariant.parts c.loop-name-test.true c.take_out.ensures c.push_reserved.ensures.items;
  count = c.push_reserved.ensures.len ∙ ap (λ n. n + 1) c.loop-name.invariant.count;
  room = c.push_reserved.ensures.capacity ∙ c.loop-name.invariant.room;
}
