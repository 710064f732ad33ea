use Rattle.std.proofs.Common.{◌∙◌, ap, arith, length, refl, sym, Some}
use Rattle.std.proofs.lemmas.Option.{slice_get-get_or}
use Rattle.ca_model.specs.declared.part_name.PartName.TheVariants as names
use Rattle.ca_adapter_opening.specs.Added.{IsBufferOf}
use Rattle.ca_adapter_opening.proofs.AddedLemmas.{adds-next}
use Rattle.ca_adapter_opening.proofs.ContentsLemmas.{length-map}
use Rattle.ca_adapter_opening.proofs.buffers.push_buffers.Goals as goal

pub loop-index-preserved : goal.loop-index-preserved
loop-index-preserved c = adds-next (IsBufferOf c.args.number c.args.contents.now) (names.Buffer c.args.number) c.loop-index.index _
    c.args.row.now.items c.loop-index.row.items c.push.new.self.items c.loop-index.invariant (
      refl,
      slice_get-get_or c.args.contents.now c.loop-index.index c.index-contents-index.result
          (omega (arith, c.loop-index-test.true, ap length c.requires.fit, length-map length c.args.contents.now))
          ∙ ap Some (sym (c.in_ok-buffer.ensures ∙ c.as_slice.ensures ∙ c.index-contents-index.is)),
    ) c.in_ok-push.ensures.items
