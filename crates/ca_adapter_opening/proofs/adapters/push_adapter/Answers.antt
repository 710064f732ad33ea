use Rattle.std.proofs.Common.{ap, length, map}
use Rattle.std.specs.List.{range_with_len}
use Rattle.ca_base.specs.Configuration.{configuration_of}
use Rattle.ca_model.specs.declared.part_name.PartName.TheVariants as names
use Rattle.ca_adapter_opening.proofs.AddedLemmas.{adds-all, adds-as, adds-then, buffer-opens, vacant-opens}
use Rattle.ca_adapter_opening.proofs.ContentsLemmas.{limited_there}
use Rattle.ca_adapter_opening.proofs.adapters.push_adapter.Goals as goal

pub push_domains-requires : goal.push_domains-requires
push_domains-requires c = limited_there c.args.opening.now.config c.args.number c.args.adapter.now c.requires.there c.requires.limited

pub returns : goal.returns
returns c = adds-then _ _ _ _ _ _
    (adds-all _ _ (vacant-opens (configuration_of c.args.opening.now.config) c.args.opening.now.contents) _ _ _ c.in_ok-push_domains.ensures)
    (adds-as _ _ _ _ _ (ap (λ xs. map (names.Buffer c.args.number) (range_with_len 0 (length xs))) c.as_slice-sizes.ensures.value)
    (adds-all _ _ (buffer-opens (configuration_of c.args.opening.now.config) c.args.opening.now.contents c.contents_of-contents.result.now c.args.number
    (length c.args.adapter.now.buffers.items) c.contents_of-contents.ensures.value) _ _ _ c.in_ok-push_buffers.ensures))
