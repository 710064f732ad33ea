use Rattle.std.proofs.Common.{◌∙◌, [], Some, ap, arith, get_or, length, sym}
use Rattle.std.proofs.lemmas.Option.{slice_get-get_or}
use Rattle.ca_base.specs.Configuration.{adapter_of, configuration_of}
use Rattle.ca_adapter_opening.specs.Opening.{IsOpeningPart}
use Rattle.ca_adapter_opening.proofs.AddedLemmas.{adds-adapter, whole}
use Rattle.ca_adapter_opening.proofs.ContentsLemmas.{get-map, length-map}
use Rattle.ca_adapter_opening.proofs.RowLemmas.{count-there, each-there}
use Rattle.ca_adapter_opening.proofs.row.parts.Goals as goal

pub loop-number-preserved : goal.loop-number-preserved
loop-number-preserved c = adds-adapter (IsOpeningPart (configuration_of c.args.opening.now.config) c.args.opening.now.contents) c.loop-number.number
    (configuration_of c.args.opening.now.config).adapters (adapter_of c.adapter-item.result) [] c.loop-number.row.items c.push_adapter.new.row.items
    (get-map adapter_of c.loop-number.number c.args.opening.now.config.adapters.items c.adapter-item.result
    (slice_get-get_or c.args.opening.now.config.adapters.items c.loop-number.number c.adapter-item.result
    (omega (arith, c.loop-number-test.true, ap length c.as_slice-adapter-items.ensures.value)) ∙ ap Some (ap (λ xs. get_or xs c.loop-number.number c.adapter-item.result) (sym c.as_slice-adapter-items.ensures.value) ∙ sym c.adapter-item.is)))
    c.loop-number.invariant c.in_ok-push_adapter.ensures

pub returns-clause-all : goal.returns-clause-all
returns-clause-all c = whole (IsOpeningPart (configuration_of c.args.opening.now.config) c.args.opening.now.contents) (configuration_of c.args.opening.now.config) c.loop-number.number
    c.loop-number.row.items (omega (arith, length-map adapter_of c.args.opening.now.config.adapters.items, c.loop-number-test.false, ap length c.as_slice-adapter-items.ensures.value))
    c.loop-number.invariant

pub returns-clause-count : goal.returns-clause-count
returns-clause-count c = count-there (configuration_of c.args.opening.now.config) (IsOpeningPart (configuration_of c.args.opening.now.config) c.args.opening.now.contents)
    c.loop-number.row.items (returns-clause-all c)

pub returns-clause-each : goal.returns-clause-each
returns-clause-each c = λ name n at. each-there (configuration_of c.args.opening.now.config)
    (IsOpeningPart (configuration_of c.args.opening.now.config) c.args.opening.now.contents) c.loop-number.row.items name n c.requires.limited (returns-clause-all c) at
