use Rattle.std.proofs.Common.{◌≡◌, ◌∙◌, ap, length, replicate, rules}
use Rattle.ca_base.specs.Configuration.{configuration_of}
use Rattle.ca_adapter_store.specs.ca_adapter_opening.Opening.{opening_bytes}
use Rattle.ca_script.specs.Script.{script_value}
use Rattle.ca_script_run.proofs.OpenLemmas.{at_opening}
use Rattle.ca_script_run.proofs.work.open.Goals as goal

pub returns-clause-progress : goal.returns-clause-progress
returns-clause-progress c =
    let e : c.in_ok-vec.field-0.items ≡ replicate (length c.as_slice.result.now) 0 = search rules in
    at_opening (script_value c.args.script) (record { row = c.in_ok-row.row; done = c.in_ok-vec.field-0; history = c.empty.result })
    (opening_bytes (configuration_of c.args.script.config) c.in_ok-contents.contents) c.in_ok-row.ensures.world c.in_ok-contents.ensures.zeros c.in_ok-row.ensures.count
    c.empty.ensures (e ∙ ap (λ xs. replicate (length xs) 0) c.as_slice.ensures)
