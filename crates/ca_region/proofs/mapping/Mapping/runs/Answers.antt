use Rattle.std.proofs.Common.{◌≡◌, ◌-◌, List, IfOk, subst, arith}
use Rattle.ca_keys.specs.declared.place.Run.{Run}
use Rattle.ca_region.proofs.Ranges.{cut-of-pages}
use Rattle.ca_region.proofs.mapping.Mapping.runs.Goals as goal

pub returns-in-PageList-clause-places : goal.returns-in-PageList-clause-places
returns-in-PageList-clause-places c =
    let m = c.args.self.now in
    let list = c.in-PageList in
    subst (λ (xs : List Run). IfOk c.page_runs.result (λ runs. runs ≡ xs)) (
    cut-of-pages m.places list.allocated list.buffer list.pages c.as_slice.result.now m.slot.domain.adapter m.address m.bytes (c.args.address - m.address) c.args.count c.in_pages.result list.is c.as_slice.ensures c.in_pages.ensures (omega arith)) c.page_runs.ensures.places
