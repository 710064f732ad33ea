use Rattle.std.proofs.Common.{◌-◌, ◌∙◌, arith}
use Rattle.ca_region.proofs.Ranges.{cut-of-pages}
use Rattle.ca_region.proofs.mapping.Mapping.span.Goals as goal

pub returns-in-PageList-clause-places : goal.returns-in-PageList-clause-places
returns-in-PageList-clause-places c =
    let m = c.args.self.now in
    let list = c.in-PageList in
    c.page_span.ensures.places
    ∙ cut-of-pages m.places list.allocated list.buffer list.pages c.as_slice.result.now m.slot.domain.adapter m.address m.bytes (c.args.address - m.address) c.args.touch c.in_pages.result list.is c.as_slice.ensures c.in_pages.ensures (omega arith)
