use Rattle.std.proofs.Common.{◌∙◌, ap, arith}
use Rattle.ca_keys.specs.Memory.{places_count}
use Rattle.ca_region.proofs.PageRuns.{range-count, span-in-one, span-in-two}
use Rattle.ca_region.proofs.pages.page_span.Goals as goal

pub returns-then-rest-eq0-clause-places : goal.returns-then-rest-eq0-clause-places
returns-then-rest-eq0-clause-places c =
    span-in-one c.args.adapter c.args.buffer c.args.pages.now c.args.begin c.args.touch
    c.page_of-index.result.0 c.page_of-index.result.1 c.page_part-first.result
    c.requires.some c.requires.held c.page_of-index.ensures.index c.page_of-index.ensures.skip
    c.page_part-first.ensures c.if-rest-eq0.true

pub returns-else-rest-eq0-clause-places : goal.returns-else-rest-eq0-clause-places
returns-else-rest-eq0-clause-places c =
    span-in-two c.args.adapter c.args.buffer c.args.pages.now c.args.begin c.args.touch
    c.page_of-index.result.0 c.page_of-index.result.1 c.page_part-first.result c.page_part.result
    c.requires.few c.requires.held c.page_of-index.ensures.index c.page_of-index.ensures.skip
    c.page_part-first.ensures (omega arith) c.page_part.ensures

pub returns-then-rest-eq0-clause-count : goal.returns-then-rest-eq0-clause-count
returns-then-rest-eq0-clause-count c =
    ap places_count (returns-then-rest-eq0-clause-places c) ∙ range-count c.args.adapter c.args.buffer c.args.pages.now c.args.begin c.args.touch c.requires.held

pub returns-else-rest-eq0-clause-count : goal.returns-else-rest-eq0-clause-count
returns-else-rest-eq0-clause-count c =
    ap places_count (returns-else-rest-eq0-clause-places c) ∙ range-count c.args.adapter c.args.buffer c.args.pages.now c.args.begin c.args.touch c.requires.held
