use Rattle.std.proofs.Common.{subst, arith}
use Rattle.ca_region.specs.declared.places.Places.{Places}
use Rattle.ca_region.specs.Places.{HoldBytes}
use Rattle.ca_region.proofs.Ranges.{buffer-of-pages, no-buffer}
use Rattle.ca_region.proofs.mapping.Mapping.buffer.Goals as goal

pub returns-then-self-eq0 : goal.returns-then-self-eq0
returns-then-self-eq0 c =
    let m = c.args.self.now in
    let list = c.in-PageList in
    no-buffer m.places list.allocated list.buffer list.pages m.slot.domain.adapter m.address m.bytes list.is c.if-self-eq0.true

pub returns-else-self-eq0 : goal.returns-else-self-eq0
returns-else-self-eq0 c =
    let m = c.args.self.now in
    let list = c.in-PageList in
    let held = subst (λ (p : Places). HoldBytes m.address m.bytes p) list.is m.held in
    buffer-of-pages m.places list.allocated list.buffer list.pages m.slot.domain.adapter m.address m.bytes list.is (omega (arith, c.if-self-eq0.false)) held
