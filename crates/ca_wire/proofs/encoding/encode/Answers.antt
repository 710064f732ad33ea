use Rattle.std.proofs.Common.{arith}
use Rattle.ca_wire.specs.Packet.{IsWellFormed}
use Rattle.ca_wire.specs.PacketView.{packet_seen}
use Rattle.ca_wire.proofs.WritingLaws.{spelling_is}
use Rattle.ca_wire.proofs.encoding.encode.Goals as goal

pub put_reth-requires : goal.put_reth-requires
put_reth-requires c = let sizes = rw (← c.p.view_is) at c.size_of_headers.ensures in omega (arith, c.in_ok-reserve.ensures.ok)

pub put_atomic-requires : goal.put_atomic-requires
put_atomic-requires c = let sizes = rw (← c.p.view_is) at c.size_of_headers.ensures in omega (arith, c.in_ok-reserve.ensures.ok)

pub put_aeth-requires-clause-room : goal.put_aeth-requires-clause-room
put_aeth-requires-clause-room c = let sizes = rw (← c.p.view_is) at c.size_of_headers.ensures in omega (arith, c.in_ok-reserve.ensures.ok)

pub put_u64_if-requires : goal.put_u64_if-requires
put_u64_if-requires c = let sizes = rw (← c.p.view_is) at c.size_of_headers.ensures in omega (arith, c.in_ok-reserve.ensures.ok)

pub put_u32_if-requires : goal.put_u32_if-requires
put_u32_if-requires c = let sizes = rw (← c.p.view_is) at c.size_of_headers.ensures in omega (arith, c.in_ok-reserve.ensures.ok)

pub put_u32_if-requires-2 : goal.put_u32_if-requires-2
put_u32_if-requires-2 c = let sizes = rw (← c.p.view_is) at c.size_of_headers.ensures in omega (arith, c.in_ok-reserve.ensures.ok)

pub put-requires : goal.put-requires
put-requires c =
    let sizes = rw (← c.p.view_is) at c.size_of_headers.ensures in
    let queue = rw (← c.p.view_is) at c.requires.queue in
    let psn = rw (← c.p.view_is) at c.requires.psn in
    omega (arith, c.in_ok-reserve.ensures.ok)

pub put_pad-requires-clause-room : goal.put_pad-requires-clause-room
put_pad-requires-clause-room c = let sizes = rw (← c.p.view_is) at c.size_of_headers.ensures in omega (arith, c.in_ok-reserve.ensures.ok)

pub returns-clause-ok : goal.returns-clause-ok
returns-clause-ok c =
    let good : IsWellFormed (packet_seen c.p.inside) = rw c.p.view_is c.requires in
    let whole = spelling_is (packet_seen c.p.inside) c.args.out.now.items good in
    rw (← c.p.view_is) cc
