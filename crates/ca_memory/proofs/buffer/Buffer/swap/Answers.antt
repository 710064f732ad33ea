use Rattle.ca_base.specs.ca_keys.Memory.{little_endian_bytes}
use Rattle.ca_memory.specs.Number.{number_after}
use Rattle.ca_memory.proofs.Places.{write-places}
use Rattle.ca_memory.proofs.buffer.Buffer.swap.Goals as goal

pub returns-clause-places : goal.returns-clause-places
returns-clause-places c = λ at starts counts.
    let put = little_endian_bytes (number_after c.args.op c.number_in-found.result) in
    write-places c.args.self.now put c.put.new.self at c.args.offset starts counts c.requires
    (let bytes = c.to_le_bytes.ensures in let number = c.number_put.ensures in cc)
