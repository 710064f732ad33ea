use Rattle.std.proofs.Common.{rules}
use Rattle.ca_memory.proofs.Places.{read-places}
use Rattle.ca_memory.proofs.buffer.Buffer.read.Goals as goal

pub returns-clause-bytes : goal.returns-clause-bytes
returns-clause-bytes c = rw (read-places c.args.self.now c.args.at.now c.requires) (search rules)
