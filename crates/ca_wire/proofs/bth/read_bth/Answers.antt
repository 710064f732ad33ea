use Rattle.std.proofs.Common.{arith}
use Rattle.ca_wire.proofs.DecoderLaws.{is_front, is_only_front, is_refused_front, is_taken_front}
use Rattle.ca_wire.proofs.bth.read_bth.Goals as goal

pub returns-clause-found : goal.returns-clause-found
returns-clause-found c = is_front c.front_of.result c.args.bytes.now (λ i. omega (arith, c.type_inv.bytes i)) c.front_of.ensures

pub returns-clause-only : goal.returns-clause-only
returns-clause-only c = λ b s. is_only_front c.front_of.result c.args.bytes.now b c.front_of.ensures s

pub returns-clause-refused : goal.returns-clause-refused
returns-clause-refused c = is_refused_front c.front_of.result c.args.bytes.now (λ i. omega (arith, c.type_inv.bytes i)) c.front_of.ensures

pub returns-clause-taken : goal.returns-clause-taken
returns-clause-taken c = is_taken_front c.front_of.result c.args.bytes.now (λ i. omega (arith, c.type_inv.bytes i)) c.front_of.ensures
