use Rattle.std.proofs.Common.{◌+◌, arith}
use Rattle.ca_script_run.proofs.KnownLemmas.{comes_nowhere, comes_on}
use Rattle.ca_script_run.proofs.known.Known.end_from.Goals as goal

pub loop-init : goal.loop-init
loop-init c = comes_nowhere c.args.place c.args.self.now

pub loop-preserved : goal.loop-preserved
loop-preserved c = comes_on c.args.place c.loop.upto c.known_at-more.result (c.loop.upto + c.known_at-more.result) c.args.self.now c.loop.self c.note_block.new.self
    c.loop.invariant c.known_at-more.ensures.known (omega arith) (omega arith) c.note_block.ensures.starts c.note_block.ensures.known

pub returns-then-more-eq0 : goal.returns-then-more-eq0
returns-then-more-eq0 c = c.loop.invariant

pub returns : goal.returns
returns c = c.loop.invariant
