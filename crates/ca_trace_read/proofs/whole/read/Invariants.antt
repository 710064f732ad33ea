use Rattle.std.proofs.Common.{length}
use Rattle.ca_trace_read.specs.Reader.{HasRead}
use Rattle.ca_trace_read.proofs.whole.read.Given as goal

abbrev pub invariant-lines : goal.invariant-lines
invariant-lines l = HasRead l.bytes l.rest l.reader l.history

abbrev pub decreases-lines : goal.decreases-lines
decreases-lines l = length l.rest
