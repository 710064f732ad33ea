use Rattle.hex.specs.Hex.{lower_digits}
use Rattle.ca_trace_print.proofs.HexLemmas.{behind_front}
use Rattle.ca_trace_print.proofs.text.Text.put_digits.Goals as goal

pub loop-chunk-preserved : goal.loop-chunk-preserved
loop-chunk-preserved c =
    let l = c.loop-chunk in
    let front = c.in-Some.ensures.cases in
    rw (c.in_ok-put_bytes.ensures.ok, c.digits_of.ensures)
    (behind_front lower_digits l.rest.now c.in-Some.chunk.now c.in-Some.others.now l.self _ 16 front.0 front.1 l.invariant)
