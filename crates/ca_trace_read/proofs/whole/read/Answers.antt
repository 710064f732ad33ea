use Rattle.std.proofs.Common.{sym, ◌∙◌}
use Rattle.ca_trace_read.proofs.TextLemmas.{text_is_one}
use Rattle.ca_trace_read.proofs.ReadLemmas.{read_more, cause_right, end_right, not_read, read_whole}
use Rattle.ca_trace_read.proofs.whole.read.Goals as goal

pub returns-in-Err-clause-refused : goal.returns-in-Err-clause-refused
returns-in-Err-clause-refused c =
    cause_right c.args.bytes.now c.lines.rest.now c.in-Some.line.now c.in-Some.more.now c.lines.reader c.lines.history c.in-Err.error c.lines.invariant c.in-Some.ensures.0 c.in-Some.ensures.1 c.in-Err.ensures.cause

pub returns-in-Err-clause-only : goal.returns-in-Err-clause-only
returns-in-Err-clause-only c =
    not_read c.args.bytes.now c.in-Err.error
    (cause_right c.args.bytes.now c.lines.rest.now c.in-Some.line.now c.in-Some.more.now c.lines.reader c.lines.history c.in-Err.error c.lines.invariant c.in-Some.ensures.0 c.in-Some.ensures.1 c.in-Err.ensures.cause)

pub lines-preserved : goal.lines-preserved
lines-preserved c =
    read_more c.args.bytes.now c.lines.rest.now c.in-Some.line.now c.in-Some.more.now c.lines.reader c.take_line.new.reader c.lines.history c.take_line.new.history c.lines.invariant c.in-Some.ensures.0 c.in_default.ensures.taken

pub returns-in-Err-end_of_text-clause-refused : goal.returns-in-Err-end_of_text-clause-refused
returns-in-Err-end_of_text-clause-refused c =
    end_right c.args.bytes.now c.lines.rest.now c.lines.reader c.lines.history c.in-Err-end_of_text.error c.lines.invariant c.in-None.ensures c.in-Err-end_of_text.ensures.refused c.in-Err-end_of_text.ensures.going

pub returns-in-Err-end_of_text-clause-only : goal.returns-in-Err-end_of_text-clause-only
returns-in-Err-end_of_text-clause-only c =
    not_read c.args.bytes.now c.in-Err-end_of_text.error
    (end_right c.args.bytes.now c.lines.rest.now c.lines.reader c.lines.history c.in-Err-end_of_text.error c.lines.invariant c.in-None.ensures c.in-Err-end_of_text.ensures.refused c.in-Err-end_of_text.ensures.going)

pub returns-in-None-clause-found : goal.returns-in-None-clause-found
returns-in-None-clause-found c =
    (read_whole c.args.bytes.now c.lines.rest.now c.lines.reader c.lines.history c.lines.invariant c.in_default-end_of_text.ensures.whole c.in_default-end_of_text.ensures.over).1

pub returns-in-None-clause-fits : goal.returns-in-None-clause-fits
returns-in-None-clause-fits c =
    (read_whole c.args.bytes.now c.lines.rest.now c.lines.reader c.lines.history c.lines.invariant c.in_default-end_of_text.ensures.whole c.in_default-end_of_text.ensures.over).0

pub returns-in-None-clause-only : goal.returns-in-None-clause-only
returns-in-None-clause-only c =
    let read = read_whole c.args.bytes.now c.lines.rest.now c.lines.reader c.lines.history c.lines.invariant c.in_default-end_of_text.ensures.whole c.in_default-end_of_text.ensures.over in
    λ es fits same. text_is_one c.lines.history es read.0 fits (sym read.1 ∙ same)
