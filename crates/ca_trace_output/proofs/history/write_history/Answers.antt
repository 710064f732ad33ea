use Rattle.std.proofs.Common.{◌≡◌, ◌∙◌, ◌+◌, ◌++◌, [], ap, sym, subst, length, take, arith}
use Rattle.std.proofs.KnownBytes.{Appends-trans}
use Rattle.std.proofs.lemmas.Grind.{common_steps}
use Rattle.std.proofs.lemmas.List.{append-nil, append_assoc}
use Rattle.std.specs.Io.KnownBytes.{Appends}
use Rattle.ca_outside.specs.Outside.{AppendsPart}
use Rattle.ca_trace.specs.Trace.{end_text, text}
use Rattle.ca_trace_output.proofs.WrittenLemmas.{front-taken, lines_of, on-err, part-taken, rest-some, rest_of, text-of, text-split}
use Rattle.ca_trace_output.proofs.history.write_history.Goals as goal

-- src/history.rt:31:9
pub returns-in_err-print-clause-err : goal.returns-in_err-print-clause-err
returns-in_err-print-clause-err g c =
    let i = c.loop-entry.entry-index in
    let entries = c.as_slice-entries.result.now in
    let is : text c.args.h.now ≡ (c.loop-entry.invariant.front ++ c.loop-entry.waiting.items) ++ rest_of i entries =
    text-split entries c.args.h.now i c.as_slice-entries.ensures.entries ∙ ap (λ ls. ls ++ rest_of i entries) (sym c.loop-entry.invariant.lines) in
    on-err _ (front-taken _ _ _ _ _ _ is (rest-some i entries) c.loop-entry.invariant.took)

-- src/history.rt:32:9
pub returns-in_err-pass_on-clause-err : goal.returns-in_err-pass_on-clause-err
returns-in_err-pass_on-clause-err g c =
    let i = c.loop-entry.entry-index in
    let entries = c.as_slice-entries.result.now in
    let lines : c.loop-entry.invariant.front ++ c.print.new.out.items ≡ lines_of (take (i + 1) entries) = grind (arith, common_steps, c.print.ensures.ok, c.loop-entry.invariant.lines) in
    let is : text c.args.h.now ≡ (c.loop-entry.invariant.front ++ c.print.new.out.items) ++ rest_of (i + 1) entries =
    text-split entries c.args.h.now (i + 1) c.as_slice-entries.ensures.entries ∙ ap (λ ls. ls ++ rest_of (i + 1) entries) (sym lines) in
    on-err _ (part-taken _ _ _ _ _ _ _ is c.loop-entry.invariant.took c.in_err-pass_on.ensures.err)

-- src/history.rt:30:5
pub loop-entry-preserved : goal.loop-entry-preserved
loop-entry-preserved g c =
    let i = c.loop-entry.entry-index in
    let entries = c.as_slice-entries.result.now in
    let front = c.loop-entry.invariant.front in
    let passed = c.in_ok-pass_on.ensures.ok in
    let lines : front ++ c.print.new.out.items ≡ lines_of (take (i + 1) entries) = grind (arith, common_steps, c.print.ensures.ok, c.loop-entry.invariant.lines) in
    record {
      front = front ++ passed.0;
      lines = append_assoc front passed.0 c.pass_on.new.waiting.items ∙ ap (λ bs. front ++ bs) (sym passed.1) ∙ lines;
      took = Appends-trans _ _ _ front passed.0 c.loop-entry.invariant.took passed.2;
      kept = c.in_ok-pass_on.ensures.cause.kept ∙ c.loop-entry.invariant.kept;
    }

-- src/history.rt:34:5
pub returns-in_err-print_end-clause-err : goal.returns-in_err-print_end-clause-err
returns-in_err-print_end-clause-err g c =
    let i = c.loop-entry.entry-index in
    let entries = c.as_slice-entries.result.now in
    let is : text c.args.h.now ≡ (c.loop-entry.invariant.front ++ c.loop-entry.waiting.items) ++ rest_of i entries =
    text-split entries c.args.h.now i c.as_slice-entries.ensures.entries ∙ ap (λ ls. ls ++ rest_of i entries) (sym c.loop-entry.invariant.lines) in
    on-err _ (front-taken _ _ _ _ _ _ is (rest-some i entries) c.loop-entry.invariant.took)

-- src/history.rt:35:5
pub returns-in_err-write_all-clause-err : goal.returns-in_err-write_all-clause-err
returns-in_err-write_all-clause-err g c =
    let entries = c.as_slice-entries.result.now in
    let front = c.loop-entry.invariant.front in
    let lines : front ++ c.loop-entry.waiting.items ≡ lines_of entries = grind (arith, common_steps, c.loop-entry.invariant.lines) in
    let whole : text c.args.h.now ≡ front ++ c.print_end.new.out.items =
    text-of entries c.args.h.now c.as_slice-entries.ensures.entries ∙ ap (λ ls. ls ++ end_text (length entries)) (sym lines) ∙ grind (arith, common_steps, c.in_ok-print_end.ensures) in
    on-err _ (part-taken _ _ _ _ front c.print_end.new.out.items [] (whole ∙ sym (append-nil _)) c.loop-entry.invariant.took
    (subst (AppendsPart _ _) c.deref.ensures.value c.in_err-write_all.ensures.err))

-- src/history.rt:18:1
pub returns-clause-ok : goal.returns-clause-ok
returns-clause-ok g c =
    let entries = c.as_slice-entries.result.now in
    let front = c.loop-entry.invariant.front in
    let lines : front ++ c.loop-entry.waiting.items ≡ lines_of entries = grind (arith, common_steps, c.loop-entry.invariant.lines) in
    let whole : text c.args.h.now ≡ front ++ c.print_end.new.out.items =
    text-of entries c.args.h.now c.as_slice-entries.ensures.entries ∙ ap (λ ls. ls ++ end_text (length entries)) (sym lines) ∙ grind (arith, common_steps, c.in_ok-print_end.ensures) in
    subst (Appends _ _) (sym whole) (Appends-trans _ _ _ front c.print_end.new.out.items c.loop-entry.invariant.took (subst (Appends _ _) c.deref.ensures.value c.in_ok-write_all.ensures.ok))
