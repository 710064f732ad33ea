use Rattle.std.proofs.Common.{◌∙◌, ap, refl, sym, slice_get}
use Rattle.std.proofs.lemmas.Option.{slice_get_past, slice_get_read}
use Rattle.std.specs.Option.{option_copied}
use Rattle.ca_script_run.proofs.LineLemmas.{behind_nobody, behind_nothing, behind_some}
use Rattle.ca_script_run.proofs.visits.next_line.Goals as goal

pub returns-in_err-lines-clause-line : goal.returns-in_err-lines-clause-line
returns-in_err-lines-clause-line c =
    ap option_copied c.from_residual.ensures
    ∙ sym (behind_nobody c.args.script.now.consumers c.args.done.now c.args.consumer
    (ap (λ xs. slice_get xs c.args.consumer) (sym c.as_slice.ensures) ∙ slice_get_past c.as_slice.result.now c.args.consumer c.in_err-lines.ensures.lookup.3))

pub returns-in_err-passed-clause-line : goal.returns-in_err-passed-clause-line
returns-in_err-passed-clause-line c =
    ap option_copied c.from_residual-in_err-passed.ensures
    ∙ sym (behind_nothing c.args.script.now.consumers c.args.done.now c.args.consumer (slice_get_past c.args.done.now c.args.consumer c.in_err-passed.ensures.lookup.3))

pub returns-clause-line : goal.returns-clause-line
returns-clause-line c =
    c.line_at.ensures.line ∙ ap (λ xs. slice_get xs c.in_ok-passed.passed.now) c.as_slice-2.ensures
    ∙ sym (behind_some c.args.script.now.consumers c.args.done.now c.args.consumer c.in_ok-lines.lines.now c.in_ok-passed.passed.now
    (ap (λ xs. slice_get xs c.args.consumer) (sym c.as_slice.ensures)
    ∙ slice_get_read c.as_slice.result.now _ c.args.consumer c.in_ok-lines.lines.now refl c.in_ok-lines.ensures.lookup.3.0 c.in_ok-lines.ensures.lookup.1)
    (slice_get_read c.args.done.now _ c.args.consumer c.in_ok-passed.passed.now refl c.in_ok-passed.ensures.lookup.3.0 c.in_ok-passed.ensures.lookup.1))
