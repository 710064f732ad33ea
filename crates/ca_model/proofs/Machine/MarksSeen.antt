-- What examples of the machine's rows look for among marks: a drop, a denial, the statuses of completions. For proofs only.
use Rattle.std.proofs.Common.{List, [], ◌∷◌, Option, None, Some}
use Rattle.ca_keys.specs.declared.access.Denial.{Denial}
use Rattle.ca_base.specs.declared.completion.WcStatus.{WcStatus}
use Rattle.ca_keys.specs.declared.verdict.Verdict.TheVariants as verdicts
use Rattle.ca_model.specs.declared.mark.Drop1.{Drop1}
use Rattle.ca_model.specs.declared.mark.Mark.{Mark}
use Rattle.ca_model.specs.declared.mark.Mark.TheVariants as marks

-- why the first packet that is dropped is
abbrev pub drop_in : List Mark → Option Drop1
drop_in [] = None
drop_in (marks.Dropped queue cause ∷ ms) = Some cause
drop_in (m ∷ ms) = drop_in ms

-- the first denial of a remote or a local access
abbrev pub denial_in : List Mark → Option Denial
denial_in [] = None
denial_in (marks.Remote queue domain envelope key kind address count (verdicts.Denied denial) ∷ ms) = Some denial
denial_in (marks.Local queue domain key kind address count (verdicts.Denied denial) ∷ ms) = Some denial
denial_in (m ∷ ms) = denial_in ms

-- the statuses of completions, in order
abbrev pub statuses_in : List Mark → List WcStatus
statuses_in [] = []
statuses_in (marks.Done queue c cause ∷ ms) = c.status ∷ statuses_in ms
statuses_in (m ∷ ms) = statuses_in ms
