use Rattle.std.proofs.Common.{◌∙◌, ap, sym, subst, slice_get}
use Rattle.ca_script_order.specs.Order.{lines_of}
use Rattle.ca_script.specs.Script.{script_value}
use Rattle.ca_script_run.proofs.KnownLemmas.{same_known}
use Rattle.ca_script_run.proofs.VisitLemmas.{Stands, stands_before}
use Rattle.ca_script_run.specs.Known.{KeepsKnown}
use Rattle.ca_script_run.specs.Progress.{lines_behind}
use Rattle.ca_script_run.proofs.visits.visit_consumer.Goals as goal

pub returns-in-Verb-clause-visited : goal.returns-in-Verb-clause-visited
returns-in-Verb-clause-visited c = λ g at.
    let st : Stands (script_value c.args.script.now) g c.args.consumer c.in-Some.line.now =
    stands_before (script_value c.args.script.now) g c.args.progress.now c.args.consumer c.in-Some.line.now at
    (ap (λ done. slice_get (lines_of c.args.consumer (lines_behind c.args.script.now.consumers done)) 0) (sym c.as_slice.ensures.value) ∙ sym c.in-Some.ensures.line)
    in c.call.ensures.visited (script_value c.args.script.now) g c.in-Some.line.now st.rest at st.is c.in-Verb.is

pub returns-in-At-clause-visited : goal.returns-in-At-clause-visited
returns-in-At-clause-visited c = λ g at.
    let st : Stands (script_value c.args.script.now) g c.args.consumer c.in-Some.line.now =
    stands_before (script_value c.args.script.now) g c.args.progress.now c.args.consumer c.in-Some.line.now at
    (ap (λ done. slice_get (lines_of c.args.consumer (lines_behind c.args.script.now.consumers done)) 0) (sym c.as_slice.ensures.value) ∙ sym c.in-Some.ensures.line)
    in c.wait.ensures.visited (script_value c.args.script.now) g c.in-Some.line.now st.rest at st.is c.in-At.is

pub returns-in-At-clause-known : goal.returns-in-At-clause-known
returns-in-At-clause-known c = λ round. subst (λ r. KeepsKnown round c.args.progress.now.row r c.args.known.now c.args.known.now) (sym c.wait.ensures.row)
    (same_known round c.args.progress.now.row c.args.known.now)

pub returns-in_default-clause-known : goal.returns-in_default-clause-known
returns-in_default-clause-known c = λ round. same_known round c.args.progress.now.row c.args.known.now
