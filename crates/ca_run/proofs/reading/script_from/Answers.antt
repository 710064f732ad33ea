use Rattle.std.proofs.Common.{◌≡◌, Ok, subst, arith}
use Rattle.std.proofs.lemmas.Result.{IfOk-weaker}
use Rattle.ca_run.proofs.ReadLemmas.{is-read}
use Rattle.ca_script.specs.Script.{script_of, script_value}
use Rattle.ca_run.proofs.reading.script_from.Goals as goal

pub returns-clause-read : goal.returns-clause-read
returns-clause-read g c = IfOk-weaker c.read.result _ _
    (λ script means. is-read (g.S.Source.left c.args.source.now) (g.S.Source.left c.read_up_to.new.source) c.in_ok-bytes.bytes.items (script_value script) _ (omega arith)
    c.long_texts_are_refused_by_their_fronts.ensures.limit (subst (λ bytes. script_of bytes ≡ Ok (script_value script)) c.deref.ensures.value means)
    c.in_ok-bytes.ensures.all c.in_ok-bytes.ensures.end)
    c.read.ensures.means
