use Rattle.std.proofs.Common.{◌≡◌, ◌∙◌, map}
use Rattle.std.specs.String.{string_bytes}
use Rattle.std.proofs.lemmas.Result.{IfOk-weaker}
use Rattle.ca_run_command.proofs.MetLemmas.{met-in, refused-in}
use Rattle.ca_run_command.specs.declared.command.WordsError.TheVariants as errors
use Rattle.clap.specs.Words.{app_of}
use Rattle.ca_run_command.proofs.line.command_of.Goals as goal

pub returns-in-Err-clause-usage : goal.returns-in-Err-clause-usage
returns-in-Err-clause-usage c = λ usage. refused-in (app_of c.in_ok-line.line) (map string_bytes c.args.words.now) c.in-Err.error c.kind.result c.refusal.result c.in_ok-line.ensures
    c.in-Err.ensures.kinds c.kind.ensures c.refusal.ensures (let same : c.refusal.result ≡ errors.Usage = cc in same)

pub returns-clause-ok : goal.returns-clause-ok
returns-clause-ok c = IfOk-weaker c.named.result _ _
    (λ command met. met-in (app_of c.in_ok-line.line) (map string_bytes c.args.words.now) c.in-Ok.matches c.in_ok-line.ensures c.in-Ok.ensures.matches c.in-Ok.ensures.kinds ∙ met)
    c.named.ensures.ok

pub returns-clause-usage : goal.returns-clause-usage
returns-clause-usage c = λ usage. met-in (app_of c.in_ok-line.line) (map string_bytes c.args.words.now) c.in-Ok.matches c.in_ok-line.ensures c.in-Ok.ensures.matches c.in-Ok.ensures.kinds
    ∙ c.named.ensures.usage usage
