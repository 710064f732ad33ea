use Rattle.std.proofs.Common.{ap, ap₂, ◌≡◌, ◌∙◌, ◌||◌}
use Rattle.ca_run_command.specs.Words as spelled
use Rattle.clap.specs.Words.{App, app_of, new_app, with_rule, with_subcommand}
use Rattle.ca_run_command.proofs.line.with_text.Goals as goal

pub returns : goal.returns
returns c =
    let made : app_of c.in_ok-command.command ≡ with_rule (new_app c.args.name.now) (spelled.text_rule c.args.argument.now) =
    c.in_ok-command.ensures.shape c.text_of.ensures.local ∙ ap₂ with_rule c.new.ensures.app c.text_of.ensures.rule in
    c.in_ok-subcommand.ensures.shape (c.in_ok-command.ensures.globals ∙ ap₂ ◌||◌ c.new.ensures.local c.text_of.ensures.local) ∙ ap (λ (a : App). with_subcommand (app_of c.args.line) a.top) made
