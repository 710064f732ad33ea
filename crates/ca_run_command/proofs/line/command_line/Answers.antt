use Rattle.std.proofs.Common.{rules, ap, ap₂, subst, ◌≡◌, ◌∙◌, codes, IfOk}
use Rattle.ca_run_command.specs.Words as spelled
use Rattle.clap.specs.Words.{App, app_of, new_app, with_subcommand}
use Rattle.ca_run_command.proofs.line.command_line.Goals as goal

pub returns : goal.returns
returns c =
    let bare_is : app_of c.subcommand_required.result ≡ spelled.bare_line = search rules in
    let script_is : app_of c.in_ok-line.line ≡ with_subcommand spelled.bare_line (new_app (codes "script")).top =
    c.in_ok-line.ensures.shape c.new-2.ensures.local ∙ ap₂ with_subcommand bare_is (ap (λ (a : App). a.top) c.new-2.ensures.app) in
    let race_is : app_of c.in_ok-line-2.line ≡ spelled.with_text (with_subcommand spelled.bare_line (new_app (codes "script")).top) (codes "race") (codes "workers") =
    c.in_ok-line-2.ensures ∙ ap (λ (a : App). spelled.with_text a (codes "race") (codes "workers")) script_is in
    subst (λ (a : App). IfOk c.with_text-3.result (λ line. app_of line ≡ spelled.with_text a (codes "make") (codes "seed")))
    (c.in_ok-line-3.ensures ∙ ap (λ (a : App). spelled.with_text a (codes "alone") (codes "group")) race_is) c.with_text-3.ensures
