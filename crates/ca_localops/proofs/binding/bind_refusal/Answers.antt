use Rattle.std.proofs.Common.{sym, ap, ◌∙◌}
use Rattle.std.specs.Option.{option_copied, option_map}
use Rattle.ca_base.specs.declared.refusals.OpRefusal.TheVariants.{Window}
use Rattle.ca_base.specs.objects.Window.{bind1_refusals, bind2_refusals}
use Rattle.ca_localops.proofs.Refused.{first-of-window}
use Rattle.ca_localops.proofs.binding.bind_refusal.Goals as goal

pub returns-in-Some : goal.returns-in-Some
returns-in-Some c =
    let b = c.args.b.now in
    rw (c.in-Type1.is, c.in-Some.is) (
    c.of_window.ensures ∙ ap (option_map Window) c.bind1_refusal.ensures
    ∙ sym (first-of-window (bind1_refusals (option_copied c.args.view) b.address b.length b.rights c.args.w.now)))

pub returns-in-Type2 : goal.returns-in-Type2
returns-in-Type2 c =
    let b = c.args.b.now in
    rw c.in-Type2.is (
    c.of_window-in-Type2.ensures ∙ ap (option_map Window) c.bind2_refusal.ensures
    ∙ sym (first-of-window (bind2_refusals (option_copied c.args.view) b.address b.length b.rights c.args.w.now)))
