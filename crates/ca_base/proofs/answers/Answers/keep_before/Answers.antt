use Rattle.std.proofs.Common.{rules, arith, ◌≡◌, filter, nat_lt}
use Rattle.std.proofs.lemmas.Fn.{filter_same}
use Rattle.std.proofs.lemmas.Grind.{common_steps}
use Rattle.ca_base.specs.objects.Answers.{psn_of_answer}
use Rattle.ca_base.proofs.answers.Answers.keep_before.Goals as goal

pub returns : goal.returns
returns c =
    let kept : c.retain.new.self.items ≡ filter (λ a. nat_lt (psn_of_answer a) c.args.psn) c.self.inside.items.items =
    filter_same _ _ _ (λ x b f' k. search rules) _ _ c.retain.ensures.filtered in
    grind (arith, common_steps, kept, c.self.view_is)
