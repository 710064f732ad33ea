use Rattle.std.proofs.Common.{rules, arith, ◌≡◌, filter, not}
use Rattle.std.proofs.lemmas.Fn.{filter_same}
use Rattle.std.proofs.lemmas.Grind.{common_steps}
use Rattle.ca_base.specs.objects.CompletionQueue.{is_same_side}
use Rattle.ca_cq.proofs.cq.Cq.release.Goals as goal

pub returns : goal.returns
returns c =
    let kept : c.retain.new.self.items ≡ filter (λ r. not (is_same_side r.who c.args.who)) c.self.inside.reservations.items =
    filter_same _ _ _ (λ x b f' k. search rules) _ _ c.retain.ensures.filtered in
    grind (arith, common_steps, kept, c.self.view_is)
