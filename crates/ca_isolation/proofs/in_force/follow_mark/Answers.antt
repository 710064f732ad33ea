use Rattle.std.proofs.Common.{rules, ◌≡◌, ◌==◌, ◌&&◌, filter, not}
use Rattle.std.proofs.lemmas.Fn.{filter_same}
use Rattle.ca_keys.specs.Equal.{key_eq}
use Rattle.ca_isolation.proofs.FollowLemmas.{revoked}
use Rattle.ca_isolation.proofs.in_force.follow_mark.Goals as goal

pub returns-in-Revoked : goal.returns-in-Revoked
returns-in-Revoked c =
    let kept : c.retain.new.self.items ≡ filter (λ g. not ((g.domain.adapter == c.in-Revoked.adapter) && key_eq g.key c.in-Revoked.key)) c.args.in_force.now.items =
    filter_same _ _ _ (λ x b f' k. search rules) _ _ c.retain.ensures.filtered in
    λ past are. revoked c.in-Revoked.adapter c.in-Revoked.key c.args.in_force.now.items c.retain.new.self.items c.args.mark.now past c.in-Revoked.is kept are
