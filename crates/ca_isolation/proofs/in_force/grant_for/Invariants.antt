use Rattle.std.proofs.Common.{◌≡◌, reverse, take}
use Rattle.std.specs.Option.{option_copied}
use Rattle.ca_keys.specs.Allowed.{grant_for}
use Rattle.ca_isolation.proofs.in_force.grant_for.Given as goal

abbrev pub invariant-loop-grant : goal.invariant-loop-grant
invariant-loop-grant l = option_copied l.latest ≡ grant_for l.ask (reverse (take l.grant-index l.in_force))
