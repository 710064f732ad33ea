use Rattle.std.proofs.Common.{[], Option, None, ◌==◌, if◌then◌else◌, ap}
use Rattle.std.specs.Option.{option_map_or}
use Rattle.ca_keys.specs.declared.grant.Grant.{Grant}
use Rattle.ca_keys.specs.Allowed.{denial_under}
use Rattle.ca_keys.specs.Memory.{runs_at}
use Rattle.ca_grant.proofs.Slots.{grant-in-slot}
use Rattle.ca_grant.proofs.law.judged_by_slot.Goals as goal

pub returns-clause-denial : goal.returns-clause-denial
returns-clause-denial c = λ ask grants apart. ap (λ (g : Option Grant). if ask.length == 0 then None else denial_under ask g) (grant-in-slot ask grants apart)

pub returns-clause-places : goal.returns-clause-places
returns-clause-places c = λ ask grants count apart.
    ap (λ (g : Option Grant). option_map_or (λ (g : Grant). runs_at g ask.address count) g []) (grant-in-slot ask grants apart)
