use Rattle.std.proofs.Common.{rules, length, reverse, subst}
use Rattle.ca_isolation.specs.Alone.{cells_of}
use Rattle.ca_keys.specs.Memory.{cut}
use Rattle.ca_isolation.proofs.PutLemmas.{when-ok}
use Rattle.ca_isolation.proofs.RunLemmas.{access-stored}
use Rattle.ca_isolation.proofs.stores.Stores.put_access.Goals as goal
use Rattle.ca_isolation.specs.Cover.{covers}
use Rattle.ca_isolation.specs.Putting.{HasPut}

pub returns-in_ok-put_runs-in-Some : goal.returns-in_ok-put_runs-in-Some
returns-in_ok-put_runs-in-Some c = when-ok c.end.result
    (λ stored. access-stored (covers c.args.cover.now) c.args.ask.now (reverse c.args.in_force.now) c.in-Some.grant.now c.args.bytes.now c.saturating_sub-before.result c.args.self.now c.put_runs.new.self c.end.new.self
    (search rules) (search rules) c.requires.front
    (subst (λ rs. HasPut (covers c.args.cover.now) (cells_of (cut c.saturating_sub-before.result (length c.args.bytes.now) rs) c.args.bytes.now) c.args.self.now c.put_runs.new.self) c.as_slice.ensures c.in_ok-put_runs-in-Some.ensures) stored)
    c.end.ensures
