use Rattle.std.proofs.Common.{subst, sym}
use Rattle.ca_isolation.specs.Alone.{writes_of}
use Rattle.ca_isolation.proofs.PutLemmas.{when-ok}
use Rattle.ca_isolation.proofs.stores.Stores.put_mark.Goals as goal
use Rattle.ca_isolation.specs.Cover.{covers}
use Rattle.ca_isolation.specs.Putting.{HasStored, stretches_of_writes}

pub returns-in-Remote : goal.returns-in-Remote
returns-in-Remote c = when-ok c.put_verdict.result
    (λ stored past are. subst (λ m. HasStored (stretches_of_writes (covers c.args.cover.now) (writes_of past m)) c.args.self.now c.put_verdict.new.self) (sym c.in-Remote.is) (stored past are))
    c.put_verdict.ensures

pub returns-in-Local : goal.returns-in-Local
returns-in-Local c = when-ok c.put_verdict-in-Local.result
    (λ stored past are. subst (λ m. HasStored (stretches_of_writes (covers c.args.cover.now) (writes_of past m)) c.args.self.now c.put_verdict-in-Local.new.self) (sym c.in-Local.is) (stored past are))
    c.put_verdict-in-Local.ensures
