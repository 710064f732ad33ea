use Rattle.std.proofs.Common.{ap, sym, ◌∙◌}
use Rattle.ca_keys.specs.Memory.{places_count}
use Rattle.ca_base.specs.Sight.{runs_in}
use Rattle.ca_adapter_reach.specs.Laws.{bytes_count}
use Rattle.ca_adapter_reach.specs.Seen.{sight_of}
use Rattle.ca_adapter_reach.proofs.reach.ReachedReach.read.Goals as goal

pub returns-in_err-bytes-clause-count : goal.returns-in_err-bytes-clause-count
returns-in_err-bytes-clause-count c = λ allowed.
    bytes_count (sight_of c.args.self.now).byte (runs_in (sight_of c.args.self.now) c.args.ask.now)
    ∙ ap places_count (sym c.in-Ok.ensures.found.places)
    ∙ c.in-Ok.ensures.found.count
