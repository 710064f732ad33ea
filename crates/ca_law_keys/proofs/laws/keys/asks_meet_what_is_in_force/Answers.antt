use Rattle.std.proofs.Common.{ap}
use Rattle.ca_law_keys.proofs.Keys.SightLemmas.{grant-seen}
use Rattle.ca_law_keys.proofs.laws.keys.asks_meet_what_is_in_force.Goals as goal
use Rattle.ca_base.specs.Sight.{denial_by_grant, runs_by_grant}
use Rattle.ca_keys.specs.Memory.{bytes_at}

pub returns-clause-grant : goal.returns-clause-grant
returns-clause-grant c = λ c past w ask sound placed agree. grant-seen c w past.grants ask sound placed agree.keys

pub returns-clause-denial : goal.returns-clause-denial
returns-clause-denial c = λ c past w ask sound placed agree. ap (denial_by_grant ask) (grant-seen c w past.grants ask sound placed agree.keys)

pub returns-clause-bytes : goal.returns-clause-bytes
returns-clause-bytes c = λ c past w ask sound placed agree i. bytes_at (agree.bytes i) (runs_by_grant ask (grant-seen c w past.grants ask sound placed agree.keys i))
