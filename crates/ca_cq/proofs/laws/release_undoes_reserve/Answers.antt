use Rattle.ca_cq.proofs.KeptRooms.{latest-first, latest-last, release-undoes}
use Rattle.ca_cq.proofs.laws.release_undoes_reserve.Goals as goal

pub returns-clause-one : goal.returns-clause-one
returns-clause-one c = release-undoes

pub returns-clause-latest_first : goal.returns-clause-latest_first
returns-clause-latest_first c = latest-first

pub returns-clause-latest_last : goal.returns-clause-latest_last
returns-clause-latest_last c = latest-last
