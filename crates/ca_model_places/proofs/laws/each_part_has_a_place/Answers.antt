use Rattle.ca_model_places.proofs.AmongLemmas.{all-among, place-apart, place-below}
use Rattle.ca_model_places.proofs.NumberLemmas.{all-numbered}
use Rattle.ca_model_places.proofs.laws.each_part_has_a_place.Goals as goal

pub returns-clause-numbered : goal.returns-clause-numbered
returns-clause-numbered c = all-numbered

pub returns-clause-each : goal.returns-clause-each
returns-clause-each c = λ c p limited has. all-among c p has

pub returns-clause-below : goal.returns-clause-below
returns-clause-below c = place-below

pub returns-clause-apart : goal.returns-clause-apart
returns-clause-apart c = place-apart
