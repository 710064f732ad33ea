use Rattle.ca_law_scripts.proofs.Rest.ScriptLemmas.{script-rests, text-rests}
use Rattle.ca_law_scripts.proofs.laws.rest.scripts_come_to_rest.Goals as goal

pub returns : goal.returns
returns c = record { texts = text-rests; scripts = script-rests }
