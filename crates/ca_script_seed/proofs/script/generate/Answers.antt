use Rattle.std.proofs.Common.{map}
use Rattle.ca_base.specs.Configuration.{adapter_of}
use Rattle.ca_script_seed.proofs.MadeLemmas.{script_is}
use Rattle.ca_script_seed.proofs.script.generate.Goals as goal

pub returns : goal.returns
returns c =
    script_is c.args.seed (map adapter_of c.adapters.result.items) c.new-consumers.result.items c.add_active.new.consumers.items c.add_passive.new.consumers.items c.from.result
    c.adapters.ensures c.new-consumers.ensures.items c.in_ok-add_active.ensures c.in_ok-add_passive.ensures c.from.ensures
