use Rattle.std.proofs.Common.{◌+◌, ◌*◌, ℕ, ap}
use Rattle.ca_script_seed.proofs.MadeLemmas.{active_is}
use Rattle.ca_script_seed.proofs.script.active.Goals as goal

pub returns : goal.returns
returns c =
    active_is c.args.seed c.args.domain (5 + 407 * c.from.result) c.in_ok-lines.lines.items c.add_requests.new.lines.items c.from-2.result
    (ap (λ (d : ℕ). 5 + 407 * d) c.from.ensures) c.in_ok-lines.ensures c.in_ok-add_requests.ensures c.from-2.ensures
