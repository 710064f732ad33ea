use Rattle.std.proofs.Common.{◌≡◌, drop}
use Rattle.ca_base.specs.objects.Saved.{saved_at}
use Rattle.ca_saved.proofs.saved.Saved.find.Given as goal

-- the results that were passed have other PSNs
abbrev pub invariant-loop-result : goal.invariant-loop-result
invariant-loop-result l = saved_at l.psn (drop l.result-index l.result-items) ≡ saved_at l.fn.psn l.fn.self
