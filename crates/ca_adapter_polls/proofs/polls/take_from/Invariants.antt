use Rattle.std.proofs.Common.{◌≡◌}
use Rattle.ca_base.specs.objects.CompletionQueue.{after_polls}
use Rattle.ca_adapter_polls.proofs.polls.take_from.Given as goal

-- so many were taken
abbrev pub invariant-loop : goal.invariant-loop
invariant-loop l = l.cq ≡ after_polls l.counter l.fn.cq
