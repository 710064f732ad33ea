use Rattle.std.proofs.Common.{◌≡◌, drop}
use Rattle.ca_adapter_parts.specs.HeldView.{holding}
use Rattle.ca_model.specs.machine.Frame.{AllPass}
use Rattle.ca_adapter_polls.specs.Polling.{CanFreeAll, after_freeing_all, places_of}
use Rattle.ca_adapter_polls.proofs.polls.free_all.Given as goal

-- what is freed so far, and then by the completions to come, is what all of them free
abbrev pub invariant-loop-completion : goal.invariant-loop-completion
invariant-loop-completion l =
    ((holding l.held).has ≡ (holding l.initial.held).has)
    × (((holding l.held).parts ≡ (holding l.initial.held).parts)
    × (((holding l.held).world.cq ≡ (holding l.initial.held).world.cq)
    × ((after_freeing_all l.slot ((holding l.initial.held).world.cq l.slot) (drop l.completion-index l.completions) (holding l.held).world
    ≡ after_freeing_all l.slot ((holding l.initial.held).world.cq l.slot) l.completions (holding l.initial.held).world)
    × (CanFreeAll l.slot ((holding l.initial.held).world.cq l.slot) (drop l.completion-index l.completions) (holding l.held).world
    × AllPass (holding l.initial.held).has (places_of l.slot ((holding l.initial.held).world.cq l.slot) (drop l.completion-index l.completions))))))
