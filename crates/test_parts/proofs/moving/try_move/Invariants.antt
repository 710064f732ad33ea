use Rattle.std.proofs.Common.{[], ◌∷◌}
use Rattle.test_parts.proofs.moving.try_move.Given as goal

abbrev pub ghost-mark : goal.ghost-mark
ghost-mark a = (a._made, (a._from.now.part, a._from.now.value) ∷ (a._to.now.part, a._to.now.value) ∷ [])
