use Rattle.test_parts.proofs.tests.a_held_part_is_busy_and_the_part_beside_it_is_taken.Given as goal

abbrev pub ghost-take_one : goal.ghost-take_one
ghost-take_one g a = a._for_move
