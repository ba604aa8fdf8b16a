use Rattle.poly_tests.proofs.polynomials.replacements_stand_in_a_callers_arena.Given as goal

abbrev pub ghosts-replacement_in_arena : goal.ghosts-replacement_in_arena
ghosts-replacement_in_arena g a = record { name = a.blank.name; parts = a.blank.parts }
