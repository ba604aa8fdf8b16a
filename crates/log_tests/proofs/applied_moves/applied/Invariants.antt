use Rattle.log_tests.proofs.applied_moves.applied.Given as goal

abbrev pub ghosts-applied_in : goal.ghosts-applied_in
ghosts-applied_in a = record { name = a.blank.name; parts = a.blank.parts }
