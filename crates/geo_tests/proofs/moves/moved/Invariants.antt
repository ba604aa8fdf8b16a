use Rattle.geo_tests.proofs.moves.moved.Given as goal

abbrev pub ghosts-moved_in : goal.ghosts-moved_in
ghosts-moved_in a = record { name = a.blank.name; parts = a.blank.parts }
