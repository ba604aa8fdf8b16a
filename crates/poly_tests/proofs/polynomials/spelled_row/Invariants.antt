use Rattle.poly_tests.proofs.polynomials.spelled_row.Given as goal

abbrev pub ghosts-spelled_replacement : goal.ghosts-spelled_replacement
ghosts-spelled_replacement a = record { name = a.blank.name; parts = a.blank.parts }
