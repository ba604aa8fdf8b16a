use Rattle.fraction_poly.proofs.multiplying.multiply_out_uncounted.Given as goal

abbrev pub ghosts-multiply_out_in : goal.ghosts-multiply_out_in
ghosts-multiply_out_in a = record { name = a.blank.name; parts = a.blank.parts }
