use Rattle.geo_poly.proofs.poly.Poly.mul_chain.Given as goal

abbrev pub ghosts-chained_product : goal.ghosts-chained_product
ghosts-chained_product a = record { name = a.blank.name; parts = a.blank.parts }
