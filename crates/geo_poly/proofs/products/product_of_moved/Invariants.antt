use Rattle.geo_poly.proofs.products.product_of_moved.Given as goal

abbrev pub ghosts-product_list : goal.ghosts-product_list
ghosts-product_list a = record { name = a.blank.name; parts = a.blank.parts }
