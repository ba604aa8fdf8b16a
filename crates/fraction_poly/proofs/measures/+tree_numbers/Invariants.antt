use Rattle.fraction_poly.proofs.measures.+tree_numbers.Given as goal

abbrev pub decreases-tree_numbers : goal.decreases-tree_numbers
decreases-tree_numbers l = l.depth
