use Rattle.geo_chain.proofs.lines.next_line_known.Given as goal

abbrev pub ghosts-next_line_in : goal.ghosts-next_line_in
ghosts-next_line_in a = record { name = a.blank.name; parts = a.blank.parts }
