use Rattle.elim_apply.proofs.starting.start_uncounted.Given as goal

abbrev pub ghosts-start_in : goal.ghosts-start_in
ghosts-start_in a = record { name = a.blank.name; parts = a.blank.parts }
