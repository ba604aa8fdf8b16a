use Rattle.log_checker.proofs.moving.move_result.Given as goal

abbrev pub ghosts-move_result_in : goal.ghosts-move_result_in
ghosts-move_result_in a = record { name = a.blank.name; parts = a.blank.parts }
