use Rattle.vx_calls.proofs.finds.paths_are_found.Given as goal

abbrev pub ghosts-places : goal.ghosts-places
ghosts-places g a = record { name = a.blank.name; parts = a.blank.parts }
