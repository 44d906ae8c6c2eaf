use Rattle.vx_calls.proofs.bytes.the_total_is_what_seats_hold.Given as goal

abbrev pub ghosts-reserved : goal.ghosts-reserved
ghosts-reserved g a = record { name = a.blank.name; parts = a.blank.parts }
