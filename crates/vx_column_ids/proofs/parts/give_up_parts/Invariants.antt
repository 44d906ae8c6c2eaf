use Rattle.vx_column_ids.proofs.parts.give_up_parts.Given as goal

abbrev pub decreases-loop-part : goal.decreases-loop-part
decreases-loop-part l = goal.left-loop-part l
