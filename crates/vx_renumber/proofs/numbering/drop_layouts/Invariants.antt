use Rattle.vx_renumber.proofs.numbering.drop_layouts.Given as goal

abbrev pub decreases-loop-layout : goal.decreases-loop-layout
decreases-loop-layout l = goal.left-loop-layout l
