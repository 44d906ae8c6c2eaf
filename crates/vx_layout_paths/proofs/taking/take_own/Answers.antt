use Rattle.vx_layout_paths.proofs.Steps.{own_more}
use Rattle.vx_layout_paths.proofs.taking.take_own.Goals as goal

pub loop-id-preserved : goal.loop-id-preserved
loop-id-preserved c =
    own_more c.args.ids.now c.loop-id.id-index _ c.args.paths.now c.loop-id.paths c.take_path.new.paths c.args.ordered.now c.loop-id.ordered c.take_path.new.ordered
    c.loop-id-test.true c.loop-id.invariant c.in_ok-take_path.ensures
